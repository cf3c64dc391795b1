-- The drain: each step that it takes is accepted and no issue, its steps lead to the state that it leaves, and that state is quiet unless the budget is spent.
use mathlib.Core.Path.{◌≡◌, refl, ap, ◌∙◌}
use mathlib.Core.List.{List, [], ◌∷◌, flat_map}
use mathlib.Core.Bool.{Bool, true, false, ◌&&◌}
use Prim.Native.Nat.{ℕ, zero, suc, ◌+◌, ◌*◌, ◌≤◌, ◌<◌, min}
use native.Mathlib.Omega.{arith}
use lib.Dec.{T, leb, ltb, ltb→lt, lt→ltb, le→leb, not_T, T_not}
use lib.ListN.{length, length-append}
use borrow.Author.Tests.{le-leb}
use Rattle.lists.specs.Places.{each}
use Rattle.lists.proofs.Tests.{and_l, and_r, both, by_cond, ind_T, T_true, F_false}
use Rattle.lists.proofs.Counts.{each_map}
use Rattle.numbers.proofs.Grouped.{bytes_last}
use Rattle.model.specs.declared.System.{System}
use Rattle.model.specs.declared.After.{After}
use Rattle.model.specs.declared.Step.{Step}
use Rattle.model.specs.declared.Step.TheVariants.{Issue, Retry, Send, ArriveMemory, Serve, SendBack, ArriveSite, Take}
use Rattle.model.specs.Limits.{most_drain}
use Rattle.model.specs.Steps.{step_of}
use Rattle.model.specs.Record.{most_number, bytes_of_all, numbers_of, step_bytes, steps_bytes}
use Rattle.model.specs.Drain.{accepts, quiet, tries, Choice, chosen, none, first_of, next_step, Taken, further, drained}
use Rattle.promises.specs.Reading.{recordable}
use Rattle.promises.specs.Runs.{after_run, accepted, is_move}
use Rattle.promises.proofs.Sound.{Sound}
use Rattle.promises.proofs.Room.{the_limits}
use Rattle.promises.proofs.Public.{stepped-sound}
use Rattle.promises.proofs.Kept.{kept}
use Rattle.promises.proofs.Potential.{potential, potential_most}
use Rattle.promises.proofs.Bound.{moves_fall}
use Rattle.promises.proofs.Named.{named, named_move, tries_named}
use Rattle.promises.proofs.Quiet.{denies, quiet_all, tries-quiet}

-- THE STEP THAT IT TAKES NEXT

-- what the choice can be: a step of the list that is accepted, and passes what each step of the list does; or none, and all are refused
data Pick (s : System) (f : Step → Bool) (xs : List Step) : Choice → Type 0 where
  picked : (x : Step) → T (f x) → T (accepts s x) → Pick s f xs (chosen x (step_of s x).system)
  unpicked : T (each (denies s) xs) → Pick s f xs none

pick : (s : System) (f : Step → Bool) (xs : List Step) → T (each f xs) → Pick s f xs (first_of s xs)
unfolding each first_of
pick s f [] t = unpicked tt
pick s f (x ∷ xs) t =
    by_cond (λ (c : Choice). Pick s f (x ∷ xs) c) (accepts s x) _ _ (λ a. picked x (and_l (f x) _ t) a)
    (λ a. go a (first_of s xs) (pick s f xs (and_r (f x) _ t)))
  where
    go : T (denies s x) → (c : Choice) → Pick s f xs c → Pick s f (x ∷ xs) c
    go a c (picked y u v) = picked y u v
    go a c (unpicked u) = unpicked (both (denies s x) _ a u)

-- a step of a site of the system, or of position 0
abbrev pub try_of : System → Step → Bool
try_of s x = named s.sizes.sites 1 1 x

-- what can come next in a sound state
pub data Next (s : System) : Choice → Type 0 where
  goes_on : (x : Step) → T (try_of s x) → T (accepts s x) → Next s (chosen x (step_of s x).system)
  rests : T (quiet s) → Next s none

pub next : (s : System) → Sound s → Next s (next_step s)
next s h = go (next_step s) (pick s (try_of s) (tries s.sizes.sites) (tries_named s.sizes.sites))
  where
    go : (c : Choice) → Pick s (try_of s) (tries s.sizes.sites) c → Next s c
    go c (picked x k a) = goes_on x k a
    go c (unpicked t) = rests (tries-quiet s h t)

-- no step is next
abbrev pub is_none : Choice → Bool
is_none (chosen x t) = false
is_none none = true

-- quiet is: no step is next
pub quiet_next : (s : System) → Sound s → quiet s ≡ is_none (next_step s)
quiet_next s h = go (next_step s) (next s h)
  where
    go : (c : Choice) → Next s c → quiet s ≡ is_none c
    go c (goes_on x k a) =
        F_false (quiet s) (not_T (quiet s) (λ q. T_not (accepts s x) (quiet_all s h q x (named_move s.sizes.sites 1 1 x k)) a))
    go c (rests q) = T_true (quiet s) q

-- ITS BYTES

-- numbers of one byte each
abbrev pub small : List ℕ → Bool
small vs = each (λ v. ltb v 128) vs

small_bytes : (vs : List ℕ) → T (small vs) → length (bytes_of_all vs) ≡ length vs
unfolding flat_map each
small_bytes [] t = refl
small_bytes (v ∷ vs) t = rw (bytes_last v (ltb→lt v 128 (and_l (ltb v 128) _ t)), small_bytes vs (and_r (ltb v 128) _ t))

-- at most two such numbers
pub record Short (vs : List ℕ) : Type 0 where
  pub most : length vs ≤ 2
  pub bytes : T (small vs)

two_numbers : (k v : ℕ) → T (ltb k 128) → v < 128 → Short (k ∷ v ∷ [])
unfolding each
two_numbers k v t l = record { most = omega arith; bytes = both (ltb k 128) _ t (both (ltb v 128) true (lt→ltb v 128 l) tt) }

-- as a try has
pub try_short : (n : ℕ) → n ≤ 4 → (x : Step) → T (named n 1 1 x) → Short (numbers_of x)
unfolding named numbers_of each
try_short n l (Issue i t m) k = absurd k
try_short n l (Retry i) k = two_numbers 1 i tt (omega (arith, ltb→lt i n k))
try_short n l (Send i) k = two_numbers 2 i tt (omega (arith, ltb→lt i n k))
try_short n l (ArriveMemory p) k = two_numbers 3 p tt (omega (arith, ltb→lt p 1 k))
try_short n l Serve k = record { most = omega arith; bytes = tt }
try_short n l SendBack k = record { most = omega arith; bytes = tt }
try_short n l (ArriveSite p) k = two_numbers 6 p tt (omega (arith, ltb→lt p 1 k))
try_short n l (Take i) k = two_numbers 7 i tt (omega (arith, ltb→lt i n k))

pub two_bytes : (x : Step) → Short (numbers_of x) → length (step_bytes x) ≤ 2
two_bytes x r = omega (arith, small_bytes (numbers_of x) r.bytes, r.most)

short-recordable : (x : Step) → Short (numbers_of x) → T (recordable x)
short-recordable x r =
    each_map (λ v. ltb v 128) (λ v. leb v most_number) (λ v t. le→leb v most_number (omega (arith, ltb→lt v 128 t))) (numbers_of x) r.bytes

-- THE STEPS TAKEN

-- with a budget, from a state: the steps, and the state that is left
pub data Drains : ℕ → System → Taken → Type 0 where
  spent : (s : System) → Drains 0 s (record { steps = []; state = s })
  stops : (b : ℕ) (s : System) → T (quiet s) → Drains (suc b) s (record { steps = []; state = s })
  takes : (b : ℕ) (s : System) (x : Step) (d : Taken) → T (try_of s x) → T (accepts s x) → Drains b (step_of s x).system d → Drains (suc b) s (further x d)

-- WHAT IT LEAVES

pub record Leaves (b : ℕ) (s : System) (d : Taken) : Type 0 where
  -- no more steps than the budget, and quiet where they do not reach it
  pub most : length d.steps ≤ b
  pub short : length d.steps < b → T (quiet d.state)
  -- a sound state, to which the steps lead one after the other, each of them accepted and no issue
  pub keeps : Sound d.state
  pub leads : after_run s d.steps ≡ d.state
  pub taken : accepted is_move s d.steps ≡ length d.steps
  -- steps that a record has, in two bytes each at most
  pub written : T (each recordable d.steps)
  pub bytes : length (steps_bytes d.steps) ≤ 2 * length d.steps

none-taken : (b : ℕ) (s : System) → Sound s → (0 < b → T (quiet s)) → Leaves b s (record { steps = []; state = s })
unfolding after_run accepted flat_map each
none-taken b s h q = record { most = omega arith; short = q; keeps = h; leads = refl; taken = refl; written = tt; bytes = omega arith }

one_more_lem : (b : ℕ) (s : System) → Sound s → (x : Step) (d : Taken) → T (try_of s x) → T (accepts s x) → Leaves b (step_of s x).system d →
    Leaves (suc b) s (further x d)
unfolding after_run accepted flat_map each
one_more_lem b s h x d k a r =
    let two : Short (numbers_of x) = try_short s.sizes.sites (the_limits s h).sites_most x k in
    record {
      most = omega arith;
      short = λ l. r.short (omega arith);
      keeps = r.keeps;
      leads = ap (λ (q : After). after_run q.system d.steps) (stepped-sound s h x) ∙ r.leads;
      taken =
          rw (stepped-sound s h x) (omega (arith, ind_T (accepts s x && is_move x) (both (accepts s x) _ a (named_move s.sizes.sites 1 1 x k)), r.taken));
      written = both (recordable x) _ (short-recordable x two) r.written;
      bytes = omega (arith, length-append (step_bytes x) (steps_bytes d.steps), two_bytes x two, r.bytes);
    }

pub drains : (b : ℕ) (s : System) → Sound s → Drains b s (drained b s)
unfolding drained
drains zero s h = spent s
drains (suc b) s h = go (next_step s) (next s h) (λ x. drains b (step_of s x).system (kept s h x))
  where
    go : (c : Choice) → Next s c → ((x : Step) → Drains b (step_of s x).system (drained b (step_of s x).system)) →
        Drains (suc b) s (elim c as (λ (y : Choice). Taken) [ chosen x t ↦ further x (drained b t) | none ↦ record { steps = []; state = s } ])
    go c (goes_on x k a) r = takes b s x (drained b (step_of s x).system) k a (r x)
    go c (rests q) r = stops b s q

leaves : (b : ℕ) (s : System) (d : Taken) → Sound s → Drains b s d → Leaves b s d
leaves b s d h (spent t) = none-taken 0 t h (λ l. absurd (omega (arith, l)))
leaves b s d h (stops c t q) = none-taken (suc c) t h (λ l. q)
leaves b s d h (takes c t x e k a r) = one_more_lem c t h x e k a (leaves c (step_of t x).system e (kept t h x) r)

pub drained_leaves : (b : ℕ) (s : System) → Sound s → Leaves b s (drained b s)
drained_leaves b s h = leaves b s (drained b s) h (drains b s h)

-- QUIET, where the budget is no less than the potential, which each step lowers

pub try_falls : (s : System) → Sound s → (x : Step) → T (try_of s x) → T (accepts s x) → potential (step_of s x).system + 1 ≤ potential s
try_falls s h x k a = moves_fall s h x (named_move s.sizes.sites 1 1 x k) a

lowest_quiet : (s : System) → Sound s → potential s ≤ 0 → T (quiet s)
lowest_quiet s h l = go (next_step s) (next s h)
  where
    go : (c : Choice) → Next s c → T (quiet s)
    go c (goes_on x k a) = absurd (omega (arith, l, try_falls s h x k a))
    go c (rests q) = q

drains-quiet : (b : ℕ) (s : System) (d : Taken) → Sound s → Drains b s d → potential s ≤ b → T (quiet d.state)
drains-quiet b s d h (spent t) l = lowest_quiet t h l
drains-quiet b s d h (stops c t q) l = q
drains-quiet b s d h (takes c t x e k a r) l = drains-quiet c (step_of t x).system e (kept t h x) r (omega (arith, l, try_falls t h x k a))

drains_potential : (b : ℕ) (s : System) (d : Taken) → Sound s → Drains b s d → length d.steps ≤ potential s
drains_potential b s d h (spent t) = omega arith
drains_potential b s d h (stops c t q) = omega arith
drains_potential b s d h (takes c t x e k a r) = omega (arith, drains_potential c (step_of t x).system e (kept t h x) r, try_falls t h x k a)

pub drained-quiet : (b : ℕ) (s : System) → Sound s → potential s ≤ b → T (quiet (drained b s).state)
drained-quiet b s h l = drains-quiet b s (drained b s) h (drains b s h) l

pub drained_potential : (b : ℕ) (s : System) → Sound s → length (drained b s).steps ≤ potential s
drained_potential b s h = drains_potential b s (drained b s) h (drains b s h)

-- Drain 5: 656 steps suffice
pub drained_always : (b : ℕ) (s : System) → Sound s → most_drain ≤ b → T (quiet (drained b s).state)
drained_always b s h l = drained-quiet b s h (omega (arith, l, potential_most s h))

-- twice 656 bytes are room enough, whatever the budget
pub room_always : (b room : ℕ) → 2 * most_drain ≤ room → leb (2 * min b most_drain) room ≡ true
room_always b room k = le-leb (2 * min b most_drain) room (omega arith)

-- its bytes fit the buffer that it asks for
pub drained-bytes : (b : ℕ) (s : System) → Sound s → length (steps_bytes (drained b s).steps) ≤ 2 * min b most_drain
drained-bytes b s h = omega (arith, (drained_leaves b s h).bytes, (drained_leaves b s h).most, drained_potential b s h, potential_most s h)
