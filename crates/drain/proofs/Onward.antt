-- The drain under way: what it has taken and written so far, and what is left of its budget, give what the definition
-- gives.
use mathlib.Core.Path.{◌≡◌, refl, ap, sym, subst, ◌∙◌}
use mathlib.Core.List.{List, [], ◌∷◌, ◌++◌, append-nil, append_assoc, flat_map}
use mathlib.Core.Bool.{Bool, true, false}
use Prim.Native.Nat.{ℕ, zero, suc, ◌+◌, ◌-◌, ◌*◌, ◌≤◌, ◌<◌, min}
use native.Mathlib.Nat.{zero-add}
use native.Mathlib.Omega.{arith}
use lib.Dec.{T}
use lib.ListN.{length, length-append}
use lib.Seq.{sets, length-sets}
use borrow.Author.Tests.{le-leb}
use Rattle.lists.proofs.Counts.{flat_append}
use Rattle.lists.proofs.Stores.{sets_append}
use Rattle.numbers.specs.Groups.{Put, put_to}
use Rattle.model.specs.Drain.{tries, accepts, quiet, Choice, chosen, next_step, further, drained, drain_gives, drain_of}
use Rattle.model.specs.declared.System.{System}
use Rattle.model.specs.declared.After.{After}
use Rattle.model.specs.declared.Step.{Step}
use Rattle.model.specs.declared.Answer.TheVariants.{Nothing}
use Rattle.model.specs.Given.{most_bytes}
use Rattle.model.specs.Limits.{most_drain}
use Rattle.model.specs.Sound.{sound}
use Rattle.model.specs.Steps.{step_of}
use Rattle.model.specs.Record.{step_bytes, steps_bytes, Written, written, write_step, past_of}
use Rattle.promises.proofs.Sound.{Sound}
use Rattle.promises.proofs.Room.{the_limits}
use Rattle.promises.proofs.Public.{step_sizes}
use Rattle.promises.proofs.Potential.{potential, potential_most}
use Rattle.promises.proofs.Writes.{written_at_lem}
use Rattle.promises.proofs.Drain.{try_of, Next, goes_on, rests, next, is_none, quiet_next, two_bytes, try_short, try_falls}
use Rattle.steps.proofs.Visits.{sound_open}
use Rattle.steps.proofs.Again.{sound_again}
use Rattle.drain.specs.Search.{standing}
use Rattle.drain.specs.Search.{first_by}
use Rattle.drain.proofs.Standing.{choice_of, found_next}
use Rattle.std.specs.Prelude.{Option, Some, None, Ok}
use Rattle.std.specs.Result.{IsOk}
use Rattle.model.specs.Results.{Wrote}

-- A STEP WRITTEN

past_at : (x : Step) (buf : List ℕ) (at : ℕ) → at + length (step_bytes x) ≤ most_bytes → at + length (step_bytes x) ≤ length buf →
    write_step x buf at ≡ written (Ok (at + length (step_bytes x))) (sets buf at (step_bytes x))
unfolding write_step
past_at x buf at m l = written_at_lem (step_bytes x) buf at m l

module _ (x : Step) (buf : List ℕ) (at : ℕ) (m : at + length (step_bytes x) ≤ most_bytes) (l : at + length (step_bytes x) ≤ length buf) where
  module _ {w : Wrote} {after : List ℕ} (e : written w after ≡ write_step x buf at) where
    wrote : written w after ≡ written (Ok (at + length (step_bytes x))) (sets buf at (step_bytes x))
    wrote = e ∙ past_at x buf at m l

    pub is_written : IsOk w
    is_written = rw (ap (λ (a : Written). a.wrote) wrote) refl

    pub put_past : {past : ℕ} → w ≡ Ok past → put_to past after ≡ put_to (at + length (step_bytes x)) (sets buf at (step_bytes x))
    put_past {past} q =
        let p : past ≡ at + length (step_bytes x) = ap past_of (sym q ∙ ap (λ (a : Written). a.wrote) wrote) in
        rw (p, ap (λ (a : Written). a.buffer) wrote)

one_more-bytes : (xs : List Step) (x : Step) → steps_bytes (xs ++ (x ∷ [])) ≡ steps_bytes xs ++ step_bytes x
unfolding flat_map
one_more-bytes xs x = flat_append step_bytes xs (x ∷ []) ∙ ap (λ (l : List ℕ). steps_bytes xs ++ l) (append-nil (step_bytes x))

-- THE DRAIN UNDER WAY

-- some steps have been taken from s, and t is reached: what a drain of the rest of the budget gives from t completes
-- what it gives from s
pub record Onward (s : System) (budget : ℕ) (lent : List ℕ) (t : System) (count at : ℕ) (buf : List ℕ) : Type 0 where
  pub begun : sound s ≡ true
  pub room : 2 * min budget most_drain ≤ length lent
  pub steps : List Step
  pub so_far : drained budget s ≡ record { steps = steps ++ (drained (budget - count) t).steps; state = (drained (budget - count) t).state }
  pub keeps : sound t ≡ true
  pub sizes : t.sizes ≡ s.sizes
  pub within : count ≤ budget
  pub counted : length steps ≡ count
  -- Each step lowers the potential, so that there are no more than 656; and it takes no more than two bytes.
  pub falls : count + potential t ≤ potential s
  pub short : at ≤ 2 * count
  pub length_at : length (steps_bytes steps) ≡ at
  pub bytes : buf ≡ sets lent 0 (steps_bytes steps)

pub start : (s : System) (budget : ℕ) (buf : List ℕ) → sound s ≡ true → 2 * min budget most_drain ≤ length buf → Onward s budget buf s 0 0 buf
unfolding flat_map
start s budget buf h k = record {
  begun = h;
  room = k;
  steps = [];
  so_far = let e : budget - 0 ≡ budget = omega arith in rw e;
  keeps = h;
  sizes = refl;
  within = omega arith;
  counted = refl;
  falls = omega arith;
  short = omega arith;
  length_at = refl;
  bytes = refl;
}

module _ {s : System} {budget : ℕ} {lent : List ℕ} {t : System} {count at : ℕ} {buf : List ℕ} (r : Onward s budget lent t count at buf) where
  pub length_kept : length buf ≡ length lent
  length_kept = ap length r.bytes ∙ length-sets lent 0 (steps_bytes r.steps)

  safe : Sound t
  safe = sound_open t r.keeps

  -- WHERE NO STEP IS LEFT, OR NONE OF THE BUDGET

  ended : drained budget s ≡ record { steps = r.steps; state = t } → {q : Bool} → quiet t ≡ q →
      drain_gives (record { outcome = Ok Nothing; count = count; quiet = q; length = at; system = t }) buf ≡ drain_of s budget lent
  unfolding drain_of
  ended e p = rw (r.begun, le-leb (2 * min budget most_drain) (length lent) r.room, e, r.counted, r.length_at, r.bytes, p)

  module _ {found : Option Step} (f : found ≡ first_by (standing t) (tries t.sizes.sites)) where
    next_is : (c : Option Step) → found ≡ c → next_step t ≡ choice_of t c
    next_is c g =
        found_next t safe f ∙ ap (choice_of t) g

    -- nothing can be taken
    pub rested : found ≡ None →
        drain_gives (record { outcome = Ok Nothing; count = count; quiet = true; length = at; system = t }) buf ≡ drain_of s budget lent
    unfolding drained
    rested g = ended (r.so_far ∙ rw (none_more (budget - count), append-nil)) (quiet_next t safe ∙ ap is_none (next_is None g))
      where
        none_more : (m : ℕ) → drained m t ≡ record { steps = []; state = t }
        none_more zero = refl
        none_more (suc m) = rw (next_is None g, drained)

    module _ {x : Step} (g : found ≡ Some x) where
      abbrev after : System
      after = (step_of t x).system

      -- a step could be taken, but the budget is reached
      pub spent : count ≡ budget →
          drain_gives (record { outcome = Ok Nothing; count = count; quiet = false; length = at; system = t }) buf ≡ drain_of s budget lent
      unfolding drained
      spent q =
          let z : budget - count ≡ 0 = omega arith in
          ended (r.so_far ∙ rw (z, append-nil)) (quiet_next t safe ∙ ap is_none (next_is (Some x) g))

      -- ONE STEP MORE

      -- it is one of the tries, and accepted
      taken : T (try_of t x) × T (accepts t x)
      taken = go (next_step t) (next t safe) (next_is (Some x) g)
        where
          go : (c : Choice) → Next t c → c ≡ chosen x after → T (try_of t x) × T (accepts t x)
          go c (goes_on y m a) q = let p : y ≡ x = cc in (rw p at m, rw p at a)
          go c (rests q) p = absurd (subst (λ (y : Choice). T (is_none y)) p tt)

      lower : potential after + 1 ≤ potential t
      lower = try_falls t safe x taken.0 taken.1

      in_two : length (step_bytes x) ≤ 2
      in_two = two_bytes x (try_short t.sizes.sites (the_limits t safe).sites_most x taken.0)

      left : (count ≡ budget → ⊥) → count < budget
      left l = omega (arith, r.within, l)

      -- it has room in what the drain asked for
      pub has_place : (count ≡ budget → ⊥) → (at + length (step_bytes x) ≤ most_bytes) × (at + length (step_bytes x) ≤ length buf)
      has_place l =
          let most : at + length (step_bytes x) ≤ 2 * min budget most_drain =
          omega (arith, left l, lower, in_two, r.falls, r.short, potential_most s (sound_open s r.begun)) in
          (omega (arith, most), omega (arith, most, r.room, length_kept))

      turned : (m : ℕ) → drained (suc m) t ≡ further x (drained m after)
      unfolding drained
      turned m = rw (next_is (Some x) g, drained)

      on : count < budget → Onward s budget lent after (count + 1) (at + length (step_bytes x)) (sets buf at (step_bytes x))
      on l =
          let rest : budget - count ≡ suc (budget - (count + 1)) = omega arith in
          record {
            begun = r.begun;
            room = r.room;
            steps = r.steps ++ (x ∷ []);
            so_far = r.so_far ∙ rw (rest, turned (budget - (count + 1)), append_assoc r.steps (x ∷ []));
            keeps = sound_again t x r.keeps;
            sizes = step_sizes t safe x ∙ r.sizes;
            within = omega arith;
            counted = omega (arith, length-append r.steps (x ∷ []), r.counted);
            falls = omega (arith, lower, r.falls);
            short = omega (arith, in_two, r.short);
            length_at = rw (one_more-bytes r.steps x) (omega (arith, length-append (steps_bytes r.steps) (step_bytes x), r.length_at));
            bytes = rw (one_more-bytes r.steps x, sets_append (steps_bytes r.steps) (step_bytes x) lent 0, r.length_at, zero-add, r.bytes);
          }

      pub further_on : (count ≡ budget → ⊥) → {past : ℕ} {bs : List ℕ} →
          put_to past bs ≡ put_to (at + length (step_bytes x)) (sets buf at (step_bytes x)) → {a : After} → a ≡ step_of t x →
          Onward s budget lent a.system (count + 1) past bs
      further_on l p q = rw (ap (λ (w : Put). w.past) p, ap (λ (w : Put). w.buffer) p, q) (on (left l))
