-- The search, one try at a time: what was passed over leaves the first of the rest.
use mathlib.Core.Path.{◌≡◌, refl, ap, sym, ◌∙◌}
use mathlib.Core.List.{List, [], ◌∷◌, ◌++◌, map, append-nil}
use mathlib.Core.Bool.{Bool, true, false, not}
use Prim.Native.Nat.{ℕ, zero, suc, ◌+◌, ◌≤◌, ◌<◌}
use native.Mathlib.Numerals.{add-one}
use native.Mathlib.Omega.{arith}
use lib.ListN.{get_or}
use lib.Dec.{T, eqb, eqb→eq, ltb, leb, ltb→lt, nltb→le, le→leb}
use Rattle.lists.specs.Places.{all_below, up_from, each, all_of}
use Rattle.lists.proofs.Tests.{and_l, and_r, both, by_test, cond_T, cond_F}
use Rattle.lists.proofs.Below.{below_at, below_turn}
use Rattle.lists.proofs.Counts.{each_append, each-all_of, each-up, up-all_of}
use Rattle.model.specs.declared.Step.{Step}
use Rattle.model.specs.Record.{move_of}
use Rattle.model.specs.Drain.{kind_at, steps_of_kind, tries}
use Rattle.promises.proofs.Readers.{each_kind}
use Rattle.drain.specs.Search.{first_by, width_of}
use Rattle.std.specs.Prelude.{Option, Some, None}

abbrev is_none : Option Step → Bool
is_none (Some x) = false
is_none None = true

module _ (f : Step → Bool) where
  -- passed over
  abbrev pub fails : Step → Bool
  fails x = not (f x)

  -- LISTS ONE BEHIND THE OTHER

  pub first_skip : (xs ys : List Step) → T (each fails xs) → first_by f (xs ++ ys) ≡ first_by f ys
  unfolding each first_by
  first_skip [] ys t = refl
  first_skip (x ∷ xs) ys t = cond_F (f x) _ _ (and_l (fails x) _ t) ∙ first_skip xs ys (and_r (fails x) _ t)

  first_none : (xs : List Step) → T (each fails xs) → first_by f xs ≡ None
  unfolding first_by
  first_none xs t = ap (first_by f) (sym (append-nil xs)) ∙ first_skip xs [] t

  pub none_each : (xs : List Step) → T (is_none (first_by f xs)) → T (each fails xs)
  unfolding each first_by
  none_each [] t = tt
  none_each (x ∷ xs) t =
      by_test (f x) (λ u. absurd (rw (cond_T (f x) (Some x) (first_by f xs) u) at t))
      (λ u. both (fails x) _ u (none_each xs (rw (cond_F (f x) (Some x) (first_by f xs) u) at t)))

  pub first_stays : (xs ys : List Step) {x : Step} → first_by f xs ≡ Some x → first_by f (xs ++ ys) ≡ Some x
  unfolding first_by
  first_stays [] ys e = cc
  first_stays (y ∷ xs) ys {x} e =
      by_test (f y) (λ t. cond_T (f y) _ _ t ∙ rw (cond_T (f y) (Some y) (first_by f xs) t) at e)
      (λ t. cond_F (f y) _ _ t ∙ first_stays xs ys (rw (cond_F (f y) (Some y) (first_by f xs) t) at e))

  -- the lists before the one at j have none
  first_all_of : (n : ℕ) (g : ℕ → List Step) (j : ℕ) {x : Step} → j < n → T (each fails (all_of j g)) → first_by f (g j) ≡ Some x →
      first_by f (all_of n g) ≡ Some x
  unfolding all_of
  first_all_of zero g j l t e = absurd (omega (arith, l))
  first_all_of (suc n) g j {x} l t e =
      by_test (ltb j n) (λ k. first_stays (all_of n g) (g n) (first_all_of n g j (ltb→lt j n k) t e))
      (λ k. let j≡n : j ≡ n = omega (arith, nltb→le j n k) in
      first_skip (all_of n g) (g n) (rw j≡n at t) ∙ rw j≡n at e)

  first_up : (h : ℕ → Step) (n i : ℕ) → i < n → T (all_below i (λ m. fails (h m))) → T (f (h i)) → first_by f (map h (up_from 0 n)) ≡ Some (h i)
  unfolding first_by each
  first_up h n i l t u =
      ap (first_by f) (up-all_of h n) ∙
      first_all_of n (λ m. h m ∷ []) i l (each-all_of fails i (λ m. h m ∷ []) (λ m k. both (fails (h m)) _ (below_at i (λ a. fails (h a)) t m k) tt))
      (cond_T (f (h i)) _ _ u)

-- ONE KIND

-- the steps of a kind, by their sites or positions
kind_listed : (n k : ℕ) → 1 ≤ k → T (leb k 7) → steps_of_kind n k ≡ map (move_of k) (up_from 0 (width_of n k))
unfolding steps_of_kind move_of up_from
kind_listed n k l t =
    each_kind (λ k. 1 ≤ k → steps_of_kind n k ≡ map (move_of k) (up_from 0 (width_of n k))) (λ m. absurd (omega (arith, m))) (λ m. refl) (λ m. refl)
    (λ m. refl) (λ m. refl) (λ m. refl) (λ m. refl) (λ m. refl) k t l

-- THE SEARCH

-- the kinds in the drain's order
abbrev pub kinds : List ℕ
kinds = 7 ∷ 6 ∷ 5 ∷ 4 ∷ 3 ∷ 2 ∷ 1 ∷ []

pub kind_in : (turn : ℕ) → turn < 7 → get_or kinds turn 0 ≡ kind_at turn
unfolding all_below
kind_in turn l = eqb→eq (get_or kinds turn 0) (kind_at turn) (below_at 7 (λ j. eqb (get_or kinds j 0) (kind_at j)) tt turn l)

module _ (f : Step → Bool) (n : ℕ) where
  -- the tries of the first turns are passed over
  abbrev pub Passed : ℕ → Type 0
  Passed turn = T (each (fails f) (all_of turn (λ j. steps_of_kind n (kind_at j))))

  -- those of a kind with the first sites are passed over
  abbrev pub PassedSites : ℕ → ℕ → Type 0
  PassedSites kind site = T (all_below site (λ m. fails f (move_of kind m)))

  pub no_turns : Passed 0
  unfolding all_of each
  no_turns = tt

  pub no_sites : (kind : ℕ) → PassedSites kind 0
  unfolding all_below
  no_sites kind = tt

  pub next_site : (kind site : ℕ) → PassedSites kind site → f (move_of kind site) ≡ false → PassedSites kind (site + 1)
  next_site kind site t e =
      rw (below_turn site (λ m. fails f (move_of kind m))) (both (all_below site (λ m. fails f (move_of kind m))) _ t (rw e tt))

  module _ {turn kind tried : ℕ} (l : turn < 7) (k : kind ≡ kind_at turn) (w : tried ≡ width_of n kind) where
    listed : steps_of_kind n (kind_at turn) ≡ map (move_of kind) (up_from 0 tried)
    listed = rw (w, k) (kind_listed n (kind_at turn) (omega arith) (le→leb (kind_at turn) 7 (omega arith)))

    pub next_turn : Passed turn → {site : ℕ} → tried ≤ site → PassedSites kind site → Passed (turn + 1)
    unfolding all_of
    next_turn t {site} m u =
        rw add-one
        (each_append (fails f) (all_of turn (λ j. steps_of_kind n (kind_at j))) _ t
        (rw listed (each-up (fails f) (move_of kind) tried (λ i h. below_at site (λ m. fails f (move_of kind m)) u i (omega arith)))))

    pub found_here : Passed turn → {site : ℕ} → site < tried → PassedSites kind site → f (move_of kind site) ≡ true →
        first_by f (tries n) ≡ Some (move_of kind site)
    unfolding tries
    found_here t {site} m u e =
        first_all_of f 7 (λ j. steps_of_kind n (kind_at j)) turn l t (ap (first_by f) listed ∙ first_up f (move_of kind) tried site m u (rw e tt))

  pub none_found : (turn : ℕ) → turn ≡ 7 → Passed turn → first_by f (tries n) ≡ None
  unfolding tries
  none_found turn e t = first_none f (tries n) (rw e at t)

-- what is passed over, turn by turn and site by site
pub ruleset turns = (no_turns, no_sites, next_site, next_turn, none_found, kind_in)
