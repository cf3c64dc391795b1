-- Which steps the candidates and the drain's tries are: those other than issues that name a site or a position below a bound.
use mathlib.Core.Path.{◌≡◌, refl, subst}
use mathlib.Core.List.Memᴰ
use mathlib.Core.List.{List, ◌∷◌, ◌++◌, map, Memᴰ}
use mathlib.Core.Bool.{Bool, true, false}
use Prim.Native.Nat.{ℕ, ◌+◌, ◌-◌, ◌≤◌, ◌<◌}
use native.Mathlib.Omega.{arith}
use lib.Dec.{T, ltb, eqb, ltb→lt, lt→ltb}
use Rattle.lists.specs.Places.{ind, sum_below, up_from, count, each, all_of}
use Rattle.lists.proofs.Tests.{by_cond}
use Rattle.lists.proofs.Counts.{count-append, count-up, each_append, each-all_of, each-up, mem_up, mem_all_of}
use Rattle.model.specs.declared.Step.{Step}
use Rattle.model.specs.declared.Step.TheVariants.{Issue, Retry, Send, ArriveMemory, Serve, SendBack, ArriveSite, Take}
use Rattle.model.specs.Drain.{candidates, kind_at, steps_of_kind, tries}
use Rattle.promises.specs.Runs.{issues, is_move}

-- the step is no issue, and names a site below n, a position below u of the up network, or one below d of the down network
unfoldable pub named : ℕ → ℕ → ℕ → Step → Bool
named n u d (Issue i t m) = false
named n u d (Retry i) = ltb i n
named n u d (Send i) = ltb i n
named n u d (ArriveMemory p) = ltb p u
named n u d Serve = true
named n u d SendBack = true
named n u d (ArriveSite p) = ltb p d
named n u d (Take i) = ltb i n

module _ (n u d : ℕ) where
  pub named_move : (x : Step) → T (named n u d x) → T (is_move x)
  unfolding named issues
  named_move (Issue i t m) k = absurd k
  named_move (Retry i) k = tt
  named_move (Send i) k = tt
  named_move (ArriveMemory p) k = tt
  named_move Serve k = tt
  named_move SendBack k = tt
  named_move (ArriveSite p) k = tt
  named_move (Take i) k = tt

  -- CANDIDATES

  abbrev retries : List Step
  retries = map Retry (up_from 0 n)

  abbrev sends : List Step
  sends = map Send (up_from 0 n)

  abbrev takes : List Step
  takes = map Take (up_from 0 n)

  abbrev ups : List Step
  ups = map ArriveMemory (up_from 0 u)

  abbrev downs : List Step
  downs = map ArriveSite (up_from 0 d)

  abbrev rest : List Step
  rest = Serve ∷ SendBack ∷ (ups ++ downs)

  of_rest : {x : Step} → Memᴰ x rest → Memᴰ x (candidates n u d)
  unfolding candidates
  of_rest m = Memᴰ.append_right retries (Memᴰ.append_right sends (Memᴰ.append_right takes m))

  -- each named step is a candidate
  pub candidate : (x : Step) → T (named n u d x) → Memᴰ x (candidates n u d)
  unfolding named candidates
  candidate (Issue i t m) k = absurd k
  candidate (Retry i) k = Memᴰ.append_left _ (mem_up Retry n i (ltb→lt i n k))
  candidate (Send i) k = Memᴰ.append_right retries (Memᴰ.append_left _ (mem_up Send n i (ltb→lt i n k)))
  candidate (ArriveMemory p) k = of_rest (Memᴰ.tail (Memᴰ.tail (Memᴰ.append_left downs (mem_up ArriveMemory u p (ltb→lt p u k)))))
  candidate Serve k = of_rest (Memᴰ.head refl)
  candidate SendBack k = of_rest (Memᴰ.tail (Memᴰ.head refl))
  candidate (ArriveSite p) k = of_rest (Memᴰ.tail (Memᴰ.tail (Memᴰ.append_right ups (mem_up ArriveSite d p (ltb→lt p d k)))))
  candidate (Take i) k = Memᴰ.append_right retries (Memᴰ.append_right sends (Memᴰ.append_left _ (mem_up Take n i (ltb→lt i n k))))

  -- and each candidate is named
  pub candidates_named : T (each (named n u d) (candidates n u d))
  unfolding named candidates each
  candidates_named =
      let f : Step → Bool = named n u d in
      each_append f retries _ (each-up f Retry n (λ i l. lt→ltb i n l))
      (each_append f sends _ (each-up f Send n (λ i l. lt→ltb i n l))
      (each_append f takes _ (each-up f Take n (λ i l. lt→ltb i n l))
      (each_append f ups downs (each-up f ArriveMemory u (λ i l. lt→ltb i u l)) (each-up f ArriveSite d (λ i l. lt→ltb i d l)))))

  -- how many pass a test: kind by kind
  pub count-candidates : (f : Step → Bool) →
      count f (candidates n u d) ≡
      sum_below n (λ i. ind (f (Retry i))) + sum_below n (λ i. ind (f (Send i))) + sum_below n (λ i. ind (f (Take i))) +
      ind (f Serve) + ind (f SendBack) + sum_below u (λ p. ind (f (ArriveMemory p))) + sum_below d (λ p. ind (f (ArriveSite p)))
  unfolding candidates count
  count-candidates f =
      omega (
        arith,
        count-append f retries (sends ++ (takes ++ rest)),
        count-append f sends (takes ++ rest),
        count-append f takes rest,
        count-append f ups downs,
        count-up f Retry n,
        count-up f Send n,
        count-up f Take n,
        count-up f ArriveMemory u,
        count-up f ArriveSite d,
      )

-- TRIES

module _ (n : ℕ) where
  -- the first m turns try the kinds above 7 - m
  pub tried_kind : {x : Step} (m k : ℕ) → 7 < m + k → k ≤ 7 → Memᴰ x (steps_of_kind n k) → Memᴰ x (all_of m (λ j. steps_of_kind n (kind_at j)))
  tried_kind {x} m k l h e =
      mem_all_of m (λ j. steps_of_kind n (kind_at j)) (7 - k) (omega arith) (subst (λ (c : ℕ). Memᴰ x (steps_of_kind n c)) (omega arith) e)

  -- the drain tries each step that names a site of the system, or position 0
  pub tried : (x : Step) → T (named n 1 1 x) → Memᴰ x (tries n)
  unfolding named steps_of_kind up_from tries
  tried (Issue i t m) k = absurd k
  tried (Retry i) k = tried_kind 7 1 (omega arith) (omega arith) (mem_up Retry n i (ltb→lt i n k))
  tried (Send i) k = tried_kind 7 2 (omega arith) (omega arith) (mem_up Send n i (ltb→lt i n k))
  tried (ArriveMemory p) k = tried_kind 7 3 (omega arith) (omega arith) (mem_up ArriveMemory 1 p (ltb→lt p 1 k))
  tried Serve k = tried_kind 7 4 (omega arith) (omega arith) (Memᴰ.head refl)
  tried SendBack k = tried_kind 7 5 (omega arith) (omega arith) (Memᴰ.head refl)
  tried (ArriveSite p) k = tried_kind 7 6 (omega arith) (omega arith) (mem_up ArriveSite 1 p (ltb→lt p 1 k))
  tried (Take i) k = tried_kind 7 7 (omega arith) (omega arith) (mem_up Take n i (ltb→lt i n k))

  kind_named : (k : ℕ) → T (each (named n 1 1) (steps_of_kind n k))
  unfolding named steps_of_kind each
  kind_named k =
      by_cond E (eqb k 1) _ _ (λ t. each-up (named n 1 1) Retry n (λ i l. lt→ltb i n l))
      (λ t. by_cond E (eqb k 2) _ _ (λ t. each-up (named n 1 1) Send n (λ i l. lt→ltb i n l))
      (λ t. by_cond E (eqb k 3) _ _ (λ t. tt)
      (λ t. by_cond E (eqb k 4) _ _ (λ t. tt)
      (λ t. by_cond E (eqb k 5) _ _ (λ t. tt)
      (λ t. by_cond E (eqb k 6) _ _ (λ t. tt) (λ t. each-up (named n 1 1) Take n (λ i l. lt→ltb i n l)))))))
    where
      E : List Step → Type 0
      E xs = T (each (named n 1 1) xs)

  -- and no others
  pub tries_named : T (each (named n 1 1) (tries n))
  unfolding tries
  tries_named = each-all_of (named n 1 1) 7 (λ j. steps_of_kind n (kind_at j)) (λ j l. kind_named (kind_at j))
