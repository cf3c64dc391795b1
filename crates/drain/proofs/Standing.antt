-- The first try where something stands is the first that is accepted. A retry alone may be refused there; but it is
-- tried last, when no message is under way, so that nothing pends and its instruction need not wait.
use mathlib.Core.Path.{◌≡◌, refl, ap, sym, ◌∙◌}
use mathlib.Core.List.{List, [], ◌∷◌, ◌++◌, Memᴰ}
use mathlib.Core.Bool.{Bool, true, ◌&&◌}
use Prim.Native.Nat.{ℕ, ◌≤◌, ◌<◌}
use native.Mathlib.Omega.{arith}
use lib.Dec.{T, ltb, leb, ltb→lt, lt→ltb, nltb→le, le→leb}
use lib.ListN.{get_or}
use Rattle.lists.specs.Places.{each, all_of}
use Rattle.lists.proofs.Tests.{and_l, and_r, both, by_test, cond_T, cond_F, same_test}
use Rattle.lists.proofs.Counts.{each-all_of, each-up, mem_each, mem_up}
use Rattle.model.specs.declared.System.{System}
use Rattle.model.specs.declared.Step.{Step}
use Rattle.model.specs.declared.Step.TheVariants.{Issue, Retry, Send, ArriveMemory, Serve, SendBack, ArriveSite, Take}
use Rattle.model.specs.Parts.{site_at}
use Rattle.model.specs.Steps.{step_of}
use Rattle.model.specs.Record.{numbers_of}
use Rattle.model.specs.Drain.{accepts, kind_at, steps_of_kind, tries, Choice, chosen, none, first_of, next_step}
use Rattle.promises.proofs.Sound.{Sound}
use Rattle.promises.proofs.Readers.{each_kind}
use Rattle.promises.proofs.Named.{named, named_move, tried_kind}
use Rattle.promises.proofs.Choices.{stock, accepted_stock}
use Rattle.promises.proofs.Quiet.{Sure, granted, none-standing, none-pending}
use Rattle.drain.specs.Search.{first_by, standing}
use Rattle.drain.proofs.Tries.{fails, none_each, first_skip, first_stays}
use Rattle.std.specs.Prelude.{Option, Some, None}

-- TESTS THAT AGREE

module _ (f g : Step → Bool) where
  first_alike : (ok : Step → Bool) → ((x : Step) → T (ok x) → f x ≡ g x) → (xs : List Step) → T (each ok xs) → first_by f xs ≡ first_by g xs
  unfolding each first_by
  first_alike ok h [] t = refl
  first_alike ok h (x ∷ xs) t = rw (h x (and_l (ok x) _ t), first_alike ok h xs (and_r (ok x) _ t))

  -- behind some others, where none of those passes
  first_behind : (xs ys : List Step) → first_by f xs ≡ first_by g xs → (T (each (fails f) xs) → first_by f ys ≡ first_by g ys) →
      first_by f (xs ++ ys) ≡ first_by g (xs ++ ys)
  first_behind xs ys e h = go (first_by f xs) refl
    where
      go : (r : Option Step) → first_by f xs ≡ r → first_by f (xs ++ ys) ≡ first_by g (xs ++ ys)
      go (Some x) q = first_stays f xs ys q ∙ sym (first_stays g xs ys (sym e ∙ q))
      go None q =
          first_skip f xs ys (none_each f xs (rw q tt)) ∙ h (none_each f xs (rw q tt)) ∙ sym (first_skip g xs ys (none_each g xs (rw (← e, q) tt)))

-- the drain's choice where that step is found
abbrev pub choice_of : System → Option Step → Choice
choice_of s (Some x) = chosen x (step_of s x).system
choice_of s None = none

-- WHERE SOMETHING STANDS

module _ (s : System) (h : Sound s) where
  abbrev n : ℕ
  n = s.sizes.sites

  abbrev stands : Step → Bool
  stands = standing s

  sure_stands : (x : Step) → T (named n 1 1 x) → Sure s x → stands x ≡ accepts s x
  sure_stands x k u =
      same_test (ltb 0 (stock s x)) (accepts s x) (λ t. granted s h x k u (ltb→lt 0 (stock s x) t))
      (λ a. lt→ltb 0 (stock s x) (accepted_stock s h x (named_move n 1 1 x k) a))

  -- a retry is sure of its way where nothing pends, any other step anywhere
  sure_of : (x : Step) → T (named n 1 1 x) → ((i : ℕ) → i < n → x ≡ Retry i → (site_at s i).pends ≡ 0) → Sure s x
  unfolding named Sure
  sure_of (Issue i t m) k f = tt
  sure_of (Retry i) k f = f i (ltb→lt i n k) refl
  sure_of (Send i) k f = tt
  sure_of (ArriveMemory p) k f = tt
  sure_of Serve k f = tt
  sure_of SendBack k f = tt
  sure_of (ArriveSite p) k f = tt
  sure_of (Take i) k f = tt

  -- ALL BUT RETRIES

  abbrev kind : ℕ → List Step
  kind j = steps_of_kind n (kind_at j)

  -- the tries before the retries
  abbrev others : List Step
  others = all_of 6 kind

  -- a step past retry
  abbrev carries : Step → Bool
  carries x = named n 1 1 x && leb 2 (get_or (numbers_of x) 0 0)

  kind_carries : (k : ℕ) → T (leb k 7) → 2 ≤ k → T (each carries (steps_of_kind n k))
  unfolding steps_of_kind each named numbers_of
  kind_carries =
      let at : (i : ℕ) → i < n → T (ltb i n && true) = λ i l. both (ltb i n) true (lt→ltb i n l) tt in
      each_kind (λ k. 2 ≤ k → T (each carries (steps_of_kind n k))) (λ l. absurd (omega (arith, l))) (λ l. absurd (omega (arith, l)))
      (λ l. each-up carries Send n at) (λ l. tt) (λ l. tt) (λ l. tt) (λ l. tt) (λ l. each-up carries Take n at)

  others_alike : first_by stands others ≡ first_by (accepts s) others
  unfolding numbers_of
  others_alike =
      first_alike stands (accepts s) carries
      (λ x t. sure_stands x (and_l (named n 1 1 x) _ t) (sure_of x (and_l (named n 1 1 x) _ t) (λ i l e. absurd (rw e at (and_r (named n 1 1 x) _ t)))))
      others (each-all_of carries 6 kind (λ j l. kind_carries (kind_at j) (le→leb (kind_at j) 7 (omega arith)) (omega arith)))

  -- RETRIES

  module _ (t : T (each (fails stands) others)) where
    passed_empty : (x : Step) → T (named n 1 1 x) → Memᴰ x others → stock s x ≡ 0
    passed_empty x k m = omega (arith, nltb→le 0 (stock s x) (mem_each (fails stands) m t))

    nothing-pends : (i : ℕ) → i < n → (site_at s i).pends ≡ 0
    unfolding named stock steps_of_kind
    nothing-pends =
        none-pending s h
        (none-standing s h
        (λ i l. omega (
          arith,
          passed_empty (Take i) (lt→ltb i n l) (tried_kind n 6 7 (omega arith) (omega arith) (mem_up Take n i l)),
          passed_empty (Send i) (lt→ltb i n l) (tried_kind n 6 2 (omega arith) (omega arith) (mem_up Send n i l)),
        ))
        (omega (
          arith,
          passed_empty (ArriveSite 0) tt (tried_kind n 6 6 (omega arith) (omega arith) (Memᴰ.head refl)),
          passed_empty SendBack tt (tried_kind n 6 5 (omega arith) (omega arith) (Memᴰ.head refl)),
          passed_empty Serve tt (tried_kind n 6 4 (omega arith) (omega arith) (Memᴰ.head refl)),
          passed_empty (ArriveMemory 0) tt (tried_kind n 6 3 (omega arith) (omega arith) (Memᴰ.head refl)),
        )))

    retries_alike : first_by stands (kind 6) ≡ first_by (accepts s) (kind 6)
    unfolding steps_of_kind named
    retries_alike =
        first_alike stands (accepts s) (named n 1 1) (λ x k. sure_stands x k (sure_of x k (λ i l e. nothing-pends i l))) (kind 6)
        (each-up (named n 1 1) Retry n (λ i l. lt→ltb i n l))

  -- THE STEP THAT THE DRAIN TAKES NEXT

  first_accepted : (xs : List Step) → first_of s xs ≡ choice_of s (first_by (accepts s) xs)
  unfolding first_of first_by
  first_accepted [] = refl
  first_accepted (x ∷ xs) =
      by_test (accepts s x) (λ t. cond_T (accepts s x) _ _ t ∙ ap (choice_of s) (sym (cond_T (accepts s x) _ _ t)))
      (λ t. cond_F (accepts s x) _ _ t ∙ first_accepted xs ∙ ap (choice_of s) (sym (cond_F (accepts s x) _ _ t)))

  first_next : next_step s ≡ choice_of s (first_by stands (tries n))
  unfolding tries all_of
  first_next =
      first_accepted (tries n) ∙ ap (choice_of s) (sym (first_behind stands (accepts s) others (kind 6) others_alike retries_alike))

  pub found_next : {found : Option Step} → found ≡ first_by stands (tries n) → next_step s ≡ choice_of s found
  found_next f = first_next ∙ ap (choice_of s) (sym f)
