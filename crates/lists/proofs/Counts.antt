-- Laws of counting and testing the elements of lists, and of lists put one behind the other.
use mathlib.Core.Path.{◌≡◌, refl, ap, sym, ◌∙◌, subst}
use mathlib.Core.Logic.{⊎_elim}
use mathlib.Core.List.Memᴰ
use mathlib.Core.List.{List, [], ◌∷◌, ◌++◌, map, flat_map, append_assoc, Memᴰ}
use mathlib.Core.Bool.{Bool, true}
use Prim.Native.Nat.{ℕ, zero, suc, ◌+◌, ◌≤◌, ◌<◌}
use native.Mathlib.Nat.{not-suc-le-zero, le_of_suc-le-suc, eq-or-lt_of_le, add-zero, zero-add, suc-add, add-suc}
use native.Mathlib.Omega.{arith}
use lib.Dec.{T}
use lib.ListN.{length, get_or, take, drop}
use Rattle.lists.specs.Places.{ind, fits, weigh, tally, each_of, sum_below, up_from, count, each, some, all_of}
use Rattle.lists.proofs.Tests.{and_l, and_r, both, or_l, or_r, by_or, by_test, ind_T, ind_F, ind-most}
use Rattle.lists.proofs.Below.{sum_same}

module _ {A : Type 0} where
  pub count-append : (f : A → Bool) (xs ys : List A) → count f (xs ++ ys) ≡ count f xs + count f ys
  unfolding count
  count-append f [] ys = omega arith
  count-append f (x ∷ xs) ys = omega (arith, count-append f xs ys)

  pub count-all_of : (f : A → Bool) (n : ℕ) (g : ℕ → List A) → count f (all_of n g) ≡ sum_below n (λ i. count f (g i))
  unfolding count all_of sum_below
  count-all_of f zero g = refl
  count-all_of f (suc n) g = omega (arith, count-append f (all_of n g) (g n), count-all_of f n g)

  pub count-take : (f : A → Bool) (n : ℕ) (xs : List A) → count f (take n xs) ≡ tally f n xs
  unfolding count weigh
  count-take f zero xs = refl
  count-take f (suc n) [] = refl
  count-take f (suc n) (x ∷ xs) = omega (arith, count-take f n xs)

  pub count_same : (f g : A → Bool) (xs : List A) → ((x : A) → f x ≡ g x) → count f xs ≡ count g xs
  unfolding count
  count_same f g [] h = refl
  count_same f g (x ∷ xs) h = omega (arith, ap ind (h x), count_same f g xs h)

  -- tests that agree on what passes another
  pub count_alike : (ok f g : A → Bool) → ((x : A) → T (ok x) → f x ≡ g x) → (xs : List A) → T (each ok xs) → count f xs ≡ count g xs
  unfolding count each
  count_alike ok f g h [] t = refl
  count_alike ok f g h (x ∷ xs) t = rw (h x (and_l (ok x) _ t), count_alike ok f g h xs (and_r (ok x) _ t))

  pub count_both : (f g h : A → Bool) → ((x : A) → ind (f x) ≡ ind (g x) + ind (h x)) → (xs : List A) → count f xs ≡ count g xs + count h xs
  unfolding count
  count_both f g h e [] = refl
  count_both f g h e (x ∷ xs) = omega (arith, e x, count_both f g h e xs)

  pub each_append : (f : A → Bool) (xs ys : List A) → T (each f xs) → T (each f ys) → T (each f (xs ++ ys))
  unfolding each
  each_append f [] ys t u = u
  each_append f (x ∷ xs) ys t u = both (f x) _ (and_l (f x) _ t) (each_append f xs ys (and_r (f x) _ t) u)

  pub each-drop : (f : A → Bool) (n : ℕ) (xs : List A) → T (each f xs) → T (each f (drop n xs))
  unfolding each
  each-drop f zero xs t = t
  each-drop f (suc n) [] t = t
  each-drop f (suc n) (x ∷ xs) t = each-drop f n xs (and_r (f x) _ t)

  pub each-all_of : (f : A → Bool) (n : ℕ) (g : ℕ → List A) → ((i : ℕ) → i < n → T (each f (g i))) → T (each f (all_of n g))
  unfolding each all_of
  each-all_of f zero g h = tt
  each-all_of f (suc n) g h = each_append f (all_of n g) (g n) (each-all_of f n g (λ i l. h i (omega arith))) (h n (omega arith))

  pub each_take : (f g : A → Bool) (n : ℕ) (xs : List A) → T (fits f g n xs) → T (each f (take n xs))
  unfolding each fits
  each_take f g zero xs t = tt
  each_take f g (suc n) [] t = tt
  each_take f g (suc n) (x ∷ xs) t = both (f x) _ (and_l (f x) _ t) (each_take f g n xs (and_r (f x) _ t))

  pub each_map : (f g : A → Bool) → ((x : A) → T (f x) → T (g x)) → (xs : List A) → T (each f xs) → T (each g xs)
  unfolding each
  each_map f g h [] t = tt
  each_map f g h (x ∷ xs) t = both (g x) _ (h x (and_l (f x) _ t)) (each_map f g h xs (and_r (f x) _ t))

  -- what some element passes is counted
  pub some-count : (f : A → Bool) (xs : List A) → 0 < count f xs → T (some f xs)
  unfolding count some
  some-count f [] h = absurd (not-suc-le-zero h)
  some-count f (x ∷ xs) h = by_test (f x) (λ t. or_l (f x) _ t) (λ t. or_r (f x) _ (some-count f xs (omega (arith, h, ind_F (f x) t))))

  pub count-some : (f : A → Bool) (xs : List A) → T (some f xs) → 0 < count f xs
  unfolding count some
  count-some f [] t = absurd t
  count-some f (x ∷ xs) t = by_or (f x) (some f xs) t (λ u. omega (arith, ind_T (f x) u)) (λ u. omega (arith, count-some f xs u))

  -- a test of each of the first n places, as a list and in place
  pub take-each : (f : A → Bool) (n : ℕ) (xs : List A) → n ≤ length xs → T (each f (take n xs)) → T (each_of f n xs)
  unfolding each fits
  take-each f zero [] h t = tt
  take-each f zero (x ∷ xs) h t = take-each f zero xs (omega arith) tt
  take-each f (suc n) [] h t = absurd (not-suc-le-zero h)
  take-each f (suc n) (x ∷ xs) h t = both (f x) _ (and_l (f x) _ t) (take-each f n xs (le_of_suc-le-suc h) (and_r (f x) _ t))

  pub each_by : (f : A → Bool) (n : ℕ) (xs : List A) (d : A) → n ≤ length xs → ((p : ℕ) → p < n → T (f (get_or xs p d))) → T (each f (take n xs))
  unfolding each
  each_by f zero xs d h k = tt
  each_by f (suc n) [] d h k = absurd (not-suc-le-zero h)
  each_by f (suc n) (x ∷ xs) d h k = both (f x) _ (k 0 (omega arith)) (each_by f n xs d (le_of_suc-le-suc h) (λ p l. k (suc p) (omega arith)))

  -- what is counted wherever an element passes holds of each element
  pub each-counted : (ok good : A → Bool) (all : List A) → ((x : A) → T (ok x) → ((g : A → Bool) → T (g x) → 0 < count g all) → T (good x)) →
      (xs : List A) → T (each ok xs) → ((g : A → Bool) → count g xs ≤ count g all) → T (each good xs)
  unfolding each count
  each-counted ok good all h [] t l = tt
  each-counted ok good all h (x ∷ xs) t l =
      both (good x) _ (h x (and_l (ok x) _ t) (λ g u. omega (arith, l g, ind_T (g x) u)))
      (each-counted ok good all h xs (and_r (ok x) _ t) (λ g. omega (arith, l g)))

  pub some-map : (f g : A → Bool) → ((x : A) → T (f x) → T (g x)) → (xs : List A) → T (some f xs) → T (some g xs)
  unfolding some
  some-map f g h [] t = t
  some-map f g h (x ∷ xs) t = by_or (f x) (some f xs) t (λ u. or_l (g x) _ (h x u)) (λ u. or_r (g x) _ (some-map f g h xs u))

  -- MEMBERS

  -- what each element passes an element passes
  pub mem_each : (f : A → Bool) {x : A} {xs : List A} → Memᴰ x xs → T (each f xs) → T (f x)
  unfolding each
  mem_each f (Memᴰ.head {x = y} e) t = rw e (and_l (f y) _ t)
  mem_each f (Memᴰ.tail {x = y} m) t = mem_each f m (and_r (f y) _ t)

  pub mem_all_of : {x : A} (n : ℕ) (g : ℕ → List A) (j : ℕ) → j < n → Memᴰ x (g j) → Memᴰ x (all_of n g)
  unfolding all_of
  mem_all_of zero g j h m = absurd (not-suc-le-zero h)
  mem_all_of {x} (suc n) g j h m =
      ⊎_elim (λ (e : j ≡ n). Memᴰ.append_right (all_of n g) (subst (λ (k : ℕ). Memᴰ x (g k)) e m))
      (λ (l : j < n). Memᴰ.append_left (g n) (mem_all_of n g j l m)) (eq-or-lt_of_le (le_of_suc-le-suc h))

  -- AN ELEMENT FOR EACH NUMBER BELOW n

  up_last : (g : ℕ → A) (k n : ℕ) → map g (up_from k (suc n)) ≡ map g (up_from k n) ++ (g (k + n) ∷ [])
  unfolding up_from
  up_last g k zero = rw add-zero
  up_last g k (suc n) = rw (add-suc, ← suc-add k n) (ap (λ (ys : List A). g k ∷ ys) (up_last g (suc k) n))

  pub up-all_of : (g : ℕ → A) (n : ℕ) → map g (up_from 0 n) ≡ all_of n (λ i. g i ∷ [])
  unfolding up_from all_of
  up-all_of g zero = refl
  up-all_of g (suc n) = up_last g 0 n ∙ rw (zero-add, up-all_of g n)

  pub each-up : (f : A → Bool) (g : ℕ → A) (n : ℕ) → ((i : ℕ) → i < n → T (f (g i))) → T (each f (map g (up_from 0 n)))
  unfolding each
  each-up f g n h = rw (up-all_of g n) (each-all_of f n (λ i. g i ∷ []) (λ i l. both (f (g i)) _ (h i l) tt))

  pub mem_up : (g : ℕ → A) (n i : ℕ) → i < n → Memᴰ (g i) (map g (up_from 0 n))
  mem_up g n i h = rw (up-all_of g n) (mem_all_of n (λ i. g i ∷ []) i h (Memᴰ.head refl))

  pub count-up : (f : A → Bool) (g : ℕ → A) (n : ℕ) → count f (map g (up_from 0 n)) ≡ sum_below n (λ i. ind (f (g i)))
  unfolding count
  count-up f g n =
      ap (count f) (up-all_of g n) ∙ count-all_of f n (λ i. g i ∷ []) ∙ sum_same n (λ i. ind (f (g i))) (λ i. ind (f (g i)) + 0) (λ i l. omega arith)

  -- ALL

  count_most : (f : A → Bool) (xs : List A) → count f xs ≤ count (λ x. true) xs
  unfolding count
  count_most f [] = omega arith
  count_most f (x ∷ xs) = omega (arith, ind-most (f x), count_most f xs)

  -- each element passes, by the count
  pub each_full : (f : A → Bool) (xs : List A) → count f xs ≡ count (λ x. true) xs → T (each f xs)
  unfolding count each
  each_full f [] e = tt
  each_full f (x ∷ xs) e =
      by_test (f x)
      (λ t. both (f x) _ t (each_full f xs (omega (arith, e, ind_T (f x) t))))
      (λ t. absurd (omega (arith, e, ind_F (f x) t, count_most f xs)))

  pub full_each : (f : A → Bool) (xs : List A) → T (each f xs) → count f xs ≡ count (λ x. true) xs
  unfolding count each
  full_each f [] t = refl
  full_each f (x ∷ xs) t = omega (arith, ind_T (f x) (and_l (f x) _ t), full_each f xs (and_r (f x) _ t))

  -- NOTHING

  pub take_none : (n : ℕ) (xs : List A) → n ≡ 0 → take n xs ≡ []
  take_none n xs e = rw e

  pub all_of-none : (n : ℕ) (g : ℕ → List A) → ((i : ℕ) → i < n → g i ≡ []) → all_of n g ≡ []
  unfolding all_of
  all_of-none zero g h = refl
  all_of-none (suc n) g h = rw (all_of-none n g (λ i l. h i (omega arith)), h n (omega arith))

-- what each element gives, one behind the other
module _ {A B : Type 0} (f : A → List B) where
  pub flat_append : (xs ys : List A) → flat_map f (xs ++ ys) ≡ flat_map f xs ++ flat_map f ys
  unfolding flat_map
  flat_append [] ys = refl
  flat_append (x ∷ xs) ys = ap (λ (l : List B). f x ++ l) (flat_append xs ys) ∙ sym (append_assoc (f x) (flat_map f xs) (flat_map f ys))

  pub each_flat : (g : B → Bool) → ((x : A) → T (each g (f x))) → (xs : List A) → T (each g (flat_map f xs))
  unfolding flat_map each
  each_flat g h [] = tt
  each_flat g h (x ∷ xs) = each_append g (f x) (flat_map f xs) (h x) (each_flat g h xs)
