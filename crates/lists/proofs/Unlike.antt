-- Laws of an array no two of whose places in use are alike.
use mathlib.Core.Path.{◌≡◌, refl}
use mathlib.Core.List.{List, [], ◌∷◌, ◌++◌}
use mathlib.Core.Bool.{Bool, true, not}
use Prim.Native.Nat.{ℕ, zero, suc, ◌+◌, ◌-◌, ◌≤◌, ◌<◌}
use native.Mathlib.Nat.{not-suc-le-zero, le_of_suc-le-suc, suc-sub-suc, sub-zero}
use native.Mathlib.Numerals.{add-one}
use native.Mathlib.Omega.{arith}
use lib.Dec.{T, not_T, T_not}
use lib.ListN.{length, get_or, set}
use Rattle.lists.specs.Places.{ind, fits, weigh, tally, none_of, removed, unlike}
use Rattle.lists.proofs.Tests.{and_l, and_r, both, by_test, ind_T, ind_F}
use Rattle.lists.proofs.Places.{fits_push', fits-end, fits_pull', fits_set, fits_any, fits_at, none_used, weigh-none}

module _ {A : Type 0} where
  unlike_push' : (same : A → A → Bool) (n : ℕ) (xs : List A) (m : A) → T (unlike same n xs) → n < length xs →
      T (none_of (λ (x : A). same x m) n xs) → T (unlike same (suc n) (set xs n m))
  unfolding unlike fits
  unlike_push' same n [] m t h u = absurd (not-suc-le-zero h)
  unlike_push' same zero (x ∷ xs) m t h u = both (none_of (same m) 0 xs) _ (none_used (same m) 0 xs refl) tt
  unlike_push' same (suc n) (x ∷ xs) m t h u =
      both (none_of (same x) (suc n) (set xs n m)) _
      (fits_push' (λ (y : A). not (same x y)) (λ (y : A). true) n xs m (and_l (none_of (same x) n xs) _ t) (le_of_suc-le-suc h) (and_l (not (same x m)) _ u))
      (unlike_push' same n xs m (and_r (none_of (same x) n xs) _ t) (le_of_suc-le-suc h) (and_r (not (same x m)) _ u))

  pub unlike_push : (same : A → A → Bool) (n : ℕ) (xs : List A) (m : A) → T (unlike same n xs) → n < length xs →
      T (none_of (λ (x : A). same x m) n xs) → T (unlike same (n + 1) (set xs n m))
  unlike_push same n xs m t h u = rw add-one (unlike_push' same n xs m t h u)

  unlike-end : (same : A → A → Bool) (n : ℕ) (xs : List A) (z : A) → T (unlike same n xs) → n ≤ length xs → T (unlike same n (xs ++ (z ∷ [])))
  unfolding unlike
  unlike-end same zero xs z t h = tt
  unlike-end same (suc n) [] z t h = absurd (not-suc-le-zero h)
  unlike-end same (suc n) (x ∷ xs) z t h =
      both (none_of (same x) n (xs ++ (z ∷ []))) _
      (fits-end (λ (y : A). not (same x y)) (λ (y : A). true) n xs z (and_l (none_of (same x) n xs) _ t) tt)
      (unlike-end same n xs z (and_r (none_of (same x) n xs) _ t) (le_of_suc-le-suc h))

  unlike_pull' : (same : A → A → Bool) (n p : ℕ) (xs : List A) (z : A) → T (unlike same (suc n) xs) → p ≤ n → n < length xs → T (unlike same n (removed z p xs))
  unfolding unlike removed
  unlike_pull' same n p [] z t h k = absurd (not-suc-le-zero k)
  unlike_pull' same n zero (x ∷ xs) z t h k = unlike-end same n xs z (and_r (none_of (same x) n xs) _ t) (le_of_suc-le-suc k)
  unlike_pull' same zero (suc p) (x ∷ xs) z t h k = absurd (not-suc-le-zero h)
  unlike_pull' same (suc n) (suc p) (x ∷ xs) z t h k =
      both (none_of (same x) n (removed z p xs)) _
      (fits_pull' (λ (y : A). not (same x y)) (λ (y : A). true) n p xs z (and_l (none_of (same x) (suc n) xs) _ t) (le_of_suc-le-suc h) tt)
      (unlike_pull' same n p xs z (and_r (none_of (same x) (suc n) xs) _ t) (le_of_suc-le-suc h) (le_of_suc-le-suc k))

  pub unlike_pull : (same : A → A → Bool) (n p : ℕ) (xs : List A) (z : A) → T (unlike same n xs) → p < n → n ≤ length xs → T (unlike same (n - 1) (removed z p xs))
  unlike_pull same zero p xs z t h k = absurd (not-suc-le-zero h)
  unlike_pull same (suc n) p xs z t h k = rw (suc-sub-suc, sub-zero) (unlike_pull' same n p xs z t (le_of_suc-le-suc h) k)

  pub unlike_set : (same : A → A → Bool) (n p : ℕ) (xs : List A) (y : A) → T (unlike same n xs) → p < n →
      T (none_of (same y) n xs) → T (none_of (λ (x : A). same x y) n xs) → T (unlike same n (set xs p y))
  unfolding unlike fits
  unlike_set same zero p xs y t h u v = absurd (not-suc-le-zero h)
  unlike_set same (suc n) p [] y t h u v = tt
  unlike_set same (suc n) zero (x ∷ xs) y t h u v =
      both (none_of (same y) n xs) _ (and_r (not (same y x)) _ u) (and_r (none_of (same x) n xs) _ t)
  unlike_set same (suc n) (suc p) (x ∷ xs) y t h u v =
      both (none_of (same x) n (set xs p y)) _
      (fits_set (λ (w : A). not (same x w)) (λ (w : A). true) n p xs y (and_l (none_of (same x) n xs) _ t) (le_of_suc-le-suc h) (and_l (not (same x y)) _ v))
      (unlike_set same n p xs y (and_r (none_of (same x) n xs) _ t) (le_of_suc-le-suc h) (and_r (not (same y x)) _ u) (and_r (not (same x y)) _ v))

  -- the others differ from what stood at p
  unlike_rest' : (same : A → A → Bool) (ok : A → Bool) (n p : ℕ) (xs : List A) (z d : A) → T (unlike same (suc n) xs) → p ≤ n → n < length xs →
      ((x : A) → T (not (same x (get_or xs p d))) → T (ok x)) → ((x : A) → T (not (same (get_or xs p d) x)) → T (ok x)) →
      T (fits ok (λ (x : A). true) n (removed z p xs))
  unfolding unlike removed fits
  unlike_rest' same ok n p [] z d t h k f g = absurd (not-suc-le-zero k)
  unlike_rest' same ok n zero (x ∷ xs) z d t h k f g =
      fits-end ok (λ (y : A). true) n xs z (fits_any (λ (y : A). not (same x y)) ok (λ (y : A). true) g n xs (and_l (none_of (same x) n xs) _ t)) tt
  unlike_rest' same ok zero (suc p) (x ∷ xs) z d t h k f g = absurd (not-suc-le-zero h)
  unlike_rest' same ok (suc n) (suc p) (x ∷ xs) z d t h k f g =
      both (ok x) _
      (f x (fits_at (λ (y : A). not (same x y)) (λ (y : A). true) (suc n) xs p d (and_l (none_of (same x) (suc n) xs) _ t) h))
      (unlike_rest' same ok n p xs z d (and_r (none_of (same x) (suc n) xs) _ t) (le_of_suc-le-suc h) (le_of_suc-le-suc k) f g)

  pub unlike_rest : (same : A → A → Bool) (ok : A → Bool) (n p : ℕ) (xs : List A) (z d : A) → T (unlike same n xs) → p < n → n ≤ length xs →
      ((x : A) → T (not (same x (get_or xs p d))) → T (ok x)) → ((x : A) → T (not (same (get_or xs p d) x)) → T (ok x)) →
      T (fits ok (λ (x : A). true) (n - 1) (removed z p xs))
  unlike_rest same ok zero p xs z d t h k f g = absurd (not-suc-le-zero h)
  unlike_rest same ok (suc n) p xs z d t h k f g = rw (suc-sub-suc, sub-zero) (unlike_rest' same ok n p xs z d t (le_of_suc-le-suc h) k f g)

  -- the same, with another put in its place
  pub unlike_swap : (same : A → A → Bool) (ok : A → Bool) (n p : ℕ) (xs : List A) (y d : A) → T (unlike same n xs) → p < n → n ≤ length xs →
      ((x : A) → T (not (same x (get_or xs p d))) → T (ok x)) → ((x : A) → T (not (same (get_or xs p d) x)) → T (ok x)) → T (ok y) →
      T (fits ok (λ (x : A). true) n (set xs p y))
  unfolding unlike fits
  unlike_swap same ok zero p xs y d t h k f g u = absurd (not-suc-le-zero h)
  unlike_swap same ok (suc n) p [] y d t h k f g u = absurd (not-suc-le-zero k)
  unlike_swap same ok (suc n) zero (x ∷ xs) y d t h k f g u =
      both (ok y) _ u (fits_any (λ (w : A). not (same x w)) ok (λ (w : A). true) g n xs (and_l (none_of (same x) n xs) _ t))
  unlike_swap same ok (suc n) (suc p) (x ∷ xs) y d t h k f g u =
      both (ok x) _
      (f x (fits_at (λ (w : A). not (same x w)) (λ (w : A). true) n xs p d (and_l (none_of (same x) n xs) _ t) (le_of_suc-le-suc h)))
      (unlike_swap same ok n p xs y d (and_r (none_of (same x) n xs) _ t) (le_of_suc-le-suc h) (le_of_suc-le-suc k) f g u)

  -- what tells one place from the others passes once
  pub unlike-once : (same : A → A → Bool) (g : A → Bool) (n p : ℕ) (xs : List A) (d : A) → T (unlike same n xs) → p < n → n ≤ length xs → T (g (get_or xs p d)) →
      ((x : A) → T (g x) → T (same x (get_or xs p d))) → ((x : A) → T (g x) → T (same (get_or xs p d) x)) → tally g n xs ≡ 1
  unfolding unlike weigh
  unlike-once same g zero p xs d t h k u f f' = absurd (not-suc-le-zero h)
  unlike-once same g (suc n) p [] d t h k u f f' = absurd (not-suc-le-zero k)
  unlike-once same g (suc n) zero (x ∷ xs) d t h k u f f' =
      omega (
        arith,
        ind_T (g x) u,
        weigh-none (λ (y : A). not (same x y)) (λ (y : A). true) (λ (y : A). ind (g y))
            (λ y v. ind_F (g y) (not_T (g y) (λ w. T_not (same x y) v (f' y w)))) n xs (and_l (none_of (same x) n xs) _ t),
      )
  unlike-once same g (suc n) (suc p) (x ∷ xs) d t h k u f f' =
      omega (
        arith,
        ind_F (g x) (not_T (g x) (λ w. T_not (same x (get_or xs p d))
            (fits_at (λ (y : A). not (same x y)) (λ (y : A). true) n xs p d (and_l (none_of (same x) n xs) _ t) (le_of_suc-le-suc h)) (f x w))),
        unlike-once same g n p xs d (and_r (none_of (same x) n xs) _ t) (le_of_suc-le-suc h) (le_of_suc-le-suc k) u f f',
      )

  -- what only places that are alike pass, one passes at most
  pub unlike-most : (same : A → A → Bool) (g : A → Bool) → ((x y : A) → T (g x) → T (g y) → T (same x y)) → (n : ℕ) (xs : List A) →
      T (unlike same n xs) → tally g n xs ≤ 1
  unfolding unlike weigh
  unlike-most same g f zero xs t = omega arith
  unlike-most same g f (suc n) [] t = omega arith
  unlike-most same g f (suc n) (x ∷ xs) t =
      by_test (g x)
      (λ u. omega (
        arith,
        ind_T (g x) u,
        weigh-none (λ (y : A). not (same x y)) (λ (y : A). true) (λ (y : A). ind (g y))
            (λ y v. ind_F (g y) (not_T (g y) (λ w. T_not (same x y) v (f x y u w)))) n xs (and_l (none_of (same x) n xs) _ t),
      ))
      (λ u. omega (arith, ind_F (g x) u, unlike-most same g f n xs (and_r (none_of (same x) n xs) _ t)))
  -- ONE PLACE MORE
