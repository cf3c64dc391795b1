-- Laws of an array with a count: what holds of its places after one is added, taken out or put anew.
use mathlib.Core.Path.{◌≡◌, refl, ap}
use mathlib.Core.List.{List, [], ◌∷◌, ◌++◌}
use mathlib.Core.Bool.{Bool, true, not}
use Prim.Native.Nat.{ℕ, zero, suc, ◌+◌, ◌-◌, ◌*◌, ◌≤◌, ◌<◌}
use native.Mathlib.Nat.{not-suc-le-zero, le_of_suc-le-suc, suc-sub-suc, sub-zero}
use native.Mathlib.Numerals.{add-one}
use native.Mathlib.Omega.{arith}
use lib.Dec.{T, eqb, eqb→eq, eqb_refl}
use lib.ListN.{length, get_or, set, replicate, length-set, length-replicate}
use Rattle.lists.specs.Places.{fits, array, weigh, tally, each_of, none_of, removed, first_at}
use Rattle.lists.proofs.Tests.{and_l, and_r, both, by_cond, ind_T, ind_F}
use Rattle.lists.proofs.Each.{each_none, each_all}

module _ {A : Type 0} where
  -- FITS

  pub fits-length : (f g : A → Bool) (n : ℕ) (xs : List A) → T (fits f g n xs) → n ≤ length xs
  unfolding fits
  fits-length f g zero [] t = omega arith
  fits-length f g (suc n) [] t = absurd t
  fits-length f g zero (x ∷ xs) t = omega arith
  fits-length f g (suc n) (x ∷ xs) t = let h : n ≤ length xs = fits-length f g n xs (and_r (f x) _ t) in omega arith

  pub fits_at : (f g : A → Bool) (n : ℕ) (xs : List A) (p : ℕ) (d : A) → T (fits f g n xs) → p < n → T (f (get_or xs p d))
  unfolding fits
  fits_at f g zero xs p d t h = absurd (not-suc-le-zero h)
  fits_at f g (suc n) [] p d t h = absurd t
  fits_at f g (suc n) (x ∷ xs) zero d t h = and_l (f x) _ t
  fits_at f g (suc n) (x ∷ xs) (suc p) d t h = fits_at f g n xs p d (and_r (f x) _ t) (le_of_suc-le-suc h)

  pub fits_push' : (f g : A → Bool) (n : ℕ) (xs : List A) (m : A) → T (fits f g n xs) → n < length xs → T (f m) → T (fits f g (suc n) (set xs n m))
  unfolding fits
  fits_push' f g n [] m t h u = absurd (not-suc-le-zero h)
  fits_push' f g zero (x ∷ xs) m t h u = both (f m) _ u (and_r (g x) _ t)
  fits_push' f g (suc n) (x ∷ xs) m t h u =
      both (f x) _ (and_l (f x) _ t) (fits_push' f g n xs m (and_r (f x) _ t) (le_of_suc-le-suc h) u)

  pub fits_push : (f g : A → Bool) (n : ℕ) (xs : List A) (m : A) → T (fits f g n xs) → n < length xs → T (f m) → T (fits f g (n + 1) (set xs n m))
  fits_push f g n xs m t h u = rw add-one (fits_push' f g n xs m t h u)

  -- the zero that comes in at the end
  pub fits-end : (f g : A → Bool) (n : ℕ) (xs : List A) (z : A) → T (fits f g n xs) → T (g z) → T (fits f g n (xs ++ (z ∷ [])))
  unfolding fits
  fits-end f g zero [] z t u = both (g z) true u tt
  fits-end f g (suc n) [] z t u = absurd t
  fits-end f g zero (x ∷ xs) z t u = both (g x) _ (and_l (g x) _ t) (fits-end f g zero xs z (and_r (g x) _ t) u)
  fits-end f g (suc n) (x ∷ xs) z t u = both (f x) _ (and_l (f x) _ t) (fits-end f g n xs z (and_r (f x) _ t) u)

  pub fits_pull' : (f g : A → Bool) (n p : ℕ) (xs : List A) (z : A) → T (fits f g (suc n) xs) → p ≤ n → T (g z) → T (fits f g n (removed z p xs))
  unfolding fits removed
  fits_pull' f g n p [] z t h u = absurd t
  fits_pull' f g n zero (x ∷ xs) z t h u = fits-end f g n xs z (and_r (f x) _ t) u
  fits_pull' f g zero (suc p) (x ∷ xs) z t h u = absurd (not-suc-le-zero h)
  fits_pull' f g (suc n) (suc p) (x ∷ xs) z t h u =
      both (f x) _ (and_l (f x) _ t) (fits_pull' f g n p xs z (and_r (f x) _ t) (le_of_suc-le-suc h) u)

  pub fits_pull : (f g : A → Bool) (n p : ℕ) (xs : List A) (z : A) → T (fits f g n xs) → p < n → T (g z) → T (fits f g (n - 1) (removed z p xs))
  fits_pull f g zero p xs z t h u = absurd (not-suc-le-zero h)
  fits_pull f g (suc n) p xs z t h u = rw (suc-sub-suc, sub-zero) (fits_pull' f g n p xs z t (le_of_suc-le-suc h) u)

  pub fits_set : (f g : A → Bool) (n p : ℕ) (xs : List A) (y : A) → T (fits f g n xs) → p < n → T (f y) → T (fits f g n (set xs p y))
  unfolding fits
  fits_set f g zero p xs y t h u = absurd (not-suc-le-zero h)
  fits_set f g (suc n) p [] y t h u = t
  fits_set f g (suc n) zero (x ∷ xs) y t h u = both (f y) _ u (and_r (f x) _ t)
  fits_set f g (suc n) (suc p) (x ∷ xs) y t h u = both (f x) _ (and_l (f x) _ t) (fits_set f g n p xs y (and_r (f x) _ t) (le_of_suc-le-suc h) u)

  -- two tests at once
  pub fits_zip : (f f' f'' g g' : A → Bool) → ((x : A) → T (f x) → T (f' x) → T (f'' x)) → (n : ℕ) (xs : List A) →
      T (fits f g n xs) → T (fits f' g' n xs) → T (fits f'' g n xs)
  unfolding fits
  fits_zip f f' f'' g g' k zero [] t u = tt
  fits_zip f f' f'' g g' k (suc n) [] t u = t
  fits_zip f f' f'' g g' k zero (x ∷ xs) t u = both (g x) _ (and_l (g x) _ t) (fits_zip f f' f'' g g' k zero xs (and_r (g x) _ t) (and_r (g' x) _ u))
  fits_zip f f' f'' g g' k (suc n) (x ∷ xs) t u =
      both (f'' x) _ (k x (and_l (f x) _ t) (and_l (f' x) _ u)) (fits_zip f f' f'' g g' k n xs (and_r (f x) _ t) (and_r (f' x) _ u))

  -- the places in use alone
  pub fits_any : (f f' g : A → Bool) → ((x : A) → T (f x) → T (f' x)) → (n : ℕ) (xs : List A) → T (fits f g n xs) → T (fits f' (λ (x : A). true) n xs)
  unfolding fits
  fits_any f f' g k zero [] t = tt
  fits_any f f' g k (suc n) [] t = t
  fits_any f f' g k zero (x ∷ xs) t = fits_any f f' g k zero xs (and_r (g x) _ t)
  fits_any f f' g k (suc n) (x ∷ xs) t = both (f' x) _ (k x (and_l (f x) _ t)) (fits_any f f' g k n xs (and_r (f x) _ t))

  -- an array of one element over and over
  pub fits_same : (f g : A → Bool) (x : A) → T (f x) → T (g x) → (n m : ℕ) → n ≤ m → T (fits f g n (replicate m x))
  unfolding fits
  fits_same f g x a b zero zero h = tt
  fits_same f g x a b (suc n) zero h = absurd (not-suc-le-zero h)
  fits_same f g x a b zero (suc m) h = both (g x) _ b (fits_same f g x a b zero m (omega arith))
  fits_same f g x a b (suc n) (suc m) h = both (f x) _ a (fits_same f g x a b n m (le_of_suc-le-suc h))

  -- no place is in use
  pub none_used : (f : A → Bool) (n : ℕ) (xs : List A) → n ≡ 0 → T (none_of f n xs)
  none_used f n xs e = rw (e, each_none (λ (x : A). not (f x)) xs) tt

  pub length_removed : (z : A) (p : ℕ) (xs : List A) → length (removed z p xs) ≡ length xs
  unfolding removed
  length_removed z p [] = refl
  length_removed z zero (x ∷ xs) = length-end xs
    where
      length-end : (ys : List A) → length (ys ++ (z ∷ [])) ≡ suc (length ys)
      length-end [] = refl
      length-end (y ∷ ys) = ap suc (length-end ys)
  length_removed z (suc p) (x ∷ xs) = ap suc (length_removed z p xs)

  -- WEIGH

  weigh_push' : (f : A → ℕ) (n : ℕ) (xs : List A) (m : A) → n < length xs → weigh f (suc n) (set xs n m) ≡ weigh f n xs + f m
  unfolding weigh
  weigh_push' f n [] m h = absurd (not-suc-le-zero h)
  weigh_push' f zero (x ∷ xs) m h = omega arith
  weigh_push' f (suc n) (x ∷ xs) m h =
      let e : weigh f (suc n) (set xs n m) ≡ weigh f n xs + f m = weigh_push' f n xs m (le_of_suc-le-suc h) in omega arith

  pub weigh_push : (f : A → ℕ) (n : ℕ) (xs : List A) (m : A) → n < length xs → weigh f (n + 1) (set xs n m) ≡ weigh f n xs + f m
  weigh_push f n xs m h = rw add-one (weigh_push' f n xs m h)

  weigh-end : (f : A → ℕ) (n : ℕ) (xs : List A) (z : A) → n ≤ length xs → weigh f n (xs ++ (z ∷ [])) ≡ weigh f n xs
  unfolding weigh
  weigh-end f zero xs z h = refl
  weigh-end f (suc n) [] z h = absurd (not-suc-le-zero h)
  weigh-end f (suc n) (x ∷ xs) z h = ap (λ (k : ℕ). f x + k) (weigh-end f n xs z (le_of_suc-le-suc h))

  weigh_pull' : (f : A → ℕ) (n p : ℕ) (xs : List A) (z d : A) → p ≤ n → n < length xs → weigh f n (removed z p xs) + f (get_or xs p d) ≡ weigh f (suc n) xs
  unfolding weigh removed
  weigh_pull' f n p [] z d h k = absurd (not-suc-le-zero k)
  weigh_pull' f n zero (x ∷ xs) z d h k = let e : weigh f n (xs ++ (z ∷ [])) ≡ weigh f n xs = weigh-end f n xs z (le_of_suc-le-suc k) in omega arith
  weigh_pull' f zero (suc p) (x ∷ xs) z d h k = absurd (not-suc-le-zero h)
  weigh_pull' f (suc n) (suc p) (x ∷ xs) z d h k =
      let e : weigh f n (removed z p xs) + f (get_or xs p d) ≡ weigh f (suc n) xs = weigh_pull' f n p xs z d (le_of_suc-le-suc h) (le_of_suc-le-suc k) in
      omega arith

  pub weigh_pull : (f : A → ℕ) (n p : ℕ) (xs : List A) (z d : A) → p < n → n ≤ length xs → weigh f (n - 1) (removed z p xs) + f (get_or xs p d) ≡ weigh f n xs
  weigh_pull f zero p xs z d h k = absurd (not-suc-le-zero h)
  weigh_pull f (suc n) p xs z d h k = rw (suc-sub-suc, sub-zero) (weigh_pull' f n p xs z d (le_of_suc-le-suc h) k)

  -- a place put anew
  pub weigh_set : (f : A → ℕ) (n p : ℕ) (xs : List A) (y d : A) → p < n → n ≤ length xs → weigh f n (set xs p y) + f (get_or xs p d) ≡ weigh f n xs + f y
  unfolding weigh
  weigh_set f zero p xs y d h k = absurd (not-suc-le-zero h)
  weigh_set f (suc n) p [] y d h k = absurd (not-suc-le-zero k)
  weigh_set f (suc n) zero (x ∷ xs) y d h k = omega arith
  weigh_set f (suc n) (suc p) (x ∷ xs) y d h k =
      let e : weigh f n (set xs p y) + f (get_or xs p d) ≡ weigh f n xs + f y = weigh_set f n p xs y d (le_of_suc-le-suc h) (le_of_suc-le-suc k) in
      omega arith

  pub weigh-most : (f : A → ℕ) (c : ℕ) → ((x : A) → f x ≤ c) → (n : ℕ) (xs : List A) → weigh f n xs ≤ n * c
  unfolding weigh
  weigh-most f c h zero xs = omega arith
  weigh-most f c h (suc n) [] = omega arith
  weigh-most f c h (suc n) (x ∷ xs) = let e : weigh f n xs ≤ n * c = weigh-most f c h n xs in omega (arith, h x)

  pub weigh-none : (ok g : A → Bool) (f : A → ℕ) → ((x : A) → T (ok x) → f x ≡ 0) → (n : ℕ) (xs : List A) → T (fits ok g n xs) → weigh f n xs ≡ 0
  unfolding weigh fits
  weigh-none ok g f h zero xs t = refl
  weigh-none ok g f h (suc n) [] t = refl
  weigh-none ok g f h (suc n) (x ∷ xs) t =
      let e : weigh f n xs ≡ 0 = weigh-none ok g f h n xs (and_r (ok x) _ t) in omega (arith, h x (and_l (ok x) _ t))

  pub weigh_at : (f : A → ℕ) (n p : ℕ) (xs : List A) (d : A) → p < n → n ≤ length xs → f (get_or xs p d) ≤ weigh f n xs
  unfolding weigh
  weigh_at f zero p xs d h k = absurd (not-suc-le-zero h)
  weigh_at f (suc n) p [] d h k = absurd (not-suc-le-zero k)
  weigh_at f (suc n) zero (x ∷ xs) d h k = omega arith
  weigh_at f (suc n) (suc p) (x ∷ xs) d h k =
      let e : f (get_or xs p d) ≤ weigh f n xs = weigh_at f n p xs d (le_of_suc-le-suc h) (le_of_suc-le-suc k) in omega arith

  pub weigh_zero : (f : A → ℕ) → ((x : A) → f x ≡ 0) → (n : ℕ) (xs : List A) → weigh f n xs ≡ 0
  weigh_zero f h n xs = omega (arith, weigh-most f 0 (λ x. omega (arith, h x)) n xs)

  pub weigh_both : (f g h : A → ℕ) → ((x : A) → f x ≡ g x + h x) → (n : ℕ) (xs : List A) → weigh f n xs ≡ weigh g n xs + weigh h n xs
  unfolding weigh
  weigh_both f g h e zero xs = refl
  weigh_both f g h e (suc n) [] = refl
  weigh_both f g h e (suc n) (x ∷ xs) = omega (arith, e x, weigh_both f g h e n xs)

  pub weigh_less : (f g : A → ℕ) → ((x : A) → f x ≤ g x) → (n : ℕ) (xs : List A) → weigh f n xs ≤ weigh g n xs
  unfolding weigh
  weigh_less f g h zero xs = omega arith
  weigh_less f g h (suc n) [] = omega arith
  weigh_less f g h (suc n) (x ∷ xs) = omega (arith, h x, weigh_less f g h n xs)

  -- weights that agree on what is in use
  pub weigh_alike : (ok g : A → Bool) (f f' : A → ℕ) → ((x : A) → T (ok x) → f x ≡ f' x) → (n : ℕ) (xs : List A) → T (fits ok g n xs) → weigh f n xs ≡ weigh f' n xs
  unfolding weigh fits
  weigh_alike ok g f f' h zero xs t = refl
  weigh_alike ok g f f' h (suc n) [] t = refl
  weigh_alike ok g f f' h (suc n) (x ∷ xs) t = omega (arith, h x (and_l (ok x) _ t), weigh_alike ok g f f' h n xs (and_r (ok x) _ t))

  -- each place in use counted
  pub tally-all : (f : A → Bool) (n : ℕ) (xs : List A) → T (each_of f n xs) → tally f n xs ≡ n
  unfolding weigh fits
  tally-all f zero xs t = refl
  tally-all f (suc n) [] t = absurd t
  tally-all f (suc n) (x ∷ xs) t = omega (arith, ind_T (f x) (and_l (f x) _ t), tally-all f n xs (and_r (f x) _ t))

  pub tally_places : (n : ℕ) (xs : List A) → n ≤ length xs → tally (λ (x : A). true) n xs ≡ n
  tally_places n xs h = tally-all (λ (x : A). true) n xs (rw (each_all (λ (x : A). true) (λ x. refl) n xs h) tt)

  -- AN ARRAY

  module _ (places : ℕ) (f g : A → Bool) (n : ℕ) (xs : List A) (t : T (array places f g n xs)) where
    pub array-length : length xs ≡ places
    unfolding array
    array-length = eqb→eq (length xs) places (and_l (eqb (length xs) places) _ t)

    pub array-fits : T (fits f g n xs)
    unfolding array
    array-fits = and_r (eqb (length xs) places) _ t

    pub array-most : n ≤ length xs
    array-most = fits-length f g n xs array-fits

    pub array_at : (p : ℕ) (d : A) → p < n → T (f (get_or xs p d))
    array_at p d h = fits_at f g n xs p d array-fits h

    pub array_push : (y : A) → n < places → T (f y) → T (array places f g (n + 1) (set xs n y))
    unfolding array
    array_push y h u =
        both (eqb (length (set xs n y)) places) _ (rw (length-set, array-length) (eqb_refl places))
        (fits_push f g n xs y array-fits (omega (arith, array-length)) u)

    pub array_pull : (z : A) (p : ℕ) → p < n → T (g z) → T (array places f g (n - 1) (removed z p xs))
    unfolding array
    array_pull z p h u =
        both (eqb (length (removed z p xs)) places) _ (rw (length_removed, array-length) (eqb_refl places))
        (fits_pull f g n p xs z array-fits h u)

    pub array_set : (p : ℕ) (y : A) → p < n → T (f y) → T (array places f g n (set xs p y))
    unfolding array
    array_set p y h u =
        both (eqb (length (set xs p y)) places) _ (rw (length-set, array-length) (eqb_refl places)) (fits_set f g n p xs y array-fits h u)

  pub array_same : (f g : A → Bool) (x : A) → T (f x) → T (g x) → (n m : ℕ) → n ≤ m → T (array m f g n (replicate m x))
  unfolding array
  array_same f g x a b n m h = both (eqb (length (replicate m x)) m) _ (rw length-replicate (eqb_refl m)) (fits_same f g x a b n m h)

  -- of places none of which is in use, it is not asked what those in use must pass
  fits-none : (f f' g : A → Bool) (xs : List A) → fits f g 0 xs ≡ fits f' g 0 xs
  unfolding fits
  fits-none f f' g [] = refl
  fits-none f f' g (x ∷ xs) = rw (fits-none f f' g xs)

  pub array_unused : (f g : A → Bool) (x : A) → T (g x) → (m : ℕ) → T (array m f g 0 (replicate m x))
  unfolding array
  array_unused f g x t m = rw (fits-none f g g (replicate m x)) (array_same g g x t t 0 m (omega arith))

  -- THE FIRST PLACE THAT PASSES

  -- where some place in use passes, the first is in use and passes
  pub first_below : (f : A → Bool) (n : ℕ) (xs : List A) → 0 < tally f n xs → first_at f n xs < n
  unfolding weigh first_at
  first_below f zero xs h = absurd (not-suc-le-zero h)
  first_below f (suc n) [] h = absurd (not-suc-le-zero h)
  first_below f (suc n) (x ∷ xs) h =
      by_cond (λ (k : ℕ). k < suc n) (f x) 0 (suc (first_at f n xs)) (λ u. omega arith)
      (λ u. let k : first_at f n xs < n = first_below f n xs (omega (arith, h, ind_F (f x) u)) in omega (arith, k))

  pub first_passes : (f : A → Bool) (n : ℕ) (xs : List A) (d : A) → 0 < tally f n xs → T (f (get_or xs (first_at f n xs) d))
  unfolding weigh first_at
  first_passes f zero xs d h = absurd (not-suc-le-zero h)
  first_passes f (suc n) [] d h = absurd (not-suc-le-zero h)
  first_passes f (suc n) (x ∷ xs) d h =
      by_cond (λ (k : ℕ). T (f (get_or (x ∷ xs) k d))) (f x) 0 (suc (first_at f n xs)) (λ u. u)
      (λ u. first_passes f n xs d (omega (arith, h, ind_F (f x) u)))

  -- ONE PLACE PUT ANEW

  -- what holds of an element stays, where what is put in its place may use what stood there
  pub set_turn : (f : A → Bool) (xs : List A) (j k : ℕ) (y d : A) → T (f (get_or xs k d)) → (T (f (get_or xs j d)) → T (f y)) → T (f (get_or (set xs j y) k d))
  set_turn f [] j k y d t u = t
  set_turn f (x ∷ xs) zero zero y d t u = u t
  set_turn f (x ∷ xs) zero (suc k) y d t u = t
  set_turn f (x ∷ xs) (suc j) zero y d t u = t
  set_turn f (x ∷ xs) (suc j) (suc k) y d t u = set_turn f xs j k y d t u

  -- what is put in the place of the same
  pub set_same : (n k : ℕ) (a : A) → set (replicate n a) k a ≡ replicate n a
  set_same zero k a = refl
  set_same (suc n) zero a = refl
  set_same (suc n) (suc k) a = ap (λ (xs : List A). a ∷ xs) (set_same n k a)
