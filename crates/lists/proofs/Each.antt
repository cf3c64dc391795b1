-- A test of each of the first places of an array: no place, one place more, more places than there are.
use mathlib.Core.Path.{◌≡◌, refl}
use mathlib.Core.List.{List, [], ◌∷◌}
use mathlib.Core.Bool.{Bool, true, false, and-false}
use Prim.Native.Nat.{ℕ, zero, suc, ◌≤◌, ◌<◌}
use native.Mathlib.Nat.{le_of_suc-le-suc, not-suc-le-zero}
use lib.ListN.{length}
use Rattle.lists.specs.Places.{fits, each_of}

module _ {A : Type 0} where
  -- no place
  pub each_none : (f : A → Bool) (xs : List A) → each_of f 0 xs ≡ true
  unfolding fits
  each_none f [] = refl
  each_none f (x ∷ xs) = each_none f xs

  -- more places than there are
  pub each-past : (f : A → Bool) (n : ℕ) (xs : List A) → length xs < n → each_of f n xs ≡ false
  unfolding fits
  each-past f zero xs h = absurd (not-suc-le-zero h)
  each-past f (suc n) [] h = refl
  each-past f (suc n) (x ∷ xs) h = rw (each-past f n xs (le_of_suc-le-suc h)) (and-false (f x))

  -- tests that say the same
  pub each_same : (f g : A → Bool) → ((x : A) → f x ≡ g x) → (n : ℕ) (xs : List A) → each_of f n xs ≡ each_of g n xs
  unfolding fits
  each_same f g h zero [] = refl
  each_same f g h (suc n) [] = refl
  each_same f g h zero (x ∷ xs) = each_same f g h zero xs
  each_same f g h (suc n) (x ∷ xs) = rw (h x, each_same f g h n xs)

  -- a test that all pass
  pub each_all : (f : A → Bool) → ((x : A) → f x ≡ true) → (n : ℕ) (xs : List A) → n ≤ length xs → each_of f n xs ≡ true
  unfolding fits
  each_all f h zero xs l = each_none f xs
  each_all f h (suc n) [] l = absurd (not-suc-le-zero l)
  each_all f h (suc n) (x ∷ xs) l = rw (h x) (each_all f h n xs (le_of_suc-le-suc l))
