-- An array of so many places, whose length the code's type gives, and the places in use as a list of their own.
use mathlib.Core.Path.{◌≡◌, refl, sym, ◌∙◌}
use mathlib.Core.List.{List, [], ◌∷◌}
use mathlib.Core.Bool.{Bool, not, ◌&&◌}
use Prim.Native.Nat.{ℕ, zero, suc, ◌≤◌}
use native.Mathlib.Nat.{not-suc-le-zero, le_of_suc-le-suc}
use native.Mathlib.Omega.{arith}
use borrow.Author.Tests.{eq-eqb}
use lib.ListN.{length, get_or, take}
use lib.Seq.{take-suc}
use Rattle.std.specs.List.{list_all, list_any, sum_by}
use Rattle.std.proofs.lemmas.List.{take_all}
use Rattle.std.proofs.lemmas.List.Sums.{sum_by_push}
use Rattle.lists.specs.Places.{sum_below, fits, array, each_of, none_of, unlike}
use Rattle.lists.proofs.Library.{each_of_take, none_of_list_any}
use Rattle.lists.proofs.Long.{length_mapped}

module _ {A : Type 0} where
  -- the length is given
  pub array_fits : (places : ℕ) (used free : A → Bool) (n : ℕ) (xs : List A) → length xs ≡ places → array places used free n xs ≡ fits used free n xs
  unfolding array
  array_fits places used free n xs e = rw (eq-eqb _ _ e)

  -- all places are in use
  pub each_whole : (f : A → Bool) (xs : List A) → each_of f (length xs) xs ≡ list_all f xs
  each_whole f xs = each_of_take f (length xs) xs (omega arith) ∙ rw (take_all (length xs) xs (omega arith))

  pub none_whole : (f : A → Bool) (xs : List A) → none_of f (length xs) xs ≡ not (list_any f xs)
  none_whole f xs = none_of_list_any f (length xs) xs (omega arith) ∙ rw (take_all (length xs) xs (omega arith))

  -- the places in use, taken out of the array
  pub each_part : (f : A → Bool) (n : ℕ) (xs : List A) → n ≤ length xs → each_of f (length (take n xs)) (take n xs) ≡ each_of f n xs
  each_part f n xs h = each_whole f (take n xs) ∙ sym (each_of_take f n xs h)

  pub unlike_part : (same : A → A → Bool) (n : ℕ) (xs : List A) → n ≤ length xs → unlike same (length (take n xs)) (take n xs) ≡ unlike same n xs
  unfolding unlike
  unlike_part same zero xs h = refl
  unlike_part same (suc n) [] h = absurd (not-suc-le-zero h)
  unlike_part same (suc n) (x ∷ xs) h =
      rw (each_part (λ (y : A). not (same x y)) n xs (le_of_suc-le-suc h), unlike_part same n xs (le_of_suc-le-suc h))

  -- the first place beside the others
  pub unlike_first : (same : A → A → Bool) (xs ys : List A) (x : A) → xs ≡ x ∷ ys → unlike same (length xs) xs ≡ (not (list_any (same x) ys) && unlike same (length ys) ys)
  unfolding unlike
  unlike_first same xs ys x e = rw (e, none_whole (same x) ys)

  -- the sum of a number of each of the first places
  pub sum_part : (f : A → ℕ) (n : ℕ) (xs : List A) (d : A) → n ≤ length xs → sum_by f (take n xs) ≡ sum_below n (λ i. f (get_or xs i d))
  unfolding sum_below
  sum_part f zero xs d h = refl
  sum_part f (suc n) xs d h = rw (take-suc xs n d h, sum_by_push f (take n xs) (get_or xs n d), sum_part f n xs d (omega (arith, h)))

  pub sum_whole : (f : A → ℕ) (n : ℕ) (xs : List A) (d : A) → length xs ≡ n → sum_by f xs ≡ sum_below n (λ i. f (get_or xs i d))
  sum_whole f n xs d e = rw (take_all n xs (omega (arith, e))) at (sum_part f n xs d (omega (arith, e)))

-- an array is as long as its type says
pub ruleset whole_array = (array_fits, length_mapped)
