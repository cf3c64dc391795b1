-- The words of Places beside the library's: a test of the first places of an array, a count, a search, a place taken out, and the numbers below a bound.
use mathlib.Core.Path.{◌≡◌, refl, ap, ◌∙◌}
use mathlib.Core.List.{List, [], ◌∷◌, ◌++◌}
use mathlib.Core.Bool.{Bool, true, false, not, ◌&&◌, ◌||◌, cond, and-true, and_assoc}
use Prim.Native.Nat.{ℕ, zero, suc, ◌+◌, ◌≤◌, min}
use native.Mathlib.Nat.{not-suc-le-zero, le_of_suc-le-suc, suc_inj, zero-min, min-zero, suc-min-suc, zero-add, add-zero, add-suc, suc-add}
use native.Mathlib.Numerals.{add-one}
use native.Mathlib.Omega.{arith}
use borrow.Author.Tests.{le-leb}
use lib.Dec.{leb, ltb, leb-zero, leb-suc-zero, leb-suc-suc, nltb→le}
use lib.ListN.{length, get_or, set, take, drop}
use Rattle.std.proofs.Common.{length-take-le}
use Rattle.std.specs.Prelude.{Some, None}
use Rattle.std.specs.Option.{unwrap_or}
use Rattle.std.specs.List.{list_all, list_any, count_by, position_or_len, position, range_with_len}
use Rattle.std.proofs.lemmas.List.Sums.{sum_by-cons, prefix_len-le-length}
use Rattle.lists.specs.Places.{ind, all_below, fits, weigh, tally, each_of, none_of, removed, first_at, each}
use Rattle.lists.proofs.Tests.{and_swap, by_test, T_true, F_false}
use Rattle.lists.proofs.Below.{below_first, below_same}

not_or : (a b : Bool) → (not a && not b) ≡ not (a || b)
not_or true b = refl
not_or false b = refl

-- a test as a number, as the library writes it
pub ind_cond : (b : Bool) → ind b ≡ cond b 1 0
ind_cond true = refl
ind_cond false = refl

module _ {A : Type 0} where
  -- LISTS

  -- every element passes
  pub each_list_all : (f : A → Bool) (xs : List A) → each f xs ≡ list_all f xs
  unfolding each
  each_list_all f [] = refl
  each_list_all f (x ∷ xs) = rw (each_list_all f xs)

  -- none passes
  pub all_not_any : (f : A → Bool) (xs : List A) → list_all (λ (x : A). not (f x)) xs ≡ not (list_any f xs)
  all_not_any f [] = refl
  all_not_any f (x ∷ xs) = rw (all_not_any f xs, not_or (f x) (list_any f xs))

  -- THE FIRST PLACES

  -- the places in use pass the one test, those behind them the other
  pub fits_list_all : (f g : A → Bool) (n : ℕ) (xs : List A) → fits f g n xs ≡ (leb n (length xs) && (list_all f (take n xs) && list_all g (drop n xs)))
  unfolding fits
  fits_list_all f g zero [] = refl
  fits_list_all f g (suc n) [] = rw leb-suc-zero
  fits_list_all f g zero (x ∷ xs) = rw (fits_list_all f g zero xs, leb-zero, leb-zero)
  fits_list_all f g (suc n) (x ∷ xs) =
      rw (fits_list_all f g n xs, leb-suc-suc, and_assoc (f x) (list_all f (take n xs)) (list_all g (drop n xs)))
      (and_swap (f x) (leb n (length xs)) (list_all f (take n xs) && list_all g (drop n xs)))

  all_true : (xs : List A) → list_all (λ (x : A). true) xs ≡ true
  all_true [] = refl
  all_true (x ∷ xs) = all_true xs

  -- each of the first n places passes, whatever n
  pub each_of_list_all : (f : A → Bool) (n : ℕ) (xs : List A) → each_of f n xs ≡ (leb n (length xs) && list_all f (take n xs))
  each_of_list_all f n xs = fits_list_all f (λ (x : A). true) n xs ∙ rw (all_true (drop n xs), and-true (list_all f (take n xs)))

  pub none_of_list_all : (f : A → Bool) (n : ℕ) (xs : List A) → none_of f n xs ≡ (leb n (length xs) && list_all (λ (x : A). not (f x)) (take n xs))
  none_of_list_all f n xs = each_of_list_all (λ (x : A). not (f x)) n xs

  -- each of the first n places passes, where there are so many
  pub each_of_take : (f : A → Bool) (n : ℕ) (xs : List A) → n ≤ length xs → each_of f n xs ≡ list_all f (take n xs)
  each_of_take f n xs h = rw (each_of_list_all f n xs, le-leb n (length xs) h)

  -- none of the first n places passes, where there are so many
  pub none_of_take : (f : A → Bool) (n : ℕ) (xs : List A) → n ≤ length xs → none_of f n xs ≡ list_all (λ (x : A). not (f x)) (take n xs)
  none_of_take f n xs h = each_of_take (λ (x : A). not (f x)) n xs h

  pub none_of_list_any : (f : A → Bool) (n : ℕ) (xs : List A) → n ≤ length xs → none_of f n xs ≡ not (list_any f (take n xs))
  none_of_list_any f n xs h = none_of_take f n xs h ∙ all_not_any f (take n xs)

  -- how many of the first n places pass
  pub tally_count_by : (f : A → Bool) (n : ℕ) (xs : List A) → tally f n xs ≡ count_by f (take n xs)
  unfolding weigh
  tally_count_by f zero xs = refl
  tally_count_by f (suc n) [] = refl
  tally_count_by f (suc n) (x ∷ xs) = rw (tally_count_by f n xs, sum_by-cons (λ (y : A). cond (f y) 1 0) x (take n xs)) (ap (λ (k : ℕ). k + count_by f (take n xs)) (ind_cond (f x)))

  -- THE FIRST PLACE THAT PASSES

  -- whatever n
  pub first_at_len : (f : A → Bool) (n : ℕ) (xs : List A) → first_at f n xs ≡ position_or_len f (take n xs)
  unfolding first_at
  first_at_len f zero xs = refl
  first_at_len f (suc n) [] = refl
  first_at_len f (suc n) (x ∷ xs) = rw (first_at_len f n xs) (other_way (f x) _)
    where
      other_way : (b : Bool) (k : ℕ) → cond b 0 (suc k) ≡ cond (not b) (1 + k) 0
      other_way true k = refl
      other_way false k = omega arith

  -- the first of the first n places that passes, or n, where there are so many
  pub first_position : (f : A → Bool) (n : ℕ) (xs : List A) → n ≤ length xs → first_at f n xs ≡ unwrap_or (position f (take n xs)) n
  first_position f n xs h =
      let len : length (take n xs) ≡ n = length-take-le n xs h in
      first_at_len f n xs ∙ found (position_or_len f (take n xs)) (length (take n xs)) n len (prefix_len-le-length (λ (x : A). not (f x)) (take n xs))
    where
      found : (k m n : ℕ) → m ≡ n → k ≤ m → k ≡ unwrap_or (cond (ltb k m) (Some k) None) n
      found k m n e l = by_test (ltb k m) (λ t. rw (T_true (ltb k m) t)) (λ t. rw (F_false (ltb k m) t) (omega (arith, e, l, nltb→le k m t)))

  -- of more places than there are, the first that passes, or the last number
  pub first_most : (f : A → Bool) (n : ℕ) (xs : List A) → first_at f (min n (length xs)) xs ≡ first_at f n xs
  unfolding first_at
  first_most f zero xs = rw zero-min
  first_most f (suc n) [] = rw min-zero
  first_most f (suc n) (x ∷ xs) = rw (suc-min-suc, first_most f n xs)

  -- A PLACE TAKEN OUT

  -- the zero is put last, and what stood behind the place is copied to it
  pub removed_copied : (z : A) (p n : ℕ) (xs : List A) → p ≤ n → length xs ≡ suc n →
      take p (set xs n z) ++ (drop (suc p) xs ++ drop n (set xs n z)) ≡ removed z p xs
  unfolding removed
  removed_copied z p n [] h l = absurd (omega (arith, l))
  removed_copied z zero zero (x ∷ []) h l = refl
  removed_copied z zero zero (x ∷ y ∷ xs) h l = absurd (omega (arith, l))
  removed_copied z zero (suc n) (x ∷ []) h l = absurd (omega (arith, l))
  removed_copied z zero (suc n) (x ∷ y ∷ xs) h l = ap (λ (ys : List A). y ∷ ys) (removed_copied z zero n (y ∷ xs) (omega arith) (suc_inj l))
  removed_copied z (suc p) zero (x ∷ xs) h l = absurd (not-suc-le-zero h)
  removed_copied z (suc p) (suc n) (x ∷ xs) h l = ap (λ (ys : List A). x ∷ ys) (removed_copied z p n xs (le_of_suc-le-suc h) (suc_inj l))

  -- past the end nothing is taken out
  pub removed-past : (z : A) (p : ℕ) (xs : List A) → length xs ≤ p → removed z p xs ≡ xs
  unfolding removed
  removed-past z p [] h = refl
  removed-past z zero (x ∷ xs) h = absurd (not-suc-le-zero h)
  removed-past z (suc p) (x ∷ xs) h = ap (λ (ys : List A). x ∷ ys) (removed-past z p xs (le_of_suc-le-suc h))

  -- NUMBERS BELOW A BOUND

  -- what stands at each place
  pub below_list_all : (f : A → Bool) (xs : List A) (d : A) → all_below (length xs) (λ i. f (get_or xs i d)) ≡ list_all f xs
  unfolding all_below
  below_list_all f [] d = refl
  below_list_all f (x ∷ xs) d = below_first (length xs) (λ i. f (get_or (x ∷ xs) i d)) ∙ rw (below_list_all f xs d)

-- each number below n
pub below_range : (n : ℕ) (f : ℕ → Bool) → all_below n f ≡ list_all f (range_with_len 0 n)
unfolding all_below
below_range n f = below_same n f (λ i. f (0 + i)) (λ i l. rw (zero-add i)) ∙ from 0 n
  where
    from : (k n : ℕ) → all_below n (λ i. f (k + i)) ≡ list_all f (range_with_len k n)
    from k zero = refl
    from k (suc n) =
        below_first n (λ i. f (k + i)) ∙
        rw (add-zero k, below_same n (λ i. f (k + suc i)) (λ i. f (k + 1 + i)) (λ i l. rw (add-suc, add-one k, suc-add)), from (k + 1) n)
