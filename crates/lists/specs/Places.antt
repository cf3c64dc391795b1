-- Arrays of fixed length with a count: the first places are in use, the others hold zeros.
use Rattle.std.specs.Prelude.{List, [], ◌∷◌, ◌++◌, Bool, true, false, not, ◌&&◌, ◌||◌, cond, ℕ, zero, suc, ◌+◌, eqb, length}

-- a test as a number
abbrev pub ind : Bool → ℕ
ind true = 1
ind false = 0

-- NUMBERS BELOW A BOUND

-- the test passes at each number below n
unfoldable pub all_below : ℕ → (ℕ → Bool) → Bool
all_below zero f = true
all_below (suc n) f = all_below n f && f n

-- the sum of f at each number below n
unfoldable pub sum_below : ℕ → (ℕ → ℕ) → ℕ
sum_below zero f = 0
sum_below (suc n) f = sum_below n f + f n

-- the numbers from k on, n of them
unfoldable pub up_from : ℕ → ℕ → List ℕ
up_from k zero = []
up_from k (suc n) = k ∷ up_from (suc k) n

-- PLACES

module _ {A : Type 0} where
  -- the first n places pass the one test, the places behind them the other, and there are n places at least
  unfoldable pub fits : (A → Bool) → (A → Bool) → ℕ → List A → Bool
  fits used free zero [] = true
  fits used free (suc n) [] = false
  fits used free zero (x ∷ xs) = free x && fits used free zero xs
  fits used free (suc n) (x ∷ xs) = used x && fits used free n xs

  -- an array of so many places, the first n of which are in use
  unfoldable pub array : ℕ → (A → Bool) → (A → Bool) → ℕ → List A → Bool
  array places used free n xs = eqb (length xs) places && fits used free n xs

  -- the sum of a number of each of the first n places
  unfoldable pub weigh : (A → ℕ) → ℕ → List A → ℕ
  weigh f zero xs = 0
  weigh f (suc n) [] = 0
  weigh f (suc n) (x ∷ xs) = f x + weigh f n xs

  -- how many of the first n places pass the test
  abbrev pub tally : (A → Bool) → ℕ → List A → ℕ
  tally f n xs = weigh (λ (x : A). ind (f x)) n xs

  -- each of the first n places passes the test
  abbrev pub each_of : (A → Bool) → ℕ → List A → Bool
  each_of f n xs = fits f (λ (x : A). true) n xs

  -- none of the first n places passes the test
  abbrev pub none_of : (A → Bool) → ℕ → List A → Bool
  none_of f n xs = each_of (λ (x : A). not (f x)) n xs

  -- no two of the first n places are alike
  unfoldable pub unlike : (A → A → Bool) → ℕ → List A → Bool
  unlike same zero xs = true
  unlike same (suc n) [] = true
  unlike same (suc n) (x ∷ xs) = none_of (same x) n xs && unlike same n xs

  -- the place p is taken out, later places close the gap, and a zero comes in at the end
  unfoldable pub removed : A → ℕ → List A → List A
  removed z p [] = []
  removed z zero (x ∷ xs) = xs ++ (z ∷ [])
  removed z (suc p) (x ∷ xs) = x ∷ removed z p xs

  -- the first of n places that passes the test, or n where none does
  unfoldable pub first_at : (A → Bool) → ℕ → List A → ℕ
  first_at f zero xs = 0
  first_at f (suc n) [] = 0
  first_at f (suc n) (x ∷ xs) = cond (f x) 0 (suc (first_at f n xs))

  -- LISTS

  -- how many elements pass the test
  unfoldable pub count : (A → Bool) → List A → ℕ
  count f [] = 0
  count f (x ∷ xs) = ind (f x) + count f xs

  -- every element passes the test
  unfoldable pub each : (A → Bool) → List A → Bool
  each f [] = true
  each f (x ∷ xs) = f x && each f xs

  -- some element passes the test
  unfoldable pub some : (A → Bool) → List A → Bool
  some f [] = false
  some f (x ∷ xs) = f x || some f xs

  -- the lists at the numbers below n, one behind the other
  unfoldable pub all_of : ℕ → (ℕ → List A) → List A
  all_of zero f = []
  all_of (suc n) f = all_of n f ++ f n
