-- What is outstanding, in any state: the sizes may say any number of sites.
use Rattle.std.proofs.Common.{◌≡◌, ℕ, zero, suc, ◌+◌, length, length-append, take, List, [], ◌∷◌, get_or, refl, ◌∙◌, arith}
use Rattle.std.specs.List.{zip, sum_by}
use Rattle.std.proofs.lemmas.List.Sums.{sum_by-cons}
use Rattle.lists.specs.Places.{sum_below}

-- the first number, and then the others
sum_first : (n : ℕ) (f : ℕ → ℕ) → sum_below (suc n) f ≡ f 0 + sum_below n (λ i. f (suc i))
unfolding sum_below
sum_first zero f = omega arith
sum_first (suc n) f = omega (arith, sum_first n f)

-- numbers that are all 0
sum_none : (n : ℕ) (f : ℕ → ℕ) → ((i : ℕ) → f i ≡ 0) → sum_below n f ≡ 0
unfolding sum_below
sum_none zero f h = refl
sum_none (suc n) f h = omega (arith, sum_none n f h, h n)

-- a sum over the places of two arrays side by side, where past them there is nothing
pub sum_zip : {A B : Type 0} (f : A × B → ℕ) (a : A) (b : B) → f (a, b) ≡ 0 → (n : ℕ) (xs : List A) (ys : List B) → length xs ≡ length ys →
    sum_below n (λ i. f (get_or xs i a, get_or ys i b)) ≡ sum_by f (take n (zip xs ys))
unfolding sum_below
sum_zip f a b z zero xs ys e = refl
sum_zip f a b z (suc n) [] [] e = sum_none (suc n) _ (λ i. z)
sum_zip f a b z (suc n) [] (y ∷ ys) e = absurd (omega arith)
sum_zip f a b z (suc n) (x ∷ xs) [] e = absurd (omega arith)
sum_zip f a b z (suc n) (x ∷ xs) (y ∷ ys) e =
    sum_first n (λ i. f (get_or (x ∷ xs) i a, get_or (y ∷ ys) i b)) ∙
    rw (sum_zip f a b z n xs ys (omega arith), sum_by-cons f (x, y) (take n (zip xs ys)))

-- as many messages as in both lists
pub ruleset lengths = (length-append)
