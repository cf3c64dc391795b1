-- Laws of what is tested, added up or put together over the numbers below a bound.
use mathlib.Core.Path.{◌≡◌, refl, sym, ap, ◌∙◌}
use mathlib.Core.Logic.{⊎_elim}
use mathlib.Core.List.{List}
use mathlib.Core.Bool.{Bool, ◌&&◌, and-true, and_assoc}
use Prim.Native.Nat.{ℕ, zero, suc, ◌+◌, ◌*◌, ◌≤◌, ◌<◌}
use native.Mathlib.Nat.{not-suc-le-zero, le_of_suc-le-suc, eq-or-lt_of_le, mul-le-mul_right}
use native.Mathlib.Numerals.{add-one}
use native.Mathlib.Omega.{arith}
use native.Mathlib.Decide.{ℕ_discrete}
use lib.Dec.{T, ltb, eqb, ltb→lt, nltb→le, eqb_refl}
use lib.ListN.{length, get_or, set}
use lib.Seq.{get_or-set_same, get_or-set_other}
use Rattle.lists.specs.Places.{ind, all_below, sum_below}
use Rattle.lists.proofs.Tests.{and_l, and_r, both, by_test, ind_F, of_ne, ind_T}

-- TESTS

pub below_at : (n : ℕ) (f : ℕ → Bool) → T (all_below n f) → (k : ℕ) → k < n → T (f k)
unfolding all_below
below_at zero f t k h = absurd (not-suc-le-zero h)
below_at (suc n) f t k h =
    ⊎_elim (λ (e : k ≡ n). rw e (and_r (all_below n f) _ t)) (λ (l : k < n). below_at n f (and_l (all_below n f) _ t) k l) (eq-or-lt_of_le (le_of_suc-le-suc h))

pub below_all : (n : ℕ) (f : ℕ → Bool) → ((k : ℕ) → k < n → T (f k)) → T (all_below n f)
unfolding all_below
below_all zero f h = tt
below_all (suc n) f h = both (all_below n f) _ (below_all n f (λ k l. h k (omega arith))) (h n (omega arith))

-- a place put anew, where a test looks at each place and its number
pub below_set : {A : Type 0} (n : ℕ) (f : ℕ → A → Bool) (xs : List A) (i : ℕ) (y d : A) → i < length xs →
    T (all_below n (λ j. f j (get_or xs j d))) → T (f i y) → T (all_below n (λ j. f j (get_or (set xs i y) j d)))
below_set n f xs i y d h t u = below_all n (λ j. f j (get_or (set xs i y) j d)) (λ j l. go j l (ℕ_discrete j i))
  where
    go : (j : ℕ) → j < n → Dec (j ≡ i) → T (f j (get_or (set xs i y) j d))
    go j l (yes e) = rw (e, get_or-set_same xs i y d h) u
    go j l (no e) = rw (get_or-set_other xs i j y d e) (below_at n (λ j. f j (get_or xs j d)) t j l)

-- one number more
pub below_turn : (n : ℕ) (f : ℕ → Bool) → all_below (n + 1) f ≡ (all_below n f && f n)
unfolding all_below
below_turn n f = rw (add-one n)

-- the first number apart
pub below_first : (n : ℕ) (f : ℕ → Bool) → all_below (suc n) f ≡ (f 0 && all_below n (λ k. f (suc k)))
unfolding all_below
below_first zero f = sym (and-true (f 0))
below_first (suc n) f = ap (λ b. b && f (suc n)) (below_first n f) ∙ and_assoc (f 0) (all_below n (λ k. f (suc k))) (f (suc n))

-- tests that say the same of each number
pub below_same : (n : ℕ) (f g : ℕ → Bool) → ((k : ℕ) → k < n → f k ≡ g k) → all_below n f ≡ all_below n g
unfolding all_below
below_same zero f g h = refl
below_same (suc n) f g h = rw (below_same n f g (λ k l. h k (omega arith)), h n (omega arith))

-- SUMS

pub sum_same : (n : ℕ) (g g' : ℕ → ℕ) → ((j : ℕ) → j < n → g' j ≡ g j) → sum_below n g' ≡ sum_below n g
unfolding sum_below
sum_same zero g g' h = refl
sum_same (suc n) g g' h = let e : sum_below n g' ≡ sum_below n g = sum_same n g g' (λ j l. h j (omega arith)) in omega (arith, e, h n (omega arith))

-- one number's share anew
pub sum_put : (n : ℕ) (g g' : ℕ → ℕ) (i : ℕ) → i < n → ((j : ℕ) → (j ≡ i → ⊥) → g' j ≡ g j) → sum_below n g' + g i ≡ sum_below n g + g' i
unfolding sum_below
sum_put zero g g' i h k = absurd (not-suc-le-zero h)
sum_put (suc n) g g' i h k = ⊎_elim last before (eq-or-lt_of_le (le_of_suc-le-suc h)) (λ l. sum_put n g g' i l k)
  where
    last : i ≡ n → (i < n → sum_below n g' + g i ≡ sum_below n g + g' i) → sum_below n g' + g' n + g i ≡ sum_below n g + g n + g' i
    last e ih = rw e (omega (arith, sum_same n g g' (λ j l. k j (λ q. omega (arith, q, l, e)))))

    before : i < n → (i < n → sum_below n g' + g i ≡ sum_below n g + g' i) → sum_below n g' + g' n + g i ≡ sum_below n g + g n + g' i
    before l ih = omega (arith, ih l, k n (λ q. omega (arith, q, l)))

pub sum_at : (n : ℕ) (g : ℕ → ℕ) (i : ℕ) → i < n → g i ≤ sum_below n g
unfolding sum_below
sum_at zero g i h = absurd (not-suc-le-zero h)
sum_at (suc n) g i h =
    ⊎_elim (λ (e : i ≡ n). rw e (omega arith)) (λ (l : i < n). let e : g i ≤ sum_below n g = sum_at n g i l in omega (arith, e)) (eq-or-lt_of_le (le_of_suc-le-suc h))

pub sum_most : (n c : ℕ) (g : ℕ → ℕ) → ((i : ℕ) → i < n → g i ≤ c) → sum_below n g ≤ n * c
unfolding sum_below
sum_most zero c g h = omega arith
sum_most (suc n) c g h = let e : sum_below n g ≤ n * c = sum_most n c g (λ i l. h i (omega arith)) in omega (arith, e, h n (omega arith))

-- the shares from m on are nothing
pub sum_within : (n m c : ℕ) (g : ℕ → ℕ) → ((i : ℕ) → i < m → g i ≤ c) → ((i : ℕ) → i < n → m ≤ i → g i ≡ 0) → sum_below n g ≤ m * c
unfolding sum_below
sum_within zero m c g h k = omega arith
sum_within (suc n) m c g h k =
    by_test (ltb n m)
    (λ l. let a : sum_below (suc n) g ≤ suc n * c = sum_most (suc n) c g (λ i j. h i (omega (arith, j, ltb→lt n m l))) in
    let b : suc n * c ≤ m * c = mul-le-mul_right c (ltb→lt n m l) in omega (arith, a, b))
    (λ l. omega (arith, sum_within n m c g h (λ i j. k i (omega arith)), k n (omega arith) (nltb→le n m l)))

pub sum_both : (n : ℕ) (f g : ℕ → ℕ) → sum_below n (λ i. f i + g i) ≡ sum_below n f + sum_below n g
unfolding sum_below
sum_both zero f g = refl
sum_both (suc n) f g = omega (arith, sum_both n f g)

pub sum_less : (n : ℕ) (f g : ℕ → ℕ) → ((i : ℕ) → i < n → f i ≤ g i) → sum_below n f ≤ sum_below n g
unfolding sum_below
sum_less zero f g h = omega arith
sum_less (suc n) f g h = let e : sum_below n f ≤ sum_below n g = sum_less n f g (λ i l. h i (omega arith)) in omega (arith, e, h n (omega arith))

pub sum_more : (n m : ℕ) (f : ℕ → ℕ) → n ≤ m → sum_below n f ≤ sum_below m f
unfolding sum_below
sum_more n zero f h = let e : n ≡ zero = omega arith in rw e (omega arith)
sum_more n (suc m) f h =
    ⊎_elim (λ (e : n ≡ suc m). rw e (omega arith)) (λ (l : n < suc m). omega (arith, sum_more n m f (le_of_suc-le-suc l))) (eq-or-lt_of_le h)

-- a number is one of those below n once at most
pub one_below : (n k : ℕ) → k < n → sum_below n (λ i. ind (eqb k i)) ≡ 1
one_below n k l =
    omega (
      arith,
      sum_put n (λ i. 0) (λ i. ind (eqb k i)) k l (λ j h. ind_F (eqb k j) (of_ne k j (λ e. h (sym e)))),
      sum_most n 0 (λ i. 0) (λ i l. omega arith),
      ind_T (eqb k k) (eqb_refl k),
    )

pub once_below : (n k : ℕ) → sum_below n (λ i. ind (eqb k i)) ≤ 1
once_below n k =
    by_test (ltb k n) (λ l. omega (arith, one_below n k (ltb→lt k n l)))
    (λ l. omega (arith, sum_most n 0 (λ i. ind (eqb k i)) (λ i h. omega (arith, ind_F (eqb k i) (of_ne k i (λ e. omega (arith, e, h, nltb→le k n l)))))))
