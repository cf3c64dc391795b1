-- Tests and what follows from them: T b says that the test b passes.
use mathlib.Core.Path.{◌≡◌, refl, sym}
use mathlib.Core.Bool.{Bool, true, false, not, ◌&&◌, ◌||◌, cond}
use Prim.Native.Nat.{ℕ, ◌≤◌, ◌<◌}
use native.Mathlib.Omega.{arith}
use lib.Dec.{T, eqb, eqb→eq, eqb_refl, not_T, T_not}
use Rattle.lists.specs.Places.{ind}

pub and_l : (a b : Bool) → T (a && b) → T a
and_l true b t = tt
and_l false b t = t

pub and_r : (a b : Bool) → T (a && b) → T b
and_r true b t = t
and_r false b t = absurd t

pub both : (a b : Bool) → T a → T b → T (a && b)
both true b t u = u
both false b t u = t

pub or_l : (a b : Bool) → T a → T (a || b)
or_l true b t = tt
or_l false b t = absurd t

pub or_r : (a b : Bool) → T b → T (a || b)
or_r true b t = tt
or_r false b t = t

pub by_or : {P : Type 0} (a b : Bool) → T (a || b) → (T a → P) → (T b → P) → P
by_or true b t f g = f tt
by_or false b t f g = g t

pub T_true : (b : Bool) → T b → b ≡ true
T_true true t = refl
T_true false t = absurd t

pub F_false : (b : Bool) → T (not b) → b ≡ false
F_false true t = absurd t
F_false false t = refl

pub not-not : (b : Bool) → T (not (not b)) → T b
not-not true t = tt
not-not false t = absurd t

-- a test passes or it does not
pub by_test : {P : Type 0} (b : Bool) → (T b → P) → (T (not b) → P) → P
by_test true f g = f tt
by_test false f g = g tt

-- what holds of both ways holds of the way that a test takes
pub by_cond : {A : Type 0} (P : A → Type 0) (b : Bool) (x y : A) → (T b → P x) → (T (not b) → P y) → P (cond b x y)
by_cond P true x y f g = f tt
by_cond P false x y f g = g tt

pub cond_T : {A : Type 0} (b : Bool) (x y : A) → T b → cond b x y ≡ x
cond_T true x y t = refl
cond_T false x y t = absurd t

pub cond_F : {A : Type 0} (b : Bool) (x y : A) → T (not b) → cond b x y ≡ y
cond_F true x y t = absurd t
cond_F false x y t = refl

-- two tests that pass in the same case
pub same_test : (a b : Bool) → (T a → T b) → (T b → T a) → a ≡ b
same_test true b f g = sym (T_true b (f tt))
same_test false true f g = absurd (g tt)
same_test false false f g = refl

-- the middle one of three tests moved to the front
pub and_swap : (a b c : Bool) → (a && (b && c)) ≡ (b && (a && c))
and_swap true b c = refl
and_swap false true c = refl
and_swap false false c = refl

-- NUMBERS

pub eqb_sym : (a b : ℕ) → T (eqb a b) → T (eqb b a)
eqb_sym a b t = let e : a ≡ b = eqb→eq a b t in rw e (eqb_refl b)

pub not_eqb_sym : (a b : ℕ) → T (not (eqb a b)) → T (not (eqb b a))
not_eqb_sym a b t = not_T (eqb b a) (λ u. T_not (eqb a b) t (eqb_sym b a u))

pub ne_of : (a b : ℕ) → T (not (eqb a b)) → a ≡ b → ⊥
ne_of a b t e = T_not (eqb a b) t (rw e (eqb_refl b))

pub of_ne : (a b : ℕ) → (a ≡ b → ⊥) → T (not (eqb a b))
of_ne a b h = not_T (eqb a b) (λ t. h (eqb→eq a b t))

-- a test counted
pub ind_T : (b : Bool) → T b → ind b ≡ 1
ind_T true t = refl
ind_T false t = absurd t

pub ind_F : (b : Bool) → T (not b) → ind b ≡ 0
ind_F true t = absurd t
ind_F false t = refl

pub ind-most : (b : Bool) → ind b ≤ 1
ind-most true = omega arith
ind-most false = omega arith

pub some_T : (b : Bool) → 0 < ind b → T b
some_T true h = tt
some_T false h = absurd (omega (arith, h))

-- a test narrowed by another
pub ind_and : (a b : Bool) → ind (a && b) ≤ ind a
ind_and true true = omega arith
ind_and true false = omega arith
ind_and false b = omega arith
