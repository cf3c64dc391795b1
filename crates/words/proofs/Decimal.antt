-- Decimals: one digit at a time, as the code writes a number, and the number that the digits stand for.
use mathlib.Core.Path.{◌≡◌, refl, ap, sym, ◌∙◌}
use mathlib.Core.List.{List, [], ◌∷◌, ◌++◌}
use Prim.Native.Nat.{ℕ, zero, suc, ◌+◌, ◌-◌, ◌*◌, ◌/◌, ◌%◌, ◌^◌, ◌≤◌, ◌<◌}
use native.Mathlib.Omega.{arith}
use lib.Dec.{T, ltb, ltb→lt, nltb→le}
use lib.ListN.{length, get_or, set, length-append}
use lib.Seq.{sets}
use borrow.Author.Tests.{lt-ltb, le-ltb, le-leb}
use Rattle.lists.specs.Places.{each}
use Rattle.lists.proofs.Tests.{by_test}
use Rattle.lists.proofs.Counts.{each_append}
use Rattle.lists.proofs.Stores.{sets_append}
use Rattle.numbers.specs.Groups.{Put, put_to}
use Rattle.model.specs.Replay.{digits, decimal}
use Rattle.words.specs.Digits.{is_digit, value_from, value_of}

-- THE LAST DIGIT, AND THOSE BEFORE IT

-- a number has one digit or more
one_or_more : {P : Type 0} (n : ℕ) → (n < 10 → P) → (10 ≤ n → P) → P
one_or_more n one more = by_test (ltb n 10) (λ t. one (ltb→lt n 10 t)) (λ t. more (nltb→le n 10 t))

digits_last : (g n : ℕ) → n < 10 → digits (suc g) n ≡ (48 + n) ∷ []
unfolding digits
digits_last g n h = rw (lt-ltb n 10 h, digits)

digits_more : (g n : ℕ) → 10 ≤ n → digits (suc g) n ≡ digits g (n / 10) ++ ((48 + n % 10) ∷ [])
unfolding digits
digits_more g n h = rw (le-ltb n 10 h, digits)

-- any bound above a number leaves room for all its digits
digits_enough : (g h n : ℕ) → n < g → n < h → digits g n ≡ digits h n
digits_enough zero h n p q = absurd (omega arith)
digits_enough (suc g) zero n p q = absurd (omega arith)
digits_enough (suc g) (suc h) n p q =
    one_or_more n (λ k. digits_last g n k ∙ sym (digits_last h n k))
    (λ k.
    digits_more g n k ∙ ap (λ (l : List ℕ). l ++ ((48 + n % 10) ∷ [])) (digits_enough g h (n / 10) (omega arith) (omega arith)) ∙
    sym (digits_more h n k))

pub decimal_last : (n : ℕ) → n < 10 → decimal n ≡ (48 + n) ∷ []
decimal_last n h = digits_last n n h

pub decimal_more : (n : ℕ) → 10 ≤ n → decimal n ≡ decimal (n / 10) ++ ((48 + n % 10) ∷ [])
decimal_more n h =
    digits_more n n h ∙ ap (λ (l : List ℕ). l ++ ((48 + n % 10) ∷ [])) (digits_enough n (suc (n / 10)) (n / 10) (omega arith) (omega arith))

-- THE LENGTH

pub length_more : (n : ℕ) → 10 ≤ n → length (decimal n) ≡ length (decimal (n / 10)) + 1
length_more n h = ap length (decimal_more n h) ∙ length-append (decimal (n / 10)) ((48 + n % 10) ∷ [])

-- a number below a power of ten has no more digits than the exponent
pub decimal-length : (g n : ℕ) → n < 10 ^ suc g → length (decimal n) ≤ suc g
decimal-length zero n h = omega (arith, ap length (decimal_last n h))
decimal-length (suc g) n h =
    one_or_more n (λ k. omega (arith, ap length (decimal_last n k))) (λ k. omega (arith, length_more n k, decimal-length g (n / 10) (omega arith)))

-- a number of 64 bits
pub decimal_most : (n : ℕ) → n < 18446744073709551616 → length (decimal n) ≤ 20
decimal_most n h = decimal-length 19 n (omega arith)

-- WRITING

-- a digit behind those that are written
pub put_more : (l m : List ℕ) (at past n : ℕ) → 10 ≤ n → put_to past m ≡ put_to (at + length (decimal (n / 10))) (sets l at (decimal (n / 10))) →
    put_to (past + 1) (set m past (48 + n % 10)) ≡ put_to (at + length (decimal n)) (sets l at (decimal n))
put_more l m at past n h e =
    let k : at + length (decimal (n / 10)) + 1 ≡ at + length (decimal n) = omega (arith, length_more n h) in
    let s : sets l at (decimal n) ≡ set (sets l at (decimal (n / 10))) (at + length (decimal (n / 10))) (48 + n % 10) =
    ap (sets l at) (decimal_more n h) ∙ sets_append (decimal (n / 10)) ((48 + n % 10) ∷ []) l at in
    ap (λ (p : Put). put_to (p.past + 1) (set p.buffer p.past (48 + n % 10))) e ∙ rw (k, s)

-- WHAT THE DIGITS STAND FOR

-- what holds of each one-digit number, and of a number where it holds without the last digit, holds of all
by_digits : (P : ℕ → Type 0) → ((n : ℕ) → n < 10 → P n) → ((n : ℕ) → 10 ≤ n → P (n / 10) → P n) → (n : ℕ) → P n
by_digits P one more n = below (suc n) n (omega arith)
  where
    below : (g n : ℕ) → n < g → P n
    below zero n h = absurd (omega arith)
    below (suc g) n h = one_or_more n (one n) (λ k. more n k (below g (n / 10) (omega arith)))

-- one more digit
value_more : (v : ℕ) (bs : List ℕ) (b : ℕ) → value_from v (bs ++ (b ∷ [])) ≡ value_from v bs * 10 + (b - 48)
unfolding value_from
value_more v [] b = refl
value_more v (x ∷ bs) b = value_more (v * 10 + (x - 48)) bs b

pub value-decimal : (n : ℕ) → value_of (decimal n) ≡ n
unfolding value_of value_from
value-decimal = by_digits (λ n. value_of (decimal n) ≡ n) one more
  where
    one : (n : ℕ) → n < 10 → value_of (decimal n) ≡ n
    one n h = rw (decimal_last n h) (omega arith)

    more : (n : ℕ) → 10 ≤ n → value_of (decimal (n / 10)) ≡ n / 10 → value_of (decimal n) ≡ n
    more n h ih = rw (decimal_more n h) (omega (arith, value_more 0 (decimal (n / 10)) (48 + n % 10)))

-- no two numbers have one decimal
pub decimal-once : (m n : ℕ) → decimal m ≡ decimal n → m ≡ n
decimal-once m n e = sym (value-decimal m) ∙ ap value_of e ∙ value-decimal n

is_digit_lem : (n : ℕ) → n < 10 → T (each is_digit ((48 + n) ∷ []))
unfolding each
is_digit_lem n h = rw (le-leb 48 (48 + n) (omega arith), le-leb (48 + n) 57 (omega arith)) tt

pub decimal-digits : (n : ℕ) → T (each is_digit (decimal n))
decimal-digits =
    by_digits (λ n. T (each is_digit (decimal n))) (λ n h. rw (decimal_last n h) (is_digit_lem n h))
    (λ n h ih. rw (decimal_more n h) (each_append is_digit (decimal (n / 10)) ((48 + n % 10) ∷ []) ih (is_digit_lem (n % 10) (omega arith))))

first_append : (l m : List ℕ) → 48 < get_or l 0 0 → 48 < get_or (l ++ m) 0 0
first_append [] m h = absurd (omega arith)
first_append (x ∷ l) m h = h

pub no_leading_zero : (n : ℕ) → 0 < n → 48 < get_or (decimal n) 0 0
no_leading_zero =
    by_digits (λ n. 0 < n → 48 < get_or (decimal n) 0 0) (λ n h p. rw (decimal_last n h) (omega arith))
    (λ n h ih p. rw (decimal_more n h) (first_append (decimal (n / 10)) ((48 + n % 10) ∷ []) (ih (omega arith))))
