-- One group at a time, as the code writes and reads a number.
use mathlib.Core.Path.{◌≡◌, refl, ap, sym, ◌∙◌}
use mathlib.Core.List.{List, [], ◌∷◌}
use mathlib.Core.Bool.{Bool, true, false, ◌||◌, cond}
use Prim.Native.Nat.{ℕ, zero, suc, ◌+◌, ◌-◌, ◌*◌, ◌/◌, ◌%◌, ◌^◌, ◌≤◌, ◌<◌}
use native.Mathlib.Numerals.{add-one}
use native.Mathlib.Omega.{arith}
use lib.Dec.{leb, ltb}
use lib.ListN.{length, drop, get_or, set, drop_of_length-le, length-set}
use lib.Seq.{drop-cons, sets}
use borrow.Author.Tests.{le-leb, lt-leb, leb-true, leb-false, ltb-true, ltb-false}
use Rattle.std.specs.Prelude.{Ok, Err}
use Rattle.numbers.specs.Groups.{Got, no_number, got, encoded, bytes_of, Decoded, number, fault, above, decoded, limited, Put, put_to, put_bytes}
use Rattle.numbers.proofs.Codec.{never, encoded_last, encoded_more, decoded_last, decoded_long, decoded_more}

-- WRITING

-- a number of so many groups takes no more where it may
encoded_enough : (g n : ℕ) → n < 128 ^ suc g → encoded (suc (suc g)) n ≡ encoded (suc g) n
encoded_enough zero n h = encoded_last 1 n h ∙ sym (encoded_last 0 n h)
encoded_enough (suc g) n h = by (ltb n 128) refl (encoded_enough g (n / 128) (omega arith))
  where
    by : (b : Bool) → ltb n 128 ≡ b → encoded (suc (suc g)) (n / 128) ≡ encoded (suc g) (n / 128) → encoded (suc (suc (suc g))) n ≡ encoded (suc (suc g)) n
    by true e ih = encoded_last (suc (suc g)) n (ltb-true n 128 e) ∙ sym (encoded_last (suc g) n (ltb-true n 128 e))
    by false e ih =
        encoded_more (suc (suc g)) n (ltb-false n 128 e) ∙ ap (λ (l : List ℕ). (128 + n % 128) ∷ l) ih ∙
        sym (encoded_more (suc g) n (ltb-false n 128 e))

pub bytes_last : (n : ℕ) → n < 128 → bytes_of n ≡ n ∷ []
bytes_last n h = encoded_last 4 n h

pub bytes_more : (n : ℕ) → 128 ≤ n → n < 128 ^ 5 → bytes_of n ≡ (128 + n % 128) ∷ bytes_of (n / 128)
bytes_more n h k = encoded_more 4 n h ∙ ap (λ (l : List ℕ). (128 + n % 128) ∷ l) (sym (encoded_enough 3 (n / 128) (omega arith)))

-- at most a byte for each group
encoded-most : (g n : ℕ) → length (encoded g n) ≤ g
unfolding encoded
encoded-most zero n = omega arith
encoded-most (suc g) n = by (ltb n 128) refl (encoded-most g (n / 128))
  where
    by : (b : Bool) → ltb n 128 ≡ b → length (encoded g (n / 128)) ≤ g → length (encoded (suc g) n) ≤ suc g
    by true e ih = rw (encoded_last g n (ltb-true n 128 e)) (omega arith)
    by false e ih = rw (encoded_more g n (ltb-false n 128 e)) (omega arith)

pub bytes_most : (n : ℕ) → length (bytes_of n) ≤ 5
bytes_most n = encoded-most 5 n

-- where there is room, the bytes are put
pub put_there : (new buf : List ℕ) (at : ℕ) → at + length new ≤ length buf → put_bytes new buf at ≡ put_to (at + length new) (sets buf at new)
unfolding put_bytes
put_there new buf at h = rw (le-leb (at + length new) (length buf) h)

-- a group, and then the others at the next offset
pub put_more : (l : List ℕ) (at n : ℕ) (p : Put) → 128 ≤ n → n < 128 ^ 5 →
    p ≡ put_to (at + 1 + length (bytes_of (n / 128))) (sets (set l at (128 + n % 128)) (at + 1) (bytes_of (n / 128))) →
    p ≡ put_to (at + length (bytes_of n)) (sets l at (bytes_of n))
put_more l at n p h k e =
    let q : at + 1 + length (bytes_of (n / 128)) ≡ at + suc (length (bytes_of (n / 128))) = omega arith in
    e ∙ rw (bytes_more n h k, add-one at) (ap (λ (m : ℕ). put_to m (sets (set l at (128 + n % 128)) (suc at) (bytes_of (n / 128)))) (rw (add-one at) at q))

-- what tells how a number is written
pub ruleset writing = (bytes_last, bytes_more, put_more, length-set)

-- READING

not-number : {p v n : ℕ} → no_number p ≡ got v n → ⊥
not-number e = let z : ◌≡◌ {A = ℕ} 0 1 = cc in omega arith

-- the number that was got, or 0
unfoldable number_in : Got → ℕ
number_in (Ok (v, past)) = v
number_in (Err e) = 0

number_got : {v w n m : ℕ} → got v n ≡ got w m → v ≡ w
unfolding number_in
number_got e = ap number_in e

number_of : {v w k j : ℕ} → number v k ≡ number w j → v ≡ w
number_of e = cc

-- a number that goes on in further groups is not 0 there
decoded_positive : (g : ℕ) (bs : List ℕ) (v k : ℕ) → decoded g false bs ≡ number v k → 0 < v
unfolding decoded above
decoded_positive zero bs v k e = absurd (never e)
decoded_positive (suc g) [] v k e = absurd (never e)
decoded_positive (suc g) (b ∷ bs) v k e = by (ltb b 128) refl (λ w j q. decoded_positive g bs w j q)
  where
    last : (c : Bool) → ltb b 128 ≡ true → ltb 0 b ≡ c → 0 < v
    last true p q = let w : b ≡ v = number_of (sym (decoded_last g b false bs (ltb-true b 128 p) q) ∙ e) in omega (arith, ltb-true 0 b q)
    last false p q = absurd (never (sym (decoded_long g b false bs (ltb-true b 128 p) q) ∙ e))

    more : (d : Decoded) → decoded g false bs ≡ d → above (b - 128) (decoded g false bs) ≡ number v k →
        ((w j : ℕ) → decoded g false bs ≡ number w j → 0 < w) → 0 < v
    more fault q f ih = absurd (never (ap (above (b - 128)) (sym q) ∙ f))
    more (number w j) q f ih = let u : b - 128 + w * 128 ≡ v = number_of (ap (above (b - 128)) (sym q) ∙ f) in omega (arith, ih w j q)

    by : (c : Bool) → ltb b 128 ≡ c → ((w j : ℕ) → decoded g false bs ≡ number w j → 0 < w) → 0 < v
    by true p ih = last (ltb 0 b) p refl
    by false p ih = more (decoded g false bs) refl (sym (decoded_more g b false bs (ltb-false b 128 p)) ∙ e) ih

-- the number that the groups above a lowest one make with it
abbrev onto : ℕ → ℕ → ℕ → Got → Got
onto low most at (Ok (v, past)) = cond (leb (low + v * 128) most) (got (low + v * 128) past) (no_number at)
onto low most at (Err e) = no_number at

-- those groups have a limit of their own
limited-above : (low most at : ℕ) (d : Decoded) → low < 128 → limited most at (above low d) ≡ onto low most at (limited (most / 128) (at + 1) d)
unfolding limited above
limited-above low most at fault h = refl
limited-above low most at (number v k) h = by (leb v (most / 128)) refl
  where
    by : (b : Bool) → leb v (most / 128) ≡ b →
        cond (leb (low + v * 128) most) (got (low + v * 128) (at + suc k)) (no_number at) ≡
        onto low most at (cond (leb v (most / 128)) (got v (at + 1 + k)) (no_number (at + 1)))
    by true e = let p : at + suc k ≡ at + 1 + k = omega arith in rw (e, p)
    by false e = rw (e, lt-leb (low + v * 128) most (omega (arith, leb-false v (most / 128) e)))

limited_most : (most at : ℕ) (d : Decoded) (v past : ℕ) → limited most at d ≡ got v past → v ≤ most
unfolding limited
limited_most most at fault v past e = absurd (not-number e)
limited_most most at (number w k) v past e = by (leb w most) refl
  where
    by : (b : Bool) → leb w most ≡ b → v ≤ most
    by true p = let q : w ≡ v = number_got (rw p at e) in omega (arith, leb-true w most p)
    by false p = absurd (not-number (rw p at e))

-- the ways in which the code reads a group at an offset
module _ (bs : List ℕ) (at most : ℕ) (first : Bool) (g : ℕ) where
  pub read_none : length bs ≤ at → no_number at ≡ limited most at (decoded (suc g) first (drop at bs))
  unfolding decoded limited
  read_none h = sym (ap (λ (l : List ℕ). limited most at (decoded (suc g) first l)) (drop_of_length-le bs h))

  there : (d : Decoded) → at < length bs → decoded (suc g) first (get_or bs at 0 ∷ drop (at + 1) bs) ≡ d →
      limited most at (decoded (suc g) first (drop at bs)) ≡ limited most at d
  there d l e =
      ap (λ (l : List ℕ). limited most at (decoded (suc g) first l)) (drop-cons bs at 0 l ∙ ap (λ (k : ℕ). get_or bs at 0 ∷ drop k bs) (sym (add-one at))) ∙
      ap (limited most at) e

  -- the last group: the number, where it is shortest and no larger than the most
  pub read_last : at < length bs → get_or bs at 0 < 128 → (first || ltb 0 (get_or bs at 0)) ≡ true →
      limited most at (decoded (suc g) first (drop at bs)) ≡ cond (leb (get_or bs at 0) most) (got (get_or bs at 0) (at + 1)) (no_number at)
  unfolding limited
  read_last l h e = there (number (get_or bs at 0) 1) l (decoded_last g (get_or bs at 0) first (drop (at + 1) bs) h e)

  pub read_long : at < length bs → get_or bs at 0 < 128 → (first || ltb 0 (get_or bs at 0)) ≡ false →
      limited most at (decoded (suc g) first (drop at bs)) ≡ no_number at
  unfolding limited
  read_long l h e = there fault l (decoded_long g (get_or bs at 0) first (drop (at + 1) bs) h e)

  -- a group with others above it
  read_more : at < length bs → 128 ≤ get_or bs at 0 → get_or bs at 0 < 256 →
      limited most at (decoded (suc g) first (drop at bs)) ≡
      onto (get_or bs at 0 - 128) most at (limited (most / 128) (at + 1) (decoded g false (drop (at + 1) bs)))
  read_more l h k =
      there (above (get_or bs at 0 - 128) (decoded g false (drop (at + 1) bs))) l (decoded_more g (get_or bs at 0) first (drop (at + 1) bs) h) ∙
      limited-above (get_or bs at 0 - 128) most at (decoded g false (drop (at + 1) bs)) (omega arith)

  -- which is at least 128 in all
  pub read_small : at < length bs → 128 ≤ get_or bs at 0 → most < 128 → limited most at (decoded (suc g) first (drop at bs)) ≡ no_number at
  unfolding limited above
  read_small l h k =
      there (above (get_or bs at 0 - 128) (decoded g false (drop (at + 1) bs))) l (decoded_more g (get_or bs at 0) first (drop (at + 1) bs) h) ∙
      by (decoded g false (drop (at + 1) bs)) refl
    where
      by : (d : Decoded) → decoded g false (drop (at + 1) bs) ≡ d → limited most at (above (get_or bs at 0 - 128) (decoded g false (drop (at + 1) bs))) ≡ no_number at
      by fault e = ap (λ (d : Decoded). limited most at (above (get_or bs at 0 - 128) d)) e
      by (number v j) e =
          ap (λ (d : Decoded). limited most at (above (get_or bs at 0 - 128) d)) e ∙
          rw (lt-leb (get_or bs at 0 - 128 + v * 128) most (omega (arith, decoded_positive g (drop (at + 1) bs) v j e)))

-- a group, and what was read above it
pub read_above : (bs : List ℕ) (at most : ℕ) (first : Bool) (g : ℕ) (r : Got) → at < length bs → 128 ≤ get_or bs at 0 → get_or bs at 0 < 256 →
    128 ≤ most → most < 128 ^ suc g →
    ((j : ℕ) → most / 128 < 128 ^ suc j → r ≡ limited (most / 128) (at + 1) (decoded (suc j) false (drop (at + 1) bs))) →
    limited most at (decoded (suc g) first (drop at bs)) ≡ onto (get_or bs at 0 - 128) most at r
read_above bs at most first zero r l h k m n e = absurd (omega arith)
read_above bs at most first (suc j) r l h k m n e =
    read_more bs at most first (suc j) l h k ∙ ap (onto (get_or bs at 0 - 128) most at) (sym (e j (omega arith)))

-- what was read above a group is within its limit
pub above_most : (bs : List ℕ) (at most : ℕ) (r : Got) (v past : ℕ) → most / 128 < 128 ^ 5 →
    ((j : ℕ) → most / 128 < 128 ^ suc j → r ≡ limited (most / 128) (at + 1) (decoded (suc j) false (drop (at + 1) bs))) →
    r ≡ got v past → v ≤ most / 128
above_most bs at most r v past h e k = limited_most (most / 128) (at + 1) (decoded 5 false (drop (at + 1) bs)) v past (sym (e 4 h) ∙ k)
