-- Record 1, 6: a number in bytes. A byte holds seven of its bits, lowest bits first, and a byte with its top bit set says that one more
-- follows. Of the ways to write a number so, only the shortest is one.
use Rattle.std.specs.Prelude.{List, [], ◌∷◌, Bool, true, false, ◌||◌, cond, ℕ, zero, suc, ◌+◌, ◌-◌, ◌*◌, ◌/◌, ◌%◌, leb, ltb, length, drop, Result, Ok, Err}
use Rattle.std.proofs.lemmas.List.Edits.{sets}
use Rattle.lists.specs.Places.{each}
use Rattle.numbers.specs.declared.Fault.{Fault}

-- Record 1: each is a byte
abbrev pub bytes : List ℕ → Bool
bytes bs = each (λ b. ltb b 256) bs

-- WRITING

-- Record 1a, 1b: the bytes of n, in g groups at most
unfoldable pub encoded : ℕ → ℕ → List ℕ
encoded zero n = []
encoded (suc g) n = cond (ltb n 128) (n ∷ []) ((128 + n % 128) ∷ encoded g (n / 128))

-- Covers 10: the largest number of a record takes five groups
abbrev pub most_groups : ℕ
most_groups = 5

-- Record 1: the bytes of a number of a record
abbrev pub bytes_of : ℕ → List ℕ
bytes_of n = encoded most_groups n

-- READING

-- Record 6: a number and how many bytes it took, or none
pub data Decoded : Type 0 where
  number : ℕ → ℕ → Decoded
  fault : Decoded

-- Record 1a: the number that goes on in the groups above its lowest
unfoldable pub above : ℕ → Decoded → Decoded
above low (number v k) = number (low + v * 128) (suc k)
above low fault = fault

-- Record 1b, 1c, 6a, 6b: the number at the start of the bytes, in g groups at most. A last group of 0 is right only where it is the first.
unfoldable pub decoded : ℕ → Bool → List ℕ → Decoded
decoded zero first bs = fault
decoded (suc g) first [] = fault
decoded (suc g) first (b ∷ bs) = cond (ltb b 128) (cond (first || ltb 0 b) (number b 1) fault) (above (b - 128) (decoded g false bs))

-- Record 6: a number with the offset past it, or a fault
abbrev pub Got : Type 0
Got = Result (ℕ × ℕ) Fault

-- Record 6: a number that was read, with the offset past it
abbrev pub got : ℕ → ℕ → Got
got v past = Ok (v, past)

-- Record 6: a fault, which is at its place
abbrev pub no_number : ℕ → Got
no_number place = Err (record { place = place })

-- Record 6: a number within its field's limit; an unfinished one, one with a needless byte and one above the limit are faults at their first byte
unfoldable pub limited : ℕ → ℕ → Decoded → Got
limited most at (number v k) = cond (leb v most) (got v (at + k)) (no_number at)
limited most at fault = no_number at

-- Record 1, 6: the number at an offset of the bytes, for a field of which so much is the most
unfoldable pub read_number : ℕ → List ℕ → ℕ → Got
read_number most bs at = limited most at (decoded most_groups true (drop at bs))

-- WRITING INTO A BUFFER

-- Contracts 1a: the offset past what was written, and the buffer after it
pub record Put : Type 0 where
  pub past : ℕ
  pub buffer : List ℕ

-- Contracts 1a: an offset beside a buffer
abbrev pub put_to : ℕ → List ℕ → Put
put_to past buffer = record { past = past; buffer = buffer }

-- Numbers 11a: some bytes at an offset of a buffer; nothing is written where they have no room
unfoldable pub put_bytes : List ℕ → List ℕ → ℕ → Put
put_bytes new buf at = cond (leb (at + length new) (length buf)) (put_to (at + length new) (sets buf at new)) (put_to at buf)

-- Record 1: a number's bytes at an offset of a buffer
abbrev pub write_number : ℕ → List ℕ → ℕ → Put
write_number n buf at = put_bytes (bytes_of n) buf at
