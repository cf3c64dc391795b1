-- A row gone through one number at a time, as the code writes and reads it.
use mathlib.Core.Path.{◌≡◌, refl, ap, sym, ◌∙◌}
use mathlib.Core.List.{List, [], ◌∷◌, ◌++◌, append_assoc, append-nil, flat_map}
use Prim.Native.Nat.{ℕ, ◌+◌, ◌-◌, ◌≤◌, ◌<◌}
use native.Mathlib.Numerals.{add-one}
use native.Mathlib.Omega.{arith}
use lib.ListN.{length, get_or, set, take, drop, length-append, length-set, drop_of_length-le}
use lib.Seq.{sets, length-sets, take-suc, take-suc-set, take-add, drop-cons, take_all}
use Rattle.lists.proofs.Counts.{flat_append}
use Rattle.lists.proofs.Stores.{sets_append}
use Rattle.numbers.specs.Groups.{bytes_of, read_number, Put, put_to, put_bytes}
use Rattle.numbers.proofs.Grouped.{bytes_most, put_there}
use Rattle.numbers.specs.declared.Fault.{Fault}
use Rattle.model.specs.Record.{bytes_of_all, Numbers, numbers, fault_at, consed, read_numbers}
use Rattle.std.specs.Prelude.{Ok, Err}
use Rattle.numbers.specs.Groups.{got}

-- WRITING

pub no_bytes : bytes_of_all [] ≡ []
unfolding flat_map
no_bytes = refl

pub bytes_turn : (ns : List ℕ) (i : ℕ) → i < length ns → bytes_of_all (take (i + 1) ns) ≡ bytes_of_all (take i ns) ++ bytes_of (get_or ns i 0)
unfolding flat_map
bytes_turn ns i h =
    ap (λ (k : ℕ). bytes_of_all (take k ns)) (add-one i) ∙ ap bytes_of_all (take-suc ns i 0 h) ∙ flat_append bytes_of (take i ns) (get_or ns i 0 ∷ []) ∙
    ap (λ (l : List ℕ). bytes_of_all (take i ns) ++ l) (append-nil (bytes_of (get_or ns i 0)))

-- the first numbers take no more bytes than all
pub bytes_less : (ns : List ℕ) (i n : ℕ) → i ≤ n → length (bytes_of_all (take i ns)) ≤ length (bytes_of_all (take n ns))
bytes_less ns i n h =
    let p : i + (n - i) ≡ n = omega arith in
    rw (
      ← p,
      take-add i (n - i) ns,
      flat_append bytes_of (take i ns) (take (n - i) (drop i ns)),
      length-append (bytes_of_all (take i ns)) (bytes_of_all (take (n - i) (drop i ns))),
    )
    (omega arith)

-- some bytes behind others that were put
pub put_turn : (l done new : List ℕ) (at past : ℕ) (buf : List ℕ) (p : Put) → put_to past buf ≡ put_to (at + length done) (sets l at done) →
    p ≡ put_bytes new buf past → at + length (done ++ new) ≤ length l → p ≡ put_to (at + length (done ++ new)) (sets l at (done ++ new))
put_turn l done new at past buf p e f h =
    let q : past ≡ at + length done = ap (λ (x : Put). x.past) e in
    let r : buf ≡ sets l at done = ap (λ (x : Put). x.buffer) e in
    let s : at + length done + length new ≡ at + length (done ++ new) = omega (arith, length-append done new) in
    let t : put_bytes new buf past ≡ put_to (at + length done + length new) (sets (sets l at done) (at + length done) new) =
    rw (q, r) (put_there new (sets l at done) (at + length done) (omega (arith, h, s, length-sets l at done))) in
    f ∙ t ∙ rw (s, sets_append done new l at)

-- how long the bytes are, one number more
pub ruleset lengths = (no_bytes, bytes_turn, bytes_most, length-append)

-- READING

-- numbers read before others
abbrev pub prepended : List ℕ → Numbers → Numbers
prepended vs (numbers ws past) = numbers (vs ++ ws) past
prepended vs (fault_at place) = fault_at place

pub none_prepended : (m : Numbers) → prepended [] m ≡ m
none_prepended (numbers ws past) = refl
none_prepended (fault_at place) = refl

one_prepended : (vs : List ℕ) (v : ℕ) (m : Numbers) → prepended (vs ++ (v ∷ [])) m ≡ prepended vs (consed v m)
unfolding consed
one_prepended vs v (numbers ws past) = ap (λ (l : List ℕ). numbers l past) (append_assoc vs (v ∷ []) ws)
one_prepended vs v (fault_at place) = refl

module _ (bs ms ns : List ℕ) (i place : ℕ) where
  left_is : i < length ms → read_numbers (drop i ms) bs place ≡
      elim (read_number (get_or ms i 0) bs place) [ Ok (v, next) ↦ consed v (read_numbers (drop (i + 1) ms) bs next) | Err fault ↦ fault_at fault.place ]
  unfolding read_numbers
  left_is h =
      ap (λ (l : List ℕ). read_numbers l bs place)
      (drop-cons ms i 0 h ∙ ap (λ (j : ℕ). get_or ms i 0 ∷ drop j ms) (sym (add-one i)))

  -- one more number was read
  pub read_turn : (v past : ℕ) → i < length ms → i < length ns → read_number (get_or ms i 0) bs place ≡ got v past →
      prepended (take (i + 1) (set ns i v)) (read_numbers (drop (i + 1) ms) bs past) ≡ prepended (take i ns) (read_numbers (drop i ms) bs place)
  unfolding read_numbers
  read_turn v past h l e =
      ap (λ (vs : List ℕ). prepended vs (read_numbers (drop (i + 1) ms) bs past))
      (ap (λ (j : ℕ). take j (set ns i v)) (add-one i) ∙ take-suc-set ns i v l) ∙
      one_prepended (take i ns) v (read_numbers (drop (i + 1) ms) bs past) ∙ ap (prepended (take i ns)) (sym (rw e at (left_is h)))

  pub read_fault : (fault : Fault) → i < length ms → read_number (get_or ms i 0) bs place ≡ Err fault →
      fault_at fault.place ≡ prepended (take i ns) (read_numbers (drop i ms) bs place)
  read_fault fault h e = ap (prepended (take i ns)) (sym (rw e at (left_is h)))

  pub read_end : i ≡ length ms → i ≡ length ns → numbers ns place ≡ prepended (take i ns) (read_numbers (drop i ms) bs place)
  unfolding read_numbers
  read_end h k = rw (drop_of_length-le ms {i = i} (omega arith), append-nil (take i ns), take_all i ns (omega arith))

-- a row read, one number more
pub ruleset reading = (none_prepended, read_turn, read_fault, read_end, length-set)
