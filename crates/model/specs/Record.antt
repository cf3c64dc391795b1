-- Record 1 to 7: what a record is, what reading gives, and what writing leaves.
use mathlib.Core.List.{List, [], ◌∷◌, ◌++◌, flat_map}
use Rattle.std.specs.Prelude.{Bool, true, false, ◌||◌, cond, ℕ, ◌+◌, leb, eqb, length, get_or}
use Rattle.std.proofs.lemmas.List.Edits.{sets}
use Rattle.numbers.specs.Groups.{bytes_of, read_number}
use Rattle.model.specs.declared.Sizes.{Sizes}
use Rattle.model.specs.declared.Instruction.{Instruction}
use Rattle.model.specs.declared.Instruction.TheVariants.{Loadl, Storel, Commit, Reconcile, FenceRr, FenceRw, FenceWr, FenceWw}
use Rattle.model.specs.declared.Step.{Step}
use Rattle.model.specs.declared.Step.TheVariants.{Issue, Retry, Send, ArriveMemory, Serve, SendBack, ArriveSite, Take}
use Rattle.model.specs.declared.Refusal.TheVariants.{NoRecord, BufferShort, SizeOutside, RecordLong}
use Rattle.model.specs.Limits.{in_limits}
use Rattle.model.specs.Kinds.{loadl, storel, commit, reconcile, fence_rr, fence_rw, fence_wr}
use Rattle.model.specs.Issue.{kind_of}
use Rattle.model.specs.Given.{most_bytes}
use Rattle.std.specs.Prelude.{Ok, Err}
use Rattle.model.specs.Results.{ReadSizes, ReadStep, Wrote, sized, one, no_more}

-- THE LIMITS OF THE FIELDS

-- Covers 10: the largest number of a record
abbrev pub most_number : ℕ
most_number = 4294967295

-- Covers 10: the largest value
abbrev pub most_value : ℕ
most_value = 4294967295

-- THE BYTES OF A LIST OF STEPS

-- Record 1: the bytes of some numbers, one behind the other
abbrev pub bytes_of_all : List ℕ → List ℕ
bytes_of_all ns = flat_map bytes_of ns

-- Covers 3: the six sizes, in the table's order
abbrev pub six_of : Sizes → List ℕ
six_of z = z.sites ∷ z.words ∷ z.lines ∷ z.sets ∷ z.pend ∷ z.stall ∷ []

-- Record 2: a record begins with the bytes of its sizes
abbrev pub sizes_bytes : Sizes → List ℕ
sizes_bytes z = bytes_of_all (six_of z)

-- Record 3a: what follows an instruction's tag: one address, or two, or an address and a value
unfoldable pub operands : Instruction → List ℕ
operands (Loadl a) = a ∷ []
operands (Storel a v) = a ∷ v ∷ []
operands (Commit a) = a ∷ []
operands (Reconcile a) = a ∷ []
operands (FenceRr a b) = a ∷ b ∷ []
operands (FenceRw a b) = a ∷ b ∷ []
operands (FenceWr a b) = a ∷ b ∷ []
operands (FenceWw a b) = a ∷ b ∷ []

-- Record 3: the numbers of a step: its own first; for an issue then site, instruction, tag, operands; for the rest a site, a position or nothing
unfoldable pub numbers_of : Step → List ℕ
numbers_of (Issue i t n) = 0 ∷ i ∷ kind_of n ∷ t ∷ operands n
numbers_of (Retry i) = 1 ∷ i ∷ []
numbers_of (Send i) = 2 ∷ i ∷ []
numbers_of (ArriveMemory p) = 3 ∷ p ∷ []
numbers_of Serve = 4 ∷ []
numbers_of SendBack = 5 ∷ []
numbers_of (ArriveSite p) = 6 ∷ p ∷ []
numbers_of (Take i) = 7 ∷ i ∷ []

-- Record 3: the bytes of a step
abbrev pub step_bytes : Step → List ℕ
step_bytes x = bytes_of_all (numbers_of x)

-- Record 2: the bytes of a list of steps
abbrev pub steps_bytes : List Step → List ℕ
steps_bytes xs = flat_map step_bytes xs

-- Record 2: a whole record: sizes, and then nothing but steps
abbrev pub record_of : Sizes → List Step → List ℕ
record_of z xs = sizes_bytes z ++ steps_bytes xs

-- READING THE SIZES

-- Record 6: some numbers, with the offset past them; or the place of the first fault
pub data Numbers : Type 0 where
  numbers : List ℕ → ℕ → Numbers
  fault_at : ℕ → Numbers

-- Record 1: one number more, before the others
unfoldable pub consed : ℕ → Numbers → Numbers
consed v (numbers vs at) = numbers (v ∷ vs) at
consed v (fault_at place) = fault_at place

-- Record 1, 6: a number for each limit, one behind the other
unfoldable pub read_numbers : List ℕ → List ℕ → ℕ → Numbers
read_numbers [] bs at = numbers [] at
read_numbers (most ∷ ms) bs at = elim (read_number most bs at) [ Ok (v, next) ↦ consed v (read_numbers ms bs next) | Err fault ↦ fault_at fault.place ]

-- Covers 3: six numbers as sizes
abbrev pub sizes_of : List ℕ → Sizes
sizes_of vs = record { sites = get_or vs 0 0; words = get_or vs 1 0; lines = get_or vs 2 0; sets = get_or vs 3 0; pend = get_or vs 4 0; stall = get_or vs 5 0 }

-- Numbers 12: sizes outside their limits
abbrev pub sized_by : Sizes → ℕ → ReadSizes
sized_by z at = cond (in_limits z) (sized z at) (Err SizeOutside)

-- Numbers 15a: a fault among the six numbers comes before their limits
unfoldable pub sizes_from : Numbers → ReadSizes
sizes_from (numbers vs at) = sized_by (sizes_of vs) at
sizes_from (fault_at place) = Err (NoRecord place)

-- Covers 10: each size is read as a number of any magnitude
abbrev pub six_limits : List ℕ
six_limits = most_number ∷ most_number ∷ most_number ∷ most_number ∷ most_number ∷ most_number ∷ []

-- Numbers 13, 14c: too long a record is refused before its bytes are looked at
unfoldable pub read_sizes : List ℕ → ReadSizes
read_sizes bs = cond (leb (length bs) most_bytes) (sizes_from (read_numbers six_limits bs 0)) (Err RecordLong)

-- READING A STEP

-- Record 3a: the limits of the numbers behind an instruction's number: its tag and its operands
unfoldable pub issue_limits : ℕ → List ℕ
issue_limits k =
    cond (eqb k storel) (most_number ∷ most_number ∷ most_value ∷ [])
    (cond (leb k reconcile) (most_number ∷ most_number ∷ []) (most_number ∷ most_number ∷ most_number ∷ []))

-- Steps 9: the instruction of a number, with its operands
unfoldable pub instruction_of : ℕ → ℕ → ℕ → Instruction
instruction_of k a b =
    cond (eqb k loadl) (Loadl a)
    (cond (eqb k storel) (Storel a b)
    (cond (eqb k commit) (Commit a)
    (cond (eqb k reconcile) (Reconcile a)
    (cond (eqb k fence_rr) (FenceRr a b)
    (cond (eqb k fence_rw) (FenceRw a b)
    (cond (eqb k fence_wr) (FenceWr a b) (FenceWw a b)))))))

-- Record 3a: an issue, from its tag and operands
unfoldable pub issue_from : ℕ → ℕ → Numbers → ReadStep
issue_from i k (numbers vs at) = one (Issue i (get_or vs 0 0) (instruction_of k (get_or vs 1 0) (get_or vs 2 0))) at
issue_from i k (fault_at place) = Err (NoRecord place)

-- Record 3a, 6e: an issue, behind its step number: its site, its instruction number, which is a fault at its first byte above 7, and the rest
unfoldable pub read_issue : List ℕ → ℕ → ReadStep
read_issue bs at =
    elim (read_number most_number bs at) [
      | Err fault ↦ Err (NoRecord fault.place)
      | Ok (i, next) ↦
          elim (read_number most_number bs next) [
            | Err fault ↦ Err (NoRecord fault.place)
            | Ok (k, after) ↦ cond (leb k 7) (issue_from i k (read_numbers (issue_limits k) bs after)) (Err (NoRecord next))
          ]
    ]

-- Steps 2 to 8: the step of a number from 1 to 7, with its site or position, if it has one
unfoldable pub move_of : ℕ → ℕ → Step
move_of k v =
    cond (eqb k 1) (Retry v)
    (cond (eqb k 2) (Send v)
    (cond (eqb k 3) (ArriveMemory v)
    (cond (eqb k 4) Serve
    (cond (eqb k 5) SendBack
    (cond (eqb k 6) (ArriveSite v) (Take v))))))

-- Record 3b: a step other than an issue: one field, a site or a position, which serve and send-back do without
unfoldable pub read_move : List ℕ → ℕ → ℕ → ReadStep
read_move bs k at =
    cond (eqb k 4 || eqb k 5) (one (move_of k 0) at)
    (elim (read_number most_number bs at) [ Err fault ↦ Err (NoRecord fault.place) | Ok (v, next) ↦ one (move_of k v) next ])

-- Record 4, 6d: the fields of a step of kind k, behind its number at `start`. A step number above 7 is a fault at its first byte.
unfoldable pub read_fields : List ℕ → ℕ → ℕ → ℕ → ReadStep
read_fields bs start k at = cond (leb k 7) (cond (eqb k 0) (read_issue bs at) (read_move bs k at)) (Err (NoRecord start))

-- Record 3: the step at an offset
unfoldable pub step_at : List ℕ → ℕ → ReadStep
step_at bs at = elim (read_number most_number bs at) [ Err fault ↦ Err (NoRecord fault.place) | Ok (k, next) ↦ read_fields bs at k next ]

-- Record 7, Numbers 14c: at the end of the bytes there is no step but the end; past it, every fault is placed at the offset that was named
unfoldable pub read_step_of : ℕ → List ℕ → ℕ → ReadStep
read_step_of size bs at = cond (leb size most_bytes) (cond (eqb at size) no_more (step_at bs at)) (Err RecordLong)

-- Record 7: the same, for bytes of any length
abbrev pub read_step : List ℕ → ℕ → ReadStep
read_step bs at = read_step_of (length bs) bs at

-- WRITING

-- Contracts 1a: what a writer gives, and the buffer after it
pub record Written : Type 0 where
  pub wrote : Wrote
  pub buffer : List ℕ

-- Contracts 1a: what a writer gives, beside a buffer
abbrev pub written : Wrote → List ℕ → Written
written w buf = record { wrote = w; buffer = buf }

-- Numbers 1: whether a writer wrote
abbrev pub is_past : Wrote → Bool
is_past (Ok end) = true
is_past (Err why) = false

-- Numbers 17b: the offset past what it wrote; with a refusal it is 0
abbrev pub past_of : Wrote → ℕ
past_of (Ok end) = end
past_of (Err why) = 0

-- Numbers 11a: some bytes at an offset of a buffer, a record's or a listing's; 11 and nothing written where they do not fit
unfoldable pub put_at : List ℕ → List ℕ → ℕ → Written
put_at new buf at =
    cond (leb (at + length new) (length buf)) (written (Ok (at + length new)) (sets buf at new)) (written (Err BufferShort) buf)

-- Numbers 13, 16: in a record, 13 before that, where it would end past its most
unfoldable pub written_at : List ℕ → List ℕ → ℕ → Written
written_at new buf at = cond (leb (at + length new) most_bytes) (put_at new buf at) (written (Err RecordLong) buf)

-- Numbers 16: 12 comes before both
unfoldable pub write_sizes : Sizes → List ℕ → Written
write_sizes z buf = cond (in_limits z) (written_at (sizes_bytes z) buf 0) (written (Err SizeOutside) buf)

-- Record 3: a step, at an offset
unfoldable pub write_step : Step → List ℕ → ℕ → Written
write_step x buf at = written_at (step_bytes x) buf at
