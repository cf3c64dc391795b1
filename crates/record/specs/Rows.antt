-- What the code's rows of numbers stand for, read and named.
use Rattle.std.specs.Prelude.{List, [], Bool, true, false, cond, ℕ, ◌+◌, min, leb, length, get_or, Result, Ok, Err}
use Rattle.model.specs.Given.{most_bytes}
use Rattle.model.specs.Record.{steps_bytes, Numbers, numbers, fault_at, instruction_of}
use Rattle.codes.specs.Named.{Named, named_by}
use Rattle.numbers.specs.declared.Fault.{Fault}
use Rattle.model.specs.declared.Step.TheVariants.{Issue}
use Rattle.model.specs.declared.Refusal.{Refusal}
use Rattle.record.specs.Whole.{Steps, all, none_at}
use Rattle.model.specs.Results.{ReadStep, one}
use Rattle.model.specs.declared.Refusal.TheVariants.{NoRecord, RecordLong, BufferShort}

-- numbers that were read, or the place of the one that is broken
abbrev pub read_as : Result (List ℕ × ℕ) Fault → Numbers
read_as (Ok (vs, past)) = numbers vs past
read_as (Err fault) = fault_at fault.place

-- the issue of a tag and two operands that were read, or why there is none
abbrev pub issue_of : ℕ → ℕ → Result (List ℕ × ℕ) Fault → ReadStep
issue_of i k (Ok (vs, past)) = one (Issue i (get_or vs 0 0) (instruction_of k (get_or vs 1 0) (get_or vs 2 0))) past
issue_of i k (Err fault) = Err (NoRecord fault.place)

-- the step that a row of six numbers names
abbrev pub named_by_row : List ℕ → Named
named_by_row ns = named_by (get_or ns 0 0) (get_or ns 1 0) (get_or ns 2 0) (get_or ns 3 0) (get_or ns 4 0) (get_or ns 5 0)

-- a length as the code counts it: all that is longer than a record is as good as one byte more than its most
abbrev pub cut : ℕ → ℕ
cut n = min n (most_bytes + 1)

-- the row of this number, from 0, names no step
abbrev pub none_in : ℕ → Result ℕ Refusal
none_in row = Err (NoRecord row)

-- so many bytes and those of the steps, cut; or the first row that names none, behind so many others
unfoldable pub measured : ℕ → ℕ → Steps → Result ℕ Refusal
measured size row (all xs) = Ok (cut (size + length (steps_bytes xs)))
measured size row (none_at more) = none_in (row + more)

-- whether every row names a step, and the bytes of these steps
unfoldable pub are_all : Steps → Bool
are_all (all xs) = true
are_all (none_at row) = false

unfoldable pub rows_bytes : Steps → List ℕ
rows_bytes (all xs) = steps_bytes xs
rows_bytes (none_at row) = []

-- the offset past so many bytes where they have room: 13 where a record would be too long, then 11 where the buffer is
-- too short
unfoldable pub room_in : ℕ → ℕ → ℕ → Result ℕ Refusal
room_in len at size = cond (leb (at + size) most_bytes) (cond (leb (at + size) len) (Ok (at + size)) (Err BufferShort)) (Err RecordLong)
