-- Demand 1 at the calls that a bench links: a call that gives a number other than 0 leaves what was lent to it as it was. And demand 2 of the call
-- that writes a whole record. `Promised`, at the end, has a field for each statement; proofs/Demands.antt has its one value.
-- A statement on a call speaks of what the call's contract says it gives (r) and leaves (s', buf'). What is lent to be read alone is not written.
use Rattle.std.specs.Prelude.{◌≡◌, Bool, not, ℕ, ◌≤◌, T, eqb, length, drop}
use mathlib.Core.List.{List, ◌++◌, flat_map}
use Rattle.model.specs.declared.Given.{Given}
use Rattle.model.specs.declared.Sizes.{Sizes}
use Rattle.model.specs.declared.System.{System}
use Rattle.model.specs.declared.Step.{Step}
use Rattle.model.specs.Limits.{in_limits}
use Rattle.model.specs.Fresh.{no_sizes, blank}
use Rattle.model.specs.Given.{most_bytes}
use Rattle.model.specs.Record.{numbers_of, record_of, written}
use Rattle.codes.specs.Padded.{padded}
use Rattle.record.specs.Whole.{all, steps_in, write_whole}
use Rattle.promises.specs.Reading.{write_record}
use Rattle.promises.specs.Promises.{Kept}
use Rattle.calls.specs.declared.DrainGiven.{DrainGiven}
use Rattle.calls.specs.declared.WriteGiven.{WriteGiven}
use Rattle.calls.specs.Calls.{stepped_by, fresh_call, step_call, drained_by, drain_call, WriteBy, wrote_by, write_sizes_call, write_step_call, write_record_call}
use Rattle.std.specs.Prelude.{Ok}

-- the number says that the call was refused
abbrev pub is_refusal : ℕ → Bool
is_refusal number = not (eqb number 0)

-- THE LENT SYSTEM

-- Numbers 17d, of mwb_step.
abbrev pub StepCallKeeps : Type 0
StepCallKeeps =
    (s s' : System) (r : Given) (k i n t a b : ℕ) → stepped_by r s' ≡ step_call s k i n t a b → T (is_refusal r.number) → s' ≡ s

-- what a refused drain leaves and gives: system and buffer as they were, and no number but the refusal's
pub record NotDrained (s s' : System) (buf buf' : List ℕ) (r : DrainGiven) : Type 0 where
  pub system_kept : s' ≡ s
  pub buffer_kept : buf' ≡ buf
  pub no_quiet : r.quiet ≡ 0
  pub no_count : r.count ≡ 0
  pub no_length : r.length ≡ 0

-- Numbers 17b and 17d, of mwb_drain.
abbrev pub DrainCallKeeps : Type 0
DrainCallKeeps =
    (s s' : System) (budget : ℕ) (buf buf' : List ℕ) (r : DrainGiven) → drained_by r s' buf' ≡ drain_call s budget buf → T (is_refusal r.number) →
    NotDrained s s' buf buf' r

-- a refused mwb_fresh: its number, and the lent system after it
pub record NotFresh (s' : System) (r : Given) : Type 0 where
  pub number : r.number ≡ 12
  pub all_zero : s' ≡ blank no_sizes

-- Numbers 18a, of mwb_fresh: the one call whose refusal writes, since a state of all 0 is what document 01 has come back.
abbrev pub FreshCallZero : Type 0
FreshCallZero =
    (s' : System) (r : Given) (sites words lines sets pend stall : ℕ) → stepped_by r s' ≡ fresh_call sites words lines sets pend stall →
    T (is_refusal r.number) → NotFresh s' r

-- THE LENT BYTES

-- what a refused write leaves and gives: the buffer as it was, and no offset
pub record NotPut (buf buf' : List ℕ) (r : WriteGiven) : Type 0 where
  pub buffer_kept : buf' ≡ buf
  pub no_next : r.next ≡ 0

-- a call whose result and buffer are w writes nothing where it refuses
abbrev pub WriteByKeeps : List ℕ → WriteBy → Type 0
WriteByKeeps buf w = (buf' : List ℕ) (r : WriteGiven) → wrote_by r buf' ≡ w → T (is_refusal r.number) → NotPut buf buf' r

-- Numbers 17b and 17d, of mwb_write_sizes, of mwb_write_step,
abbrev pub WriteSizesCallKeeps : Type 0
WriteSizesCallKeeps = (sites words lines sets pend stall : ℕ) (buf : List ℕ) → WriteByKeeps buf (write_sizes_call sites words lines sets pend stall buf)

abbrev pub WriteStepCallKeeps : Type 0
WriteStepCallKeeps = (k i n t a b : ℕ) (buf : List ℕ) (at : ℕ) → WriteByKeeps buf (write_step_call k i n t a b buf at)

-- and of mwb_write_record.
abbrev pub WriteRecordCallKeeps : Type 0
WriteRecordCallKeeps =
    (sites words lines sets pend stall : ℕ) (ns buf : List ℕ) → WriteByKeeps buf (write_record_call sites words lines sets pend stall ns buf)

-- A RECORD WRITTEN WHOLE

-- a row for each step: its numbers, and 0 where it has none
abbrev pub rows_of : List Step → List ℕ
rows_of xs = flat_map (λ x. padded (numbers_of x)) xs

-- The rows of a list of steps name that list.
abbrev pub RowsName : Type 0
RowsName = (xs : List Step) → steps_in (rows_of xs) ≡ all xs

-- Demand 2: so every list of steps can be written. With sizes in their limits, a record that is not too long and a buffer with room, the buffer
-- begins with the record of these steps, and the rest of it stays.
abbrev pub WholeWritten : Type 0
WholeWritten =
    (z : Sizes) (xs : List Step) (buf : List ℕ) → T (in_limits z) → length (record_of z xs) ≤ most_bytes → length (record_of z xs) ≤ length buf →
    write_whole z (rows_of xs) buf ≡ written (Ok (length (record_of z xs))) (record_of z xs ++ drop (length (record_of z xs)) buf)

-- That is what the steps written one by one leave.
abbrev pub WholeAsSteps : Type 0
WholeAsSteps =
    (z : Sizes) (xs : List Step) (buf : List ℕ) → T (in_limits z) → length (record_of z xs) ≤ most_bytes → length (record_of z xs) ≤ length buf →
    write_whole z (rows_of xs) buf ≡ write_record z xs buf

-- Demand 1: whatever the sizes, the numbers and the buffer, all of it is written or no byte is altered.
abbrev pub WholeKeeps : Type 0
WholeKeeps = (z : Sizes) (ns buf : List ℕ) → Kept 0 buf (write_whole z ns buf)

-- ALL OF IT

pub record Promised : Type 0 where
  -- Demand 1
  pub step_call_keeps : StepCallKeeps
  pub drain_call_keeps : DrainCallKeeps
  pub fresh_call_zero : FreshCallZero
  pub write_sizes_call_keeps : WriteSizesCallKeeps
  pub write_step_call_keeps : WriteStepCallKeeps
  pub write_record_call_keeps : WriteRecordCallKeeps
  pub whole_keeps : WholeKeeps
  -- Demand 2
  pub rows_name : RowsName
  pub whole_written : WholeWritten
  pub whole_as_steps : WholeAsSteps
