-- A record written whole, of sizes and of steps that stand as rows of six numbers: all of it or nothing.
use Rattle.std.specs.Prelude.{List, [], ◌∷◌, cond, ℕ, suc}
use Rattle.model.specs.declared.Sizes.{Sizes}
use Rattle.model.specs.declared.Step.{Step}
use Rattle.model.specs.declared.Refusal.TheVariants.{NoRecord, SizeOutside}
use Rattle.model.specs.Limits.{in_limits}
use Rattle.model.specs.Record.{record_of, Written, written, written_at}
use Rattle.codes.specs.Named.{Named, named_by}
use Rattle.std.specs.Prelude.{Ok, Err}

-- what rows name: a step each; or there is a first row, of this number from 0, that names none
pub data Steps : Type 0 where
  all : List Step → Steps
  none_at : ℕ → Steps

-- a row's step before those of the rows behind it; their numbers are one more then
unfoldable pub step_then : Step → Steps → Steps
step_then x (all xs) = all (x ∷ xs)
step_then x (none_at row) = none_at (suc row)

unfoldable pub row_then : Named → Steps → Steps
row_then (Ok x) rest = step_then x rest
row_then (Err why) rest = none_at 0

-- The steps of rows of six numbers, in the order of a record. A last row that is cut short names none.
unfoldable pub steps_in : List ℕ → Steps
steps_in [] = all []
steps_in (k ∷ []) = none_at 0
steps_in (k ∷ i ∷ []) = none_at 0
steps_in (k ∷ i ∷ n ∷ []) = none_at 0
steps_in (k ∷ i ∷ n ∷ t ∷ []) = none_at 0
steps_in (k ∷ i ∷ n ∷ t ∷ a ∷ []) = none_at 0
steps_in (k ∷ i ∷ n ∷ t ∷ a ∷ b ∷ rest) = row_then (named_by k i n t a b) (steps_in rest)

-- 10 has the row's number as its place; 13 and then 11 are looked at behind it.
unfoldable pub write_rows : Sizes → Steps → List ℕ → Written
write_rows z (all xs) buf = written_at (record_of z xs) buf 0
write_rows z (none_at row) buf = written (Err (NoRecord row)) buf

-- 12 is looked at first.
unfoldable pub write_whole : Sizes → List ℕ → List ℕ → Written
write_whole z ns buf = cond (in_limits z) (write_rows z (steps_in ns) buf) (written (Err SizeOutside) buf)
