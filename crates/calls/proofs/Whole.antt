-- What is promised of a record written whole.
use mathlib.Core.Path.{◌≡◌, refl, sym, ◌∙◌}
use mathlib.Core.List.{List, [], ◌∷◌, flat_map}
use native.Mathlib.Omega.{arith}
use native.Mathlib.Nat.{zero-add}
use Prim.Native.Nat.{ℕ}
use lib.ListN.{get_or}
use lib.Seq.{sets-eq}
use Rattle.lists.proofs.Tests.{by_cond, T_true}
use Rattle.model.specs.declared.Instruction.{Instruction}
use Rattle.model.specs.declared.Instruction.TheVariants.{Loadl, Storel, Commit, Reconcile, FenceRr, FenceRw, FenceWr, FenceWw}
use Rattle.model.specs.declared.Step.{Step}
use Rattle.model.specs.declared.Step.TheVariants.{Issue, Retry, Send, ArriveMemory, Serve, SendBack, ArriveSite, Take}
use Rattle.model.specs.declared.Refusal.TheVariants.{NoRecord, SizeOutside}
use Rattle.model.specs.declared.Sizes.{Sizes}
use Rattle.model.specs.Limits.{in_limits}
use Rattle.model.specs.Issue.{kind_of}
use Rattle.model.specs.Record.{operands, numbers_of, record_of, instruction_of, move_of}
use Rattle.codes.specs.Named.{named_by}
use Rattle.promises.specs.Promises.{Kept}
use Rattle.promises.proofs.Writes.{written_at_lem, record_put, at_kept, refusal_kept}
use Rattle.record.specs.Whole.{Steps, all, none_at, step_then, row_then, steps_in, write_rows, write_whole}
use Rattle.calls.specs.Promises.{RowsName, WholeWritten, WholeAsSteps, WholeKeeps}
use Rattle.std.specs.Prelude.{Ok}

-- THE ROWS OF STEPS

issue_named : (i t : ℕ) (n : Instruction) → named_by 0 i (kind_of n) t (get_or (operands n) 0 0) (get_or (operands n) 1 0) ≡ Ok (Issue i t n)
unfolding named_by kind_of operands instruction_of
issue_named i t (Loadl a) = refl
issue_named i t (Storel a v) = refl
issue_named i t (Commit a) = refl
issue_named i t (Reconcile a) = refl
issue_named i t (FenceRr a b) = refl
issue_named i t (FenceRw a b) = refl
issue_named i t (FenceWr a b) = refl
issue_named i t (FenceWw a b) = refl

-- the row of a step names it
step_named_lem : (x : Step) →
    named_by (get_or (numbers_of x) 0 0) (get_or (numbers_of x) 1 0) (get_or (numbers_of x) 2 0) (get_or (numbers_of x) 3 0) (get_or (numbers_of x) 4 0) (get_or (numbers_of x) 5 0) ≡ Ok x
unfolding numbers_of named_by move_of
step_named_lem (Issue i t n) = issue_named i t n
step_named_lem (Retry i) = refl
step_named_lem (Send i) = refl
step_named_lem (ArriveMemory p) = refl
step_named_lem Serve = refl
step_named_lem SendBack = refl
step_named_lem (ArriveSite p) = refl
step_named_lem (Take i) = refl

pub rows_name : RowsName
unfolding steps_in row_then step_then flat_map
rows_name [] = refl
rows_name (x ∷ xs) = rw (step_named_lem x, rows_name xs)

-- WRITTEN WHOLE

pub whole_written : WholeWritten
unfolding write_whole write_rows
whole_written z xs buf t m l =
    rw (T_true (in_limits z) t, rows_name xs, written_at_lem (record_of z xs) buf 0 (omega arith) (omega arith), sets-eq (record_of z xs) buf 0 (omega arith), zero-add)

pub whole_as_steps : WholeAsSteps
whole_as_steps z xs buf t m l = whole_written z xs buf t m l ∙ sym (record_put z xs buf t m l)

-- ALL OR NOTHING

rows_keep : (z : Sizes) (s : Steps) (buf : List ℕ) → Kept 0 buf (write_rows z s buf)
unfolding write_rows
rows_keep z (all xs) buf = at_kept (record_of z xs) buf 0
rows_keep z (none_at row) buf = refusal_kept 0 buf (NoRecord row)

pub whole_keeps : WholeKeeps
unfolding write_whole
whole_keeps z ns buf = by_cond (Kept 0 buf) (in_limits z) _ _ (λ t. rows_keep z (steps_in ns) buf) (λ t. refusal_kept 0 buf SizeOutside)
