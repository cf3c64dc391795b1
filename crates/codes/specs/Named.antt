-- The step that numbers name.
use Rattle.std.specs.Prelude.{cond, ℕ, ltb, Result, Ok, Err}
use Rattle.model.specs.declared.Step.{Step}
use Rattle.model.specs.declared.Refusal.{Refusal}
use Rattle.model.specs.declared.Step.TheVariants.{Issue}
use Rattle.model.specs.Record.{instruction_of, move_of}
use Rattle.model.specs.declared.Refusal.TheVariants.{NoRecord}

-- Record 4: the step that numbers name, or why they name none
abbrev pub Named : Type 0
Named = Result Step Refusal

-- Record 4: six numbers in a record's order: step, site or position, instruction, tag, first operand, second operand. From 8 on a number names no step and no instruction.
unfoldable pub named_by : ℕ → ℕ → ℕ → ℕ → ℕ → ℕ → Named
named_by k i n t a b =
    cond (ltb 7 k) (Err (NoRecord 0))
    (cond (ltb 0 k) (Ok (move_of k i))
    (cond (ltb 7 n) (Err (NoRecord 2)) (Ok (Issue i t (instruction_of n a b)))))
