use Rattle.std.proofs.Common.{◌≡◌, length, take, drop}
use Rattle.model.specs.Record.{read_numbers}
use Rattle.record.proofs.RowTurns.{prepended}
use Rattle.record.proofs.rows.read_row.Given as goal

abbrev pub invariant-loop-i : goal.invariant-loop-i
invariant-loop-i g l =
    (length l.numbers ≡ l.i-end) × (length l.limits ≡ l.i-end) ×
    (prepended (take l.i l.numbers) (read_numbers (drop l.i l.limits) l.bytes l.past) ≡ read_numbers l.limits l.bytes l.at)
