use Rattle.std.proofs.Common.{◌≡◌, ◌≤◌, ◌+◌, length}
use Rattle.model.specs.Given.{most_bytes}
use Rattle.record.specs.Rows.{measured}
use Rattle.record.specs.Whole.{steps_in}
use Rattle.record.proofs.whole.measure.Given as goal

-- the rows still to come, behind what is counted, measure as all rows do behind the sizes
abbrev pub invariant-rows : goal.invariant-rows
invariant-rows l =
    (l.row + length l.rest ≤ length l.numbers) × (l.size ≤ most_bytes + 1) ×
    (measured l.size l.row (steps_in l.rest) ≡ measured l.sizes 0 (steps_in l.numbers))

abbrev pub decreases-rows : goal.decreases-rows
decreases-rows l = length l.rest
