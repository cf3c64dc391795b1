-- The samples of this crate hold, by computation: one refl for each row.
use mathlib.Core.Path.{refl}
use Rattle.model.specs.Sampling.{holds, EachHolds, end, ◌▸◌}
use Rattle.model.proofs.Samples.{all_hold}
use Rattle.samples.specs.Table.{table}
use Rattle.samples.specs.Handled.{issued_rows, retried_rows}
use Rattle.samples.specs.Carried.{carried_rows}
use Rattle.samples.specs.Took.{took_rows}
use Rattle.samples.specs.Kept.{kept_rows}
use Rattle.samples.specs.Order.{order_rows, address_rows, quiet_rows}
use Rattle.samples.specs.Faults.{step_fault_rows, above_rows, sizes_fault_rows, long_rows}
use Rattle.samples.specs.Listed.{listed_rows}
use Rattle.samples.specs.Unsound.{unused_rows, word_rows, clause_rows}

issued_hold : EachHolds issued_rows
unfolding holds issued_rows
issued_hold = refl ▸ refl ▸ refl ▸ refl ▸ refl ▸ refl ▸ refl ▸ refl ▸ refl ▸ refl ▸ refl ▸ refl ▸ end

retried_hold : EachHolds retried_rows
unfolding holds retried_rows
retried_hold = refl ▸ refl ▸ refl ▸ refl ▸ refl ▸ refl ▸ refl ▸ refl ▸ end

carried_hold : EachHolds carried_rows
unfolding holds carried_rows
carried_hold = refl ▸ refl ▸ refl ▸ refl ▸ refl ▸ refl ▸ refl ▸ refl ▸ refl ▸ end

took_hold : EachHolds took_rows
unfolding holds took_rows
took_hold = refl ▸ refl ▸ refl ▸ refl ▸ refl ▸ refl ▸ refl ▸ refl ▸ refl ▸ refl ▸ refl ▸ end

kept_hold : EachHolds kept_rows
unfolding holds kept_rows
kept_hold = refl ▸ refl ▸ end

order_hold : EachHolds order_rows
unfolding holds order_rows
order_hold = refl ▸ refl ▸ refl ▸ refl ▸ refl ▸ refl ▸ refl ▸ refl ▸ end

address_hold : EachHolds address_rows
unfolding holds address_rows
address_hold = refl ▸ refl ▸ refl ▸ refl ▸ refl ▸ end

quiet_hold : EachHolds quiet_rows
unfolding holds quiet_rows
quiet_hold = refl ▸ refl ▸ end

step_fault_hold : EachHolds step_fault_rows
unfolding holds step_fault_rows
step_fault_hold =
    refl ▸ refl ▸ refl ▸ refl ▸ refl ▸ refl ▸ refl ▸ refl ▸ refl ▸ refl ▸
    refl ▸ refl ▸ refl ▸ refl ▸ refl ▸ refl ▸ refl ▸ refl ▸ refl ▸ refl ▸
    refl ▸ refl ▸ refl ▸ refl ▸ refl ▸ refl ▸ refl ▸ refl ▸ refl ▸ refl ▸
    refl ▸ refl ▸ refl ▸ refl ▸ refl ▸ refl ▸ refl ▸ refl ▸ refl ▸ refl ▸
    refl ▸ refl ▸ refl ▸ refl ▸ refl ▸ refl ▸ refl ▸ refl ▸ refl ▸ refl ▸
    refl ▸ refl ▸ refl ▸ refl ▸ end

above_hold : EachHolds above_rows
unfolding holds above_rows
above_hold = refl ▸ refl ▸ refl ▸ refl ▸ end

sizes_fault_hold : EachHolds sizes_fault_rows
unfolding holds sizes_fault_rows
sizes_fault_hold = refl ▸ refl ▸ refl ▸ refl ▸ refl ▸ refl ▸ refl ▸ end

long_hold : EachHolds long_rows
unfolding holds long_rows
long_hold = refl ▸ refl ▸ refl ▸ refl ▸ refl ▸ refl ▸ refl ▸ refl ▸ end

listed_hold : EachHolds listed_rows
unfolding holds listed_rows
listed_hold = refl ▸ refl ▸ refl ▸ refl ▸ refl ▸ refl ▸ refl ▸ end

unused_hold : EachHolds unused_rows
unfolding holds unused_rows
unused_hold = refl ▸ refl ▸ refl ▸ refl ▸ refl ▸ refl ▸ refl ▸ refl ▸ refl ▸ end

word_hold : EachHolds word_rows
unfolding holds word_rows
word_hold = refl ▸ refl ▸ refl ▸ end

clause_hold : EachHolds clause_rows
unfolding holds clause_rows
clause_hold = refl ▸ refl ▸ refl ▸ refl ▸ refl ▸ refl ▸ refl ▸ refl ▸ refl ▸ refl ▸ refl ▸ refl ▸ end

-- every row of the table holds
pub samples : EachHolds table
unfolding table
samples =
    all_hold issued_rows _ issued_hold
    (all_hold retried_rows _ retried_hold
    (all_hold carried_rows _ carried_hold
    (all_hold took_rows _ took_hold
    (all_hold kept_rows _ kept_hold
    (all_hold order_rows _ order_hold
    (all_hold address_rows _ address_hold
    (all_hold quiet_rows _ quiet_hold
    (all_hold step_fault_rows _ step_fault_hold
    (all_hold above_rows _ above_hold
    (all_hold sizes_fault_rows _ sizes_fault_hold
    (all_hold long_rows _ long_hold
    (all_hold listed_rows _ listed_hold
    (all_hold unused_rows _ unused_hold
    (all_hold word_rows _ word_hold
    clause_hold))))))))))))))
