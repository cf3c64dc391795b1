-- The rows of this crate as one table.
use Rattle.std.specs.Prelude.{List, ◌++◌}
use Rattle.model.specs.Sampling.{Sample}
use Rattle.samples.specs.Handled.{issued_rows, retried_rows}
use Rattle.samples.specs.Carried.{carried_rows}
use Rattle.samples.specs.Took.{took_rows}
use Rattle.samples.specs.Kept.{kept_rows}
use Rattle.samples.specs.Order.{order_rows, address_rows, quiet_rows}
use Rattle.samples.specs.Faults.{step_fault_rows, above_rows, sizes_fault_rows, long_rows}
use Rattle.samples.specs.Listed.{listed_rows}
use Rattle.samples.specs.Unsound.{unused_rows, word_rows, clause_rows}

unfoldable pub table : List Sample
table =
    issued_rows ++ (retried_rows ++ (carried_rows ++ (took_rows ++ (kept_rows ++ (order_rows ++ (address_rows ++ (quiet_rows ++ (step_fault_rows ++
    (above_rows ++ (sizes_fault_rows ++ (long_rows ++ (listed_rows ++ (unused_rows ++ (word_rows ++ clause_rows))))))))))))))
