use Rattle.std.proofs.Common.{◌≡◌, ◌≤◌, ◌*◌, length, take}
use Rattle.model.specs.Record.{bytes_of_all}
use Rattle.record.proofs.rows.row_length.Given as goal

abbrev pub invariant-loop-n : goal.invariant-loop-n
invariant-loop-n l = (l.size ≡ length (bytes_of_all (take l.n-index l.n-items))) × (l.size ≤ 5 * l.n-index)
