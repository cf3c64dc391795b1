use Rattle.std.proofs.Common.{◌≡◌, ◌+◌, length, true}
use Rattle.std.proofs.lemmas.List.Edits.{sets}
use Rattle.numbers.specs.Groups.{put_to}
use Rattle.record.specs.Rows.{are_all, rows_bytes}
use Rattle.record.specs.Whole.{steps_in}
use Rattle.record.proofs.whole.put_rows.Given as goal

abbrev pub invariant-rows : goal.invariant-rows
invariant-rows l =
    (length l.buf ≡ length l.initial.buf) × (are_all (steps_in l.rest) ≡ true) ×
    (put_to (l.past + length (rows_bytes (steps_in l.rest))) (sets l.buf l.past (rows_bytes (steps_in l.rest))) ≡
    put_to (l.start + length (rows_bytes (steps_in l.numbers))) (sets l.initial.buf l.start (rows_bytes (steps_in l.numbers))))

abbrev pub decreases-rows : goal.decreases-rows
decreases-rows l = length l.rest
