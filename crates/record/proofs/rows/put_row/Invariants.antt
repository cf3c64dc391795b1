use Rattle.std.proofs.Common.{◌≡◌, ◌+◌, length, take}
use Rattle.std.proofs.lemmas.List.Edits.{sets}
use Rattle.numbers.specs.Groups.{put_to}
use Rattle.model.specs.Record.{bytes_of_all}
use Rattle.record.proofs.rows.put_row.Given as goal

abbrev pub invariant-loop-n : goal.invariant-loop-n
invariant-loop-n l =
    (length l.buf ≡ length l.initial.buf) ×
    (put_to l.past l.buf ≡
    put_to (l.at + length (bytes_of_all (take l.n-index l.n-items))) (sets l.initial.buf l.at (bytes_of_all (take l.n-index l.n-items))))
