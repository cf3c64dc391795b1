use Rattle.std.proofs.Common.{◌≡◌, ℕ, List, length}
use Rattle.std.specs.Io.KnownBytes.{Appends}
use Rattle.replay.specs.Going.{parts_left}
use Rattle.replay.proofs.Parts.{Part}
use Rattle.replay.proofs.print_listing.Given as goal

-- the parts before this one were written out
abbrev pub invariant-parts : goal.invariant-parts
invariant-parts g l =
    (out : List ℕ) × Part l.bytes l.buf out (l.length, l.rest) × Appends (g.W.Write.contents l.fn.output) (g.W.Write.contents l.output) out
    × (length l.buf ≡ length l.fn.buf)

-- the parts that may come yet
abbrev pub decreases-parts : goal.decreases-parts
decreases-parts g l = parts_left l.bytes l.rest
