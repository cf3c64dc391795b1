use Rattle.std.proofs.Common.{◌+◌, ◌-◌, length}
use Rattle.replay.proofs.Onward.{Onward}
use Rattle.replay.proofs.list_on.Given as goal

-- the lines in the buffer and those still to come are what was to be listed
abbrev pub invariant-lines : goal.invariant-lines
invariant-lines l = Onward l.bytes l.buf l.fn.from l.going l.length

-- the bytes still to be read
abbrev pub decreases-lines : goal.decreases-lines
decreases-lines l = length l.bytes + 1 - l.going.at
