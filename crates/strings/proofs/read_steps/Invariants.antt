use Rattle.std.proofs.Common.{◌+◌, ◌-◌, length}
use Rattle.strings.proofs.read_steps.Given as goal

abbrev pub decreases-steps : goal.decreases-steps
decreases-steps l = length l.bytes + 1 - l.at
