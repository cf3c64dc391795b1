use Rattle.std.proofs.Common.{◌+◌, ◌-◌, ◌≤◌, length}
use Rattle.longest.proofs.take_steps.Given as goal

abbrev pub invariant-steps : goal.invariant-steps
invariant-steps l = (l.steps ≤ l.at) × (l.accepted ≤ l.at)

abbrev pub decreases-steps : goal.decreases-steps
decreases-steps l = length l.bytes + 1 - l.at
