use Rattle.std.proofs.Common.{◌≡◌, true, ◌+◌, ◌-◌, ◌≤◌, length}
use Rattle.model.specs.Sound.{sound}
use Rattle.pace.proofs.take_steps.Given as goal

abbrev pub invariant-steps : goal.invariant-steps
invariant-steps l = record { is_sound : sound l.system ≡ true; few : l.accepted ≤ l.at }

abbrev pub decreases-steps : goal.decreases-steps
decreases-steps l = length l.bytes + 1 - l.at
