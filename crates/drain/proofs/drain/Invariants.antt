use Prim.Native.Nat.{◌-◌}
use Rattle.drain.proofs.Onward.{Onward}
use Rattle.drain.proofs.drain.Given as goal

abbrev pub invariant-steps : goal.invariant-steps
invariant-steps l = Onward l.fn.s l.budget l.initial.buf l.t l.count l.length l.buf

abbrev pub decreases-steps : goal.decreases-steps
decreases-steps l = l.budget - l.count
