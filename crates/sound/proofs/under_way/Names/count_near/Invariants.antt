use mathlib.Core.Path.{◌≡◌}
use lib.ListN.{length}
use Rattle.lists.specs.Places.{all_of}
use Rattle.sound.specs.Naming.{near_at, tallied}
use Rattle.sound.proofs.under_way.Names.count_near.Given as goal

abbrev pub invariant-loop-out : goal.invariant-loop-out
invariant-loop-out l = l.self.of ≡ tallied (all_of (length l.yielded) (near_at l.outgoing l.incoming)) l.initial.self.of
