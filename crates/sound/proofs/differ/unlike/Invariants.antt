use mathlib.Core.Path.{◌≡◌}
use mathlib.Core.Bool.{Bool}
use lib.ListN.{length}
use Rattle.std.specs.Fn.{FnReturnsAtPair}
use Rattle.lists.specs.Places.{unlike}
use Rattle.sound.proofs.differ.unlike.Given as goal

abbrev pub invariant-loop-first : goal.invariant-loop-first
invariant-loop-first g l =
    (p : _) → ((x : _) (y : _) (r : Bool) → FnReturnsAtPair g.S.Fn l.same x y r → r ≡ p x y) →
    unlike p (length l.rest) l.rest ≡ unlike p (length l.fn.items) l.fn.items

abbrev pub decreases-loop-first : goal.decreases-loop-first
decreases-loop-first g l = length l.rest
