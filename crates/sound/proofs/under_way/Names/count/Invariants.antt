use mathlib.Core.Path.{◌≡◌}
use lib.ListN.{take}
use Rattle.sound.specs.Naming.{tallied}
use Rattle.sound.proofs.under_way.Names.count.Given as goal

abbrev pub invariant-loop-m : goal.invariant-loop-m
invariant-loop-m l = l.self.of ≡ tallied (take l.m-index l.messages) l.initial.self.of
