use Rattle.std.proofs.Common.{ap, arith}
use Rattle.model.specs.declared.After.{After}
use Rattle.steps.proofs.Again.{sound_again}
use Rattle.replay.proofs.going.Going.take.Goals as goal

pub invariant_of-self : goal.invariant_of-self
invariant_of-self c =
    let s = c.args.self.now in
    record {
      is_sound = rw (ap (λ (a : After). a.system) c.step_sound.ensures) (sound_again s.system c.args.x s.is_sound);
      counted = omega arith;
    }
