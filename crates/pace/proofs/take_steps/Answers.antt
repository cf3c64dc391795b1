use Rattle.std.proofs.Common.{sym, ◌∙◌, arith}
use mathlib.Core.Path.{ap}
use Rattle.model.specs.declared.After.{After}
use Rattle.promises.proofs.Endings.{step_on}
use Rattle.steps.proofs.Again.{sound_again}
use Rattle.pace.proofs.take_steps.Goals as goal

pub steps-preserved-then-is_ok : goal.steps-preserved-then-is_ok
steps-preserved-then-is_ok c =
    let on = step_on c.args.bytes.now c.steps.at c.in-Ok-Some.next c.in-Ok-Some.x (sym c.read_step.ensures ∙ cc) in
    record {
      is_sound = rw (ap (λ (a : After). a.system) c.step_sound.ensures) (sound_again c.steps.system c.in-Ok-Some.x c.steps.invariant.is_sound);
      few = omega (arith, on);
    }

pub steps-preserved : goal.steps-preserved
steps-preserved c =
    let on = step_on c.args.bytes.now c.steps.at c.in-Ok-Some.next c.in-Ok-Some.x (sym c.read_step.ensures ∙ cc) in
    record {
      is_sound = rw (ap (λ (a : After). a.system) c.step_sound.ensures) (sound_again c.steps.system c.in-Ok-Some.x c.steps.invariant.is_sound);
      few = omega (arith, on);
    }
