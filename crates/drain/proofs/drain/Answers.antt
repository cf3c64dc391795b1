use Rattle.drain.proofs.Onward.{rested, spent, has_place, further_on}
use Rattle.drain.proofs.drain.Goals as goal

pub put_step-length-requires : goal.put_step-length-requires
put_step-length-requires c =
    has_place c.steps.invariant c.first_step.ensures c.in-Some.is c.if-count-budget.false

pub steps-preserved : goal.steps-preserved
steps-preserved c =
    let went = c.step_sound.ensures in
    further_on c.steps.invariant c.first_step.ensures c.in-Some.is c.if-count-budget.false c.put_step-length.ensures went

pub returns-in_default : goal.returns-in_default
returns-in_default c =
    rested c.steps.invariant c.first_step.ensures c.in_default.is

pub returns-then-count-budget : goal.returns-then-count-budget
returns-then-count-budget c =
    spent c.steps.invariant c.first_step.ensures c.in-Some.is c.if-count-budget.true
