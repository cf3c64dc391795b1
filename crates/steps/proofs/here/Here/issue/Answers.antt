use mathlib.Core.Path.{sym, ◌∙◌}
use Rattle.std.proofs.Common.{arith}
use Rattle.std.proofs.lemmas.Grind.{common_steps}
use Rattle.model.specs.declared.Refusal.TheVariants.{MayNotIssue}
use Rattle.model.specs.Steps.{issued_at}
use Rattle.model.specs.Issue.{addresses_fit, tag_free, may_issue}
use Rattle.steps.proofs.Visits.{laid_same}
use Rattle.std.specs.Prelude.{Err}
use Rattle.steps.proofs.here.Here.issue.Goals as goal

pub returns-then-not-may_pass : goal.returns-then-not-may_pass
unfolding issued_at addresses_fit tag_free may_issue
returns-then-not-may_pass c =
    λ s e h.
    let r = laid_same s c.args.self.now h (Err MayNotIssue) in
    let m = rw (c.as_waiting-w.ensures, c.take_apart-a.ensures) at (sym c.may_pass.ensures ∙ c.if-not-may_pass.true) in
    grind (arith, common_steps)
