use borrow.Author.Rules.{rules}
use Rattle.model.specs.Issue.{as_waiting}
use Rattle.model.specs.Steps.{issued, issued_at}
use Rattle.steps.proofs.visit.issue.Goals as goal

pub returns : goal.returns
unfolding issued
returns c = c.at_site.ensures (λ i q s. issued_at s i q c.args.n (as_waiting s.sizes c.args.tag c.args.n)) (λ x o y p. search rules)
