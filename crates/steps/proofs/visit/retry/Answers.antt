use borrow.Author.Rules.{rules}
use Rattle.model.specs.Steps.{retried, retried_at}
use Rattle.steps.proofs.visit.retry.Goals as goal

pub returns : goal.returns
unfolding retried
returns c = c.at_site.ensures (λ i q s. retried_at s i q) (λ x o y p. search rules)
