use borrow.Author.Rules.{rules}
use Rattle.model.specs.Steps.{took, took_at}
use Rattle.steps.proofs.visit.take.Goals as goal

pub returns : goal.returns
unfolding took
returns c = c.at_site.ensures (λ i q s. took_at s i q) (λ x o y p. search rules)
