use borrow.Author.Rules.{rules}
use Rattle.steps.specs.View.{Fits}
use Rattle.steps.proofs.Visits.{fits, visited}
use Rattle.steps.proofs.visit.at_site.Goals as goal

pub visit-outcome-requires : goal.visit-outcome-requires
visit-outcome-requires g c =
    let f : Fits c.in_ok-here.here = fits c.args.s.now c.requires.sound c.args.site c.in_ok-here.here c.in_ok-here.ensures.held in
    search (rules, f)

pub returns : goal.returns
returns g c = λ f h.
    visited c.args.s.now c.args.site c.in_ok-here.here c.visit-outcome.new.arg2 c.visit-outcome.result c.put_back.new.s f c.in_ok-here.ensures.held (h _ _ _ c.visit-outcome.ensures)
    c.put_back.ensures
