use Rattle.std.proofs.Common.{Bool, not, eqb, take, sym, ◌∙◌, rules, tests}
use Rattle.std.proofs.lemmas.Iterator.{YieldsList-from_slice, YieldsList-from_take}
use Rattle.std.proofs.lemmas.Iterator.Consumers.{YieldsList-from_filter, count_from_yields_List}
use Rattle.std.proofs.lemmas.List.Sums.{length-filter}
use Rattle.lists.proofs.Library.{tally_count_by}
use Rattle.model.specs.declared.Entry.{Entry}
use Rattle.model.specs.Kinds.{voluntary}
use Rattle.left.proofs.not_voluntary.Goals as goal

pub returns-clause-value : goal.returns-clause-value
returns-clause-value c =
    let test : Entry → Bool = λ (e : Entry). not (eqb e.kind voluntary) in
    let p = c.args.p.now in
    count_from_yields_List c.filter.result c.count.result c.count.ensures.ran
    (YieldsList-from_filter _ test (YieldsList-from_take p.count (YieldsList-from_slice p.entries (cc)) (cc)) c.filter.ensures.closure (λ x r q k. search (rules, tests)))
    ∙ length-filter test (take p.count p.entries) ∙ sym (tally_count_by test p.count p.entries)
