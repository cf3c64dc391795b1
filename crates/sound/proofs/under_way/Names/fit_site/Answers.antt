use borrow.Author.Rules.{rules}
use borrow.Author.Tests.{tests}
use Rattle.std.proofs.lemmas.Iterator.{YieldsList-from_slice}
use Rattle.std.proofs.lemmas.Iterator.Search.{all_from_yields_List}
use Rattle.lists.proofs.Library.{each_list_all}
use Rattle.sound.specs.Naming.{one_for}
use Rattle.sound.proofs.under_way.Names.fit_site.Goals as goal

pub returns : goal.returns
returns c =
    rw (each_list_all, ← c.first.ensures)
    (all_from_yields_List (one_for c.args.self.now.of c.args.i) _ _ _ c.all.ensures.ran (YieldsList-from_slice _ c.iter.ensures.rest) (λ x b q k. search (rules, tests)))
