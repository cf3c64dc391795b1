use mathlib.Core.Path.{refl}
use borrow.Author.Rules.{rules}
use borrow.Author.Tests.{tests}
use native.Mathlib.Nat.{sub-zero}
use lib.ListN.{get_or, take}
use Rattle.std.proofs.lemmas.Iterator.{YieldsList-from_range}
use Rattle.std.proofs.lemmas.Iterator.Search.{all_from_yields_List}
use Rattle.lists.specs.Places.{each}
use Rattle.lists.proofs.Library.{below_range}
use Rattle.model.specs.Parts.{past_pends}
use Rattle.sound.specs.Naming.{one_for}
use Rattle.sound.proofs.under_way.Names.fit.Goals as goal

pub returns : goal.returns
returns c =
    let ps = c.args.pends.now in
    rw (below_range c.args.sites)
    (all_from_yields_List (λ i. each (one_for c.args.self.now.of i) (take (get_or ps i past_pends).count (get_or ps i past_pends).entries)) _ _ _ c.all.ensures.ran
    (YieldsList-from_range 0 c.args.sites c.args.sites refl (sub-zero _)) (λ x b q k. search (rules, tests)))
