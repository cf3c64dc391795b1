use borrow.Author.Rules.{rules}
use borrow.Author.Tests.{tests}
use lib.ListN.{length}
use Rattle.std.proofs.lemmas.Iterator.{YieldsList-from_slice}
use Rattle.std.proofs.lemmas.Iterator.Search.{all_from_yields_List}
use Rattle.lists.specs.Places.{none_of}
use Rattle.model.specs.declared.Waiting.{Waiting}
use Rattle.model.specs.Sound.{pends_under}
use Rattle.sound.proofs.InUse.{each_whole}
use Rattle.sound.proofs.differ.tags_apart.Goals as goal

pub returns : goal.returns
returns c =
    let es = c.args.entries.now in
    rw each_whole
    (all_from_yields_List (λ (w : Waiting). none_of (pends_under w.tag) (length es) es) _ _ _ c.all.ensures.ran (YieldsList-from_slice _ c.iter.ensures.rest) (λ x b q k. search (rules, tests)))
