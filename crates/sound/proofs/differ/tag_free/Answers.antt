use mathlib.Core.Path.{ap}
use mathlib.Core.Bool.{not}
use borrow.Author.Rules.{rules}
use borrow.Author.Tests.{tests}
use Rattle.std.proofs.lemmas.Iterator.{YieldsList-from_slice}
use Rattle.std.proofs.lemmas.Iterator.Search.{any_from_yields_List}
use Rattle.model.specs.Sound.{pends_under}
use Rattle.sound.proofs.InUse.{none_whole}
use Rattle.sound.proofs.differ.tag_free.Goals as goal

pub returns : goal.returns
returns c =
    rw none_whole
    (ap not (any_from_yields_List (pends_under c.args.tag) _ _ _ c.any.ensures.ran (YieldsList-from_slice _ c.iter.ensures.rest) (λ x b q k. search (rules, tests))))
