use mathlib.Core.Path.{ap}
use mathlib.Core.Bool.{not}
use borrow.Author.Rules.{rules}
use borrow.Author.Tests.{tests}
use Rattle.std.proofs.lemmas.Iterator.{YieldsList-from_slice}
use Rattle.std.proofs.lemmas.Iterator.Search.{any_from_yields_List}
use Rattle.model.specs.declared.Entry.{Entry}
use Rattle.model.specs.Sets.{cached}
use Rattle.model.specs.Sound.{cached_apart}
use Rattle.sound.proofs.InUse.{none_whole}
use Rattle.sound.proofs.differ.cached_apart.Goals as goal

pub returns : goal.returns
unfolding cached_apart
returns c =
    rw none_whole
    (ap not (any_from_yields_List (λ (e : Entry). cached c.args.z.now c.args.sets.now e.line) _ _ _ c.any.ensures.ran (YieldsList-from_slice _ c.iter.ensures.rest) (λ x b q k. search (rules, tests))))
