use mathlib.Core.Path.{◌≡◌, sym, ◌∙◌}
use borrow.Author.Rules.{rules}
use borrow.Author.Tests.{tests, eq-eqb}
use lib.ListN.{length}
use Rattle.std.proofs.lemmas.Iterator.{YieldsList-from_slice}
use Rattle.std.proofs.lemmas.Iterator.Search.{all_from_yields_List}
use Rattle.lists.proofs.Library.{below_list_all}
use Rattle.lists.proofs.Long.{length_mapped}
use Rattle.model.specs.Parts.{past_set}
use Rattle.model.specs.Sets.{free_set}
use Rattle.sound.proofs.places.cache_free.Goals as goal

pub returns : goal.returns
returns c =
    let sets = c.args.sets.now in
    let len : length sets ≡ 8 = search (rules, length_mapped) in
    rw (eq-eqb _ _ len)
    (all_from_yields_List free_set _ _ _ c.all.ensures.ran (YieldsList-from_slice sets c.iter.ensures.rest) (λ x b q k. search (rules, tests)) ∙
    sym (rw len at (below_list_all free_set sets past_set)))
