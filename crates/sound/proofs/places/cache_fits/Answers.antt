use mathlib.Core.Path.{◌≡◌, refl}
use borrow.Author.Rules.{rules}
use borrow.Author.Tests.{tests, eq-eqb}
use lib.ListN.{length, get_or}
use Rattle.std.proofs.lemmas.Iterator.{YieldsList-from_range}
use Rattle.std.proofs.lemmas.Iterator.Search.{all_from_yields_List}
use Rattle.lists.proofs.Library.{below_range}
use Rattle.lists.proofs.Long.{length_mapped}
use Rattle.model.specs.Parts.{past_set}
use Rattle.model.specs.Sets.{set_fits}
use Rattle.model.specs.Sound.{cache_fits}
use Rattle.sound.proofs.places.cache_fits.Goals as goal

pub returns : goal.returns
unfolding cache_fits
returns c =
    let sets = c.args.sets.now in
    let len : length sets ≡ 8 = search (rules, length_mapped) in
    rw (eq-eqb _ _ len, below_range 8)
    (all_from_yields_List (λ k. set_fits c.args.z.now k (get_or sets k past_set)) _ _ _ c.all.ensures.ran (YieldsList-from_range 0 8 8 refl refl) (λ x b q k. search (rules, tests)))
