use mathlib.Core.Path.{◌≡◌, refl}
use borrow.Author.Rules.{rules}
use borrow.Author.Tests.{tests, eq-eqb}
use lib.ListN.{length}
use Rattle.std.proofs.lemmas.Iterator.{YieldsList-from_range}
use Rattle.std.proofs.lemmas.Iterator.Search.{all_from_yields_List}
use Rattle.lists.proofs.Library.{below_range}
use Rattle.lists.proofs.Long.{length_mapped}
use Rattle.model.specs.Parts.{site_at}
use Rattle.model.specs.Sound.{four_sites, site_ok, sites_fit}
use Rattle.sound.proofs.sites.sites_fit.Goals as goal

pub returns : goal.returns
unfolding four_sites sites_fit
returns c =
    let s = c.args.s.now in
    let caches : length s.caches ≡ 4 = search (rules, length_mapped) in
    let pends : length s.pends ≡ 4 = search (rules, length_mapped) in
    let stalls : length s.stalls ≡ 4 = search (rules, length_mapped) in
    let outgoing : length s.outgoing ≡ 4 = search (rules, length_mapped) in
    let incoming : length s.incoming ≡ 4 = search (rules, length_mapped) in
    rw (eq-eqb _ _ caches, eq-eqb _ _ pends, eq-eqb _ _ stalls, eq-eqb _ _ outgoing, eq-eqb _ _ incoming, below_range 4)
    (all_from_yields_List (λ i. site_ok s.sizes i (site_at s i)) _ _ _ c.all.ensures.ran (YieldsList-from_range 0 4 4 refl refl) (λ x b q k. search (rules, tests)))
