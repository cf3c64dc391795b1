use mathlib.Core.Path.{◌≡◌, sym, ◌∙◌}
use mathlib.Core.Bool.{true}
use native.Mathlib.Omega.{arith}
use borrow.Author.Rules.{rules}
use lib.ListN.{length, replicate}
use Rattle.lists.specs.Places.{all_below, sum_below, each}
use Rattle.lists.proofs.Long.{length_mapped}
use Rattle.model.specs.declared.Pends.{Pends}
use Rattle.model.specs.declared.System.{System}
use Rattle.model.specs.Parts.{site_at, past_pends}
use Rattle.model.specs.Sound.{parts_fit, sound, under_way, entries_at}
use Rattle.promises.proofs.Sound.{Parts, parts_open, the_limits}
use Rattle.sound.specs.Naming.{tallied, one_for}
use Rattle.sound.proofs.InUse.{sum_part}
use Rattle.sound.proofs.Pairing.{by_names}
use Rattle.sound.proofs.is_sound.Goals as goal

-- what passed the tests has parts that fit
fitted : (s : System) → parts_fit s ≡ true → Parts s
fitted s e = parts_open s (rw e tt) tt

pub fit-requires : goal.fit-requires
fit-requires c = (the_limits _ (fitted c.args.s.now (sym c.parts_fit.ensures ∙ c.if-not-parts_fit.false))).sites_most

pub returns-then-fit : goal.returns-then-fit
unfolding sound
returns-then-fit c =
    let s = c.args.s.now in
    let e : parts_fit s ≡ true = sym c.parts_fit.ensures ∙ c.if-not-parts_fit.false in
    let h = fitted s e in
    let t : c.fit.result ≡ all_below s.sizes.sites (λ i. each (one_for (tallied (under_way s) (replicate 128 0)) i) (entries_at s i)) = rw c.named.ensures at c.fit.ensures in
    let places : length s.pends ≡ 4 = search (rules, length_mapped) in
    let n : c.entry_count.result ≡ sum_below s.sizes.sites (λ i. (site_at s i).pends) =
    c.entry_count.ensures ∙ rw c.first.ensures (sum_part (λ (p : Pends). p.count) s.sizes.sites s.pends past_pends (omega (arith, places, (the_limits s h).sites_most))) in
    rw (e, ← by_names s h, ← t, c.if-fit.true, c.message_count.ensures, n)

pub returns-else-fit : goal.returns-else-fit
unfolding sound
returns-else-fit c =
    let s = c.args.s.now in
    let e : parts_fit s ≡ true = sym c.parts_fit.ensures ∙ c.if-not-parts_fit.false in
    let t : c.fit.result ≡ all_below s.sizes.sites (λ i. each (one_for (tallied (under_way s) (replicate 128 0)) i) (entries_at s i)) = rw c.named.ensures at c.fit.ensures in
    rw (e, ← by_names s (fitted s e), ← t, c.if-fit.false)
