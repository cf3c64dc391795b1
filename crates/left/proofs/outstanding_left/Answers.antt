use Rattle.std.proofs.Common.{◌≡◌, ℕ, not, ◌+◌, eqb, refl, length, take, length-take, sym, ◌∙◌, arith, rules}
use Rattle.std.specs.List.{zip}
use Rattle.std.proofs.lemmas.Iterator.{YieldsList-from_slice, YieldsList-from_zip, YieldsList-from_take, YieldsList-from_map}
use Rattle.std.proofs.lemmas.Iterator.Adapters.{at_most_from_yields_List, fits_from_length}
use Rattle.std.proofs.lemmas.Slice.Zip.{length-zip}
use Rattle.std.proofs.lemmas.Iterator.Consumers.{sum_by_from_yields_List}
use Rattle.lists.specs.Places.{tally, weigh}
use Rattle.model.specs.declared.Entry.{Entry}
use Rattle.model.specs.declared.Pends.{Pends}
use Rattle.model.specs.declared.Stalls.{Stalls}
use Rattle.model.specs.Kinds.{voluntary}
use Rattle.model.specs.Parts.{past_pends, past_stalls}
use Rattle.model.specs.Left.{outstanding_at, outstanding_left}
use Rattle.lists.proofs.Long.{length_mapped}
use Rattle.left.proofs.Remaining.{sum_zip}
use Rattle.left.proofs.outstanding_left.Goals as goal

pub sum-requires-clause-fits : goal.sum-requires-clause-fits
sum-requires-clause-fits c =
    let s = c.args.s.now in
    let places : length s.stalls ≡ 4 = search (rules, length_mapped) in
    fits_from_length _ _ 4 _
    (at_most_from_yields_List (YieldsList-from_take s.sizes.sites (YieldsList-from_zip (YieldsList-from_slice s.stalls (cc)) (YieldsList-from_slice s.pends (cc))) (cc)) (simp (length-take, length-zip) (omega (arith, places))))
    c.map.ensures.closure (omega arith) (λ x r q k. search rules)

pub returns : goal.returns
unfolding outstanding_left outstanding_at weigh
returns c =
    let s = c.args.s.now in
    let outstanding : Stalls × Pends → ℕ = λ (x : Stalls × Pends). x.0.count + tally (λ (e : Entry). not (eqb e.kind voluntary)) x.1.count x.1.entries in
    let sites = take s.sizes.sites (zip s.stalls s.pends) in
    sum_by_from_yields_List outstanding sites c.map.result c.sum.result c.sum.ensures.ran
    (YieldsList-from_map _ outstanding (YieldsList-from_take s.sizes.sites (YieldsList-from_zip (YieldsList-from_slice s.stalls (cc)) (YieldsList-from_slice s.pends (cc))) (cc))
    c.map.ensures.closure (λ x r q k. search rules))
    ∙ sym (sum_zip outstanding past_stalls past_pends refl s.sizes.sites s.stalls s.pends (search (rules, length_mapped)))
