use Rattle.std.proofs.Common.{◌≡◌, ◌+◌, ◌-◌, ◌++◌, suc, arith, take, drop, length-drop, ap, sym, ◌∙◌, add-one}
use lib.ListN.{set}
use lib.Seq.{take_all, drop-drop}
use Rattle.lists.proofs.Library.{removed_copied, removed-past}
use Rattle.state.proofs.places.take_out.Goals as goal

pub returns-then-position-clause-closed : goal.returns-then-position-clause-closed
returns-then-position-clause-closed g c =
    let old = c.args.places.now in
    let p = c.args.position in
    let last = g.row.N - 1 in
    let cleared = set old last c.args.free in
    let behind : c.copy_from_slice.new.self ≡ drop (suc p) old =
    c.copy_from_slice.ensures.after ∙ take_all _ (drop (p + 1) old) (omega (arith, length-drop (p + 1) old)) ∙ ap (λ k. drop k old) (add-one p) in
    let rest : drop (last - p) (drop p cleared) ≡ drop last cleared = drop-drop (last - p) p cleared ∙ ap (λ k. drop k cleared) (omega (arith, c.if-position.true)) in
    ap (λ l. take p cleared ++ (l ++ drop (last - p) (drop p cleared))) behind
    ∙ ap (λ l. take p cleared ++ (drop (suc p) old ++ l)) rest
    ∙ removed_copied c.args.free p last old (omega (arith, c.if-position.true)) (omega (arith, c.if-position.true, c.told-places))

pub returns-else-position-clause-closed : goal.returns-else-position-clause-closed
returns-else-position-clause-closed g c = sym (removed-past c.args.free c.args.position c.args.places.now (omega (arith, c.if-position.false, c.told-places)))
