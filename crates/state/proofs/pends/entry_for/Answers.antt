use mathlib.Core.Path.{sym, ◌∙◌}
use Prim.Native.Nat.{◌≤◌, min}
use native.Mathlib.Omega.{arith}
use borrow.Author.Rules.{rules}
use borrow.Author.Tests.{tests}
use lib.Dec.{eqb}
use lib.ListN.{length, take}
use Rattle.std.proofs.lemmas.Iterator.{YieldsList-from_slice}
use Rattle.std.proofs.lemmas.Iterator.Search.{position_from_yields_List}
use Rattle.lists.proofs.Library.{first_position, first_most}
use Rattle.model.specs.declared.Entry.{Entry}
use Rattle.state.proofs.pends.entry_for.Goals as goal

pub returns : goal.returns
returns c =
    let entries = c.args.p.now.entries in
    let n = min c.args.p.now.count (length entries) in
    let found = position_from_yields_List (λ (e : Entry). eqb e.line c.args.line) _ _ c.position.result c.position.ensures.ran
    (YieldsList-from_slice (take n entries) cc) (λ x b q k. search (rules, tests)) in
    let least : n ≤ length entries = omega arith in
    c.unwrap_or.ensures ∙ rw (c.min-n.ensures, found)
    (sym (first_position (λ (e : Entry). eqb e.line c.args.line) n entries least) ∙ first_most (λ (e : Entry). eqb e.line c.args.line) c.args.p.now.count entries)
