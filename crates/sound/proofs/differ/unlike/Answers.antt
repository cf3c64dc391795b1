use mathlib.Core.Path.{◌≡◌, refl}
use mathlib.Core.List.{◌∷◌}
use borrow.Author.Rules.{rules}
use lib.ListN.{length}
use Rattle.std.specs.List.{list_any}
use Rattle.std.proofs.lemmas.Fn.{says_at_two}
use Rattle.std.proofs.lemmas.Iterator.{YieldsList-from_slice}
use Rattle.std.proofs.lemmas.Iterator.Search.{any_from_yields_List}
use Rattle.lists.specs.Places.{unlike}
use Rattle.sound.proofs.InUse.{unlike_first}
use Rattle.sound.proofs.differ.unlike.Goals as goal

pub returns-then-any : goal.returns-then-any
returns-then-any g c p h =
    let x = c.in-Some.first.now in
    let xs = c.in-Some.others.now in
    let e : c.loop-first.rest.now ≡ x ∷ xs = search rules in
    let some : c.any.result ≡ list_any (p x) xs =
    any_from_yields_List (p x) _ _ _ c.any.ensures.ran (YieldsList-from_slice xs c.iter.ensures.rest)
    (λ y b f k. (search rules, h x y.now b (says_at_two g.S.Fn {y = c.in-Some.first} {z = y} {r = b} (search rules) refl))) in
    rw (unlike_first p c.loop-first.rest.now xs x e, ← some, c.if-any.true) at (c.loop-first.invariant p h)

pub loop-first-preserved : goal.loop-first-preserved
loop-first-preserved g c p h =
    let x = c.in-Some.first.now in
    let xs = c.in-Some.others.now in
    let e : c.loop-first.rest.now ≡ x ∷ xs = search rules in
    let none : c.any.result ≡ list_any (p x) xs =
    any_from_yields_List (p x) _ _ _ c.any.ensures.ran (YieldsList-from_slice xs c.iter.ensures.rest)
    (λ y b f k. (search rules, h x y.now b (says_at_two g.S.Fn {y = c.in-Some.first} {z = y} {r = b} (search rules) refl))) in
    rw (unlike_first p c.loop-first.rest.now xs x e, ← none, c.if-any.false) at (c.loop-first.invariant p h)

pub returns : goal.returns
unfolding unlike
returns g c p h =
    let e : length c.loop-first.rest.now ≡ 0 = search rules in
    rw e at (c.loop-first.invariant p h)
