use mathlib.Core.Path.{◌≡◌, refl, ◌∙◌}
use native.Mathlib.Omega.{arith}
use borrow.Author.Rules.{rules}
use borrow.Author.Tests.{le-leb, lt-leb}
use lib.ListN.{length, take, drop}
use Rattle.std.specs.List.{list_all}
use Rattle.std.proofs.lemmas.Fn.{says_at}
use Rattle.std.proofs.lemmas.Iterator.{YieldsList-from_slice}
use Rattle.std.proofs.lemmas.Iterator.Search.{all_from_yields_List}
use Rattle.std.proofs.lemmas.List.{take_rest}
use Rattle.lists.proofs.Library.{fits_list_all}
use Rattle.sound.proofs.arrays.fits.Goals.{then-n-places, else-n-places, then-all, else-all}
use Rattle.sound.proofs.arrays.fits.Goals as goal

pub returns : goal.returns
returns g c p q hu hf =
    let xs = c.args.places.now in
    elim c.if-n-places.branch [
      | then-n-places v ↦
          let one : v.all.result ≡ list_all p (take c.args.n xs) =
          all_from_yields_List p _ _ _ v.all.ensures.ran (YieldsList-from_slice (take c.args.n xs) v.iter.ensures.rest)
          (λ x b f k. (search rules, hu x.now b (says_at g.U.Fn {y = x} {r = b} (search rules) refl))) in
          let l = le-leb c.args.n (length xs) (omega (arith, v.if-n-places.true)) in
          elim c.if-all.branch [
            | then-all w ↦
                let two : w.all-then-all.result ≡ list_all q (drop c.args.n xs) =
                all_from_yields_List q _ _ _ w.all-then-all.ensures.ran (YieldsList-from_slice (drop c.args.n xs) (w.iter-then-all.ensures.rest ∙ take_rest xs c.args.n))
                (λ x b f k. (search rules, hf x.now b (says_at g.F.Fn {y = x} {r = b} (search rules) refl))) in
                let t = w.if-all.true in
                rw (w.result-is, fits_list_all p q c.args.n xs, l, ← one, ← v.value-is, t) two
            | else-all w ↦
                let t = w.if-all.false in
                rw (w.result-is, fits_list_all p q c.args.n xs, l, ← one, ← v.value-is, t)
          ]
      | else-n-places v ↦
          let l = lt-leb c.args.n (length xs) (omega (arith, v.if-n-places.false)) in
          elim c.if-all.branch [
            | then-all w ↦ absurd (omega arith)
            | else-all w ↦
                rw (w.result-is, fits_list_all p q c.args.n xs, l) w.if-all.false
          ]
    ]
