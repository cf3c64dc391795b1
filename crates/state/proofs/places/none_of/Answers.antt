use mathlib.Core.Path.{sym, ◌∙◌}
use mathlib.Core.Bool.{not}
use borrow.Author.Rules.{rules}
use borrow.Author.Tests.{tests, lt-leb}
use lib.ListN.{take}
use Rattle.std.proofs.lemmas.Iterator.{YieldsList-from_slice}
use Rattle.std.proofs.lemmas.Iterator.Search.{all_from_yields_List}
use Rattle.lists.proofs.Each.{each-past}
use Rattle.lists.proofs.Library.{none_of_take}
use Rattle.state.proofs.places.none_of.Goals.{then-n-places, else-n-places}
use Rattle.state.proofs.places.none_of.Goals as goal

pub returns : goal.returns
returns g c test has =
    elim c.if-n-places.branch [
      | then-n-places w ↦
          w.result-is ∙ all_from_yields_List (λ x. not (test x)) _ _ w.all.result w.all.ensures.ran (YieldsList-from_slice (take c.args.n c.args.places.now) cc)
          (λ x b q k. search (rules, tests, has))
          ∙ sym (none_of_take test c.args.n c.args.places.now w.if-n-places.true)
      | else-n-places w ↦ w.result-is ∙ lt-leb _ _ w.if-n-places.false ∙ sym (each-past (λ x. not (test x)) c.args.n c.args.places.now w.if-n-places.false)
    ]
