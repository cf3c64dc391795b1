use mathlib.Core.Path.{sym, ◌∙◌}
use mathlib.Core.Bool.{not}
use borrow.Author.Rules.{rules}
use borrow.Author.Tests.{tests, lt-leb}
use lib.ListN.{take}
use Rattle.std.proofs.lemmas.Iterator.{YieldsList-from_slice}
use Rattle.std.proofs.lemmas.Iterator.Search.{all_from_yields_List}
use Rattle.lists.proofs.Each.{each-past}
use Rattle.lists.proofs.Library.{none_of_take}
use Rattle.rules.proofs.issue.none_of.Goals.{then-n-earlier, else-n-earlier}
use Rattle.rules.proofs.issue.none_of.Goals as goal

pub returns : goal.returns
returns g c test has =
    elim c.if-n-earlier.branch [
      | then-n-earlier w ↦
          w.result-is ∙ all_from_yields_List (λ x. not (test x)) _ _ w.all.result w.all.ensures.ran (YieldsList-from_slice (take c.args.n c.args.earlier.now) cc)
          (λ x b q k. search (rules, tests, has))
          ∙ sym (none_of_take test c.args.n c.args.earlier.now w.if-n-earlier.true)
      | else-n-earlier w ↦ w.result-is ∙ lt-leb _ _ w.if-n-earlier.false ∙ sym (each-past (λ x. not (test x)) c.args.n c.args.earlier.now w.if-n-earlier.false)
    ]
