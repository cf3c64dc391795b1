use mathlib.Core.Path.{sym, ◌∙◌}
use mathlib.Core.Bool.{not}
use borrow.Author.Rules.{rules}
use borrow.Author.Tests.{tests}
use Rattle.std.proofs.lemmas.Iterator.{YieldsList-from_slice}
use Rattle.std.proofs.lemmas.Iterator.Search.{all_from_yields_List}
use Rattle.lists.proofs.Library.{each_list_all}
use Rattle.state.proofs.sets.all_clean.Goals as goal

pub returns : goal.returns
returns c =
    all_from_yields_List not _ _ c.all.result c.all.ensures.ran (YieldsList-from_slice c.args.marks cc) (λ x b q k. search (rules, tests))
    ∙ sym (each_list_all not c.args.marks)
