use mathlib.Core.Path.{ap, sym, ◌∙◌}
use Prim.Native.Nat.{◌<◌}
use native.Mathlib.Omega.{arith}
use Rattle.std.specs.Prelude.{Some}
use Rattle.drain.specs.Search.{standing}
use Rattle.drain.proofs.Tries.{found_here, kind_in}
use Rattle.drain.proofs.search.first_step.Goals as goal

pub returns-then-stands : goal.returns-then-stands
returns-then-stands c =
    let turn = c.kinds.kind-index in
    let l : turn < 7 = omega arith in
    ap Some c.move_of.ensures ∙
    sym (found_here (standing c.args.s.now) c.args.s.now.sizes.sites l (kind_in turn l) c.width-site-end.ensures c.kinds.invariant.1 (omega arith)
    c.sites.invariant.1 (sym c.stands.ensures ∙ c.if-stands.true))
