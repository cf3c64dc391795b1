use Prim.Native.Nat.{◌<◌}
use mathlib.Core.Path.{ap, sym, ◌∙◌}
use native.Mathlib.Omega.{arith}
use borrow.Author.Tests.{leb-false}
use Rattle.std.proofs.lemmas.Grind.{common_steps}
use Rattle.model.specs.declared.Facts.{Facts}
use Rattle.model.specs.Steps.{entered}
use Rattle.steps.specs.View.{laid}
use Rattle.steps.proofs.Visits.{ask_room}
use Rattle.steps.proofs.here.Here.enter.Goals as goal

pub perform-requires : goal.perform-requires
perform-requires c =
    (c.requires.2, ask_room c.args.self.now c.requires.0 c.args.w c.place_of-p.result c.facts_of-facts.result c.decide.result c.facts_of-facts.ensures c.decide.ensures c.requires.1)

pub returns-in-Wait-2 : goal.returns-in-Wait-2
unfolding entered laid
returns-in-Wait-2 c =
    λ s e h.
    let l = leb-false c.args.self.now.home.sizes.stall c.args.self.now.stalls.count (sym (ap (λ (q : Facts). q.crowded) c.facts_of-facts.ensures) ∙ c.if-facts.false) in
    let k : c.args.self.now.stalls.count < 8 = omega (arith, l, c.requires.0.ready.limits.stall_most) in
    grind (arith, common_steps)
