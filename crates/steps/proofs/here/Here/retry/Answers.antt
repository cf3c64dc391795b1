use Prim.Native.Nat.{◌<◌}
use native.Mathlib.Omega.{arith}
use Rattle.model.specs.declared.Refusal.TheVariants.{MustStillWait}
use Rattle.model.specs.Steps.{stall_head, retried_at, resumed}
use Rattle.promises.proofs.Sound.{ready_kind}
use Rattle.steps.specs.View.{site_of}
use Rattle.std.proofs.lemmas.Grind.{common_steps}
use Rattle.steps.proofs.Visits.{laid_same, laid_done, waits_not, uncrowded, head_word, ask_room}
use Rattle.std.specs.Prelude.{Err}
use Rattle.steps.proofs.here.Here.retry.Goals as goal

pub perform-requires : goal.perform-requires
perform-requires c =
    let l : 0 < c.args.self.now.stalls.count = omega arith in (
      head_word c.args.self.now c.requires l,
      ask_room c.args.self.now c.requires (stall_head (site_of c.args.self.now)) c.place_of-p.result c.facts_of.result c.decide.result c.facts_of.ensures c.decide.ensures
          (ready_kind c.args.self.now.home.sizes c.args.self.now.home.site (site_of c.args.self.now) c.requires.ready l),
    )

pub returns-in-Wait : goal.returns-in-Wait
unfolding retried_at resumed
returns-in-Wait c =
    λ s e h.
    let r = laid_same s c.args.self.now h (Err MustStillWait) in
    grind (arith, common_steps, uncrowded)

pub returns-in_default : goal.returns-in_default
unfolding retried_at resumed
returns-in_default c =
    λ s e h.
    let g = laid_done s (record c.args.self.now { stalls = c.stall_rest.new.t }) c.perform.new.self c.perform.result _ c.perform.ensures in
    let w = waits_not c.decide.result c.in_default.not-Wait in
    grind (arith, common_steps, uncrowded)
