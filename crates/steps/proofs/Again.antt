-- A sound state steps to a sound one: who has stepped may step again and need not look.
use mathlib.Core.Path.{◌≡◌}
use mathlib.Core.Bool.{true}
use Rattle.lists.proofs.Tests.{T_true}
use Rattle.model.specs.declared.System.{System}
use Rattle.model.specs.declared.Step.{Step}
use Rattle.model.specs.Sound.{sound}
use Rattle.model.specs.Steps.{step_of}
use Rattle.promises.proofs.Sound.{closed}
use Rattle.promises.proofs.Kept.{kept}
use Rattle.steps.proofs.Visits.{sound_open}

pub sound_again : (s : System) (x : Step) → sound s ≡ true → sound (step_of s x).system ≡ true
sound_again s x e = T_true (sound (step_of s x).system) (closed (step_of s x).system (kept s (sound_open s e) x))
