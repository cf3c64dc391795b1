-- A state that is not sound is refused with 1 before anything else.
use mathlib.Core.Path.{◌≡◌}
use mathlib.Core.Bool.{false}
use Rattle.std.specs.Prelude.{Ok, Err}
use Rattle.model.specs.declared.System.{System}
use Rattle.model.specs.declared.Refusal.TheVariants.{NotSound}
use Rattle.model.specs.Given.{given}
use Rattle.model.specs.Sound.{sound}
use Rattle.model.specs.Steps.{stepped}
use Rattle.codes.specs.Named.{Named}
use Rattle.calls.specs.Calls.{stepped_by, step_named}

-- of a state that is not sound what the six numbers name is not looked at
pub not_looked_at : (s : System) (x : Named) → sound s ≡ false → stepped_by (given (Err NotSound)) s ≡ step_named s x
unfolding step_named stepped
not_looked_at s (Ok x) h = rw h
not_looked_at s (Err why) h = rw h
