-- What a step on a state gives, beside the state after it.
use Rattle.model.specs.declared.System.{System}
use Rattle.model.specs.declared.After.{After}
use Rattle.model.specs.Results.{Outcome}

-- an outcome, and the system after it
abbrev pub after : Outcome → System → After
after o s = record { outcome = o; system = s }
