-- What an operation gives, or why it is refused (Numbers 1 to 13).
use Rattle.std.specs.Prelude.{ℕ, Option, Some, None, Result, Ok}
use Rattle.model.specs.declared.Sizes.{Sizes}
use Rattle.model.specs.declared.Step.{Step}
use Rattle.model.specs.declared.Answer.{Answer}
use Rattle.model.specs.declared.Refusal.{Refusal}

-- Numbers 1: what comes of an operation on a system: its answer
abbrev pub Outcome : Type 0
Outcome = Result Answer Refusal

-- Record 7: the sizes of a record, with the offset past them
abbrev pub ReadSizes : Type 0
ReadSizes = Result (Sizes × ℕ) Refusal

-- Record 7: the step at an offset of a record, with the offset past it; or none at the record's end
abbrev pub ReadStep : Type 0
ReadStep = Result (Option (Step × ℕ)) Refusal

-- Record 3: what a writer gives: the offset past the bytes written
abbrev pub Wrote : Type 0
Wrote = Result ℕ Refusal

-- Record 7: sizes that were read
abbrev pub sized : Sizes → ℕ → ReadSizes
sized z past = Ok (z, past)

-- Record 7: one step that was read
abbrev pub one : Step → ℕ → ReadStep
one x next = Ok (Some (x, next))

-- Record 7: the record's end
abbrev pub no_more : ReadStep
no_more = Ok None
