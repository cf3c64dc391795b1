-- An instruction taken apart.
use Rattle.model.specs.declared.Instruction.{Instruction}
use Rattle.model.specs.Issue.{kind_of, first_address, last_address, value_of}
use Rattle.rules.specs.declared.issue.Apart.{Apart}

abbrev pub apart_of : Instruction → Apart
apart_of n = record { kind = kind_of n; first = first_address n; last = last_address n; value = value_of n }
