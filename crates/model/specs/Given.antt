-- Numbers 1 to 13, 17: the number of each case, and what is given beside it.
use Rattle.std.specs.Prelude.{ℕ}
use Rattle.model.specs.declared.Answer.{Answer}
use Rattle.model.specs.declared.Answer.TheVariants.{Nothing, Loaded, Acknowledged}
use Rattle.model.specs.declared.Refusal.{Refusal}
use Rattle.model.specs.declared.Refusal.TheVariants.{NotSound, NoSuchSite, AddressPastLast, TagOutstanding, MayNotIssue, StallFull, NothingThere, MustStillWait, NoRecord, BufferShort, SizeOutside, RecordLong}
use Rattle.model.specs.declared.Given.{Given}
use Rattle.std.specs.Prelude.{Ok, Err}
use Rattle.model.specs.Results.{Outcome}

-- Numbers 13: a record is at most so many bytes long
abbrev pub most_bytes : ℕ
most_bytes = 65536

-- Numbers 2 to 13: each refusal's number; there is no 3
unfoldable pub number_of : Refusal → ℕ
number_of NotSound = 1
number_of NoSuchSite = 2
number_of AddressPastLast = 4
number_of TagOutstanding = 5
number_of MayNotIssue = 6
number_of StallFull = 7
number_of NothingThere = 8
number_of MustStillWait = 9
number_of (NoRecord place) = 10
number_of BufferShort = 11
number_of SizeOutside = 12
number_of RecordLong = 13

-- Numbers 17b, 17c: 10 comes with the place of its fault, 13 with 65,536, every other refusal with 0
unfoldable pub place_given : Refusal → ℕ
place_given NotSound = 0
place_given NoSuchSite = 0
place_given AddressPastLast = 0
place_given TagOutstanding = 0
place_given MayNotIssue = 0
place_given StallFull = 0
place_given NothingThere = 0
place_given MustStillWait = 0
place_given (NoRecord place) = place
place_given BufferShort = 0
place_given SizeOutside = 0
place_given RecordLong = most_bytes

-- Steps 11, Numbers 1: an answer in numbers
unfoldable pub answer_given : Answer → Given
answer_given Nothing = record { number = 0; place = 0; answered = 0; site = 0; tag = 0; value = 0 }
answer_given (Loaded i t v) = record { number = 0; place = 0; answered = 1; site = i; tag = t; value = v }
answer_given (Acknowledged i t) = record { number = 0; place = 0; answered = 2; site = i; tag = t; value = 0 }

-- Numbers 17: a refusal in numbers
unfoldable pub refusal_given : Refusal → Given
refusal_given r = record { number = number_of r; place = place_given r; answered = 0; site = 0; tag = 0; value = 0 }

-- Shape 15: the number and the values of each case
unfoldable pub given : Outcome → Given
given (Ok a) = answer_given a
given (Err r) = refusal_given r
