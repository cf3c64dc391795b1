-- What is given back of each outcome: 0 where it is done, else its number and no answer.
use mathlib.Core.Path.{◌≡◌, refl}
use mathlib.Core.Logic.{◌⊎◌, inl, inr}
use mathlib.Core.Bool.{cond}
use lib.Dec.{eqb}
use Rattle.model.specs.declared.Answer.TheVariants.{Nothing, Loaded, Acknowledged}
use Rattle.model.specs.declared.Refusal.{Refusal}
use Rattle.model.specs.declared.Refusal.TheVariants.{NotSound, NoSuchSite, AddressPastLast, TagOutstanding, MayNotIssue, StallFull, NothingThere, MustStillWait, NoRecord, BufferShort, SizeOutside, RecordLong}
use Rattle.model.specs.Given.{most_bytes, number_of, place_given, answer_given, refusal_given, given}
use Rattle.promises.specs.Promises.{DoneGiven, RefusalGiven}
use Rattle.std.specs.Prelude.{Ok, Err}

-- Numbers 17: beside 10 stands the place of its fault, beside 13 the most bytes of a record, beside any other 0
other_places : (r : Refusal) → (number_of r ≡ 10) ⊎ (place_given r ≡ cond (eqb (number_of r) 13) most_bytes 0)
unfolding number_of place_given
other_places NotSound = inr refl
other_places NoSuchSite = inr refl
other_places AddressPastLast = inr refl
other_places TagOutstanding = inr refl
other_places MayNotIssue = inr refl
other_places StallFull = inr refl
other_places NothingThere = inr refl
other_places MustStillWait = inr refl
other_places (NoRecord p) = inl refl
other_places BufferShort = inr refl
other_places SizeOutside = inr refl
other_places RecordLong = inr refl

pub done_by_number : DoneGiven
unfolding given answer_given refusal_given number_of
done_by_number (Ok Nothing) = refl
done_by_number (Ok (Loaded i t v)) = refl
done_by_number (Ok (Acknowledged i t)) = refl
done_by_number (Err NotSound) = refl
done_by_number (Err NoSuchSite) = refl
done_by_number (Err AddressPastLast) = refl
done_by_number (Err TagOutstanding) = refl
done_by_number (Err MayNotIssue) = refl
done_by_number (Err StallFull) = refl
done_by_number (Err NothingThere) = refl
done_by_number (Err MustStillWait) = refl
done_by_number (Err (NoRecord p)) = refl
done_by_number (Err BufferShort) = refl
done_by_number (Err SizeOutside) = refl
done_by_number (Err RecordLong) = refl

pub refusal_unanswered : RefusalGiven
unfolding given answer_given refusal_given place_given
refusal_unanswered (Ok Nothing) t = absurd t
refusal_unanswered (Ok (Loaded i u v)) t = absurd t
refusal_unanswered (Ok (Acknowledged i u)) t = absurd t
refusal_unanswered (Err r) t = record {
  answer = refl;
  answered = refl;
  site = refl;
  tag = refl;
  value = refl;
  ten = λ place e. let same : r ≡ NoRecord place = cc in rw same;
  others = other_places r;
}
