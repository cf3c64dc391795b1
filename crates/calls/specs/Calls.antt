-- What the calls give back (Parts 13a): document 01's operations, with numbers in and numbers out.
use Rattle.std.specs.Prelude.{Bool, cond, List, [], ◌∷◌, ℕ, get_or}
use Rattle.model.specs.declared.Given.{Given}
use Rattle.model.specs.declared.System.{System}
use Rattle.model.specs.declared.Sizes.{Sizes}
use Rattle.model.specs.declared.After.{After}
use Rattle.model.specs.declared.Drained.{Drained}
use Rattle.model.specs.declared.Refusal.{Refusal}
use Rattle.model.specs.declared.Refusal.TheVariants.{NotSound}
use Rattle.model.specs.Given.{number_of, place_given, given}
use Rattle.model.specs.Fresh.{fresh_of, refused}
use Rattle.model.specs.Sound.{sound}
use Rattle.model.specs.Steps.{stepped}
use Rattle.model.specs.Drain.{Drain, drain_of}
use Rattle.model.specs.Record.{numbers_of, sizes_of, read_sizes, read_step, Written, written, write_sizes, write_step}
use Rattle.codes.specs.Named.{Named, named_by}
use Rattle.record.specs.Whole.{write_whole}
use Rattle.calls.specs.declared.DrainGiven.{DrainGiven}
use Rattle.calls.specs.declared.SizesGiven.{SizesGiven}
use Rattle.calls.specs.declared.StepGiven.{StepGiven}
use Rattle.calls.specs.declared.WriteGiven.{WriteGiven}
use Rattle.calls.specs.declared.values.Stepped.{Stepped}
use Rattle.std.specs.Prelude.{Ok, Err, Some, None}
use Rattle.model.specs.Results.{ReadSizes, ReadStep, Wrote}

-- yes and no as numbers
abbrev pub flag : Bool → ℕ
flag b = cond b 1 0

-- THE LENT SYSTEM

-- Covers 1c: 1 where the state is sound
abbrev pub sound_call : System → ℕ
sound_call s = flag (sound s)

-- what is given back, and the lent system after it
abbrev pub stepped_by : Given → System → Stepped
stepped_by g s = record { given = g; system = s }

abbrev pub numbered : After → Stepped
numbered a = stepped_by (given a.outcome) a.system

-- Parts 7: a fresh system of six sizes, whatever these are
unfoldable pub fresh_call : ℕ → ℕ → ℕ → ℕ → ℕ → ℕ → Stepped
fresh_call sites words lines sets pend stall = numbered (fresh_of (sizes_of (sites ∷ words ∷ lines ∷ sets ∷ pend ∷ stall ∷ [])))

-- Numbers 10: numbers that name no step are refused with 10, the place counting the numbers; 1 comes before it (Numbers 14b).
abbrev pub unnamed : System → Refusal → After
unnamed s why = refused (cond (sound s) why NotSound) s

unfoldable pub step_named : System → Named → Stepped
step_named s (Ok x) = numbered (stepped s x)
step_named s (Err why) = numbered (unnamed s why)

-- Parts 13a: the step that six numbers name
abbrev pub step_call : System → ℕ → ℕ → ℕ → ℕ → ℕ → ℕ → Stepped
step_call s k i n t a b = step_named s (named_by k i n t a b)

-- what a drain gives back, the lent system and the lent buffer after it
pub record DrainBy : Type 0 where
  pub given : DrainGiven
  pub system : System
  pub buffer : List ℕ

abbrev pub drained_by : DrainGiven → System → List ℕ → DrainBy
drained_by g s buf = record { given = g; system = s; buffer = buf }

abbrev pub drain_given : Drained → DrainGiven
drain_given d = record { number = (given d.outcome).number; quiet = flag d.quiet; count = d.count; length = d.length }

abbrev pub drain_result : Drain → DrainBy
drain_result d = drained_by (drain_given d.result) d.result.system d.buffer

unfoldable pub drain_call : System → ℕ → List ℕ → DrainBy
drain_call s budget buf = drain_result (drain_of s budget buf)

-- READING

abbrev pub sizes_read : Sizes → ℕ → SizesGiven
sizes_read z next = record {
  number = 0;
  place = 0;
  next = next;
  sites = z.sites;
  words = z.words;
  lines = z.lines;
  sets = z.sets;
  pend = z.pend;
  stall = z.stall;
}

abbrev pub no_sizes_read : Refusal → SizesGiven
no_sizes_read r = record {
  number = number_of r;
  place = place_given r;
  next = 0;
  sites = 0;
  words = 0;
  lines = 0;
  sets = 0;
  pend = 0;
  stall = 0;
}

unfoldable pub sizes_numbers : ReadSizes → SizesGiven
sizes_numbers (Ok (z, next)) = sizes_read z next
sizes_numbers (Err r) = no_sizes_read r

abbrev pub read_sizes_call : List ℕ → SizesGiven
read_sizes_call bs = sizes_numbers (read_sizes bs)

-- the numbers of a step as they stand in a record; what is not there is 0
abbrev pub step_read : ℕ → ℕ → ℕ → ℕ → List ℕ → StepGiven
step_read number end place next ns = record {
  number = number;
  end = end;
  place = place;
  next = next;
  step = get_or ns 0 0;
  site = get_or ns 1 0;
  instruction = get_or ns 2 0;
  tag = get_or ns 3 0;
  first = get_or ns 4 0;
  second = get_or ns 5 0;
}

unfoldable pub step_numbers : ReadStep → StepGiven
step_numbers (Ok (Some (x, next))) = step_read 0 0 0 next (numbers_of x)
step_numbers (Ok None) = step_read 0 1 0 0 []
step_numbers (Err r) = step_read (number_of r) 0 (place_given r) 0 []

abbrev pub read_step_call : List ℕ → ℕ → StepGiven
read_step_call bs at = step_numbers (read_step bs at)

-- WRITING

-- what writing gives back, and the lent buffer after it
pub record WriteBy : Type 0 where
  pub given : WriteGiven
  pub buffer : List ℕ

abbrev pub wrote_by : WriteGiven → List ℕ → WriteBy
wrote_by g buf = record { given = g; buffer = buf }

unfoldable pub wrote_numbers : Wrote → WriteGiven
wrote_numbers (Ok next) = record { number = 0; place = 0; next = next }
wrote_numbers (Err r) = record { number = number_of r; place = place_given r; next = 0 }

abbrev pub wrote_result : Written → WriteBy
wrote_result w = wrote_by (wrote_numbers w.wrote) w.buffer

unfoldable pub write_sizes_call : ℕ → ℕ → ℕ → ℕ → ℕ → ℕ → List ℕ → WriteBy
write_sizes_call sites words lines sets pend stall buf = wrote_result (write_sizes (sizes_of (sites ∷ words ∷ lines ∷ sets ∷ pend ∷ stall ∷ [])) buf)

unfoldable pub write_named : Named → List ℕ → ℕ → WriteBy
write_named (Ok x) buf at = wrote_result (write_step x buf at)
write_named (Err why) buf at = wrote_result (written (Err why) buf)

abbrev pub write_step_call : ℕ → ℕ → ℕ → ℕ → ℕ → ℕ → List ℕ → ℕ → WriteBy
write_step_call k i n t a b buf at = write_named (named_by k i n t a b) buf at

-- a record of six sizes, whatever these are, and of rows of numbers
unfoldable pub write_record_call : ℕ → ℕ → ℕ → ℕ → ℕ → ℕ → List ℕ → List ℕ → WriteBy
write_record_call sites words lines sets pend stall ns buf =
    wrote_result (write_whole (sizes_of (sites ∷ words ∷ lines ∷ sets ∷ pend ∷ stall ∷ [])) ns buf)
