-- What is promised, in three demands, over the definitions of document 01. `Promised`, at the end of this file, has a field for each statement;
-- proofs/Demands.antt has its one value, so that no statement stands here without a proof.
-- 1. An operation always ends, with an answer or a numbered refusal; a refusal changes nothing.
-- 2. A step does what the rules say, and steps and records correspond one to one.
-- 3. What is under way comes to its end: within 13k + 7r steps, with no message left and every instruction answered.
use Rattle.std.specs.Prelude.{◌≡◌, ◌↔◌, ◌⊎◌, Bool, true, not, cond, ℕ, ◌+◌, ◌*◌, ◌≤◌, ◌<◌, min, T, eqb, length, take, drop, get_or}
use mathlib.Core.List.{List, [], ◌++◌, Memᴰ}
use Rattle.lists.specs.Places.{count, each}
use Rattle.numbers.specs.Groups.{bytes}
use Rattle.model.specs.declared.Sizes.{Sizes}
use Rattle.model.specs.declared.System.{System}
use Rattle.model.specs.declared.Step.{Step}
use Rattle.model.specs.declared.Refusal.{Refusal}
use Rattle.model.specs.declared.Refusal.TheVariants.{NoRecord, SizeOutside, RecordLong}
use Rattle.model.specs.declared.Answer.TheVariants.{Nothing}
use Rattle.model.specs.Limits.{in_limits, may_be_fresh, most_drain}
use Rattle.model.specs.Fresh.{fresh_of, blank}
use Rattle.model.specs.Parts.{site_at}
use Rattle.model.specs.Sound.{sound, under_way}
use Rattle.model.specs.Steps.{stepped, is_done, answer_of}
use Rattle.model.specs.Given.{most_bytes, given}
use Rattle.model.specs.Record.{steps_bytes, record_of, read_sizes, read_step, Written, written, write_sizes, write_step}
use Rattle.model.specs.Replay.{sizes_line, listing}
use Rattle.model.specs.Drain.{candidates_of, quiet, drained, Drain, drain_of}
use Rattle.promises.specs.Reading.{recordable, Ending, whole, broken, Reading, ReadsAs, Read, lines_of, write_record}
use Rattle.promises.specs.Runs.{after_run, accepted, is_move, issues_trip, issues_reconcile, same_move, events, free, alternate, is_issued, is_answered}
use Rattle.std.specs.Prelude.{Ok, Err}
use Rattle.model.specs.Results.{Outcome, sized, one}

-- GIVEN BACK

-- Numbers 1: the number 0 stands for done and for nothing else.
abbrev pub DoneGiven : Type 0
DoneGiven = (o : Outcome) → is_done o ≡ eqb (given o).number 0

-- what a refusal carries beside its number: nothing, but a place for 10 and for 13
pub record Unanswered (o : Outcome) : Type 0 where
  pub answer : answer_of o ≡ Nothing
  pub answered : (given o).answered ≡ 0
  pub site : (given o).site ≡ 0
  pub tag : (given o).tag ≡ 0
  pub value : (given o).value ≡ 0
  pub ten : (place : ℕ) → o ≡ Err (NoRecord place) → (given o).place ≡ place
  pub others : ((given o).number ≡ 10) ⊎ ((given o).place ≡ cond (eqb (given o).number 13) most_bytes 0)

-- Numbers 17: a refusal answers no processor.
abbrev pub RefusalGiven : Type 0
RefusalGiven = (o : Outcome) → T (not (eqb (given o).number 0)) → Unanswered o

-- the state refuses the step: the number that comes back is not 0
abbrev pub refuses : System → Step → Bool
refuses s x = not (eqb (given (stepped s x).outcome).number 0)

-- the system that `fresh_of z` gives where it does not refuse z, and then the steps
abbrev pub run : Sizes → List Step → System
run z xs = after_run (blank z) xs

-- SOUND

-- What `fresh_of` gives is sound exactly where it did not refuse: the state of all 0 has no size in its limits.
abbrev pub FreshSound : Type 0
FreshSound = (z : Sizes) → sound (fresh_of z).system ≡ may_be_fresh z

-- Soundness lasts: no step, accepted or refused, leads out of it.
abbrev pub StepSound : Type 0
StepSound = (s : System) (x : Step) → T (sound s) → T (sound (stepped s x).system)

-- Parts 12: so a run from a fresh system stays sound, and keeps its sizes.
abbrev pub RunSound : Type 0
RunSound = (z : Sizes) → T (may_be_fresh z) → (xs : List Step) → T (sound (run z xs)) × ((run z xs).sizes ≡ z)

-- Numbers 17: a refused step changes no field, be the state sound or not.
abbrev pub RefusedStays : Type 0
RefusedStays = (s : System) (x : Step) → T (refuses s x) → (stepped s x).system ≡ s

-- THE BOUND

-- Demand 3: 13 steps for each Loadl, Storel and Commit that was accepted, 7 for each Reconcile, and none for a fence.
abbrev pub RunBound : Type 0
RunBound =
    (z : Sizes) → T (may_be_fresh z) → (xs : List Step) →
    accepted is_move (blank z) xs ≤ 13 * accepted issues_trip (blank z) xs + 7 * accepted issues_reconcile (blank z) xs

-- QUIET

-- Drain 3b: `quiet` is a test that tries finitely many steps; where it passes, every step but an issue is refused, whatever site or position it names.
abbrev pub QuietMeans : Type 0
QuietMeans = (s : System) → T (sound s) → T (quiet s) ↔ ((x : Step) → T (is_move x) → T (refuses s x))

-- Demand 3: a quiet system holds no message, in any queue or network.
abbrev pub QuietEmpty : Type 0
QuietEmpty = (s : System) → T (sound s) → T (quiet s) → under_way s ≡ []

-- Demand 3: seen from one site under one tag, an accepted instruction and its answer take turns. The n-th answer thus belongs to the n-th
-- instruction; it is a value for a Loadl and an acknowledgement for any other.
abbrev pub Alternating : Type 0
Alternating = (z : Sizes) → T (may_be_fresh z) → (xs : List Step) (i t : ℕ) → T (alternate free (events i t (blank z) xs))

-- So a site has one instruction outstanding under a tag, or none: the answers are at most one behind.
abbrev pub OneOutstanding : Type 0
OneOutstanding =
    (z : Sizes) → T (may_be_fresh z) → (xs : List Step) (i t : ℕ) →
    (count is_answered (events i t (blank z) xs) ≤ count is_issued (events i t (blank z) xs)) ×
    (count is_issued (events i t (blank z) xs) ≤ count is_answered (events i t (blank z) xs) + 1)

-- Demand 3: where a run ends quiet, the answers have caught up, at each site and under each tag; fences count as instructions.
abbrev pub AllAnswered : Type 0
AllAnswered =
    (z : Sizes) → T (may_be_fresh z) → (xs : List Step) → T (quiet (run z xs)) → (i t : ℕ) →
    count is_issued (events i t (blank z) xs) ≡ count is_answered (events i t (blank z) xs)

-- FROM A SYSTEM THAT `fresh` GAVE: demand 3 as one statement for each half, over what a caller can see

-- `fresh` did not refuse the sizes
abbrev pub gives : Sizes → Bool
gives z = eqb (given (fresh_of z).outcome).number 0

-- the system that it gave, after any steps, refused ones among them
abbrev pub fresh_run : Sizes → List Step → System
fresh_run z xs = after_run (fresh_of z).system xs

-- The first half: 13k + 7r.
abbrev pub DemandThreeBound : Type 0
DemandThreeBound =
    (z : Sizes) → T (gives z) → (xs : List Step) →
    accepted is_move (fresh_of z).system xs ≤ 13 * accepted issues_trip (fresh_of z).system xs + 7 * accepted issues_reconcile (fresh_of z).system xs

-- what is left where a run from a fresh system has come to its end: no message, and at each site and under each tag as many answers as accepted
-- instructions, taking turns
pub record Ended (s : System) (xs : List Step) : Type 0 where
  pub no_message : under_way (after_run s xs) ≡ []
  pub in_turn : (i t : ℕ) → T (alternate free (events i t s xs))
  pub all_answered : (i t : ℕ) → count is_issued (events i t s xs) ≡ count is_answered (events i t s xs)

-- The second half: a run has come to its end where each step but an issue would be refused.
abbrev pub DemandThreeAnswered : Type 0
DemandThreeAnswered =
    (z : Sizes) → T (gives z) → (xs : List Step) → ((x : Step) → T (is_move x) → T (refuses (fresh_run z xs) x)) → Ended (fresh_of z).system xs

-- THE DRAIN

-- No sound state has more than 656 steps before it, issues apart.
abbrev pub MovesMost : Type 0
MovesMost = (s : System) → T (sound s) → (xs : List Step) → T (each is_move xs) → accepted is_move s xs ≤ most_drain

-- Drain 5: with 656 or more to spend, a drain leaves a quiet system.
abbrev pub DrainQuiet : Type 0
DrainQuiet =
    (s : System) → T (sound s) → (budget : ℕ) → most_drain ≤ budget → (buf : List ℕ) → 2 * most_drain ≤ length buf → (drain_of s budget buf).result.quiet ≡ true

-- Drain 4: the room that a drain asks for holds all that it writes.
abbrev pub DrainFits : Type 0
DrainFits = (s : System) → T (sound s) → (budget : ℕ) → length (steps_bytes (drained budget s).steps) ≤ 2 * min budget most_drain

-- a drain's bytes, read back, are these steps: their number is the count, each is accepted and no issue, and together they lead to the state that
-- the drain left
pub record DrainedBy (s : System) (xs : List Step) (d : Drain) : Type 0 where
  pub read : Reading (take d.result.length d.buffer) 0 xs whole
  pub counted : length xs ≡ d.result.count
  pub taken : accepted is_move s xs ≡ d.result.count
  pub leads : after_run s xs ≡ d.result.system

-- Contracts 4 and 5: no counted step is for show, and no count is invented.
abbrev pub DrainRead : Type 0
DrainRead =
    (s : System) → T (sound s) → (budget : ℕ) (buf : List ℕ) → 2 * min budget most_drain ≤ length buf →
    DrainedBy s (drained budget s).steps (drain_of s budget buf)

-- A drain writes accepted steps alone.
abbrev pub DrainTaken : Type 0
DrainTaken =
    (s : System) → T (sound s) → (budget : ℕ) (buf : List ℕ) → 2 * min budget most_drain ≤ length buf →
    accepted is_move s (drained budget s).steps ≡ length (drained budget s).steps

-- what a drain leaves alone: the buffer's length; the bytes past what it wrote; and, where it is refused, the state and every byte
pub record DrainKept (s : System) (buf : List ℕ) (d : Drain) : Type 0 where
  pub length_kept : length d.buffer ≡ length buf
  pub refused_kept : (r : Refusal) → d.result.outcome ≡ Err r → (d.result.system ≡ s) × (d.buffer ≡ buf)
  pub others_kept : (i : ℕ) → d.result.length ≤ i → get_or d.buffer i 0 ≡ get_or buf i 0

-- Numbers 17 and Drain 6, of the drain: from any state, sound or not.
abbrev pub DrainKeeps : Type 0
DrainKeeps = (s : System) (budget : ℕ) (buf : List ℕ) → DrainKept s buf (drain_of s budget buf)

-- THE CHOICES

-- the steps other than issues that a state accepts: they are among its candidates, no candidate stands twice, and 24 at most are accepted
pub record Choices (s : System) : Type 0 where
  pub listed : (x : Step) → T (is_move x) → T (not (refuses s x)) → Memᴰ x (candidates_of s)
  pub once : (x : Step) → count (same_move x) (candidates_of s) ≤ 1
  pub most : count (λ x. not (refuses s x)) (candidates_of s) ≤ 24

-- A sound state offers at most 24 steps beside issues: 20 messages and 4 retries.
abbrev pub ChoicesMost : Type 0
ChoicesMost = (s : System) → T (sound s) → Choices s

-- THE ROOM

-- no queue holds more than pend entries allow, and that is no more than its places: 5 in a site's two queues, 20 in the networks and at memory
pub record Roomy (s : System) : Type 0 where
  pub outgoing : (i : ℕ) → i < s.sizes.sites → (site_at s i).outgoing.count ≤ s.sizes.pend
  pub incoming : (i : ℕ) → i < s.sizes.sites → (site_at s i).incoming.count ≤ s.sizes.pend
  pub up : s.up.count ≤ s.sizes.pend * s.sizes.sites
  pub arrived : s.arrived.count ≤ s.sizes.pend * s.sizes.sites
  pub served : s.served.count ≤ s.sizes.pend * s.sizes.sites
  pub down : s.down.count ≤ s.sizes.pend * s.sizes.sites
  pub five : s.sizes.pend ≤ 5
  pub twenty : s.sizes.pend * s.sizes.sites ≤ 20

-- Parts 8: along every run there is room. A message that a step puts into a queue found a place, since the state after that step is roomy too.
abbrev pub RunRoomy : Type 0
RunRoomy = (z : Sizes) → T (may_be_fresh z) → (xs : List Step) → Roomy (run z xs)

-- THE RECORD

-- What a record is made of is bytes, below 256 each.
abbrev pub RecordBytes : Type 0
RecordBytes = (z : Sizes) (xs : List Step) → T (bytes (record_of z xs))

-- Demand 2: `record_of` is a record, where it is not too long. Read, it gives the sizes and the steps that it was made of, and then "end".
abbrev pub RecordRead : Type 0
RecordRead =
    (z : Sizes) (xs : List Step) → T (in_limits z) → T (each recordable xs) → length (record_of z xs) ≤ most_bytes → ReadsAs (record_of z xs) z xs

-- some bytes are the record of sizes in their limits and of a list of steps
pub record Recorded (bs : List ℕ) (z : Sizes) (xs : List Step) : Type 0 where
  pub record_bytes : bs ≡ record_of z xs
  pub limits : T (in_limits z)
  pub numbers : T (each recordable xs)
  pub short : length bs ≤ most_bytes

-- Demand 2: and it is the only one. Bytes that read to their end without a fault are `record_of` of what was read.
abbrev pub RecordOnly : Type 0
RecordOnly = (bs : List ℕ) → T (bytes bs) → (z : Sizes) (xs : List Step) → ReadsAs bs z xs → Recorded bs z xs

-- Bytes are not read in two ways.
abbrev pub ReadOnce : Type 0
ReadOnce = (bs : List ℕ) (at : ℕ) (xs ys : List Step) (e f : Ending) → Reading bs at xs e → Reading bs at ys f → (xs ≡ ys) × (e ≡ f)

-- Reading goes forward and stays within the bytes: past the sizes,
abbrev pub SizesOn : Type 0
SizesOn = (bs : List ℕ) (z : Sizes) (past : ℕ) → read_sizes bs ≡ sized z past → past ≤ length bs

-- and past each step. So it ends,
abbrev pub ReadOn : Type 0
ReadOn = (bs : List ℕ) (at next : ℕ) (x : Step) → read_step bs at ≡ one x next → (at < next) × (next ≤ length bs)

-- as a record, or with a refusal.
abbrev pub ReadAnswered : Type 0
ReadAnswered = (bs : List ℕ) → Read bs

-- how a reader refuses bytes: with 13 where there are too many, or with 10 and a place that is one of theirs or their end
pub data Faulty (bs : List ℕ) : Refusal → Type 0 where
  too_long : most_bytes < length bs → Faulty bs RecordLong
  fault_at : (place : ℕ) → place ≤ length bs → Faulty bs (NoRecord place)

-- Demand 2: bytes that are no record are refused so. The reader of sizes does it, unless a size is outside its limits;
abbrev pub SizesFault : Type 0
SizesFault = (bs : List ℕ) (r : Refusal) → read_sizes bs ≡ Err r → (r ≡ SizeOutside) ⊎ Faulty bs r

-- or the reader of steps does.
abbrev pub ReadFault : Type 0
ReadFault = (bs : List ℕ) (at : ℕ) (xs : List Step) (r : Refusal) → at ≤ length bs → Reading bs at xs (broken r) → Faulty bs r

-- what comes of any bytes: they are the record of one list of steps; or their sizes are refused, with 12, 13 or 10; or one of their steps is, with 13
-- or 10
pub data Verdict (bs : List ℕ) : Type 0 where
  good : (z : Sizes) (xs : List Step) → Recorded bs z xs → Verdict bs
  bad_sizes : (r : Refusal) → read_sizes bs ≡ Err r → (r ≡ SizeOutside) ⊎ Faulty bs r → Verdict bs
  bad_step : (z : Sizes) (past : ℕ) (xs : List Step) (r : Refusal) → read_sizes bs ≡ sized z past → Reading bs past xs (broken r) → Faulty bs r → Verdict bs

-- Demand 2, closed: there is such a verdict on every string of bytes.
abbrev pub AllBytes : Type 0
AllBytes = (bs : List ℕ) → T (bytes bs) → Verdict bs

-- The writers of sizes and of a step, one after the other, leave the record at the buffer's start and the rest of the buffer as it was.
abbrev pub RecordWritten : Type 0
RecordWritten =
    (z : Sizes) (xs : List Step) (buf : List ℕ) → T (in_limits z) → length (record_of z xs) ≤ most_bytes → length (record_of z xs) ≤ length buf →
    write_record z xs buf ≡ written (Ok (length (record_of z xs))) (record_of z xs ++ drop (length (record_of z xs)) buf)

-- what a write at an offset leaves alone: everything where it is refused, else all bytes but its own
pub record Kept (at : ℕ) (before : List ℕ) (after : Written) : Type 0 where
  pub length_kept : length after.buffer ≡ length before
  pub refused_kept : (r : Refusal) → after.wrote ≡ Err r → after.buffer ≡ before
  pub others_kept : (end i : ℕ) → after.wrote ≡ Ok end → (i < at) ⊎ (end ≤ i) → get_or after.buffer i 0 ≡ get_or before i 0

-- Numbers 17, of the writers of sizes and of a step.
abbrev pub WriteKeeps : Type 0
WriteKeeps =
    ((z : Sizes) (buf : List ℕ) → Kept 0 buf (write_sizes z buf)) × ((x : Step) (buf : List ℕ) (at : ℕ) → Kept at buf (write_step x buf at))

-- THE LISTING

-- Replay 2: the sizes, the steps that were read and the ending have a line each; none is missed.
abbrev pub ListingWhole : Type 0
ListingWhole =
    (bs : List ℕ) (z : Sizes) (past : ℕ) (xs : List Step) (e : Ending) → read_sizes bs ≡ sized z past → Reading bs past xs e →
    listing bs ≡ sizes_line z ++ lines_of 1 (blank z) xs e

-- ALL OF IT

-- A field for each statement of this file. A field with no proof leaves `promised` in proofs/Demands.antt without a value, and the check fails.
pub record Promised : Type 0 where
  -- Demand 1: an answer always, by number; a refusal leaves everything
  pub done_given : DoneGiven
  pub refusal_given_lem : RefusalGiven
  pub refused_stays : RefusedStays
  pub drain_keeps : DrainKeeps
  pub write_keeps : WriteKeeps
  pub fresh_sound : FreshSound
  pub step_sound : StepSound
  pub run_sound : RunSound
  pub run_roomy : RunRoomy
  -- Demand 2: what the rules say, and one record for each list of steps
  pub record_bytes : RecordBytes
  pub record_read : RecordRead
  pub record_only : RecordOnly
  pub read_once : ReadOnce
  pub sizes_on : SizesOn
  pub read_on : ReadOn
  pub read_answered : ReadAnswered
  pub sizes_fault : SizesFault
  pub read_fault : ReadFault
  pub all_bytes : AllBytes
  pub record_written : RecordWritten
  pub listing_whole : ListingWhole
  pub drain_fits : DrainFits
  pub drain_read : DrainRead
  pub drain_taken : DrainTaken
  -- Demand 3: the bound, and what is left where it ends
  pub run_bound : RunBound
  pub quiet_means : QuietMeans
  pub quiet_empty : QuietEmpty
  pub alternating : Alternating
  pub one_outstanding : OneOutstanding
  pub all_answered : AllAnswered
  pub demand_three_bound : DemandThreeBound
  pub demand_three_answered : DemandThreeAnswered
  pub moves_most : MovesMost
  pub drain_quiet : DrainQuiet
  pub choices_most : ChoicesMost
