-- The proof of each promise of specs/Promises.antt.
use mathlib.Core.Path.{◌≡◌, refl, sym, ◌∙◌}
use mathlib.Core.Bool.{false, not, not-not}
use mathlib.Core.List.{List}
use Prim.Native.Nat.{ℕ, ◌*◌}
use native.Mathlib.Omega.{arith}
use lib.Dec.{T}
use lib.ListN.{length}
use Rattle.lists.proofs.Tests.{by_test, T_true, F_false, cond_T, cond_F}
use Rattle.lists.proofs.Counts.{count_same}
use Rattle.model.specs.declared.System.{System}
use Rattle.model.specs.declared.Sizes.{Sizes}
use Rattle.model.specs.declared.After.{After}
use Rattle.model.specs.declared.Step.{Step}
use Rattle.model.specs.declared.Refusal.TheVariants.{NotSound}
use Rattle.model.specs.Limits.{in_limits}
use Rattle.model.specs.Fresh.{no_sizes, blank, refused, fresh_of}
use Rattle.model.specs.Parts.{site_at}
use Rattle.model.specs.Given.{given, refusal_given, number_of}
use Rattle.model.specs.Sound.{request, reply, of_site, message_fits, site_queue_fits, sound}
use Rattle.model.specs.Steps.{step_of, stepped, is_done}
use Rattle.model.specs.Drain.{accepts, candidates_of, quiet, drained, drain_of}
use Rattle.model.specs.Record.{six_of}
use Rattle.promises.specs.Promises.{Promised, SizesOn, AllBytes, Verdict, good, bad_sizes, bad_step, gives, Ended, DemandThreeBound, DemandThreeAnswered, refuses, run, FreshSound, StepSound, RunSound, RefusedStays, DoneGiven, RefusalGiven, RunBound, QuietMeans, QuietEmpty, Alternating, OneOutstanding, AllAnswered, MovesMost, DrainQuiet, DrainFits, DrainRead, DrainTaken, DrainKeeps, ChoicesMost, Roomy, RunRoomy, RecordBytes, RecordRead, RecordOnly, ReadOnce, ReadOn, ReadAnswered, SizesFault, ReadFault, RecordWritten, WriteKeeps, ListingWhole}
use Rattle.promises.specs.Runs.{events}
use Rattle.promises.specs.Reading.{Read, as_record, sizes_refused, step_refused}
use Rattle.promises.proofs.Given.{done_by_number, refusal_unanswered}
use Rattle.promises.proofs.Queues.{queue_most}
use Rattle.promises.proofs.Sound.{Sound, opened, closed}
use Rattle.promises.proofs.Room.{the_limits, ready, net_places}
use Rattle.promises.proofs.Stepping.{Stepping, refusing, fenced, stalling, handling, resuming, sending, arriving, serving, returning, reaching, tooking, stepping}
use Rattle.promises.proofs.Public.{stepped-sound, run-kept, run-sizes}
use Rattle.promises.proofs.Kept.{kept, fresh_sound}
use Rattle.promises.proofs.Bound.{run_bound, most_moves}
use Rattle.promises.proofs.Quiet.{quiet_all, all_quiet, quiet_none}
use Rattle.promises.proofs.Drain.{drained_always, room_always, drained-bytes}
use Rattle.promises.proofs.Alternate.{alternates, one_behind, all_answered}
use Rattle.promises.proofs.Choices.{choices, accepted_candidate, candidates-once}
use Rattle.promises.proofs.Readers.{sizes_faulty, sizes-read, numbers-within}
use Rattle.promises.proofs.ReadBack.{read_back}
use Rattle.promises.proofs.ReadOff.{read_off}
use Rattle.promises.proofs.Endings.{step_on, all_read, same_reading, fault-placed}
use Rattle.promises.proofs.Listed.{whole-listing}
use Rattle.promises.proofs.Writes.{all_bytes, record_put, writes_keep}
use Rattle.promises.proofs.Drained.{drained-read, drained-kept}

-- GIVEN BACK

pub done_given : DoneGiven
done_given = done_by_number

pub refusal_given_lem : RefusalGiven
refusal_given_lem = refusal_unanswered

-- refused, where the step is that of a sound state
refuses_is : (s : System) → Sound s → (x : Step) → refuses s x ≡ not (accepts s x)
refuses_is s h x = rw (stepped-sound s h x, done_by_number (step_of s x).outcome)

-- SOUND

no-sizes : sound (blank no_sizes) ≡ false
unfolding sound in_limits
no-sizes = refl

pub fresh_is_sound : FreshSound
unfolding fresh_of
fresh_is_sound z =
    by_test (in_limits z)
    (λ t. rw (T_true (in_limits z) t) (T_true (sound (blank z)) (closed (blank z) (fresh_sound z t))))
    (λ t. rw (F_false (in_limits z) t) no-sizes)

pub step_is_sound : StepSound
step_is_sound s x t = rw (stepped-sound s (opened s t) x) (closed (step_of s x).system (kept s (opened s t) x))

pub run_is_sound : RunSound
run_is_sound z t xs = (closed (run z xs) (run-kept (blank z) (fresh_sound z t) xs), run-sizes (blank z) (fresh_sound z t) xs)

-- a refused step leaves the state
stays : (s : System) (x : Step) (r : After) → Stepping s x r → T (not (is_done r.outcome)) → r.system ≡ s
stays s x r (refusing y q) t = refl
stays s x r (fenced i u n d k) t = refl
stays s x r (stalling i u n d k l w) t = absurd t
stays s x r (handling i u n d k a q b) t = absurd t
stays s x r (resuming i l k a q b) t = absurd t
stays s x r (sending i l k) t = absurd t
stays s x r (arriving p l) t = absurd t
stays s x r (serving l) t = absurd t
stays s x r (returning l) t = absurd t
stays s x r (reaching p l) t = absurd t
stays s x r (tooking i l k) t = absurd t

-- and so from any state
all_stay : (s : System) (x : Step) → T (not (is_done (stepped s x).outcome)) → (stepped s x).system ≡ s
unfolding stepped
all_stay s x =
    by_test (sound s)
    (λ u. rw (cond_T (sound s) (step_of s x) (refused NotSound s) u) (stays s x (step_of s x) (stepping s (opened s u) x)))
    (λ u. rw (cond_F (sound s) (step_of s x) (refused NotSound s) u) (λ t. refl))

pub refused_stays : RefusedStays
refused_stays s x t = all_stay s x (rw (← done_by_number (stepped s x).outcome) at t)

-- THE BOUND

pub run_bounded : RunBound
run_bounded = run_bound

-- QUIET

pub quiet_means : QuietMeans
quiet_means s t =
    let h : Sound s = opened s t in
    (λ q x m. rw (refuses_is s h x) (quiet_all s h q x m), λ f. all_quiet s h (λ x m. rw (refuses_is s h x) at (f x m)))

pub quiet_empty : QuietEmpty
quiet_empty s t q = quiet_none s (opened s t) q

pub alternating : Alternating
alternating = alternates

pub one_outstanding : OneOutstanding
one_outstanding z l xs i t = one_behind (events i t (blank z) xs) (alternates z l xs i t)

pub all_are_answered : AllAnswered
all_are_answered = all_answered

-- FROM A SYSTEM THAT `fresh` GAVE

-- the system that `fresh` gave is the blank one of its sizes, and these are in their limits
pub record Blank (z : Sizes) : Type 0 where
  pub limits : T (in_limits z)
  pub is_blank : (fresh_of z).system ≡ blank z

fresh-blank : (z : Sizes) → T (gives z) → Blank z
unfolding fresh_of given refusal_given number_of
fresh-blank z =
    by_test (in_limits z)
    (λ t. rw (T_true (in_limits z) t) (λ g. record { limits = t; is_blank = rw (T_true (in_limits z) t) refl }))
    (λ t. rw (F_false (in_limits z) t) (λ g. absurd g))

pub demand_three_bound : DemandThreeBound
demand_three_bound z g xs = let b : Blank z = fresh-blank z g in rw b.is_blank (run_bounded z b.limits xs)

-- a run from the blank system that has come to its end
ended : (z : Sizes) → T (in_limits z) → (xs : List Step) → T (quiet (run z xs)) → Ended (blank z) xs
ended z t xs q = record {
  no_message = quiet_empty (run z xs) (run_is_sound z t xs).0 q;
  in_turn = λ i u. alternating z t xs i u;
  all_answered = λ i u. all_are_answered z t xs q i u;
}

pub demand_three_answered : DemandThreeAnswered
demand_three_answered z g xs =
    let b : Blank z = fresh-blank z g in
    rw b.is_blank (λ f. ended z b.limits xs ((quiet_means (run z xs) (run_is_sound z b.limits xs).0).1 f))

-- THE DRAIN

pub moves_most : MovesMost
moves_most s t xs m = most_moves s (opened s t) xs m

pub drain_quiet : DrainQuiet
unfolding drain_of
drain_quiet s t b l buf k =
    rw (T_true (sound s) t, room_always b (length buf) k) (T_true (quiet (drained b s).state) (drained_always b s (opened s t) l))

pub drain_fits : DrainFits
drain_fits s t b = drained-bytes b s (opened s t)

pub drain_read : DrainRead
drain_read = drained-read

pub drain_taken : DrainTaken
drain_taken s t b buf k = (drain_read s t b buf k).taken ∙ sym (drain_read s t b buf k).counted

pub drain_keeps : DrainKeeps
drain_keeps = drained-kept

-- THE CHOICES

-- what a sound state does not refuse it accepts
accepts_is : (s : System) → Sound s → (x : Step) → not (refuses s x) ≡ accepts s x
accepts_is s h x = rw (refuses_is s h x, not-not)

pub choices_most : ChoicesMost
choices_most s t =
    let h : Sound s = opened s t in
    record {
      listed = λ x m a. accepted_candidate s h x m (rw (accepts_is s h x) at a);
      once = λ x. candidates-once s.sizes.sites s.up.count s.down.count x;
      most = rw (count_same (λ x. not (refuses s x)) (accepts s) (candidates_of s) (accepts_is s h)) (choices s h);
    }

-- THE ROOM

roomy : (s : System) → Sound s → Roomy s
unfolding site_queue_fits
roomy s h =
    let most : ℕ = s.sizes.pend * s.sizes.sites in
    record {
      outgoing = λ i l. queue_most 5 s.sizes.pend (of_site s.sizes request i) (site_at s i).outgoing.count (site_at s i).outgoing.items (ready s h i l).out;
      incoming = λ i l. queue_most 5 s.sizes.pend (of_site s.sizes reply i) (site_at s i).incoming.count (site_at s i).incoming.items (ready s h i l).inc;
      up = queue_most 20 most (message_fits s.sizes request) s.up.count s.up.items h.up;
      arrived = queue_most 20 most (message_fits s.sizes request) s.arrived.count s.arrived.items h.arrived;
      served = queue_most 20 most (message_fits s.sizes reply) s.served.count s.served.items h.served;
      down = queue_most 20 most (message_fits s.sizes reply) s.down.count s.down.items h.down;
      five = (the_limits s h).pend_most;
      twenty = net_places s h;
    }

pub run_roomy : RunRoomy
run_roomy z t xs = roomy (run z xs) (run-kept (blank z) (fresh_sound z t) xs)

-- THE RECORD

pub record_bytes : RecordBytes
record_bytes = all_bytes

pub record_read : RecordRead
record_read = read_back

pub record_only : RecordOnly
record_only = read_off

pub read_once : ReadOnce
read_once = same_reading

pub sizes_on : SizesOn
sizes_on bs z past e = (numbers-within bs 0 (six_of z) past (sizes-read bs e).six (omega arith)).1

pub read_on : ReadOn
read_on = step_on

pub read_answered : ReadAnswered
read_answered = all_read

pub sizes_fault : SizesFault
sizes_fault = sizes_faulty

pub read_fault : ReadFault
read_fault = fault-placed

pub all_bytes_judged : AllBytes
all_bytes_judged bs b = go (read_answered bs)
  where
    go : Read bs → Verdict bs
    go (as_record z xs h) = good z xs (record_only bs b z xs h)
    go (sizes_refused r e) = bad_sizes r e (sizes_fault bs r e)
    go (step_refused z past xs r e u) = bad_step z past xs r e u (read_fault bs past xs r (sizes_on bs z past e) u)

pub record_written : RecordWritten
record_written = record_put

pub write_keeps : WriteKeeps
write_keeps = writes_keep

-- THE LISTING

pub listing_whole : ListingWhole
listing_whole = whole-listing

-- ALL OF IT

pub promised : Promised
promised = record {
  done_given = done_given;
  refusal_given_lem = refusal_given_lem;
  refused_stays = refused_stays;
  drain_keeps = drain_keeps;
  write_keeps = write_keeps;
  fresh_sound = fresh_is_sound;
  step_sound = step_is_sound;
  run_sound = run_is_sound;
  run_roomy = run_roomy;
  record_bytes = record_bytes;
  record_read = record_read;
  record_only = record_only;
  read_once = read_once;
  sizes_on = sizes_on;
  read_on = read_on;
  read_answered = read_answered;
  sizes_fault = sizes_fault;
  read_fault = read_fault;
  all_bytes = all_bytes_judged;
  record_written = record_written;
  listing_whole = listing_whole;
  drain_fits = drain_fits;
  drain_read = drain_read;
  drain_taken = drain_taken;
  run_bound = run_bounded;
  quiet_means = quiet_means;
  quiet_empty = quiet_empty;
  alternating = alternating;
  one_outstanding = one_outstanding;
  all_answered = all_are_answered;
  demand_three_bound = demand_three_bound;
  demand_three_answered = demand_three_answered;
  moves_most = moves_most;
  drain_quiet = drain_quiet;
  choices_most = choices_most;
}
