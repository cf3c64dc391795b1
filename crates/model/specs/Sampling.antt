-- What a sample is, and when it holds: a number and its bytes, a fresh system and what is done to it, a record read or written.
use Rattle.std.specs.Prelude.{◌≡◌, Bool, true, false, not, ◌&&◌, cond, ℕ, suc, eqb, get_or, length, take}
use mathlib.Core.List.{List, [], ◌∷◌, ◌++◌, flat_map, map}
use Prim.Native.String.{String}
use Rattle.numbers.specs.Groups.{bytes_of, read_number, encoded, above, decoded, limited}
use Rattle.model.specs.declared.Sizes.{Sizes}
use Rattle.model.specs.declared.Message.{Message}
use Rattle.model.specs.declared.Entry.{Entry}
use Rattle.model.specs.declared.Waiting.{Waiting}
use Rattle.model.specs.declared.Place.{Place}
use Rattle.model.specs.declared.CacheSet.{CacheSet}
use Rattle.model.specs.declared.Pends.{Pends}
use Rattle.model.specs.declared.Stalls.{Stalls}
use Rattle.model.specs.declared.Line.{Line}
use Rattle.model.specs.declared.Queue.{Queue}
use Rattle.model.specs.declared.SiteQueue.{SiteQueue}
use Rattle.model.specs.declared.System.{System}
use Rattle.model.specs.declared.After.{After}
use Rattle.model.specs.declared.Drained.{Drained}
use Rattle.model.specs.declared.Given.{Given}
use Rattle.model.specs.declared.Step.{Step}
use Rattle.model.specs.declared.Step.TheVariants.{Send, ArriveMemory, Serve, SendBack, ArriveSite, Take}
use Rattle.model.specs.Fresh.{fresh_of}
use Rattle.model.specs.Parts.{past_line, past_cache, past_pends, past_stalls, past_site_queue}
use Rattle.model.specs.Steps.{stepped, entered, issued_at, issued, resumed, retried_at, retried, after_send, sent_from, sent, after_arrive_memory}
use Rattle.model.specs.Steps.{arrived_memory, after_serve, serve_step, after_send_back, sent_back, after_arrive_site, arrived_site, took_at, took, step_of}
use Rattle.model.specs.Left.{outstanding_left, messages_left, outstanding_at}
use Rattle.model.specs.Given.{number_of, place_given, given, answer_given, refusal_given}
use Rattle.model.specs.Record.{Written, most_number, numbers_of, record_of, read_sizes, read_step, write_sizes, write_step, operands}
use Rattle.model.specs.Record.{consed, read_numbers, sizes_from, issue_limits, instruction_of, issue_from, read_issue, move_of, read_move, read_fields, step_at}
use Rattle.model.specs.Record.{read_step_of, put_at, written_at, six_of}
use Rattle.model.specs.Replay.{text, digits, name_of, answer_text, outcome_text, listed_from, listing}
use Rattle.model.specs.Drain.{Drain, drain_of, candidates, quiet, steps_of_kind, tries, first_of, drained}
use Rattle.lists.specs.Places.{all_below, sum_below, up_from, fits, array, weigh, unlike, removed, first_at, count, each, some, all_of}
use Rattle.model.specs.Limits.{in_limits}
use Rattle.model.specs.Sets.{words_fit, marks_fit, free_place, place_fits, set_fits, free_set, seat, displaced, placed, without, anew}
use Rattle.model.specs.Sound.{free_message, free_entry, free_waiting, carries, message_fits, queue_fits, waiting_fits, stalls_fit, entry_fits, pends_fit}
use Rattle.model.specs.Sound.{memory_fits, cache_fits, cached_apart, tags_differ, site_queue_fits, own_fits, site_fits, free_site, four_sites, sites_fit}
use Rattle.model.specs.Sound.{under_way, exactly_one, no_others, messages_fit, sound}
use Rattle.model.specs.Issue.{kind_of, first_address, last_address, value_of, addresses_fit, tag_free, blocks, may_issue}
use Rattle.model.specs.Handling.{missed, on_loadl, on_storel, absent, on_commit, on_reconcile, decided, performed}
use Rattle.model.specs.Serve.{merged, memory_after, reply_to}
use Rattle.model.specs.Take.{settled, taken}
use Rattle.std.specs.Prelude.{Ok, Err, Some, None}
use Rattle.model.specs.Results.{ReadSizes, ReadStep, Wrote}
use Rattle.numbers.specs.Groups.{Got}

-- WHAT IS GIVEN BACK

unfoldable pub same_numbers : List ℕ → List ℕ → Bool
same_numbers [] [] = true
same_numbers [] (y ∷ ys) = false
same_numbers (x ∷ xs) [] = false
same_numbers (x ∷ xs) (y ∷ ys) = eqb x y && same_numbers xs ys

-- number, place, answered, site, tag, value
unfoldable pub given_numbers : Given → List ℕ
given_numbers g = g.number ∷ g.place ∷ g.answered ∷ g.site ∷ g.tag ∷ g.value ∷ []

-- done, with no answer
abbrev pub done : List ℕ
done = 0 ∷ 0 ∷ 0 ∷ 0 ∷ 0 ∷ 0 ∷ []

-- done, with the answer to a site and a tag: a value, or an acknowledgement
abbrev pub value : ℕ → ℕ → ℕ → List ℕ
value i t v = 0 ∷ 0 ∷ 1 ∷ i ∷ t ∷ v ∷ []

abbrev pub ack : ℕ → ℕ → List ℕ
ack i t = 0 ∷ 0 ∷ 2 ∷ i ∷ t ∷ 0 ∷ []

-- refused
abbrev pub no : ℕ → List ℕ
no n = n ∷ 0 ∷ 0 ∷ 0 ∷ 0 ∷ 0 ∷ []

-- what a reader or a writer gives: 0 with the offset past and what was read, or a refusal's number with its place. The end is no number.
unfoldable pub sizes_given : ReadSizes → List ℕ
sizes_given (Ok (z, at)) = 0 ∷ at ∷ six_of z
sizes_given (Err r) = number_of r ∷ place_given r ∷ []

unfoldable pub step_given : ReadStep → List ℕ
step_given (Ok (Some (x, at))) = 0 ∷ at ∷ numbers_of x
step_given (Ok None) = []
step_given (Err r) = number_of r ∷ place_given r ∷ []

unfoldable pub wrote_given : Wrote → List ℕ
wrote_given (Ok at) = 0 ∷ at ∷ []
wrote_given (Err r) = number_of r ∷ place_given r ∷ []

unfoldable pub got_given : Got → List ℕ
got_given (Ok (v, at)) = 0 ∷ at ∷ v ∷ []
got_given (Err fault) = 10 ∷ fault.place ∷ []

-- ACTS ON A SYSTEM

pub data Act : Type 0 where
  -- a step gives these numbers
  ◌⇒◌ : Step → List ℕ → Act
  -- the six steps of a message from the head of a site's outgoing queue to its handling, the last of which gives these numbers
  trip : ℕ → List ℕ → Act
  -- a part of the state is these numbers
  shows : (System → List ℕ) → List ℕ → Act
  -- a step gives these numbers, and a part of the state stays as it was
  keeping : (System → List ℕ) → Step → List ℕ → Act
  -- a drain with a budget and a buffer gives number, count, quiet and length, and leaves a buffer
  drains : ℕ → List ℕ → List ℕ → List ℕ → Act
  -- the state with some part put anew is not sound
  unsound : (System → System) → Act
  -- or is still sound, with nothing for memory to serve
  still_sound : (System → System) → Act
  -- or is still sound, whatever memory has to serve
  stays_sound : (System → System) → Act

infix 68 ◌⇒◌
-- whether all gave what they should, and the state after
pub record Ran : Type 0 where
  pub right : Bool
  pub system : System

unfoldable pub ran_by : After → List ℕ → Ran
ran_by r ns = record { right = same_numbers (given_numbers (given r.outcome)) ns; system = r.system }

unfoldable pub and_then : Ran → Step → List ℕ → Ran
and_then r x ns = elim r.right [ true ↦ ran_by (stepped r.system x) ns | false ↦ r ]

unfoldable pub drain_numbers : Drained → List ℕ
drain_numbers d = (given d.outcome).number ∷ d.count ∷ cond d.quiet 1 0 ∷ d.length ∷ []

unfoldable pub drain_ran : Drain → List ℕ → List ℕ → Ran
drain_ran d ns buf = record { right = same_numbers (drain_numbers d.result) ns && same_numbers d.buffer buf; system = d.result.system }

unfoldable pub kept : List ℕ → (System → List ℕ) → Ran → Ran
kept before f r = record { right = r.right && same_numbers (f r.system) before; system = r.system }

unfoldable pub ran : System → Act → Ran
ran s (x ⇒ ns) = ran_by (stepped s x) ns
ran s (trip i ns) =
    let at_memory : Ran = and_then (ran_by (stepped s (Send i)) done) (ArriveMemory 0) done in
    let sent_back : Ran = and_then (and_then at_memory Serve done) SendBack done in
    and_then (and_then sent_back (ArriveSite 0) done) (Take i) ns
ran s (keeping f x ns) = kept (f s) f (ran_by (stepped s x) ns)
ran s (shows f ns) = record { right = same_numbers (f s) ns; system = s }
ran s (drains budget buf ns after) = drain_ran (drain_of s budget buf) ns after
ran s (unsound f) = record { right = (ran_by (stepped (f s) Serve) (no 1)).right; system = s }
ran s (still_sound f) = record { right = (ran_by (stepped (f s) Serve) (no 8)).right; system = s }
ran s (stays_sound f) = record { right = not (ran_by (stepped (f s) Serve) (no 1)).right; system = s }

-- PARTS OF A STATE

unfoldable pub memory_line : ℕ → System → List ℕ
memory_line L s = (get_or s.memory L past_line).values

unfoldable pub sizes_now : System → List ℕ
sizes_now s = six_of s.sizes

-- kind and line of each pend entry of a site
unfoldable pub entry_numbers : List Entry → List ℕ
entry_numbers [] = []
entry_numbers (e ∷ es) = e.kind ∷ e.line ∷ entry_numbers es

unfoldable pub pending : ℕ → System → List ℕ
pending i s = entry_numbers (take (get_or s.pends i past_pends).count (get_or s.pends i past_pends).entries)

-- kind, site and line of each message of a queue
unfoldable pub message_numbers : List Message → List ℕ
message_numbers [] = []
message_numbers (m ∷ ms) = m.kind ∷ m.site ∷ m.line ∷ message_numbers ms

unfoldable pub queued : Queue → List ℕ
queued q = message_numbers (take q.count q.items)

unfoldable pub site_queued : SiteQueue → List ℕ
site_queued q = message_numbers (take q.count q.items)

unfoldable pub going : ℕ → System → List ℕ
going i s = site_queued (get_or s.outgoing i past_site_queue)

-- the numbers behind `left`
unfoldable pub left_now : System → List ℕ
left_now s = outstanding_left s ∷ messages_left s ∷ []

unfoldable pub upward : System → List ℕ
upward s = queued s.up

unfoldable pub downward : System → List ℕ
downward s = queued s.down

-- WHOLE PARTS OF A STATE: every field of what is in use

abbrev pub marks_of : List Bool → List ℕ
marks_of ms = map (λ m. cond m 1 0) ms

-- kind, site, line, four marks, four words
abbrev pub whole_message : Message → List ℕ
whole_message m = m.kind ∷ m.site ∷ m.line ∷ (marks_of m.dirty ++ m.values)

-- kind, line, word, tag, value, four words
abbrev pub whole_entry : Entry → List ℕ
whole_entry e = e.kind ∷ e.line ∷ e.word ∷ e.tag ∷ e.value ∷ e.values

-- kind, line, word, tag, value
abbrev pub whole_waiting : Waiting → List ℕ
whole_waiting w = w.kind ∷ w.line ∷ w.word ∷ w.tag ∷ w.value ∷ []

-- used, line, four marks, four words
abbrev pub whole_place : Place → List ℕ
whole_place p = cond p.used 1 0 ∷ p.line ∷ (marks_of p.dirty ++ p.values)

abbrev pub whole_queue : Queue → List ℕ
whole_queue q = flat_map whole_message (take q.count q.items)

abbrev pub whole_site_queue : SiteQueue → List ℕ
whole_site_queue q = flat_map whole_message (take q.count q.items)

abbrev pub whole_pends : Pends → List ℕ
whole_pends p = flat_map whole_entry (take p.count p.entries)

abbrev pub whole_stalls : Stalls → List ℕ
whole_stalls t = flat_map whole_waiting (take t.count t.waiting)

-- the places of a site's sets, its entries, what waits there, its outgoing and its incoming queue
abbrev pub cache_of : ℕ → System → List ℕ
cache_of i s = flat_map (λ (t : CacheSet). whole_place t.low) (take s.sizes.sets (get_or s.caches i past_cache).sets)

abbrev pub entries_of : ℕ → System → List ℕ
entries_of i s = whole_pends (get_or s.pends i past_pends)

abbrev pub waiting_of : ℕ → System → List ℕ
waiting_of i s = whole_stalls (get_or s.stalls i past_stalls)

abbrev pub outgoing_of : ℕ → System → List ℕ
outgoing_of i s = whole_site_queue (get_or s.outgoing i past_site_queue)

abbrev pub incoming_of : ℕ → System → List ℕ
incoming_of i s = whole_site_queue (get_or s.incoming i past_site_queue)

-- the networks and memory's queues: up, arrived, served, down
abbrev pub up_now : System → List ℕ
up_now s = whole_queue s.up

abbrev pub arrived_now : System → List ℕ
arrived_now s = whole_queue s.arrived

abbrev pub served_now : System → List ℕ
served_now s = whole_queue s.served

abbrev pub down_now : System → List ℕ
down_now s = whole_queue s.down

-- memory's lines
abbrev pub memory_now : System → List ℕ
memory_now s = flat_map (λ (l : Line). l.values) (take s.sizes.lines s.memory)

-- THE KINDS OF SAMPLES

pub data Sample : Type 0 where
  -- a number is these bytes, written and read
  coded : ℕ → List ℕ → Sample
  -- the bytes are no number
  no_number : List ℕ → Sample
  -- a fresh system of the sizes gives a number back, and then acts give what they say
  fresh : Sizes → ℕ → List Act → Sample
  -- from a given state, acts give what they say
  standing : System → List Act → Sample
  -- sizes and steps are these bytes, written and read
  recorded : Sizes → List Step → List ℕ → Sample
  -- reading sizes from bytes, or a step from bytes at an offset, gives these numbers
  reads_sizes : List ℕ → List ℕ → Sample
  reads_step : List ℕ → ℕ → List ℕ → Sample
  -- writing sizes into a buffer, or a step at an offset of it, gives these numbers and leaves a buffer
  writes_sizes : Sizes → List ℕ → List ℕ → List ℕ → Sample
  writes_step : Step → List ℕ → ℕ → List ℕ → List ℕ → Sample
  -- the listing of bytes is this text
  lists : List ℕ → String → Sample
  -- for each number below a bound, what is given is what is said
  for_each : ℕ → (ℕ → List ℕ) → (ℕ → List ℕ) → Sample

-- a row of a table: a sample with the name that pages call it by
infix 68 ◌∶◌
abbrev pub ◌∶◌ : String → Sample → Sample
name ∶ x = x

unfoldable pub all_right : System → List Act → Bool
all_right s [] = true
all_right s (a ∷ acts) = let r : Ran = ran s a in elim r.right [ true ↦ all_right r.system acts | false ↦ false ]

unfoldable pub fresh_right : After → ℕ → List Act → Bool
fresh_right r n acts = eqb (given r.outcome).number n && all_right r.system acts

-- the steps are read one behind the other, and then the end
unfoldable pub reads_all : List ℕ → ℕ → List Step → Bool
reads_all bs at [] = same_numbers (step_given (read_step bs at)) []
reads_all bs at (x ∷ xs) =
    elim (read_step bs at) [ Ok (Some (y, next)) ↦ same_numbers (numbers_of y) (numbers_of x) && reads_all bs next xs | (Ok None) ↦ false | Err r ↦ false ]

unfoldable pub wrote_right : Written → List ℕ → List ℕ → Bool
wrote_right w ns buf = same_numbers (wrote_given w.wrote) ns && same_numbers w.buffer buf

unfoldable pub reads_record : ReadSizes → List ℕ → Sizes → List Step → Bool
reads_record (Ok (z, at)) bs z' xs = same_numbers (sizes_given (Ok (z, at))) (sizes_given (Ok (z', 6))) && reads_all bs at xs
reads_record (Err r) bs z' xs = false

-- Whoever unfolds it unfolds every definition of document 01 with it, so that a sample computes.
unfoldable pub holds : Sample → Bool
unfolding
    all_below sum_below up_from fits array weigh unlike removed first_at count each some all_of encoded above decoded limited read_number in_limits fresh_of
    words_fit marks_fit free_place place_fits set_fits free_set seat displaced placed without anew free_message free_entry free_waiting carries message_fits
    queue_fits waiting_fits stalls_fit entry_fits pends_fit memory_fits cache_fits cached_apart tags_differ site_queue_fits own_fits site_fits free_site four_sites
    sites_fit under_way exactly_one no_others messages_fit sound kind_of first_address last_address value_of addresses_fit tag_free blocks may_issue missed
    on_loadl on_storel absent on_commit on_reconcile decided performed merged memory_after reply_to settled taken entered issued_at issued resumed retried_at
    retried after_send sent_from sent after_arrive_memory arrived_memory after_serve serve_step after_send_back sent_back after_arrive_site arrived_site took_at took
    step_of stepped outstanding_at outstanding_left number_of place_given answer_given refusal_given given flat_map operands numbers_of consed
    read_numbers sizes_from read_sizes issue_limits instruction_of issue_from read_issue move_of read_move read_fields step_at read_step_of put_at written_at write_sizes write_step candidates
    quiet steps_of_kind tries first_of drained drain_of same_numbers given_numbers sizes_given step_given wrote_given got_given ran_by and_then drain_numbers drain_ran
    kept ran memory_line sizes_now entry_numbers pending message_numbers queued site_queued going left_now upward downward all_right fresh_right reads_all wrote_right
    reads_record text digits name_of answer_text outcome_text listed_from listing
holds (coded n bs) =
    same_numbers (bytes_of n) bs && same_numbers (got_given (read_number most_number (9 ∷ bs ++ (9 ∷ [])) 1)) (0 ∷ suc (length bs) ∷ n ∷ [])
holds (no_number bs) = same_numbers (got_given (read_number most_number (9 ∷ bs) 1)) (10 ∷ 1 ∷ [])
holds (fresh z n acts) = fresh_right (fresh_of z) n acts
holds (standing s acts) = all_right s acts
holds (recorded z xs bs) = same_numbers (record_of z xs) bs && reads_record (read_sizes bs) bs z xs
holds (reads_sizes bs ns) = same_numbers (sizes_given (read_sizes bs)) ns
holds (reads_step bs at ns) = same_numbers (step_given (read_step bs at)) ns
holds (writes_sizes z buf ns after) = wrote_right (write_sizes z buf) ns after
holds (writes_step x buf at ns after) = wrote_right (write_step x buf at) ns after
holds (lists bs t) = same_numbers (listing bs) (text t)
holds (for_each n given said) = all_below n (λ k. same_numbers (given k) (said k))

abbrev pub sized : ℕ → ℕ → ℕ → ℕ → ℕ → ℕ → Sizes
sized sites words lines sets pend stall = record { sites = sites; words = words; lines = lines; sets = sets; pend = pend; stall = stall }

-- the sizes of document 01's sample run
abbrev pub sample : Sizes
sample = sized 2 2 4 1 1 1

abbrev pub run : Sizes → List Act → Sample
run z acts = fresh z 0 acts

-- EACH SAMPLE HOLDS: where one does not, the refusal shows it

infixr 20 ◌▸◌
pub data EachHolds : List Sample → Type 0 where
  end : EachHolds []
  ◌▸◌ : {x : Sample} {xs : List Sample} → holds x ≡ true → EachHolds xs → EachHolds (x ∷ xs)
