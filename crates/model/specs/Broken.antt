-- States that are not sound, one clause of document 01's paragraph broken in each, and beside them states that still are.
use Rattle.std.specs.Prelude.{List, [], ◌∷◌, ◌++◌, Bool, true, false, cond, ℕ, eqb, set}
use Rattle.model.specs.declared.Sizes.{Sizes}
use Rattle.model.specs.declared.Message.{Message}
use Rattle.model.specs.declared.Entry.{Entry}
use Rattle.model.specs.declared.Waiting.{Waiting}
use Rattle.model.specs.declared.Place.{Place}
use Rattle.model.specs.declared.Queue.{Queue}
use Rattle.model.specs.declared.SiteQueue.{SiteQueue}
use Rattle.model.specs.declared.System.{System}
use Rattle.model.specs.declared.Instruction.TheVariants.{Loadl, Storel, Commit}
use Rattle.model.specs.declared.Step.TheVariants.{Issue, Send, Serve}
use Rattle.model.specs.Fresh.{no_values, no_marks, no_site_queue}
use Rattle.model.specs.Parts.{site_at, put_site, with_cache, with_pends, with_stalls, with_outgoing, with_incoming, site_put, net_put, net_rest, with_memory, with_nets}
use Rattle.model.specs.Sampling.{done, ack, no, Act, Sample, ◌∶◌, sized, run, ◌⇒◌, trip, unsound, still_sound}

abbrev pub with_sizes : Sizes → System → System
with_sizes z s = record {
  sizes = z;
  memory = s.memory;
  caches = s.caches;
  pends = s.pends;
  stalls = s.stalls;
  outgoing = s.outgoing;
  incoming = s.incoming;
  up = s.up;
  arrived = s.arrived;
  served = s.served;
  down = s.down;
}

abbrev pub with_line : ℕ → List ℕ → System → System
with_line L vs s = with_memory s (set s.memory L (record { values = vs }))

-- a message added to the up network, memory's incoming queue, its outgoing queue or the down network: 0 to 3
abbrev pub added_at : ℕ → ℕ → Message → Queue → Queue
added_at k here m q = cond (eqb k here) (net_put q m) q

abbrev pub added : ℕ → Message → System → System
added k m s =
    with_nets s (added_at k 0 m s.up) (added_at k 1 m s.arrived) (added_at k 2 m s.served) (added_at k 3 m s.down)

-- the same for the message at position 1 of the up network
abbrev pub moved : ℕ → Message → System → System
moved k m s = added k m (with_nets s (net_rest s.up 1) s.arrived s.served s.down)

-- what is put at a place of a site
abbrev pub with_waiting : ℕ → ℕ → Waiting → System → System
with_waiting i k w s = put_site s i (with_stalls (site_at s i) (site_at s i).stalls (set (site_at s i).waiting k w))

abbrev pub with_entry : ℕ → ℕ → Entry → System → System
with_entry i k e s = put_site s i (with_pends (site_at s i) (site_at s i).pends (set (site_at s i).entries k e))

abbrev pub with_going : ℕ → ℕ → Message → System → System
with_going i k m s =
    put_site s i (with_outgoing (site_at s i) (record { items = set (site_at s i).outgoing.items k m; count = (site_at s i).outgoing.count }))

abbrev pub with_place : ℕ → ℕ → Place → System → System
with_place i k p s = put_site s i (with_cache (site_at s i) (set (site_at s i).cache k (record { low = p })))

-- a site's outgoing and incoming queue put anew
abbrev pub with_queues : ℕ → SiteQueue → SiteQueue → System → System
with_queues i out in' s = put_site s i (with_incoming (with_outgoing (site_at s i) out) in')

-- a queue whose places are empty and whose count says otherwise
abbrev pub counting : ℕ → SiteQueue
counting n = record { items = no_site_queue.items; count = n }

abbrev pub waits : ℕ → ℕ → ℕ → ℕ → ℕ → Waiting
waits kind line word tag v = record { kind = kind; line = line; word = word; tag = tag; value = v }

abbrev pub pends : ℕ → ℕ → ℕ → ℕ → ℕ → List ℕ → Entry
pends kind line word tag v vs = record { kind = kind; line = line; word = word; tag = tag; value = v; values = vs }

abbrev pub says : ℕ → ℕ → ℕ → List ℕ → Message
says kind i line vs = record { kind = kind; site = i; line = line; dirty = no_marks; values = vs }

abbrev pub marking : List Bool → Message → Message
marking ds m = record { kind = m.kind; site = m.site; line = m.line; dirty = ds; values = m.values }

-- with its first word marked Dirty
abbrev pub marked : Message → Message
marked m = marking (set no_marks 0 true) m

abbrev pub holding : Bool → ℕ → List Bool → List ℕ → Place
holding used L ds vs = record { used = used; line = L; dirty = ds; values = vs }

abbrev pub clean : ℕ → List ℕ → Place
clean L vs = holding true L no_marks vs

-- with a word past the line's two, or the mark of one
abbrev pub fourth : List ℕ
fourth = 0 ∷ 0 ∷ 0 ∷ 1 ∷ []

abbrev pub fourth_marked : List Bool
fourth_marked = set no_marks 3 true

-- site 0's second entry, and its message in the outgoing queue
abbrev pub writing : Message → Entry → System → System
writing m e s = with_going 0 0 m (with_entry 0 1 e s)

-- site 1's entry is voluntary, and the answer to its write-back is in the down network
abbrev pub acknowledging : Message → System → System
acknowledging m s = moved 3 m (with_entry 1 0 (pends 4 3 0 0 0 no_values) s)

-- Site 0 has line 1 with a Dirty word, its fetch for line 2 not yet sent, and Loadl(1) and Commit(1) waiting. Its fetch for line 0 and site 1's for
-- line 3 are in the up network.
abbrev pub busy : List Act
busy =
    Issue 0 1 (Storel 2 5) ⇒ done ∷ trip 0 (ack 0 1) ∷ Issue 0 2 (Loadl 0) ⇒ done ∷ Issue 0 5 (Loadl 4) ⇒ done ∷ Issue 0 3 (Loadl 1) ⇒ done ∷
    Issue 0 4 (Commit 1) ⇒ done ∷ Issue 1 1 (Loadl 6) ⇒ done ∷ Send 0 ⇒ done ∷ Send 1 ⇒ done ∷ []

unfoldable pub sound_samples : List Sample
sound_samples =
    -- its sizes are in the table's limits, counts fit, lines are in range
    "sizes-and-counts-fit" ∶ run (sized 2 2 4 2 2 2) (busy ++ (
    Serve ⇒ no 8 ∷ unsound (with_sizes (sized 2 2 4 9 2 2)) ∷ unsound (with_sizes (sized 2 2 4 2 1 2)) ∷ unsound (with_sizes (sized 2 2 4 2 2 1)) ∷
    unsound (with_sizes (sized 1 2 4 2 2 2)) ∷ unsound (with_sizes (sized 2 2 3 2 2 2)) ∷ unsound (with_sizes (sized 2 1 4 2 2 2)) ∷ [])) ∷
    -- no fence waits, addresses are in range, places and fields not in use hold 0, tags differ
    "waiting-instructions-fit" ∶ run (sized 2 2 4 2 2 2) (busy ++ (
    unsound (with_waiting 0 0 (waits 4 0 1 3 0)) ∷ unsound (with_waiting 0 0 (waits 0 4 1 3 0)) ∷ unsound (with_waiting 0 0 (waits 0 0 2 3 0)) ∷
    unsound (with_waiting 0 0 (waits 0 0 1 3 1)) ∷ unsound (with_waiting 0 2 (waits 0 0 0 1 0)) ∷ unsound (with_waiting 0 0 (waits 0 0 1 4 0)) ∷
    unsound (with_waiting 0 0 (waits 0 0 1 2 0)) ∷ Serve ⇒ no 8 ∷ [])) ∷
    "pend-entries-fit" ∶ run (sized 2 2 4 2 2 2) (busy ++ (
    unsound (with_entry 0 1 (pends 0 2 2 5 0 no_values)) ∷ unsound (with_entry 0 1 (pends 0 2 0 5 1 no_values)) ∷
    unsound (with_entry 0 1 (pends 0 2 0 5 0 (1 ∷ 0 ∷ 0 ∷ 0 ∷ []))) ∷ unsound (with_entry 0 1 (pends 0 2 0 2 0 no_values)) ∷
    unsound (with_entry 0 2 (pends 0 0 0 1 0 no_values)) ∷ unsound (with_entry 2 0 (pends 0 0 0 1 0 no_values)) ∷
    unsound (with_entry 0 1 (pends 5 2 0 5 0 no_values)) ∷ unsound (with_entry 0 1 (pends 3 2 0 5 0 no_values)) ∷
    unsound (writing (says 1 0 2 no_values) (pends 4 2 0 1 0 no_values)) ∷ Serve ⇒ no 8 ∷ [])) ∷
    -- each field of a place not in use holds 0
    "unused-places-hold-0" ∶ run (sized 2 2 4 2 2 2) (busy ++ (
    unsound (with_going 0 1 (says 1 0 0 no_values)) ∷ unsound (with_going 0 1 (says 0 1 0 no_values)) ∷ unsound (with_going 0 1 (says 0 0 0 fourth)) ∷
    unsound (with_going 0 1 (marked (says 0 0 0 no_values))) ∷ unsound (with_entry 0 2 (pends 1 0 0 0 0 no_values)) ∷
    unsound (with_entry 0 2 (pends 0 1 0 0 0 no_values)) ∷ unsound (with_entry 0 2 (pends 0 0 1 0 0 no_values)) ∷
    unsound (with_entry 0 2 (pends 0 0 0 0 1 no_values)) ∷ unsound (with_entry 0 2 (pends 0 0 0 0 0 fourth)) ∷ unsound (with_waiting 0 2 (waits 1 0 0 0 0)) ∷
    unsound (with_waiting 0 2 (waits 0 1 0 0 0)) ∷ unsound (with_waiting 0 2 (waits 0 0 1 0 0)) ∷ unsound (with_waiting 0 2 (waits 0 0 0 0 1)) ∷
    unsound (with_place 0 0 (holding false 2 no_marks no_values)) ∷ unsound (with_place 0 0 (holding false 0 no_marks fourth)) ∷
    unsound (with_place 0 0 (holding false 0 fourth_marked no_values)) ∷ Serve ⇒ no 8 ∷ [])) ∷
    -- so does each field that the kind has no use for, and each word past the line's words
    "unused-fields-hold-0" ∶ run (sized 2 2 4 2 2 2) (busy ++ (
    unsound (with_waiting 0 1 (waits 2 0 1 4 1)) ∷ unsound (with_waiting 0 1 (waits 3 0 1 4 1)) ∷
    still_sound (writing (says 1 0 2 no_values) (pends 2 2 1 5 0 (1 ∷ 2 ∷ 0 ∷ 0 ∷ []))) ∷ unsound (writing (says 1 0 2 no_values) (pends 2 2 1 5 0 fourth)) ∷
    unsound (writing (says 1 0 2 no_values) (pends 2 2 1 5 1 no_values)) ∷ still_sound (writing (says 1 0 2 no_values) (pends 3 2 1 5 0 no_values)) ∷
    unsound (writing (says 1 0 2 no_values) (pends 3 2 1 5 1 no_values)) ∷ unsound (writing (says 1 0 2 no_values) (pends 3 2 1 5 0 (1 ∷ 0 ∷ 0 ∷ 0 ∷ []))) ∷
    still_sound (writing (says 1 0 2 no_values) (pends 4 2 0 0 0 no_values)) ∷ unsound (writing (says 1 0 2 no_values) (pends 4 2 1 0 0 no_values)) ∷
    unsound (writing (says 1 0 2 no_values) (pends 4 2 0 0 1 no_values)) ∷ unsound (writing (says 1 0 2 no_values) (pends 4 2 0 0 0 (1 ∷ 0 ∷ 0 ∷ 0 ∷ []))) ∷
    still_sound (writing (marked (says 1 0 2 (1 ∷ 2 ∷ 0 ∷ 0 ∷ []))) (pends 4 2 0 0 0 no_values)) ∷
    unsound (writing (says 1 0 2 fourth) (pends 4 2 0 0 0 no_values)) ∷ unsound (writing (marking fourth_marked (says 1 0 2 no_values)) (pends 4 2 0 0 0 no_values)) ∷
    still_sound (moved 3 (says 2 1 3 (1 ∷ 2 ∷ 0 ∷ 0 ∷ []))) ∷ unsound (moved 3 (says 2 1 3 fourth)) ∷
    still_sound (acknowledging (says 3 1 3 no_values)) ∷ unsound (acknowledging (says 3 1 3 (1 ∷ 0 ∷ 0 ∷ 0 ∷ []))) ∷ unsound (acknowledging (marked (says 3 1 3 no_values))) ∷
    unsound (with_place 0 1 (holding true 1 fourth_marked no_values)) ∷ Serve ⇒ no 8 ∷ [])) ∷
    -- a site past the sizes has nothing in use, and its places hold 0
    "unused-sites-hold-0" ∶ run (sized 2 2 4 2 2 2) (
    unsound (λ s. put_site s 2 (with_pends (site_at s 2) 1 (site_at s 2).entries)) ∷ unsound (λ s. put_site s 2 (with_stalls (site_at s 2) 1 (site_at s 2).waiting)) ∷
    unsound (with_waiting 2 0 (waits 0 0 0 1 0)) ∷ unsound (with_going 3 0 (says 0 0 1 no_values)) ∷
    unsound (with_queues 3 (counting 1) no_site_queue) ∷ unsound (with_queues 3 no_site_queue (counting 1)) ∷ Serve ⇒ no 8 ∷ []) ∷
    -- each cached line is in its set; no line is both cached and pending; no two entries for one line
    "cached-lines-in-set-and-not-pending" ∶ run (sized 2 2 4 2 2 2) (busy ++ (
    unsound (with_place 0 0 (clean 1 no_values)) ∷ unsound (with_place 0 0 (clean 0 no_values)) ∷ unsound (with_place 0 2 (clean 2 no_values)) ∷
    unsound (with_place 0 1 (clean 1 (0 ∷ 0 ∷ 1 ∷ 0 ∷ []))) ∷ unsound (with_place 0 1 (clean 5 no_values)) ∷ unsound (with_place 3 0 (clean 0 no_values)) ∷
    unsound (writing (says 1 0 0 no_values) (pends 4 0 0 0 0 no_values)) ∷
    unsound (with_line 0 (0 ∷ 0 ∷ 1 ∷ 0 ∷ [])) ∷ unsound (with_line 4 (1 ∷ 0 ∷ 0 ∷ 0 ∷ [])) ∷ Serve ⇒ no 8 ∷ [])) ∷
    -- line L lives in set L mod sets
    "line-in-one-of-eight-sets" ∶ run (sized 1 1 16 8 1 1) (
    still_sound (with_place 0 5 (clean 13 no_values)) ∷ unsound (with_place 0 5 (clean 12 no_values)) ∷ unsound (with_place 0 7 (clean 13 no_values)) ∷ Serve ⇒ no 8 ∷ []) ∷
    "line-in-one-of-three-sets" ∶ run (sized 1 1 16 3 1 1) (
    still_sound (with_place 0 2 (clean 14 no_values)) ∷ unsound (with_place 0 2 (clean 13 no_values)) ∷ still_sound (with_place 0 1 (clean 10 no_values)) ∷ Serve ⇒ no 8 ∷ []) ∷
    -- each pend entry has exactly one message under way, of its kind, site and line, and there are no others
    "one-message-for-each-entry" ∶ run (sized 2 2 4 2 2 2) (busy ++ (
    unsound (with_going 0 0 (says 1 0 2 no_values)) ∷ unsound (with_going 0 0 (says 0 1 2 no_values)) ∷ unsound (with_going 0 0 (says 0 0 3 no_values)) ∷
    unsound (with_going 0 0 (says 0 0 0 no_values)) ∷ unsound (with_going 0 0 (says 0 0 2 (1 ∷ 0 ∷ 0 ∷ 0 ∷ []))) ∷
    unsound (with_going 0 0 (marked (says 0 0 2 no_values))) ∷ unsound (moved 3 (marked (says 2 1 3 no_values))) ∷
    unsound (with_going 0 1 (says 0 0 1 no_values)) ∷ unsound (with_queues 0 no_site_queue no_site_queue) ∷ unsound (moved 4 (says 0 1 3 no_values)) ∷
    unsound (added 0 (says 0 1 3 no_values)) ∷ unsound (added 0 (says 0 1 1 no_values)) ∷ Serve ⇒ no 8 ∷ [])) ∷
    -- requests stand only on the way to memory, replies only on the way back; a site's two queues hold messages of that site alone
    "messages-on-their-side" ∶ run (sized 2 2 4 2 2 2) (busy ++ (
    unsound (moved 0 (says 2 1 3 no_values)) ∷ unsound (moved 1 (says 2 1 3 no_values)) ∷ unsound (moved 2 (says 0 1 3 no_values)) ∷
    unsound (moved 3 (says 0 1 3 no_values)) ∷ unsound (moved 3 (says 4 1 3 no_values)) ∷ unsound (with_going 0 0 (says 2 0 2 no_values)) ∷
    unsound (with_queues 0 no_site_queue (site_put no_site_queue (says 0 0 2 no_values))) ∷
    unsound (λ s. with_queues 1 (site_put no_site_queue (says 0 0 2 no_values)) no_site_queue (with_queues 0 no_site_queue no_site_queue s)) ∷
    Serve ⇒ no 8 ∷ [])) ∷
    []
