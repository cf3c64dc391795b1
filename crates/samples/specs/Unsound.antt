-- States that are not sound, found from the scene by one change: every place not in use, every field of it, and each clause on its own.
use Rattle.std.specs.Prelude.{List, [], ◌∷◌, ◌++◌, map, Bool, true, false, cond, ℕ, eqb, set}
use Rattle.lists.specs.Places.{up_from, all_of}
use Rattle.model.specs.declared.Message.{Message}
use Rattle.model.specs.declared.Entry.{Entry}
use Rattle.model.specs.declared.Waiting.{Waiting}
use Rattle.model.specs.declared.Place.{Place}
use Rattle.model.specs.declared.Queue.{Queue}
use Rattle.model.specs.declared.System.{System}
use Rattle.model.specs.Fresh.{no_values, no_marks}
use Rattle.model.specs.Parts.{site_at, put_site, with_pends, with_stalls, with_outgoing, with_incoming, net_put, net_rest, site_put, site_rest, with_nets}
use Rattle.model.specs.Sampling.{Act, Sample, ◌∶◌, unsound, stays_sound, standing, run, sized}
use Rattle.model.specs.Broken.{with_line, with_waiting, with_entry, with_going, with_place, busy}
use Rattle.samples.specs.Scene.{words, marks, place, entry, waits, message, fetch_by, write_back_by, fetch_reply_to, ack_to, scene}

-- ONE THING THAT IS NOT 0

abbrev pub word_at : ℕ → List ℕ
word_at k = set no_values k 1

abbrev pub mark_at : ℕ → List Bool
mark_at k = set no_marks k true

-- messages, entries, waiting instructions and places not in use, each with one field that is not 0
abbrev pub stray_messages : List Message
stray_messages =
    message 1 0 0 no_marks no_values ∷ message 0 1 0 no_marks no_values ∷ message 0 0 1 no_marks no_values ∷
    (map (λ k. message 0 0 0 (mark_at k) no_values) (up_from 0 4) ++ map (λ k. message 0 0 0 no_marks (word_at k)) (up_from 0 4))

abbrev pub stray_entries : List Entry
stray_entries =
    entry 1 0 0 0 0 no_values ∷ entry 0 1 0 0 0 no_values ∷ entry 0 0 1 0 0 no_values ∷ entry 0 0 0 1 0 no_values ∷ entry 0 0 0 0 1 no_values ∷
    map (λ k. entry 0 0 0 0 0 (word_at k)) (up_from 0 4)

abbrev pub stray_waiting : List Waiting
stray_waiting = waits 1 0 0 0 0 ∷ waits 0 1 0 0 0 ∷ waits 0 0 1 0 0 ∷ waits 0 0 0 1 0 ∷ waits 0 0 0 0 1 ∷ []

abbrev pub unused_place : ℕ → List Bool → List ℕ → Place
unused_place L ms vs = record { used = false; line = L; dirty = ms; values = vs }

abbrev pub stray_places : List Place
stray_places =
    unused_place 3 no_marks no_values ∷ (map (λ k. unused_place 0 (mark_at k) no_values) (up_from 0 4) ++ map (λ k. unused_place 0 no_marks (word_at k)) (up_from 0 4))

-- WHERE IT IS PUT

-- at place p of the up network, memory's incoming queue, its outgoing queue or the down network: 0 to 3. Its count stays.
abbrev pub item_put : ℕ → ℕ → ℕ → Message → Queue → Queue
item_put k here p m q = cond (eqb k here) (record { items = set q.items p m; count = q.count }) q

abbrev pub with_item : ℕ → ℕ → Message → System → System
with_item k p m s = with_nets s (item_put k 0 p m s.up) (item_put k 1 p m s.arrived) (item_put k 2 p m s.served) (item_put k 3 p m s.down)

abbrev pub with_coming : ℕ → ℕ → Message → System → System
with_coming i k m s =
    put_site s i (with_incoming (site_at s i) (record { items = set (site_at s i).incoming.items k m; count = (site_at s i).incoming.count }))

-- a message more: in one of the four, or in one of site 2's queues
abbrev pub one_more : ℕ → Message → System → System
one_more k m s =
    with_nets s (cond (eqb k 0) (net_put s.up m) s.up) (cond (eqb k 1) (net_put s.arrived m) s.arrived)
    (cond (eqb k 2) (net_put s.served m) s.served) (cond (eqb k 3) (net_put s.down m) s.down)

abbrev pub one_more_out : Message → System → System
one_more_out m s = put_site s 2 (with_outgoing (site_at s 2) (site_put (site_at s 2).outgoing m))

abbrev pub one_more_in : Message → System → System
one_more_in m s = put_site s 2 (with_incoming (site_at s 2) (site_put (site_at s 2).incoming m))

-- a message less, at the front of one of the four, or of a site's queues
abbrev pub one_less : ℕ → System → System
one_less k s =
    with_nets s (cond (eqb k 0) (net_rest s.up 0) s.up) (cond (eqb k 1) (net_rest s.arrived 0) s.arrived)
    (cond (eqb k 2) (net_rest s.served 0) s.served) (cond (eqb k 3) (net_rest s.down 0) s.down)

-- all these changes make a state that is not sound
abbrev pub unsound_all : {A : Type 0} → (A → System → System) → List A → List Act
unsound_all change xs = map (λ x. unsound (change x)) xs

-- the message of an unused place: line 1 and no more
abbrev pub stray : Message
stray = message 0 0 1 no_marks no_values

-- PLACES NOT IN USE

unfoldable pub unused_rows : List Sample
unused_rows =
    "every-unused-place-of-the-networks" ∶ standing scene (all_of 4 (λ k. unsound_all (λ p s. with_item k p stray s) (up_from 2 18))) ∷
    "every-field-of-an-unused-message" ∶ standing scene (
    unsound_all (λ m s. with_item 0 2 m s) stray_messages ++ (unsound_all (λ m s. with_item 3 19 m s) stray_messages ++
    (unsound_all (λ m s. with_going 1 0 m s) stray_messages ++ unsound_all (λ m s. with_coming 0 4 m s) stray_messages))) ∷
    "every-unused-place-of-the-site-queues" ∶ standing scene (
    unsound_all (λ p s. with_going 2 p stray s) (up_from 1 4) ++ (unsound_all (λ p s. with_coming 1 p stray s) (up_from 1 4) ++
    (unsound_all (λ p s. with_going 1 p stray s) (up_from 0 5) ++ unsound_all (λ p s. with_coming 2 p stray s) (up_from 0 5)))) ∷
    "every-field-of-an-unused-entry" ∶ standing scene (
    unsound_all (λ e s. with_entry 2 3 e s) stray_entries ++ (unsound_all (λ e s. with_entry 2 4 e s) stray_entries ++ unsound_all (λ e s. with_entry 0 4 e s) stray_entries)) ∷
    "every-field-of-an-unused-stall-place" ∶ standing scene (
    unsound_all (λ w s. with_waiting 2 2 w s) stray_waiting ++ (unsound_all (λ w s. with_waiting 0 7 w s) stray_waiting ++
    (unsound_all (λ p s. with_waiting 2 p (waits 0 0 0 1 0) s) (up_from 2 6) ++ unsound_all (λ p s. with_waiting 0 p (waits 0 1 0 0 0) s) (up_from 0 8)))) ∷
    "every-field-of-an-unused-cache-place" ∶ standing scene (
    unsound_all (λ p s. with_place 0 0 p s) stray_places ++ (unsound_all (λ p s. with_place 2 2 p s) stray_places ++ unsound_all (λ p s. with_place 1 7 p s) stray_places)) ∷
    "every-set-past-the-sets" ∶ standing scene (
    unsound_all (λ k s. with_place 0 k (place 0 no_marks no_values) s) (up_from 3 5) ++ unsound_all (λ k s. with_place 2 k (unused_place 0 no_marks (word_at 3)) s) (up_from 3 5)) ∷
    "every-word-past-the-lines" ∶ standing scene (all_of 4 (λ k. unsound_all (λ L s. with_line L (word_at k) s) (up_from 12 4))) ∷
    "every-place-of-an-unused-site" ∶ standing scene (
    unsound_all (λ p s. with_going 3 p stray s) (up_from 0 5) ++ (unsound_all (λ p s. with_coming 3 p stray s) (up_from 0 5) ++
    (unsound_all (λ p s. with_entry 3 p (entry 0 0 0 0 0 (word_at 3)) s) (up_from 0 5) ++ (unsound_all (λ p s. with_waiting 3 p (waits 0 0 0 0 1) s) (up_from 0 8) ++
    (unsound_all (λ k s. with_place 3 k (unused_place 0 no_marks (word_at 0)) s) (up_from 0 8) ++ unsound_all (λ k s. with_place 3 k (place 0 no_marks no_values) s) (up_from 0 8)))))) ∷
    []

-- WORDS PAST THE LINE'S WORDS: two words, so the third and the fourth are not in use

-- site 0's second entry and its message in the outgoing queue
abbrev pub going0 : Message → Entry → System → System
going0 m e s = with_going 0 0 m (with_entry 0 1 e s)

-- the reply to site 1 in the down network, in place of its fetch in the up network
abbrev pub replied1 : List ℕ → System → System
replied1 vs s = with_nets s (net_rest s.up 1) s.arrived s.served (net_put s.down (fetch_reply_to 1 3 vs))

unfoldable pub word_rows : List Sample
word_rows =
    "words-and-marks-of-a-line-in-use" ∶ run (sized 2 2 4 2 2 2) (busy ++ (
    stays_sound (with_place 0 1 (place 1 (marks true true false false) (words 1 2 0 0))) ∷ stays_sound (with_line 3 (words 1 2 0 0)) ∷
    stays_sound (going0 (write_back_by 0 2 (marks true true false false) (words 1 2 0 0)) (entry 2 2 1 5 0 (words 1 2 0 0))) ∷ stays_sound (replied1 (words 1 2 0 0)) ∷ [])) ∷
    "every-word-past-the-words" ∶ run (sized 2 2 4 2 2 2) (busy ++ (
    unsound_all (λ k s. with_place 0 1 (place 1 no_marks (word_at k)) s) (up_from 2 2) ++ (unsound_all (λ k s. with_place 0 1 (place 1 (mark_at k) no_values) s) (up_from 2 2) ++
    (all_of 4 (λ L. unsound_all (λ k s. with_line L (word_at k) s) (up_from 2 2)) ++
    (unsound_all (λ k s. going0 (write_back_by 0 2 no_marks (word_at k)) (entry 4 2 0 0 0 no_values) s) (up_from 2 2) ++
    (unsound_all (λ k s. going0 (write_back_by 0 2 (mark_at k) no_values) (entry 4 2 0 0 0 no_values) s) (up_from 2 2) ++
    (unsound_all (λ k s. going0 (write_back_by 0 2 no_marks no_values) (entry 2 2 1 5 0 (word_at k)) s) (up_from 2 2) ++
    unsound_all (λ k s. replied1 (word_at k) s) (up_from 2 2)))))))) ∷
    -- a fetch and an acknowledgement carry nothing, a fetch reply no marks; only a Commit's entry has words, only a Storel's a value
    "what-a-kind-does-not-carry" ∶ standing scene (
    unsound_all (λ k s. with_item 0 1 (message 0 0 2 no_marks (word_at k)) s) (up_from 0 4) ++ (unsound_all (λ k s. with_item 0 1 (message 0 0 2 (mark_at k) no_values) s) (up_from 0 4) ++
    (unsound_all (λ k s. with_item 2 1 (message 3 2 11 no_marks (word_at k)) s) (up_from 0 4) ++ (unsound_all (λ k s. with_item 2 1 (message 3 2 11 (mark_at k) no_values) s) (up_from 0 4) ++
    (unsound_all (λ k s. with_item 2 0 (message 2 0 5 (mark_at k) no_values) s) (up_from 0 4) ++
    (unsound_all (λ k s. with_entry 2 0 (entry 1 2 3 21 201 (word_at k)) s) (up_from 0 4) ++ (unsound_all (λ k s. with_entry 1 0 (entry 0 0 2 11 0 (word_at k)) s) (up_from 0 4) ++
    (unsound_all (λ k s. with_entry 1 2 (entry 3 1 3 12 0 (word_at k)) s) (up_from 0 4) ++ (unsound_all (λ k s. with_entry 2 2 (entry 4 11 0 0 0 (word_at k)) s) (up_from 0 4) ++ (
    unsound (with_entry 1 0 (entry 0 0 2 11 1 no_values)) ∷ unsound (with_entry 2 1 (entry 2 6 1 22 1 (words 61 62 63 64))) ∷
    unsound (with_entry 1 2 (entry 3 1 3 12 1 no_values)) ∷ unsound (with_entry 2 2 (entry 4 11 0 0 1 no_values)) ∷ unsound (with_entry 2 2 (entry 4 11 0 1 0 no_values)) ∷
    unsound (with_entry 2 2 (entry 4 11 1 0 0 no_values)) ∷ unsound (with_waiting 2 0 (waits 0 7 1 23 1)) ∷ unsound (with_waiting 2 0 (waits 2 7 1 23 1)) ∷
    unsound (with_waiting 2 0 (waits 3 7 1 23 1)) ∷ [])))))))))) ∷
    []

-- EACH CLAUSE ON ITS OWN

-- site 2's first entry of another kind, and its message in the outgoing queue
abbrev pub kind2 : ℕ → Message → System → System
kind2 k m s = with_going 2 0 m (with_entry 2 0 (entry k 2 0 0 0 no_values) s)

unfoldable pub clause_rows : List Sample
clause_rows =
    "kind-of-entry-and-of-message" ∶ standing scene (
    stays_sound (kind2 0 (fetch_by 2 2)) ∷ stays_sound (kind2 1 (fetch_by 2 2)) ∷ unsound (kind2 2 (fetch_by 2 2)) ∷ unsound (kind2 3 (fetch_by 2 2)) ∷ unsound (kind2 4 (fetch_by 2 2)) ∷
    unsound (kind2 0 (write_back_by 2 2 no_marks no_values)) ∷ unsound (kind2 1 (write_back_by 2 2 no_marks no_values)) ∷ stays_sound (kind2 2 (write_back_by 2 2 no_marks no_values)) ∷
    stays_sound (kind2 3 (write_back_by 2 2 no_marks no_values)) ∷ stays_sound (kind2 4 (write_back_by 2 2 no_marks no_values)) ∷ unsound (kind2 5 (write_back_by 2 2 no_marks no_values)) ∷
    unsound (kind2 5 (fetch_by 2 2)) ∷ []) ∷
    "kind-past-the-last" ∶ standing scene (
    unsound (with_going 2 0 (message 4 2 2 no_marks no_values)) ∷ unsound (with_item 0 1 (message 4 0 2 no_marks no_values)) ∷ unsound (with_item 1 1 (message 4 0 8 no_marks no_values)) ∷
    unsound (with_item 2 0 (message 4 0 5 no_marks no_values)) ∷ unsound (with_item 3 0 (message 5 2 6 no_marks no_values)) ∷ unsound (with_coming 1 0 (message 4 1 0 no_marks no_values)) ∷
    unsound (with_waiting 2 0 (waits 4 7 1 23 0)) ∷ unsound (with_waiting 2 0 (waits 7 7 1 23 0)) ∷ stays_sound (with_waiting 2 0 (waits 3 7 1 23 0)) ∷ []) ∷
    "address-in-range" ∶ standing scene (
    stays_sound (with_waiting 2 0 (waits 1 11 3 23 203)) ∷ unsound (with_waiting 2 0 (waits 1 12 1 23 203)) ∷ unsound (with_waiting 2 0 (waits 1 2 4 23 203)) ∷
    unsound (with_entry 2 0 (entry 1 2 4 21 201 no_values)) ∷ unsound (λ s. with_going 2 0 (fetch_by 2 12) (with_entry 2 0 (entry 1 12 3 21 201 no_values) s)) ∷
    stays_sound (λ s. with_going 2 0 (fetch_by 2 10) (with_entry 2 0 (entry 1 10 3 21 201 no_values) s)) ∷ unsound (with_place 2 0 (place 12 no_marks no_values)) ∷ []) ∷
    -- not two under one tag: both waiting, both pending, one of each; a voluntary entry has none, and another site's count there
    "tags-of-one-site-differ" ∶ standing scene (
    unsound (with_waiting 2 1 (waits 3 6 2 23 0)) ∷ unsound (with_entry 2 1 (entry 2 6 1 21 0 (words 61 62 63 64))) ∷ unsound (with_entry 1 3 (entry 1 8 1 11 208 no_values)) ∷
    unsound (with_waiting 2 0 (waits 1 2 1 22 203)) ∷ unsound (with_waiting 2 1 (waits 3 6 2 21 0)) ∷ unsound (with_waiting 1 0 (waits 2 0 1 14 0)) ∷
    stays_sound (with_waiting 2 0 (waits 1 2 1 0 203)) ∷ stays_sound (with_entry 2 0 (entry 1 2 3 0 201 no_values)) ∷ stays_sound (with_waiting 2 0 (waits 1 2 1 11 203)) ∷
    stays_sound (with_entry 2 0 (entry 1 2 3 13 201 no_values)) ∷ []) ∷
    "two-entries-for-one-line" ∶ standing scene (
    unsound (λ s. with_item 2 1 (ack_to 2 2) (with_entry 2 2 (entry 4 2 0 0 0 no_values) s)) ∷
    stays_sound (λ s. with_item 2 1 (ack_to 2 8) (with_entry 2 2 (entry 4 8 0 0 0 no_values) s)) ∷ []) ∷
    "cached-and-pending" ∶ standing scene (
    unsound (with_place 2 2 (place 2 no_marks no_values)) ∷ unsound (with_place 2 0 (place 6 no_marks no_values)) ∷ unsound (with_place 2 2 (place 11 no_marks no_values)) ∷
    stays_sound (with_place 2 2 (place 8 no_marks no_values)) ∷ stays_sound (with_place 1 2 (place 2 no_marks no_values)) ∷ unsound (with_place 1 2 (place 8 no_marks no_values)) ∷ []) ∷
    "line-in-its-set" ∶ standing scene (
    stays_sound (with_place 2 0 (place 3 no_marks no_values)) ∷ unsound (with_place 2 0 (place 4 no_marks no_values)) ∷ unsound (with_place 2 0 (place 7 no_marks no_values)) ∷
    unsound (with_place 2 2 (place 9 no_marks no_values)) ∷ stays_sound (with_place 2 2 (place 5 no_marks no_values)) ∷ []) ∷
    -- a second message for site 2's first entry, in each of the six places
    "second-message-for-an-entry" ∶ standing scene (
    unsound (one_more_out (fetch_by 2 2)) ∷ unsound (one_more 0 (fetch_by 2 2)) ∷ unsound (one_more 1 (fetch_by 2 2)) ∷ unsound (one_more 2 (fetch_reply_to 2 2 no_values)) ∷
    unsound (one_more 3 (fetch_reply_to 2 2 no_values)) ∷ unsound (one_more_in (fetch_reply_to 2 2 no_values)) ∷ []) ∷
    -- a message that no entry of its site waits for: no such line, another site's line, the other kind of trip
    "message-for-no-entry" ∶ standing scene (
    unsound (one_more_out (fetch_by 2 7)) ∷ unsound (one_more 0 (fetch_by 2 7)) ∷ unsound (one_more 1 (fetch_by 2 7)) ∷ unsound (one_more 2 (ack_to 2 7)) ∷
    unsound (one_more 3 (ack_to 2 7)) ∷ unsound (one_more_in (ack_to 2 7)) ∷ unsound (one_more 0 (fetch_by 2 0)) ∷ unsound (one_more 0 (fetch_by 1 2)) ∷
    unsound (one_more 0 (write_back_by 2 2 no_marks no_values)) ∷ unsound (one_more 3 (ack_to 2 2)) ∷ unsound (one_more 3 (fetch_reply_to 2 6 no_values)) ∷ []) ∷
    "entry-without-its-message" ∶ standing scene (
    unsound (one_less 0) ∷ unsound (one_less 1) ∷ unsound (one_less 2) ∷ unsound (one_less 3) ∷
    unsound (λ s. put_site s 2 (with_outgoing (site_at s 2) (site_rest (site_at s 2).outgoing))) ∷ unsound (λ s. put_site s 1 (with_incoming (site_at s 1) (site_rest (site_at s 1).incoming))) ∷ []) ∷
    "message-in-another-sites-queue" ∶ standing scene (
    unsound (with_going 2 0 (fetch_by 0 2)) ∷ unsound (λ s. one_less 0 (with_nets (put_site s 0 (with_outgoing (site_at s 0) (site_put (site_at s 0).outgoing (write_back_by 1 10 no_marks no_values)))) s.up s.arrived s.served s.down)) ∷
    unsound (λ s. one_more_in (fetch_reply_to 1 8 no_values) (with_nets s s.up s.arrived s.served (net_rest s.down 1))) ∷ []) ∷
    "counts-past-the-sizes" ∶ standing scene (
    unsound (λ s. one_more 0 (fetch_by 0 11) (put_site s 0 (with_pends (site_at s 0) 5 (set (site_at s 0).entries 4 (entry 0 11 1 9 0 no_values))))) ∷
    stays_sound (λ s. one_more 0 (fetch_by 2 8) (put_site s 2 (with_pends (site_at s 2) 4 (set (site_at s 2).entries 3 (entry 0 8 1 9 0 no_values))))) ∷
    unsound (λ s. put_site s 2 (with_stalls (site_at s 2) 4 (set (set (site_at s 2).waiting 2 (waits 0 0 0 8 0)) 3 (waits 0 0 0 9 0)))) ∷
    stays_sound (λ s. put_site s 2 (with_stalls (site_at s 2) 3 (set (site_at s 2).waiting 2 (waits 0 0 0 8 0)))) ∷ []) ∷
    []
