-- Parts 9 to 11: the tests that a state passes in order to be sound.
use Rattle.std.specs.Prelude.{List, ◌++◌, Bool, not, ◌&&◌, ◌||◌, cond, ℕ, ◌*◌, ◌%◌, leb, ltb, eqb, length, get_or, take}
use Rattle.lists.specs.Places.{array, each_of, none_of, unlike, all_below, count, each, some, all_of}
use Rattle.model.specs.declared.Sizes.{Sizes}
use Rattle.model.specs.declared.Message.{Message}
use Rattle.model.specs.declared.Entry.{Entry}
use Rattle.model.specs.declared.Waiting.{Waiting}
use Rattle.model.specs.declared.CacheSet.{CacheSet}
use Rattle.model.specs.declared.SiteQueue.{SiteQueue}
use Rattle.model.specs.declared.Queue.{Queue}
use Rattle.model.specs.declared.Line.{Line}
use Rattle.model.specs.declared.System.{System}
use Rattle.model.specs.Limits.{in_limits}
use Rattle.model.specs.Kinds.{write_back, fetch_reply, storel, commit, voluntary}
use Rattle.model.specs.Parts.{Site, site_at, past_set}
use Rattle.model.specs.Sets.{words_fit, marks_fit, set_fits, free_set, cached}

-- FREE PLACES ARE ALL 0

-- Parts 9i: a free place of a queue holds 0 throughout
unfoldable pub free_message : Message → Bool
free_message m = eqb m.kind 0 && eqb m.site 0 && eqb m.line 0 && words_fit 0 m.values && marks_fit 0 m.dirty

-- Parts 9i: a free pend entry holds 0 throughout
unfoldable pub free_entry : Entry → Bool
free_entry e =
    eqb e.kind 0 && eqb e.tag 0 && eqb e.line 0 && eqb e.word 0 && eqb e.value 0 && words_fit 0 e.values

-- Parts 9i: a free place of the stall queue holds 0 throughout
unfoldable pub free_waiting : Waiting → Bool
free_waiting w = eqb w.kind 0 && eqb w.tag 0 && eqb w.line 0 && eqb w.word 0 && eqb w.value 0

-- WHAT IS IN USE: HOW MANY, OF WHICH KIND, AT WHICH LINE, AND 0 IN EACH FIELD THAT ITS KIND LEAVES UNUSED

-- Parts 10a: the kinds of requests
abbrev pub request : ℕ → Bool
request k = ltb k 2

-- Parts 10b: the kinds of replies
abbrev pub reply : ℕ → Bool
reply k = leb 2 k && ltb k 4

-- Parts 9b, 9i: words ride in a write-back and a fetch reply alone, marks in a write-back alone
unfoldable pub carries : Sizes → ℕ → List ℕ → List Bool → Bool
carries z k vs ms = words_fit (cond (eqb k write_back || eqb k fetch_reply) z.words 0) vs && marks_fit (cond (eqb k write_back) z.words 0) ms

-- Parts 9b, 9d: a message is of its side's kinds, and names a site and a line that exist
unfoldable pub message_fits : Sizes → (ℕ → Bool) → Message → Bool
message_fits z side m =
    side m.kind && ltb m.site z.sites && ltb m.line z.lines && carries z m.kind m.values m.dirty

-- Parts 9b: a queue of so many places, of which the sizes allow so many
unfoldable pub queue_fits : ℕ → ℕ → (Message → Bool) → ℕ → List Message → Bool
queue_fits places most ok n ms = leb n most && array places ok free_message n ms

-- Parts 9c, 9d, 9i: a stalled instruction is none of the four fences, names an existing word, and has a value only if it is a Storel
unfoldable pub waiting_fits : Sizes → Waiting → Bool
waiting_fits z w = ltb w.kind 4 && ltb w.line z.lines && ltb w.word z.words && (eqb w.kind storel || eqb w.value 0)

-- Parts 9b: no more instructions are stalled than the sizes allow
unfoldable pub stalls_fit : Sizes → ℕ → List Waiting → Bool
stalls_fit z k ws = leb k z.stall && array 8 (waiting_fits z) free_waiting k ws

-- Parts 9b, 9d, 9i: an entry has a value only for a Storel, words only for a Commit, and neither tag nor word if it is voluntary
unfoldable pub entry_fits : Sizes → Entry → Bool
entry_fits z e =
    ltb e.kind 5 && ltb e.line z.lines && ltb e.word z.words && (eqb e.kind storel || eqb e.value 0) &&
    words_fit (cond (eqb e.kind commit) z.words 0) e.values &&
    (not (eqb e.kind voluntary) || eqb e.tag 0 && eqb e.word 0)

-- Parts 9b: no more entries pend than the sizes allow
unfoldable pub pends_fit : Sizes → ℕ → List Entry → Bool
pends_fit z n es = leb n z.pend && array 5 (entry_fits z) free_entry n es

-- Parts 9i: memory past the sizes holds 0
unfoldable pub memory_fits : Sizes → List Line → Bool
memory_fits z m = array 16 (λ l. words_fit z.words l.values) (λ l. words_fit 0 l.values) z.lines m

-- A CACHE

-- Parts 9e: every line in the cache stands in the set that its number gives
unfoldable pub cache_fits : Sizes → List CacheSet → Bool
cache_fits z c = eqb (length c) 8 && all_below 8 (λ k. set_fits z k (get_or c k past_set))

-- CACHED OR PENDING

-- Parts 9f: a line that pends at a site is not in that site's cache
unfoldable pub cached_apart : Sizes → List CacheSet → ℕ → List Entry → Bool
cached_apart z c n es = none_of (λ (e : Entry). cached z c e.line) n es

-- PENDING ONCE

-- Parts 9g: two entries for the same line
abbrev pub same_line : Entry → Entry → Bool
same_line a b = eqb a.line b.line

-- Parts 9g: a line pends at most once at a site
abbrev pub lines_differ : ℕ → List Entry → Bool
lines_differ n es = unlike same_line n es

-- TAGS: AN INSTRUCTION IS OUTSTANDING WHILE IT IS STALLED OR HAS A PEND ENTRY

-- Parts 11: a stalled instruction holds its tag
abbrev pub waits_under : ℕ → Waiting → Bool
waits_under t w = eqb w.tag t

-- Parts 11: a pend entry holds its tag, unless it is voluntary
abbrev pub pends_under : ℕ → Entry → Bool
pends_under t e = not (eqb e.kind voluntary) && eqb e.tag t

-- Parts 9h: two stalled instructions under one tag
abbrev pub same_tag : Waiting → Waiting → Bool
same_tag a b = eqb a.tag b.tag

-- Parts 9h: two pend entries under one tag, neither of them voluntary
abbrev pub same_pend_tag : Entry → Entry → Bool
same_pend_tag a b = not (eqb a.kind voluntary) && pends_under a.tag b

-- Parts 9h: a site uses no tag twice at a time: within its stall queue, within its entries, and across the two
unfoldable pub tags_differ : ℕ → List Entry → ℕ → List Waiting → Bool
tags_differ n es k ws =
    unlike same_tag k ws && unlike same_pend_tag n es && each_of (λ (w : Waiting). none_of (pends_under w.tag) n es) k ws

-- A SITE

-- Parts 10c: what stands in a queue of site i belongs to site i
abbrev pub of_site : Sizes → (ℕ → Bool) → ℕ → Message → Bool
of_site z side i m = message_fits z side m && eqb m.site i

-- Parts 9b, 10c: a site's queue holds at most as many messages as the site may have pend entries
unfoldable pub site_queue_fits : Sizes → (ℕ → Bool) → ℕ → SiteQueue → Bool
site_queue_fits z side i q = queue_fits 5 z.pend (of_site z side i) q.count q.items

-- Parts 9: what a site holds beside its queues
unfoldable pub own_fits : Sizes → List CacheSet → ℕ → List Entry → ℕ → List Waiting → Bool
own_fits z c n es k ws =
    cache_fits z c && pends_fit z n es && stalls_fit z k ws && cached_apart z c n es && lines_differ n es && tags_differ n es k ws

-- Parts 10: a site's requests go out and its replies come in
unfoldable pub site_fits : Sizes → ℕ → Site → Bool
site_fits z i x =
    own_fits z x.cache x.pends x.entries x.stalls x.waiting &&
    site_queue_fits z request i x.outgoing &&
    site_queue_fits z reply i x.incoming

-- Parts 9i: a site past the sizes
unfoldable pub free_site : Site → Bool
free_site x =
    eqb (length x.cache) 8 && all_below 8 (λ k. free_set (get_or x.cache k past_set)) &&
    eqb x.pends 0 && array 5 free_entry free_entry 0 x.entries &&
    eqb x.stalls 0 && array 8 free_waiting free_waiting 0 x.waiting &&
    eqb x.outgoing.count 0 && array 5 free_message free_message 0 x.outgoing.items &&
    eqb x.incoming.count 0 && array 5 free_message free_message 0 x.incoming.items

-- Parts 9: a site of the system fits; one past the sizes is free
abbrev pub site_ok : Sizes → ℕ → Site → Bool
site_ok z i x = cond (ltb i z.sites) (site_fits z i x) (free_site x)

-- Parts 9i: each part has a place for four sites
unfoldable pub four_sites : System → Bool
four_sites s =
    eqb (length s.caches) 4 && eqb (length s.pends) 4 && eqb (length s.stalls) 4 &&
    eqb (length s.outgoing) 4 && eqb (length s.incoming) 4

-- Parts 9: every site is in order
unfoldable pub sites_fit : System → Bool
sites_fit s = four_sites s && all_below 4 (λ i. site_ok s.sizes i (site_at s i))

-- PEND ENTRIES AND MESSAGES BELONG TOGETHER, ONE TO ONE

-- Parts 9j: the messages in a site's two queues
abbrev pub site_messages : Site → List Message
site_messages x = take x.outgoing.count x.outgoing.items ++ take x.incoming.count x.incoming.items

-- Parts 9j: all messages under way: in the sites' queues, the networks and memory's queues
unfoldable pub under_way : System → List Message
under_way s =
    all_of 4 (λ i. site_messages (site_at s i)) ++
    (take s.up.count s.up.items ++
    (take s.arrived.count s.arrived.items ++ (take s.served.count s.served.items ++ take s.down.count s.down.items)))

-- Parts 9j: a fetch and its reply are of one kind of trip, 0, a write-back and its acknowledgement of the other, 1
abbrev pub trip_of : ℕ → ℕ
trip_of k = k % 2

-- Parts 9j: a Loadl's or a Storel's entry waits for a fetch, any other for a write-back
abbrev pub trip_for : ℕ → ℕ
trip_for k = cond (ltb k 2) 0 1

-- Parts 9j: an entry waits for a message of its line, on its kind of trip
abbrev pub waits_for : Entry → ℕ → ℕ → Bool
waits_for e line trip = eqb line e.line && eqb trip (trip_for e.kind)

-- Parts 9j: the message belongs to the entry: same site, same line, same kind of trip
abbrev pub is_for : ℕ → Entry → Message → Bool
is_for i e m = eqb m.site i && waits_for e m.line (trip_of m.kind)

-- Parts 2c: the pend entries of site i that are in use
abbrev pub entries_at : System → ℕ → List Entry
entries_at s i = take (site_at s i).pends (site_at s i).entries

-- Parts 9j: every entry has one message that belongs to it, neither none nor two
unfoldable pub exactly_one : System → List Message → Bool
exactly_one s ms = all_below s.sizes.sites (λ i. each (λ e. eqb (count (is_for i e) ms) 1) (entries_at s i))

-- Parts 9k: every message belongs to some entry
unfoldable pub no_others : System → List Message → Bool
no_others s ms = each (λ m. some (λ e. is_for m.site e m) (entries_at s m.site)) ms

-- Parts 9j, 9k: entries and messages match
unfoldable pub messages_fit : System → List Message → Bool
messages_fit s ms = exactly_one s ms && no_others s ms

-- SOUND

-- Parts 9b: a network or a queue of memory
abbrev pub net_fits : Sizes → (ℕ → Bool) → Queue → Bool
net_fits z side q = queue_fits 20 (z.pend * z.sites) (message_fits z side) q.count q.items

-- Parts 9a to 9i, 10: on the way up there are requests alone, on the way down replies alone, and each part is in order
abbrev pub parts_fit : System → Bool
parts_fit s =
    in_limits s.sizes && memory_fits s.sizes s.memory && sites_fit s &&
    net_fits s.sizes request s.up && net_fits s.sizes request s.arrived &&
    net_fits s.sizes reply s.served && net_fits s.sizes reply s.down

-- Parts 9: the parts fit, and so do pend entries and messages
unfoldable pub sound : System → Bool
sound s = parts_fit s && messages_fit s (under_way s)
