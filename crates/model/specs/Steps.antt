-- Steps 1 to 8, each with the numbers that refuse it (Numbers 2 to 9), the lowest first (Numbers 14b).
use Rattle.std.specs.Prelude.{Bool, true, false, not, cond, ℕ, ◌+◌, ◌-◌, ltb, get_or, set}
use Rattle.lists.specs.Places.{removed}
use Rattle.model.specs.declared.Message.{Message}
use Rattle.model.specs.declared.Waiting.{Waiting}
use Rattle.model.specs.declared.Place.{Place}
use Rattle.model.specs.declared.SiteQueue.{SiteQueue}
use Rattle.model.specs.declared.System.{System}
use Rattle.model.specs.declared.Facts.{Facts}
use Rattle.model.specs.declared.Action.{Action}
use Rattle.model.specs.declared.After.{After}
use Rattle.model.specs.declared.Instruction.{Instruction}
use Rattle.model.specs.declared.Step.{Step}
use Rattle.model.specs.declared.Step.TheVariants.{Issue, Retry, Send, ArriveMemory, Serve, SendBack, ArriveSite, Take}
use Rattle.model.specs.declared.Answer.{Answer}
use Rattle.model.specs.declared.Answer.TheVariants.{Nothing, Acknowledged}
use Rattle.model.specs.declared.Refusal.{Refusal}
use Rattle.model.specs.declared.Refusal.TheVariants.{NotSound, NoSuchSite, AddressPastLast, TagOutstanding, MayNotIssue, StallFull, NothingThere, MustStillWait}
use Rattle.model.specs.Fresh.{no_waiting, done, refused}
use Rattle.model.specs.Parts.{Site, site_at, put_site, with_memory, with_out, with_in, with_nets, past_entry, past_waiting, past_site_queue, with_incoming, with_stalls, site_put, site_head, site_rest, net_put, net_at, net_rest}
use Rattle.model.specs.Sound.{sound}
use Rattle.model.specs.Issue.{is_fence, as_waiting, addresses_fit, tag_free, may_issue}
use Rattle.model.specs.Handling.{place_of, facts_of, decided, Handled, performed, must_wait}
use Rattle.model.specs.Serve.{line_at, memory_after, reply_to}
use Rattle.model.specs.Take.{entry_for, taken}
use Rattle.std.specs.Prelude.{Ok, Err}
use Rattle.model.specs.Results.{Outcome}

-- Numbers 14a, 17d: without the test passed, a refusal and the state as it was
abbrev pub unless : Bool → Refusal → System → After → After
unless ok r s next = cond ok next (refused r s)

-- Steps 11: the site after its handling, with the answer
abbrev pub handled_at : System → ℕ → Handled → After
handled_at s i h = done h.answer (put_site s i h.site)

-- 0 ISSUE

-- Handling 1: an instruction that has to wait joins the stall queue as its last
abbrev pub stalled_at : Site → Waiting → Site
stalled_at x w = with_stalls x (x.stalls + 1) (set x.waiting x.stalls w)

-- Handling 1, Numbers 7: an instruction that may be issued, by the action decided
unfoldable pub entered : System → ℕ → Site → Waiting → Place → Bool → Action → After
entered s i x w p crowded a =
    cond (must_wait a) (unless (not crowded) StallFull s (done Nothing (put_site s i (stalled_at x w)))) (handled_at s i (performed s.sizes i x w p a))

-- Steps 1: the same, from the facts
abbrev pub entered_by : System → ℕ → Site → Waiting → Place → Facts → After
entered_by s i x w p f = entered s i x w p f.crowded (decided w.kind f)

-- Steps 1: the same, from the place of its line
abbrev pub entered_at : System → ℕ → Site → Waiting → Place → After
entered_at s i x w p = entered_by s i x w p (facts_of s.sizes x w p)

-- Steps 1, Numbers 4, 5, 6: an instruction offered to site x
unfoldable pub issued_at : System → ℕ → Site → Instruction → Waiting → After
issued_at s i x n w =
    unless (addresses_fit s.sizes n) AddressPastLast s
    (unless (tag_free x w.tag) TagOutstanding s
    (unless (may_issue x w) MayNotIssue s
    -- Issue 6: past these looks a fence is acknowledged in the same step, and the state stays.
    (cond (is_fence n) (done (Acknowledged i w.tag) s)
    (entered_at s i x w (place_of s.sizes x w.line)))))

-- Steps 1, Numbers 3: an instruction offered to site i
unfoldable pub issued : System → ℕ → ℕ → Instruction → After
issued s i t n = unless (ltb i s.sizes.sites) NoSuchSite s (issued_at s i (site_at s i) n (as_waiting s.sizes t n))

-- 1 RETRY

-- Steps 2a: the first of the stall queue
abbrev pub stall_head : Site → Waiting
stall_head x = get_or x.waiting 0 past_waiting

-- Steps 2a: the site without it
abbrev pub unstalled : Site → Site
unstalled x = with_stalls x (x.stalls - 1) (removed no_waiting 0 x.waiting)

-- Steps 2b, Numbers 9: a first one that has to wait once more is left where it is, and the retry is refused
unfoldable pub resumed : System → ℕ → Site → Waiting → Place → Action → After
resumed s i x w p a = unless (not (must_wait a)) MustStillWait s (handled_at s i (performed s.sizes i x w p a))

-- Steps 2a: the same, from the place of its line
abbrev pub resumed_by : System → ℕ → Site → Waiting → Place → After
resumed_by s i x w p = resumed s i x w p (decided w.kind (facts_of s.sizes x w p))

-- Steps 2a: the same, from the instruction
abbrev pub resumed_at : System → ℕ → Site → Waiting → After
resumed_at s i x w = resumed_by s i x w (place_of s.sizes x w.line)

-- Steps 2a, Numbers 8: the first of the stall queue meets the rules of Handling again, as one that was issued just now
unfoldable pub retried_at : System → ℕ → Site → After
retried_at s i x = unless (ltb 0 x.stalls) NothingThere s (resumed_at s i (unstalled x) (stall_head x))

-- Steps 2, Numbers 3: a retry at site i
unfoldable pub retried : System → ℕ → After
retried s i = unless (ltb i s.sizes.sites) NoSuchSite s (retried_at s i (site_at s i))

-- 2 SEND

-- Steps 3: the first of the site's outgoing queue goes to the end of the up network
unfoldable pub after_send : System → ℕ → SiteQueue → System
after_send s i q = with_nets (with_out s i (site_rest q)) (net_put s.up (site_head q)) s.arrived s.served s.down

-- Steps 3, Numbers 8: the queue may have nothing to send
unfoldable pub sent_from : System → ℕ → SiteQueue → After
sent_from s i q = unless (ltb 0 q.count) NothingThere s (done Nothing (after_send s i q))

-- Steps 3, Numbers 3: a send at site i
unfoldable pub sent : System → ℕ → After
sent s i = unless (ltb i s.sizes.sites) NoSuchSite s (sent_from s i (get_or s.outgoing i past_site_queue))

-- 3 ARRIVE-MEMORY

-- Steps 4: the message at position p of the up network goes to the end of memory's incoming queue
unfoldable pub after_arrive_memory : System → ℕ → System
after_arrive_memory s p = with_nets s (net_rest s.up p) (net_put s.arrived (net_at s.up p)) s.served s.down

-- Steps 4, Numbers 8: the network may have no position p
unfoldable pub arrived_memory : System → ℕ → After
arrived_memory s p = unless (ltb p s.up.count) NothingThere s (done Nothing (after_arrive_memory s p))

-- 4 SERVE

-- Steps 5: memory does what its first request asks, and puts the reply at the end of its outgoing queue
unfoldable pub after_serve : System → Message → System
after_serve s m = with_nets (with_memory s (memory_after s.memory m)) s.up (net_rest s.arrived 0) (net_put s.served (reply_to (line_at s.memory m.line) m)) s.down

-- Steps 5, Numbers 8: memory may have no request
unfoldable pub serve_step : System → After
serve_step s = unless (ltb 0 s.arrived.count) NothingThere s (done Nothing (after_serve s (net_at s.arrived 0)))

-- 5 SEND-BACK

-- Steps 6: the first of memory's outgoing queue goes to the end of the down network
unfoldable pub after_send_back : System → System
after_send_back s = with_nets s s.up s.arrived (net_rest s.served 0) (net_put s.down (net_at s.served 0))

-- Steps 6, Numbers 8: memory may have no reply
unfoldable pub sent_back : System → After
sent_back s = unless (ltb 0 s.served.count) NothingThere s (done Nothing (after_send_back s))

-- 6 ARRIVE-SITE

-- Steps 7: the message at position p of the down network goes to its own site, at the end of the incoming queue there
unfoldable pub after_arrive_site : System → ℕ → Message → System
after_arrive_site s p m =
    with_nets (with_in s m.site (site_put (get_or s.incoming m.site past_site_queue) m)) s.up s.arrived s.served (net_rest s.down p)

-- Steps 7, Numbers 8: the network may have no position p
unfoldable pub arrived_site : System → ℕ → After
arrived_site s p = unless (ltb p s.down.count) NothingThere s (done Nothing (after_arrive_site s p (net_at s.down p)))

-- 7 TAKE

-- Steps 8: the reply m meets the entry at p
abbrev pub taken_at : System → ℕ → Site → Message → ℕ → After
taken_at s i x m p = handled_at s i (taken s.sizes i x p (get_or x.entries p past_entry) m)

-- Steps 8, Take 1: the reply m meets its entry
abbrev pub taken_for : System → ℕ → Site → Message → After
taken_for s i x m = taken_at s i x m (entry_for x m.line)

-- Steps 8, Numbers 8: the site takes the first reply that came in, if there is one
unfoldable pub took_at : System → ℕ → Site → After
took_at s i x =
    unless (ltb 0 x.incoming.count) NothingThere s
    (taken_for s i (with_incoming x (site_rest x.incoming)) (site_head x.incoming))

-- Steps 8, Numbers 3: a take at site i
unfoldable pub took : System → ℕ → After
took s i = unless (ltb i s.sizes.sites) NoSuchSite s (took_at s i (site_at s i))

-- A STEP OF A SOUND STATE

-- Steps 1 to 8: what each step does to a sound state
unfoldable pub step_of : System → Step → After
step_of s (Issue i t n) = issued s i t n
step_of s (Retry i) = retried s i
step_of s (Send i) = sent s i
step_of s (ArriveMemory p) = arrived_memory s p
step_of s Serve = serve_step s
step_of s SendBack = sent_back s
step_of s (ArriveSite p) = arrived_site s p
step_of s (Take i) = took s i

-- A STEP OF ANY STATE

-- Numbers 2, 14b: a state that is not sound is refused before anything else is looked at
unfoldable pub stepped : System → Step → After
stepped s x = unless (sound s) NotSound s (step_of s x)

-- OUTCOMES

-- Numbers 1: the outcome is no refusal
abbrev pub is_done : Outcome → Bool
is_done (Ok a) = true
is_done (Err r) = false

-- Numbers 17a: the answer, of which a refusal has none
abbrev pub answer_of : Outcome → Answer
answer_of (Ok a) = a
answer_of (Err r) = Nothing
