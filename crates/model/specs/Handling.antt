-- Handling 0 to 12 (001, rules C1 to C41): which action the rules take, and what the action does. Processor and cache talk within one
-- step: C1, C11, C21 and C33 ask the cache, and C19, C31 and C41 hear from it.
use Rattle.std.specs.Prelude.{List, Bool, true, false, not, ◌&&◌, ◌||◌, cond, ℕ, ◌+◌, leb, eqb, get_or, set}
use Rattle.lists.specs.Places.{none_of, each}
use Rattle.model.specs.declared.Sizes.{Sizes}
use Rattle.model.specs.declared.Message.{Message}
use Rattle.model.specs.declared.Entry.{Entry}
use Rattle.model.specs.declared.Waiting.{Waiting}
use Rattle.model.specs.declared.Place.{Place}
use Rattle.model.specs.declared.CacheSet.{CacheSet}
use Rattle.model.specs.declared.Facts.{Facts}
use Rattle.model.specs.declared.Action.{Action}
use Rattle.model.specs.declared.Action.TheVariants.{Load, Store, Acknowledge, Drop, Fetch, WriteBackKept, WriteBackDropped, Wait}
use Rattle.model.specs.declared.Answer.{Answer}
use Rattle.model.specs.declared.Answer.TheVariants.{Nothing, Loaded, Acknowledged}
use Rattle.model.specs.Kinds.{fetch, write_back, loadl, storel, commit}
use Rattle.model.specs.Fresh.{no_values, no_marks}
use Rattle.model.specs.Parts.{Site, with_cache, with_pends, with_outgoing, site_put}
use Rattle.model.specs.Sets.{holds, seat, without, anew, set_number, set_of}

-- WHAT THE RULES TEST

-- Handling 10, Take 8: no mark is Dirty
abbrev pub all_clean : List Bool → Bool
all_clean marks = each not marks

-- Handling 3a, 7a: no entry is for the line
abbrev pub line_free : Site → ℕ → Bool
line_free x L = none_of (λ (e : Entry). eqb e.line L) x.pends x.entries

-- Handling 2: where the instruction's line is, if it is cached
abbrev pub place_of : Sizes → Site → ℕ → Place
place_of z x L = seat (set_of z x.cache L) L

-- Handling 2 to 12: the six facts that decide; the marks count where the line is cached
abbrev pub facts_if : Bool → Sizes → Site → Waiting → Place → Facts
facts_if cached z x w p = record {
  cached = cached;
  dirty = cached && get_or p.dirty w.word false;
  stained = cached && not (all_clean p.dirty);
  pending = not (line_free x w.line);
  full = leb z.pend x.pends;
  crowded = leb z.stall x.stalls;
}

-- Handling 2: the facts for an instruction whose line is at p, if it is cached
abbrev pub facts_of : Sizes → Site → Waiting → Place → Facts
facts_of z x w p = facts_if (holds p w.line) z x w p

-- WHICH ACTION

-- Handling 3: a line that is not cached is asked for, unless no entry is free or the line pends already: then wait
unfoldable pub missed : Facts → Action
missed f = cond (f.full || f.pending) Wait Fetch  -- C5, C14; C4, C13

-- Handling 2: a Loadl whose line is cached is answered with the word
unfoldable pub on_loadl : Facts → Action
on_loadl f = cond f.cached Load (missed f)  -- C2, C3

-- Handling 4, 5: a Storel whose line is cached overwrites the word and is acknowledged; without the line it goes the way of a Loadl
unfoldable pub on_storel : Facts → Action
on_storel f = cond f.cached Store (missed f)  -- C12

-- Handling 7, 12: a Commit or a Reconcile whose line is not cached is acknowledged, unless that line pends: then wait
unfoldable pub absent : Facts → Action
absent f = cond f.pending Wait Acknowledge  -- C26, C39; C25, C38

-- Handling 6, 8: a Commit of a Clean word is acknowledged. With a Dirty word the line goes into an entry and is written back, or, where
-- no entry is free, the Commit waits.
unfoldable pub on_commit : Facts → Action
on_commit f =
    cond (not f.cached) (absent f)
    (cond (not f.dirty) Acknowledge  -- C22
    (cond f.full Wait WriteBackKept))  -- C24, C23

-- Handling 9 to 11: a Reconcile of a Dirty word is acknowledged. With no Dirty word in the line, the line is dropped and it is acknowledged.
-- With only others Dirty, the line is written back and dropped, and an entry without words added; or, where none is free, it waits.
unfoldable pub on_reconcile : Facts → Action
on_reconcile f =
    cond (not f.cached) (absent f)
    (cond f.dirty Acknowledge  -- C37
    (cond (not f.stained) Drop  -- C36
    (cond f.full Wait WriteBackDropped)))  -- C35, C34

-- Handling 2 to 12: the action, by the instruction's kind
unfoldable pub decided : ℕ → Facts → Action
decided k f = cond (eqb k loadl) (on_loadl f) (cond (eqb k storel) (on_storel f) (cond (eqb k commit) (on_commit f) (on_reconcile f)))

-- WHAT THE ACTION DOES

-- Steps 11: the answer, and the site after
pub record Handled : Type 0 where
  pub answer : Answer
  pub site : Site

-- Steps 11: an answer beside a site
abbrev pub answered : Answer → Site → Handled
answered a x = record { answer = a; site = x }

-- Handling 4: the line's set put anew
abbrev pub put_set : Sizes → Site → ℕ → CacheSet → Site
put_set z x L t = with_cache x (set x.cache (set_number z L) t)

-- Handling 8b, 10, 11b: the line leaves the cache
abbrev pub dropped : Sizes → Site → ℕ → Site
dropped z x L = put_set z x L (without (set_of z x.cache L) L)

-- Handling 3b, 5b, 8b, 11c: a pend entry for an instruction, with the words that it keeps
abbrev pub entry_of : Waiting → List ℕ → Entry
entry_of w vs = record { kind = w.kind; line = w.line; word = w.word; tag = w.tag; value = w.value; values = vs }

-- Handling 3b: the request for a line's words
abbrev pub fetch_of : ℕ → ℕ → Message
fetch_of i L = record { kind = fetch; site = i; line = L; dirty = no_marks; values = no_values }

-- Handling 8c: a write-back carries every word of the line, and every mark
abbrev pub write_back_of : ℕ → Place → Message
write_back_of i p = record { kind = write_back; site = i; line = p.line; dirty = p.dirty; values = p.values }

-- Handling 3b, 8b, 11b: a pend entry is added behind the last, and its request queued
abbrev pub asked : Site → Entry → Message → Site
asked x e m = with_outgoing (with_pends x (x.pends + 1) (set x.entries x.pends e)) (site_put x.outgoing m)

-- Handling 4: a place with word k overwritten and marked Dirty
abbrev pub written : Place → ℕ → ℕ → Place
written p k v = record { used = p.used; line = p.line; dirty = set p.dirty k true; values = set p.values k v }

-- Handling 2 to 12: what site i makes of the instruction w, whose line is at p if it is cached
unfoldable pub performed : Sizes → ℕ → Site → Waiting → Place → Action → Handled
performed z i x w p Load = answered (Loaded i w.tag (get_or p.values w.word 0)) x
performed z i x w p Store =
    answered (Acknowledged i w.tag) (put_set z x w.line (anew (set_of z x.cache w.line) w.line (written p w.word w.value)))
performed z i x w p Acknowledge = answered (Acknowledged i w.tag) x
performed z i x w p Drop = answered (Acknowledged i w.tag) (dropped z x w.line)
performed z i x w p Fetch = answered Nothing (asked x (entry_of w no_values) (fetch_of i w.line))
performed z i x w p WriteBackKept = answered Nothing (asked (dropped z x w.line) (entry_of w p.values) (write_back_of i p))
performed z i x w p WriteBackDropped = answered Nothing (asked (dropped z x w.line) (entry_of w no_values) (write_back_of i p))
performed z i x w p Wait = answered Nothing x

-- Handling 1: the one action that sends an instruction to the stall queue
abbrev pub must_wait : Action → Bool
must_wait Load = false
must_wait Store = false
must_wait Acknowledge = false
must_wait Drop = false
must_wait Fetch = false
must_wait WriteBackKept = false
must_wait WriteBackDropped = false
must_wait Wait = true
