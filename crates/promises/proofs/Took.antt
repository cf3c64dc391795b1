-- Take: the entry for a reply is there, and what the site makes of the reply keeps it sound.
use mathlib.Core.Path.{◌≡◌, refl, sym, subst}
use mathlib.Core.List.{List}
use mathlib.Core.Bool.{Bool, true, false, not, ◌&&◌, cond}
use Prim.Native.Nat.{ℕ, ◌+◌, ◌-◌, ◌≤◌, ◌<◌}
use native.Mathlib.Nat.{mod-lt}
use native.Mathlib.Omega.{arith}
use lib.Dec.{T, leb, ltb, eqb, leb→le, ltb→lt, lt→ltb, eqb→eq, eqb_refl, not_T, T_not}
use lib.ListN.{length, get_or, set}
use lib.Seq.{set-set, get_or-set_same}
use Rattle.lists.specs.Places.{ind, fits, array, tally, none_of, removed, unlike, first_at}
use Rattle.lists.proofs.Tests.{ind_and, and_l, and_r, both, by_test, not_eqb_sym, ind_T}
use Rattle.lists.proofs.Places.{array_at, array_same, fits_at, weigh_pull, weigh_set, weigh_at, weigh_both, weigh_less, first_below, first_passes}
use Rattle.lists.proofs.Below.{sum_at}
use Rattle.lists.proofs.Unlike.{unlike_rest, unlike_swap, unlike-once}
use Rattle.model.specs.declared.Sizes.{Sizes}
use Rattle.model.specs.declared.Message.{Message}
use Rattle.model.specs.declared.Entry.{Entry}
use Rattle.model.specs.declared.Place.{Place}
use Rattle.model.specs.declared.CacheSet.{CacheSet}
use Rattle.model.specs.declared.System.{System}
use Rattle.model.specs.Kinds.{fetch_reply, commit}
use Rattle.model.specs.Fresh.{no_marks, no_entry}
use Rattle.model.specs.Parts.{Site, site_at, with_cache, with_incoming, site_head, site_rest, past_entry, past_set}
use Rattle.model.specs.Sets.{words_fit, marks_fit, holds, set_number, place_fits, set_fits, has, displaced, placed, without, set_of, cached}
use Rattle.model.specs.Sound.{request, reply, of_site, message_fits, carries, entry_fits, free_entry, same_line, trip_of, trip_for}
use Rattle.model.specs.Handling.{Handled, put_set, write_back_of}
use Rattle.model.specs.Take.{removed_entry, voluntary_entry, evicted, caching, taken}
use Rattle.promises.proofs.Balance.{in_site, total, is_at, asks_at, as_asked}
use Rattle.promises.proofs.Queues.{own_head, own_put, own_rest, own_gains, own_loses}
use Rattle.promises.proofs.Sound.{Sound, Own, Ready, ready_close, ready-pends}
use Rattle.promises.proofs.Room.{ready, below_four, site-room}
use Rattle.promises.proofs.Change.{Change}
use Rattle.promises.proofs.SetLaws.{Full, full_open, full_close, displaced-fits, displaced-has, placed-fits, placed-others, placed_gone}
use Rattle.promises.proofs.Owned.{pend_pull, pend_swap, cached-free, cache_put}
use Rattle.promises.proofs.Performed.{words_set, marks_set, write_back-fits, set_fits_lem, emptied, emptied_line, j_most, j_8}
use Rattle.promises.proofs.Rows.{Settling, removes, evicts, settling, Taking, loaded, stored, committed, reconciled, voluntarily, taking}
use Rattle.promises.proofs.Stepping.{taker, reply_at, entry_at}

-- THE ENTRY FOR A REPLY

-- the first entry for a line, where some entry waits for that line on that trip and no two entries are for one line
pub record Found (L trip n : ℕ) (es : List Entry) : Type 0 where
  pub below : first_at (λ (e : Entry). eqb e.line L) n es < n
  pub line_is : (get_or es (first_at (λ (e : Entry). eqb e.line L) n es) past_entry).line ≡ L
  pub trip_is : trip_for (get_or es (first_at (λ (e : Entry). eqb e.line L) n es) past_entry).kind ≡ trip

-- an entry for line L that waits on a trip
abbrev wants : ℕ → ℕ → ℕ → ℕ → Bool
wants L trip line way = eqb line L && eqb way trip

ind_both : (a b : Bool) → ind a ≡ ind (a && b) + ind (a && not b)
ind_both true true = refl
ind_both true false = refl
ind_both false b = refl

pub found : (L trip n : ℕ) (es : List Entry) → T (unlike same_line n es) → n ≤ length es → 0 < tally (asks_at (wants L trip)) n es → Found L trip n es
found L trip n es d m h = record { below = there; line_is = its_line; trip_is = its_trip }
  where
    at_line : Entry → Bool
    at_line e = eqb e.line L

    some-line : 0 < tally at_line n es
    some-line =
        omega (arith, h, weigh_less (λ (e : Entry). ind (asks_at (wants L trip) e)) (λ (e : Entry). ind (at_line e)) (λ e. ind_and (at_line e) (eqb (trip_for e.kind) trip)) n es)

    p : ℕ
    p = first_at at_line n es

    e : Entry
    e = get_or es p past_entry

    there : p < n
    there = first_below at_line n es some-line

    passes : T (at_line e)
    passes = first_passes at_line n es past_entry some-line

    its_line : e.line ≡ L
    its_line = eqb→eq e.line L passes

    -- no other entry is for the line
    one : tally at_line n es ≡ 1
    one =
        unlike-once same_line at_line n p es past_entry d there m passes
        (λ y u. rw (eqb→eq y.line L u, its_line) (eqb_refl L)) (λ y u. rw (eqb→eq y.line L u, its_line) (eqb_refl L))

    other : Entry → Bool
    other y = at_line y && not (eqb (trip_for y.kind) trip)

    its_trip : trip_for e.kind ≡ trip
    its_trip =
        by_test (eqb (trip_for e.kind) trip) (λ u. eqb→eq (trip_for e.kind) trip u)
        (λ u. absurd (omega (
          arith,
          h,
          one,
          weigh_both (λ (y : Entry). ind (at_line y)) (λ (y : Entry). ind (asks_at (wants L trip) y)) (λ (y : Entry). ind (other y))
              (λ y. ind_both (at_line y) (eqb (trip_for y.kind) trip)) n es,
          weigh_at (λ (y : Entry). ind (other y)) n p es past_entry there m,
          ind_T (other e) (both (at_line e) _ passes u),
        )))

-- AT THE SITE

voluntary-fits : (z : Sizes) (L : ℕ) → T (ltb L z.lines) → T (ltb 0 z.words) → T (entry_fits z (voluntary_entry L))
unfolding entry_fits words_fit array fits
voluntary-fits z L a b =
    both (ltb L z.lines && ltb 0 z.words && true && true) true
    (both (ltb L z.lines && ltb 0 z.words && true) true
    (both (ltb L z.lines && ltb 0 z.words) true (both (ltb L z.lines) (ltb 0 z.words) a b) tt) tt) tt

marks-none : (n : ℕ) → n ≤ 4 → T (marks_fit n no_marks)
unfolding marks_fit
marks-none n h = array_same (λ (m : Bool). true) not false tt tt n 4 h

module _ (z : Sizes) (i : ℕ) (x : Site) (r : Ready z i x) (l : 0 < x.incoming.count) (p : ℕ) (below : p < x.pends)
    (line_is : (get_or x.entries p past_entry).line ≡ (site_head x.incoming).line)
    (trip_is : trip_for (get_or x.entries p past_entry).kind ≡ trip_of (site_head x.incoming).kind) (room : x.outgoing.count < z.pend) where
  abbrev m : Message
  m = site_head x.incoming

  abbrev e : Entry
  e = get_or x.entries p past_entry

  abbrev x₁ : Site
  x₁ = with_incoming x (site_rest x.incoming)

  m_fine : T (of_site z reply i m)
  m_fine = own_head z reply i x.incoming r.inc l

  m_site : m.site ≡ i
  m_site = eqb→eq m.site i (and_r (message_fits z reply m) _ m_fine)

  -- the entry is removed
  removing : (c : List CacheSet) → Own z c (x.pends - 1) (removed no_entry p x.entries) x.stalls x.waiting → Change z i x (removed_entry (with_cache x₁ c) p)
  unfolding in_site
  removing c o = record {
    fits = ready_close z i (removed_entry (with_cache x₁ c) p) (record {
      limits = r.limits;
      sited = r.sited;
      own = o;
      out = r.out;
      inc = own_rest z reply i x.incoming r.inc l;
    });
    balance = λ f.
        omega (
          arith,
          as_asked i m e m_site (sym line_is) (sym trip_is) f,
          own_loses z reply i x.incoming r.inc (is_at i f) l,
          weigh_pull (λ y. ind (asks_at f y)) x.pends p x.entries no_entry past_entry below (ready-pends z i x r),
        );
  }

  -- a voluntary entry takes its place, with its write-back
  evicting : (c : List CacheSet) (old : Place) → T (message_fits z request (write_back_of i old)) →
      Own z c x.pends (set x.entries p (voluntary_entry old.line)) x.stalls x.waiting → Change z i x (evicted i (with_cache x₁ c) p old)
  unfolding in_site
  evicting c old t o = record {
    fits = ready_close z i (evicted i (with_cache x₁ c) p old) (record {
      limits = r.limits;
      sited = r.sited;
      own = o;
      out = own_put z request i x.outgoing r.out (write_back_of i old) room r.limits.pend_most (both (message_fits z request (write_back_of i old)) _ t (eqb_refl i));
      inc = own_rest z reply i x.incoming r.inc l;
    });
    balance = λ f.
        omega (
          arith,
          as_asked i m e m_site (sym line_is) (sym trip_is) f,
          own_loses z reply i x.incoming r.inc (is_at i f) l,
          own_gains z request i x.outgoing r.out (is_at i f) (write_back_of i old) room r.limits.pend_most,
          weigh_set (λ y. ind (asks_at f y)) x.pends p x.entries (voluntary_entry old.line) past_entry below (ready-pends z i x r),
          as_asked i (write_back_of i old) (voluntary_entry old.line) refl refl refl f,
        );
  }

  -- THE LINE GOES INTO THE CACHE

  e_fits : T (entry_fits z e)
  e_fits = array_at 5 (entry_fits z) free_entry x.pends x.entries r.own.entries p past_entry below

  e_absent : T (not (cached z x.cache e.line))
  e_absent = fits_at (λ (y : Entry). not (cached z x.cache y.line)) (λ (y : Entry). true) x.pends x.entries p past_entry r.own.absent below

  e_line : T (ltb e.line z.lines)
  unfolding entry_fits
  e_line = let t = e_fits in search (and_l, and_r) depth 8

  e_word : e.word < z.words
  unfolding entry_fits
  e_word = let t = e_fits in ltb→lt e.word z.words (search (and_l, and_r) depth 8)

  abbrev j : ℕ
  j = set_number z e.line

  abbrev t : CacheSet
  t = set_of z x.cache e.line

  t_fits : T (set_fits z j t)
  t_fits = set_fits_lem z i x r e.line

  abbrev old : Place
  old = displaced z t

  module _ (vs : List ℕ) (ms : List Bool) (words : T (words_fit z.words vs)) (marks : T (marks_fit z.words ms)) where
    abbrev new : Place
    new = record { used = true; line = e.line; dirty = ms; values = vs }

    new_fits : T (place_fits z j new)
    new_fits =
        full_close z j new tt
        (record { set_ok = lt→ltb j z.sets (mod-lt e.line r.limits.sets_some); line_ok = e_line; home = eqb_refl j; words = words; marks = marks })

    -- another entry is not for the new line
    apart_a : (y : Entry) → T (not (eqb y.line e.line)) → T (not (holds new y.line))
    apart_a y u = not_eqb_sym y.line e.line u

    apart_b : (y : Entry) → T (not (eqb e.line y.line)) → T (not (holds new y.line))
    apart_b y u = u

    abbrev c' : List CacheSet
    c' = set x.cache j (placed z t new)

    placed_ok : T (set_fits z j (placed z t new))
    placed_ok = placed-fits z j t t_fits new tt new_fits e_absent

    own_removed : Own z c' (x.pends - 1) (removed no_entry p x.entries) x.stalls x.waiting
    own_removed =
        cache_put z x.cache (x.pends - 1) (removed no_entry p x.entries) x.stalls x.waiting
        (pend_pull z x.cache x.pends x.entries x.stalls x.waiting r.own p below) j (placed z t new) (λ (y : Entry). not (holds new y.line))
        (j_8 z i x r e.line) placed_ok (λ y a b. placed-others z j t t_fits new y.line a b)
        (unlike_rest same_line (λ (y : Entry). not (holds new y.line)) x.pends p x.entries no_entry past_entry r.own.lines below (ready-pends z i x r) apart_a apart_b)

    module _ (o-used : T old.used) where
      o_full : Full z j old
      o_full = full_open z j old o-used (displaced-fits z j t t_fits)

      o_has : T (has t old.line)
      o_has = displaced-has z j t t_fits o-used

      o_other : T (not (eqb old.line e.line))
      o_other = not_T (eqb old.line e.line) λ u.
          T_not (cached z x.cache e.line) e_absent (subst (λ (y : ℕ). T (has t y)) (eqb→eq old.line e.line u) o_has)

      o_home : set_number z old.line ≡ j
      o_home = eqb→eq (set_number z old.line) j o_full.home

      o_free : T (none_of (λ (y : Entry). eqb y.line old.line) x.pends x.entries)
      o_free =
          cached-free z x.cache x.pends x.entries x.stalls x.waiting r.own old.line
          (subst (λ (y : ℕ). T (has (get_or x.cache y past_set) old.line)) (sym o_home) o_has)

      -- the cache without the line displaced
      abbrev c₁ : List CacheSet
      c₁ = set x.cache j (without t old.line)

      own_evicted : Own z c' x.pends (set x.entries p (voluntary_entry old.line)) x.stalls x.waiting
      own_evicted =
          subst (λ (c : List CacheSet). Own z c x.pends (set x.entries p (voluntary_entry old.line)) x.stalls x.waiting)
          (set-set x.cache j (without t old.line) (placed z t new))
          (cache_put z c₁ x.pends (set x.entries p (voluntary_entry old.line)) x.stalls x.waiting
          (pend_swap z c₁ x.pends x.entries x.stalls x.waiting (emptied z i x r e.line old.line) p old.line below
          (voluntary-fits z old.line o_full.line_ok (lt→ltb 0 z.words r.limits.words-some)) (emptied_line z i x r e.line old.line o_home) o_free)
          j (placed z t new) (λ (y : Entry). not (holds new y.line)) (j_8 z i x r e.line) placed_ok
          (λ y a b. placed_gone z j t t_fits new y.line o-used
          (subst (λ (v : CacheSet). T (not (has v y.line))) (get_or-set_same x.cache j (without t old.line) past_set (j_most z i x r e.line)) a) b)
          (unlike_swap same_line (λ (y : Entry). not (holds new y.line)) x.pends p x.entries (voluntary_entry old.line) past_entry r.own.lines below (ready-pends z i x r)
          apart_a apart_b (apart_a (voluntary_entry old.line) o_other)))

    caching_change : Change z i x (caching z i x₁ p new)
    caching_change = go (caching z i x₁ p new) (settling i (put_set z x₁ e.line (placed z t new)) p old)
      where
        go : (y : Site) → Settling i (put_set z x₁ e.line (placed z t new)) p old y → Change z i x y
        go y removes = removing c' own_removed
        go y (evicts u d) = evicting c' old (write_back-fits z i j old r.sited (o_full u)) (own_evicted u)

  -- BY THE KIND OF THE ENTRY

  -- a reply on a fetch's trip is a fetch reply, and brings the line's words
  m_words : trip_for e.kind ≡ 0 → T (words_fit z.words m.values)
  unfolding message_fits carries
  m_words q =
      let u : T (message_fits z reply m) = and_l (message_fits z reply m) _ m_fine in
      let k : T (leb 2 m.kind && ltb m.kind 4) = search (and_l, and_r) in
      let c : T (carries z m.kind m.values m.dirty) = search (and_l, and_r) in
      let v : m.kind ≡ fetch_reply = omega (arith, leb→le 2 m.kind (and_l (leb 2 m.kind) _ k), ltb→lt m.kind 4 (and_r (leb 2 m.kind) _ k), trip_is, q) in
      and_l (words_fit z.words m.values) _ (rw v at c)

  e_words : e.kind ≡ commit → T (words_fit z.words e.values)
  unfolding entry_fits
  e_words q =
      let u = e_fits in
      let v : T (words_fit (cond (eqb e.kind commit) z.words 0) e.values) = search (and_l, and_r) depth 8 in
      rw q at v

  no-marks : T (marks_fit z.words no_marks)
  no-marks = marks-none z.words r.limits.words-most

  gone : Change z i x (removed_entry x₁ p)
  gone = removing x.cache (pend_pull z x.cache x.pends x.entries x.stalls x.waiting r.own p below)

  pub taken_change : (h : Handled) → Taking z i x₁ p e m h → Change z i x h.site
  taken_change h (loaded q) = caching_change m.values no_marks (m_words (rw q)) no-marks
  taken_change h (stored q) =
      caching_change (set m.values e.word e.value) (set no_marks e.word true) (words_set z.words e.word e.value m.values e_word (m_words (rw q)))
      (marks_set z.words e.word true no_marks e_word no-marks)
  taken_change h (committed q) = caching_change e.values no_marks (e_words q) no-marks
  taken_change h (reconciled q) = gone
  taken_change h (voluntarily q) = gone

-- TAKE

module _ (s : System) (h : Sound s) (i : ℕ) (k : i < s.sizes.sites) (l : 0 < (site_at s i).incoming.count) where
  abbrev y : Site
  y = site_at s i

  abbrev n : Message
  n = reply_at s i

  n_fine : T (of_site s.sizes reply i n)
  n_fine = own_head s.sizes reply i y.incoming (ready s h i k).inc l

  -- the reply is under way, so an entry waits for it
  asked_for : 0 < tally (asks_at (wants n.line (trip_of n.kind))) y.pends y.entries
  unfolding total in_site
  asked_for =
      let f : ℕ → ℕ → Bool = wants n.line (trip_of n.kind) in
      omega (
        arith,
        h.balance i k f,
        sum_at 4 (λ j. in_site (is_at i f) (site_at s j)) i (below_four s h i k),
        own_loses s.sizes reply i y.incoming (ready s h i k).inc (is_at i f) l,
        ind_T (is_at i f n) (both (eqb n.site i) _ (and_r (message_fits s.sizes reply n) _ n_fine) (both (eqb n.line n.line) _ (eqb_refl n.line) (eqb_refl (trip_of n.kind)))),
      )

  pub entry : Found n.line (trip_of n.kind) y.pends y.entries
  entry = found n.line (trip_of n.kind) y.pends y.entries (ready s h i k).own.lines (ready-pends s.sizes i y (ready s h i k)) asked_for

  pub entry_below : entry_at s i < (site_at s i).pends
  entry_below = entry.below

  pub took_change : Change s.sizes i y (taken s.sizes i (taker s i) (entry_at s i) (get_or y.entries (entry_at s i) past_entry) n).site
  took_change =
      taken_change s.sizes i y (ready s h i k) l (entry_at s i) entry.below entry.line_is entry.trip_is
      (omega (arith, l, site-room s h i k, (ready s h i k).own.n_most))
      (taken s.sizes i (taker s i) (entry_at s i) (get_or y.entries (entry_at s i) past_entry) n)
      (taking s.sizes i (taker s i) (entry_at s i) (get_or y.entries (entry_at s i) past_entry) n)
