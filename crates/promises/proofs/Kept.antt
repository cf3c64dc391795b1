-- Every step of a sound state leaves a sound state, and a fresh state is sound.
use mathlib.Core.Path.{◌≡◌, refl, ap, sym}
use mathlib.Core.List.{List}
use mathlib.Core.Bool.{Bool, true, not, ◌&&◌, ◌||◌}
use Prim.Native.Nat.{ℕ, ◌*◌, ◌/◌, ◌%◌, ◌≤◌, ◌<◌}
use native.Mathlib.Nat.{mod-lt, div-lt_iff_lt-mul}
use native.Mathlib.Omega.{arith}
use lib.Dec.{T, leb, ltb, eqb, le→leb, ltb→lt, lt→ltb}
use lib.ListN.{get_or, replicate, get_or-replicate}
use Rattle.lists.specs.Places.{fits, array, weigh, tally, none_of, unlike, all_below, sum_below}
use Rattle.lists.proofs.Tests.{and_l, and_r, both, by_cond, not_eqb_sym}
use Rattle.lists.proofs.Places.{fits_at, array_same, array_unused}
use Rattle.lists.proofs.Unlike.{unlike_rest}
use Rattle.lists.proofs.Below.{below_all}
use Rattle.model.specs.declared.Sizes.{Sizes}
use Rattle.model.specs.declared.Message.{Message}
use Rattle.model.specs.declared.Waiting.{Waiting}
use Rattle.model.specs.declared.CacheSet.{CacheSet}
use Rattle.model.specs.declared.Line.{Line}
use Rattle.model.specs.declared.System.{System}
use Rattle.model.specs.declared.After.{After}
use Rattle.model.specs.declared.Action.{Action}
use Rattle.model.specs.declared.Instruction.{Instruction}
use Rattle.model.specs.declared.Instruction.TheVariants.{Loadl, Storel, Commit, Reconcile, FenceRr, FenceRw, FenceWr, FenceWw}
use Rattle.model.specs.declared.Step.{Step}
use Rattle.model.specs.Limits.{in_limits, addresses}
use Rattle.model.specs.Kinds.{storel}
use Rattle.model.specs.Fresh.{no_line, no_entry, no_waiting, no_set, no_site_queue, no_message, blank}
use Rattle.model.specs.Parts.{Site, site_at, put_site, with_stalls, past_set, past_waiting, past_cache, past_pends, past_stalls, past_site_queue}
use Rattle.model.specs.Sets.{words_fit, marks_fit, set_fits, free_set, free_place}
use Rattle.model.specs.Sound.{request, reply, of_site, waiting_fits, entry_fits, free_entry, free_waiting, free_message, message_fits, queue_fits, site_queue_fits, cache_fits, waits_under, pends_under, same_tag, memory_fits, site_fits, free_site, site_ok}
use Rattle.model.specs.Issue.{kind_of, first_address, value_of, as_waiting, addresses_fit, tag_free}
use Rattle.model.specs.Handling.{performed}
use Rattle.model.specs.Steps.{stalled_at, stall_head, unstalled, step_of}
use Rattle.promises.proofs.Balance.{in_site, total, asks_at}
use Rattle.promises.proofs.Sound.{Limits, limits, Sound, Own, Ready, ready_close, ready-stalls}
use Rattle.promises.proofs.Room.{the_limits, ready, site-room}
use Rattle.promises.proofs.Rows.{Row}
use Rattle.promises.proofs.Stepping.{Admitted, head_place, Stepping, refusing, fenced, stalling, handling, resuming, sending, arriving, serving, returning, reaching, tooking, stepping, head_fits}
use Rattle.promises.proofs.Change.{Change, composed, change_sound}
use Rattle.promises.proofs.Moves.{send_sound, arrive_sound, back_sound, reach_sound}
use Rattle.promises.proofs.Served.{serve_sound}
use Rattle.promises.proofs.SetLaws.{none-fits}
use Rattle.promises.proofs.Queues.{free-message}
use Rattle.promises.proofs.Owned.{free-entry, free-waiting, stall_push, stall_pull}
use Rattle.promises.proofs.Performed.{performed_change}
use Rattle.promises.proofs.Took.{took_change}

-- THE STALL QUEUE

pub restalled : (z : Sizes) (i : ℕ) (x : Site) (r : Ready z i x) (n : ℕ) (ws : List Waiting) → Own z x.cache x.pends x.entries n ws → Change z i x (with_stalls x n ws)
unfolding in_site
restalled z i x r n ws o = record {
  fits = ready_close z i (with_stalls x n ws) (record { limits = r.limits; sited = r.sited; own = o; out = r.out; inc = r.inc });
  balance = λ f. refl;
}

-- ISSUE

only_storel : (n : Instruction) → T (eqb (kind_of n) storel || eqb (value_of n) 0)
unfolding kind_of value_of
only_storel (Loadl a) = tt
only_storel (Storel a v) = tt
only_storel (Commit a) = tt
only_storel (Reconcile a) = tt
only_storel (FenceRr a b) = tt
only_storel (FenceRw a b) = tt
only_storel (FenceWr a b) = tt
only_storel (FenceWw a b) = tt

-- an instruction of the first four kinds, as it waits
waiting-fits : (z : Sizes) (t : ℕ) (n : Instruction) → 0 < z.words → kind_of n < 4 → T (addresses_fit z n) → T (waiting_fits z (as_waiting z t n))
unfolding waiting_fits addresses_fit
waiting-fits z t n w k a =
    let first : first_address n < z.lines * z.words = ltb→lt (first_address n) (addresses z) (and_l (ltb (first_address n) (addresses z)) _ a) in
    both (ltb (kind_of n) 4 && ltb (first_address n / z.words) z.lines && ltb (first_address n % z.words) z.words) _
    (both (ltb (kind_of n) 4 && ltb (first_address n / z.words) z.lines) _
    (both (ltb (kind_of n) 4) _ (lt→ltb (kind_of n) 4 k) (lt→ltb (first_address n / z.words) z.lines ((div-lt_iff_lt-mul w).1 first)))
    (lt→ltb (first_address n % z.words) z.words (mod-lt (first_address n) w)))
    (only_storel n)

module _ (s : System) (h : Sound s) (i t : ℕ) (n : Instruction) (d : Admitted s i t n) (k : kind_of n < 4) where
  abbrev x : Site
  x = site_at s i

  abbrev w : Waiting
  w = as_waiting s.sizes t n

  fits_now : T (waiting_fits s.sizes w)
  fits_now = waiting-fits s.sizes t n (the_limits s h).words-some k d.addresses

  w_free : T (none_of (waits_under t) x.stalls x.waiting)
  unfolding tag_free
  w_free = and_l (none_of (waits_under t) x.stalls x.waiting) _ d.tag

  e_free : T (none_of (pends_under t) x.pends x.entries)
  unfolding tag_free
  e_free = and_r (none_of (waits_under t) x.stalls x.waiting) _ d.tag

  stalling_sound : x.stalls < s.sizes.stall → Sound (put_site s i (stalled_at x w))
  stalling_sound l =
      change_sound s h i d.sited (stalled_at x w)
      (restalled s.sizes i x (ready s h i d.sited) _ _
      (stall_push s.sizes x.cache x.pends x.entries x.stalls x.waiting (ready s h i d.sited).own w l (the_limits s h).stall_most fits_now w_free e_free))

-- where an entry has room, so has its request
pub request-room : (s : System) (h : Sound s) (i : ℕ) → i < s.sizes.sites → (site_at s i).pends < s.sizes.pend → (site_at s i).outgoing.count < s.sizes.pend
request-room s h i l k = omega (arith, k, site-room s h i l)

-- RETRY

module _ (s : System) (h : Sound s) (i : ℕ) (l : i < s.sizes.sites) (k : 0 < (site_at s i).stalls) where
  abbrev y : Site
  y = site_at s i

  abbrev v : Waiting
  v = stall_head y

  unstalled_own : Own s.sizes y.cache y.pends y.entries (unstalled y).stalls (unstalled y).waiting
  unstalled_own = stall_pull s.sizes y.cache y.pends y.entries y.stalls y.waiting (ready s h i l).own k

  unstalled-ready : Ready s.sizes i (unstalled y)
  unstalled-ready = record { limits = the_limits s h; sited = l; own = unstalled_own; out = (ready s h i l).out; inc = (ready s h i l).inc }

  head_free : T (none_of (waits_under v.tag) (unstalled y).stalls (unstalled y).waiting)
  head_free =
      unlike_rest same_tag (λ (q : Waiting). not (waits_under v.tag q)) y.stalls 0 y.waiting no_waiting past_waiting (ready s h i l).own.w_tags k
      (ready-stalls s.sizes i y (ready s h i l)) (λ q t. t) (λ q t. not_eqb_sym v.tag q.tag t)

  -- the head leaves the stall queue, and is handled
  resuming_sound : (a : Action) → Row s.sizes (unstalled y) v (head_place s i) a → Sound (put_site s i (performed s.sizes i (unstalled y) v (head_place s i) a).site)
  resuming_sound a r =
      change_sound s h i l _
      (composed s.sizes i y (unstalled y) _ (restalled s.sizes i y (ready s h i l) (unstalled y).stalls (unstalled y).waiting unstalled_own)
      (performed_change s.sizes i (unstalled y) unstalled-ready v (head_fits s h i l k) head_free
      (fits_at (λ (q : Waiting). none_of (pends_under q.tag) y.pends y.entries) (λ (q : Waiting). true) y.stalls y.waiting 0 past_waiting (ready s h i l).own.apart k)
      (request-room s h i l) a r))

-- ANY STEP

keeps : (s : System) → Sound s → (x : Step) (r : After) → Stepping s x r → Sound r.system
keeps s h x r (refusing y q) = h
keeps s h x r (fenced i t n d k) = h
keeps s h x r (stalling i t n d k l q) = stalling_sound s h i t n d k l
keeps s h x r (handling i t n d k a q b) =
    change_sound s h i d.sited _
    (performed_change s.sizes i (site_at s i) (ready s h i d.sited) (as_waiting s.sizes t n) (fits_now s h i t n d k) (w_free s h i t n d k) (e_free s h i t n d k)
    (request-room s h i d.sited) a b)
keeps s h x r (resuming i l k a q b) = resuming_sound s h i l k a b
keeps s h x r (sending i l k) = send_sound s h i l k
keeps s h x r (arriving p l) = arrive_sound s h p l
keeps s h x r (serving l) = serve_sound s h l
keeps s h x r (returning l) = back_sound s h l
keeps s h x r (reaching p l) = reach_sound s h p l
keeps s h x r (tooking i l k) = change_sound s h i l _ (took_change s h i l k)

pub kept : (s : System) → Sound s → (x : Step) → Sound (step_of s x).system
kept s h x = keeps s h x (step_of s x) (stepping s h x)

-- FRESH

-- each site of a fresh state is empty
abbrev pub no_site : Site
no_site = record {
  cache = replicate 8 no_set;
  pends = 0;
  entries = replicate 5 no_entry;
  stalls = 0;
  waiting = replicate 8 no_waiting;
  outgoing = no_site_queue;
  incoming = no_site_queue;
}

pub blank-site : (z : Sizes) (i : ℕ) → i < 4 → site_at (blank z) i ≡ no_site
blank-site z i l =
    rw (
      get_or-replicate 4 i (record { sets = replicate 8 no_set }) past_cache l,
      get_or-replicate 4 i (record { entries = replicate 5 no_entry; count = 0 }) past_pends l,
      get_or-replicate 4 i (record { waiting = replicate 8 no_waiting; count = 0 }) past_stalls l,
      get_or-replicate 4 i no_site_queue past_site_queue l,
    )

words-none : (n : ℕ) → n ≤ 4 → T (words_fit n no_line.values)
unfolding words_fit
words-none n h = array_same (λ (v : ℕ). true) (λ (v : ℕ). eqb v 0) 0 tt tt n 4 h

none_queue : (places most : ℕ) (ok : Message → Bool) → T (queue_fits places most ok 0 (replicate places no_message))
unfolding queue_fits
none_queue places most ok = both (leb 0 most) _ (le→leb 0 most (omega arith)) (array_unused ok free_message no_message free-message places)

same_sets : (f : ℕ → CacheSet → Bool) → ((k : ℕ) → T (f k no_set)) → T (all_below 8 (λ k. f k (get_or (replicate 8 no_set) k past_set)))
same_sets f h = below_all 8 (λ k. f k (get_or (replicate 8 no_set) k past_set)) (λ k l. rw (get_or-replicate 8 k no_set past_set l) (h k))

own_none : (z : Sizes) → Own z no_site.cache 0 no_site.entries 0 no_site.waiting
unfolding cache_fits unlike fits
own_none z = record {
  cache = same_sets (set_fits z) (none-fits z);
  n_most = omega arith;
  entries = array_unused (entry_fits z) free_entry no_entry free-entry 5;
  k_most = omega arith;
  waiting = array_unused (waiting_fits z) free_waiting no_waiting free-waiting 8;
  absent = tt;
  lines = tt;
  w_tags = tt;
  e_tags = tt;
  apart = tt;
}

none-ready : (z : Sizes) (i : ℕ) → Limits z → i < z.sites → Ready z i no_site
unfolding site_queue_fits
none-ready z i m l = record { limits = m; sited = l; own = own_none z; out = none_queue 5 z.pend (of_site z request i); inc = none_queue 5 z.pend (of_site z reply i) }

none-past : T (free_site no_site)
unfolding free_site free_set free_place all_below array fits free_entry free_waiting free_message words_fit marks_fit
none-past = tt

none-site : (z : Sizes) (i : ℕ) → Limits z → T (site_ok z i no_site)
none-site z i m =
    by_cond (λ (b : Bool). T b) (ltb i z.sites) (site_fits z i no_site) (free_site no_site) (λ l. ready_close z i no_site (none-ready z i m (ltb→lt i z.sites l)))
    (λ l. none-past)

pub fresh_sound : (z : Sizes) → T (in_limits z) → Sound (blank z)
unfolding memory_fits total in_site sum_below weigh
fresh_sound z t =
    let m : Limits z = limits z t in
    record {
      sizes = t;
      memory = array_same (λ (l : Line). words_fit z.words l.values) (λ (l : Line). words_fit 0 l.values) no_line (words-none z.words m.words-most)
          (words-none 0 (omega arith)) z.lines 16 m.lines_most;
      four = record { caches = refl; pends = refl; stalls = refl; outgoing = refl; incoming = refl };
      sites = λ i l. rw (blank-site z i l) (none-site z i m);
      up = none_queue 20 (z.pend * z.sites) (message_fits z request);
      arrived = none_queue 20 (z.pend * z.sites) (message_fits z request);
      served = none_queue 20 (z.pend * z.sites) (message_fits z reply);
      down = none_queue 20 (z.pend * z.sites) (message_fits z reply);
      balance = λ i l f. sym (ap (λ (x : Site). tally (asks_at f) x.pends x.entries) (blank-site z i (omega (arith, l, m.sites_most))));
    }
