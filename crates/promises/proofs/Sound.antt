-- Soundness as a record of facts, with the count form in place of the document's words on messages; and what follows from it.
use mathlib.Core.Path.{◌≡◌}
use mathlib.Core.List.{List}
use mathlib.Core.Bool.{Bool}
use Prim.Native.Nat.{ℕ, ◌*◌, ◌≤◌, ◌<◌}
use native.Mathlib.Omega.{arith}
use lib.Dec.{T, leb, ltb, eqb, leb→le, le→leb, ltb→lt, lt→ltb, eqb→eq, nltb→le, not_T}
use lib.ListN.{length, take}
use Rattle.lists.specs.Places.{array, each_of, none_of, unlike, all_below, each, all_of}
use Rattle.lists.proofs.Tests.{and_l, and_r, both, by_test, cond_T, cond_F}
use Rattle.lists.proofs.Places.{array-length, array-most, array_at}
use Rattle.lists.proofs.Below.{below_at, below_all}
use Rattle.lists.proofs.Counts.{each_append, each-all_of, each_take, each_map}
use Rattle.model.specs.declared.Sizes.{Sizes}
use Rattle.model.specs.declared.Message.{Message}
use Rattle.model.specs.declared.Entry.{Entry}
use Rattle.model.specs.declared.Waiting.{Waiting}
use Rattle.model.specs.declared.CacheSet.{CacheSet}
use Rattle.model.specs.declared.Queue.{Queue}
use Rattle.model.specs.declared.System.{System}
use Rattle.model.specs.Limits.{in_limits}
use Rattle.model.specs.Parts.{Site, site_at, past_waiting}
use Rattle.model.specs.Sound.{request, reply, of_site, free_message, free_entry, free_waiting, message_fits, queue_fits, site_queue_fits, waiting_fits, stalls_fit, entry_fits, pends_fit, memory_fits, cache_fits, cached_apart, same_line, same_tag, same_pend_tag, pends_under, tags_differ, own_fits, site_fits, free_site, site_ok, four_sites, sites_fit, site_messages, under_way, parts_fit, sound}
use Rattle.model.specs.Sets.{cached}
use Rattle.model.specs.Steps.{stall_head}
pub use Rattle.model.proofs.Limits.{Limits, limits}
use Rattle.promises.proofs.Sites.{Four, four_open, four_close}
use Rattle.promises.proofs.Balance.{Balance, balance_open, balance_close}
use Rattle.promises.proofs.Queues.{NetFits, queue_fits_lem}

-- SOUND

-- each part fits, and of all together so much more is known
pub record PartsWith (more : System → Type 0) (s : System) : Type 0 where
  pub sizes : T (in_limits s.sizes)
  pub memory : T (memory_fits s.sizes s.memory)
  pub four : Four s
  pub sites : (i : ℕ) → i < 4 → T (site_ok s.sizes i (site_at s i))
  pub up : NetFits s.sizes request s.up
  pub arrived : NetFits s.sizes request s.arrived
  pub served : NetFits s.sizes reply s.served
  pub down : NetFits s.sizes reply s.down
  pub balance : more s

abbrev pub Parts : System → Type 0
Parts s = PartsWith (λ s. Unit {0}) s

abbrev pub Sound : System → Type 0
Sound s = PartsWith Balance s

-- WHAT A SITE HOLDS BESIDE ITS QUEUES

pub record Own (z : Sizes) (c : List CacheSet) (n : ℕ) (es : List Entry) (k : ℕ) (ws : List Waiting) : Type 0 where
  pub cache : T (cache_fits z c)
  pub n_most : n ≤ z.pend
  pub entries : T (array 5 (entry_fits z) free_entry n es)
  pub k_most : k ≤ z.stall
  pub waiting : T (array 8 (waiting_fits z) free_waiting k ws)
  pub absent : T (none_of (λ (e : Entry). cached z c e.line) n es)
  pub lines : T (unlike same_line n es)
  pub w_tags : T (unlike same_tag k ws)
  pub e_tags : T (unlike same_pend_tag n es)
  pub apart : T (each_of (λ (w : Waiting). none_of (pends_under w.tag) n es) k ws)

module _ (z : Sizes) (c : List CacheSet) (n : ℕ) (es : List Entry) (k : ℕ) (ws : List Waiting) where
  pub own_open : T (own_fits z c n es k ws) → Own z c n es k ws
  unfolding own_fits pends_fit stalls_fit cached_apart tags_differ
  own_open t = record {
    cache = search (and_l, and_r) depth 12;
    n_most = leb→le n z.pend (search (and_l, and_r) depth 12);
    entries = search (and_l, and_r) depth 12;
    k_most = leb→le k z.stall (search (and_l, and_r) depth 12);
    waiting = search (and_l, and_r) depth 12;
    absent = search (and_l, and_r) depth 12;
    lines = search (and_l, and_r) depth 12;
    w_tags = search (and_l, and_r) depth 12;
    e_tags = search (and_l, and_r) depth 12;
    apart = search (and_l, and_r) depth 12;
  }

  pub own_close : Own z c n es k ws → T (own_fits z c n es k ws)
  unfolding own_fits pends_fit stalls_fit cached_apart tags_differ
  own_close o =
      let a : T (leb n z.pend) = le→leb n z.pend o.n_most in
      let b : T (leb k z.stall) = le→leb k z.stall o.k_most in
      search both depth 12

-- A SITE IN USE

pub record Ready (z : Sizes) (i : ℕ) (x : Site) : Type 0 where
  pub limits : Limits z
  pub sited : i < z.sites
  pub own : Own z x.cache x.pends x.entries x.stalls x.waiting
  pub out : T (site_queue_fits z request i x.outgoing)
  pub inc : T (site_queue_fits z reply i x.incoming)

pub ready_open : (z : Sizes) (i : ℕ) (x : Site) → Limits z → i < z.sites → T (site_fits z i x) → Ready z i x
unfolding site_fits
ready_open z i x m l t = record {
  limits = m;
  sited = l;
  own = own_open z x.cache x.pends x.entries x.stalls x.waiting (search (and_l, and_r));
  out = search (and_l, and_r);
  inc = search (and_l, and_r);
}

pub ready_close : (z : Sizes) (i : ℕ) (x : Site) → Ready z i x → T (site_fits z i x)
unfolding site_fits
ready_close z i x r =
    let t = own_close z x.cache x.pends x.entries x.stalls x.waiting r.own in
    let u = r.out in
    let v = r.inc in
    search both

module _ (z : Sizes) (i : ℕ) (x : Site) (r : Ready z i x) where
  pub ready-pends : x.pends ≤ length x.entries
  ready-pends = array-most 5 (entry_fits z) free_entry x.pends x.entries r.own.entries

  pub ready-stalls : x.stalls ≤ length x.waiting
  ready-stalls = array-most 8 (waiting_fits z) free_waiting x.stalls x.waiting r.own.waiting

  pub pends-room : x.pends < z.pend → x.pends < length x.entries
  pends-room h = omega (arith, h, r.limits.pend_most, array-length 5 (entry_fits z) free_entry x.pends x.entries r.own.entries)

  pub stalls-room : x.stalls < z.stall → x.stalls < length x.waiting
  stalls-room h = omega (arith, h, r.limits.stall_most, array-length 8 (waiting_fits z) free_waiting x.stalls x.waiting r.own.waiting)

  pub pends-most : x.pends ≤ 5
  pends-most = omega (arith, r.own.n_most, r.limits.pend_most)

  -- what waits first fits, and is of the first four kinds
  pub ready_head : 0 < x.stalls → T (waiting_fits z (stall_head x))
  ready_head l = array_at 8 (waiting_fits z) free_waiting x.stalls x.waiting r.own.waiting 0 past_waiting l

  pub ready_kind : 0 < x.stalls → (stall_head x).kind < 4
  unfolding waiting_fits
  ready_kind l = let t = ready_head l in ltb→lt (stall_head x).kind 4 (search (and_l, and_r))

-- A SITE PAST THE SIZES

pub record Vacant (x : Site) : Type 0 where
  pub pends : x.pends ≡ 0
  pub stalls : x.stalls ≡ 0
  pub outgoing : x.outgoing.count ≡ 0
  pub incoming : x.incoming.count ≡ 0

vacant_open : (x : Site) → T (free_site x) → Vacant x
unfolding free_site
vacant_open x t =
    let a : T (eqb x.pends 0) = search (and_l, and_r) depth 12 in
    let b : T (eqb x.stalls 0) = search (and_l, and_r) depth 12 in
    let c : T (eqb x.outgoing.count 0) = search (and_l, and_r) depth 12 in
    let d : T (eqb x.incoming.count 0) = search (and_l, and_r) depth 12 in
    record {
      pends = eqb→eq x.pends 0 a;
      stalls = eqb→eq x.stalls 0 b;
      outgoing = eqb→eq x.outgoing.count 0 c;
      incoming = eqb→eq x.incoming.count 0 d;
    }

-- EACH SITE IS ONE OR THE OTHER

module _ {more : System → Type 0} (s : System) (h : PartsWith more s) where
  pub the_limits : Limits s.sizes
  the_limits = limits s.sizes h.sizes

  pub below_four : (i : ℕ) → i < s.sizes.sites → i < 4
  below_four i l = omega (arith, l, the_limits.sites_most)

  pub ready : (i : ℕ) → i < s.sizes.sites → Ready s.sizes i (site_at s i)
  ready i l =
      ready_open s.sizes i (site_at s i) the_limits l
      (rw (cond_T (ltb i s.sizes.sites) (site_fits s.sizes i (site_at s i)) (free_site (site_at s i)) (lt→ltb i s.sizes.sites l)) at (h.sites i (below_four i l)))

  -- a site past the sizes is vacant
  pub vacant : (i : ℕ) → i < 4 → s.sizes.sites ≤ i → Vacant (site_at s i)
  vacant i l k =
      vacant_open (site_at s i)
      (rw (cond_F (ltb i s.sizes.sites) (site_fits s.sizes i (site_at s i)) (free_site (site_at s i))
      (not_T (ltb i s.sizes.sites) (λ u. omega (arith, ltb→lt i s.sizes.sites u)))) at (h.sites i l))

-- WHAT EACH MESSAGE THAT FITS PASSES EACH MESSAGE UNDER WAY PASSES

module _ {more : System → Type 0} (s : System) (h : PartsWith more s)
    (good : Message → Bool) (fine : (side : ℕ → Bool) (y : Message) → T (message_fits s.sizes side y) → T (good y)) where
  net_good : (side : ℕ → Bool) (q : Queue) → NetFits s.sizes side q → T (each good (take q.count q.items))
  net_good side q t =
      each_map (message_fits s.sizes side) good (fine side) (take q.count q.items)
      (each_take (message_fits s.sizes side) free_message q.count q.items
      (queue_fits_lem 20 (s.sizes.pend * s.sizes.sites) (message_fits s.sizes side) q.count q.items t))

  none-good : (n : ℕ) (ys : List Message) → n ≡ 0 → T (each good (take n ys))
  unfolding each
  none-good n ys e = rw e tt

  own_good : (i : ℕ) (l : i < s.sizes.sites) (side : ℕ → Bool) (n : ℕ) (ys : List Message) → T (queue_fits 5 s.sizes.pend (of_site s.sizes side i) n ys) → T (each good (take n ys))
  own_good i l side n ys t =
      each_map (of_site s.sizes side i) good (λ y u. fine side y (and_l (message_fits s.sizes side y) _ u)) (take n ys)
      (each_take (of_site s.sizes side i) free_message n ys (queue_fits_lem 5 s.sizes.pend (of_site s.sizes side i) n ys t))

  site-good : (i : ℕ) → i < 4 → T (each good (site_messages (site_at s i)))
  unfolding site_queue_fits
  site-good i l =
      by_test (ltb i s.sizes.sites)
      (λ u. let k : i < s.sizes.sites = ltb→lt i s.sizes.sites u in
      let r : Ready s.sizes i (site_at s i) = ready s h i k in
      each_append good (take (site_at s i).outgoing.count (site_at s i).outgoing.items) (take (site_at s i).incoming.count (site_at s i).incoming.items)
      (own_good i k request (site_at s i).outgoing.count (site_at s i).outgoing.items r.out)
      (own_good i k reply (site_at s i).incoming.count (site_at s i).incoming.items r.inc))
      (λ u. let v = vacant s h i l (nltb→le i s.sizes.sites u) in
      each_append good (take (site_at s i).outgoing.count (site_at s i).outgoing.items) (take (site_at s i).incoming.count (site_at s i).incoming.items)
      (none-good (site_at s i).outgoing.count (site_at s i).outgoing.items v.outgoing)
      (none-good (site_at s i).incoming.count (site_at s i).incoming.items v.incoming))

  pub all-good : T (each good (under_way s))
  unfolding under_way
  all-good =
      each_append good (all_of 4 (λ i. site_messages (site_at s i))) _ (each-all_of good 4 (λ i. site_messages (site_at s i)) site-good)
      (each_append good (take s.up.count s.up.items) _ (net_good request s.up h.up)
      (each_append good (take s.arrived.count s.arrived.items) _ (net_good request s.arrived h.arrived)
      (each_append good (take s.served.count s.served.items) _ (net_good reply s.served h.served) (net_good reply s.down h.down))))

-- each message under way is of a site of the system
pub all_sited : {more : System → Type 0} (s : System) → PartsWith more s → T (each (λ y. ltb y.site s.sizes.sites) (under_way s))
unfolding message_fits
all_sited s h = all-good s h (λ y. ltb y.site s.sizes.sites) (λ side y t. search (and_l, and_r))

-- OPENED AND CLOSED

pub parts_open : {more : System → Type 0} (s : System) → T (parts_fit s) → more s → PartsWith more s
unfolding sites_fit
parts_open s t b =
    let f : T (four_sites s) = search (and_l, and_r) depth 12 in
    let e : T (all_below 4 (λ i. site_ok s.sizes i (site_at s i))) = search (and_l, and_r) depth 12 in
    record {
      sizes = search (and_l, and_r) depth 12;
      memory = search (and_l, and_r) depth 12;
      four = four_open s f;
      sites = below_at 4 (λ i. site_ok s.sizes i (site_at s i)) e;
      up = search (and_l, and_r) depth 12;
      arrived = search (and_l, and_r) depth 12;
      served = search (and_l, and_r) depth 12;
      down = search (and_l, and_r) depth 12;
      balance = b;
    }

parts_close : {more : System → Type 0} (s : System) → PartsWith more s → T (parts_fit s)
unfolding sites_fit
parts_close s h =
    let f : T (four_sites s) = four_close s h.four in
    let b : T (all_below 4 (λ i. site_ok s.sizes i (site_at s i))) = below_all 4 (λ i. site_ok s.sizes i (site_at s i)) h.sites in
    search both depth 12

pub opened : (s : System) → T (sound s) → Sound s
unfolding sound
opened s t =
    let p = and_l (parts_fit s) _ t in
    let h : Parts s = parts_open s p tt in
    parts_open s p
    (balance_open s (λ i l. ready-pends s.sizes i (site_at s i) (ready s h i l)) (λ i l. (ready s h i l).own.lines) (and_r (parts_fit s) _ t))

pub closed : (s : System) → Sound s → T (sound s)
unfolding sound
closed s h =
    both (parts_fit s) _ (parts_close s h)
    (balance_close s (λ i l. ready-pends s.sizes i (site_at s i) (ready s h i l)) (λ i l. (ready s h i l).own.lines) (all_sited s h) h.balance)
