-- What a site's part of the potential becomes where an instruction waits, is handled or leaves the stall queue, and where a reply is taken.
use mathlib.Core.Path.{◌≡◌}
use mathlib.Core.List.{List}
use mathlib.Core.Bool.{not}
use Prim.Native.Nat.{ℕ, ◌+◌, ◌≤◌, ◌<◌}
use native.Mathlib.Omega.{arith}
use lib.Dec.{T, ltb, lt→ltb}
use lib.ListN.{length, get_or}
use Rattle.lists.proofs.Tests.{ind_T}
use Rattle.lists.proofs.Places.{weigh_push, weigh_pull, weigh_set}
use Rattle.model.specs.declared.Sizes.{Sizes}
use Rattle.model.specs.declared.Message.{Message}
use Rattle.model.specs.declared.Entry.{Entry}
use Rattle.model.specs.declared.Waiting.{Waiting}
use Rattle.model.specs.declared.Place.{Place}
use Rattle.model.specs.declared.CacheSet.{CacheSet}
use Rattle.model.specs.declared.Action.{Action}
use Rattle.model.specs.Kinds.{reconcile}
use Rattle.model.specs.Fresh.{no_entry, no_waiting}
use Rattle.model.specs.Parts.{Site, past_entry, past_waiting, with_cache, with_incoming, site_rest}
use Rattle.model.specs.Handling.{Handled, entry_of, asked, performed, must_wait}
use Rattle.model.specs.Take.{removed_entry, voluntary_entry}
use Rattle.model.specs.Steps.{stalled_at, stall_head, unstalled}
use Rattle.promises.proofs.Sound.{Ready, ready-stalls, stalls-room}
use Rattle.promises.proofs.Rows.{Row, load_hit, store_hit, fetches, not-cached, commit-clean, reconcile_dirty, drops, writes_kept, writes_dropped, waits_full, waits-pending, Settling, removes, evicts, settling, Taking, loaded, stored, committed, reconciled, voluntarily}
use Rattle.promises.proofs.Potential.{displacing, entry_cost, stall_cost, site_left}

module _ (z : Sizes) (i : ℕ) (x : Site) (r : Ready z i x) where
  -- THE STALL QUEUE

  pub stalled_left : (w : Waiting) → x.stalls < z.stall → site_left (stalled_at x w) ≡ site_left x + stall_cost w
  unfolding site_left
  stalled_left w k = omega (arith, weigh_push stall_cost x.stalls x.waiting w (stalls-room z i x r k))

  pub unstalled_left : 0 < x.stalls → site_left (unstalled x) + stall_cost (stall_head x) ≡ site_left x
  unfolding site_left
  unstalled_left k = omega (arith, weigh_pull stall_cost x.stalls 0 x.waiting no_waiting past_waiting k (ready-stalls z i x r))

-- AN INSTRUCTION w, HANDLED

module _ (z : Sizes) (i : ℕ) (x : Site) (w : Waiting) (p : Place) (room : x.pends < z.pend → x.pends < length x.entries) where
  abbrev Spent : Site → Type 0
  Spent y = site_left y + 1 ≤ site_left x + stall_cost w

  -- it is answered, and the cache may change
  answers : (c : List CacheSet) → Spent (with_cache x c)
  unfolding site_left stall_cost
  answers c = omega arith

  -- one more entry, and its request at the tail
  asks : (c : List CacheSet) (vs : List ℕ) (m : Message) → x.pends < z.pend → Spent (asked (with_cache x c) (entry_of w vs) m)
  unfolding site_left stall_cost entry_cost
  asks c vs m k = omega (arith, weigh_push entry_cost x.pends x.entries (entry_of w vs) (room k))

  -- what need not wait spends one at least of what it would cost in the stall queue
  pub performed_left : (a : Action) → T (not (must_wait a)) → Row z x w p a → Spent (performed z i x w p a).site
  unfolding performed
  performed_left a t (load_hit k c) = answers x.cache
  performed_left a t (store_hit k c) = answers _
  performed_left a t (fetches k c l f) = asks x.cache _ _ l
  performed_left a t (not-cached k c f) = answers x.cache
  performed_left a t (commit-clean k c d) = answers x.cache
  performed_left a t (reconcile_dirty k c d) = answers x.cache
  performed_left a t (drops k c d) = answers _
  performed_left a t (writes_kept k c d l) = asks _ _ _ l
  performed_left a t (writes_dropped k c d s l) = asks _ _ _ l
  performed_left a t (waits_full l) = absurd t
  performed_left a t (waits-pending f) = absurd t

-- A REPLY m, TAKEN FOR THE ENTRY AT p

module _ (z : Sizes) (i : ℕ) (x : Site) (some : 0 < x.incoming.count) (p : ℕ) (below : p < x.pends) (inside : x.pends ≤ length x.entries) where
  abbrev e : Entry
  e = get_or x.entries p past_entry

  abbrev y : Site
  y = with_incoming x (site_rest x.incoming)

  abbrev Less : Site → Type 0
  Less v = site_left v + 1 ≤ site_left x

  gone : (c : List CacheSet) → Less (removed_entry (with_cache y c) p)
  unfolding site_left
  gone c = omega (arith, weigh_pull entry_cost x.pends p x.entries no_entry past_entry below inside)

  -- a line goes into the cache for an entry that may displace one
  settled_left : (c : List CacheSet) (old : Place) (v : Site) → e.kind < reconcile → Settling i (with_cache y c) p old v → Less v
  unfolding site_left entry_cost displacing
  settled_left c old v k removes = gone c
  settled_left c old v k (evicts u d) =
      omega (
        arith,
        weigh_set entry_cost x.pends p x.entries (voluntary_entry old.line) past_entry below inside,
        ind_T (ltb e.kind reconcile) (lt→ltb e.kind reconcile k),
      )

  pub taken_left : (m : Message) (h : Handled) → Taking z i y p e m h → Less h.site
  taken_left m h (loaded k) = settled_left _ _ _ (omega arith) (settling _ _ _ _)
  taken_left m h (stored k) = settled_left _ _ _ (omega arith) (settling _ _ _ _)
  taken_left m h (committed k) = settled_left _ _ _ (omega arith) (settling _ _ _ _)
  taken_left m h (reconciled k) = gone x.cache
  taken_left m h (voluntarily k) = gone x.cache
