-- How many messages there are: as many as pend entries, so that there is room for each wherever it goes.
use mathlib.Core.Path.{◌≡◌, ap, sym, ◌∙◌}
use mathlib.Core.List.{List, [], ◌∷◌}
use mathlib.Core.Bool.{Bool, true, and-true}
use Prim.Native.Nat.{ℕ, ◌+◌, ◌*◌, ◌≤◌, ◌<◌}
use native.Mathlib.Nat.{mul_comm, mul-le-mul}
use native.Mathlib.Omega.{arith}
use lib.Dec.{T, ltb, eqb, ltb→lt, nltb→le}
use lib.ListN.{length}
use Rattle.lists.specs.Places.{ind, tally, sum_below, count, each}
use Rattle.lists.proofs.Tests.{and_l, and_r, both, by_test}
use Rattle.lists.proofs.Places.{array-fits, fits_any, tally-all, tally_places}
use Rattle.lists.proofs.Below.{one_below, sum_at, sum_same, sum_both, sum_most}
use Rattle.model.specs.declared.Message.{Message}
use Rattle.model.specs.declared.SiteQueue.{SiteQueue}
use Rattle.model.specs.declared.Queue.{Queue}
use Rattle.model.specs.declared.System.{System}
use Rattle.model.specs.Parts.{Site, site_at}
use Rattle.model.specs.Sound.{request, reply, of_site, message_fits, site_queue_fits, free_message, free_entry, entry_fits, under_way}
use Rattle.promises.proofs.Balance.{in_site, total, is_at, asks_at, count_total}
use Rattle.promises.proofs.Queues.{NetFits, queue_most, queue_fits_lem, queue_inside}
use Rattle.promises.proofs.Sound.{PartsWith, Sound, all_sited}
pub use Rattle.promises.proofs.Sound.{the_limits, ready, vacant, below_four}

-- any line, on any trip
abbrev pub anything : ℕ → ℕ → Bool
anything L c = true

-- MESSAGES BY SITE

by_site : (n : ℕ) (ms : List Message) → T (each (λ m. ltb m.site n) ms) → count (λ m. true) ms ≡ sum_below n (λ i. count (is_at i anything) ms)
unfolding count each
by_site n [] t = omega (arith, sum_most n 0 (λ i. 0) (λ i l. omega arith))
by_site n (m ∷ ms) t =
    omega (
      arith,
      by_site n ms (and_r (ltb m.site n) _ t),
      one_below n m.site (ltb→lt m.site n (and_l (ltb m.site n) _ t)),
      sum_same n (λ i. ind (eqb m.site i)) (λ i. ind (is_at i anything m)) (λ i l. ap ind (and-true (eqb m.site i))),
      sum_both n (λ i. ind (is_at i anything m)) (λ i. count (is_at i anything) ms),
    )

-- COUNTS

abbrev pub queued : Site → ℕ
queued x = x.outgoing.count + x.incoming.count

-- how many messages are under way, in all
unfoldable pub message_count : System → ℕ
message_count s = sum_below 4 (λ i. queued (site_at s i)) + s.up.count + s.arrived.count + s.served.count + s.down.count

-- a site's counts are within its arrays
pub record Counts (x : Site) : Type 0 where
  pub pends : x.pends ≤ 5
  pub out : x.outgoing.count ≤ 5
  pub inc : x.incoming.count ≤ 5
  pub out_places : x.outgoing.count ≤ length x.outgoing.items
  pub inc_places : x.incoming.count ≤ length x.incoming.items

module _ {more : System → Type 0} (s : System) (h : PartsWith more s) where
  pub net_places : s.sizes.pend * s.sizes.sites ≤ 20
  net_places = mul-le-mul (the_limits s h).pend_most (the_limits s h).sites_most

  pub net_most : (side : ℕ → Bool) (q : Queue) → NetFits s.sizes side q → q.count ≤ 20
  net_most side q t = omega (arith, queue_most 20 (s.sizes.pend * s.sizes.sites) (message_fits s.sizes side) q.count q.items t, net_places)

  pub counts : (i : ℕ) → i < 4 → Counts (site_at s i)
  unfolding site_queue_fits
  counts i l =
      by_test (ltb i s.sizes.sites)
      (λ u. let r = ready s h i (ltb→lt i s.sizes.sites u) in
      omega (arith, r.own.n_most, r.limits.pend_most, inside request (site_at s i).outgoing r.out, inside reply (site_at s i).incoming r.inc))
      (λ u. omega (arith, vacant s h i l (nltb→le i s.sizes.sites u)))
    where
      inside : (side : ℕ → Bool) (q : SiteQueue) → T (site_queue_fits s.sizes side i q) → (q.count ≤ s.sizes.pend) × (q.count ≤ length q.items)
      inside side q t =
          (queue_most 5 s.sizes.pend (of_site s.sizes side i) q.count q.items t, queue_inside 5 s.sizes.pend (of_site s.sizes side i) q.count q.items t)

  -- as many messages as the counts say
  pub all_total : total (λ m. true) s ≡ message_count s
  unfolding total in_site message_count
  all_total =
      omega (
        arith,
        sum_same 4 (λ i. queued (site_at s i)) (λ i. in_site (λ m. true) (site_at s i)) near,
        far request s.up h.up,
        far request s.arrived h.arrived,
        far reply s.served h.served,
        far reply s.down h.down,
      )
    where
      near : (i : ℕ) → i < 4 → in_site (λ m. true) (site_at s i) ≡ queued (site_at s i)
      near i l =
          omega (
            arith,
            tally_places (site_at s i).outgoing.count (site_at s i).outgoing.items (counts i l).out_places,
            tally_places (site_at s i).incoming.count (site_at s i).incoming.items (counts i l).inc_places,
          )

      far : (side : ℕ → Bool) (q : Queue) → NetFits s.sizes side q → tally (λ m. true) q.count q.items ≡ q.count
      far side q t =
          tally_places q.count q.items
          (queue_inside 20 (s.sizes.pend * s.sizes.sites) (message_fits s.sizes side) q.count q.items t)

module _ (s : System) (h : Sound s) where
  -- all messages of a site's own queues are of that site
  pub own_counted : (i : ℕ) → i < s.sizes.sites → in_site (is_at i anything) (site_at s i) ≡ queued (site_at s i)
  unfolding in_site site_queue_fits
  own_counted i l = omega (arith, mine request (site_at s i).outgoing (ready s h i l).out, mine reply (site_at s i).incoming (ready s h i l).inc)
    where
      mine : (side : ℕ → Bool) (q : SiteQueue) → T (site_queue_fits s.sizes side i q) → tally (is_at i anything) q.count q.items ≡ q.count
      mine side q t =
          tally-all (is_at i anything) q.count q.items
          (fits_any (of_site s.sizes side i) (is_at i anything) free_message (λ m u. both (eqb m.site i) _ (and_r (message_fits s.sizes side m) _ u) tt) q.count q.items
          (queue_fits_lem 5 s.sizes.pend (of_site s.sizes side i) q.count q.items t))

  -- all messages of a site: as many as its entries
  pub of_site_lem : (i : ℕ) → i < s.sizes.sites → total (is_at i anything) s ≡ (site_at s i).pends
  of_site_lem i l =
      h.balance i l anything ∙
      tally-all (asks_at anything) (site_at s i).pends (site_at s i).entries
      (fits_any (entry_fits s.sizes) (asks_at anything) free_entry (λ e t. tt) (site_at s i).pends (site_at s i).entries
      (array-fits 5 (entry_fits s.sizes) free_entry (site_at s i).pends (site_at s i).entries (ready s h i l).own.entries))

  -- the messages of a site's queues, with those of the site elsewhere, are no more than its entries
  pub site-room : (i : ℕ) → i < s.sizes.sites → queued (site_at s i) + tally (is_at i anything) s.down.count s.down.items ≤ (site_at s i).pends
  unfolding total
  site-room i l = omega (arith, of_site_lem i l, own_counted i l, sum_at 4 (λ j. in_site (is_at i anything) (site_at s j)) i (below_four s h i l))

  -- as many messages as entries
  pub count_is : message_count s ≡ sum_below s.sizes.sites (λ i. (site_at s i).pends)
  count_is =
      sym (all_total s h) ∙ sym (count_total (λ m. true) s) ∙
      by_site s.sizes.sites (under_way s) (all_sited s h) ∙
      sum_same s.sizes.sites (λ i. (site_at s i).pends) (λ i. count (is_at i anything) (under_way s)) (λ i l. count_total (is_at i anything) s ∙ of_site_lem i l)

  pub count_most : message_count s ≤ s.sizes.pend * s.sizes.sites
  count_most =
      omega (
        arith,
        count_is,
        sum_most s.sizes.sites s.sizes.pend (λ i. (site_at s i).pends) (λ i l. (ready s h i l).own.n_most),
        mul_comm s.sizes.sites s.sizes.pend,
      )
