-- The potential: how many steps a system can still take before it needs a new instruction. At most 656.
use Prim.Native.Nat.{ℕ, ◌+◌, ◌*◌, ◌≤◌, ◌<◌}
use native.Mathlib.Omega.{arith}
use lib.Dec.{ltb, ltb→lt, nltb→le}
use Rattle.lists.specs.Places.{ind, weigh, sum_below}
use Rattle.lists.proofs.Tests.{by_test, ind-most}
use Rattle.lists.proofs.Places.{weigh-most}
use Rattle.lists.proofs.Below.{sum_less}
use Rattle.model.specs.declared.Entry.{Entry}
use Rattle.model.specs.declared.Waiting.{Waiting}
use Rattle.model.specs.declared.System.{System}
use Rattle.model.specs.Kinds.{reconcile}
use Rattle.model.specs.Parts.{Site, site_at}
use Rattle.promises.proofs.Sound.{Sound}
use Rattle.promises.proofs.Room.{queued, message_count, ready, vacant, count_most, net_places}

-- a Loadl's, a Storel's and a Commit's line may displace another, whose write-back takes six steps
unfoldable pub displacing : ℕ → ℕ
displacing k = 6 * ind (ltb k reconcile)

-- an entry's own message is counted where it stands
unfoldable pub entry_cost : Entry → ℕ
entry_cost e = displacing e.kind

-- a retry and the six steps of a message: 7 for a Reconcile, 13 for a Loadl, a Storel, a Commit
unfoldable pub stall_cost : Waiting → ℕ
stall_cost w = 7 + displacing w.kind

-- a message takes six steps from a site's outgoing queue, and one from its incoming queue
unfoldable pub site_left : Site → ℕ
site_left x = weigh stall_cost x.stalls x.waiting + weigh entry_cost x.pends x.entries + 6 * x.outgoing.count + x.incoming.count

unfoldable pub potential : System → ℕ
potential s = sum_below 4 (λ i. site_left (site_at s i)) + 5 * s.up.count + 4 * s.arrived.count + 3 * s.served.count + 2 * s.down.count

-- AT MOST 656

displacing_most : (k : ℕ) → displacing k ≤ 6
unfolding displacing
displacing_most k = omega (arith, ind-most (ltb k reconcile))

entry-most : (e : Entry) → entry_cost e ≤ 6
unfolding entry_cost
entry-most e = displacing_most e.kind

stall_most : (w : Waiting) → stall_cost w ≤ 13
unfolding stall_cost
stall_most w = omega (arith, displacing_most w.kind)

-- a site with at most 8 instructions waiting and at most 5 entries
left_most : (x : Site) → x.stalls ≤ 8 → x.pends ≤ 5 → site_left x ≤ 134 + 6 * queued x
unfolding site_left
left_most x h k = omega (arith, weigh-most stall_cost 13 stall_most x.stalls x.waiting, weigh-most entry_cost 6 entry-most x.pends x.entries)

module _ (s : System) (h : Sound s) where
  -- in use or past the sizes
  site-most : (i : ℕ) → i < 4 → site_left (site_at s i) ≤ 134 + 6 * queued (site_at s i)
  site-most i l =
      by_test (ltb i s.sizes.sites)
      (λ u. let r = ready s h i (ltb→lt i s.sizes.sites u) in
      left_most (site_at s i) (omega (arith, r.own.k_most, r.limits.stall_most)) (omega (arith, r.own.n_most, r.limits.pend_most)))
      (λ u. let v = vacant s h i l (nltb→le i s.sizes.sites u) in left_most (site_at s i) (omega (arith, v.stalls)) (omega (arith, v.pends)))

  pub potential_most : potential s ≤ 656
  unfolding potential message_count sum_below
  potential_most =
      omega (
        arith,
        sum_less 4 (λ i. site_left (site_at s i)) (λ i. 134 + 6 * queued (site_at s i)) site-most,
        count_most s h,
        net_places s h,
      )
