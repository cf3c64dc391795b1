-- Quiet: where the drain's tries are refused, or all candidates, nothing waits and nothing is under way; and then nothing but an issue could be done.
use mathlib.Core.Path.{◌≡◌, refl}
use mathlib.Core.List.{[]}
use mathlib.Core.Bool.{Bool, true, false, not}
use Prim.Native.Nat.{ℕ, ◌+◌, ◌≤◌, ◌<◌}
use native.Mathlib.Omega.{arith}
use lib.Dec.{T, ltb, eqb, ltb→lt, lt→ltb, nltb→le, not_T, T_not}
use Rattle.lists.specs.Places.{each}
use Rattle.lists.proofs.Tests.{by_test}
use Rattle.lists.proofs.Places.{none_used}
use Rattle.lists.proofs.Below.{sum_at, sum_most, sum_within}
use Rattle.lists.proofs.Counts.{each_map, mem_each, take_none, all_of-none}
use Rattle.model.specs.declared.Sizes.{Sizes}
use Rattle.model.specs.declared.Entry.{Entry}
use Rattle.model.specs.declared.Waiting.{Waiting}
use Rattle.model.specs.declared.Place.{Place}
use Rattle.model.specs.declared.System.{System}
use Rattle.model.specs.declared.Action.{Action}
use Rattle.model.specs.declared.After.{After}
use Rattle.model.specs.declared.Refusal.{Refusal}
use Rattle.model.specs.declared.Refusal.TheVariants.{NoSuchSite, NothingThere, MustStillWait}
use Rattle.model.specs.declared.Step.{Step}
use Rattle.model.specs.declared.Step.TheVariants.{Issue, Retry, Send, ArriveMemory, Serve, SendBack, ArriveSite, Take}
use Rattle.model.specs.Parts.{Site, site_at}
use Rattle.model.specs.Sound.{site_messages, under_way}
use Rattle.model.specs.Handling.{line_free, facts_of, decided, must_wait}
use Rattle.model.specs.Steps.{unless, stall_head, unstalled, resumed, retried_at, retried, sent_from, sent, arrived_memory, serve_step, sent_back, arrived_site, took_at, took, step_of, is_done}
use Rattle.model.specs.Drain.{accepts, candidates_of, quiet, tries}
use Rattle.promises.specs.Runs.{is_move}
use Rattle.promises.proofs.Sound.{Sound}
use Rattle.promises.proofs.Room.{the_limits, vacant, queued, message_count, count_is}
use Rattle.promises.proofs.Rows.{Row, load_hit, store_hit, fetches, not-cached, commit-clean, reconcile_dirty, drops, writes_kept, writes_dropped, waits_full, waits-pending, row}
use Rattle.promises.proofs.Stepping.{head_place, head_kind}
use Rattle.promises.proofs.Named.{named, named_move, candidates_named, tried, tries_named}
use Rattle.promises.proofs.Choices.{stock, named_in, accepted_stock, accepted_named, accepted_candidate}

-- a sound state refuses the step
abbrev pub denies : System → Step → Bool
denies s x = not (accepts s x)

-- WHAT A REFUSAL SAYS

-- a test that passes leads on
passed : (ok : Bool) (r : Refusal) (s : System) (next : After) → T ok → T (is_done next.outcome) → T (is_done (unless ok r s next).outcome)
passed true r s next t d = d
passed false r s next t d = absurd t

-- with no entry, nothing must wait
runs : (z : Sizes) (x : Site) (w : Waiting) (p : Place) (a : Action) → x.pends ≡ 0 → 1 ≤ z.pend → Row z x w p a → T (not (must_wait a))
runs z x w p a e l (load_hit k c) = tt
runs z x w p a e l (store_hit k c) = tt
runs z x w p a e l (fetches k c n f) = tt
runs z x w p a e l (not-cached k c f) = tt
runs z x w p a e l (commit-clean k c d) = tt
runs z x w p a e l (reconcile_dirty k c d) = tt
runs z x w p a e l (drops k c d) = tt
runs z x w p a e l (writes_kept k c d n) = tt
runs z x w p a e l (writes_dropped k c d f n) = tt
runs z x w p a e l (waits_full k) = absurd (omega (arith, k))
runs z x w p a e l (waits-pending k) = absurd (T_not (line_free x w.line) k (none_used (λ (y : Entry). eqb y.line w.line) x.pends x.entries e))

-- a retry is sure of its way where no entry pends, the other steps anywhere
unfoldable pub Sure : System → Step → Type 0
Sure s (Issue i t n) = Unit {0}
Sure s (Retry i) = (site_at s i).pends ≡ 0
Sure s (Send i) = Unit {0}
Sure s (ArriveMemory p) = Unit {0}
Sure s Serve = Unit {0}
Sure s SendBack = Unit {0}
Sure s (ArriveSite p) = Unit {0}
Sure s (Take i) = Unit {0}

module _ (s : System) (h : Sound s) where
  there : (p n : ℕ) (next : After) → p < n → T (is_done next.outcome) → T (is_done (unless (ltb p n) NothingThere s next).outcome)
  there p n next l d = passed (ltb p n) NothingThere s next (lt→ltb p n l) d

  at_site_lem : (i : ℕ) (next : After) → T (ltb i s.sizes.sites) → T (is_done next.outcome) →
      T (is_done (unless (ltb i s.sizes.sites) NoSuchSite s next).outcome)
  at_site_lem i next k d = passed (ltb i s.sizes.sites) NoSuchSite s next k d

  -- a step of a site of the system, or of position 0, is accepted where something stands
  pub granted : (x : Step) → T (named s.sizes.sites 1 1 x) → Sure s x → 0 < stock s x → T (accepts s x)
  unfolding named Sure stock step_of retried retried_at resumed sent sent_from arrived_memory serve_step sent_back arrived_site took took_at
  granted (Issue i t n) k u l = absurd k
  granted (Retry i) k u l =
      let y = site_at s i in
      let a = decided (stall_head y).kind (facts_of s.sizes (unstalled y) (stall_head y) (head_place s i)) in
      let r = row s.sizes (unstalled y) (stall_head y) (head_place s i) (head_kind s h i (ltb→lt i s.sizes.sites k) l) in
      at_site_lem i _ k
      (there 0 y.stalls _ l
      (passed (not (must_wait a)) MustStillWait s _ (runs s.sizes (unstalled y) (stall_head y) (head_place s i) a u (the_limits s h).pend_some r) tt))
  granted (Send i) k u l = at_site_lem i _ k (there 0 (site_at s i).outgoing.count _ l tt)
  granted (ArriveMemory p) k u l = there p s.up.count _ (omega (arith, ltb→lt p 1 k)) tt
  granted Serve k u l = there 0 s.arrived.count _ l tt
  granted SendBack k u l = there 0 s.served.count _ l tt
  granted (ArriveSite p) k u l = there p s.down.count _ (omega (arith, ltb→lt p 1 k)) tt
  granted (Take i) k u l = at_site_lem i _ k (there 0 (site_at s i).incoming.count _ l tt)

  -- so that a refused one finds nothing there
  pub refused_empty : (x : Step) → T (named s.sizes.sites 1 1 x) → Sure s x → T (denies s x) → stock s x ≡ 0
  refused_empty x k u q =
      by_test (ltb 0 (stock s x)) (λ t. absurd (T_not (accepts s x) q (granted x k u (ltb→lt 0 (stock s x) t)))) (λ t. omega (arith, nltb→le 0 (stock s x) t))

-- IDLE: nothing pends and nothing waits

abbrev pub Idle : System → Type 0
Idle s = (i : ℕ) → i < s.sizes.sites → ((site_at s i).pends ≡ 0) × ((site_at s i).stalls ≡ 0)

-- no step but an issue is accepted
abbrev pub AllRefused : System → Type 0
AllRefused s = (x : Step) → T (is_move x) → T (denies s x)

module _ (s : System) (h : Sound s) where
  abbrev n : ℕ
  n = s.sizes.sites

  -- IDLE, SO ALL REFUSED

  pub idle_count : Idle s → message_count s ≡ 0
  idle_count f =
      omega (arith, count_is s h, sum_most n 0 (λ i. (site_at s i).pends) (λ i l. let e : (site_at s i).pends ≡ 0 = (f i l).0 in omega (arith, e)))

  -- no message, no queue
  none-queued : message_count s ≡ 0 → (i : ℕ) → i < 4 → queued (site_at s i) ≡ 0
  unfolding message_count
  none-queued e i l = omega (arith, sum_at 4 (λ j. queued (site_at s j)) i l)

  none_sited : message_count s ≡ 0 → (i : ℕ) → T (ltb i n) → queued (site_at s i) ≡ 0
  none_sited e i t = none-queued e i (omega (arith, ltb→lt i n t, (the_limits s h).sites_most))

  idle_stock : Idle s → (x : Step) → T (named_in s x) → stock s x ≡ 0
  unfolding named stock message_count
  idle_stock f (Issue i t m) k = refl
  idle_stock f (Retry i) k = (f i (ltb→lt i n k)).1
  idle_stock f (Send i) k = omega (arith, none_sited (idle_count f) i k)
  idle_stock f (ArriveMemory p) k = omega (arith, idle_count f)
  idle_stock f Serve k = omega (arith, idle_count f)
  idle_stock f SendBack k = omega (arith, idle_count f)
  idle_stock f (ArriveSite p) k = omega (arith, idle_count f)
  idle_stock f (Take i) k = omega (arith, none_sited (idle_count f) i k)

  pub idle_denies : Idle s → AllRefused s
  idle_denies f x m =
      not_T (accepts s x) (λ a. omega (arith, accepted_stock s h x m a, idle_stock f x (accepted_named s h x m a)))

  -- ALL TRIES REFUSED, SO IDLE

  -- a site past the sizes is empty
  free-queued : (i : ℕ) → i < 4 → n ≤ i → queued (site_at s i) ≡ 0
  free-queued i l k = let v = vacant s h i l k in omega (arith, v.outgoing, v.incoming)

  -- no message in any queue
  pub none-standing : ((i : ℕ) → i < n → queued (site_at s i) ≡ 0) → s.up.count + s.arrived.count + s.served.count + s.down.count ≡ 0 →
      message_count s ≡ 0
  unfolding message_count
  none-standing f e =
      omega (arith, sum_within 4 n 0 (λ i. queued (site_at s i)) (λ i l. let q : queued (site_at s i) ≡ 0 = f i l in omega (arith, q)) free-queued)

  pub none-pending : message_count s ≡ 0 → (i : ℕ) → i < n → (site_at s i).pends ≡ 0
  none-pending e i l = omega (arith, count_is s h, sum_at n (λ j. (site_at s j).pends) i l)

  module _ (t : T (each (denies s) (tries n))) where
    tried_empty : (x : Step) → T (named n 1 1 x) → Sure s x → stock s x ≡ 0
    tried_empty x k u = refused_empty s h x k u (mem_each (denies s) (tried n x k) t)

    pub tries-count : message_count s ≡ 0
    unfolding named Sure stock
    tries-count =
        none-standing (λ i l. omega (arith, tried_empty (Send i) (lt→ltb i n l) tt, tried_empty (Take i) (lt→ltb i n l) tt))
        (omega (arith, tried_empty (ArriveMemory 0) tt tt, tried_empty Serve tt tt, tried_empty SendBack tt tt, tried_empty (ArriveSite 0) tt tt))

    tries-pends : (i : ℕ) → i < n → (site_at s i).pends ≡ 0
    tries-pends = none-pending tries-count

    pub tries_idle : Idle s
    unfolding named Sure stock
    tries_idle i l = (tries-pends i l, tried_empty (Retry i) (lt→ltb i n l) (tries-pends i l))

  -- QUIET, AS THE DOCUMENT SAYS IT

  pub quiet_all : T (quiet s) → AllRefused s
  unfolding quiet
  quiet_all t x m = not_T (accepts s x) (λ a. T_not (accepts s x) (mem_each (denies s) (accepted_candidate s h x m a) t) a)

  pub all_quiet : AllRefused s → T (quiet s)
  unfolding quiet
  all_quiet f =
      each_map (named_in s) (denies s) (λ x k. f x (named_move n s.up.count s.down.count x k)) (candidates_of s)
      (candidates_named n s.up.count s.down.count)

  all_idle : AllRefused s → Idle s
  all_idle f = tries_idle (each_map (named n 1 1) (denies s) (λ x k. f x (named_move n 1 1 x k)) (tries n) (tries_named n))

  pub quiet_idle : T (quiet s) → Idle s
  quiet_idle t = all_idle (quiet_all t)

  pub idle_quiet : Idle s → T (quiet s)
  idle_quiet f = all_quiet (idle_denies f)

  pub tries-quiet : T (each (denies s) (tries n)) → T (quiet s)
  tries-quiet t = idle_quiet (tries_idle t)

  -- nothing is under way
  pub quiet_none : T (quiet s) → under_way s ≡ []
  unfolding under_way message_count
  quiet_none t =
      let e : message_count s ≡ 0 = idle_count (quiet_idle t) in
      rw (
        all_of-none 4 (λ i. site_messages (site_at s i)) (λ i l. none_at_lem i (none-queued e i l)),
        take_none s.up.count s.up.items (omega arith),
        take_none s.arrived.count s.arrived.items (omega arith),
        take_none s.served.count s.served.items (omega arith),
        take_none s.down.count s.down.items (omega arith),
      )
    where
      none_at_lem : (i : ℕ) → queued (site_at s i) ≡ 0 → site_messages (site_at s i) ≡ []
      none_at_lem i e =
          rw (
            take_none (site_at s i).outgoing.count (site_at s i).outgoing.items (omega arith),
            take_none (site_at s i).incoming.count (site_at s i).incoming.items (omega arith),
          )
