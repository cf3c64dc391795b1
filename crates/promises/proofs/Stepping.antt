-- What can come of a step of a sound state: a refusal, or one of the ways to be accepted, with what its tests say.
use mathlib.Core.Bool.{not}
use Prim.Native.Nat.{ℕ, ◌<◌}
use native.Mathlib.Omega.{arith}
use lib.Dec.{T, leb, ltb, ltb→lt, nltb→le, nleb→lt}
use lib.ListN.{get_or}
use Rattle.lists.proofs.Tests.{by_cond}
use Rattle.model.specs.declared.Message.{Message}
use Rattle.model.specs.declared.Waiting.{Waiting}
use Rattle.model.specs.declared.Place.{Place}
use Rattle.model.specs.declared.System.{System}
use Rattle.model.specs.declared.Action.{Action}
use Rattle.model.specs.declared.Action.TheVariants.{Load, Store, Acknowledge, Drop, Fetch, WriteBackKept, WriteBackDropped, Wait}
use Rattle.model.specs.declared.After.{After}
use Rattle.model.specs.declared.Instruction.{Instruction}
use Rattle.model.specs.declared.Step.{Step}
use Rattle.model.specs.declared.Step.TheVariants.{Issue, Retry, Send, ArriveMemory, Serve, SendBack, ArriveSite, Take}
use Rattle.model.specs.declared.Answer.TheVariants.{Nothing, Acknowledged}
use Rattle.model.specs.declared.Refusal.{Refusal}
use Rattle.model.specs.declared.Refusal.TheVariants.{NoSuchSite, AddressPastLast, TagOutstanding, MayNotIssue, StallFull, NothingThere, MustStillWait}
use Rattle.model.specs.Kinds.{reconcile}
use Rattle.model.specs.Fresh.{done, refused}
use Rattle.model.specs.Parts.{Site, site_at, put_site, past_entry, with_incoming, site_head, site_rest, net_at}
use Rattle.model.specs.Sound.{waiting_fits}
use Rattle.model.specs.Issue.{kind_of, is_fence, as_waiting, addresses_fit, tag_free, may_issue}
use Rattle.model.specs.Handling.{place_of, facts_of, decided, performed, must_wait}
use Rattle.model.specs.Take.{entry_for, taken}
use Rattle.model.specs.Steps.{handled_at, stalled_at, entered, issued_at, issued, stall_head, unstalled, resumed, retried_at, retried, after_send, sent_from, sent, after_arrive_memory, arrived_memory, after_serve, serve_step, after_send_back, sent_back, after_arrive_site, arrived_site, took_at, took, step_of}
use Rattle.promises.proofs.Sound.{Sound, ready_head, ready_kind}
use Rattle.promises.proofs.Room.{ready}
use Rattle.promises.proofs.Rows.{Row, row}

-- an instruction that is no fence, and may be issued at site i
pub record Admitted (s : System) (i t : ℕ) (n : Instruction) : Type 0 where
  pub sited : i < s.sizes.sites
  pub addresses : T (addresses_fit s.sizes n)
  pub tag : T (tag_free (site_at s i) t)
  pub passes : T (may_issue (site_at s i) (as_waiting s.sizes t n))

abbrev pub issued_place : System → ℕ → ℕ → Instruction → Place
issued_place s i t n = place_of s.sizes (site_at s i) (as_waiting s.sizes t n).line

abbrev pub head_place : System → ℕ → Place
head_place s i = place_of s.sizes (unstalled (site_at s i)) (stall_head (site_at s i)).line

abbrev pub taker : System → ℕ → Site
taker s i = with_incoming (site_at s i) (site_rest (site_at s i).incoming)

abbrev pub reply_at : System → ℕ → Message
reply_at s i = site_head (site_at s i).incoming

abbrev pub entry_at : System → ℕ → ℕ
entry_at s i = entry_for (site_at s i) (reply_at s i).line

pub data Stepping (s : System) : Step → After → Type 0 where
  refusing : (x : Step) (r : Refusal) → Stepping s x (refused r s)
  fenced : (i t : ℕ) (n : Instruction) → Admitted s i t n → reconcile < kind_of n → Stepping s (Issue i t n) (done (Acknowledged i t) s)
  stalling : (i t : ℕ) (n : Instruction) → Admitted s i t n → kind_of n < 4 → (site_at s i).stalls < s.sizes.stall →
      Row s.sizes (site_at s i) (as_waiting s.sizes t n) (issued_place s i t n) Wait →
      Stepping s (Issue i t n) (done Nothing (put_site s i (stalled_at (site_at s i) (as_waiting s.sizes t n))))
  handling : (i t : ℕ) (n : Instruction) → Admitted s i t n → kind_of n < 4 → (a : Action) → T (not (must_wait a)) →
      Row s.sizes (site_at s i) (as_waiting s.sizes t n) (issued_place s i t n) a →
      Stepping s (Issue i t n) (handled_at s i (performed s.sizes i (site_at s i) (as_waiting s.sizes t n) (issued_place s i t n) a))
  resuming : (i : ℕ) → i < s.sizes.sites → 0 < (site_at s i).stalls → (a : Action) → T (not (must_wait a)) →
      Row s.sizes (unstalled (site_at s i)) (stall_head (site_at s i)) (head_place s i) a →
      Stepping s (Retry i) (handled_at s i (performed s.sizes i (unstalled (site_at s i)) (stall_head (site_at s i)) (head_place s i) a))
  sending : (i : ℕ) → i < s.sizes.sites → 0 < (site_at s i).outgoing.count → Stepping s (Send i) (done Nothing (after_send s i (site_at s i).outgoing))
  arriving : (p : ℕ) → p < s.up.count → Stepping s (ArriveMemory p) (done Nothing (after_arrive_memory s p))
  serving : 0 < s.arrived.count → Stepping s Serve (done Nothing (after_serve s (net_at s.arrived 0)))
  returning : 0 < s.served.count → Stepping s SendBack (done Nothing (after_send_back s))
  reaching : (p : ℕ) → p < s.down.count → Stepping s (ArriveSite p) (done Nothing (after_arrive_site s p (net_at s.down p)))
  tooking : (i : ℕ) → i < s.sizes.sites → 0 < (site_at s i).incoming.count →
      Stepping s (Take i) (handled_at s i (taken s.sizes i (taker s i) (entry_at s i) (get_or (site_at s i).entries (entry_at s i) past_entry) (reply_at s i)))

-- ISSUE

-- an instruction that is no fence is of the first four kinds
no_fence : (n : Instruction) → T (not (is_fence n)) → kind_of n < 4
no_fence n t = omega (arith, nltb→le reconcile (kind_of n) t)

module _ (s : System) (i t : ℕ) (n : Instruction) where
  abbrev S : After → Type 0
  S r = Stepping s (Issue i t n) r

  abbrev x : Site
  x = site_at s i

  abbrev w : Waiting
  w = as_waiting s.sizes t n

  abbrev p : Place
  p = issued_place s i t n

  entered_as : Admitted s i t n → kind_of n < 4 → (a : Action) → Row s.sizes x w p a → S (entered s i x w p (leb s.sizes.stall x.stalls) a)
  unfolding entered
  entered_as d k Load r = handling i t n d k Load tt r
  entered_as d k Store r = handling i t n d k Store tt r
  entered_as d k Acknowledge r = handling i t n d k Acknowledge tt r
  entered_as d k Drop r = handling i t n d k Drop tt r
  entered_as d k Fetch r = handling i t n d k Fetch tt r
  entered_as d k WriteBackKept r = handling i t n d k WriteBackKept tt r
  entered_as d k WriteBackDropped r = handling i t n d k WriteBackDropped tt r
  entered_as d k Wait r =
      by_cond S (not (leb s.sizes.stall x.stalls)) _ (refused StallFull s) (λ u. stalling i t n d k (nleb→lt s.sizes.stall x.stalls u) r)
      (λ u. refusing (Issue i t n) StallFull)

  issued_as : S (issued s i t n)
  unfolding issued issued_at
  issued_as =
      by_cond S (ltb i s.sizes.sites) _ (refused NoSuchSite s)
      (λ l. by_cond S (addresses_fit s.sizes n) _ (refused AddressPastLast s)
      (λ a. by_cond S (tag_free x t) _ (refused TagOutstanding s)
      (λ f. by_cond S (may_issue x w) _ (refused MayNotIssue s)
      (λ m. let d : Admitted s i t n = record { sited = ltb→lt i s.sizes.sites l; addresses = a; tag = f; passes = m } in
      by_cond S (is_fence n) _ _
      (λ e. fenced i t n d (ltb→lt reconcile (kind_of n) e))
      (λ e. entered_as d (no_fence n e) (decided (kind_of n) (facts_of s.sizes x w p)) (row s.sizes x w p (no_fence n e))))
      (λ m. refusing (Issue i t n) MayNotIssue))
      (λ f. refusing (Issue i t n) TagOutstanding))
      (λ a. refusing (Issue i t n) AddressPastLast))
      (λ l. refusing (Issue i t n) NoSuchSite)

-- RETRY

module _ (s : System) (h : Sound s) (i : ℕ) where
  abbrev S' : After → Type 0
  S' r = Stepping s (Retry i) r

  abbrev y : Site
  y = site_at s i

  pub head_fits : i < s.sizes.sites → 0 < y.stalls → T (waiting_fits s.sizes (stall_head y))
  head_fits l k = ready_head s.sizes i y (ready s h i l) k

  pub head_kind : i < s.sizes.sites → 0 < y.stalls → (stall_head y).kind < 4
  head_kind l k = ready_kind s.sizes i y (ready s h i l) k

  resumed_as : i < s.sizes.sites → 0 < y.stalls → (a : Action) → Row s.sizes (unstalled y) (stall_head y) (head_place s i) a →
      S' (resumed s i (unstalled y) (stall_head y) (head_place s i) a)
  unfolding resumed
  resumed_as l k Load r = resuming i l k Load tt r
  resumed_as l k Store r = resuming i l k Store tt r
  resumed_as l k Acknowledge r = resuming i l k Acknowledge tt r
  resumed_as l k Drop r = resuming i l k Drop tt r
  resumed_as l k Fetch r = resuming i l k Fetch tt r
  resumed_as l k WriteBackKept r = resuming i l k WriteBackKept tt r
  resumed_as l k WriteBackDropped r = resuming i l k WriteBackDropped tt r
  resumed_as l k Wait r = refusing (Retry i) MustStillWait

  retried_as : S' (retried s i)
  unfolding retried retried_at
  retried_as =
      by_cond S' (ltb i s.sizes.sites) _ (refused NoSuchSite s)
      (λ u. by_cond S' (ltb 0 y.stalls) _ (refused NothingThere s)
      (λ v. let l : i < s.sizes.sites = ltb→lt i s.sizes.sites u in
      let k : 0 < y.stalls = ltb→lt 0 y.stalls v in
      resumed_as l k (decided (stall_head y).kind (facts_of s.sizes (unstalled y) (stall_head y) (head_place s i)))
      (row s.sizes (unstalled y) (stall_head y) (head_place s i) (head_kind l k)))
      (λ v. refusing (Retry i) NothingThere))
      (λ u. refusing (Retry i) NoSuchSite)

-- ANY STEP

pub stepping : (s : System) → Sound s → (x : Step) → Stepping s x (step_of s x)
unfolding step_of sent sent_from arrived_memory serve_step sent_back arrived_site took took_at
stepping s h (Issue i t n) = issued_as s i t n
stepping s h (Retry i) = retried_as s h i
stepping s h (Send i) =
    by_cond (λ r. Stepping s (Send i) r) (ltb i s.sizes.sites) _ (refused NoSuchSite s)
    (λ u. by_cond (λ r. Stepping s (Send i) r) (ltb 0 (site_at s i).outgoing.count) _ (refused NothingThere s)
    (λ v. sending i (ltb→lt i s.sizes.sites u) (ltb→lt 0 (site_at s i).outgoing.count v)) (λ v. refusing (Send i) NothingThere))
    (λ u. refusing (Send i) NoSuchSite)
stepping s h (ArriveMemory p) =
    by_cond (λ r. Stepping s (ArriveMemory p) r) (ltb p s.up.count) _ (refused NothingThere s) (λ u. arriving p (ltb→lt p s.up.count u))
    (λ u. refusing (ArriveMemory p) NothingThere)
stepping s h Serve =
    by_cond (λ r. Stepping s Serve r) (ltb 0 s.arrived.count) _ (refused NothingThere s) (λ u. serving (ltb→lt 0 s.arrived.count u)) (λ u. refusing Serve NothingThere)
stepping s h SendBack =
    by_cond (λ r. Stepping s SendBack r) (ltb 0 s.served.count) _ (refused NothingThere s) (λ u. returning (ltb→lt 0 s.served.count u))
    (λ u. refusing SendBack NothingThere)
stepping s h (ArriveSite p) =
    by_cond (λ r. Stepping s (ArriveSite p) r) (ltb p s.down.count) _ (refused NothingThere s) (λ u. reaching p (ltb→lt p s.down.count u))
    (λ u. refusing (ArriveSite p) NothingThere)
stepping s h (Take i) =
    by_cond (λ r. Stepping s (Take i) r) (ltb i s.sizes.sites) _ (refused NoSuchSite s)
    (λ u. by_cond (λ r. Stepping s (Take i) r) (ltb 0 (site_at s i).incoming.count) _ (refused NothingThere s)
    (λ v. tooking i (ltb→lt i s.sizes.sites u) (ltb→lt 0 (site_at s i).incoming.count v)) (λ v. refusing (Take i) NothingThere))
    (λ u. refusing (Take i) NoSuchSite)
