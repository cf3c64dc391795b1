-- What is outstanding at a site under a tag. A step answers what it takes away from that, and adds what it accepts.
use mathlib.Core.Path.{◌≡◌, refl, ap, sym}
use mathlib.Core.List.{List, [], ◌∷◌}
use mathlib.Core.Bool.{Bool, true, false, not, ◌&&◌, cond, beq}
use Prim.Native.Nat.{ℕ, ◌+◌, ◌≤◌, ◌<◌}
use native.Mathlib.Omega.{arith}
use lib.Dec.{T, ltb, eqb, ltb→lt, nltb→le, eqb→eq, not_T, T_not}
use lib.ListN.{length, get_or, get_or-eq_default}
use Rattle.lists.specs.Places.{ind, weigh, tally, none_of, count}
use Rattle.lists.proofs.Tests.{and_l, and_r, by_test, by_cond, T_true, F_false, ne_of, of_ne, ind_F}
use Rattle.lists.proofs.Places.{weigh_push, weigh_pull, weigh_set, weigh-none, array_at}
use Rattle.model.specs.declared.Sizes.{Sizes}
use Rattle.model.specs.declared.Message.{Message}
use Rattle.model.specs.declared.Entry.{Entry}
use Rattle.model.specs.declared.Waiting.{Waiting}
use Rattle.model.specs.declared.Place.{Place}
use Rattle.model.specs.declared.CacheSet.{CacheSet}
use Rattle.model.specs.declared.Pends.{Pends}
use Rattle.model.specs.declared.Stalls.{Stalls}
use Rattle.model.specs.declared.SiteQueue.{SiteQueue}
use Rattle.model.specs.declared.System.{System}
use Rattle.model.specs.declared.Action.{Action}
use Rattle.model.specs.declared.After.{After}
use Rattle.model.specs.declared.Instruction.{Instruction}
use Rattle.model.specs.declared.Step.{Step}
use Rattle.model.specs.declared.Answer.{Answer}
use Rattle.model.specs.declared.Answer.TheVariants.{Nothing, Loaded, Acknowledged}
use Rattle.model.specs.Kinds.{loadl, voluntary}
use Rattle.model.specs.Fresh.{no_entry, no_waiting}
use Rattle.model.specs.Parts.{Site, site_at, put_site, past_entry, past_waiting, past_pends, past_stalls, net_at, with_cache, with_outgoing, with_incoming, site_rest}
use Rattle.model.specs.Sound.{waits_under, pends_under, free_entry, entry_fits}
use Rattle.model.specs.Issue.{kind_of, as_waiting, tag_free}
use Rattle.model.specs.Handling.{Handled, entry_of, asked, put_set, performed, must_wait}
use Rattle.model.specs.Take.{removed_entry, caching, taken, voluntary_entry}
use Rattle.model.specs.Steps.{stalled_at, stall_head, unstalled, step_of, is_done, answer_of, after_send, after_arrive_memory, after_serve, after_send_back, after_arrive_site}
use Rattle.promises.specs.Runs.{Event, issued, answered, here, issue_seen, answer_seen, is_issued, is_answered}
use Rattle.promises.proofs.Sites.{Put, put_site_lem, put_sent, put_reached}
use Rattle.promises.proofs.Sound.{Sound, ready-pends, ready-stalls, pends-room, stalls-room}
use Rattle.promises.proofs.Room.{ready, below_four, vacant}
use Rattle.promises.proofs.Moves.{reached_site}
use Rattle.promises.proofs.Took.{entry_below}
use Rattle.promises.proofs.Rows.{Row, load_hit, store_hit, fetches, not-cached, commit-clean, reconcile_dirty, drops, writes_kept, writes_dropped, waits_full, waits-pending, Settling, removes, evicts, settling, Taking, loaded, stored, committed, reconciled, voluntarily, taking}
use Rattle.promises.proofs.Quiet.{Idle}
use Rattle.promises.proofs.Stepping.{Admitted, Stepping, refusing, fenced, stalling, handling, resuming, sending, arriving, serving, returning, reaching, tooking, stepping, issued_place, head_place, taker, reply_at, entry_at, head_kind}
use Rattle.model.specs.Results.{Outcome}

-- OUTSTANDING

-- one that waits, or pends, under a tag: a Loadl or not
abbrev pub waits_as : ℕ → Bool → Waiting → Bool
waits_as t b w = waits_under t w && beq (eqb w.kind loadl) b

abbrev pub pends_as : ℕ → Bool → Entry → Bool
pends_as t b e = pends_under t e && beq (eqb e.kind loadl) b

-- how many are outstanding at a site
unfoldable pub out_at : ℕ → Bool → Site → ℕ
out_at t b x = tally (waits_as t b) x.stalls x.waiting + tally (pends_as t b) x.pends x.entries

unfoldable pub outstanding : ℕ → ℕ → Bool → System → ℕ
outstanding i t b s = out_at t b (site_at s i)

-- of either form
abbrev pub left : ℕ → ℕ → System → ℕ
left i t s = outstanding i t true s + outstanding i t false s

-- WHAT A STEP SHOWS

-- of a Loadl or not
abbrev pub form_of : Event → Bool
form_of (issued b) = b
form_of (answered b) = b

abbrev pub issues_as : Bool → Event → Bool
issues_as b e = is_issued e && beq (form_of e) b

abbrev pub answers_as : Bool → Event → Bool
answers_as b e = is_answered e && beq (form_of e) b

-- the instruction that the step issues, if it is accepted
abbrev pub issue_in : ℕ → ℕ → Step → Outcome → List Event
issue_in i t x o = cond (is_done o) (issue_seen i t x) []

abbrev pub answer_in : ℕ → ℕ → Outcome → List Event
answer_in i t o = answer_seen i t (answer_of o)

-- A SITE

module _ (t : ℕ) (b : Bool) where
  -- what is under tag u and of form c, counted
  abbrev hit : ℕ → Bool → ℕ
  hit u c = ind (eqb u t && beq c b)

  -- an instruction, counted
  abbrev one : Waiting → ℕ
  one w = hit w.tag (eqb w.kind loadl)

  stalled_out : (x : Site) (w : Waiting) → x.stalls < length x.waiting → out_at t b x + one w ≡ out_at t b (stalled_at x w)
  unfolding out_at
  stalled_out x w k = omega (arith, weigh_push (λ w. ind (waits_as t b w)) x.stalls x.waiting w k)

  unstalled_out : (x : Site) → 0 < x.stalls → x.stalls ≤ length x.waiting → out_at t b (unstalled x) + one (stall_head x) ≡ out_at t b x
  unfolding out_at
  unstalled_out x k l = omega (arith, weigh_pull (λ w. ind (waits_as t b w)) x.stalls 0 x.waiting no_waiting past_waiting k l)

  -- the queues hold no instruction, nor does the cache
  queues_out : (x : Site) (q r : SiteQueue) → out_at t b (with_incoming (with_outgoing x q) r) ≡ out_at t b x
  unfolding out_at
  queues_out x q r = refl

  cache_out : (x : Site) (cs : List CacheSet) → out_at t b (with_cache x cs) ≡ out_at t b x
  unfolding out_at
  cache_out x cs = refl

  -- an entry that is not voluntary counts as its instruction
  pend_form : (e : Entry) → e.kind < 4 → ind (pends_as t b e) ≡ hit e.tag (eqb e.kind loadl)
  pend_form e k = rw (F_false (eqb e.kind voluntary) (of_ne e.kind voluntary (λ q. omega (arith, k, q))))

  asked_out : (x : Site) (w : Waiting) (vs : List ℕ) (m : Message) → w.kind < 4 → x.pends < length x.entries →
      out_at t b x + one w ≡ out_at t b (asked x (entry_of w vs) m)
  unfolding out_at
  asked_out x w vs m k l = omega (arith, weigh_push (λ e. ind (pends_as t b e)) x.pends x.entries (entry_of w vs) l, pend_form (entry_of w vs) k)

  -- a reply's entry leaves, and a voluntary one is no instruction's
  module _ (i : ℕ) (x : Site) (p : ℕ) (below : p < x.pends) (most : x.pends ≤ length x.entries) where
    abbrev Leaves : Site → Type 0
    Leaves y = out_at t b y + ind (pends_as t b (get_or x.entries p past_entry)) ≡ out_at t b x

    removed_out : Leaves (removed_entry x p)
    unfolding out_at
    removed_out = omega (arith, weigh_pull (λ e. ind (pends_as t b e)) x.pends p x.entries no_entry past_entry below most)

    settling_out : (old : Place) (y : Site) → Settling i x p old y → Leaves y
    unfolding out_at
    settling_out old y removes = removed_out
    settling_out old y (evicts u d) =
        omega (arith, weigh_set (λ e. ind (pends_as t b e)) x.pends p x.entries (voluntary_entry old.line) past_entry below most)

-- ONE SITE OF A SYSTEM

module _ (i t : ℕ) (b : Bool) where
  -- what counts at site j: all of it at site i, and nothing elsewhere
  abbrev at_site : ℕ → ℕ → ℕ
  at_site j n = cond (eqb j i) n 0

  at_add : (j k m n : ℕ) → m + n ≡ k → at_site j m + at_site j n ≡ at_site j k
  at_add j k m n e = go (eqb j i)
    where
      go : (d : Bool) → cond d m 0 + cond d n 0 ≡ cond d k 0
      go true = e
      go false = refl

  count-here : (f : Event → Bool) (j u : ℕ) (e : Event) → count f (here i t j u e) ≡ at_site j (ind (eqb u t && f e))
  unfolding count
  count-here f j u e = go (eqb j i) (eqb u t)
    where
      go : (c d : Bool) → count f (cond (c && d) (e ∷ []) []) ≡ cond c (ind (d && f e)) 0
      go true true = omega arith
      go true false = refl
      go false d = refl

  -- a site put anew
  put_out : (s s' : System) (j : ℕ) (y : Site) → Put s s' j y →
      outstanding i t b s' + at_site j (out_at t b (site_at s j)) ≡ outstanding i t b s + at_site j (out_at t b y)
  unfolding outstanding
  put_out s s' j y p =
      by_test (eqb j i)
      (λ u. let e : j ≡ i = eqb→eq j i u in rw (T_true (eqb j i) u, ← e) (omega (arith, ap (out_at t b) p.here)))
      (λ u. rw (F_false (eqb j i) u) (omega (arith, ap (out_at t b) (p.there i (λ e. ne_of j i u (sym e))))))

  -- HANDLING

  -- what is answered, with what is outstanding at site y, is what was at site x, and m more
  abbrev Gives : ℕ → Site → ℕ → List Event → Site → Type 0
  Gives j x m es y = count (answers_as b) es + at_site j (out_at t b y) ≡ at_site j (out_at t b x) + at_site j m

  abbrev Law : ℕ → Site → ℕ → Handled → Type 0
  Law j x m h = Gives j x m (answer_seen i t h.answer) h.site

  module _ (j : ℕ) (x y : Site) (m : ℕ) where
    unanswered : out_at t b x + m ≡ out_at t b y → Gives j x m [] y
    unfolding count
    unanswered e = omega (arith, at_add j (out_at t b y) (out_at t b x) m e)

    -- an answer under tag u, of form c
    given : (u : ℕ) (c : Bool) → hit t b u c + out_at t b y ≡ out_at t b x + m → Gives j x m (here i t j u (answered c)) y
    given u c e =
        omega (
          arith,
          count-here (answers_as b) j u (answered c),
          at_add j (out_at t b x + m) (hit t b u c) (out_at t b y) e,
          at_add j (out_at t b x + m) (out_at t b x) m refl,
        )

  -- no Loadl
  other : (k : ℕ) → 0 < k → eqb k loadl ≡ false
  other k l = F_false (eqb k loadl) (of_ne k loadl (λ e. omega (arith, l, e)))

  -- an instruction is answered, or asks
  module _ (z : Sizes) (j : ℕ) (x : Site) (w : Waiting) (p : Place) (k : w.kind < 4) (room : x.pends < z.pend → x.pends < length x.entries) where
    replies : (cs : List CacheSet) (c : Bool) → eqb w.kind loadl ≡ c → Gives j x (one t b w) (here i t j w.tag (answered c)) (with_cache x cs)
    replies cs c q = given j x (with_cache x cs) (one t b w) w.tag c (omega (arith, cache_out t b x cs, ap (hit t b w.tag) q))

    asks : (cs : List CacheSet) (vs : List ℕ) (m : Message) → x.pends < z.pend → Gives j x (one t b w) [] (asked (with_cache x cs) (entry_of w vs) m)
    asks cs vs m l =
        unanswered j x (asked (with_cache x cs) (entry_of w vs) m) (one t b w)
        (omega (arith, cache_out t b x cs, asked_out t b (with_cache x cs) w vs m k (room l)))

    row_law : (a : Action) → T (not (must_wait a)) → Row z x w p a → Law j x (one t b w) (performed z j x w p a)
    unfolding performed answer_seen
    row_law a u (load_hit q c) = replies _ true (rw q)
    row_law a u (store_hit q c) = replies _ false (other w.kind (omega (arith, q)))
    row_law a u (fetches q c l f) = asks _ _ _ l
    row_law a u (not-cached q c f) = replies _ false (other w.kind (omega (arith, q)))
    row_law a u (commit-clean q c d) = replies _ false (other w.kind (omega (arith, q)))
    row_law a u (reconcile_dirty q c d) = replies _ false (other w.kind (omega (arith, q)))
    row_law a u (drops q c d) = replies _ false (other w.kind (omega (arith, q)))
    row_law a u (writes_kept q c d l) = asks _ _ _ l
    row_law a u (writes_dropped q c d n l) = asks _ _ _ l
    row_law a u (waits_full l) = absurd u
    row_law a u (waits-pending f) = absurd u

  -- a reply answers its entry's instruction
  module _ (z : Sizes) (j : ℕ) (x : Site) (p : ℕ) (below : p < x.pends) (most : x.pends ≤ length x.entries) where
    abbrev entry : Entry
    entry = get_or x.entries p past_entry

    leaves : (y : Site) → Leaves t b j x p below most y → (c : Bool) → eqb entry.kind loadl ≡ c → entry.kind < 4 →
        Gives j x 0 (here i t j entry.tag (answered c)) y
    leaves y e c q k = given j x y 0 entry.tag c (omega (arith, e, pend_form t b entry k, ap (hit t b entry.tag) q))

    -- the line goes into the cache
    cached : (new : Place) → Leaves t b j x p below most (caching z j x p new)
    unfolding out_at
    cached new = settling_out t b j (put_set z x new.line _) p below most _ _ (settling j (put_set z x new.line _) p _)

    taking_law : (m : Message) (h : Handled) → entry.kind < 5 → Taking z j x p entry m h → Law j x 0 h
    unfolding answer_seen
    taking_law m h k (loaded q) = leaves _ (cached _) true (rw q) (omega (arith, q))
    taking_law m h k (stored q) = leaves _ (cached _) false (rw q) (omega (arith, q))
    taking_law m h k (committed q) = leaves _ (cached _) false (rw q) (omega (arith, q))
    taking_law m h k (reconciled q) = leaves _ (removed_out t b j x p below most) false (rw q) (omega (arith, q))
    taking_law m h k (voluntarily q) =
        unanswered j x (removed_entry x p) 0 (omega (arith, removed_out t b j x p below most, no_instruction (omega (arith, k, q))))
      where
        no_instruction : entry.kind ≡ voluntary → ind (pends_as t b entry) ≡ 0
        no_instruction e = rw e

  -- ANY STEP

  -- the answers given, with what is outstanding after the step, are what was before, with what it accepts
  abbrev Once : System → Step → After → Type 0
  Once s x r =
      count (answers_as b) (answer_in i t r.outcome) + outstanding i t b r.system ≡
      outstanding i t b s + count (issues_as b) (issue_in i t x r.outcome)

  module _ (s : System) (h : Sound s) where
    -- an accepted instruction
    accepted : (j u : ℕ) (n : Instruction) →
        count (issues_as b) (here i t j u (issued (eqb (kind_of n) loadl))) ≡ at_site j (one t b (as_waiting s.sizes u n))
    accepted j u n = count-here (issues_as b) j u (issued (eqb (kind_of n) loadl))

    put_at_lem : (j : ℕ) → j < s.sizes.sites → (y : Site) →
        outstanding i t b (put_site s j y) + at_site j (out_at t b (site_at s j)) ≡ outstanding i t b s + at_site j (out_at t b y)
    put_at_lem j l y = put_out s (put_site s j y) j y (put_site_lem s h.four j (below_four s h j l) y)

    -- a site whose queues alone changed
    same_out : (s' : System) (j : ℕ) (q r : SiteQueue) → Put s s' j (with_incoming (with_outgoing (site_at s j) q) r) →
        outstanding i t b s' ≡ outstanding i t b s
    same_out s' j q r p =
        omega (arith, put_out s s' j (with_incoming (with_outgoing (site_at s j) q) r) p, ap (at_site j) (queues_out t b (site_at s j) q r))

    entry_kind : (j p : ℕ) → j < s.sizes.sites → p < (site_at s j).pends → (get_or (site_at s j).entries p past_entry).kind < 5
    unfolding entry_fits
    entry_kind j p l k =
        let t = array_at 5 (entry_fits s.sizes) free_entry (site_at s j).pends (site_at s j).entries (ready s h j l).own.entries p past_entry k in
        ltb→lt (get_or (site_at s j).entries p past_entry).kind 5 (search (and_l, and_r) depth 10)

    once : (x : Step) (r : After) → Stepping s x r → Once s x r
    unfolding count issue_seen answer_seen outstanding after_arrive_memory after_serve after_send_back
    once x r (refusing y q) = omega arith
    once x r (fenced j u n d k) =
        omega (
          arith,
          accepted j u n,
          count-here (answers_as b) j u (answered false),
          ap (λ c. at_site j (hit t b u c)) (other (kind_of n) (omega (arith, k))),
        )
    once x r (stalling j u n d k l v) =
        let y : Site = site_at s j in
        let w : Waiting = as_waiting s.sizes u n in
        omega (
          arith,
          accepted j u n,
          put_at_lem j d.sited (stalled_at y w),
          at_add j (out_at t b (stalled_at y w)) (out_at t b y) (one t b w) (stalled_out t b y w (stalls-room s.sizes j y (ready s h j d.sited) l)),
        )
    once x r (handling j u n d k a v q) =
        let y : Site = site_at s j in
        let w : Waiting = as_waiting s.sizes u n in
        let p : Place = issued_place s j u n in
        omega (
          arith,
          accepted j u n,
          put_at_lem j d.sited (performed s.sizes j y w p a).site,
          row_law s.sizes j y w p k (pends-room s.sizes j y (ready s h j d.sited)) a v q,
        )
    once x r (resuming j l k a v q) =
        let y : Site = site_at s j in
        let w : Waiting = stall_head y in
        let p : Place = head_place s j in
        omega (
          arith,
          put_at_lem j l (performed s.sizes j (unstalled y) w p a).site,
          row_law s.sizes j (unstalled y) w p (head_kind s h j l k) (pends-room s.sizes j y (ready s h j l)) a v q,
          at_add j (out_at t b y) (out_at t b (unstalled y)) (one t b w) (unstalled_out t b y k (ready-stalls s.sizes j y (ready s h j l))),
        )
    once x r (sending j l k) = omega (arith, same_out (after_send s j (site_at s j).outgoing) j _ _ (put_sent s h.four j (below_four s h j l) _))
    once x r (arriving p l) = omega arith
    once x r (serving l) = omega arith
    once x r (returning l) = omega arith
    once x r (reaching p l) =
        let m : Message = net_at s.down p in
        omega (arith, same_out (after_arrive_site s p m) m.site _ _ (put_reached s h.four p m (below_four s h m.site (reached_site s h p l))))
    once x r (tooking j l k) =
        let y : Site = site_at s j in
        let e : Entry = get_or y.entries (entry_at s j) past_entry in
        let g : Handled = taken s.sizes j (taker s j) (entry_at s j) e (reply_at s j) in
        let below : entry_at s j < y.pends = entry_below s h j l k in
        omega (
          arith,
          put_at_lem j l g.site,
          taking_law s.sizes j (taker s j) (entry_at s j) below (ready-pends s.sizes j y (ready s h j l)) (reply_at s j) g
              (entry_kind j (entry_at s j) l below) (taking s.sizes j (taker s j) (entry_at s j) e (reply_at s j)),
          ap (at_site j) (queues_out t b y y.outgoing (site_rest y.incoming)),
          at_add j 0 0 0 refl,
        )

    pub step_once : (x : Step) → Once s x (step_of s x)
    step_once x = once x (step_of s x) (stepping s h x)

-- WHERE NOTHING IS OUTSTANDING

-- of one form or of the other
pub by_forms : (a c : Bool) → ind a ≡ ind (a && beq c true) + ind (a && beq c false)
by_forms true true = refl
by_forms true false = refl
by_forms false c = refl

-- what none passes is not counted, nor is what asks more
none_out : {A : Type 0} (f g : A → Bool) (n : ℕ) (xs : List A) → T (none_of f n xs) → ((x : A) → T (g x) → T (f x)) → tally g n xs ≡ 0
none_out f g n xs t h = weigh-none (λ x. not (f x)) (λ x. true) (λ x. ind (g x)) (λ x u. ind_F (g x) (not_T (g x) (λ v. T_not (f x) u (h x v)))) n xs t

module _ (t : ℕ) where
  -- with no instruction there is none under the tag
  empty_out : (b : Bool) (x : Site) → x.stalls ≡ 0 → x.pends ≡ 0 → out_at t b x ≡ 0
  unfolding out_at weigh
  empty_out b x e q = rw (e, q)

  -- nor is there where the tag is free
  pub free_out : (b : Bool) (x : Site) → T (tag_free x t) → out_at t b x ≡ 0
  unfolding out_at tag_free
  free_out b x u =
      let v : T (none_of (waits_under t) x.stalls x.waiting) = and_l (none_of (waits_under t) x.stalls x.waiting) _ u in
      let w : T (none_of (pends_under t) x.pends x.entries) = and_r (none_of (waits_under t) x.stalls x.waiting) _ u in
      omega (
        arith,
        none_out (waits_under t) (waits_as t b) x.stalls x.waiting v (λ w. and_l (waits_under t w) _),
        none_out (pends_under t) (pends_as t b) x.pends x.entries w (λ e. and_l (pends_under t e) _),
      )

-- OF A SOUND STATE

module _ (s : System) (h : Sound s) (i t : ℕ) where
  -- at what is no site of the system nothing is outstanding
  past_out : s.sizes.sites ≤ i → (b : Bool) → outstanding i t b s ≡ 0
  unfolding outstanding
  past_out l b =
      by_test (ltb i 4)
      (λ u. let v = vacant s h i (ltb→lt i 4 u) l in empty_out t b (site_at s i) v.stalls v.pends)
      (λ u. let m : 4 ≤ i = nltb→le i 4 u in
      empty_out t b (site_at s i) (ap (λ (x : Stalls). x.count) (get_or-eq_default s.stalls past_stalls (omega (arith, m, h.four.stalls))))
      (ap (λ (x : Pends). x.count) (get_or-eq_default s.pends past_pends (omega (arith, m, h.four.pends)))))

  -- where the sites are idle nothing is outstanding
  pub none_left : Idle s → (b : Bool) → outstanding i t b s ≡ 0
  unfolding outstanding
  none_left e b =
      by_test (ltb i s.sizes.sites) (λ u. let q = e i (ltb→lt i s.sizes.sites u) in empty_out t b (site_at s i) q.1 q.0)
      (λ u. past_out (nltb→le i s.sizes.sites u) b)

-- WHAT A STEP SHOWS: AT MOST ONE ISSUE AND AT MOST ONE ANSWER

-- an issue is accepted only where nothing is outstanding
pub data Issuing (i t : ℕ) (s : System) : List Event → Type 0 where
  no_issue : Issuing i t s []
  one_issue : (b : Bool) → ((c : Bool) → outstanding i t c s ≡ 0) → Issuing i t s (issued b ∷ [])

pub data Answering : List Event → Type 0 where
  no_answer : Answering []
  one_answer : (b : Bool) → Answering (answered b ∷ [])

module _ (i t : ℕ) where
  pub answering : (a : Answer) → Answering (answer_seen i t a)
  unfolding answer_seen
  answering Nothing = no_answer
  answering (Loaded j u v) = by_cond Answering (eqb j i && eqb u t) _ _ (λ v. one_answer true) (λ v. no_answer)
  answering (Acknowledged j u) = by_cond Answering (eqb j i && eqb u t) _ _ (λ v. one_answer false) (λ v. no_answer)

  admitted : (s : System) (j u : ℕ) (n : Instruction) → Admitted s j u n → Issuing i t s (here i t j u (issued (eqb (kind_of n) loadl)))
  unfolding outstanding
  admitted s j u n d =
      by_cond (Issuing i t s) (eqb j i && eqb u t) _ _
      (λ v. let e : j ≡ i = eqb→eq j i (and_l (eqb j i) _ v) in
      let q : u ≡ t = eqb→eq u t (and_r (eqb j i) _ v) in
      one_issue (eqb (kind_of n) loadl) (λ c. free_out t c (site_at s i) (rw (e, q) at d.tag)))
      (λ v. no_issue)

  pub issuing : (s : System) (x : Step) (r : After) → Stepping s x r → Issuing i t s (issue_in i t x r.outcome)
  unfolding issue_seen
  issuing s x r (refusing y q) = no_issue
  issuing s x r (fenced j u n d k) = admitted s j u n d
  issuing s x r (stalling j u n d k l w) = admitted s j u n d
  issuing s x r (handling j u n d k a v w) = admitted s j u n d
  issuing s x r (resuming j l k a v w) = no_issue
  issuing s x r (sending j l k) = no_issue
  issuing s x r (arriving p l) = no_issue
  issuing s x r (serving l) = no_issue
  issuing s x r (returning l) = no_issue
  issuing s x r (reaching p l) = no_issue
  issuing s x r (tooking j l k) = no_issue
