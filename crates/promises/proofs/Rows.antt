-- What can come of handling an instruction and of taking a reply: a case for each row of the rules, made once, with what its tests say.
use mathlib.Core.Path.{◌≡◌, refl}
use mathlib.Core.Bool.{Bool, true, false, not, ◌&&◌, ◌||◌}
use Prim.Native.Nat.{ℕ, zero, suc, ◌≤◌, ◌<◌}
use native.Mathlib.Omega.{arith}
use lib.Dec.{T, eqb, leb→le, nleb→lt, eqb→eq, not_T, T_not}
use lib.ListN.{get_or}
use Rattle.lists.proofs.Tests.{and_l, and_r, by_or, by_cond, not-not, ne_of, or_l, or_r}
use Rattle.model.specs.declared.Sizes.{Sizes}
use Rattle.model.specs.declared.Message.{Message}
use Rattle.model.specs.declared.Entry.{Entry}
use Rattle.model.specs.declared.Waiting.{Waiting}
use Rattle.model.specs.declared.Place.{Place}
use Rattle.model.specs.declared.Facts.{Facts}
use Rattle.model.specs.declared.Action.{Action}
use Rattle.model.specs.declared.Action.TheVariants.{Load, Store, Acknowledge, Drop, Fetch, WriteBackKept, WriteBackDropped, Wait}
use Rattle.model.specs.declared.Answer.TheVariants.{Nothing, Loaded, Acknowledged}
use Rattle.model.specs.Kinds.{loadl, storel, commit, reconcile}
use Rattle.model.specs.Parts.{Site}
use Rattle.model.specs.Sets.{holds}
use Rattle.model.specs.Handling.{all_clean, line_free, facts_of, missed, on_loadl, on_storel, absent, on_commit, on_reconcile, decided, Handled, answered, written}
use Rattle.model.specs.Take.{removed_entry, evicted, settled, caching, clean_place, taken}

-- AN INSTRUCTION w AT A SITE x

pub data Row (z : Sizes) (x : Site) (w : Waiting) (p : Place) : Action → Type 0 where
  load_hit : w.kind ≡ loadl → T (holds p w.line) → Row z x w p Load
  store_hit : w.kind ≡ storel → T (holds p w.line) → Row z x w p Store
  fetches : w.kind < commit → T (not (holds p w.line)) → x.pends < z.pend → T (line_free x w.line) → Row z x w p Fetch
  not-cached : commit ≤ w.kind → T (not (holds p w.line)) → T (line_free x w.line) → Row z x w p Acknowledge
  commit-clean : w.kind ≡ commit → T (holds p w.line) → T (not (get_or p.dirty w.word false)) → Row z x w p Acknowledge
  reconcile_dirty : w.kind ≡ reconcile → T (holds p w.line) → T (get_or p.dirty w.word false) → Row z x w p Acknowledge
  drops : w.kind ≡ reconcile → T (holds p w.line) → T (all_clean p.dirty) → Row z x w p Drop
  writes_kept : w.kind ≡ commit → T (holds p w.line) → T (get_or p.dirty w.word false) → x.pends < z.pend → Row z x w p WriteBackKept
  writes_dropped : w.kind ≡ reconcile → T (holds p w.line) → T (not (get_or p.dirty w.word false)) → T (not (all_clean p.dirty)) → x.pends < z.pend →
      Row z x w p WriteBackDropped
  waits_full : z.pend ≤ x.pends → Row z x w p Wait
  waits-pending : T (not (line_free x w.line)) → Row z x w p Wait

module _ (z : Sizes) (x : Site) (w : Waiting) (p : Place) where
  abbrev f : Facts
  f = facts_of z x w p

  abbrev R : Action → Type 0
  R a = Row z x w p a

  free : T (not (not (line_free x w.line))) → T (line_free x w.line)
  free t = not-not (line_free x w.line) t

  missed_row : w.kind < commit → T (not f.cached) → R (missed f)
  unfolding missed
  missed_row k c =
      by_cond R (f.full || f.pending) Wait Fetch
      (λ t. by_or f.full f.pending t (λ u. waits_full (leb→le z.pend x.pends u)) (λ u. waits-pending u))
      (λ t. fetches k c (nleb→lt z.pend x.pends (not_T f.full (λ u. T_not (f.full || f.pending) t (or_l f.full f.pending u))))
      (free (not_T f.pending (λ u. T_not (f.full || f.pending) t (or_r f.full f.pending u)))))

  absent_row : commit ≤ w.kind → T (not f.cached) → R (absent f)
  unfolding absent
  absent_row k c = by_cond R f.pending Wait Acknowledge (λ t. waits-pending t) (λ t. not-cached k c (free t))

  -- the marks count where the line is cached
  marked : (a b : Bool) → T a → T (not (a && b)) → T (not b)
  marked true b t u = u
  marked false b t u = absurd t

  commit_row : w.kind ≡ commit → R (on_commit f)
  unfolding on_commit
  commit_row k =
      by_cond R (not f.cached) (absent f) _ (λ t. absent_row (omega (arith, k)) t)
      (λ t. let c : T f.cached = not-not f.cached t in
      by_cond R (not f.dirty) Acknowledge _ (λ u. commit-clean k c (marked f.cached (get_or p.dirty w.word false) c u))
      (λ u. by_cond R f.full Wait WriteBackKept (λ v. waits_full (leb→le z.pend x.pends v))
      (λ v. writes_kept k c (and_r f.cached _ (not-not f.dirty u)) (nleb→lt z.pend x.pends v))))

  reconcile_row : w.kind ≡ reconcile → R (on_reconcile f)
  unfolding on_reconcile
  reconcile_row k =
      by_cond R (not f.cached) (absent f) _ (λ t. absent_row (omega (arith, k)) t)
      (λ t. let c : T f.cached = not-not f.cached t in
      by_cond R f.dirty Acknowledge _ (λ u. reconcile_dirty k c (and_r f.cached _ u))
      (λ u. by_cond R (not f.stained) Drop _
      (λ v. drops k c (not-not (all_clean p.dirty) (marked f.cached (not (all_clean p.dirty)) c v)))
      (λ v. by_cond R f.full Wait WriteBackDropped (λ q. waits_full (leb→le z.pend x.pends q))
      (λ q. writes_dropped k c (marked f.cached (get_or p.dirty w.word false) c u) (and_r f.cached _ (not-not f.stained v)) (nleb→lt z.pend x.pends q)))))

  pub row : w.kind < 4 → R (decided w.kind f)
  unfolding decided on_loadl on_storel
  row k =
      by_cond R (eqb w.kind loadl) _ _
      (λ t. let e : w.kind ≡ loadl = eqb→eq w.kind loadl t in by_cond R f.cached Load (missed f) (λ c. load_hit e c) (λ c. missed_row (omega (arith, e)) c))
      (λ t. by_cond R (eqb w.kind storel) _ _
      (λ u. let e : w.kind ≡ storel = eqb→eq w.kind storel u in by_cond R f.cached Store (missed f) (λ c. store_hit e c) (λ c. missed_row (omega (arith, e)) c))
      (λ u. by_cond R (eqb w.kind commit) _ _ (λ v. commit_row (eqb→eq w.kind commit v))
      (λ v. reconcile_row (last w.kind k (ne_of w.kind loadl t) (ne_of w.kind storel u) (ne_of w.kind commit v)))))
    where
      last : (n : ℕ) → n < 4 → (n ≡ 0 → ⊥) → (n ≡ 1 → ⊥) → (n ≡ 2 → ⊥) → n ≡ 3
      last zero l a b c = absurd (a refl)
      last (suc zero) l a b c = absurd (b refl)
      last (suc (suc zero)) l a b c = absurd (c refl)
      last (suc (suc (suc zero))) l a b c = refl
      last (suc (suc (suc (suc n)))) l a b c = absurd (omega (arith, l))

-- A REPLY m FOR THE ENTRY e, AT p OF SITE x

-- the line goes into the cache
pub data Settling (i : ℕ) (x : Site) (p : ℕ) (old : Place) : Site → Type 0 where
  removes : Settling i x p old (removed_entry x p)
  evicts : T old.used → T (not (all_clean old.dirty)) → Settling i x p old (evicted i x p old)

pub settling : (i : ℕ) (x : Site) (p : ℕ) (old : Place) → Settling i x p old (settled i x p old)
unfolding settled
settling i x p old =
    by_cond (λ (y : Site). Settling i x p old y) (old.used && not (all_clean old.dirty)) _ _
    (λ t. evicts (and_l old.used _ t) (and_r old.used _ t)) (λ t. removes)

pub data Taking (z : Sizes) (i : ℕ) (x : Site) (p : ℕ) (e : Entry) (m : Message) : Handled → Type 0 where
  loaded : e.kind ≡ loadl → Taking z i x p e m (answered (Loaded i e.tag (get_or m.values e.word 0)) (caching z i x p (clean_place e.line m.values)))
  stored : e.kind ≡ storel →
      Taking z i x p e m (answered (Acknowledged i e.tag) (caching z i x p (written (clean_place e.line m.values) e.word e.value)))
  committed : e.kind ≡ commit → Taking z i x p e m (answered (Acknowledged i e.tag) (caching z i x p (clean_place e.line e.values)))
  reconciled : e.kind ≡ reconcile → Taking z i x p e m (answered (Acknowledged i e.tag) (removed_entry x p))
  voluntarily : reconcile < e.kind → Taking z i x p e m (answered Nothing (removed_entry x p))

pub taking : (z : Sizes) (i : ℕ) (x : Site) (p : ℕ) (e : Entry) (m : Message) → Taking z i x p e m (taken z i x p e m)
unfolding taken
taking z i x p e m =
    by_cond K (eqb e.kind loadl) _ _ (λ t. loaded (eqb→eq e.kind loadl t))
    (λ t. by_cond K (eqb e.kind storel) _ _ (λ u. stored (eqb→eq e.kind storel u))
    (λ u. by_cond K (eqb e.kind commit) _ _ (λ v. committed (eqb→eq e.kind commit v))
    (λ v. by_cond K (eqb e.kind reconcile) _ _ (λ q. reconciled (eqb→eq e.kind reconcile q))
    (λ q. voluntarily (past e.kind (ne_of e.kind loadl t) (ne_of e.kind storel u) (ne_of e.kind commit v) (ne_of e.kind reconcile q))))))
  where
    K : Handled → Type 0
    K h = Taking z i x p e m h

    past : (n : ℕ) → (n ≡ 0 → ⊥) → (n ≡ 1 → ⊥) → (n ≡ 2 → ⊥) → (n ≡ 3 → ⊥) → 3 < n
    past zero a b c d = absurd (a refl)
    past (suc zero) a b c d = absurd (b refl)
    past (suc (suc zero)) a b c d = absurd (c refl)
    past (suc (suc (suc zero))) a b c d = absurd (d refl)
    past (suc (suc (suc (suc n)))) a b c d = omega arith
