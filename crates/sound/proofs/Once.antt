-- Where every entry has its one message, no message is without an entry
-- if and only if there are as many messages as entries.
use mathlib.Core.Path.{◌≡◌, refl, sym, ◌∙◌, subst}
use mathlib.Core.List.{List, [], ◌∷◌}
use mathlib.Core.Bool.{Bool, true, not, ◌&&◌}
use Prim.Native.Nat.{ℕ, ◌+◌, ◌≤◌, ◌<◌}
use native.Mathlib.Omega.{arith}
use lib.Dec.{T, ltb, eqb, eqb→eq, eqb_refl, ltb→lt, nltb→le, not_T, T_not}
use lib.ListN.{length}
use Rattle.lists.specs.Places.{ind, weigh, tally, unlike, sum_below, count, each, some}
use Rattle.lists.proofs.Tests.{and_l, and_r, both, by_test, ind_T, ind_F, same_test}
use Rattle.lists.proofs.Places.{weigh_zero, weigh_both, weigh_alike, tally-all}
use Rattle.lists.proofs.Unlike.{unlike-most}
use Rattle.lists.proofs.Below.{below_at, sum_same, sum_both, sum_at, sum_most, sum_less, once_below}
use Rattle.lists.proofs.Counts.{count-take, some-count, count-some, take-each, each_full, full_each}
use Rattle.model.specs.declared.Message.{Message}
use Rattle.model.specs.declared.Entry.{Entry}
use Rattle.model.specs.declared.System.{System}
use Rattle.model.specs.Parts.{site_at}
use Rattle.model.specs.Sound.{is_for, same_line, entries_at, exactly_one, no_others, messages_fit}

-- MESSAGES AND ENTRIES COUNTED TWICE

module _ (s : System) (differ : (i : ℕ) → i < s.sizes.sites → T (unlike same_line (site_at s i).pends (site_at s i).entries))
    (most : (i : ℕ) → i < s.sizes.sites → (site_at s i).pends ≤ length (site_at s i).entries) where
  abbrev waited : Message → Bool
  waited m = some (λ e. is_for m.site e m) (entries_at s m.site)

  -- how many entries of site i wait for the message
  abbrev waiting : Message → ℕ → ℕ
  waiting m i = tally (λ e. is_for i e m) (site_at s i).pends (site_at s i).entries

  waiting-some : (m : Message) → 0 < waiting m m.site → T (waited m)
  waiting-some m h =
      some-count (λ e. is_for m.site e m) (entries_at s m.site)
      (omega (arith, h, count-take (λ e. is_for m.site e m) (site_at s m.site).pends (site_at s m.site).entries))

  some-waiting : (m : Message) → T (waited m) → 0 < waiting m m.site
  some-waiting m t =
      omega (
        arith,
        count-some (λ e. is_for m.site e m) (entries_at s m.site) t,
        count-take (λ e. is_for m.site e m) (site_at s m.site).pends (site_at s m.site).entries,
      )

  -- no entry of another site
  waiting_other : (m : Message) (i : ℕ) → T (not (eqb m.site i)) → waiting m i ≡ 0
  waiting_other m i t =
      weigh_zero (λ (e : Entry). ind (is_for i e m))
      (λ e. ind_F (is_for i e m) (not_T (is_for i e m) (λ u. T_not (eqb m.site i) t (and_l (eqb m.site i) _ u))))
      (site_at s i).pends (site_at s i).entries

  -- one of its own site at most
  waiting-most : (m : Message) (i : ℕ) → i < s.sizes.sites → waiting m i ≤ ind (eqb m.site i)
  waiting-most m i l =
      by_test (eqb m.site i)
      (λ t. omega (
        arith,
        ind_T (eqb m.site i) t,
        unlike-most same_line (λ e. is_for i e m) same_line_lem (site_at s i).pends (site_at s i).entries (differ i l),
      ))
      (λ t. omega (arith, waiting_other m i t))
    where
      same_line_lem : (x y : Entry) → T (is_for i x m) → T (is_for i y m) → T (same_line x y)
      same_line_lem x y t u =
          let a : m.line ≡ x.line = eqb→eq m.line x.line (and_l (eqb m.line x.line) _ (and_r (eqb m.site i) _ t)) in
          subst (λ (k : ℕ). T (eqb k y.line)) a (and_l (eqb m.line y.line) _ (and_r (eqb m.site i) _ u))

  -- all entries that wait for a message: one, or none
  waiting-all : (m : Message) → m.site < s.sizes.sites → sum_below s.sizes.sites (waiting m) ≡ ind (waited m)
  waiting-all m l =
      by_test (waited m)
      (λ t. omega (
        arith,
        ind_T (waited m) t,
        some-waiting m t,
        sum_at s.sizes.sites (waiting m) m.site l,
        sum_less s.sizes.sites (waiting m) (λ i. ind (eqb m.site i)) (waiting-most m),
        once_below s.sizes.sites m.site,
      ))
      (λ t. omega (arith, ind_F (waited m) t, sum_most s.sizes.sites 0 (waiting m) (λ i k. none i t)))
    where
      none : (i : ℕ) → T (not (waited m)) → waiting m i ≤ 0
      none i t =
          by_test (eqb m.site i)
          (λ u. let e : m.site ≡ i = eqb→eq m.site i u in
          by_test (ltb 0 (waiting m m.site))
          (λ v. absurd (T_not (waited m) t (waiting-some m (ltb→lt 0 (waiting m m.site) v))))
          (λ v. subst (λ (k : ℕ). waiting m k ≤ 0) e (nltb→le 0 (waiting m m.site) v)))
          (λ u. omega (arith, waiting_other m i u))

  -- how many messages an entry has, over the entries of site i
  abbrev answers : List Message → ℕ → ℕ
  answers ms i = weigh (λ e. count (is_for i e) ms) (site_at s i).pends (site_at s i).entries

  twice : (ms : List Message) → T (each (λ m. ltb m.site s.sizes.sites) ms) → sum_below s.sizes.sites (answers ms) ≡ count waited ms
  unfolding count each
  twice [] t = sum_none
    where
      sum_none : sum_below s.sizes.sites (answers []) ≡ 0
      sum_none =
          omega (
            arith,
            sum_most s.sizes.sites 0 (answers []) (λ i l. omega (arith, weigh_zero (λ (e : Entry). 0) (λ e. refl) (site_at s i).pends (site_at s i).entries)),
          )
  twice (m ∷ ms) t =
      omega (
        arith,
        twice ms (and_r (ltb m.site s.sizes.sites) _ t),
        waiting-all m (ltb→lt m.site s.sizes.sites (and_l (ltb m.site s.sizes.sites) _ t)),
        sum_both s.sizes.sites (waiting m) (answers ms),
        sum_same s.sizes.sites (λ i. waiting m i + answers ms i) (answers (m ∷ ms))
            (λ i l. weigh_both (λ e. count (is_for i e) (m ∷ ms)) (λ e. ind (is_for i e m)) (λ e. count (is_for i e) ms) (λ e. refl) (site_at s i).pends (site_at s i).entries),
      )

  -- with exactly one message for each entry
  as_entries : (ms : List Message) → T (each (λ m. ltb m.site s.sizes.sites) ms) → T (exactly_one s ms) → count waited ms ≡ sum_below s.sizes.sites (λ i. (site_at s i).pends)
  unfolding exactly_one
  as_entries ms t one =
      sym (twice ms t) ∙ sum_same s.sizes.sites (λ i. (site_at s i).pends) (answers ms) each_one
    where
      each_one : (i : ℕ) → i < s.sizes.sites → answers ms i ≡ (site_at s i).pends
      each_one i l =
          let u = take-each (λ e. eqb (count (is_for i e) ms) 1) (site_at s i).pends (site_at s i).entries (most i l)
          (below_at s.sizes.sites (λ i. each (λ e. eqb (count (is_for i e) ms) 1) (entries_at s i)) one i l) in
          weigh_alike (λ e. eqb (count (is_for i e) ms) 1) (λ e. true) (λ e. count (is_for i e) ms) (λ e. ind (eqb (count (is_for i e) ms) 1))
          (λ e v. eqb→eq (count (is_for i e) ms) 1 v ∙ sym (ind_T (eqb (count (is_for i e) ms) 1) v)) (site_at s i).pends (site_at s i).entries u ∙
          tally-all (λ e. eqb (count (is_for i e) ms) 1) (site_at s i).pends (site_at s i).entries u

  pub as_many : (ms : List Message) → T (each (λ m. ltb m.site s.sizes.sites) ms) →
      (exactly_one s ms && eqb (count (λ m. true) ms) (sum_below s.sizes.sites (λ i. (site_at s i).pends))) ≡ messages_fit s ms
  unfolding messages_fit no_others
  as_many ms t = same_test (exactly_one s ms && eqb (count (λ m. true) ms) entries) (exactly_one s ms && each waited ms) closed opened
    where
      entries : ℕ
      entries = sum_below s.sizes.sites (λ i. (site_at s i).pends)

      closed : T (exactly_one s ms && eqb (count (λ m. true) ms) entries) → T (exactly_one s ms && each waited ms)
      closed u =
          let one : T (exactly_one s ms) = and_l (exactly_one s ms) _ u in
          both (exactly_one s ms) _ one
          (each_full waited ms (as_entries ms t one ∙ sym (eqb→eq (count (λ m. true) ms) entries (and_r (exactly_one s ms) _ u))))

      opened : T (exactly_one s ms && each waited ms) → T (exactly_one s ms && eqb (count (λ m. true) ms) entries)
      opened u =
          let one : T (exactly_one s ms) = and_l (exactly_one s ms) _ u in
          let e : count (λ m. true) ms ≡ entries = sym (full_each waited ms (and_r (exactly_one s ms) _ u)) ∙ as_entries ms t one in
          both (exactly_one s ms) _ one (rw e (eqb_refl entries))
