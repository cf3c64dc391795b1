-- In a state whose parts fit, messages have names of their own, and are tested against entries by the table of names.
use mathlib.Core.Path.{◌≡◌, refl}
use mathlib.Core.List.{List, [], ◌∷◌}
use mathlib.Core.Bool.{Bool, true, ◌&&◌}
use Prim.Native.Nat.{ℕ, ◌<◌}
use native.Mathlib.Omega.{arith}
use lib.Dec.{T, ltb, eqb, ltb→lt, lt→ltb}
use lib.ListN.{take, replicate}
use Rattle.lists.specs.Places.{all_below, sum_below, count, each, all_of}
use Rattle.lists.proofs.Tests.{and_l, and_r, both}
use Rattle.lists.proofs.Places.{array-fits}
use Rattle.lists.proofs.Below.{below_same}
use Rattle.lists.proofs.Counts.{each_take}
use Rattle.model.specs.declared.Message.{Message}
use Rattle.model.specs.declared.Entry.{Entry}
use Rattle.model.specs.declared.System.{System}
use Rattle.model.specs.Parts.{site_at}
use Rattle.model.specs.Sound.{message_fits, free_entry, entry_fits, is_for, under_way, entries_at, exactly_one, messages_fit}
use Rattle.promises.proofs.Balance.{count_total}
use Rattle.promises.proofs.Sound.{Parts, the_limits, ready, ready-pends, all-good, all_sited}
use Rattle.promises.proofs.Room.{message_count, all_total}
use Rattle.sound.specs.Naming.{near_at, tallied, one_for}
use Rattle.sound.proofs.Once.{as_many}
use Rattle.sound.proofs.Table.{tallied_append, nameable, table_one}

-- the table of all messages, queue by queue
pub tallied_under_way : (s : System) (t : List ℕ) →
    tallied (take s.down.count s.down.items) (tallied (take s.served.count s.served.items) (tallied (take s.arrived.count s.arrived.items)
    (tallied (take s.up.count s.up.items) (tallied (all_of 4 (near_at s.outgoing s.incoming)) t)))) ≡ tallied (under_way s) t
unfolding under_way
tallied_under_way s t = rw (tallied_append, tallied_append, tallied_append, tallied_append)

-- tests that agree on what passes another
each_alike : {A : Type 0} (ok f g : A → Bool) → ((x : A) → T (ok x) → f x ≡ g x) → (xs : List A) → T (each ok xs) → each f xs ≡ each g xs
unfolding each
each_alike ok f g h [] t = refl
each_alike ok f g h (x ∷ xs) t = rw (h x (and_l (ok x) _ t), each_alike ok f g h xs (and_r (ok x) _ t))

module _ (s : System) (h : Parts s) where
  all_nameable : T (each nameable (under_way s))
  unfolding message_fits
  all_nameable = all-good s h nameable fine
    where
      fine : (side : ℕ → Bool) (m : Message) → T (message_fits s.sizes side m) → T (nameable m)
      fine side m t =
          let a : T (ltb m.site s.sizes.sites) = search (and_l, and_r) in
          let b : T (ltb m.line s.sizes.lines) = search (and_l, and_r) in
          both (ltb m.site 4) _ (lt→ltb m.site 4 (omega (arith, ltb→lt m.site s.sizes.sites a, (the_limits s h).sites_most)))
          (lt→ltb m.line 16 (omega (arith, ltb→lt m.line s.sizes.lines b, (the_limits s h).lines_most)))

  abbrev table : List ℕ
  table = tallied (under_way s) (replicate 128 0)

  by_table : all_below s.sizes.sites (λ i. each (one_for table i) (entries_at s i)) ≡ exactly_one s (under_way s)
  unfolding exactly_one entry_fits
  by_table =
      below_same s.sizes.sites (λ i. each (one_for table i) (entries_at s i)) (λ i. each (λ e. eqb (count (is_for i e) (under_way s)) 1) (entries_at s i)) at
    where
      line_below : (e : Entry) → T (entry_fits s.sizes e) → e.line < 16
      line_below e t =
          let a : T (ltb e.line s.sizes.lines) = search (and_l, and_r) depth 10 in
          omega (arith, ltb→lt e.line s.sizes.lines a, (the_limits s h).lines_most)

      at : (i : ℕ) → i < s.sizes.sites → each (one_for table i) (entries_at s i) ≡ each (λ e. eqb (count (is_for i e) (under_way s)) 1) (entries_at s i)
      at i l =
          let x = site_at s i in
          each_alike (entry_fits s.sizes) (one_for table i) (λ e. eqb (count (is_for i e) (under_way s)) 1)
          (λ e t. table_one i e (under_way s) (omega (arith, l, (the_limits s h).sites_most)) (line_below e t) all_nameable)
          (entries_at s i) (each_take (entry_fits s.sizes) free_entry x.pends x.entries (array-fits 5 (entry_fits s.sizes) free_entry x.pends x.entries (ready s h i l).own.entries))

  pub by_names : (all_below s.sizes.sites (λ i. each (one_for table i) (entries_at s i)) && eqb (message_count s) (sum_below s.sizes.sites (λ i. (site_at s i).pends))) ≡
      messages_fit s (under_way s)
  by_names =
      rw (by_table, ← all_total s h, ← count_total (λ m. true) s)
      (as_many s (λ i l. (ready s h i l).own.lines) (λ i l. ready-pends s.sizes i (site_at s i) (ready s h i l)) (under_way s) (all_sited s h))
