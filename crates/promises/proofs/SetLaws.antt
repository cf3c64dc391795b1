-- The laws of a cache set: where a line is, where one goes, what is left without one. A second way changes these alone.
use mathlib.Core.Path.{◌≡◌, sym, ◌∙◌, subst}
use mathlib.Core.Bool.{not, ◌&&◌}
use Prim.Native.Nat.{ℕ}
use lib.Dec.{T, ltb, eqb, eqb→eq, eqb_refl, not_T, T_not}
use Rattle.lists.specs.Places.{fits, array}
use Rattle.lists.proofs.Tests.{and_l, and_r, both, cond_T}
use Rattle.model.specs.declared.Sizes.{Sizes}
use Rattle.model.specs.declared.Place.{Place}
use Rattle.model.specs.declared.CacheSet.{CacheSet}
use Rattle.model.specs.Fresh.{no_set}
use Rattle.model.specs.Sets.{words_fit, marks_fit, holds, free_place, set_number, place_fits, set_fits, seat, has, displaced, placed, without, anew}

-- what a used place holds
pub record Full (z : Sizes) (k : ℕ) (p : Place) : Type 0 where
  pub set_ok : T (ltb k z.sets)
  pub line_ok : T (ltb p.line z.lines)
  pub home : T (eqb (set_number z p.line) k)
  pub words : T (words_fit z.words p.values)
  pub marks : T (marks_fit z.words p.dirty)

pub full_open : (z : Sizes) (k : ℕ) (p : Place) → T p.used → T (place_fits z k p) → Full z k p
unfolding place_fits
full_open z k p u t = let v = rw (cond_T p.used _ (free_place p) u) at t in search (and_l, and_r) depth 8

pub full_close : (z : Sizes) (k : ℕ) (p : Place) → T p.used → Full z k p → T (place_fits z k p)
unfolding place_fits
full_close z k p u f =
    rw (cond_T p.used (ltb k z.sets && ltb p.line z.lines && eqb (set_number z p.line) k && words_fit z.words p.values && marks_fit z.words p.dirty)
    (free_place p) u) (search both depth 8)

pub none-fits : (z : Sizes) (k : ℕ) → T (set_fits z k no_set)
unfolding set_fits place_fits free_place words_fit marks_fit array fits
none-fits z k = tt

module _ (z : Sizes) (k : ℕ) (t : CacheSet) (s : T (set_fits z k t)) where
  pub seat-fits : (L : ℕ) → T (place_fits z k (seat t L))
  unfolding set_fits seat
  seat-fits L = s

  pub displaced-fits : T (place_fits z k (displaced z t))
  unfolding set_fits displaced
  displaced-fits = s

  -- what is displaced was in the set
  pub displaced-has : T (displaced z t).used → T (has t (displaced z t).line)
  unfolding displaced seat
  displaced-has h = both t.low.used _ h (eqb_refl t.low.line)

  -- A LINE LEAVES

  pub without-fits : (L : ℕ) → T (set_fits z k (without t L))
  unfolding set_fits without place_fits free_place words_fit marks_fit array fits
  without-fits L = tt

  pub without-line : (L : ℕ) → T (not (has (without t L) L))
  unfolding without seat
  without-line L = tt

  pub without-others : (L M : ℕ) → T (not (has t M)) → T (not (has (without t L) M))
  unfolding without seat
  without-others L M h = tt

  -- A PLACE ANEW

  module _ (L : ℕ) (p : Place) (used : T p.used) (line : p.line ≡ L) where
    pub anew-fits : T (has t L) → T (place_fits z k p) → T (set_fits z k (anew t L p))
    unfolding set_fits anew
    anew-fits h f = f

    pub anew-others : (M : ℕ) → T (has t L) → T (not (has t M)) → T (not (has (anew t L p) M))
    unfolding anew seat
    anew-others M h n =
        not_T (holds p M) (λ u. T_not (has t M) n (subst (λ (y : ℕ). T (has t y)) (sym line ∙ eqb→eq p.line M (and_r p.used _ u)) h))

  -- A LINE COMES

  module _ (p : Place) where
    pub placed-fits : T p.used → T (place_fits z k p) → T (not (has t p.line)) → T (set_fits z k (placed z t p))
    unfolding set_fits placed
    placed-fits used f n = f

    pub placed-others : (M : ℕ) → T (not (has t M)) → T (not (holds p M)) → T (not (has (placed z t p) M))
    unfolding placed seat
    placed-others M n h = h

    -- the line displaced is gone
    pub placed_gone : (M : ℕ) → T (displaced z t).used → T (not (has (without t (displaced z t).line) M)) → T (not (holds p M)) → T (not (has (placed z t p) M))
    unfolding placed seat
    placed_gone M o n h = h
