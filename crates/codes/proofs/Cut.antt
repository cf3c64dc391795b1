-- What is cut at 255 is within a limit exactly where it was.
use mathlib.Core.Path.{◌≡◌, ◌∙◌, ap, sym}
use mathlib.Core.List.{List}
use mathlib.Core.Bool.{false}
use Prim.Native.Nat.{ℕ, ◌≤◌, ◌<◌, min}
use native.Mathlib.Omega.{arith}
use lib.Dec.{T, leb, leb→le, le→leb}
use lib.ListN.{get_or}
use Rattle.lists.proofs.Tests.{and_l, and_r, same_test, both, by_test, F_false}
use Rattle.model.specs.declared.Sizes.{Sizes}
use Rattle.model.specs.Limits.{within, in_limits}
use Rattle.model.specs.Record.{sizes_of}
use Rattle.model.proofs.Limits.{limits}
use Rattle.codes.specs.Capped.{capped}

-- a limit below 255 tells a number from another no better than what is cut at 255
cut-within : (most n : ℕ) → most < 255 → within most (min n 255) ≡ within most n
cut-within most n l =
    same_test (within most (min n 255)) (within most n)
    (λ t. both (leb 1 n) (leb n most) (le→leb 1 n (omega (arith, low t))) (le→leb n most (omega (arith, high t))))
    (λ t. both (leb 1 (min n 255)) (leb (min n 255) most) (le→leb 1 (min n 255) (omega (arith, leb→le 1 n (and_l (leb 1 n) (leb n most) t))))
    (le→leb (min n 255) most (omega (arith, leb→le n most (and_r (leb 1 n) (leb n most) t)))))
  where
    low : T (within most (min n 255)) → 1 ≤ min n 255
    low t = leb→le 1 (min n 255) (and_l (leb 1 (min n 255)) (leb (min n 255) most) t)

    high : T (within most (min n 255)) → min n 255 ≤ most
    high t = leb→le (min n 255) most (and_r (leb 1 (min n 255)) (leb (min n 255) most) t)

module _ (ns : List ℕ) where
  limits_same : in_limits (capped ns) ≡ in_limits (sizes_of ns)
  unfolding in_limits
  limits_same =
      rw (
        cut-within 4 (get_or ns 0 0) (omega arith),
        cut-within 4 (get_or ns 1 0) (omega arith),
        cut-within 16 (get_or ns 2 0) (omega arith),
        cut-within 8 (get_or ns 3 0) (omega arith),
        cut-within 5 (get_or ns 4 0) (omega arith),
        cut-within 8 (get_or ns 5 0) (omega arith),
      )

  sizes_same : T (in_limits (sizes_of ns)) → capped ns ≡ sizes_of ns
  sizes_same t =
      let m = limits (sizes_of ns) t in
      rw (
        cut 4 0 (omega arith) m.sites_most,
        cut 4 1 (omega arith) m.words-most,
        cut 16 2 (omega arith) m.lines_most,
        cut 8 3 (omega arith) m.sets_most,
        cut 5 4 (omega arith) m.pend_most,
        cut 8 5 (omega arith) m.stall_most,
      )
    where
      cut : (most i : ℕ) → most < 255 → get_or ns i 0 ≤ most → min (get_or ns i 0) 255 ≡ get_or ns i 0
      cut most i l t = omega (arith, t)

  -- what tells sizes outside the limits no further does not tell sizes from what is cut
  pub cut_alike : {A : Type 0} (f : Sizes → A) (outside : A) → ((z : Sizes) → in_limits z ≡ false → f z ≡ outside) → f (capped ns) ≡ f (sizes_of ns)
  cut_alike f outside out =
      by_test (in_limits (sizes_of ns)) (λ t. ap f (sizes_same t))
      (λ t. let e = F_false (in_limits (sizes_of ns)) t in out (capped ns) (limits_same ∙ e) ∙ sym (out (sizes_of ns) e))
