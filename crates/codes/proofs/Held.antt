-- What a row of numbers holds.
use mathlib.Core.Path.{◌≡◌, refl}
use mathlib.Core.List.{List, [], ◌∷◌}
use Prim.Native.Nat.{ℕ, ◌≤◌}
use native.Mathlib.Omega.{arith}
use lib.ListN.{length, take}
use Rattle.codes.specs.Padded.{padded}

-- the row's numbers up to its count are the list
pub row_holds_lem : (ns : List ℕ) → length ns ≤ 6 → take (length ns) (padded ns) ≡ ns
row_holds_lem [] l = refl
row_holds_lem (a ∷ []) l = refl
row_holds_lem (a ∷ b ∷ []) l = refl
row_holds_lem (a ∷ b ∷ c ∷ []) l = refl
row_holds_lem (a ∷ b ∷ c ∷ d ∷ []) l = refl
row_holds_lem (a ∷ b ∷ c ∷ d ∷ e ∷ []) l = refl
row_holds_lem (a ∷ b ∷ c ∷ d ∷ e ∷ f ∷ []) l = refl
row_holds_lem (a ∷ b ∷ c ∷ d ∷ e ∷ f ∷ g ∷ ns) l = absurd (omega (arith, l))
