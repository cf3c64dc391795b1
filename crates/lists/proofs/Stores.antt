-- A run of stores in two parts.
use mathlib.Core.Path.{◌≡◌}
use mathlib.Core.List.{List, [], ◌∷◌, ◌++◌}
use Prim.Native.Nat.{ℕ, suc, ◌+◌}
use native.Mathlib.Nat.{add-zero}
use native.Mathlib.Omega.{arith}
use lib.ListN.{length, set}
use lib.Seq.{sets}

pub sets_append : {A : Type 0} (a b l : List A) (i : ℕ) → sets l i (a ++ b) ≡ sets (sets l i a) (i + length a) b
sets_append [] b l i = rw add-zero
sets_append (v ∷ a) b l i = let e : i + suc (length a) ≡ suc i + length a = omega arith in rw e (sets_append a b (set l i v) (suc i))
