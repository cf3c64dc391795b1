-- The names of the steps: how long they are, and that steps of different kinds have different names.
use mathlib.Core.Path.{◌≡◌, refl, ap, sym, ◌∙◌}
use mathlib.Core.List.{List}
use mathlib.Core.Bool.{cond}
use Prim.Native.Nat.{ℕ, ◌≤◌}
use native.Mathlib.Omega.{arith}
use lib.Dec.{eqb}
use lib.ListN.{length, get_or}
use Rattle.model.specs.declared.Step.{Step}
use Rattle.model.specs.declared.Step.TheVariants.{Issue, Retry, Send, ArriveMemory, Serve, SendBack, ArriveSite, Take}
use Rattle.model.specs.Record.{numbers_of}
use Rattle.model.specs.Replay.{text, name_of}

pub name_most : (x : Step) → length (name_of x) ≤ 13
unfolding name_of text
name_most (Issue i t n) = omega arith
name_most (Retry i) = omega arith
name_most (Send i) = omega arith
name_most (ArriveMemory p) = omega arith
name_most Serve = omega arith
name_most SendBack = omega arith
name_most (ArriveSite p) = omega arith
name_most (Take i) = omega arith

-- the number of a step
abbrev pub kind : Step → ℕ
kind x = get_or (numbers_of x) 0 0

-- a name's length and first letter tell the number: i is 105, r 114, s 115
abbrev named : List ℕ → ℕ
named bs =
    cond (eqb (length bs) 4) (cond (eqb (get_or bs 0 0) 115) 2 7)
    (cond (eqb (length bs) 5) (cond (eqb (get_or bs 0 0) 105) 0 (cond (eqb (get_or bs 0 0) 114) 1 4))
    (cond (eqb (length bs) 13) 3 (cond (eqb (length bs) 9) 5 6)))

name_kind : (x : Step) → named (name_of x) ≡ kind x
unfolding name_of text numbers_of
name_kind (Issue i t n) = refl
name_kind (Retry i) = refl
name_kind (Send i) = refl
name_kind (ArriveMemory p) = refl
name_kind Serve = refl
name_kind SendBack = refl
name_kind (ArriveSite p) = refl
name_kind (Take i) = refl

pub name_once : (x y : Step) → name_of x ≡ name_of y → kind x ≡ kind y
name_once x y e = sym (name_kind x) ∙ ap named e ∙ name_kind y
