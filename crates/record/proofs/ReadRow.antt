-- What a row that was read says: the numbers behind an instruction's number, and the six sizes.
use mathlib.Core.Path.{◌≡◌, refl, sym}
use mathlib.Core.List.{List}
use mathlib.Core.Bool.{false}
use Prim.Native.Nat.{ℕ, zero, suc, ◌≤◌}
use native.Mathlib.Omega.{arith}
use lib.Dec.{eqb}
use Rattle.model.specs.declared.Refusal.TheVariants.{SizeOutside}
use Rattle.model.specs.Kinds.{storel, reconcile}
use Rattle.model.specs.Record.{numbers, instruction_of, issue_from, sized_by, sizes_from}
use Rattle.codes.specs.Capped.{capped}
use Rattle.codes.proofs.Cut.{cut_alike}
use Rattle.std.specs.Prelude.{Result, Ok, Err}
use Rattle.numbers.specs.declared.Fault.{Fault}
use Rattle.record.specs.Rows.{issue_of, read_as}

-- AN ISSUE

-- a second operand that the instruction does not have does not count
pub one_operand : (k a b c : ℕ) → eqb k storel ≡ false → k ≤ reconcile → instruction_of k a b ≡ instruction_of k a c
unfolding instruction_of
one_operand zero a b c n l = refl
one_operand (suc zero) a b c n l = cc
one_operand (suc (suc zero)) a b c n l = refl
one_operand (suc (suc (suc zero))) a b c n l = refl
one_operand (suc (suc (suc (suc k)))) a b c n l = absurd (omega (arith, l))

-- numbers that were read make the issue that the definition makes of them
pub issue_read : (i k : ℕ) (r : Result (List ℕ × ℕ) Fault) → issue_of i k r ≡ issue_from i k (read_as r)
unfolding issue_from
issue_read i k (Ok (vs, past)) = refl
issue_read i k (Err fault) = refl

-- SIZES

pub sizes_read : (ns : List ℕ) (past : ℕ) → sizes_from (numbers ns past) ≡ sized_by (capped ns) past
unfolding sizes_from
sizes_read ns past = sym (cut_alike ns (λ z. sized_by z past) (Err SizeOutside) (λ z out. rw out))
