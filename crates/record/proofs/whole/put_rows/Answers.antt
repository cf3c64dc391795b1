use mathlib.Core.Path.{ap, sym, ◌∙◌}
use Prim.Native.Nat.{◌≤◌}
use native.Mathlib.Omega.{arith}
use lib.ListN.{length, drop}
use Rattle.model.specs.Record.{step_bytes}
use Rattle.record.specs.Rows.{named_by_row, rows_bytes}
use Rattle.record.specs.Whole.{steps_in}
use Rattle.record.proofs.WholeTurns.{all_on, bytes_on, put_on}
use Rattle.record.proofs.whole.put_rows.Goals as goal

pub rows-preserved : goal.rows-preserved
rows-preserved c =
    let ns = c.rows.rest.now in
    let some = c.in-Some.ensures.cases in
    let six : 6 ≤ length ns = omega (arith, some.2) in
    let named = ap named_by_row (sym some.0) ∙ sym c.step_in.ensures ∙ c.in-Ok.is in
    let b = bytes_on ns six _ named c.rows.invariant.1 in
    let e = rw c.numbers_of.ensures at c.put_row-past.ensures in (
      c.put_row-past.auto.buf ∙ c.rows.invariant.0,
      rw some.1 (all_on ns six _ named c.rows.invariant.1),
      rw some.1
          (put_on (step_bytes c.in-Ok.x) (rows_bytes (steps_in (drop 6 ns))) c.rows.buf c.put_row-past.new.buf c.rows.past c.put_row-past.result e ∙
          rw b at c.rows.invariant.2),
    )
