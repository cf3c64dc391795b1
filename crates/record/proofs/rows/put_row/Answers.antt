use mathlib.Core.List.{flat_map}
use mathlib.Core.Path.{refl, ap, sym, ◌∙◌}
use Prim.Native.Nat.{ℕ, ◌+◌, ◌≤◌}
use native.Mathlib.Nat.{add-zero}
use native.Mathlib.Omega.{arith}
use lib.ListN.{get_or, length, take}
use lib.Seq.{take_all}
use Rattle.numbers.specs.Groups.{bytes_of, put_to}
use Rattle.model.specs.Record.{bytes_of_all}
use Rattle.record.proofs.RowTurns.{bytes_turn, bytes_less, put_turn}
use Rattle.record.proofs.rows.put_row.Goals as goal

pub loop-n-init : goal.loop-n-init
unfolding flat_map
loop-n-init c = (refl, ap (λ (m : ℕ). put_to m c.args.buf.now) (sym (add-zero c.args.at)))

pub loop-n-preserved : goal.loop-n-preserved
loop-n-preserved c =
    let ns = c.as_slice-n-items.result.now in
    let b = bytes_turn ns c.loop-n.n-index (omega arith) in
    let fits : c.args.at + length (bytes_of_all (take (c.loop-n.n-index + 1) ns)) ≤ length c.args.buf.now =
    omega (arith, c.requires, bytes_less ns (c.loop-n.n-index + 1) (length ns) (omega arith), ap (λ l. length (bytes_of_all l)) (take_all (length ns) ns (omega arith)), ap (λ l. length (bytes_of_all l)) c.as_slice-n-items.ensures.value) in (
      c.write_number-past.auto.buf ∙ c.loop-n.invariant.0,
      rw b
          (put_turn c.args.buf.now (bytes_of_all (take c.loop-n.n-index ns)) (bytes_of (get_or ns c.loop-n.n-index 0)) c.args.at
          c.loop-n.past c.loop-n.buf _ c.loop-n.invariant.1 c.write_number-past.ensures (rw b at fits)),
    )
