use Rattle.std.proofs.Common.{◌+◌, ◌++◌, Result, Ok, Err, OnErr, length, take, sym, subst, arith, ◌∙◌}
use Rattle.std.specs.Io.KnownBytes.{Appends}
use Rattle.std.proofs.KnownBytes.{Appends-trans}
use Rattle.replay.proofs.Parts.{next_part, some_of_part}
use Rattle.replay.proofs.print_listing.Goals as goal

on_err : {T E P : Type 0} (r : Result T E) → P → OnErr r P
on_err (Ok x) p = tt
on_err (Err e) p = p

pub returns-in_err-write_full-clause-err : goal.returns-in_err-write_full-clause-err
returns-in_err-write_full-clause-err g c =
    let (out, part, written, same) = c.parts.invariant in
    let (n, short, some) = c.in_err-write_full.ensures.err in
    let s = some_of_part c.args.bytes.now c.parts.buf out (c.parts.length, c.parts.rest) n part short in
    on_err c.from_residual.result (length out + n, s.0, subst (Appends _ _) (sym s.1) (Appends-trans _ _ _ _ _ written some))

pub parts-preserved : goal.parts-preserved
parts-preserved g c =
    let (out, part, written, same) = c.parts.invariant in (
      out ++ take c.parts.length c.parts.buf,
      next_part c.args.bytes.now c.parts.buf c.list_on.new.buf out c.parts.length c.in-Some.from c.list_on.result (rw c.in-Some.is at part)
          c.list_on.ensures.whole (omega (arith, c.list_on.ensures.within, c.list_on.auto.buf)),
      Appends-trans _ _ _ _ _ written c.in_ok-write_full.ensures.ok,
      c.list_on.auto.buf ∙ same,
    )
