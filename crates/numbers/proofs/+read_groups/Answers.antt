use native.Mathlib.Omega.{arith}
use borrow.Author.Tests.{le-leb, lt-leb}
use Rattle.numbers.proofs.Grouped.{above_most, read_above}
use Rattle.numbers.proofs.+read_groups.Goals as goal

pub returns-in_default : goal.returns-in_default
returns-in_default t c =
    λ g h.
    rw (
      read_above c.args.bytes.now c.args.at c.args.most c.args.first g _ c.if-bytes-at.false
          c.if-b-lt128.false (omega (arith, c.shared_slice_known-2-1.given c.args.at))
          c.if-most-lt128.false h c.read_groups.ensures,
      c.in_default.is,
    ) (grind arith)

pub overflow_mul-n : goal.overflow_mul-n
overflow_mul-n t c =
    let v = above_most c.args.bytes.now c.args.at c.args.most _ _ _ (omega arith) c.read_groups.ensures c.in-Ok.is in
    omega (arith, c.shared_slice_known-2-1.given c.args.at)

pub overflow_add-n : goal.overflow_add-n
overflow_add-n t c =
    let v = above_most c.args.bytes.now c.args.at c.args.most _ _ _ (omega arith) c.read_groups.ensures c.in-Ok.is in
    omega (arith, c.shared_slice_known-2-1.given c.args.at)

pub returns-then-most-n : goal.returns-then-most-n
returns-then-most-n t c =
    λ g h.
    rw (
      read_above c.args.bytes.now c.args.at c.args.most c.args.first g _
          c.if-bytes-at.false c.if-b-lt128.false
          (omega (arith, c.shared_slice_known-2-1.given c.args.at))
          c.if-most-lt128.false h c.read_groups.ensures,
      c.in-Ok.is,
      lt-leb _ _ c.if-most-n.true,
    )

pub returns : goal.returns
returns t c =
    λ g h.
    rw (
      read_above c.args.bytes.now c.args.at c.args.most c.args.first g _
          c.if-bytes-at.false c.if-b-lt128.false
          (omega (arith, c.shared_slice_known-2-1.given c.args.at))
          c.if-most-lt128.false h c.read_groups.ensures,
      c.in-Ok.is,
      le-leb _ _ c.if-most-n.false,
    )
