use Rattle.std.proofs.Common.{◌≡◌, ℕ, ◌+◌, ◌-◌, List, ◌++◌, rules, length, take, drop, sym, ap, ◌∙◌, subst}
use Rattle.std.proofs.lemmas.List.{take_rest}
use Rattle.std.specs.Io.KnownBytes.{Appends}
use Rattle.std.proofs.KnownBytes.{Appends-trans}
use lib.Seq.{take-add}
use Rattle.streams.proofs.write_full.Goals as goal

further : (k n : ℕ) (bs : List ℕ) → take k bs ++ take n (take (length bs - k) (drop k bs)) ≡ take (k + n) bs
further k n bs = ap (λ l. take k bs ++ take n l) (take_rest bs k) ∙ sym (take-add k n bs)

pub loop-done-preserved : goal.loop-done-preserved
loop-done-preserved g c = (
  search rules,
  subst (Appends _ _) (further c.loop-done.done c.in_ok-put.put c.args.buf.now)
      (Appends-trans _ _ _ _ _ c.loop-done.invariant.1 c.in_ok-put.ensures.bytes),
)
