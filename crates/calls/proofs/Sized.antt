-- Six numbers that are cut at 255 to be sizes give what the numbers themselves give.
use mathlib.Core.Path.{◌≡◌}
use mathlib.Core.List.{List, [], ◌∷◌}
use Prim.Native.Nat.{ℕ}
use Rattle.std.specs.Prelude.{Err}
use Rattle.model.specs.declared.Refusal.TheVariants.{SizeOutside}
use Rattle.model.specs.Fresh.{fresh_of, refused, blank, no_sizes}
use Rattle.model.specs.Record.{sizes_of, written, write_sizes}
use Rattle.codes.specs.Capped.{capped}
use Rattle.codes.proofs.Cut.{cut_alike}
use Rattle.record.specs.Whole.{write_whole}

module _ (sites words lines sets pend stall : ℕ) where
  -- the six, in the table's order
  abbrev six : List ℕ
  six = sites ∷ words ∷ lines ∷ sets ∷ pend ∷ stall ∷ []

  -- a fresh system
  pub fresh_alike : fresh_of (capped six) ≡ fresh_of (sizes_of six)
  unfolding fresh_of
  fresh_alike = cut_alike six fresh_of (refused SizeOutside (blank no_sizes)) (λ z out. rw out)

  -- the sizes written
  pub sizes_alike : (buf : List ℕ) → write_sizes (capped six) buf ≡ write_sizes (sizes_of six) buf
  unfolding write_sizes
  sizes_alike buf = cut_alike six (λ z. write_sizes z buf) (written (Err SizeOutside) buf) (λ z out. rw out)

  -- a whole record written
  pub whole_alike : (rows buf : List ℕ) → write_whole (capped six) rows buf ≡ write_whole (sizes_of six) rows buf
  unfolding write_whole
  whole_alike rows buf = cut_alike six (λ z. write_whole z rows buf) (written (Err SizeOutside) buf) (λ z out. rw out)
