-- The parts of a listing: each that is written out goes on where the one before it ended, and together they are the listing.
use Rattle.std.proofs.Common.{◌≡◌, ℕ, ◌+◌, ◌≤◌, List, ◌++◌, Option, Some, arith, length, take, drop, length-append, append_assoc, refl, sym, ap, ◌∙◌, subst}
use lib.Seq.{take-add, take-append-le, take_at, drop_at}
use Rattle.model.specs.Replay.{listing}
use Rattle.replay.specs.declared.going.Going.{Going}
use Rattle.replay.specs.Going.{to_list, in_all}

-- what was written out, what stands in the buffer, and what is still to be listed
pub record Part (bs buf out : List ℕ) (l : ℕ × Option Going) : Type 0 where
  pub whole : out ++ in_all bs buf l ≡ listing bs
  pub within : l.0 ≤ length buf

-- the next one, when this one was written out
pub next_part : (bs buf after out : List ℕ) (used : ℕ) (from : Going) (l : ℕ × Option Going) → Part bs buf out (used, Some from) →
    in_all bs after l ≡ to_list bs (Some from) → l.0 ≤ length after → Part bs after (out ++ take used buf) l
next_part bs buf after out used from l p e w =
    record {
      whole = ap (λ (t : List ℕ). out ++ take used buf ++ t) e ∙ append_assoc out (take used buf) (to_list bs (Some from)) ∙ p.whole;
      within = w;
    }

-- with some bytes of a part, what was written out is a start of the listing
pub some_of_part : (bs buf out : List ℕ) (l : ℕ × Option Going) (n : ℕ) → Part bs buf out l → n ≤ length (take l.0 buf) →
    (length out + n ≤ length (listing bs)) × (take (length out + n) (listing bs) ≡ out ++ take n (take l.0 buf))
some_of_part bs buf out l n p h =
    let part : List ℕ = take l.0 buf in
    let rest : List ℕ = to_list bs l.1 in (
      subst (λ (t : List ℕ). length out + n ≤ length t) p.whole (rw (length-append out (part ++ rest), length-append part rest) (omega (arith, h))),
      ap (take (length out + n)) (sym p.whole) ∙ take-add (length out) n (out ++ (part ++ rest)) ∙
          ap (λ (t : List ℕ). t ++ take n (drop (length out) (out ++ (part ++ rest)))) (take_at out (part ++ rest) (length out) refl) ∙
          ap (λ (t : List ℕ). out ++ take n t) (drop_at out (part ++ rest) (length out) refl) ∙
          ap (λ (t : List ℕ). out ++ t) (take-append-le n part rest h),
    )
