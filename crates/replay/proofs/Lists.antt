-- A line that is put stands behind the others, and one that is refused had no room; the first begins the listing.
use Rattle.std.proofs.Common.{◌≡◌, ℕ, ◌+◌, ◌<◌, ◌≤◌, inl, inr, List, ◌++◌, Ok, Err, Some, None, arith, length, take, refl, sym, ap, ◌∙◌, append_assoc}
use Rattle.std.specs.Result.{IsOk}
use lib.Seq.{sets}
use Rattle.std.proofs.lemmas.Bool.Decides.{leb_tells}
use Rattle.listing.proofs.Lined.{lined, not_lined}
use Rattle.listing.specs.Room.{most_line}
use Rattle.model.specs.Record.{Written, written, past_of, put_at, read_sizes}
use Rattle.model.specs.Results.{Wrote, sized}
use Rattle.model.specs.declared.Sizes.{Sizes}
use Rattle.model.specs.declared.Refusal.{Refusal}
use Rattle.model.specs.declared.Refusal.TheVariants.{BufferShort}
use Rattle.model.specs.Fresh.{blank}
use Rattle.model.specs.Replay.{sizes_line, record_line, listing}
use Rattle.replay.specs.declared.going.Going.{Going}
use Rattle.replay.specs.Going.{to_list}
use mathlib.Core.List.{append-nil}
use Rattle.numbers.specs.Groups.{put_to}
use Rattle.numbers.proofs.Grouped.{put_there}
use Rattle.words.proofs.Behind.{put_behind}

module _ (new buf after : List ℕ) (at : ℕ) (w : Wrote) (e : written w after ≡ put_at new buf at) where
  -- with the buffer after it, what a writer gives where the line has room
  put_whole : at + length new ≤ length buf → written w after ≡ written (Ok (at + length new)) (sets buf at new)
  put_whole room = e ∙ lined new buf at room

  -- and where it has none
  put_none : length buf < at + length new → written w after ≡ written (Err BufferShort) buf
  put_none past = e ∙ not_lined new buf at past

  -- it is no refusal where every line has room
  pub is_put : length new ≤ most_line → at + most_line ≤ length buf → IsOk w
  is_put short room = rw (ap (λ (x : Written). x.wrote) (put_whole (omega arith))) refl

  -- a line that is refused had no room, and the buffer is as it was
  pub refused : (why : Refusal) → w ≡ Err why → (length buf < at + length new) × (after ≡ buf)
  refused why q = elim (leb_tells (at + length new) (length buf)) [
    | inl p ↦ let f : w ≡ Ok (at + length new) = ap (λ (x : Written). x.wrote) (put_whole p.1) in cc
    | inr p ↦ (p.1, ap (λ (x : Written). x.buffer) (put_none p.1))
  ]

  module _ (end : ℕ) (q : w ≡ Ok end) where
    -- a line that is put had room
    had_room : at + length new ≤ length buf
    had_room = elim (leb_tells (at + length new) (length buf)) [
      | inl p ↦ p.1
      | inr p ↦ let f : w ≡ Err BufferShort = ap (λ (x : Written). x.wrote) (put_none p.1) in cc
    ]

    -- and ends behind its bytes
    ends : end ≡ at + length new
    ends = ap (λ (x : Written). past_of x.wrote) (ap (λ (x : Wrote). written x after) (sym q) ∙ put_whole had_room)

    -- the bytes up to its end are those before it, and the line
    pub stands : take end after ≡ take at buf ++ new
    stands =
        let b : after ≡ sets buf at new = ap (λ (x : Written). x.buffer) (put_whole had_room) in
        let f : put_to end after ≡ put_to (at + length new) (sets buf at new) = rw (ends, b) in
        (put_behind new buf after at end had_room (f ∙ sym (put_there new buf at had_room))).1

    -- with what is listed behind it they are what they were with all that was to be listed
    pub joined : (old rest all : List ℕ) → old ≡ new ++ rest → take at buf ++ old ≡ all → take end after ++ rest ≡ all
    joined old rest all f h = rw stands (append_assoc (take at buf) new rest ∙ ap (λ (t : List ℕ). take at buf ++ t) (sym f) ∙ h)

    -- they stay within the buffer
    pub within : end ≤ length buf
    within = omega (arith, ends, had_room)

-- behind the line of sizes is listed what a fresh system does
pub first_whole : (bs : List ℕ) (z : Sizes) (past : ℕ) (g : Going) → read_sizes bs ≡ sized z past → g.system ≡ blank z → g.at ≡ past → g.count ≡ 0 →
    sizes_line z ++ to_list bs (Some g) ≡ listing bs
unfolding listing
first_whole bs z past g r s a k = rw (r, listing, s, a, k)

-- of sizes that are refused the line is the listing
pub refused_whole : (bs : List ℕ) (why : Refusal) → read_sizes bs ≡ Err why → record_line why ++ to_list bs None ≡ listing bs
unfolding listing
refused_whole bs why r = rw (r, listing) (append-nil (record_line why))
