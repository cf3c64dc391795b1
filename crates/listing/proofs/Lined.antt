-- A line, written whole or not at all.
use mathlib.Core.Path.{◌≡◌}
use mathlib.Core.List.{List}
use Prim.Native.Nat.{ℕ, ◌+◌, ◌≤◌, ◌<◌}
use lib.ListN.{length, take, length-append}
use lib.Seq.{sets, length-take-le}
use borrow.Author.Tests.{le-leb, lt-leb}
use Rattle.model.specs.declared.Refusal.TheVariants.{BufferShort}
use Rattle.model.specs.Record.{written, put_at}
use Rattle.numbers.proofs.Grouped.{put_there}
use Rattle.words.proofs.Behind.{take_sets}
use Rattle.std.specs.Prelude.{Ok, Err}

-- a line that has room is put whole
pub lined : (new buf : List ℕ) (at : ℕ) → at + length new ≤ length buf → put_at new buf at ≡ written (Ok (at + length new)) (sets buf at new)
unfolding put_at
lined new buf at room = rw (le-leb (at + length new) (length buf) room)

-- and else not at all
pub not_lined : (new buf : List ℕ) (at : ℕ) → length buf < at + length new → put_at new buf at ≡ written (Err BufferShort) buf
unfolding put_at
not_lined new buf at short = rw (lt-leb (at + length new) (length buf) short)

-- so it is written as the writer of texts writes it
pub ruleset whole_line = (lined, not_lined, put_there)

-- a line with one more piece, where it has room for it: it ends in its room, what stands there, and how long it is
pub ruleset growing = (put_there, take_sets, length-append, length-take-le)
