-- How far a listing is.
use Rattle.std.specs.Prelude.{List, [], ◌++◌, ℕ, suc, ◌+◌, ◌-◌, ◌<◌, ◌≤◌, length, take, Option, Some, None, IfSome, Ok, Err}
use Rattle.model.specs.declared.System.{System}
use Rattle.model.specs.Results.{ReadStep}
use Rattle.model.specs.Replay.{left_of, record_line, listed_at}
use Rattle.replay.specs.declared.going.Going.{Going}

-- the line behind the last step: what is left where the reader gave no fault, or the fault
unfoldable pub last_line : ReadStep → System → List ℕ
last_line (Ok read) s = left_of s
last_line (Err why) s = record_line why

-- what is still to be listed
abbrev pub to_list : List ℕ → Option Going → List ℕ
to_list bs None = []
to_list bs (Some g) = listed_at bs g.at (g.count + 1) g.system

-- what stands in the buffer, in so many bytes, and behind it what is still to be listed
abbrev pub in_all : List ℕ → List ℕ → ℕ × Option Going → List ℕ
in_all bs buf l = take l.0 buf ++ to_list bs l.1

-- how many parts may come yet
abbrev pub parts_left : List ℕ → Option Going → ℕ
parts_left bs None = 0
parts_left bs (Some g) = suc (length bs - g.at)

-- it went on: the last line was put, or some step's, so that the next is read farther on, within the record
abbrev pub Further : List ℕ → Going → Option Going → Type 0
Further bs from rest = IfSome rest (λ g. (from.at < g.at) × (g.at ≤ length bs))
