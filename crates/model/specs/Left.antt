-- Replay 2c: the two numbers behind `left`: instructions without an answer, and messages under way.
use Rattle.std.specs.Prelude.{not, ℕ, ◌+◌, eqb, length}
use Rattle.lists.specs.Places.{tally, sum_below}
use Rattle.model.specs.declared.Entry.{Entry}
use Rattle.model.specs.declared.System.{System}
use Rattle.model.specs.Kinds.{voluntary}
use Rattle.model.specs.Parts.{Site, site_at}
use Rattle.model.specs.Sound.{under_way}

-- Parts 11: at a site these are the stalled instructions and the pend entries that an instruction asked for
unfoldable pub outstanding_at : Site → ℕ
outstanding_at x = x.stalls + tally (λ (e : Entry). not (eqb e.kind voluntary)) x.pends x.entries

-- Replay 2c: the first number, over all sites
unfoldable pub outstanding_left : System → ℕ
outstanding_left s = sum_below s.sizes.sites (λ i. outstanding_at (site_at s i))

-- Replay 2c: the second number
abbrev pub messages_left : System → ℕ
messages_left s = length (under_way s)
