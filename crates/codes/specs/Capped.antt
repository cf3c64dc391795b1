-- Six numbers as sizes.
use Rattle.std.specs.Prelude.{List, ℕ, min, get_or}
use Rattle.model.specs.declared.Sizes.{Sizes}

-- Numbers 12: each 255 at most: that is past every limit, and so is every number that is cut
abbrev pub capped : List ℕ → Sizes
capped vs = record {
  sites = min (get_or vs 0 0) 255;
  words = min (get_or vs 1 0) 255;
  lines = min (get_or vs 2 0) 255;
  sets = min (get_or vs 3 0) 255;
  pend = min (get_or vs 4 0) 255;
  stall = min (get_or vs 5 0) 255;
}
