-- The room that every line has.
use Rattle.std.specs.Prelude.{ℕ}

-- no line takes more bytes: with twenty digits for every number that of sizes would take 160
abbrev pub most_line : ℕ
most_line = 192
