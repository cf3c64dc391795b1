-- Covers 3 to 12: how large each size may be, and how an address names a word.
use Rattle.std.specs.Prelude.{Bool, ◌&&◌, ℕ, ◌*◌, ◌/◌, ◌%◌, leb}
use Rattle.model.specs.declared.Sizes.{Sizes}

-- Covers 4 to 9: the least of each size is 1
abbrev pub within : ℕ → ℕ → Bool
within most n = leb 1 n && leb n most

-- Covers 4 to 9: every one of the six sizes lies within its row of the table
unfoldable pub in_limits : Sizes → Bool
in_limits z =
    within 4 z.sites && within 4 z.words && within 16 z.lines && within 8 z.sets && within 5 z.pend && within 8 z.stall

-- Numbers 12: a fresh system takes the same sizes as a sound state does today
abbrev pub may_be_fresh : Sizes → Bool
may_be_fresh z = in_limits z

-- Drain 5, Covers 12: no drain takes more steps than this
abbrev pub most_drain : ℕ
most_drain = 656

-- Numbers 4: how many addresses there are; the last one is one less
abbrev pub addresses : Sizes → ℕ
addresses z = z.lines * z.words

-- Covers 11: the line of an address is the quotient by the words of a line
abbrev pub line_of : Sizes → ℕ → ℕ
line_of z a = a / z.words

-- Covers 11: the word within that line is the remainder
abbrev pub word_of : Sizes → ℕ → ℕ
word_of z a = a % z.words
