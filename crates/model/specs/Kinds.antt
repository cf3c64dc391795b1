-- Steps 9, Parts 9b: each kind as a number, for messages, instructions and pend entries.
use Rattle.std.specs.Prelude.{ℕ}

-- Handling 3b: asks for a line. Requests are 0 and 1 (Parts 10a)
abbrev pub fetch : ℕ
fetch = 0

-- Handling 8c: brings a line to memory
abbrev pub write_back : ℕ
write_back = 1

-- Serve 1: brings a line to a site. Replies are 2 and 3 (Parts 10b)
abbrev pub fetch_reply : ℕ
fetch_reply = 2

-- Serve 2b: says that a write-back was served
abbrev pub acknowledgement : ℕ
acknowledgement = 3

-- Steps 9: reads a word
abbrev pub loadl : ℕ
loadl = 0

-- Steps 9: writes a word
abbrev pub storel : ℕ
storel = 1

-- Steps 9: brings a word that was written to memory
abbrev pub commit : ℕ
commit = 2

-- Steps 9: gives up a Clean word, which may be old
abbrev pub reconcile : ℕ
reconcile = 3

-- Steps 9, Issue 2b: fences are 4 to 7; this one and the next are kept back by a Loadl
abbrev pub fence_rr : ℕ
fence_rr = 4

-- Steps 9, Issue 2b
abbrev pub fence_rw : ℕ
fence_rw = 5

-- Steps 9, Issue 4: this one and the next are kept back by a Commit
abbrev pub fence_wr : ℕ
fence_wr = 6

-- Steps 9, Issue 4
abbrev pub fence_ww : ℕ
fence_ww = 7

-- Take 6, 9b: the kind of a pend entry that no instruction asked for
abbrev pub voluntary : ℕ
voluntary = 4
