-- Samples of the calls: each field that a call gives back, done and refused.
use Rattle.std.specs.Prelude.{List, [], ◌∷◌, ◌++◌, ℕ, replicate}
use Rattle.model.specs.Sampling.{done, value, ack, no, sizes_now, entries_of, waiting_of, outgoing_of, left_now}
use Rattle.calls.specs.Sampling.{CallAct, steps, drains, sound_is, shows, CallSample, CallRow, ◌∶◌, fresh, reads_sizes, reads_step, writes_sizes, writes_step}

-- six zeros: the sizes of a state of all 0, or what a refused reading leaves out
abbrev pub zeros : List ℕ
zeros = 0 ∷ 0 ∷ 0 ∷ 0 ∷ 0 ∷ 0 ∷ []

-- 10 with its place
abbrev pub none_such : ℕ → List ℕ
none_such place = 10 ∷ place ∷ 0 ∷ 0 ∷ 0 ∷ 0 ∷ []

-- A FRESH SYSTEM

-- a size above 255 is not cut to a byte: the call refuses it and leaves a state of all 0
abbrev pub fresh_refused : List CallAct
fresh_refused = shows sizes_now zeros ∷ sound_is 0 ∷ steps 4 0 0 0 0 0 (no 1) ∷ []

unfoldable pub fresh_rows : List CallRow
fresh_rows =
    "call-fresh-each-size-in-its-field" ∶ fresh 4 3 16 7 5 8 done (shows sizes_now (4 ∷ 3 ∷ 16 ∷ 7 ∷ 5 ∷ 8 ∷ []) ∷ sound_is 1 ∷ []) ∷
    "call-fresh-258-sites" ∶ fresh 258 3 16 7 5 8 (no 12) fresh_refused ∷
    "call-fresh-257-words" ∶ fresh 4 257 16 7 5 8 (no 12) fresh_refused ∷
    "call-fresh-65537-lines" ∶ fresh 4 3 65537 7 5 8 (no 12) fresh_refused ∷
    "call-fresh-largest-sets" ∶ fresh 4 3 16 4294967295 5 8 (no 12) fresh_refused ∷
    "call-fresh-259-pend-entries" ∶ fresh 4 3 16 7 259 8 (no 12) fresh_refused ∷
    "call-fresh-16777217-stall-entries" ∶ fresh 4 3 16 7 5 16777217 (no 12) fresh_refused ∷
    "call-fresh-256-sites" ∶ fresh 256 3 16 7 5 8 (no 12) fresh_refused ∷
    []

-- A STEP

-- a system of 3 sites, lines of 4 words, 12 lines, 3 sets, 4 pend entries, 2 stall entries
abbrev pub stepping : List CallAct → CallSample
stepping acts = fresh 3 4 12 3 4 2 done acts

unfoldable pub step_rows : List CallRow
step_rows =
    -- site, instruction, tag, first, second; a number that the step has no use for is not looked at
    "call-step-storel-in-its-fields" ∶ stepping (
    steps 0 2 1 31 22 777 done ∷ shows (entries_of 2) (1 ∷ 5 ∷ 2 ∷ 31 ∷ 777 ∷ 0 ∷ 0 ∷ 0 ∷ 0 ∷ []) ∷
    steps 0 2 2 32 23 888 done ∷ shows (waiting_of 2) (2 ∷ 5 ∷ 3 ∷ 32 ∷ 0 ∷ []) ∷ steps 2 2 9 9 9 9 done ∷ shows (outgoing_of 2) [] ∷
    steps 3 0 9 9 9 9 done ∷ steps 4 9 9 9 9 9 done ∷ steps 5 9 9 9 9 9 done ∷ steps 6 0 9 9 9 9 done ∷ steps 1 2 9 9 9 9 (no 9) ∷
    steps 7 2 9 9 9 9 (ack 2 31) ∷ steps 1 2 9 9 9 9 (ack 2 32) ∷ sound_is 1 ∷ []) ∷
    "call-step-answer-in-its-fields" ∶ stepping (
    steps 0 2 1 31 22 777 done ∷ drains 6 (replicate 12 9) (0 ∷ 1 ∷ 6 ∷ 10 ∷ []) (2 ∷ 2 ∷ 3 ∷ 0 ∷ 4 ∷ 5 ∷ 6 ∷ 0 ∷ 7 ∷ 2 ∷ 9 ∷ 9 ∷ []) ∷
    steps 0 2 0 55 22 4 (value 2 55 777) ∷ steps 0 1 4 56 7 8 (ack 1 56) ∷ steps 0 1 7 57 7 8 (ack 1 57) ∷ steps 0 2 3 58 22 0 (ack 2 58) ∷ []) ∷
    -- a step number above 7 is at place 0, an instruction number above 7 at place 2, and nothing changes
    "call-step-number-8" ∶ stepping (steps 8 2 1 31 22 777 (none_such 0) ∷ sound_is 1 ∷ shows left_now (0 ∷ 0 ∷ []) ∷ []) ∷
    "call-step-number-256" ∶ stepping (steps 256 2 1 31 22 777 (none_such 0) ∷ shows left_now (0 ∷ 0 ∷ []) ∷ []) ∷
    "call-step-largest-number" ∶ stepping (steps 4294967295 2 1 31 22 777 (none_such 0) ∷ []) ∷
    "call-step-instruction-8" ∶ stepping (steps 0 2 8 31 22 777 (none_such 2) ∷ sound_is 1 ∷ shows left_now (0 ∷ 0 ∷ []) ∷ []) ∷
    "call-step-instruction-256" ∶ stepping (steps 0 2 256 31 22 777 (none_such 2) ∷ shows left_now (0 ∷ 0 ∷ []) ∷ []) ∷
    "call-step-and-instruction-above-7" ∶ stepping (steps 9 2 9 31 22 777 (none_such 0) ∷ []) ∷
    "call-step-instruction-8-before-no-site" ∶ stepping (steps 0 3 8 31 22 777 (none_such 2) ∷ []) ∷
    -- 1 before 10
    "call-step-of-unsound-state" ∶ fresh 3 4 12 3 4 9 (no 12) (
    steps 8 2 1 31 22 777 (no 1) ∷ steps 0 2 8 31 22 777 (no 1) ∷ steps 0 0 0 31 22 777 (no 1) ∷ steps 4 0 0 0 0 0 (no 1) ∷ []) ∷
    -- a refusal has its number and no other
    "call-step-refused" ∶ stepping (
    steps 0 3 0 31 22 777 (no 2) ∷ steps 0 2 0 31 48 777 (no 4) ∷ steps 0 2 5 31 47 48 (no 4) ∷ steps 0 2 0 31 22 0 done ∷ steps 0 2 0 31 22 0 (no 5) ∷
    steps 0 2 1 32 22 777 (no 6) ∷ steps 1 3 0 0 0 0 (no 2) ∷ steps 1 1 0 0 0 0 (no 8) ∷ steps 2 1 0 0 0 0 (no 8) ∷ steps 3 0 0 0 0 0 (no 8) ∷
    steps 4 0 0 0 0 0 (no 8) ∷ steps 5 0 0 0 0 0 (no 8) ∷ steps 6 0 0 0 0 0 (no 8) ∷ steps 7 2 0 0 0 0 (no 8) ∷ steps 7 3 0 0 0 0 (no 2) ∷ []) ∷
    -- 256 sites past site 2 is no site
    "call-step-site-258" ∶ stepping (steps 0 258 0 31 22 0 (no 2) ∷ steps 2 258 0 0 0 0 (no 2) ∷ steps 3 256 0 0 0 0 (no 8) ∷ []) ∷
    []

-- A DRAIN: number, quiet, count, length

unfoldable pub drain_rows : List CallRow
drain_rows =
    "call-drain-stopped-by-its-budget" ∶ stepping (
    steps 0 1 0 31 22 0 done ∷ drains 4 (replicate 9 7) (0 ∷ 0 ∷ 4 ∷ 6 ∷ []) (2 ∷ 1 ∷ 3 ∷ 0 ∷ 4 ∷ 5 ∷ 7 ∷ 7 ∷ 7 ∷ []) ∷ shows left_now (1 ∷ 1 ∷ []) ∷ []) ∷
    "call-drain-to-quiet" ∶ stepping (
    steps 0 1 0 31 22 0 done ∷ drains 656 (replicate 1312 7) (0 ∷ 1 ∷ 6 ∷ 10 ∷ []) ((2 ∷ 1 ∷ 3 ∷ 0 ∷ 4 ∷ 5 ∷ 6 ∷ 0 ∷ 7 ∷ 1 ∷ []) ++ replicate 1302 7) ∷
    shows left_now (0 ∷ 0 ∷ []) ∷ []) ∷
    "call-drain-short-buffer" ∶ stepping (
    steps 0 1 0 31 22 0 done ∷ drains 4 (replicate 7 9) (11 ∷ 0 ∷ 0 ∷ 0 ∷ []) (replicate 7 9) ∷ shows left_now (1 ∷ 1 ∷ []) ∷ []) ∷
    "call-drain-of-unsound-state" ∶ fresh 3 4 12 3 4 9 (no 12) (drains 4 (replicate 7 9) (1 ∷ 0 ∷ 0 ∷ 0 ∷ []) (replicate 7 9) ∷ []) ∷
    "call-drain-of-nothing" ∶ stepping (drains 0 [] (0 ∷ 1 ∷ 0 ∷ 0 ∷ []) [] ∷ []) ∷
    []

-- READING: number, place, next, then the six sizes

unfoldable pub read_sizes_rows : List CallRow
read_sizes_rows =
    "call-read-sizes-each-in-its-field" ∶ reads_sizes (0x04 ∷ 0x03 ∷ 0x10 ∷ 0x07 ∷ 0x05 ∷ 0x08 ∷ 0x01 ∷ []) (0 ∷ 0 ∷ 6 ∷ 4 ∷ 3 ∷ 16 ∷ 7 ∷ 5 ∷ 8 ∷ []) ∷
    "call-read-sizes-fault-in-the-fourth" ∶ reads_sizes (0x04 ∷ 0x03 ∷ 0x10 ∷ 0x87 ∷ 0x00 ∷ 0x08 ∷ 0x01 ∷ []) (10 ∷ 3 ∷ 0 ∷ zeros) ∷
    "call-read-sizes-outside" ∶ reads_sizes (0x04 ∷ 0x03 ∷ 0x10 ∷ 0x07 ∷ 0x06 ∷ 0x08 ∷ []) (12 ∷ 0 ∷ 0 ∷ zeros) ∷
    "call-read-sizes-259-words" ∶ reads_sizes (0x04 ∷ 0x83 ∷ 0x02 ∷ 0x10 ∷ 0x07 ∷ 0x05 ∷ 0x08 ∷ []) (12 ∷ 0 ∷ 0 ∷ zeros) ∷
    "call-read-sizes-65537-bytes" ∶ reads_sizes (replicate 65537 0x01) (13 ∷ 65536 ∷ 0 ∷ zeros) ∷
    []

-- number, end, place, next, then step, site, instruction, tag, first, second

unfoldable pub read_step_rows : List CallRow
read_step_rows =
    "call-read-storel-in-its-fields" ∶ reads_step (0x09 ∷ 0x00 ∷ 0x82 ∷ 0x01 ∷ 0x01 ∷ 0x03 ∷ 0x84 ∷ 0x01 ∷ 0x05 ∷ 0x09 ∷ []) 1 (0 ∷ 0 ∷ 0 ∷ 9 ∷ 0 ∷ 130 ∷ 1 ∷ 3 ∷ 132 ∷ 5 ∷ []) ∷
    "call-read-loadl-in-its-fields" ∶ reads_step (0x00 ∷ 0x02 ∷ 0x00 ∷ 0x03 ∷ 0x04 ∷ 0x09 ∷ []) 0 (0 ∷ 0 ∷ 0 ∷ 5 ∷ 0 ∷ 2 ∷ 0 ∷ 3 ∷ 4 ∷ 0 ∷ []) ∷
    "call-read-commit-in-its-fields" ∶ reads_step (0x00 ∷ 0x05 ∷ 0x02 ∷ 0x03 ∷ 0x04 ∷ 0x09 ∷ []) 0 (0 ∷ 0 ∷ 0 ∷ 5 ∷ 0 ∷ 5 ∷ 2 ∷ 3 ∷ 4 ∷ 0 ∷ []) ∷
    "call-read-reconcile-in-its-fields" ∶ reads_step (0x00 ∷ 0x05 ∷ 0x03 ∷ 0x06 ∷ 0x04 ∷ 0x09 ∷ []) 0 (0 ∷ 0 ∷ 0 ∷ 5 ∷ 0 ∷ 5 ∷ 3 ∷ 6 ∷ 4 ∷ 0 ∷ []) ∷
    "call-read-fence-rr-in-its-fields" ∶ reads_step (0x00 ∷ 0x05 ∷ 0x04 ∷ 0x06 ∷ 0x08 ∷ 0x09 ∷ []) 0 (0 ∷ 0 ∷ 0 ∷ 6 ∷ 0 ∷ 5 ∷ 4 ∷ 6 ∷ 8 ∷ 9 ∷ []) ∷
    "call-read-fence-rw-in-its-fields" ∶ reads_step (0x00 ∷ 0x04 ∷ 0x05 ∷ 0x06 ∷ 0x08 ∷ 0x09 ∷ []) 0 (0 ∷ 0 ∷ 0 ∷ 6 ∷ 0 ∷ 4 ∷ 5 ∷ 6 ∷ 8 ∷ 9 ∷ []) ∷
    "call-read-fence-wr-in-its-fields" ∶ reads_step (0x00 ∷ 0x04 ∷ 0x06 ∷ 0x05 ∷ 0x08 ∷ 0x09 ∷ []) 0 (0 ∷ 0 ∷ 0 ∷ 6 ∷ 0 ∷ 4 ∷ 6 ∷ 5 ∷ 8 ∷ 9 ∷ []) ∷
    "call-read-fence-ww-in-its-fields" ∶ reads_step (0x00 ∷ 0x04 ∷ 0x07 ∷ 0x05 ∷ 0x08 ∷ 0x09 ∷ []) 0 (0 ∷ 0 ∷ 0 ∷ 6 ∷ 0 ∷ 4 ∷ 7 ∷ 5 ∷ 8 ∷ 9 ∷ []) ∷
    "call-read-retry" ∶ reads_step (0x01 ∷ 0x05 ∷ 0x09 ∷ []) 0 (0 ∷ 0 ∷ 0 ∷ 2 ∷ 1 ∷ 5 ∷ 0 ∷ 0 ∷ 0 ∷ 0 ∷ []) ∷
    "call-read-send" ∶ reads_step (0x02 ∷ 0x05 ∷ 0x09 ∷ []) 0 (0 ∷ 0 ∷ 0 ∷ 2 ∷ 2 ∷ 5 ∷ 0 ∷ 0 ∷ 0 ∷ 0 ∷ []) ∷
    "call-read-arrive-memory" ∶ reads_step (0x03 ∷ 0x05 ∷ 0x09 ∷ []) 0 (0 ∷ 0 ∷ 0 ∷ 2 ∷ 3 ∷ 5 ∷ 0 ∷ 0 ∷ 0 ∷ 0 ∷ []) ∷
    "call-read-serve" ∶ reads_step (0x04 ∷ 0x05 ∷ 0x09 ∷ []) 0 (0 ∷ 0 ∷ 0 ∷ 1 ∷ 4 ∷ 0 ∷ 0 ∷ 0 ∷ 0 ∷ 0 ∷ []) ∷
    "call-read-send-back" ∶ reads_step (0x04 ∷ 0x05 ∷ 0x09 ∷ []) 1 (0 ∷ 0 ∷ 0 ∷ 2 ∷ 5 ∷ 0 ∷ 0 ∷ 0 ∷ 0 ∷ 0 ∷ []) ∷
    "call-read-arrive-site" ∶ reads_step (0x06 ∷ 0x85 ∷ 0x01 ∷ 0x09 ∷ []) 0 (0 ∷ 0 ∷ 0 ∷ 3 ∷ 6 ∷ 133 ∷ 0 ∷ 0 ∷ 0 ∷ 0 ∷ []) ∷
    "call-read-take" ∶ reads_step (0x07 ∷ 0x05 ∷ 0x09 ∷ []) 0 (0 ∷ 0 ∷ 0 ∷ 2 ∷ 7 ∷ 5 ∷ 0 ∷ 0 ∷ 0 ∷ 0 ∷ []) ∷
    -- the end is told by 1, in a field of its own
    "call-read-the-end" ∶ reads_step (0x07 ∷ 0x05 ∷ []) 2 (0 ∷ 1 ∷ 0 ∷ 0 ∷ zeros) ∷
    "call-read-beyond-the-end" ∶ reads_step (0x07 ∷ 0x05 ∷ []) 3 (10 ∷ 0 ∷ 3 ∷ 0 ∷ zeros) ∷
    "call-read-step-number-above-7" ∶ reads_step (0x04 ∷ 0x04 ∷ 0x88 ∷ 0x01 ∷ []) 2 (10 ∷ 0 ∷ 2 ∷ 0 ∷ zeros) ∷
    "call-read-instruction-above-7" ∶ reads_step (0x04 ∷ 0x00 ∷ 0x05 ∷ 0x08 ∷ 0x01 ∷ 0x01 ∷ 0x01 ∷ []) 1 (10 ∷ 0 ∷ 3 ∷ 0 ∷ zeros) ∷
    "call-read-step-cut-short" ∶ reads_step (0x04 ∷ 0x00 ∷ 0x05 ∷ 0x01 ∷ 0x01 ∷ 0x01 ∷ []) 1 (10 ∷ 0 ∷ 6 ∷ 0 ∷ zeros) ∷
    "call-read-step-of-65537-bytes" ∶ reads_step (replicate 65537 0x04) 0 (13 ∷ 0 ∷ 65536 ∷ 0 ∷ zeros) ∷
    []

-- WRITING: number, place, next

-- a buffer of nines
abbrev pub nines : ℕ → List ℕ
nines n = replicate n 9

unfoldable pub write_rows : List CallRow
write_rows =
    "call-write-sizes-in-order" ∶ writes_sizes 4 3 16 7 5 8 (nines 8) (0 ∷ 0 ∷ 6 ∷ []) (4 ∷ 3 ∷ 16 ∷ 7 ∷ 5 ∷ 8 ∷ 9 ∷ 9 ∷ []) ∷
    "call-write-sizes-short-buffer" ∶ writes_sizes 4 3 16 7 5 8 (nines 5) (11 ∷ 0 ∷ 0 ∷ []) (nines 5) ∷
    "call-write-258-sites" ∶ writes_sizes 258 3 16 7 5 8 (nines 9) (12 ∷ 0 ∷ 0 ∷ []) (nines 9) ∷
    "call-write-259-words" ∶ writes_sizes 4 259 16 7 5 8 (nines 9) (12 ∷ 0 ∷ 0 ∷ []) (nines 9) ∷
    "call-write-65537-lines" ∶ writes_sizes 4 3 65537 7 5 8 (nines 9) (12 ∷ 0 ∷ 0 ∷ []) (nines 9) ∷
    "call-write-largest-sets" ∶ writes_sizes 4 3 16 4294967295 5 8 (nines 9) (12 ∷ 0 ∷ 0 ∷ []) (nines 9) ∷
    "call-write-260-pend-entries" ∶ writes_sizes 4 3 16 7 260 8 (nines 9) (12 ∷ 0 ∷ 0 ∷ []) (nines 9) ∷
    "call-write-256-stall-entries" ∶ writes_sizes 4 3 16 7 5 256 (nines 9) (12 ∷ 0 ∷ 0 ∷ []) (nines 9) ∷
    "call-write-sizes-outside-and-short-buffer" ∶ writes_sizes 4 3 16 7 5 9 [] (12 ∷ 0 ∷ 0 ∷ []) [] ∷
    "call-write-storel-in-order" ∶ writes_step 0 5 1 6 130 8 (nines 9) 1 (0 ∷ 0 ∷ 8 ∷ []) (9 ∷ 0 ∷ 5 ∷ 1 ∷ 6 ∷ 0x82 ∷ 0x01 ∷ 8 ∷ 9 ∷ []) ∷
    "call-write-loadl-without-a-second" ∶ writes_step 0 5 0 6 7 8 (nines 7) 1 (0 ∷ 0 ∷ 6 ∷ []) (9 ∷ 0 ∷ 5 ∷ 0 ∷ 6 ∷ 7 ∷ 9 ∷ []) ∷
    "call-write-fence-in-order" ∶ writes_step 0 5 6 4 7 8 (nines 7) 1 (0 ∷ 0 ∷ 7 ∷ []) (9 ∷ 0 ∷ 5 ∷ 6 ∷ 4 ∷ 7 ∷ 8 ∷ []) ∷
    "call-write-serve-alone" ∶ writes_step 4 5 6 4 7 8 (nines 3) 1 (0 ∷ 0 ∷ 2 ∷ []) (9 ∷ 4 ∷ 9 ∷ []) ∷
    "call-write-arrive-site" ∶ writes_step 6 300 6 4 7 8 (nines 5) 1 (0 ∷ 0 ∷ 4 ∷ []) (9 ∷ 6 ∷ 0xAC ∷ 0x02 ∷ 9 ∷ []) ∷
    "call-write-step-short-buffer" ∶ writes_step 6 300 6 4 7 8 (nines 3) 1 (11 ∷ 0 ∷ 0 ∷ []) (nines 3) ∷
    "call-write-step-past-65536" ∶ writes_step 6 300 6 4 7 8 (nines 3) 65534 (13 ∷ 65536 ∷ 0 ∷ []) (nines 3) ∷
    -- the numbers name no step: place 0 or 2, counted in the six numbers
    "call-write-step-number-8" ∶ writes_step 8 5 1 6 7 8 (nines 9) 1 (10 ∷ 0 ∷ 0 ∷ []) (nines 9) ∷
    "call-write-instruction-8" ∶ writes_step 0 5 8 6 7 8 (nines 9) 1 (10 ∷ 2 ∷ 0 ∷ []) (nines 9) ∷
    "call-write-instruction-8-and-short-buffer" ∶ writes_step 0 5 8 6 7 8 [] 70000 (10 ∷ 2 ∷ 0 ∷ []) [] ∷
    []

-- THE TABLE

unfoldable pub table : List CallRow
table = fresh_rows ++ (step_rows ++ (drain_rows ++ (read_sizes_rows ++ (read_step_rows ++ write_rows))))
