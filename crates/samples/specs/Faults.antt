-- The place of a fault, in each number of each step and of the sizes; and the order of 13, 10, 12 and 11.
use Rattle.std.specs.Prelude.{List, [], ◌∷◌, ◌++◌, ℕ, suc, ◌+◌, ◌-◌, replicate, length, take, drop}
use Rattle.model.specs.declared.Step.TheVariants.{Serve, Send}
use Rattle.model.specs.Record.{read_sizes, read_step}
use Rattle.model.specs.Sampling.{Sample, ◌∶◌, for_each, reads_sizes, reads_step, writes_step, sizes_given, step_given}

-- FAULTY NUMBERS

-- 7 in two bytes
abbrev pub not_shortest : List ℕ
not_shortest = 0x87 ∷ 0x00 ∷ []

-- one more than the largest
abbrev pub too_large : List ℕ
too_large = 0x80 ∷ 0x80 ∷ 0x80 ∷ 0x80 ∷ 0x10 ∷ []

-- a number that goes on behind the record's end
abbrev pub goes_on : List ℕ
goes_on = 0x87 ∷ []

-- STEPS WITH ONE FAULT: a step of one byte for each number stands behind two other bytes, and its number k is put anew

abbrev pub step_with : List ℕ → ℕ → List ℕ → List ℕ → List ℕ
step_with step k number behind = step_given (read_step (0x04 ∷ 0x05 ∷ take k step ++ (number ++ behind)) 2)

-- 10 at the first byte of number k
abbrev pub placed : ℕ → List ℕ
placed k = 10 ∷ (2 + k) ∷ []

-- each number of the step, where it is these bytes and the rest follows
abbrev pub fault_in_each : List ℕ → List ℕ → Sample
fault_in_each step number = for_each (length step) (λ k. step_with step k number (drop (suc k) step)) placed

-- each number of the step, where the record ends in it
abbrev pub cut_in_each : List ℕ → Sample
cut_in_each step = for_each (length step) (λ k. step_with step k goes_on []) placed

-- each number of the step but the first, where the record ends before it
abbrev pub cut_before_each : List ℕ → Sample
cut_before_each step = for_each (length step - 1) (λ k. step_with step (suc k) [] []) (λ k. placed (suc k))

unfoldable pub step_fault_rows : List Sample
step_fault_rows =
    "loadl-number-not-shortest" ∶ fault_in_each (0 ∷ 1 ∷ 0 ∷ 3 ∷ 4 ∷ []) not_shortest ∷
    "loadl-number-too-large" ∶ fault_in_each (0 ∷ 1 ∷ 0 ∷ 3 ∷ 4 ∷ []) too_large ∷
    "loadl-cut-in-a-number" ∶ cut_in_each (0 ∷ 1 ∷ 0 ∷ 3 ∷ 4 ∷ []) ∷
    "loadl-cut-before-a-number" ∶ cut_before_each (0 ∷ 1 ∷ 0 ∷ 3 ∷ 4 ∷ []) ∷
    "storel-number-not-shortest" ∶ fault_in_each (0 ∷ 2 ∷ 1 ∷ 3 ∷ 4 ∷ 5 ∷ []) not_shortest ∷
    "storel-number-too-large" ∶ fault_in_each (0 ∷ 2 ∷ 1 ∷ 3 ∷ 4 ∷ 5 ∷ []) too_large ∷
    "storel-cut-in-a-number" ∶ cut_in_each (0 ∷ 2 ∷ 1 ∷ 3 ∷ 4 ∷ 5 ∷ []) ∷
    "storel-cut-before-a-number" ∶ cut_before_each (0 ∷ 2 ∷ 1 ∷ 3 ∷ 4 ∷ 5 ∷ []) ∷
    "commit-number-not-shortest" ∶ fault_in_each (0 ∷ 1 ∷ 2 ∷ 3 ∷ 4 ∷ []) not_shortest ∷
    "commit-number-too-large" ∶ fault_in_each (0 ∷ 1 ∷ 2 ∷ 3 ∷ 4 ∷ []) too_large ∷
    "commit-cut-in-a-number" ∶ cut_in_each (0 ∷ 1 ∷ 2 ∷ 3 ∷ 4 ∷ []) ∷
    "commit-cut-before-a-number" ∶ cut_before_each (0 ∷ 1 ∷ 2 ∷ 3 ∷ 4 ∷ []) ∷
    "reconcile-number-not-shortest" ∶ fault_in_each (0 ∷ 1 ∷ 3 ∷ 5 ∷ 4 ∷ []) not_shortest ∷
    "reconcile-number-too-large" ∶ fault_in_each (0 ∷ 1 ∷ 3 ∷ 5 ∷ 4 ∷ []) too_large ∷
    "reconcile-cut-in-a-number" ∶ cut_in_each (0 ∷ 1 ∷ 3 ∷ 5 ∷ 4 ∷ []) ∷
    "reconcile-cut-before-a-number" ∶ cut_before_each (0 ∷ 1 ∷ 3 ∷ 5 ∷ 4 ∷ []) ∷
    "fence-rr-number-not-shortest" ∶ fault_in_each (0 ∷ 1 ∷ 4 ∷ 3 ∷ 6 ∷ 5 ∷ []) not_shortest ∷
    "fence-rr-number-too-large" ∶ fault_in_each (0 ∷ 1 ∷ 4 ∷ 3 ∷ 6 ∷ 5 ∷ []) too_large ∷
    "fence-rr-cut-in-a-number" ∶ cut_in_each (0 ∷ 1 ∷ 4 ∷ 3 ∷ 6 ∷ 5 ∷ []) ∷
    "fence-rr-cut-before-a-number" ∶ cut_before_each (0 ∷ 1 ∷ 4 ∷ 3 ∷ 6 ∷ 5 ∷ []) ∷
    "fence-rw-number-not-shortest" ∶ fault_in_each (0 ∷ 1 ∷ 5 ∷ 3 ∷ 6 ∷ 4 ∷ []) not_shortest ∷
    "fence-rw-number-too-large" ∶ fault_in_each (0 ∷ 1 ∷ 5 ∷ 3 ∷ 6 ∷ 4 ∷ []) too_large ∷
    "fence-rw-cut-in-a-number" ∶ cut_in_each (0 ∷ 1 ∷ 5 ∷ 3 ∷ 6 ∷ 4 ∷ []) ∷
    "fence-rw-cut-before-a-number" ∶ cut_before_each (0 ∷ 1 ∷ 5 ∷ 3 ∷ 6 ∷ 4 ∷ []) ∷
    "fence-wr-number-not-shortest" ∶ fault_in_each (0 ∷ 1 ∷ 6 ∷ 3 ∷ 5 ∷ 4 ∷ []) not_shortest ∷
    "fence-wr-number-too-large" ∶ fault_in_each (0 ∷ 1 ∷ 6 ∷ 3 ∷ 5 ∷ 4 ∷ []) too_large ∷
    "fence-wr-cut-in-a-number" ∶ cut_in_each (0 ∷ 1 ∷ 6 ∷ 3 ∷ 5 ∷ 4 ∷ []) ∷
    "fence-wr-cut-before-a-number" ∶ cut_before_each (0 ∷ 1 ∷ 6 ∷ 3 ∷ 5 ∷ 4 ∷ []) ∷
    "fence-ww-number-not-shortest" ∶ fault_in_each (0 ∷ 1 ∷ 7 ∷ 3 ∷ 5 ∷ 4 ∷ []) not_shortest ∷
    "fence-ww-number-too-large" ∶ fault_in_each (0 ∷ 1 ∷ 7 ∷ 3 ∷ 5 ∷ 4 ∷ []) too_large ∷
    "fence-ww-cut-in-a-number" ∶ cut_in_each (0 ∷ 1 ∷ 7 ∷ 3 ∷ 5 ∷ 4 ∷ []) ∷
    "fence-ww-cut-before-a-number" ∶ cut_before_each (0 ∷ 1 ∷ 7 ∷ 3 ∷ 5 ∷ 4 ∷ []) ∷
    "retry-number-not-shortest" ∶ fault_in_each (1 ∷ 5 ∷ []) not_shortest ∷
    "retry-number-too-large" ∶ fault_in_each (1 ∷ 5 ∷ []) too_large ∷
    "retry-cut-in-a-number" ∶ cut_in_each (1 ∷ 5 ∷ []) ∷
    "retry-cut-before-a-number" ∶ cut_before_each (1 ∷ 5 ∷ []) ∷
    "send-number-not-shortest" ∶ fault_in_each (2 ∷ 5 ∷ []) not_shortest ∷
    "send-number-too-large" ∶ fault_in_each (2 ∷ 5 ∷ []) too_large ∷
    "send-cut-in-a-number" ∶ cut_in_each (2 ∷ 5 ∷ []) ∷
    "send-cut-before-a-number" ∶ cut_before_each (2 ∷ 5 ∷ []) ∷
    "arrive-memory-number-not-shortest" ∶ fault_in_each (3 ∷ 5 ∷ []) not_shortest ∷
    "arrive-memory-number-too-large" ∶ fault_in_each (3 ∷ 5 ∷ []) too_large ∷
    "arrive-memory-cut-in-a-number" ∶ cut_in_each (3 ∷ 5 ∷ []) ∷
    "arrive-memory-cut-before-a-number" ∶ cut_before_each (3 ∷ 5 ∷ []) ∷
    "arrive-site-number-not-shortest" ∶ fault_in_each (6 ∷ 5 ∷ []) not_shortest ∷
    "arrive-site-number-too-large" ∶ fault_in_each (6 ∷ 5 ∷ []) too_large ∷
    "arrive-site-cut-in-a-number" ∶ cut_in_each (6 ∷ 5 ∷ []) ∷
    "arrive-site-cut-before-a-number" ∶ cut_before_each (6 ∷ 5 ∷ []) ∷
    "take-number-not-shortest" ∶ fault_in_each (7 ∷ 5 ∷ []) not_shortest ∷
    "take-number-too-large" ∶ fault_in_each (7 ∷ 5 ∷ []) too_large ∷
    "take-cut-in-a-number" ∶ cut_in_each (7 ∷ 5 ∷ []) ∷
    "take-cut-before-a-number" ∶ cut_before_each (7 ∷ 5 ∷ []) ∷
    "serve-number-not-shortest" ∶ reads_step (0x04 ∷ 0x05 ∷ 0x84 ∷ 0x00 ∷ []) 2 (10 ∷ 2 ∷ []) ∷
    "send-back-number-not-shortest" ∶ reads_step (0x04 ∷ 0x05 ∷ 0x85 ∷ 0x00 ∷ []) 2 (10 ∷ 2 ∷ []) ∷
    []

-- A NUMBER ABOVE 7

unfoldable pub above_rows : List Sample
above_rows =
    "every-step-number-above-7" ∶ for_each 120 (λ k. step_given (read_step (4 ∷ (8 + k) ∷ 1 ∷ 1 ∷ 1 ∷ 1 ∷ 1 ∷ []) 1)) (λ k. 10 ∷ 1 ∷ []) ∷
    "every-instruction-number-above-7" ∶ for_each 120 (λ k. step_given (read_step (4 ∷ 0 ∷ 1 ∷ (8 + k) ∷ 1 ∷ 1 ∷ 1 ∷ []) 1)) (λ k. 10 ∷ 3 ∷ []) ∷
    -- the first faulty number in reading order: the instruction number is looked at before the tag is read
    "instruction-above-7-before-faulty-tag" ∶ reads_step (0x00 ∷ 0x01 ∷ 0x08 ∷ 0x87 ∷ 0x00 ∷ []) 0 (10 ∷ 2 ∷ []) ∷
    "faulty-tag-before-faulty-address" ∶ reads_step (0x00 ∷ 0x01 ∷ 0x00 ∷ 0x87 ∷ 0x00 ∷ 0x87 ∷ 0x00 ∷ []) 0 (10 ∷ 3 ∷ []) ∷
    []

-- SIZES

abbrev pub sizes_with : ℕ → List ℕ → List ℕ → List ℕ
sizes_with k number behind = sizes_given (read_sizes (take k (4 ∷ 3 ∷ 16 ∷ 7 ∷ 5 ∷ 8 ∷ []) ++ (number ++ behind)))

-- the sizes behind number k
abbrev pub sizes_behind : ℕ → List ℕ
sizes_behind k = drop (suc k) (4 ∷ 3 ∷ 16 ∷ 7 ∷ 5 ∷ 8 ∷ [])

unfoldable pub sizes_fault_rows : List Sample
sizes_fault_rows =
    "size-not-shortest" ∶ for_each 6 (λ k. sizes_with k not_shortest (sizes_behind k)) (λ k. 10 ∷ k ∷ []) ∷
    "size-too-large-for-a-number" ∶ for_each 6 (λ k. sizes_with k too_large (sizes_behind k)) (λ k. 10 ∷ k ∷ []) ∷
    "sizes-cut-in-a-number" ∶ for_each 6 (λ k. sizes_with k goes_on []) (λ k. 10 ∷ k ∷ []) ∷
    "sizes-cut-before-a-number" ∶ for_each 6 (λ k. sizes_with k [] []) (λ k. 10 ∷ k ∷ []) ∷
    "size-of-256-in-each-field" ∶ for_each 6 (λ k. sizes_with k (0x81 ∷ 0x02 ∷ []) (sizes_behind k)) (λ k. 12 ∷ 0 ∷ []) ∷
    "size-of-0-in-each-field" ∶ for_each 6 (λ k. sizes_with k (0x00 ∷ []) (sizes_behind k)) (λ k. 12 ∷ 0 ∷ []) ∷
    "sizes-each-in-its-field" ∶ reads_sizes (4 ∷ 3 ∷ 16 ∷ 7 ∷ 5 ∷ 8 ∷ 1 ∷ []) (0 ∷ 6 ∷ 4 ∷ 3 ∷ 16 ∷ 7 ∷ 5 ∷ 8 ∷ []) ∷
    []

-- 13 BEFORE 10 AND 12; 13 BEFORE 11

unfoldable pub long_rows : List Sample
long_rows =
    "long-record-before-size-outside" ∶ reads_sizes (replicate 65537 0x09) (13 ∷ 65536 ∷ []) ∷
    "long-record-before-good-sizes" ∶ reads_sizes (replicate 65537 0x01) (13 ∷ 65536 ∷ []) ∷
    "long-record-before-good-step" ∶ reads_step (replicate 65537 0x04) 7 (13 ∷ 65536 ∷ []) ∷
    "long-record-before-offset-beyond" ∶ reads_step (replicate 65537 0x04) 70000 (13 ∷ 65536 ∷ []) ∷
    "longest-record-read-to-its-end" ∶ reads_step (replicate 65536 0x04) 65535 (0 ∷ 65536 ∷ 4 ∷ []) ∷
    "longest-record-cut-in-a-step" ∶ reads_step (replicate 65536 0x07) 65535 (10 ∷ 65536 ∷ []) ∷
    "write-past-65536-with-room" ∶ writes_step (Send 1) (replicate 65540 9) 65535 (13 ∷ 65536 ∷ []) (replicate 65540 9) ∷
    "write-to-65536-with-room" ∶ writes_step Serve (replicate 65540 9) 65535 (0 ∷ 65536 ∷ []) (replicate 65535 9 ++ (4 ∷ replicate 4 9)) ∷
    []
