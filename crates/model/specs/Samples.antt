-- Document 01, "Samples on each side of a line", and further samples on each side of its other lines, as one table.
use Rattle.std.specs.Prelude.{List, [], ◌∷◌, ◌++◌, ℕ, replicate}
use Rattle.model.specs.declared.Instruction.TheVariants.{Loadl, Storel, Commit, Reconcile, FenceRr, FenceRw, FenceWr, FenceWw}
use Rattle.model.specs.declared.Step.TheVariants.{Issue, Retry, Send, ArriveMemory, Serve, SendBack, ArriveSite, Take}
use Rattle.model.specs.Sampling.{done, value, ack, no, Act, memory_line, sizes_now, pending, going, left_now, upward, downward, Sample, ◌∶◌, sized}
use Rattle.model.specs.Sampling.{sample, run, ◌⇒◌, trip, shows, drains, coded, no_number, fresh, recorded, reads_sizes, reads_step, writes_sizes, lists}
use Rattle.model.specs.Sampling.{writes_step}
use Rattle.model.specs.Broken.{sound_samples}

-- NUMBERS

unfoldable pub number_samples : List Sample
number_samples =
    -- 127 is `7F`, 128 is `80 01`, 300 is `Ac 02`; `80 00` is refused.
    "number-127" ∶ coded 127 (0x7F ∷ []) ∷
    "number-128" ∶ coded 128 (0x80 ∷ 0x01 ∷ []) ∷
    "number-300" ∶ coded 300 (0xAC ∷ 0x02 ∷ []) ∷
    "zero-in-two-bytes" ∶ no_number (0x80 ∷ 0x00 ∷ []) ∷
    -- `FF FF FF FF 0F` is the largest; `FF FF FF FF 10` is refused.
    "largest-number" ∶ coded 4294967295 (0xFF ∷ 0xFF ∷ 0xFF ∷ 0xFF ∷ 0x0F ∷ []) ∷
    "one-past-largest" ∶ no_number (0xFF ∷ 0xFF ∷ 0xFF ∷ 0xFF ∷ 0x10 ∷ []) ∷
    -- groups of seven bits, low group first
    "number-0" ∶ coded 0 (0x00 ∷ []) ∷
    "number-16383" ∶ coded 16383 (0xFF ∷ 0x7F ∷ []) ∷
    "number-16384" ∶ coded 16384 (0x80 ∷ 0x80 ∷ 0x01 ∷ []) ∷
    -- the shortest form only
    "longer-form-of-127" ∶ no_number (0xFF ∷ 0x00 ∷ []) ∷
    "zero-in-three-bytes" ∶ no_number (0x80 ∷ 0x80 ∷ 0x00 ∷ []) ∷
    "longer-form-of-largest" ∶ no_number (0xFF ∷ 0xFF ∷ 0xFF ∷ 0xFF ∷ 0x8F ∷ 0x00 ∷ []) ∷
    -- cut short; too large in a sixth group
    "number-of-no-byte" ∶ no_number [] ∷
    "number-cut-after-one-byte" ∶ no_number (0x80 ∷ []) ∷
    "number-cut-after-four-bytes" ∶ no_number (0xFF ∷ 0xFF ∷ 0xFF ∷ 0xFF ∷ []) ∷
    "number-of-six-groups" ∶ no_number (0x80 ∷ 0x80 ∷ 0x80 ∷ 0x80 ∷ 0x80 ∷ 0x01 ∷ []) ∷
    []

-- SIZES

unfoldable pub sizes_samples : List Sample
sizes_samples =
    -- 4 sites pass, 5 and 0 give 12; 16 lines pass, 17 don't. What is refused comes back as a state of all 0, which is not sound.
    "four-sites" ∶ fresh (sized 4 2 4 1 1 1) 0 (shows sizes_now (4 ∷ 2 ∷ 4 ∷ 1 ∷ 1 ∷ 1 ∷ []) ∷ Serve ⇒ no 8 ∷ []) ∷
    "five-sites" ∶ fresh (sized 5 2 4 1 1 1) 12 (shows sizes_now (0 ∷ 0 ∷ 0 ∷ 0 ∷ 0 ∷ 0 ∷ []) ∷ Serve ⇒ no 1 ∷ []) ∷
    "no-sites" ∶ fresh (sized 0 2 4 1 1 1) 12 (Serve ⇒ no 1 ∷ []) ∷
    "sixteen-lines" ∶ fresh (sized 2 2 16 1 1 1) 0 (Serve ⇒ no 8 ∷ []) ∷
    "seventeen-lines" ∶ fresh (sized 2 2 17 1 1 1) 12 (Serve ⇒ no 1 ∷ []) ∷
    -- the other limits of the table
    "largest-sizes" ∶ fresh (sized 4 4 16 8 5 8) 0 (Serve ⇒ no 8 ∷ []) ∷
    "five-words" ∶ fresh (sized 4 5 16 8 5 8) 12 [] ∷
    "nine-sets" ∶ fresh (sized 4 4 16 9 5 8) 12 [] ∷
    "six-pend-entries" ∶ fresh (sized 4 4 16 8 6 8) 12 [] ∷
    "nine-stall-entries" ∶ fresh (sized 4 4 16 8 5 9) 12 [] ∷
    "smallest-sizes" ∶ fresh (sized 1 1 1 1 1 1) 0 (Serve ⇒ no 8 ∷ []) ∷
    "no-words" ∶ fresh (sized 1 0 1 1 1 1) 12 [] ∷
    "no-lines" ∶ fresh (sized 1 1 0 1 1 1) 12 [] ∷
    "no-sets" ∶ fresh (sized 1 1 1 0 1 1) 12 [] ∷
    "no-pend-entries" ∶ fresh (sized 1 1 1 1 0 1) 12 [] ∷
    "no-stall-entries" ∶ fresh (sized 1 1 1 1 1 0) 12 [] ∷
    []

-- THE SAMPLES OF ISSUING, HANDLING AND SERVING

unfoldable pub protocol_samples : List Sample
protocol_samples =
    -- the sample run of "Replay"
    "sample-run" ∶ run sample (
    Issue 0 7 (Loadl 3) ⇒ done ∷ Send 0 ⇒ done ∷ ArriveMemory 0 ⇒ done ∷ Serve ⇒ done ∷ SendBack ⇒ done ∷ ArriveSite 0 ⇒ done ∷
    shows left_now (1 ∷ 1 ∷ []) ∷ Take 0 ⇒ value 0 7 0 ∷ shows left_now (0 ∷ 0 ∷ []) ∷ []) ∷
    -- Sizes as above: address 7 passes, 8 gives 4.
    "last-address" ∶ run sample (Issue 0 7 (Loadl 7) ⇒ done ∷ []) ∷
    "address-past-last" ∶ run sample (Issue 0 7 (Loadl 8) ⇒ no 4 ∷ []) ∷
    -- Loadl(1) outstanding: Storel(1) gives 6, Fence rr(1,0) gives 6, Fence wr(1,0) is answered.
    -- Then Storel(0) goes to the stall queue; Loadl(3) gives 7; retry gives 9.
    "loadl-outstanding" ∶ run sample (
    Issue 0 1 (Loadl 1) ⇒ done ∷ Issue 0 2 (Storel 1 5) ⇒ no 6 ∷ Issue 0 2 (FenceRr 1 0) ⇒ no 6 ∷ Issue 0 2 (FenceWr 1 0) ⇒ ack 0 2 ∷
    Issue 0 2 (Storel 0 5) ⇒ done ∷ Issue 0 3 (Loadl 3) ⇒ no 7 ∷ Retry 0 ⇒ no 9 ∷ shows left_now (2 ∷ 1 ∷ []) ∷
    trip 0 (value 0 1 0) ∷ Retry 0 ⇒ ack 0 2 ∷ Retry 0 ⇒ no 8 ∷ Issue 0 3 (Loadl 0) ⇒ value 0 3 5 ∷ []) ∷
    -- Word 0 Dirty, word 1 Clean: Reconcile(0) is answered at once, Reconcile(1) queues a write-back.
    "reconcile-of-dirty-and-clean-word" ∶ run sample (
    Issue 0 1 (Storel 0 5) ⇒ done ∷ trip 0 (ack 0 1) ∷ Issue 0 2 (Reconcile 0) ⇒ ack 0 2 ∷ shows (going 0) [] ∷
    Issue 0 3 (Reconcile 1) ⇒ done ∷ shows (going 0) (1 ∷ 0 ∷ 0 ∷ []) ∷ trip 0 (ack 0 3) ∷ shows (memory_line 0) (5 ∷ 0 ∷ 0 ∷ 0 ∷ []) ∷ []) ∷
    -- Sites 0 and 1 both fetch line 0; site 0 stores 5 at 0, site 1 stores 6 at 1, then site 0 commits, then site 1: memory holds 5 and 6.
    "two-writers-of-one-line" ∶ run sample (
    Issue 0 1 (Loadl 0) ⇒ done ∷ Issue 1 1 (Loadl 1) ⇒ done ∷ trip 0 (value 0 1 0) ∷ trip 1 (value 1 1 0) ∷
    Issue 0 2 (Storel 0 5) ⇒ ack 0 2 ∷ Issue 1 2 (Storel 1 6) ⇒ ack 1 2 ∷ Issue 0 3 (Commit 0) ⇒ done ∷ trip 0 (ack 0 3) ∷
    Issue 1 3 (Commit 1) ⇒ done ∷ trip 1 (ack 1 3) ∷ shows (memory_line 0) (5 ∷ 6 ∷ 0 ∷ 0 ∷ []) ∷ []) ∷
    []

-- MAY IT BE ISSUED, AND THE NUMBERS OF A REFUSED STEP

unfoldable pub issue_samples : List Sample
issue_samples =
    -- It can't after Loadl(a): Storel(a), Fence rr or rw whose first address is a. After what waits as after what pends.
    "after-loadl" ∶ run (sized 1 2 4 1 1 8) (
    Issue 0 1 (Loadl 1) ⇒ done ∷ Issue 0 2 (Storel 1 5) ⇒ no 6 ∷ Issue 0 2 (FenceRr 1 0) ⇒ no 6 ∷ Issue 0 2 (FenceRw 1 0) ⇒ no 6 ∷
    Issue 0 2 (FenceWr 1 0) ⇒ ack 0 2 ∷ Issue 0 2 (FenceWw 1 0) ⇒ ack 0 2 ∷ Issue 0 2 (FenceRr 0 1) ⇒ ack 0 2 ∷ Issue 0 2 (FenceRw 3 1) ⇒ ack 0 2 ∷
    Issue 0 2 (Loadl 1) ⇒ done ∷ Issue 0 3 (Commit 1) ⇒ done ∷ Issue 0 4 (Reconcile 1) ⇒ done ∷
    Issue 0 5 (Storel 0 5) ⇒ done ∷ Issue 0 6 (Storel 3 5) ⇒ done ∷
    Issue 0 7 (FenceWr 1 0) ⇒ no 6 ∷ Issue 0 7 (Loadl 1) ⇒ no 6 ∷ Issue 0 7 (Commit 3) ⇒ no 6 ∷ []) ∷
    -- After Storel(a): Loadl(a), Storel(a), Commit(a).
    "after-storel" ∶ run (sized 1 2 4 1 1 8) (
    Issue 0 1 (Storel 1 5) ⇒ done ∷ Issue 0 2 (Loadl 1) ⇒ no 6 ∷ Issue 0 2 (Storel 1 5) ⇒ no 6 ∷ Issue 0 2 (Commit 1) ⇒ no 6 ∷
    Issue 0 2 (FenceRr 1 1) ⇒ ack 0 2 ∷ Issue 0 2 (FenceRw 1 1) ⇒ ack 0 2 ∷ Issue 0 2 (FenceWr 1 1) ⇒ ack 0 2 ∷ Issue 0 2 (FenceWw 1 1) ⇒ ack 0 2 ∷
    Issue 0 2 (Reconcile 1) ⇒ done ∷ Issue 0 3 (Commit 0) ⇒ done ∷ []) ∷
    -- After Commit(a): Fence wr or ww whose first address is a.
    "after-commit" ∶ run (sized 1 2 4 1 1 8) (
    Issue 0 1 (Storel 1 5) ⇒ done ∷ trip 0 (ack 0 1) ∷ Issue 0 2 (Commit 1) ⇒ done ∷
    Issue 0 3 (FenceWr 1 0) ⇒ no 6 ∷ Issue 0 3 (FenceWw 1 0) ⇒ no 6 ∷ Issue 0 3 (FenceWr 0 1) ⇒ ack 0 3 ∷
    Issue 0 3 (FenceRr 1 0) ⇒ ack 0 3 ∷ Issue 0 3 (FenceRw 1 0) ⇒ ack 0 3 ∷ Issue 0 3 (Commit 1) ⇒ done ∷ Issue 0 4 (Storel 1 6) ⇒ done ∷ []) ∷
    "loadl-and-reconcile-pass-commit" ∶ run (sized 1 2 4 1 1 8) (
    Issue 0 1 (Storel 1 5) ⇒ done ∷ trip 0 (ack 0 1) ∷ Issue 0 2 (Commit 1) ⇒ done ∷
    Issue 0 3 (Loadl 1) ⇒ done ∷ Issue 0 4 (Reconcile 1) ⇒ done ∷ []) ∷
    -- After Reconcile(a): Loadl(a).
    "after-reconcile" ∶ run (sized 1 2 4 1 1 8) (
    Issue 0 1 (Storel 0 5) ⇒ done ∷ trip 0 (ack 0 1) ∷ Issue 0 2 (Reconcile 1) ⇒ done ∷ Issue 0 3 (Loadl 1) ⇒ no 6 ∷
    Issue 0 3 (FenceRr 1 1) ⇒ ack 0 3 ∷ Issue 0 3 (FenceRw 1 1) ⇒ ack 0 3 ∷ Issue 0 3 (FenceWr 1 1) ⇒ ack 0 3 ∷ Issue 0 3 (FenceWw 1 1) ⇒ ack 0 3 ∷
    Issue 0 3 (Commit 1) ⇒ done ∷ Issue 0 4 (Reconcile 1) ⇒ done ∷ Issue 0 5 (Storel 1 6) ⇒ done ∷ []) ∷
    -- each outstanding one of its site: another site's are passed, and may have the tag
    "other-site-passed" ∶ run sample (Issue 0 1 (Loadl 1) ⇒ done ∷ Issue 1 1 (Storel 1 5) ⇒ done ∷ []) ∷
    -- the lowest number first: 2, 4, 5, 6, 7
    "lowest-number-first" ∶ run sample (
    Issue 2 1 (Loadl 8) ⇒ no 2 ∷ Issue 4294967295 1 (Loadl 0) ⇒ no 2 ∷ Issue 0 1 (Loadl 1) ⇒ done ∷
    Issue 0 1 (Loadl 8) ⇒ no 4 ∷ Issue 0 1 (Storel 4294967295 0) ⇒ no 4 ∷ Issue 0 1 (FenceWr 8 0) ⇒ no 4 ∷ Issue 0 1 (FenceWr 0 8) ⇒ no 4 ∷
    Issue 0 1 (Storel 1 5) ⇒ no 5 ∷ Issue 0 1 (FenceRr 1 0) ⇒ no 5 ∷ Issue 0 1 (FenceWr 1 0) ⇒ no 5 ∷ Issue 0 2 (Storel 0 5) ⇒ done ∷
    Issue 0 2 (FenceWr 0 0) ⇒ no 5 ∷ Issue 0 3 (Loadl 0) ⇒ no 6 ∷ Issue 0 3 (Loadl 3) ⇒ no 7 ∷
    trip 0 (value 0 1 0) ∷ Issue 0 1 (FenceRr 1 0) ⇒ ack 0 1 ∷ []) ∷
    -- no such site; the queue is empty, or no such position
    "no-such-site-or-empty-queue" ∶ run sample (Retry 2 ⇒ no 2 ∷ Send 2 ⇒ no 2 ∷ Take 2 ⇒ no 2 ∷ Retry 1 ⇒ no 8 ∷ Send 1 ⇒ no 8 ∷ Take 1 ⇒ no 8 ∷ []) ∷
    "nothing-in-networks-and-memory" ∶ run sample (ArriveMemory 0 ⇒ no 8 ∷ Serve ⇒ no 8 ∷ SendBack ⇒ no 8 ∷ ArriveSite 0 ⇒ no 8 ∷ ArriveSite 4294967295 ⇒ no 8 ∷ []) ∷
    []

-- HANDLING

unfoldable pub handling_samples : List Sample
handling_samples =
    -- Loadl. If the pend entries hold this line, it must wait, though they have room.
    "loadl-waits-for-pending-line" ∶ run (sized 1 2 4 2 2 2) (
    Issue 0 1 (Loadl 0) ⇒ done ∷ Issue 0 2 (Loadl 1) ⇒ done ∷ shows (pending 0) (0 ∷ 0 ∷ []) ∷
    Issue 0 3 (Loadl 2) ⇒ done ∷ shows (pending 0) (0 ∷ 0 ∷ 0 ∷ 1 ∷ []) ∷ shows (going 0) (0 ∷ 0 ∷ 0 ∷ 0 ∷ 0 ∷ 1 ∷ []) ∷
    Retry 0 ⇒ no 9 ∷ trip 0 (value 0 1 0) ∷ shows (pending 0) (0 ∷ 1 ∷ []) ∷ Retry 0 ⇒ value 0 2 0 ∷ trip 0 (value 0 3 0) ∷ []) ∷
    -- Storel. Cached: set the word, mark it Dirty, acknowledge. Otherwise as Loadl, the value kept in the entry.
    "storel-hit-and-miss" ∶ run (sized 1 2 4 2 1 2) (
    Issue 0 1 (Storel 0 5) ⇒ done ∷ Issue 0 2 (Storel 1 6) ⇒ done ∷ Issue 0 3 (Storel 2 7) ⇒ done ∷ trip 0 (ack 0 1) ∷
    Issue 0 4 (Loadl 0) ⇒ value 0 4 5 ∷ Retry 0 ⇒ ack 0 2 ∷ Issue 0 4 (Loadl 1) ⇒ value 0 4 6 ∷ Retry 0 ⇒ done ∷ trip 0 (ack 0 3) ∷
    Issue 0 4 (Loadl 2) ⇒ value 0 4 7 ∷ Issue 0 4 (Loadl 3) ⇒ value 0 4 0 ∷ shows (memory_line 0) (0 ∷ 0 ∷ 0 ∷ 0 ∷ []) ∷ []) ∷
    -- Commit. Not cached and not pending: acknowledge, also where pend is full. Word Clean: acknowledge. Word Dirty: if pend is full it must wait;
    -- else the line moves to an entry, and comes back all Clean.
    "commit-of-clean-and-dirty-word" ∶ run (sized 1 2 4 2 1 1) (
    Issue 0 1 (Commit 0) ⇒ ack 0 1 ∷ Issue 0 1 (Storel 0 5) ⇒ done ∷ trip 0 (ack 0 1) ∷ Issue 0 2 (Commit 1) ⇒ ack 0 2 ∷
    Issue 0 2 (Loadl 2) ⇒ done ∷ Issue 0 3 (Commit 4) ⇒ ack 0 3 ∷ Issue 0 3 (Commit 0) ⇒ done ∷ Retry 0 ⇒ no 9 ∷
    Issue 0 4 (Loadl 0) ⇒ value 0 4 5 ∷ trip 0 (value 0 2 0) ∷ shows (memory_line 0) (0 ∷ 0 ∷ 0 ∷ 0 ∷ []) ∷
    Retry 0 ⇒ done ∷ shows (pending 0) (2 ∷ 0 ∷ []) ∷ shows (going 0) (1 ∷ 0 ∷ 0 ∷ []) ∷ Issue 0 4 (Loadl 0) ⇒ done ∷
    trip 0 (ack 0 3) ∷ shows (memory_line 0) (5 ∷ 0 ∷ 0 ∷ 0 ∷ []) ∷ Retry 0 ⇒ value 0 4 5 ∷ Issue 0 5 (Commit 0) ⇒ ack 0 5 ∷ []) ∷
    -- Commit. Not cached: if this line is pending it must wait.
    "commit-waits-for-pending-line" ∶ run (sized 1 2 4 1 2 1) (
    Issue 0 1 (Loadl 0) ⇒ done ∷ Issue 0 2 (Commit 1) ⇒ done ∷ Retry 0 ⇒ no 9 ∷ trip 0 (value 0 1 0) ∷ Retry 0 ⇒ ack 0 2 ∷ []) ∷
    -- Reconcile. Word Dirty: acknowledge, and the line stays.
    "reconcile-of-dirty-word" ∶ run sample (
    Issue 0 1 (Storel 0 5) ⇒ done ∷ trip 0 (ack 0 1) ∷ Issue 0 2 (Reconcile 0) ⇒ ack 0 2 ∷ Issue 0 2 (Loadl 0) ⇒ value 0 2 5 ∷ []) ∷
    -- Whole line Clean: drop the line, acknowledge.
    "reconcile-drops-clean-line" ∶ run sample (
    Issue 0 1 (Loadl 0) ⇒ done ∷ trip 0 (value 0 1 0) ∷ Issue 0 2 (Reconcile 1) ⇒ ack 0 2 ∷ shows (going 0) [] ∷
    Issue 0 2 (Loadl 0) ⇒ done ∷ shows (going 0) (0 ∷ 0 ∷ 0 ∷ []) ∷ []) ∷
    -- Word Clean and another word Dirty: if pend is full it must wait, as a Reconcile; else a write-back is queued and the line leaves the cache.
    "reconcile-writes-back" ∶ run (sized 1 2 4 2 1 1) (
    Issue 0 1 (Storel 0 5) ⇒ done ∷ trip 0 (ack 0 1) ∷ Issue 0 2 (Loadl 2) ⇒ done ∷ Issue 0 3 (Reconcile 5) ⇒ ack 0 3 ∷
    Issue 0 3 (Reconcile 1) ⇒ done ∷ Issue 0 4 (FenceWr 1 0) ⇒ ack 0 4 ∷ Issue 0 4 (Loadl 1) ⇒ no 6 ∷ Retry 0 ⇒ no 9 ∷
    trip 0 (value 0 2 0) ∷ Retry 0 ⇒ done ∷ shows (pending 0) (3 ∷ 0 ∷ []) ∷ shows (going 0) (1 ∷ 0 ∷ 0 ∷ []) ∷
    trip 0 (ack 0 3) ∷ shows (memory_line 0) (5 ∷ 0 ∷ 0 ∷ 0 ∷ []) ∷ shows (pending 0) [] ∷ Issue 0 4 (Loadl 1) ⇒ done ∷ []) ∷
    -- Not cached: if this line is pending it must wait, as a Reconcile.
    "reconcile-waits-for-pending-line" ∶ run (sized 1 2 4 1 2 1) (
    Issue 0 1 (Loadl 0) ⇒ done ∷ Issue 0 2 (Reconcile 1) ⇒ done ∷ Issue 0 3 (Loadl 1) ⇒ no 6 ∷ Retry 0 ⇒ no 9 ∷
    trip 0 (value 0 1 0) ∷ Retry 0 ⇒ ack 0 2 ∷ Issue 0 3 (Loadl 1) ⇒ done ∷ shows (pending 0) (0 ∷ 0 ∷ []) ∷ []) ∷
    -- The head of the stall queue is handled as if issued now: figure 4-4 is not looked at, or Loadl(0) would wait for the Reconcile(0) behind it.
    "retry-ignores-order" ∶ run (sized 1 2 4 1 1 2) (
    Issue 0 1 (Loadl 1) ⇒ done ∷ Issue 0 2 (Loadl 0) ⇒ done ∷ Issue 0 3 (Reconcile 0) ⇒ done ∷
    trip 0 (value 0 1 0) ∷ Retry 0 ⇒ value 0 2 0 ∷ Retry 0 ⇒ ack 0 3 ∷ Retry 0 ⇒ no 8 ∷ []) ∷
    -- it must wait and the stall queue is full: what need not wait is accepted beside it
    "full-stall-queue" ∶ run (sized 1 2 4 2 1 1) (
    Issue 0 1 (Loadl 0) ⇒ done ∷ trip 0 (value 0 1 0) ∷ Issue 0 2 (Loadl 2) ⇒ done ∷ Issue 0 3 (Loadl 4) ⇒ done ∷
    Issue 0 4 (Loadl 6) ⇒ no 7 ∷ Issue 0 4 (Storel 6 5) ⇒ no 7 ∷ Issue 0 4 (Commit 2) ⇒ no 7 ∷ Issue 0 4 (Reconcile 3) ⇒ no 7 ∷
    Issue 0 4 (Loadl 1) ⇒ value 0 4 0 ∷ Issue 0 4 (Storel 1 5) ⇒ ack 0 4 ∷ Issue 0 4 (FenceRr 0 0) ⇒ ack 0 4 ∷ Issue 0 4 (Commit 6) ⇒ ack 0 4 ∷
    Issue 0 4 (Commit 0) ⇒ ack 0 4 ∷ Issue 0 4 (Commit 1) ⇒ no 7 ∷ Issue 0 4 (Reconcile 1) ⇒ ack 0 4 ∷ Issue 0 4 (Reconcile 0) ⇒ no 7 ∷ []) ∷
    -- Every word of a line counts, the fourth too.
    "fourth-word-counts" ∶ run (sized 1 4 2 1 1 1) (
    Issue 0 1 (Storel 3 9) ⇒ done ∷ trip 0 (ack 0 1) ∷ Issue 0 2 (Reconcile 0) ⇒ done ∷ shows (going 0) (1 ∷ 0 ∷ 0 ∷ []) ∷ trip 0 (ack 0 2) ∷
    shows (memory_line 0) (0 ∷ 0 ∷ 0 ∷ 9 ∷ []) ∷ Issue 0 3 (Storel 3 8) ⇒ done ∷ trip 0 (ack 0 3) ∷ Issue 0 4 (Loadl 4) ⇒ done ∷ trip 0 (value 0 4 0) ∷
    shows (going 0) (1 ∷ 0 ∷ 0 ∷ []) ∷ []) ∷
    []

-- TAKE

unfoldable pub take_samples : List Sample
take_samples =
    -- Where caching displaces another line: if all Clean, it is dropped and the entry removed. For Loadl, for Storel.
    "loadl-displaces-clean-line" ∶ run sample (
    Issue 0 1 (Loadl 0) ⇒ done ∷ trip 0 (value 0 1 0) ∷ Issue 0 1 (Loadl 2) ⇒ done ∷ trip 0 (value 0 1 0) ∷
    shows (pending 0) [] ∷ shows (going 0) [] ∷ Issue 0 2 (Loadl 3) ⇒ value 0 2 0 ∷ Issue 0 2 (Loadl 0) ⇒ done ∷ []) ∷
    "storel-displaces-clean-line" ∶ run sample (
    Issue 0 1 (Loadl 0) ⇒ done ∷ trip 0 (value 0 1 0) ∷ Issue 0 1 (Storel 2 5) ⇒ done ∷ trip 0 (ack 0 1) ∷
    shows (pending 0) [] ∷ shows (going 0) [] ∷ Issue 0 2 (Loadl 2) ⇒ value 0 2 5 ∷ Issue 0 2 (Loadl 0) ⇒ done ∷ []) ∷
    -- If any word is Dirty, its write-back is queued and a voluntary entry replaces the entry, also where pend is 1. Its line is pending, and tag 0
    -- is free beside it. For a voluntary entry: remove it, no answer.
    "loadl-displaces-dirty-line" ∶ run sample (
    Issue 0 1 (Storel 1 5) ⇒ done ∷ trip 0 (ack 0 1) ∷ Issue 0 1 (Loadl 2) ⇒ done ∷ trip 0 (value 0 1 0) ∷
    shows (pending 0) (4 ∷ 0 ∷ []) ∷ shows (going 0) (1 ∷ 0 ∷ 0 ∷ []) ∷ shows left_now (0 ∷ 1 ∷ []) ∷
    Issue 0 0 (Loadl 3) ⇒ value 0 0 0 ∷ Issue 0 0 (Loadl 1) ⇒ done ∷
    Issue 0 0 (FenceWr 0 0) ⇒ no 5 ∷ trip 0 done ∷ shows (memory_line 0) (0 ∷ 5 ∷ 0 ∷ 0 ∷ []) ∷ shows (pending 0) [] ∷
    Retry 0 ⇒ done ∷ trip 0 (value 0 0 5) ∷ []) ∷
    -- the same for Storel
    "storel-displaces-dirty-line" ∶ run sample (
    Issue 0 1 (Storel 0 5) ⇒ done ∷ trip 0 (ack 0 1) ∷ Issue 0 2 (Storel 2 6) ⇒ done ∷ trip 0 (ack 0 2) ∷
    shows (pending 0) (4 ∷ 0 ∷ []) ∷ Issue 0 3 (Loadl 2) ⇒ value 0 3 6 ∷ Issue 0 3 (Loadl 3) ⇒ value 0 3 0 ∷
    trip 0 done ∷ shows (memory_line 0) (5 ∷ 0 ∷ 0 ∷ 0 ∷ []) ∷ shows (memory_line 1) (0 ∷ 0 ∷ 0 ∷ 0 ∷ []) ∷ []) ∷
    -- a voluntary entry's line is pending, with room in pend: Loadl, Commit and Reconcile wait
    "voluntary-line-is-pending" ∶ run (sized 1 2 4 1 2 4) (
    Issue 0 1 (Storel 0 5) ⇒ done ∷ trip 0 (ack 0 1) ∷ Issue 0 1 (Loadl 2) ⇒ done ∷ trip 0 (value 0 1 0) ∷
    Issue 0 0 (Loadl 0) ⇒ done ∷ Issue 0 1 (Commit 0) ⇒ done ∷ Issue 0 2 (Reconcile 1) ⇒ done ∷ shows (pending 0) (4 ∷ 0 ∷ []) ∷
    Issue 0 3 (Loadl 4) ⇒ done ∷ shows (pending 0) (4 ∷ 0 ∷ 0 ∷ 2 ∷ []) ∷ Retry 0 ⇒ no 9 ∷ trip 0 done ∷
    Retry 0 ⇒ done ∷ shows (pending 0) (0 ∷ 2 ∷ 0 ∷ 0 ∷ []) ∷ Retry 0 ⇒ no 9 ∷ []) ∷
    -- Acknowledgement for Commit: the entry's line goes back to the cache all Clean. Here it displaces a line that is all Clean.
    "commit-displaces-clean-line" ∶ run (sized 1 2 4 1 2 1) (
    Issue 0 1 (Storel 0 5) ⇒ done ∷ trip 0 (ack 0 1) ∷ Issue 0 2 (Commit 0) ⇒ done ∷ Issue 0 3 (Loadl 2) ⇒ done ∷
    shows (pending 0) (2 ∷ 0 ∷ 0 ∷ 1 ∷ []) ∷ Send 0 ⇒ done ∷ Send 0 ⇒ done ∷ ArriveMemory 1 ⇒ done ∷ Serve ⇒ done ∷
    SendBack ⇒ done ∷ ArriveSite 0 ⇒ done ∷ Take 0 ⇒ value 0 3 0 ∷ shows (pending 0) (2 ∷ 0 ∷ []) ∷ ArriveMemory 0 ⇒ done ∷ Serve ⇒ done ∷
    SendBack ⇒ done ∷ ArriveSite 0 ⇒ done ∷ Take 0 ⇒ ack 0 2 ∷ shows (pending 0) [] ∷ shows (going 0) [] ∷
    Issue 0 4 (Loadl 0) ⇒ value 0 4 5 ∷ Issue 0 4 (Loadl 2) ⇒ done ∷ []) ∷
    -- here it displaces one with a Dirty word
    "commit-displaces-dirty-line" ∶ run (sized 1 2 4 1 2 1) (
    Issue 0 1 (Storel 0 5) ⇒ done ∷ trip 0 (ack 0 1) ∷ Issue 0 2 (Commit 0) ⇒ done ∷ Issue 0 3 (Storel 2 6) ⇒ done ∷
    Send 0 ⇒ done ∷ Send 0 ⇒ done ∷ ArriveMemory 1 ⇒ done ∷ Serve ⇒ done ∷ SendBack ⇒ done ∷ ArriveSite 0 ⇒ done ∷
    Take 0 ⇒ ack 0 3 ∷ ArriveMemory 0 ⇒ done ∷ Serve ⇒ done ∷ SendBack ⇒ done ∷ ArriveSite 0 ⇒ done ∷ Take 0 ⇒ ack 0 2 ∷
    shows (pending 0) (4 ∷ 1 ∷ []) ∷ shows (going 0) (1 ∷ 0 ∷ 1 ∷ []) ∷ Issue 0 4 (Loadl 0) ⇒ value 0 4 5 ∷ trip 0 done ∷
    shows (memory_line 1) (6 ∷ 0 ∷ 0 ∷ 0 ∷ []) ∷ shows (memory_line 0) (5 ∷ 0 ∷ 0 ∷ 0 ∷ []) ∷ []) ∷
    -- a voluntary entry replaces the entry in the same position; the entries behind a removed one move up
    "voluntary-takes-same-position" ∶ run (sized 1 2 4 1 3 1) (
    Issue 0 1 (Storel 0 5) ⇒ done ∷ trip 0 (ack 0 1) ∷ Issue 0 1 (Loadl 2) ⇒ done ∷ Issue 0 2 (Loadl 4) ⇒ done ∷ Issue 0 3 (Loadl 6) ⇒ done ∷
    Send 0 ⇒ done ∷ Send 0 ⇒ done ∷ Send 0 ⇒ done ∷ ArriveMemory 1 ⇒ done ∷ Serve ⇒ done ∷ SendBack ⇒ done ∷
    ArriveSite 0 ⇒ done ∷ Take 0 ⇒ value 0 2 0 ∷ shows (pending 0) (0 ∷ 1 ∷ 4 ∷ 0 ∷ 0 ∷ 3 ∷ []) ∷ trip 0 (value 0 1 0) ∷
    shows (pending 0) (4 ∷ 0 ∷ 0 ∷ 3 ∷ []) ∷ ArriveMemory 1 ⇒ done ∷ Serve ⇒ done ∷ SendBack ⇒ done ∷ ArriveSite 0 ⇒ done ∷
    Take 0 ⇒ done ∷ shows (pending 0) (0 ∷ 3 ∷ []) ∷ shows (memory_line 0) (5 ∷ 0 ∷ 0 ∷ 0 ∷ []) ∷ []) ∷
    -- the most pend entries, all in use
    "five-entries-in-use" ∶ run (sized 1 2 6 1 5 1) (
    Issue 0 1 (Storel 0 5) ⇒ done ∷ trip 0 (ack 0 1) ∷ Issue 0 1 (Loadl 2) ⇒ done ∷ Issue 0 2 (Loadl 4) ⇒ done ∷
    Issue 0 3 (Loadl 6) ⇒ done ∷ Issue 0 4 (Loadl 8) ⇒ done ∷ Issue 0 5 (Loadl 10) ⇒ done ∷ trip 0 (value 0 1 0) ∷
    shows (pending 0) (4 ∷ 0 ∷ 0 ∷ 2 ∷ 0 ∷ 3 ∷ 0 ∷ 4 ∷ 0 ∷ 5 ∷ []) ∷ Issue 0 1 (Loadl 2) ⇒ value 0 1 0 ∷ []) ∷
    []

-- QUEUES, NETWORKS AND MEMORY

unfoldable pub queue_samples : List Sample
queue_samples =
    -- A step may take any position; those behind it move up one. Queues are first-in first-out, and a reply goes to its message's site.
    "any-position-and-first-in-first-out" ∶ run (sized 3 1 4 1 2 1) (
    Issue 0 1 (Loadl 1) ⇒ done ∷ Issue 1 1 (Loadl 2) ⇒ done ∷ Issue 2 1 (Loadl 3) ⇒ done ∷ Issue 0 2 (Loadl 0) ⇒ done ∷
    Send 0 ⇒ done ∷ Send 1 ⇒ done ∷ Send 2 ⇒ done ∷ Send 0 ⇒ done ∷ ArriveMemory 4 ⇒ no 8 ∷
    ArriveMemory 1 ⇒ done ∷ shows upward (0 ∷ 0 ∷ 1 ∷ 0 ∷ 2 ∷ 3 ∷ 0 ∷ 0 ∷ 0 ∷ []) ∷ ArriveMemory 1 ⇒ done ∷ Serve ⇒ done ∷ Serve ⇒ done ∷
    Serve ⇒ no 8 ∷ SendBack ⇒ done ∷ ArriveMemory 2 ⇒ no 8 ∷ ArriveMemory 1 ⇒ done ∷ ArriveMemory 0 ⇒ done ∷ Serve ⇒ done ∷
    Serve ⇒ done ∷ SendBack ⇒ done ∷ SendBack ⇒ done ∷ SendBack ⇒ done ∷ SendBack ⇒ no 8 ∷ ArriveSite 4 ⇒ no 8 ∷
    shows downward (2 ∷ 1 ∷ 2 ∷ 2 ∷ 2 ∷ 3 ∷ 2 ∷ 0 ∷ 0 ∷ 2 ∷ 0 ∷ 1 ∷ []) ∷ ArriveSite 2 ⇒ done ∷ ArriveSite 2 ⇒ done ∷ ArriveSite 1 ⇒ done ∷
    shows downward (2 ∷ 1 ∷ 2 ∷ []) ∷ Take 1 ⇒ no 8 ∷ Take 2 ⇒ value 2 1 0 ∷ Take 0 ⇒ value 0 2 0 ∷ Take 0 ⇒ value 0 1 0 ∷ Take 0 ⇒ no 8 ∷
    ArriveSite 0 ⇒ done ∷ Take 1 ⇒ value 1 1 0 ∷ []) ∷
    -- Address a is word a mod words of line a / words, of three words too.
    "address-of-three-words" ∶ run (sized 1 3 5 2 1 1) (
    Issue 0 1 (Storel 7 9) ⇒ done ∷ trip 0 (ack 0 1) ∷ Issue 0 2 (Loadl 6) ⇒ value 0 2 0 ∷ Issue 0 2 (Loadl 8) ⇒ value 0 2 0 ∷
    Issue 0 2 (Commit 7) ⇒ done ∷ trip 0 (ack 0 2) ∷ shows (memory_line 2) (0 ∷ 9 ∷ 0 ∷ 0 ∷ []) ∷ Issue 0 3 (Loadl 15) ⇒ no 4 ∷
    Issue 0 3 (Loadl 14) ⇒ done ∷ shows (going 0) (0 ∷ 0 ∷ 4 ∷ []) ∷ []) ∷
    -- A fetch is answered with the line's words.
    "fetch-brings-the-line" ∶ run (sized 2 4 2 1 1 1) (
    Issue 0 1 (Storel 4 1) ⇒ done ∷ trip 0 (ack 0 1) ∷ Issue 0 1 (Storel 6 3) ⇒ ack 0 1 ∷ Issue 0 1 (Storel 7 4294967295) ⇒ ack 0 1 ∷
    Issue 0 1 (Commit 6) ⇒ done ∷ trip 0 (ack 0 1) ∷ shows (memory_line 1) (1 ∷ 0 ∷ 3 ∷ 4294967295 ∷ []) ∷
    Issue 1 1 (Loadl 7) ⇒ done ∷ trip 1 (value 1 1 4294967295) ∷ Issue 1 1 (Loadl 4) ⇒ value 1 1 1 ∷ Issue 1 1 (Loadl 5) ⇒ value 1 1 0 ∷ []) ∷
    -- at the largest sizes: the last word of the last line, five entries and eight that wait, and no more
    "largest-system" ∶ run (sized 4 4 16 8 5 8) (
    Issue 3 1 (Storel 63 9) ⇒ done ∷ trip 3 (ack 3 1) ∷ Issue 3 2 (Commit 63) ⇒ done ∷ trip 3 (ack 3 2) ∷ shows (memory_line 15) (0 ∷ 0 ∷ 0 ∷ 9 ∷ []) ∷
    Issue 0 1 (Loadl 64) ⇒ no 4 ∷ Issue 0 1 (Loadl 63) ⇒ done ∷ trip 0 (value 0 1 9) ∷
    Issue 1 1 (Loadl 0) ⇒ done ∷ Issue 1 2 (Loadl 4) ⇒ done ∷ Issue 1 3 (Loadl 8) ⇒ done ∷ Issue 1 4 (Loadl 12) ⇒ done ∷
    Issue 1 5 (Loadl 16) ⇒ done ∷ Issue 1 6 (Loadl 20) ⇒ done ∷ Issue 1 7 (Loadl 24) ⇒ done ∷ Issue 1 8 (Loadl 28) ⇒ done ∷
    Issue 1 9 (Loadl 32) ⇒ done ∷ Issue 1 10 (Loadl 36) ⇒ done ∷ Issue 1 11 (Loadl 40) ⇒ done ∷ Issue 1 12 (Loadl 44) ⇒ done ∷
    Issue 1 13 (Loadl 48) ⇒ done ∷ Issue 1 14 (Loadl 52) ⇒ no 7 ∷ shows left_now (13 ∷ 5 ∷ []) ∷ Retry 1 ⇒ no 9 ∷
    trip 1 (value 1 1 0) ∷ Retry 1 ⇒ done ∷ Retry 1 ⇒ no 9 ∷ shows left_now (12 ∷ 5 ∷ []) ∷ []) ∷
    []

-- DRAIN

-- a message at each of its six places, and an instruction that waits
abbrev pub everywhere : List Act
everywhere =
    Issue 0 1 (Loadl 1) ⇒ done ∷ Issue 0 2 (Loadl 2) ⇒ done ∷ Issue 0 3 (Loadl 7) ⇒ done ∷ Issue 1 1 (Loadl 3) ⇒ done ∷
    Issue 1 2 (Loadl 4) ⇒ done ∷ Issue 2 1 (Loadl 5) ⇒ done ∷ Issue 2 2 (Loadl 6) ⇒ done ∷
    Send 0 ⇒ done ∷ ArriveMemory 0 ⇒ done ∷ Serve ⇒ done ∷ SendBack ⇒ done ∷ ArriveSite 0 ⇒ done ∷
    Send 1 ⇒ done ∷ ArriveMemory 0 ⇒ done ∷ Serve ⇒ done ∷ SendBack ⇒ done ∷ Send 2 ⇒ done ∷ ArriveMemory 0 ⇒ done ∷ Serve ⇒ done ∷
    Send 0 ⇒ done ∷ ArriveMemory 0 ⇒ done ∷ Send 1 ⇒ done ∷ []

-- the steps' bytes from there, a line for each message
abbrev pub from_everywhere : List ℕ
from_everywhere =
    7 ∷ 0 ∷
    6 ∷ 0 ∷ 7 ∷ 1 ∷
    5 ∷ 6 ∷ 0 ∷ 7 ∷ 2 ∷
    4 ∷ 5 ∷ 6 ∷ 0 ∷ 7 ∷ 0 ∷
    3 ∷ 0 ∷ 4 ∷ 5 ∷ 6 ∷ 0 ∷ 7 ∷ 1 ∷
    2 ∷ 2 ∷ 3 ∷ 0 ∷ 4 ∷ 5 ∷ 6 ∷ 0 ∷ 7 ∷ 2 ∷
    1 ∷ 0 ∷ 2 ∷ 0 ∷ 3 ∷ 0 ∷ 4 ∷ 5 ∷ 6 ∷ 0 ∷ 7 ∷ 0 ∷ []

unfoldable pub drain_samples : List Sample
drain_samples =
    -- It stops when no step is accepted. A budget of 0 asks for no room.
    "drain-of-quiet-system" ∶ run sample (drains 0 [] (0 ∷ 0 ∷ 1 ∷ 0 ∷ []) [] ∷ drains 2 (9 ∷ 9 ∷ 9 ∷ 9 ∷ []) (0 ∷ 0 ∷ 1 ∷ 0 ∷ []) (9 ∷ 9 ∷ 9 ∷ 9 ∷ []) ∷ []) ∷
    -- It refuses with 11 exactly when the buffer has fewer than twice the budget's bytes. It stops when the steps taken reach its budget; bytes past
    -- the length stay; quiet may come with the budget's last step.
    "drain-budget-and-buffer" ∶ run sample (
    Issue 0 7 (Loadl 3) ⇒ done ∷ drains 0 [] (0 ∷ 0 ∷ 0 ∷ 0 ∷ []) [] ∷
    drains 3 (9 ∷ 9 ∷ 9 ∷ 9 ∷ 9 ∷ []) (11 ∷ 0 ∷ 0 ∷ 0 ∷ []) (9 ∷ 9 ∷ 9 ∷ 9 ∷ 9 ∷ []) ∷
    drains 3 (9 ∷ 9 ∷ 9 ∷ 9 ∷ 9 ∷ 9 ∷ 9 ∷ []) (0 ∷ 3 ∷ 0 ∷ 5 ∷ []) (2 ∷ 0 ∷ 3 ∷ 0 ∷ 4 ∷ 9 ∷ 9 ∷ []) ∷
    drains 3 (9 ∷ 9 ∷ 9 ∷ 9 ∷ 9 ∷ 9 ∷ []) (0 ∷ 3 ∷ 1 ∷ 5 ∷ []) (5 ∷ 6 ∷ 0 ∷ 7 ∷ 0 ∷ 9 ∷ []) ∷ Issue 0 7 (Loadl 2) ⇒ value 0 7 0 ∷ []) ∷
    -- the lesser of the budget and 656
    "drain-of-656" ∶ run sample (
    Issue 0 7 (Loadl 3) ⇒ done ∷ drains 656 (replicate 1311 9) (11 ∷ 0 ∷ 0 ∷ 0 ∷ []) (replicate 1311 9) ∷
    drains 657 (replicate 1311 9) (11 ∷ 0 ∷ 0 ∷ 0 ∷ []) (replicate 1311 9) ∷
    drains 18446744073709551615 (replicate 1312 9) (0 ∷ 6 ∷ 1 ∷ 10 ∷ []) (2 ∷ 0 ∷ 3 ∷ 0 ∷ 4 ∷ 5 ∷ 6 ∷ 0 ∷ 7 ∷ 0 ∷ replicate 1302 9) ∷ []) ∷
    -- the state is not sound: 1 before 11
    "drain-of-unsound-state" ∶ fresh (sized 5 2 4 1 1 1) 12 (drains 3 [] (1 ∷ 0 ∷ 0 ∷ 0 ∷ []) [] ∷ []) ∷
    -- The drain tries kinds 7, 6, 5, 4, 3, 2, 1, takes the first step that would be accepted, and starts over.
    "drain-order-of-kinds" ∶ run (sized 3 1 8 1 2 1) (everywhere ++ (drains 28 (replicate 56 9) (0 ∷ 28 ∷ 1 ∷ 47 ∷ []) (from_everywhere ++ replicate 9 9) ∷ [])) ∷
    -- sites ascending and position 0 only
    "drain-order-of-sites" ∶ run sample (
    Issue 0 1 (Loadl 0) ⇒ done ∷ Issue 1 1 (Loadl 0) ⇒ done ∷ drains 1 (9 ∷ 9 ∷ []) (0 ∷ 1 ∷ 0 ∷ 2 ∷ []) (2 ∷ 0 ∷ []) ∷
    Send 1 ⇒ done ∷ drains 1 (9 ∷ 9 ∷ []) (0 ∷ 1 ∷ 0 ∷ 2 ∷ []) (3 ∷ 0 ∷ []) ∷ shows upward (0 ∷ 1 ∷ 0 ∷ []) ∷ ArriveMemory 0 ⇒ done ∷
    Serve ⇒ done ∷ Serve ⇒ done ∷ SendBack ⇒ done ∷ SendBack ⇒ done ∷ drains 1 (9 ∷ 9 ∷ []) (0 ∷ 1 ∷ 0 ∷ 2 ∷ []) (6 ∷ 0 ∷ []) ∷
    shows downward (2 ∷ 1 ∷ 0 ∷ []) ∷ ArriveSite 0 ⇒ done ∷ Issue 0 2 (Loadl 1) ⇒ done ∷ Issue 1 2 (Loadl 1) ⇒ done ∷
    drains 1 (9 ∷ 9 ∷ []) (0 ∷ 1 ∷ 0 ∷ 2 ∷ []) (7 ∷ 0 ∷ []) ∷ drains 1 (9 ∷ 9 ∷ []) (0 ∷ 1 ∷ 0 ∷ 2 ∷ []) (7 ∷ 1 ∷ []) ∷
    drains 1 (9 ∷ 9 ∷ []) (0 ∷ 1 ∷ 0 ∷ 2 ∷ []) (1 ∷ 0 ∷ []) ∷ drains 1 (9 ∷ 9 ∷ []) (0 ∷ 1 ∷ 1 ∷ 2 ∷ []) (1 ∷ 1 ∷ []) ∷ []) ∷
    []

-- READING A RECORD

unfoldable pub read_samples : List Sample
read_samples =
    -- the 21 bytes of "Replay"
    "record-of-sample-run" ∶ recorded sample (Issue 0 7 (Loadl 3) ∷ Send 0 ∷ ArriveMemory 0 ∷ Serve ∷ SendBack ∷ ArriveSite 0 ∷ Take 0 ∷ []) (
    0x02 ∷ 0x02 ∷ 0x04 ∷ 0x01 ∷ 0x01 ∷ 0x01 ∷ 0x00 ∷ 0x00 ∷ 0x00 ∷ 0x07 ∷ 0x03 ∷ 0x02 ∷ 0x00 ∷ 0x03 ∷ 0x00 ∷ 0x04 ∷ 0x05 ∷ 0x06 ∷ 0x00 ∷ 0x07 ∷ 0x00 ∷
    []) ∷
    -- each kind of step and of instruction; sites, addresses and positions out of range are read all the same
    "record-of-each-kind" ∶ recorded (sized 4 4 16 8 5 8) (
    Issue 1 300 (Storel 128 4294967295) ∷ Issue 0 0 (Commit 1) ∷ Issue 0 1 (Reconcile 2) ∷ Issue 3 2 (FenceRr 3 4) ∷ Issue 3 2 (FenceRw 5 6) ∷
    Issue 3 2 (FenceWr 7 8) ∷ Issue 3 2 (FenceWw 9 10) ∷ Retry 3 ∷ Send 200 ∷ ArriveMemory 19 ∷ ArriveSite 128 ∷ Take 4294967295 ∷ []) (
    0x04 ∷ 0x04 ∷ 0x10 ∷ 0x08 ∷ 0x05 ∷ 0x08 ∷
    0x00 ∷ 0x01 ∷ 0x01 ∷ 0xAC ∷ 0x02 ∷ 0x80 ∷ 0x01 ∷ 0xFF ∷ 0xFF ∷ 0xFF ∷ 0xFF ∷ 0x0F ∷ 0x00 ∷ 0x00 ∷ 0x02 ∷ 0x00 ∷ 0x01 ∷
    0x00 ∷ 0x00 ∷ 0x03 ∷ 0x01 ∷ 0x02 ∷ 0x00 ∷ 0x03 ∷ 0x04 ∷ 0x02 ∷ 0x03 ∷ 0x04 ∷ 0x00 ∷ 0x03 ∷ 0x05 ∷ 0x02 ∷ 0x05 ∷ 0x06 ∷
    0x00 ∷ 0x03 ∷ 0x06 ∷ 0x02 ∷ 0x07 ∷ 0x08 ∷ 0x00 ∷ 0x03 ∷ 0x07 ∷ 0x02 ∷ 0x09 ∷ 0x0A ∷
    0x01 ∷ 0x03 ∷ 0x02 ∷ 0xC8 ∷ 0x01 ∷ 0x03 ∷ 0x13 ∷ 0x06 ∷ 0x80 ∷ 0x01 ∷ 0x07 ∷ 0xFF ∷ 0xFF ∷ 0xFF ∷ 0xFF ∷ 0x0F ∷
    []) ∷
    -- An empty record: 10 at 0. Sizes alone: no step.
    "sizes-of-empty-record" ∶ reads_sizes [] (10 ∷ 0 ∷ []) ∷
    "record-of-sizes-alone" ∶ recorded (sized 1 1 1 1 1 1) [] (1 ∷ 1 ∷ 1 ∷ 1 ∷ 1 ∷ 1 ∷ []) ∷
    -- For a record's sizes 10 is looked at before 12, and 12 before any step is read.
    "sizes-cut-short-and-outside" ∶ reads_sizes (0x05 ∷ 0x02 ∷ 0x04 ∷ 0x01 ∷ 0x01 ∷ []) (10 ∷ 5 ∷ []) ∷
    "sizes-outside" ∶ reads_sizes (0x05 ∷ 0x02 ∷ 0x04 ∷ 0x01 ∷ 0x01 ∷ 0x01 ∷ 0x09 ∷ []) (12 ∷ 0 ∷ []) ∷
    "sizes-not-shortest-and-outside" ∶ reads_sizes (0x02 ∷ 0x02 ∷ 0x00 ∷ 0x01 ∷ 0x01 ∷ 0x80 ∷ 0x00 ∷ []) (10 ∷ 5 ∷ []) ∷
    -- a size is a number as any other: 258 is not 2, and the largest gives 12, one more 10
    "size-258-is-not-2" ∶ reads_sizes (0x82 ∷ 0x02 ∷ 0x02 ∷ 0x04 ∷ 0x01 ∷ 0x01 ∷ 0x01 ∷ []) (12 ∷ 0 ∷ []) ∷
    "size-of-largest-number" ∶ reads_sizes (0xFF ∷ 0xFF ∷ 0xFF ∷ 0xFF ∷ 0x0F ∷ 0x02 ∷ 0x04 ∷ 0x01 ∷ 0x01 ∷ 0x01 ∷ []) (12 ∷ 0 ∷ []) ∷
    "size-past-largest-number" ∶ reads_sizes (0x02 ∷ 0x80 ∷ 0x80 ∷ 0x80 ∷ 0x80 ∷ 0x10 ∷ 0x02 ∷ 0x04 ∷ 0x01 ∷ 0x01 ∷ 0x01 ∷ []) (10 ∷ 1 ∷ []) ∷
    -- The place of 10 is the first byte of the number that is cut short, not shortest, too large,
    "take-site-cut-short" ∶ reads_step (0x04 ∷ 0x07 ∷ 0x80 ∷ []) 1 (10 ∷ 2 ∷ []) ∷
    "take-site-not-shortest" ∶ reads_step (0x04 ∷ 0x07 ∷ 0x81 ∷ 0x00 ∷ []) 1 (10 ∷ 2 ∷ []) ∷
    "arrive-position-too-large" ∶ reads_step (0x03 ∷ 0xFF ∷ 0xFF ∷ 0xFF ∷ 0xFF ∷ 0x10 ∷ []) 0 (10 ∷ 1 ∷ []) ∷
    "storel-value-too-large" ∶ reads_step (0x00 ∷ 0x00 ∷ 0x01 ∷ 0x07 ∷ 0x03 ∷ 0xFF ∷ 0xFF ∷ 0xFF ∷ 0xFF ∷ 0x10 ∷ []) 0 (10 ∷ 5 ∷ []) ∷
    -- or a step or instruction number above 7;
    "step-number-8" ∶ reads_step (0x04 ∷ 0x08 ∷ 0x00 ∷ []) 1 (10 ∷ 1 ∷ []) ∷
    "step-number-128" ∶ reads_step (0x80 ∷ 0x01 ∷ 0x00 ∷ []) 0 (10 ∷ 0 ∷ []) ∷
    "instruction-number-8" ∶ reads_step (0x00 ∷ 0x80 ∷ 0x01 ∷ 0x08 ∷ 0x80 ∷ []) 0 (10 ∷ 3 ∷ []) ∷
    "instruction-number-260" ∶ reads_step (0x00 ∷ 0x01 ∷ 0x84 ∷ 0x02 ∷ 0x07 ∷ 0x03 ∷ []) 0 (10 ∷ 2 ∷ []) ∷
    "site-fault-before-instruction" ∶ reads_step (0x00 ∷ 0x80 ∷ 0x00 ∷ 0x08 ∷ []) 0 (10 ∷ 1 ∷ []) ∷
    -- for a number of which no byte is there, it is the record's length.
    "issue-number-alone" ∶ reads_step (0x00 ∷ []) 0 (10 ∷ 1 ∷ []) ∷
    "loadl-without-address" ∶ reads_step (0x00 ∷ 0x00 ∷ 0x00 ∷ 0x07 ∷ []) 0 (10 ∷ 4 ∷ []) ∷
    "storel-without-value" ∶ reads_step (0x00 ∷ 0x00 ∷ 0x01 ∷ 0x07 ∷ 0x03 ∷ []) 0 (10 ∷ 5 ∷ []) ∷
    "fence-without-second-address" ∶ reads_step (0x00 ∷ 0x00 ∷ 0x07 ∷ 0x07 ∷ 0x03 ∷ []) 0 (10 ∷ 5 ∷ []) ∷
    "take-without-site" ∶ reads_step (0x04 ∷ 0x07 ∷ []) 1 (10 ∷ 2 ∷ []) ∷
    -- Reading a step at the record's length answers "end"; from beyond it, 10 with the offset given.
    "step-at-offset" ∶ reads_step (0x04 ∷ 0x05 ∷ []) 1 (0 ∷ 2 ∷ 5 ∷ []) ∷
    "step-at-the-end" ∶ reads_step (0x04 ∷ 0x05 ∷ []) 2 [] ∷
    "step-beyond-the-end" ∶ reads_step (0x04 ∷ 0x05 ∷ []) 3 (10 ∷ 3 ∷ []) ∷
    "step-of-empty-record" ∶ reads_step [] 0 [] ∷
    "step-far-beyond-the-end" ∶ reads_step [] 65537 (10 ∷ 65537 ∷ []) ∷
    -- 13 is looked at before 10: the record is longer than 65,536 bytes.
    "sizes-of-65536-bytes" ∶ reads_sizes (replicate 65536 0x80) (10 ∷ 0 ∷ []) ∷
    "sizes-of-65537-bytes" ∶ reads_sizes (replicate 65537 0x80) (13 ∷ 65536 ∷ []) ∷
    "end-at-65536" ∶ reads_step (replicate 65536 0x80) 65536 [] ∷
    "step-of-65537-bytes" ∶ reads_step (replicate 65537 0x80) 65537 (13 ∷ 65536 ∷ []) ∷
    []

-- WRITING A RECORD

unfoldable pub write_samples : List Sample
write_samples =
    -- 11: shorter than the bytes to be written. No byte is altered by a refusal, nor a byte that is not written.
    "write-sizes-short-buffer" ∶ writes_sizes sample (9 ∷ 9 ∷ 9 ∷ 9 ∷ 9 ∷ []) (11 ∷ 0 ∷ []) (9 ∷ 9 ∷ 9 ∷ 9 ∷ 9 ∷ []) ∷
    "write-sizes-exact-buffer" ∶ writes_sizes sample (9 ∷ 9 ∷ 9 ∷ 9 ∷ 9 ∷ 9 ∷ []) (0 ∷ 6 ∷ []) (2 ∷ 2 ∷ 4 ∷ 1 ∷ 1 ∷ 1 ∷ []) ∷
    "write-sizes-longer-buffer" ∶ writes_sizes sample (9 ∷ 9 ∷ 9 ∷ 9 ∷ 9 ∷ 9 ∷ 9 ∷ 9 ∷ []) (0 ∷ 6 ∷ []) (2 ∷ 2 ∷ 4 ∷ 1 ∷ 1 ∷ 1 ∷ 9 ∷ 9 ∷ []) ∷
    "write-step-at-offset" ∶ writes_step (Send 300) (9 ∷ 9 ∷ 9 ∷ 9 ∷ 9 ∷ []) 1 (0 ∷ 4 ∷ []) (9 ∷ 0x02 ∷ 0xAC ∷ 0x02 ∷ 9 ∷ []) ∷
    "write-step-exact-buffer" ∶ writes_step (Send 300) (9 ∷ 9 ∷ 9 ∷ 9 ∷ []) 1 (0 ∷ 4 ∷ []) (9 ∷ 0x02 ∷ 0xAC ∷ 0x02 ∷ []) ∷
    "write-step-short-buffer" ∶ writes_step (Send 300) (9 ∷ 9 ∷ 9 ∷ []) 1 (11 ∷ 0 ∷ []) (9 ∷ 9 ∷ 9 ∷ []) ∷
    "write-step-empty-buffer" ∶ writes_step Serve [] 0 (11 ∷ 0 ∷ []) [] ∷
    -- The writer looks at 12, then 13, then 11.
    "write-five-sites" ∶ writes_sizes (sized 5 2 4 1 1 1) [] (12 ∷ 0 ∷ []) [] ∷
    "write-no-stall-entries" ∶ writes_sizes (sized 2 2 4 1 1 0) (9 ∷ 9 ∷ []) (12 ∷ 0 ∷ []) (9 ∷ 9 ∷ []) ∷
    "write-past-65536" ∶ writes_step (Send 300) (9 ∷ []) 65534 (13 ∷ 65536 ∷ []) (9 ∷ []) ∷
    "write-up-to-65536-short-buffer" ∶ writes_step (Send 300) (9 ∷ []) 65533 (11 ∷ 0 ∷ []) (9 ∷ []) ∷
    []

-- REPLAY

unfoldable pub replay_samples : List Sample
replay_samples =
    -- the sample of "Replay"
    "listing-of-sample-run" ∶ lists (
    0x02 ∷ 0x02 ∷ 0x04 ∷ 0x01 ∷ 0x01 ∷ 0x01 ∷ 0x00 ∷ 0x00 ∷ 0x00 ∷ 0x07 ∷ 0x03 ∷ 0x02 ∷ 0x00 ∷ 0x03 ∷ 0x00 ∷ 0x04 ∷ 0x05 ∷ 0x06 ∷ 0x00 ∷ 0x07 ∷ 0x00 ∷ []
    ) "sites 2 words 2 lines 4 sets 1 pend 1 stall 1\n1 issue 0\n2 send 0\n3 arrive-memory 0\n4 serve 0\n5 send-back 0\n6 arrive-site 0\n7 take 0 answer 0 7 0\nleft 0 0\n" ∷
    -- An empty record: `record 10 at 0`. Sizes alone: no step, `left 0 0`.
    "listing-of-empty-record" ∶ lists [] "record 10 at 0\n" ∷
    "listing-of-sizes-alone" ∶ lists (0x04 ∷ 0x04 ∷ 0x10 ∷ 0x08 ∷ 0x05 ∷ 0x08 ∷ []) "sites 4 words 4 lines 16 sets 8 pend 5 stall 8\nleft 0 0\n" ∷
    -- with 13, with 12 or with a fault in the sizes that line is the only one
    "listing-of-65537-bytes" ∶ lists (replicate 65537 0x01) "record 13 at 65536\n" ∷
    "listing-of-sizes-outside" ∶ lists (0x02 ∷ 0x02 ∷ 0x04 ∷ 0x01 ∷ 0x01 ∷ 0x09 ∷ 0x04 ∷ []) "record 12 at 0\n" ∷
    "listing-of-faulty-sizes" ∶ lists (0x02 ∷ 0x02 ∷ 0x04 ∷ 0x01 ∷ 0x81 ∷ []) "record 10 at 4\n" ∷
    -- the steps before the fault are printed
    "listing-up-to-a-fault" ∶ lists (0x02 ∷ 0x02 ∷ 0x04 ∷ 0x01 ∷ 0x01 ∷ 0x01 ∷ 0x00 ∷ 0x00 ∷ 0x00 ∷ 0x07 ∷ 0x03 ∷ 0x04 ∷ 0x07 ∷ 0x80 ∷ 0x00 ∷ [])
    "sites 2 words 2 lines 4 sets 1 pend 1 stall 1\n1 issue 0\n2 serve 8\nrecord 10 at 13\n" ∷
    -- an acknowledgement, a retry, the longest tag, and what is left: an instruction that waits, one with an entry, and its message
    "listing-of-ack-and-retry" ∶ lists (
    0x01 ∷ 0x01 ∷ 0x02 ∷ 0x01 ∷ 0x01 ∷ 0x01 ∷ 0x00 ∷ 0x00 ∷ 0x04 ∷ 0xFF ∷ 0xFF ∷ 0xFF ∷ 0xFF ∷ 0x0F ∷ 0x00 ∷ 0x01 ∷ 0x00 ∷ 0x00 ∷ 0x00 ∷ 0x01 ∷ 0x01 ∷
    0x00 ∷ 0x00 ∷ 0x00 ∷ 0x02 ∷ 0x00 ∷ 0x01 ∷ 0x00 ∷ []
    )
    "sites 1 words 1 lines 2 sets 1 pend 1 stall 1\n1 issue 0 answer 0 4294967295 ack\n2 issue 0\n3 issue 0\n4 retry 9\nleft 2 1\n" ∷
    []

-- THE TABLE

unfoldable pub table : List Sample
table =
    number_samples ++ (sizes_samples ++ (protocol_samples ++ (issue_samples ++ (handling_samples ++ (take_samples ++
    (queue_samples ++ (drain_samples ++ (read_samples ++ (write_samples ++ (replay_samples ++ sound_samples))))))))))
