-- Listings: every step name done and refused, answers whose numbers are all different, what is left in every place, and faults.
use Rattle.std.specs.Prelude.{List, [], ◌∷◌}
use Rattle.model.specs.Sampling.{Sample, ◌∶◌, lists}

unfoldable pub listed_rows : List Sample
listed_rows =
    -- each place has one message, one instruction waits
    "listing-left-in-all-six-places" ∶ lists (
    3 ∷ 1 ∷ 8 ∷ 1 ∷ 2 ∷ 1 ∷ 0 ∷ 0 ∷ 0 ∷ 1 ∷ 1 ∷ 0 ∷ 0 ∷ 0 ∷ 2 ∷ 2 ∷ 0 ∷ 0 ∷ 0 ∷ 3 ∷ 7 ∷ 0 ∷ 1 ∷ 0 ∷ 1 ∷ 3 ∷ 0 ∷ 1 ∷ 0 ∷ 2 ∷ 4 ∷
    0 ∷ 2 ∷ 0 ∷ 1 ∷ 5 ∷ 0 ∷ 2 ∷ 0 ∷ 2 ∷ 6 ∷ 2 ∷ 0 ∷ 3 ∷ 0 ∷ 4 ∷ 5 ∷ 6 ∷ 0 ∷ 2 ∷ 1 ∷ 3 ∷ 0 ∷ 4 ∷ 5 ∷ 2 ∷ 2 ∷ 3 ∷ 0 ∷ 4 ∷ 2 ∷ 0 ∷
    3 ∷ 0 ∷ 2 ∷ 1 ∷ [])
    "sites 3 words 1 lines 8 sets 1 pend 2 stall 1\n1 issue 0\n2 issue 0\n3 issue 0\n4 issue 0\n5 issue 0\n6 issue 0\n7 issue 0\n8 send 0\n9 arrive-memory 0\n10 serve 0\n11 send-back 0\n12 arrive-site 0\n13 send 0\n14 arrive-memory 0\n15 serve 0\n16 send-back 0\n17 send 0\n18 arrive-memory 0\n19 serve 0\n20 send 0\n21 arrive-memory 0\n22 send 0\nleft 7 6\n" ∷
    -- an answer to site 2 under tag 130 of value 777
    "listing-answers-with-site-tag-and-value" ∶ lists (
    3 ∷ 4 ∷ 12 ∷ 3 ∷ 4 ∷ 3 ∷ 0 ∷ 2 ∷ 1 ∷ 31 ∷ 22 ∷ 137 ∷ 6 ∷ 2 ∷ 2 ∷ 3 ∷ 0 ∷ 4 ∷ 5 ∷ 6 ∷ 0 ∷ 7 ∷ 2 ∷ 0 ∷ 2 ∷ 0 ∷ 130 ∷ 1 ∷ 22 ∷
    0 ∷ 1 ∷ 4 ∷ 32 ∷ 7 ∷ 8 ∷ 0 ∷ 2 ∷ 3 ∷ 33 ∷ 22 ∷ [])
    "sites 3 words 4 lines 12 sets 3 pend 4 stall 3\n1 issue 0\n2 send 0\n3 arrive-memory 0\n4 serve 0\n5 send-back 0\n6 arrive-site 0\n7 take 0 answer 2 31 ack\n8 issue 0 answer 2 130 777\n9 issue 0 answer 1 32 ack\n10 issue 0 answer 2 33 ack\nleft 0 0\n" ∷
    -- each step name with a refusal
    "listing-of-each-step-refused" ∶ lists (
    3 ∷ 4 ∷ 12 ∷ 3 ∷ 4 ∷ 3 ∷ 0 ∷ 3 ∷ 0 ∷ 1 ∷ 0 ∷ 0 ∷ 2 ∷ 0 ∷ 1 ∷ 48 ∷ 1 ∷ 2 ∷ 2 ∷ 2 ∷ 3 ∷ 0 ∷ 4 ∷ 5 ∷ 6 ∷ 0 ∷ 7 ∷ 2 ∷ 7 ∷ 3 ∷ [])
    "sites 3 words 4 lines 12 sets 3 pend 4 stall 3\n1 issue 2\n2 issue 4\n3 retry 8\n4 send 8\n5 arrive-memory 8\n6 serve 8\n7 send-back 8\n8 arrive-site 8\n9 take 8\n10 take 2\nleft 0 0\n" ∷
    -- numbers 5, 6, 7 and 9, and a retry that is answered
    "listing-of-a-retry-that-is-done" ∶ lists (
    2 ∷ 2 ∷ 4 ∷ 1 ∷ 1 ∷ 1 ∷ 0 ∷ 1 ∷ 0 ∷ 9 ∷ 1 ∷ 0 ∷ 1 ∷ 0 ∷ 9 ∷ 0 ∷ 0 ∷ 1 ∷ 1 ∷ 8 ∷ 1 ∷ 5 ∷ 0 ∷ 1 ∷ 1 ∷ 8 ∷ 0 ∷ 5 ∷ 0 ∷ 1 ∷ 0 ∷
    7 ∷ 3 ∷ 1 ∷ 1 ∷ 2 ∷ 1 ∷ 3 ∷ 0 ∷ 4 ∷ 5 ∷ 6 ∷ 0 ∷ 7 ∷ 1 ∷ 1 ∷ 1 ∷ [])
    "sites 2 words 2 lines 4 sets 1 pend 1 stall 1\n1 issue 0\n2 issue 5\n3 issue 6\n4 issue 0\n5 issue 7\n6 retry 9\n7 send 0\n8 arrive-memory 0\n9 serve 0\n10 send-back 0\n11 arrive-site 0\n12 take 0 answer 1 9 0\n13 retry 0 answer 1 8 ack\nleft 0 0\n" ∷
    -- no instruction is outstanding and one message is under way
    "listing-left-with-a-voluntary-entry" ∶ lists (
    2 ∷ 2 ∷ 4 ∷ 1 ∷ 1 ∷ 1 ∷ 0 ∷ 0 ∷ 1 ∷ 1 ∷ 1 ∷ 5 ∷ 2 ∷ 0 ∷ 3 ∷ 0 ∷ 4 ∷ 5 ∷ 6 ∷ 0 ∷ 7 ∷ 0 ∷ 0 ∷ 0 ∷ 0 ∷ 2 ∷ 2 ∷ 2 ∷ 0 ∷ 3 ∷ 0 ∷
    4 ∷ 5 ∷ 6 ∷ 0 ∷ 7 ∷ 0 ∷ [])
    "sites 2 words 2 lines 4 sets 1 pend 1 stall 1\n1 issue 0\n2 send 0\n3 arrive-memory 0\n4 serve 0\n5 send-back 0\n6 arrive-site 0\n7 take 0 answer 0 1 ack\n8 issue 0\n9 send 0\n10 arrive-memory 0\n11 serve 0\n12 send-back 0\n13 arrive-site 0\n14 take 0 answer 0 2 0\nleft 0 1\n" ∷
    -- a fault in the first step
    "listing-of-an-instruction-above-7" ∶ lists (
    2 ∷ 2 ∷ 4 ∷ 1 ∷ 1 ∷ 1 ∷ 0 ∷ 1 ∷ 8 ∷ 1 ∷ 1 ∷ [])
    "sites 2 words 2 lines 4 sets 1 pend 1 stall 1\nrecord 10 at 8\n" ∷
    -- each size in its place, and the step before the fault
    "listing-of-a-fault-in-the-second-step" ∶ lists (
    4 ∷ 3 ∷ 16 ∷ 7 ∷ 5 ∷ 8 ∷ 4 ∷ 0 ∷ 1 ∷ 0 ∷ 135 ∷ 0 ∷ [])
    "sites 4 words 3 lines 16 sets 7 pend 5 stall 8\n1 serve 8\nrecord 10 at 10\n" ∷
    []
