-- What an issue and a retry write, field by field: each action of document 01's "Handling", at site 2 of the scene.
use Rattle.std.specs.Prelude.{List, [], ◌∷◌, ◌++◌, true, false}
use Rattle.model.specs.declared.Instruction.TheVariants.{Loadl, Storel, Commit, Reconcile, FenceRr, FenceRw, FenceWr, FenceWw}
use Rattle.model.specs.declared.Step.TheVariants.{Issue, Retry}
use Rattle.model.specs.Fresh.{no_values, no_marks, no_place}
use Rattle.model.specs.Sampling.{done, value, ack, no, Act, Sample, ◌∶◌, keeping, standing}
use Rattle.model.specs.Broken.{with_waiting}
use Rattle.samples.specs.Scene.{words, marks, place, entry, waits, fetch_by, write_back_by, entries2, scene, cached_at, pending_at, waiting_at, going_out, coming_in, everything, beside}

-- AN ISSUE

-- what stands in site 2's places, entries, stall queue and outgoing queue, where the issue leaves it alone
abbrev pub cached2 : Act
cached2 = cached_at 2 (place 9 (marks false true false true) (words 91 92 93 94)) (place 4 no_marks (words 41 42 43 44)) no_place

abbrev pub waiting2 : Act
waiting2 = waiting_at 2 (waits 1 2 1 23 203 ∷ waits 3 6 2 24 0 ∷ [])

unfoldable pub issued_rows : List Sample
issued_rows =
    "loadl-hit-of-each-word" ∶ standing scene (
    keeping everything (Issue 2 31 (Loadl 36)) (value 2 31 91) ∷ keeping everything (Issue 2 31 (Loadl 37)) (value 2 31 92) ∷
    keeping everything (Issue 2 31 (Loadl 38)) (value 2 31 93) ∷ keeping everything (Issue 2 31 (Loadl 39)) (value 2 31 94) ∷
    keeping everything (Issue 1 31 (Loadl 28)) (value 1 31 71) ∷ keeping everything (Issue 1 31 (Loadl 23)) (value 1 31 54) ∷ []) ∷
    "storel-hit-sets-word-and-mark" ∶ standing scene (
    keeping (beside 0 1) (Issue 2 31 (Storel 38 999)) (ack 2 31) ∷
    cached_at 2 (place 9 (marks false true true true) (words 91 92 999 94)) (place 4 no_marks (words 41 42 43 44)) no_place ∷
    keeping (beside 0 1) (Issue 2 31 (Storel 39 998)) (ack 2 31) ∷
    cached_at 2 (place 9 (marks false true true true) (words 91 92 999 998)) (place 4 no_marks (words 41 42 43 44)) no_place ∷
    keeping (beside 0 1) (Issue 2 31 (Storel 16 997)) (ack 2 31) ∷
    cached_at 2 (place 9 (marks false true true true) (words 91 92 999 998)) (place 4 (marks true false false false) (words 997 42 43 44)) no_place ∷
    pending_at 2 entries2 ∷ waiting2 ∷ going_out 2 (fetch_by 2 2 ∷ []) ∷ coming_in 2 [] ∷ []) ∷
    "loadl-miss-adds-entry-and-fetch" ∶ standing scene (
    keeping (beside 0 1) (Issue 2 31 (Loadl 23)) done ∷ pending_at 2 (entries2 ++ (entry 0 5 3 31 0 no_values ∷ [])) ∷
    going_out 2 (fetch_by 2 2 ∷ fetch_by 2 5 ∷ []) ∷ cached2 ∷ waiting2 ∷ coming_in 2 [] ∷ []) ∷
    "storel-miss-keeps-its-value" ∶ standing scene (
    keeping (beside 0 1) (Issue 2 31 (Storel 22 777)) done ∷ pending_at 2 (entries2 ++ (entry 1 5 2 31 777 no_values ∷ [])) ∷
    going_out 2 (fetch_by 2 2 ∷ fetch_by 2 5 ∷ []) ∷ cached2 ∷ waiting2 ∷ coming_in 2 [] ∷ []) ∷
    "commit-moves-all-words-to-its-entry" ∶ standing scene (
    keeping (beside 0 1) (Issue 2 31 (Commit 37)) done ∷ pending_at 2 (entries2 ++ (entry 2 9 1 31 0 (words 91 92 93 94) ∷ [])) ∷
    going_out 2 (fetch_by 2 2 ∷ write_back_by 2 9 (marks false true false true) (words 91 92 93 94) ∷ []) ∷
    cached_at 2 no_place (place 4 no_marks (words 41 42 43 44)) no_place ∷ waiting2 ∷ coming_in 2 [] ∷ []) ∷
    "reconcile-writes-back-all-words" ∶ standing scene (
    keeping (beside 0 1) (Issue 2 31 (Reconcile 38)) done ∷ pending_at 2 (entries2 ++ (entry 3 9 2 31 0 no_values ∷ [])) ∷
    going_out 2 (fetch_by 2 2 ∷ write_back_by 2 9 (marks false true false true) (words 91 92 93 94) ∷ []) ∷
    cached_at 2 no_place (place 4 no_marks (words 41 42 43 44)) no_place ∷ waiting2 ∷ coming_in 2 [] ∷ []) ∷
    "reconcile-empties-its-place" ∶ standing scene (
    keeping (beside 0 1) (Issue 2 31 (Reconcile 18)) (ack 2 31) ∷ pending_at 2 entries2 ∷ going_out 2 (fetch_by 2 2 ∷ []) ∷
    cached_at 2 (place 9 (marks false true false true) (words 91 92 93 94)) no_place no_place ∷ waiting2 ∷ coming_in 2 [] ∷ []) ∷
    "acknowledged-without-a-change" ∶ standing scene (
    keeping everything (Issue 2 31 (Commit 38)) (ack 2 31) ∷ keeping everything (Issue 2 31 (Commit 18)) (ack 2 31) ∷
    keeping everything (Issue 2 31 (Reconcile 37)) (ack 2 31) ∷ keeping everything (Issue 2 31 (Commit 30)) (ack 2 31) ∷
    keeping everything (Issue 2 31 (Reconcile 30)) (ack 2 31) ∷ keeping everything (Issue 1 32 (FenceRr 36 37)) (ack 1 32) ∷
    keeping everything (Issue 1 33 (FenceRw 4 0)) (ack 1 33) ∷ keeping everything (Issue 1 34 (FenceWr 2 1)) (ack 1 34) ∷
    keeping everything (Issue 1 35 (FenceWw 2 1)) (ack 1 35) ∷ []) ∷
    "loadl-waits-at-the-tail" ∶ standing scene (
    keeping (beside 0 1) (Issue 2 31 (Loadl 27)) done ∷ waiting_at 2 (waits 1 2 1 23 203 ∷ waits 3 6 2 24 0 ∷ waits 0 6 3 31 0 ∷ []) ∷
    cached2 ∷ pending_at 2 entries2 ∷ going_out 2 (fetch_by 2 2 ∷ []) ∷ coming_in 2 [] ∷ keeping everything (Issue 2 32 (Loadl 27)) (no 7) ∷ []) ∷
    "storel-waits-with-its-value" ∶ standing scene (
    keeping (beside 0 1) (Issue 2 31 (Storel 10 888)) done ∷ waiting_at 2 (waits 1 2 1 23 203 ∷ waits 3 6 2 24 0 ∷ waits 1 2 2 31 888 ∷ []) ∷
    cached2 ∷ pending_at 2 entries2 ∷ going_out 2 (fetch_by 2 2 ∷ []) ∷ coming_in 2 [] ∷ []) ∷
    "commit-waits-as-a-commit" ∶ standing scene (
    keeping (beside 0 1) (Issue 2 31 (Commit 46)) done ∷ waiting_at 2 (waits 1 2 1 23 203 ∷ waits 3 6 2 24 0 ∷ waits 2 11 2 31 0 ∷ []) ∷
    cached2 ∷ pending_at 2 entries2 ∷ going_out 2 (fetch_by 2 2 ∷ []) ∷ coming_in 2 [] ∷ []) ∷
    "reconcile-waits-as-a-reconcile" ∶ standing scene (
    keeping (beside 0 1) (Issue 2 31 (Reconcile 47)) done ∷ waiting_at 2 (waits 1 2 1 23 203 ∷ waits 3 6 2 24 0 ∷ waits 3 11 3 31 0 ∷ []) ∷
    cached2 ∷ pending_at 2 entries2 ∷ going_out 2 (fetch_by 2 2 ∷ []) ∷ coming_in 2 [] ∷ []) ∷
    []

-- A RETRY: the head of site 2's stall queue is another instruction, and what is behind it moves up

abbrev pub behind2 : Act
behind2 = waiting_at 2 (waits 3 6 2 24 0 ∷ [])

unfoldable pub retried_rows : List Sample
retried_rows =
    "retry-answers-a-loadl" ∶ standing (with_waiting 2 0 (waits 0 9 3 23 0) scene) (
    keeping (beside 0 1) (Retry 2) (value 2 23 94) ∷ behind2 ∷ cached2 ∷ pending_at 2 entries2 ∷ going_out 2 (fetch_by 2 2 ∷ []) ∷ coming_in 2 [] ∷ []) ∷
    "retry-sets-a-storels-word" ∶ standing (with_waiting 2 0 (waits 1 4 2 23 203) scene) (
    keeping (beside 0 1) (Retry 2) (ack 2 23) ∷ behind2 ∷
    cached_at 2 (place 9 (marks false true false true) (words 91 92 93 94)) (place 4 (marks false false true false) (words 41 42 203 44)) no_place ∷
    pending_at 2 entries2 ∷ going_out 2 (fetch_by 2 2 ∷ []) ∷ coming_in 2 [] ∷ []) ∷
    "retry-fetches-for-a-loadl" ∶ standing (with_waiting 2 0 (waits 0 5 1 23 0) scene) (
    keeping (beside 0 1) (Retry 2) done ∷ behind2 ∷ cached2 ∷ pending_at 2 (entries2 ++ (entry 0 5 1 23 0 no_values ∷ [])) ∷
    going_out 2 (fetch_by 2 2 ∷ fetch_by 2 5 ∷ []) ∷ coming_in 2 [] ∷ []) ∷
    "retry-fetches-for-a-storel" ∶ standing (with_waiting 2 0 (waits 1 5 3 23 203) scene) (
    keeping (beside 0 1) (Retry 2) done ∷ behind2 ∷ cached2 ∷ pending_at 2 (entries2 ++ (entry 1 5 3 23 203 no_values ∷ [])) ∷
    going_out 2 (fetch_by 2 2 ∷ fetch_by 2 5 ∷ []) ∷ coming_in 2 [] ∷ []) ∷
    "retry-commits-a-dirty-word" ∶ standing (with_waiting 2 0 (waits 2 9 3 23 0) scene) (
    keeping (beside 0 1) (Retry 2) done ∷ behind2 ∷ cached_at 2 no_place (place 4 no_marks (words 41 42 43 44)) no_place ∷
    pending_at 2 (entries2 ++ (entry 2 9 3 23 0 (words 91 92 93 94) ∷ [])) ∷
    going_out 2 (fetch_by 2 2 ∷ write_back_by 2 9 (marks false true false true) (words 91 92 93 94) ∷ []) ∷ coming_in 2 [] ∷ []) ∷
    "retry-reconciles-by-a-write-back" ∶ standing (with_waiting 2 0 (waits 3 9 0 23 0) scene) (
    keeping (beside 0 1) (Retry 2) done ∷ behind2 ∷ cached_at 2 no_place (place 4 no_marks (words 41 42 43 44)) no_place ∷
    pending_at 2 (entries2 ++ (entry 3 9 0 23 0 no_values ∷ [])) ∷
    going_out 2 (fetch_by 2 2 ∷ write_back_by 2 9 (marks false true false true) (words 91 92 93 94) ∷ []) ∷ coming_in 2 [] ∷ []) ∷
    "retry-reconciles-by-a-drop" ∶ standing (with_waiting 2 0 (waits 3 4 1 23 0) scene) (
    keeping (beside 0 1) (Retry 2) (ack 2 23) ∷ behind2 ∷ cached_at 2 (place 9 (marks false true false true) (words 91 92 93 94)) no_place no_place ∷
    pending_at 2 entries2 ∷ going_out 2 (fetch_by 2 2 ∷ []) ∷ coming_in 2 [] ∷ []) ∷
    "retry-acknowledges-a-commit" ∶ standing (with_waiting 2 0 (waits 2 7 1 23 0) scene) (
    keeping (beside 0 1) (Retry 2) (ack 2 23) ∷ behind2 ∷ cached2 ∷ pending_at 2 entries2 ∷ going_out 2 (fetch_by 2 2 ∷ []) ∷ coming_in 2 [] ∷ []) ∷
    []
