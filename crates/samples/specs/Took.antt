-- What a take writes, field by field: each kind of entry, and each kind of place that its line goes into.
use Rattle.std.specs.Prelude.{List, [], ◌∷◌, true, false}
use Rattle.model.specs.declared.Step.TheVariants.{Serve, SendBack, ArriveSite, Take}
use Rattle.model.specs.Fresh.{no_values, no_marks, no_place}
use Rattle.model.specs.declared.Entry.{Entry}
use Rattle.model.specs.declared.Place.{Place}
use Rattle.model.specs.Sampling.{done, value, ack, Sample, ◌∶◌, ◌⇒◌, keeping, standing}
use Rattle.model.specs.Broken.{with_place}
use Rattle.samples.specs.Scene.{words, marks, place, entry, waits, fetch_by, write_back_by, fetch_reply_to, ack_to, scene, cached_at, pending_at, waiting_at, going_out, coming_in, beside}

-- what stays where it is: two places of site 1, the entries behind its first, one place of site 2
abbrev pub seven : Place
seven = place 7 (marks false false true false) (words 71 72 73 74)

abbrev pub five : Place
five = place 5 no_marks (words 51 52 53 54)

abbrev pub four : Place
four = place 4 no_marks (words 41 42 43 44)

abbrev pub behind1 : List Entry
behind1 = entry 4 10 0 0 0 no_values ∷ entry 3 1 3 12 0 no_values ∷ entry 1 8 1 14 208 no_values ∷ []

-- the line that the Loadl at site 1 brings, and the one that the Commit at site 2 brings back
abbrev pub loaded : Place
loaded = place 0 no_marks (words 5 6 7 8)

abbrev pub committed : Place
committed = place 6 no_marks (words 61 62 63 64)

unfoldable pub took_rows : List Sample
took_rows =
    "take-loadl-and-write-back-old-line" ∶ standing scene (
    keeping (beside 0 2) (Take 1) (value 1 11 7) ∷ cached_at 1 loaded seven five ∷ pending_at 1 (entry 4 3 0 0 0 no_values ∷ behind1) ∷
    going_out 1 (write_back_by 1 3 (marks true false false true) (words 31 32 33 34) ∷ []) ∷ coming_in 1 [] ∷ waiting_at 1 (waits 2 0 1 13 0 ∷ []) ∷ []) ∷
    "take-loadl-into-empty-place" ∶ standing (with_place 1 0 no_place scene) (
    keeping (beside 0 2) (Take 1) (value 1 11 7) ∷ cached_at 1 loaded seven five ∷ pending_at 1 behind1 ∷
    going_out 1 [] ∷ coming_in 1 [] ∷ waiting_at 1 (waits 2 0 1 13 0 ∷ []) ∷ []) ∷
    "take-loadl-and-drop-clean-line" ∶ standing (with_place 1 0 (place 3 no_marks (words 31 32 33 34)) scene) (
    keeping (beside 0 2) (Take 1) (value 1 11 7) ∷ cached_at 1 loaded seven five ∷ pending_at 1 behind1 ∷
    going_out 1 [] ∷ coming_in 1 [] ∷ waiting_at 1 (waits 2 0 1 13 0 ∷ []) ∷ []) ∷
    "take-storel-into-empty-place" ∶ standing scene (
    SendBack ⇒ done ∷ ArriveSite 2 ⇒ done ∷ keeping (beside 1 2) (Take 0) (ack 0 2) ∷
    cached_at 0 no_place (place 10 (marks false true true false) (words 105 106 107 108)) (place 5 (marks false false true false) (words 55 56 205 58)) ∷
    pending_at 0 (entry 0 2 1 1 0 no_values ∷ entry 2 3 0 3 0 (words 35 36 37 38) ∷ entry 0 8 3 4 0 no_values ∷ []) ∷
    going_out 0 (write_back_by 0 3 (marks true false true true) (words 35 36 37 38) ∷ []) ∷ coming_in 0 [] ∷ waiting_at 0 [] ∷ []) ∷
    "take-storel-and-drop-clean-line" ∶ standing (with_place 1 0 no_place scene) (
    ArriveSite 1 ⇒ done ∷ Take 1 ⇒ value 1 11 7 ∷ keeping (beside 0 2) (Take 1) (ack 1 14) ∷
    cached_at 1 loaded seven (place 8 (marks false true false false) (words 85 208 87 88)) ∷
    pending_at 1 (entry 4 10 0 0 0 no_values ∷ entry 3 1 3 12 0 no_values ∷ []) ∷ going_out 1 [] ∷ coming_in 1 [] ∷ []) ∷
    "take-storel-and-write-back-old-line" ∶ standing (with_place 1 0 no_place (with_place 1 2 (place 5 (marks true true false false) (words 51 52 53 54)) scene)) (
    ArriveSite 1 ⇒ done ∷ Take 1 ⇒ value 1 11 7 ∷ keeping (beside 0 2) (Take 1) (ack 1 14) ∷
    cached_at 1 loaded seven (place 8 (marks false true false false) (words 85 208 87 88)) ∷
    pending_at 1 (entry 4 10 0 0 0 no_values ∷ entry 3 1 3 12 0 no_values ∷ entry 4 5 0 0 0 no_values ∷ []) ∷
    going_out 1 (write_back_by 1 5 (marks true true false false) (words 51 52 53 54) ∷ []) ∷ coming_in 1 [] ∷ []) ∷
    "take-commit-and-write-back-old-line" ∶ standing scene (
    ArriveSite 0 ⇒ done ∷ keeping (beside 0 1) (Take 2) (ack 2 22) ∷ cached_at 2 committed four no_place ∷
    pending_at 2 (entry 1 2 3 21 201 no_values ∷ entry 4 9 0 0 0 no_values ∷ entry 4 11 0 0 0 no_values ∷ []) ∷
    going_out 2 (fetch_by 2 2 ∷ write_back_by 2 9 (marks false true false true) (words 91 92 93 94) ∷ []) ∷ coming_in 2 [] ∷
    waiting_at 2 (waits 1 2 1 23 203 ∷ waits 3 6 2 24 0 ∷ []) ∷ []) ∷
    "take-commit-into-empty-place" ∶ standing (with_place 2 0 no_place scene) (
    ArriveSite 0 ⇒ done ∷ keeping (beside 0 1) (Take 2) (ack 2 22) ∷ cached_at 2 committed four no_place ∷
    pending_at 2 (entry 1 2 3 21 201 no_values ∷ entry 4 11 0 0 0 no_values ∷ []) ∷ going_out 2 (fetch_by 2 2 ∷ []) ∷ coming_in 2 [] ∷
    waiting_at 2 (waits 1 2 1 23 203 ∷ waits 3 6 2 24 0 ∷ []) ∷ []) ∷
    "take-commit-and-drop-clean-line" ∶ standing (with_place 2 0 (place 9 no_marks (words 91 92 93 94)) scene) (
    ArriveSite 0 ⇒ done ∷ keeping (beside 0 1) (Take 2) (ack 2 22) ∷ cached_at 2 committed four no_place ∷
    pending_at 2 (entry 1 2 3 21 201 no_values ∷ entry 4 11 0 0 0 no_values ∷ []) ∷ going_out 2 (fetch_by 2 2 ∷ []) ∷ coming_in 2 [] ∷
    waiting_at 2 (waits 1 2 1 23 203 ∷ waits 3 6 2 24 0 ∷ []) ∷ []) ∷
    "take-reconcile-removes-its-entry" ∶ standing scene (
    Serve ⇒ done ∷ SendBack ⇒ done ∷ SendBack ⇒ done ∷ SendBack ⇒ done ∷ ArriveSite 4 ⇒ done ∷
    coming_in 1 (fetch_reply_to 1 0 (words 5 6 7 8) ∷ ack_to 1 1 ∷ []) ∷ Take 1 ⇒ value 1 11 7 ∷ coming_in 1 (ack_to 1 1 ∷ []) ∷
    keeping (beside 0 2) (Take 1) (ack 1 12) ∷ cached_at 1 loaded seven five ∷
    pending_at 1 (entry 4 3 0 0 0 no_values ∷ entry 4 10 0 0 0 no_values ∷ entry 1 8 1 14 208 no_values ∷ []) ∷
    going_out 1 (write_back_by 1 3 (marks true false false true) (words 31 32 33 34) ∷ []) ∷ coming_in 1 [] ∷ waiting_at 1 (waits 2 0 1 13 0 ∷ []) ∷ []) ∷
    "take-voluntary-removes-its-entry" ∶ standing scene (
    SendBack ⇒ done ∷ SendBack ⇒ done ∷ ArriveSite 3 ⇒ done ∷ keeping (beside 0 1) (Take 2) done ∷
    cached_at 2 (place 9 (marks false true false true) (words 91 92 93 94)) four no_place ∷
    pending_at 2 (entry 1 2 3 21 201 no_values ∷ entry 2 6 1 22 0 (words 61 62 63 64) ∷ []) ∷ going_out 2 (fetch_by 2 2 ∷ []) ∷ coming_in 2 [] ∷
    waiting_at 2 (waits 1 2 1 23 203 ∷ waits 3 6 2 24 0 ∷ []) ∷ []) ∷
    []
