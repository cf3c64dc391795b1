-- Two refusals that a step could give at once, and the one that it gives; which addresses count; which sets there are; when a system is quiet.
use Rattle.std.specs.Prelude.{List, [], ◌∷◌, ◌++◌}
use Rattle.model.specs.declared.System.{System}
use Rattle.model.specs.declared.Instruction.TheVariants.{Loadl, Storel, Commit, Reconcile, FenceRr, FenceRw, FenceWr, FenceWw}
use Rattle.model.specs.declared.Step.TheVariants.{Issue, Retry, Send, ArriveMemory, Serve, SendBack, ArriveSite, Take}
use Rattle.model.specs.Fresh.{no_values}
use Rattle.model.specs.Sampling.{done, value, ack, no, Act, Sample, ◌∶◌, ◌⇒◌, trip, shows, drains, unsound, stays_sound, standing, run, sized, cache_of}
use Rattle.model.specs.Broken.{with_line, with_place, clean}
use Rattle.samples.specs.Scene.{words, scene}

-- the scene with a word in a line past the last: not sound
abbrev pub not_sound : System
not_sound = with_line 12 (words 1 0 0 0) scene

-- site 2 of the scene with every pend entry and every stall entry in use
abbrev pub crowded : List Act
crowded = Issue 2 31 (Loadl 27) ⇒ done ∷ Issue 2 33 (Loadl 23) ⇒ done ∷ []

unfoldable pub order_rows : List Sample
order_rows =
    "not-sound-before-any-other-refusal" ∶ standing not_sound (
    Issue 3 31 (Loadl 0) ⇒ no 1 ∷ Issue 2 31 (Loadl 48) ⇒ no 1 ∷ Issue 2 21 (Loadl 36) ⇒ no 1 ∷ Issue 2 31 (Loadl 11) ⇒ no 1 ∷
    Issue 2 31 (Loadl 36) ⇒ no 1 ∷ Retry 3 ⇒ no 1 ∷ Retry 0 ⇒ no 1 ∷ Retry 2 ⇒ no 1 ∷ Send 3 ⇒ no 1 ∷ Send 1 ⇒ no 1 ∷ Send 2 ⇒ no 1 ∷
    ArriveMemory 9 ⇒ no 1 ∷ ArriveMemory 0 ⇒ no 1 ∷ Serve ⇒ no 1 ∷ SendBack ⇒ no 1 ∷ ArriveSite 9 ⇒ no 1 ∷ ArriveSite 0 ⇒ no 1 ∷
    Take 3 ⇒ no 1 ∷ Take 0 ⇒ no 1 ∷ Take 1 ⇒ no 1 ∷ drains 9 [] (1 ∷ 0 ∷ 0 ∷ 0 ∷ []) [] ∷ []) ∷
    "no-site-before-address" ∶ standing scene (Issue 3 31 (Loadl 48) ⇒ no 2 ∷ Issue 4294967295 31 (FenceRr 0 48) ⇒ no 2 ∷ []) ∷
    "address-before-tag" ∶ standing scene (Issue 2 21 (Loadl 48) ⇒ no 4 ∷ Issue 2 24 (FenceWw 0 48) ⇒ no 4 ∷ []) ∷
    "address-before-order" ∶ standing scene (Issue 2 31 (FenceWr 25 0) ⇒ no 6 ∷ Issue 2 31 (FenceWr 25 48) ⇒ no 4 ∷ []) ∷
    "tag-before-order" ∶ standing scene (Issue 2 21 (Loadl 11) ⇒ no 5 ∷ Issue 2 23 (Loadl 11) ⇒ no 5 ∷ Issue 2 31 (Loadl 11) ⇒ no 6 ∷ []) ∷
    "each-refusal-before-full-stall-queue" ∶ standing scene (crowded ++ (
    Issue 2 32 (Loadl 0) ⇒ no 7 ∷ Issue 3 32 (Loadl 0) ⇒ no 2 ∷ Issue 2 32 (Loadl 48) ⇒ no 4 ∷ Issue 2 21 (Loadl 0) ⇒ no 5 ∷ Issue 2 32 (Loadl 11) ⇒ no 6 ∷ [])) ∷
    -- where the stall queue is empty and every pend entry in use, what a retry would read must wait
    "empty-queue-before-must-still-wait" ∶ standing scene (Retry 0 ⇒ no 8 ∷ []) ∷
    "no-site-before-empty-queue" ∶ standing scene (Retry 3 ⇒ no 2 ∷ Send 3 ⇒ no 2 ∷ Take 3 ⇒ no 2 ∷ Send 4294967295 ⇒ no 2 ∷ []) ∷
    []

unfoldable pub address_rows : List Sample
address_rows =
    "first-address-past-the-last" ∶ standing scene (
    Issue 2 31 (Loadl 48) ⇒ no 4 ∷ Issue 2 31 (Storel 48 0) ⇒ no 4 ∷ Issue 2 31 (Commit 48) ⇒ no 4 ∷ Issue 2 31 (Reconcile 48) ⇒ no 4 ∷
    Issue 2 31 (FenceRr 48 0) ⇒ no 4 ∷ Issue 2 31 (FenceRw 48 0) ⇒ no 4 ∷ Issue 2 31 (FenceWr 48 0) ⇒ no 4 ∷ Issue 2 31 (FenceWw 48 0) ⇒ no 4 ∷ []) ∷
    "second-address-past-the-last" ∶ standing scene (
    Issue 2 31 (FenceRr 0 48) ⇒ no 4 ∷ Issue 2 31 (FenceRw 0 48) ⇒ no 4 ∷ Issue 2 31 (FenceWr 0 48) ⇒ no 4 ∷ Issue 2 31 (FenceWw 0 48) ⇒ no 4 ∷
    Issue 2 31 (FenceRr 47 47) ⇒ ack 2 31 ∷ Issue 2 31 (FenceRw 47 47) ⇒ ack 2 31 ∷ Issue 2 31 (FenceWr 47 47) ⇒ ack 2 31 ∷
    Issue 2 31 (FenceWw 47 47) ⇒ ack 2 31 ∷ []) ∷
    -- a Storel's value is no address
    "value-is-no-address" ∶ standing scene (Issue 2 31 (Storel 36 4294967295) ⇒ ack 2 31 ∷ Issue 2 31 (Loadl 36) ⇒ value 2 31 4294967295 ∷ []) ∷
    -- 8 sets for 3 lines: line L is in set L, and the sets behind stay empty
    "more-sets-than-lines" ∶ run (sized 2 2 3 8 2 2) (
    Issue 1 5 (Storel 5 9) ⇒ done ∷ trip 1 (ack 1 5) ∷ Issue 1 5 (Loadl 2) ⇒ done ∷ trip 1 (value 1 5 0) ∷ Issue 1 5 (Loadl 5) ⇒ value 1 5 9 ∷
    shows (cache_of 1) (
    0 ∷ 0 ∷ 0 ∷ 0 ∷ 0 ∷ 0 ∷ 0 ∷ 0 ∷ 0 ∷ 0 ∷ 1 ∷ 1 ∷ 0 ∷ 0 ∷ 0 ∷ 0 ∷ 0 ∷ 0 ∷ 0 ∷ 0 ∷ 1 ∷ 2 ∷ 0 ∷ 1 ∷ 0 ∷ 0 ∷ 0 ∷ 9 ∷ 0 ∷ 0 ∷
    0 ∷ 0 ∷ 0 ∷ 0 ∷ 0 ∷ 0 ∷ 0 ∷ 0 ∷ 0 ∷ 0 ∷ 0 ∷ 0 ∷ 0 ∷ 0 ∷ 0 ∷ 0 ∷ 0 ∷ 0 ∷ 0 ∷ 0 ∷ 0 ∷ 0 ∷ 0 ∷ 0 ∷ 0 ∷ 0 ∷ 0 ∷ 0 ∷ 0 ∷ 0 ∷
    0 ∷ 0 ∷ 0 ∷ 0 ∷ 0 ∷ 0 ∷ 0 ∷ 0 ∷ 0 ∷ 0 ∷ 0 ∷ 0 ∷ 0 ∷ 0 ∷ 0 ∷ 0 ∷ 0 ∷ 0 ∷ 0 ∷ 0 ∷ []) ∷
    stays_sound (with_place 0 2 (clean 2 no_values)) ∷ unsound (with_place 0 5 (clean 5 no_values)) ∷ unsound (with_place 0 5 (clean 2 no_values)) ∷
    unsound (with_place 0 3 (clean 0 no_values)) ∷ []) ∷
    "fewer-sets-than-lines" ∶ run (sized 1 1 16 5 2 2) (
    Issue 0 5 (Storel 13 9) ⇒ done ∷ trip 0 (ack 0 5) ∷ Issue 0 5 (Storel 14 8) ⇒ done ∷ trip 0 (ack 0 5) ∷ Issue 0 5 (Loadl 13) ⇒ value 0 5 9 ∷
    shows (cache_of 0) (
    0 ∷ 0 ∷ 0 ∷ 0 ∷ 0 ∷ 0 ∷ 0 ∷ 0 ∷ 0 ∷ 0 ∷ 0 ∷ 0 ∷ 0 ∷ 0 ∷ 0 ∷ 0 ∷ 0 ∷ 0 ∷ 0 ∷ 0 ∷ 0 ∷ 0 ∷ 0 ∷ 0 ∷ 0 ∷ 0 ∷ 0 ∷ 0 ∷ 0 ∷ 0 ∷
    1 ∷ 13 ∷ 1 ∷ 0 ∷ 0 ∷ 0 ∷ 9 ∷ 0 ∷ 0 ∷ 0 ∷ 1 ∷ 14 ∷ 1 ∷ 0 ∷ 0 ∷ 0 ∷ 8 ∷ 0 ∷ 0 ∷ 0 ∷ []) ∷ []) ∷
    []

-- whether a system is quiet, asked by a drain with a budget of 0
abbrev pub not_quiet : Act
not_quiet = drains 0 [] (0 ∷ 0 ∷ 0 ∷ 0 ∷ []) []

abbrev pub now_quiet : Act
now_quiet = drains 0 [] (0 ∷ 0 ∷ 1 ∷ 0 ∷ []) []

unfoldable pub quiet_rows : List Sample
quiet_rows =
    "one-step-left-is-not-quiet" ∶ run (sized 3 2 4 1 1 1) (
    now_quiet ∷ Issue 2 1 (Loadl 0) ⇒ done ∷ Issue 2 2 (Loadl 1) ⇒ done ∷ not_quiet ∷ Send 2 ⇒ done ∷ not_quiet ∷ ArriveMemory 0 ⇒ done ∷ not_quiet ∷
    Serve ⇒ done ∷ not_quiet ∷ SendBack ⇒ done ∷ not_quiet ∷ ArriveSite 0 ⇒ done ∷ not_quiet ∷ Take 2 ⇒ value 2 1 0 ∷ not_quiet ∷ Retry 2 ⇒ value 2 2 0 ∷ now_quiet ∷ []) ∷
    "a-cached-line-is-quiet" ∶ run (sized 3 2 4 1 1 1) (Issue 2 1 (Storel 0 5) ⇒ done ∷ trip 2 (ack 2 1) ∷ now_quiet ∷ []) ∷
    []
