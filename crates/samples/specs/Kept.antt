-- A refusal changes nothing; and what the scene is, as plain numbers.
use Rattle.std.specs.Prelude.{List, [], ◌∷◌}
use Rattle.model.specs.declared.Instruction.TheVariants.{Loadl, FenceWr, FenceWw}
use Rattle.model.specs.declared.Step.TheVariants.{Issue, Retry, Send, ArriveMemory, ArriveSite, Take}
use Rattle.model.specs.Sampling.{no, Sample, ◌∶◌, shows, keeping, standing, left_now}
use Rattle.model.specs.Sampling.{cache_of, entries_of, waiting_of, outgoing_of, incoming_of, up_now, arrived_now, served_now, down_now}
use Rattle.samples.specs.Scene.{scene, everything}

unfoldable pub kept_rows : List Sample
kept_rows =
    -- what the views show: used, line, marks, words; kind, line, word, tag, value, words; kind, line, word, tag, value; kind, site, line, marks, words
    "scene-in-numbers" ∶ standing scene (
    shows (cache_of 1) (
    1 ∷ 3 ∷ 1 ∷ 0 ∷ 0 ∷ 1 ∷ 31 ∷ 32 ∷ 33 ∷ 34 ∷ 1 ∷ 7 ∷ 0 ∷ 0 ∷ 1 ∷ 0 ∷ 71 ∷ 72 ∷ 73 ∷ 74 ∷
    1 ∷ 5 ∷ 0 ∷ 0 ∷ 0 ∷ 0 ∷ 51 ∷ 52 ∷ 53 ∷ 54 ∷ []) ∷
    shows (cache_of 0) (
    0 ∷ 0 ∷ 0 ∷ 0 ∷ 0 ∷ 0 ∷ 0 ∷ 0 ∷ 0 ∷ 0 ∷ 1 ∷ 10 ∷ 0 ∷ 1 ∷ 1 ∷ 0 ∷ 105 ∷ 106 ∷ 107 ∷ 108 ∷
    0 ∷ 0 ∷ 0 ∷ 0 ∷ 0 ∷ 0 ∷ 0 ∷ 0 ∷ 0 ∷ 0 ∷ []) ∷
    shows (entries_of 2) (
    1 ∷ 2 ∷ 3 ∷ 21 ∷ 201 ∷ 0 ∷ 0 ∷ 0 ∷ 0 ∷ 2 ∷ 6 ∷ 1 ∷ 22 ∷ 0 ∷ 61 ∷ 62 ∷ 63 ∷ 64 ∷ 4 ∷ 11 ∷ 0 ∷ 0 ∷ 0 ∷ 0 ∷ 0 ∷ 0 ∷ 0 ∷ []) ∷
    shows (waiting_of 2) (1 ∷ 2 ∷ 1 ∷ 23 ∷ 203 ∷ 3 ∷ 6 ∷ 2 ∷ 24 ∷ 0 ∷ []) ∷
    shows (outgoing_of 0) (1 ∷ 0 ∷ 3 ∷ 1 ∷ 0 ∷ 1 ∷ 1 ∷ 35 ∷ 36 ∷ 37 ∷ 38 ∷ []) ∷ shows (incoming_of 1) (2 ∷ 1 ∷ 0 ∷ 0 ∷ 0 ∷ 0 ∷ 0 ∷ 5 ∷ 6 ∷ 7 ∷ 8 ∷ []) ∷
    shows up_now (1 ∷ 1 ∷ 10 ∷ 0 ∷ 1 ∷ 1 ∷ 0 ∷ 111 ∷ 112 ∷ 113 ∷ 114 ∷ 0 ∷ 0 ∷ 2 ∷ 0 ∷ 0 ∷ 0 ∷ 0 ∷ 0 ∷ 0 ∷ 0 ∷ 0 ∷ []) ∷
    shows arrived_now (1 ∷ 1 ∷ 1 ∷ 1 ∷ 0 ∷ 1 ∷ 0 ∷ 15 ∷ 16 ∷ 17 ∷ 18 ∷ 0 ∷ 0 ∷ 8 ∷ 0 ∷ 0 ∷ 0 ∷ 0 ∷ 0 ∷ 0 ∷ 0 ∷ 0 ∷ []) ∷
    shows served_now (2 ∷ 0 ∷ 5 ∷ 0 ∷ 0 ∷ 0 ∷ 0 ∷ 55 ∷ 56 ∷ 57 ∷ 58 ∷ 3 ∷ 2 ∷ 11 ∷ 0 ∷ 0 ∷ 0 ∷ 0 ∷ 0 ∷ 0 ∷ 0 ∷ 0 ∷ []) ∷
    shows down_now (3 ∷ 2 ∷ 6 ∷ 0 ∷ 0 ∷ 0 ∷ 0 ∷ 0 ∷ 0 ∷ 0 ∷ 0 ∷ 2 ∷ 1 ∷ 8 ∷ 0 ∷ 0 ∷ 0 ∷ 0 ∷ 85 ∷ 86 ∷ 87 ∷ 88 ∷ []) ∷
    shows left_now (12 ∷ 11 ∷ []) ∷ []) ∷
    -- each number that a step of a sound state can be refused with
    "refusals-change-nothing" ∶ standing scene (
    keeping everything (Issue 3 31 (Loadl 0)) (no 2) ∷ keeping everything (Issue 2 31 (Loadl 48)) (no 4) ∷
    keeping everything (Issue 2 21 (Loadl 36)) (no 5) ∷ keeping everything (Issue 2 24 (FenceWw 0 0)) (no 5) ∷
    keeping everything (Issue 2 31 (Loadl 11)) (no 6) ∷ keeping everything (Issue 2 31 (FenceWr 25 0)) (no 6) ∷
    keeping everything (Retry 2) (no 9) ∷ keeping everything (Retry 1) (no 9) ∷ keeping everything (Retry 0) (no 8) ∷ keeping everything (Retry 3) (no 2) ∷
    keeping everything (Send 1) (no 8) ∷ keeping everything (Send 3) (no 2) ∷ keeping everything (ArriveMemory 2) (no 8) ∷
    keeping everything (ArriveSite 2) (no 8) ∷ keeping everything (Take 0) (no 8) ∷ keeping everything (Take 2) (no 8) ∷ keeping everything (Take 3) (no 2) ∷ []) ∷
    []
