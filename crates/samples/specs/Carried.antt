-- What the five steps that carry a message on move, field by field, and that they move nothing else.
use Rattle.std.specs.Prelude.{List, [], ◌∷◌, ◌++◌, true, false, ℕ}
use Rattle.model.specs.declared.Instruction.TheVariants.{Commit}
use Rattle.model.specs.declared.Step.TheVariants.{Issue, Send, ArriveMemory, Serve, SendBack, ArriveSite}
use Rattle.model.specs.declared.Message.{Message}
use Rattle.model.specs.declared.System.{System}
use Rattle.model.specs.Sampling.{done, Sample, ◌∶◌, ◌⇒◌, shows, keeping, standing, memory_now, sizes_now, arrived_now, served_now, down_now, up_now}
use Rattle.samples.specs.Scene.{words, marks, fetch_by, write_back_by, fetch_reply_to, ack_to, scene, going_out, coming_in, up_is, arrived_is, served_is, down_is, framed, queues, insides, all_queues, to_memory, from_memory}

-- the messages of the scene that are not alike in any field
abbrev pub writes0 : Message
writes0 = write_back_by 0 3 (marks true false true true) (words 35 36 37 38)

abbrev pub writes1 : Message
writes1 = write_back_by 1 10 (marks false true true false) (words 111 112 113 114)

abbrev pub cleans1 : Message
cleans1 = write_back_by 1 1 (marks true false true false) (words 15 16 17 18)

-- what each of the five leaves alone
abbrev pub except_send : ℕ → ℕ → System → List ℕ
except_send j k s = sizes_now s ++ (framed (memory_now s) ++ (insides s ++ (queues j s ++ (queues k s ++ (framed (arrived_now s) ++ from_memory s)))))

abbrev pub except_to_memory : System → List ℕ
except_to_memory s = sizes_now s ++ (framed (memory_now s) ++ (insides s ++ (all_queues s ++ from_memory s)))

abbrev pub except_serve : System → List ℕ
except_serve s = sizes_now s ++ (insides s ++ (all_queues s ++ (framed (up_now s) ++ framed (down_now s))))

abbrev pub except_from_memory : System → List ℕ
except_from_memory s = sizes_now s ++ (framed (memory_now s) ++ (insides s ++ (all_queues s ++ to_memory s)))

abbrev pub except_arrive_site : ℕ → ℕ → System → List ℕ
except_arrive_site j k s = sizes_now s ++ (framed (memory_now s) ++ (insides s ++ (queues j s ++ (queues k s ++ (framed (served_now s) ++ to_memory s)))))

unfoldable pub carried_rows : List Sample
carried_rows =
    "send-carries-every-field" ∶ standing scene (
    keeping (except_send 1 2) (Send 0) done ∷ going_out 0 [] ∷ coming_in 0 [] ∷ up_is (writes1 ∷ fetch_by 0 2 ∷ writes0 ∷ []) ∷ []) ∷
    "send-takes-the-head" ∶ standing scene (
    Issue 2 31 (Commit 37) ⇒ done ∷ keeping (except_send 0 1) (Send 2) done ∷
    going_out 2 (write_back_by 2 9 (marks false true false true) (words 91 92 93 94) ∷ []) ∷ coming_in 2 [] ∷
    up_is (writes1 ∷ fetch_by 0 2 ∷ fetch_by 2 2 ∷ []) ∷ keeping (except_send 0 1) (Send 2) done ∷ going_out 2 [] ∷
    up_is (writes1 ∷ fetch_by 0 2 ∷ fetch_by 2 2 ∷ write_back_by 2 9 (marks false true false true) (words 91 92 93 94) ∷ []) ∷ []) ∷
    "arrive-memory-at-the-first-position" ∶ standing scene (
    keeping except_to_memory (ArriveMemory 0) done ∷ up_is (fetch_by 0 2 ∷ []) ∷ arrived_is (cleans1 ∷ fetch_by 0 8 ∷ writes1 ∷ []) ∷ []) ∷
    "arrive-memory-at-the-last-position" ∶ standing scene (
    keeping except_to_memory (ArriveMemory 1) done ∷ up_is (writes1 ∷ []) ∷ arrived_is (cleans1 ∷ fetch_by 0 8 ∷ fetch_by 0 2 ∷ []) ∷ []) ∷
    "serve-stores-dirty-words-and-acknowledges" ∶ standing scene (
    keeping except_serve Serve done ∷ arrived_is (fetch_by 0 8 ∷ []) ∷
    served_is (fetch_reply_to 0 5 (words 55 56 57 58) ∷ ack_to 2 11 ∷ ack_to 1 1 ∷ []) ∷
    shows memory_now (
    words 1001 1002 1003 1004 ++ (words 15 1012 17 1014 ++ (words 1021 1022 1023 1024 ++ (words 1031 1032 1033 1034 ++
    (words 1041 1042 1043 1044 ++ (words 1051 1052 1053 1054 ++ (words 1061 1062 1063 1064 ++ (words 1071 1072 1073 1074 ++
    (words 1081 1082 1083 1084 ++ (words 1091 1092 1093 1094 ++ (words 1101 1102 1103 1104 ++ words 1111 1112 1113 1114))))))))))) ∷ []) ∷
    "serve-answers-a-fetch-with-the-line" ∶ standing scene (
    Serve ⇒ done ∷ keeping memory_now Serve done ∷ arrived_is [] ∷
    served_is (fetch_reply_to 0 5 (words 55 56 57 58) ∷ ack_to 2 11 ∷ ack_to 1 1 ∷ fetch_reply_to 0 8 (words 1081 1082 1083 1084) ∷ []) ∷ []) ∷
    "send-back-takes-the-head" ∶ standing scene (
    keeping except_from_memory SendBack done ∷ served_is (ack_to 2 11 ∷ []) ∷
    down_is (ack_to 2 6 ∷ fetch_reply_to 1 8 (words 85 86 87 88) ∷ fetch_reply_to 0 5 (words 55 56 57 58) ∷ []) ∷
    keeping except_from_memory SendBack done ∷ served_is [] ∷
    down_is (ack_to 2 6 ∷ fetch_reply_to 1 8 (words 85 86 87 88) ∷ fetch_reply_to 0 5 (words 55 56 57 58) ∷ ack_to 2 11 ∷ []) ∷ []) ∷
    "arrive-site-at-the-first-position" ∶ standing scene (
    keeping (except_arrive_site 0 1) (ArriveSite 0) done ∷ coming_in 2 (ack_to 2 6 ∷ []) ∷ going_out 2 (fetch_by 2 2 ∷ []) ∷
    down_is (fetch_reply_to 1 8 (words 85 86 87 88) ∷ []) ∷ []) ∷
    "arrive-site-at-the-last-position" ∶ standing scene (
    keeping (except_arrive_site 0 2) (ArriveSite 1) done ∷ coming_in 1 (fetch_reply_to 1 0 (words 5 6 7 8) ∷ fetch_reply_to 1 8 (words 85 86 87 88) ∷ []) ∷
    going_out 1 [] ∷ down_is (ack_to 2 6 ∷ []) ∷ []) ∷
    []
