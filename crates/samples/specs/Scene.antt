-- A state in which no two parts look alike: three sites, messages in all six places, words, marks, tags and lines all different.
use mathlib.Core.List.{List, [], ◌∷◌, ◌++◌, flat_map}
use Rattle.std.specs.Prelude.{Bool, true, false, ℕ, ◌-◌, replicate, length}
use Rattle.model.specs.declared.Message.{Message}
use Rattle.model.specs.declared.Entry.{Entry}
use Rattle.model.specs.declared.Waiting.{Waiting}
use Rattle.model.specs.declared.Place.{Place}
use Rattle.model.specs.declared.Cache.{Cache}
use Rattle.model.specs.declared.Pends.{Pends}
use Rattle.model.specs.declared.Stalls.{Stalls}
use Rattle.model.specs.declared.SiteQueue.{SiteQueue}
use Rattle.model.specs.declared.Queue.{Queue}
use Rattle.model.specs.declared.Line.{Line}
use Rattle.model.specs.declared.System.{System}
use Rattle.model.specs.Fresh.{no_values, no_marks, no_message, no_entry, no_waiting, no_place, no_set, no_line}
use Rattle.model.specs.Sampling.{sized, Act, shows, sizes_now, whole_message, whole_entry, whole_waiting, whole_place, cache_of, entries_of, waiting_of}
use Rattle.model.specs.Sampling.{outgoing_of, incoming_of, up_now, arrived_now, served_now, down_now, memory_now}

-- FOUR WORDS, FOUR MARKS

abbrev pub words : ℕ → ℕ → ℕ → ℕ → List ℕ
words a b c d = a ∷ b ∷ c ∷ d ∷ []

abbrev pub marks : Bool → Bool → Bool → Bool → List Bool
marks a b c d = a ∷ b ∷ c ∷ d ∷ []

-- PARTS

abbrev pub line : ℕ → ℕ → ℕ → ℕ → Line
line a b c d = record { values = words a b c d }

abbrev pub place : ℕ → List Bool → List ℕ → Place
place L ms vs = record { used = true; line = L; dirty = ms; values = vs }

abbrev pub entry : ℕ → ℕ → ℕ → ℕ → ℕ → List ℕ → Entry
entry kind L word tag v vs = record { kind = kind; line = L; word = word; tag = tag; value = v; values = vs }

abbrev pub waits : ℕ → ℕ → ℕ → ℕ → ℕ → Waiting
waits kind L word tag v = record { kind = kind; line = L; word = word; tag = tag; value = v }

abbrev pub message : ℕ → ℕ → ℕ → List Bool → List ℕ → Message
message kind i L ms vs = record { kind = kind; site = i; line = L; dirty = ms; values = vs }

-- a fetch and an acknowledgement carry nothing, a fetch reply no marks
abbrev pub fetch_by : ℕ → ℕ → Message
fetch_by i L = message 0 i L no_marks no_values

abbrev pub write_back_by : ℕ → ℕ → List Bool → List ℕ → Message
write_back_by i L ms vs = message 1 i L ms vs

abbrev pub fetch_reply_to : ℕ → ℕ → List ℕ → Message
fetch_reply_to i L vs = message 2 i L no_marks vs

abbrev pub ack_to : ℕ → ℕ → Message
ack_to i L = message 3 i L no_marks no_values

-- ARRAYS: what is given, and places not in use behind it

abbrev pub filled : {A : Type 0} → ℕ → A → List A → List A
filled n none xs = xs ++ replicate (n - length xs) none

abbrev pub cache : Place → Place → Place → Cache
cache a b c = record { sets = filled 8 no_set (record { low = a } ∷ record { low = b } ∷ record { low = c } ∷ []) }

abbrev pub pends : List Entry → Pends
pends es = record { entries = filled 5 no_entry es; count = length es }

abbrev pub stalls : List Waiting → Stalls
stalls ws = record { waiting = filled 8 no_waiting ws; count = length ws }

abbrev pub near : List Message → SiteQueue
near ms = record { items = filled 5 no_message ms; count = length ms }

abbrev pub far : List Message → Queue
far ms = record { items = filled 20 no_message ms; count = length ms }

-- THE SCENE: lines of 4 words, 12 of them, in 3 sets; 4 pend entries, 3 stall entries. Line L of memory is 1000 + 10 L + 1 to 4.

abbrev pub scene_memory : List Line
scene_memory =
    line 1001 1002 1003 1004 ∷ line 1011 1012 1013 1014 ∷ line 1021 1022 1023 1024 ∷ line 1031 1032 1033 1034 ∷
    line 1041 1042 1043 1044 ∷ line 1051 1052 1053 1054 ∷ line 1061 1062 1063 1064 ∷ line 1071 1072 1073 1074 ∷
    line 1081 1082 1083 1084 ∷ line 1091 1092 1093 1094 ∷ line 1101 1102 1103 1104 ∷ line 1111 1112 1113 1114 ∷ []

-- site 0: its pend entries are full and nothing waits
abbrev pub entries0 : List Entry
entries0 =
    entry 0 2 1 1 0 no_values ∷ entry 1 5 2 2 205 no_values ∷ entry 2 3 0 3 0 (words 35 36 37 38) ∷ entry 0 8 3 4 0 no_values ∷ []

-- site 1: its pend entries are full; the second is voluntary
abbrev pub entries1 : List Entry
entries1 =
    entry 0 0 2 11 0 no_values ∷ entry 4 10 0 0 0 no_values ∷ entry 3 1 3 12 0 no_values ∷ entry 1 8 1 14 208 no_values ∷ []

-- site 2: one more entry has room; the last is voluntary
abbrev pub entries2 : List Entry
entries2 =
    entry 1 2 3 21 201 no_values ∷ entry 2 6 1 22 0 (words 61 62 63 64) ∷ entry 4 11 0 0 0 no_values ∷ []

abbrev pub scene : System
scene = record {
  sizes = sized 3 4 12 3 4 3;
  memory = filled 16 no_line scene_memory;
  caches = filled 4 (cache no_place no_place no_place) (
      cache no_place (place 10 (marks false true true false) (words 105 106 107 108)) no_place ∷
      cache (place 3 (marks true false false true) (words 31 32 33 34)) (place 7 (marks false false true false) (words 71 72 73 74)) (place 5 no_marks (words 51 52 53 54)) ∷
      cache (place 9 (marks false true false true) (words 91 92 93 94)) (place 4 no_marks (words 41 42 43 44)) no_place ∷ []);
  pends = filled 4 (pends []) (pends entries0 ∷ pends entries1 ∷ pends entries2 ∷ []);
  stalls = filled 4 (stalls []) (stalls [] ∷ stalls (waits 2 0 1 13 0 ∷ []) ∷ stalls (waits 1 2 1 23 203 ∷ waits 3 6 2 24 0 ∷ []) ∷ []);
  outgoing = filled 4 (near []) (near (write_back_by 0 3 (marks true false true true) (words 35 36 37 38) ∷ []) ∷ near [] ∷ near (fetch_by 2 2 ∷ []) ∷ []);
  incoming = filled 4 (near []) (near [] ∷ near (fetch_reply_to 1 0 (words 5 6 7 8) ∷ []) ∷ near [] ∷ []);
  up = far (write_back_by 1 10 (marks false true true false) (words 111 112 113 114) ∷ fetch_by 0 2 ∷ []);
  arrived = far (write_back_by 1 1 (marks true false true false) (words 15 16 17 18) ∷ fetch_by 0 8 ∷ []);
  served = far (fetch_reply_to 0 5 (words 55 56 57 58) ∷ ack_to 2 11 ∷ []);
  down = far (ack_to 2 6 ∷ fetch_reply_to 1 8 (words 85 86 87 88) ∷ []);
}

-- WHAT STANDS WHERE, EVERY FIELD OF IT

abbrev pub cached_at : ℕ → Place → Place → Place → Act
cached_at i a b c = shows (cache_of i) (flat_map whole_place (a ∷ b ∷ c ∷ []))

abbrev pub pending_at : ℕ → List Entry → Act
pending_at i es = shows (entries_of i) (flat_map whole_entry es)

abbrev pub waiting_at : ℕ → List Waiting → Act
waiting_at i ws = shows (waiting_of i) (flat_map whole_waiting ws)

abbrev pub going_out : ℕ → List Message → Act
going_out i ms = shows (outgoing_of i) (flat_map whole_message ms)

abbrev pub coming_in : ℕ → List Message → Act
coming_in i ms = shows (incoming_of i) (flat_map whole_message ms)

abbrev pub up_is : List Message → Act
up_is ms = shows up_now (flat_map whole_message ms)

abbrev pub arrived_is : List Message → Act
arrived_is ms = shows arrived_now (flat_map whole_message ms)

abbrev pub served_is : List Message → Act
served_is ms = shows served_now (flat_map whole_message ms)

abbrev pub down_is : List Message → Act
down_is ms = shows down_now (flat_map whole_message ms)

-- WHAT STAYS AS IT WAS: parts, each behind its length

abbrev pub framed : List ℕ → List ℕ
framed ns = length ns ∷ ns

-- a site's cache, entries and waiting instructions; its two queues; all of them
abbrev pub inside : ℕ → System → List ℕ
inside i s = framed (cache_of i s) ++ (framed (entries_of i s) ++ framed (waiting_of i s))

abbrev pub queues : ℕ → System → List ℕ
queues i s = framed (outgoing_of i s) ++ framed (incoming_of i s)

abbrev pub site_whole : ℕ → System → List ℕ
site_whole i s = inside i s ++ queues i s

-- what stands inside the three sites; their queues
abbrev pub insides : System → List ℕ
insides s = inside 0 s ++ (inside 1 s ++ inside 2 s)

abbrev pub all_queues : System → List ℕ
all_queues s = queues 0 s ++ (queues 1 s ++ queues 2 s)

abbrev pub to_memory : System → List ℕ
to_memory s = framed (up_now s) ++ framed (arrived_now s)

abbrev pub from_memory : System → List ℕ
from_memory s = framed (served_now s) ++ framed (down_now s)

-- memory, the networks and memory's queues
abbrev pub middle : System → List ℕ
middle s = framed (memory_now s) ++ (to_memory s ++ from_memory s)

abbrev pub everything : System → List ℕ
everything s = sizes_now s ++ (middle s ++ (insides s ++ all_queues s))

-- all but one site: the other two are named
abbrev pub beside : ℕ → ℕ → System → List ℕ
beside j k s = sizes_now s ++ (middle s ++ (site_whole j s ++ site_whole k s))
