-- Replay 2 to 4: the lines that it prints, and the listing of a record.
use Rattle.std.specs.Prelude.{List, [], ◌∷◌, ◌++◌, true, false, ℕ, zero, suc, ◌+◌, ◌-◌, ◌/◌, ◌%◌, ltb, length}
use Prim.Native.Char.{code}
use Prim.Native.String.{String, [] as no_text, ◌∷◌ as ◌then◌}
use Rattle.model.specs.declared.Sizes.{Sizes}
use Rattle.model.specs.declared.System.{System}
use Rattle.model.specs.declared.Step.{Step}
use Rattle.model.specs.declared.Step.TheVariants.{Issue, Retry, Send, ArriveMemory, Serve, SendBack, ArriveSite, Take}
use Rattle.model.specs.declared.Answer.{Answer}
use Rattle.model.specs.declared.Answer.TheVariants.{Nothing, Loaded, Acknowledged}
use Rattle.model.specs.declared.Refusal.{Refusal}
use Rattle.model.specs.declared.After.{After}
use Rattle.model.specs.Given.{number_of, place_given}
use Rattle.model.specs.Fresh.{blank}
use Rattle.model.specs.Left.{outstanding_left, messages_left}
use Rattle.model.specs.Record.{read_sizes, read_step}
use Rattle.model.specs.Steps.{stepped}
use Rattle.std.specs.Prelude.{Ok, Err, Some, None}
use Rattle.model.specs.Results.{Outcome}

-- WORDS AND NUMBERS, IN ASCII

-- Replay 2: a word's bytes
unfoldable pub text : String → List ℕ
text no_text = []
text (c then s) = code c ∷ text s

-- Replay 2: the digits of a number, the highest first, g at most
unfoldable pub digits : ℕ → ℕ → List ℕ
digits zero n = []
digits (suc g) n = elim (ltb n 10) [ true ↦ (48 + n) ∷ [] | false ↦ digits g (n / 10) ++ ((48 + n % 10) ∷ []) ]

-- Replay 2: decimal, without leading zeros: n has no more than n + 1 digits
abbrev pub decimal : ℕ → List ℕ
decimal n = digits (suc n) n

-- Replay 2: a word, and a number behind it
abbrev pub word : String → ℕ → List ℕ
word w n = text w ++ decimal n

-- THE LINES

-- Replay 2: a newline behind each line
abbrev pub line : List ℕ → List ℕ
line t = t ++ text "\n"

-- Replay 2a: the first line names the six sizes
abbrev pub sizes_line : Sizes → List ℕ
sizes_line z =
    line (word "sites " z.sites ++ word " words " z.words ++ word " lines " z.lines ++ word " sets " z.sets ++ word " pend " z.pend ++
    word " stall " z.stall)

-- Steps 1 to 8: the name of a step
unfoldable pub name_of : Step → List ℕ
name_of (Issue i t n) = text "issue"
name_of (Retry i) = text "retry"
name_of (Send i) = text "send"
name_of (ArriveMemory p) = text "arrive-memory"
name_of Serve = text "serve"
name_of SendBack = text "send-back"
name_of (ArriveSite p) = text "arrive-site"
name_of (Take i) = text "take"

-- Replay 2b: an answer's site and tag, and its value or, without one, a word that says so
unfoldable pub answer_text : Answer → List ℕ
answer_text Nothing = []
answer_text (Loaded i t v) = word " answer " i ++ word " " t ++ word " " v
answer_text (Acknowledged i t) = word " answer " i ++ word " " t ++ text " ack"

-- Replay 2b: the number given back, and the answer
unfoldable pub outcome_text : Outcome → List ℕ
outcome_text (Ok a) = decimal 0 ++ answer_text a
outcome_text (Err why) = decimal (number_of why)

-- Replay 2b: a line for a step: which one it is, counted from 1, its name, its number given back, its answer if there is one
abbrev pub step_line : ℕ → Step → Outcome → List ℕ
step_line n x o = line (decimal n ++ text " " ++ name_of x ++ text " " ++ outcome_text o)

-- Replay 2c: the last line
abbrev pub left_line : ℕ → ℕ → List ℕ
left_line outstanding messages = line (word "left " outstanding ++ word " " messages)

-- Replay 2c: the last line, of the state reached
abbrev pub left_of : System → List ℕ
left_of s = left_line (outstanding_left s) (messages_left s)

-- Replay 3a: the last line of bytes that are no record, with the number and the place of the fault
abbrev pub record_line : Refusal → List ℕ
record_line why = line (word "record " (number_of why) ++ word " at " (place_given why))

-- THE LISTING OF A RECORD

-- Replay 2b: a step's line, and what is listed behind it
abbrev pub step_and : ℕ → Step → After → (System → List ℕ) → List ℕ
step_and n x a behind = step_line n x a.outcome ++ behind a.system

-- Replay 2b, 3b: the lines of the steps from an offset on, g at most, and `left`, or `record` instead of it
unfoldable pub listed_from : ℕ → List ℕ → ℕ → ℕ → System → List ℕ
listed_from zero bs at n s = []
listed_from (suc g) bs at n s =
    elim (read_step bs at) [
      | Ok (Some (x, next)) ↦ step_and n x (stepped s x) (λ t. listed_from g bs next (suc n) t)
      | (Ok None) ↦ left_of s
      | Err why ↦ record_line why
    ]

-- Replay 2b: a step takes a byte at least, so that no line is missed
abbrev pub listed_at : List ℕ → ℕ → ℕ → System → List ℕ
listed_at bs at n s = listed_from (suc (length bs - at)) bs at n s

-- Replay 2, 3c: nothing is listed before the `record` line where the length or the sizes are at fault
unfoldable pub listing : List ℕ → List ℕ
listing bs = elim (read_sizes bs) [ Ok (z, past) ↦ sizes_line z ++ listed_at bs past 1 (blank z) | Err why ↦ record_line why ]
