-- What a sample of the calls is, and when it holds: numbers in, the numbers that a call gives back, and the buffer that it leaves.
use Rattle.std.specs.Prelude.{◌≡◌, List, [], ◌∷◌, Bool, true, false, ◌&&◌, ℕ, eqb}
use Prim.Native.String.{String}
use Rattle.model.specs.declared.System.{System}
use Rattle.model.specs.Sampling.{holds as model_holds, same_numbers, given_numbers}
use Rattle.codes.specs.Named.{named_by}
use Rattle.calls.specs.declared.DrainGiven.{DrainGiven}
use Rattle.calls.specs.declared.SizesGiven.{SizesGiven}
use Rattle.calls.specs.declared.StepGiven.{StepGiven}
use Rattle.calls.specs.declared.WriteGiven.{WriteGiven}
use Rattle.calls.specs.declared.values.Stepped.{Stepped}
use Rattle.calls.specs.Calls.{sound_call, fresh_call, step_named, step_call, DrainBy, drain_call, sizes_numbers, read_sizes_call, step_numbers}
use Rattle.calls.specs.Calls.{read_step_call, WriteBy, wrote_numbers, write_sizes_call, write_named, write_step_call}

-- WHAT IS GIVEN BACK, in the order of its fields

abbrev pub drain_numbers : DrainGiven → List ℕ
drain_numbers g = g.number ∷ g.quiet ∷ g.count ∷ g.length ∷ []

abbrev pub sizes_numbers_of : SizesGiven → List ℕ
sizes_numbers_of g = g.number ∷ g.place ∷ g.next ∷ g.sites ∷ g.words ∷ g.lines ∷ g.sets ∷ g.pend ∷ g.stall ∷ []

abbrev pub step_numbers_of : StepGiven → List ℕ
step_numbers_of g =
    g.number ∷ g.end ∷ g.place ∷ g.next ∷ g.step ∷ g.site ∷ g.instruction ∷ g.tag ∷ g.first ∷ g.second ∷ []

abbrev pub write_numbers : WriteGiven → List ℕ
write_numbers g = g.number ∷ g.place ∷ g.next ∷ []

-- CALLS ON A LENT SYSTEM

pub data CallAct : Type 0 where
  -- six numbers step the system and give these back
  steps : ℕ → ℕ → ℕ → ℕ → ℕ → ℕ → List ℕ → CallAct
  -- a drain with a budget and a buffer gives these back and leaves a buffer
  drains : ℕ → List ℕ → List ℕ → List ℕ → CallAct
  -- the system is called sound, 1, or not, 0
  sound_is : ℕ → CallAct
  -- a part of the system is these numbers
  shows : (System → List ℕ) → List ℕ → CallAct

pub record CallRan : Type 0 where
  pub right : Bool
  pub system : System

unfoldable pub step_ran : Stepped → List ℕ → CallRan
step_ran r ns = record { right = same_numbers (given_numbers r.given) ns; system = r.system }

unfoldable pub drain_ran : DrainBy → List ℕ → List ℕ → CallRan
drain_ran d ns buf = record { right = same_numbers (drain_numbers d.given) ns && same_numbers d.buffer buf; system = d.system }

unfoldable pub called : System → CallAct → CallRan
called s (steps k i n t a b ns) = step_ran (step_call s k i n t a b) ns
called s (drains budget buf ns after) = drain_ran (drain_call s budget buf) ns after
called s (sound_is n) = record { right = eqb (sound_call s) n; system = s }
called s (shows f ns) = record { right = same_numbers (f s) ns; system = s }

unfoldable pub all_called : System → List CallAct → Bool
all_called s [] = true
all_called s (a ∷ acts) = let r : CallRan = called s a in elim r.right [ true ↦ all_called r.system acts | false ↦ false ]

unfoldable pub fresh_called : CallRan → List CallAct → Bool
fresh_called r acts = elim r.right [ true ↦ all_called r.system acts | false ↦ false ]

-- THE KINDS OF SAMPLES

pub data CallSample : Type 0 where
  -- a fresh system of six numbers gives these back, and then calls give what they say
  fresh : ℕ → ℕ → ℕ → ℕ → ℕ → ℕ → List ℕ → List CallAct → CallSample
  -- reading sizes from bytes, or a step from bytes at an offset, gives these back
  reads_sizes : List ℕ → List ℕ → CallSample
  reads_step : List ℕ → ℕ → List ℕ → CallSample
  -- writing six sizes into a buffer, or the step of six numbers at an offset of it, gives these back and leaves a buffer
  writes_sizes : ℕ → ℕ → ℕ → ℕ → ℕ → ℕ → List ℕ → List ℕ → List ℕ → CallSample
  writes_step : ℕ → ℕ → ℕ → ℕ → ℕ → ℕ → List ℕ → ℕ → List ℕ → List ℕ → CallSample

unfoldable pub wrote_right : WriteBy → List ℕ → List ℕ → Bool
wrote_right w ns buf = same_numbers (write_numbers w.given) ns && same_numbers w.buffer buf

-- a row of the table: a sample under its name
infix 68 ◌∶◌
pub data CallRow : Type 0 where
  ◌∶◌ : String → CallSample → CallRow

-- Whoever unfolds it unfolds the definitions of the calls, and with the model's samples every definition below them.
unfoldable pub call_holds : String → CallSample → Bool
unfolding
    model_holds named_by fresh_call step_named drain_call sizes_numbers step_numbers wrote_numbers write_sizes_call write_named step_ran drain_ran called all_called fresh_called wrote_right
call_holds name (fresh sites words lines sets pend stall ns acts) = fresh_called (step_ran (fresh_call sites words lines sets pend stall) ns) acts
call_holds name (reads_sizes bs ns) = same_numbers (sizes_numbers_of (read_sizes_call bs)) ns
call_holds name (reads_step bs at ns) = same_numbers (step_numbers_of (read_step_call bs at)) ns
call_holds name (writes_sizes sites words lines sets pend stall buf ns after) = wrote_right (write_sizes_call sites words lines sets pend stall buf) ns after
call_holds name (writes_step k i n t a b buf at ns after) = wrote_right (write_step_call k i n t a b buf at) ns after

unfoldable pub call_row_holds : CallRow → Bool
unfolding call_holds
call_row_holds (name ∶ x) = call_holds name x

-- EACH ROW HOLDS: where one does not, the refusal shows it

infixr 20 ◌▸◌
pub data EachCallHolds : List CallRow → Type 0 where
  end : EachCallHolds []
  ◌▸◌ : {r : CallRow} {rs : List CallRow} → call_row_holds r ≡ true → EachCallHolds rs → EachCallHolds (r ∷ rs)
