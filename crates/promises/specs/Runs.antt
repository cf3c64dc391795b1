-- Runs: what a list of steps, refused ones among them, makes of a system, and what it counts.
use Rattle.std.specs.Prelude.{List, [], ◌∷◌, ◌++◌, Bool, true, false, not, ◌&&◌, cond, ℕ, ◌+◌, ltb, eqb, get_or}
use Rattle.std.specs.Bool.{beq}
use Rattle.lists.specs.Places.{ind}
use Rattle.model.specs.declared.System.{System}
use Rattle.model.specs.declared.Instruction.{Instruction}
use Rattle.model.specs.declared.Step.{Step}
use Rattle.model.specs.declared.Step.TheVariants.{Issue, Retry, Send, ArriveMemory, Serve, SendBack, ArriveSite, Take}
use Rattle.model.specs.declared.Answer.{Answer}
use Rattle.model.specs.declared.Answer.TheVariants.{Nothing, Loaded, Acknowledged}
use Rattle.model.specs.Kinds.{loadl, reconcile}
use Rattle.model.specs.Issue.{kind_of}
use Rattle.model.specs.Steps.{stepped, is_done, answer_of}
use Rattle.model.specs.Record.{numbers_of}
use Rattle.model.specs.Results.{Outcome, one}

-- the system after the steps
unfoldable pub after_run : System → List Step → System
after_run s [] = s
after_run s (x ∷ xs) = after_run (stepped s x).system xs

-- how many of the steps are accepted and pass the test
unfoldable pub accepted : (Step → Bool) → System → List Step → ℕ
accepted f s [] = 0
accepted f s (x ∷ xs) = ind (is_done (stepped s x).outcome && f x) + accepted f (stepped s x).system xs

-- KINDS OF STEPS

-- the step issues an instruction that passes the test
unfoldable pub issues : (Instruction → Bool) → Step → Bool
issues f (Issue i t n) = f n
issues f (Retry i) = false
issues f (Send i) = false
issues f (ArriveMemory p) = false
issues f Serve = false
issues f SendBack = false
issues f (ArriveSite p) = false
issues f (Take i) = false

-- a step other than an issue
abbrev pub is_move : Step → Bool
is_move x = not (issues (λ n. true) x)

-- it issues a Loadl, a Storel or a Commit
abbrev pub issues_trip : Step → Bool
issues_trip x = issues (λ n. ltb (kind_of n) reconcile) x

abbrev pub issues_reconcile : Step → Bool
issues_reconcile x = issues (λ n. eqb (kind_of n) reconcile) x

-- two steps other than issues are one: of one kind, for one site or position
abbrev pub same_move : Step → Step → Bool
same_move x y = eqb (get_or (numbers_of x) 0 0) (get_or (numbers_of y) 0 0) && eqb (get_or (numbers_of x) 1 0) (get_or (numbers_of y) 1 0)

-- WHAT ONE PROCESSOR SEES UNDER ONE TAG

-- an accepted instruction, a Loadl or not; an answer, a value or an acknowledgement
pub data Event : Type 0 where
  issued : Bool → Event
  answered : Bool → Event

abbrev pub here : ℕ → ℕ → ℕ → ℕ → Event → List Event
here i t j u e = cond (eqb j i && eqb u t) (e ∷ []) []

unfoldable pub issue_seen : ℕ → ℕ → Step → List Event
issue_seen i t (Issue j u n) = here i t j u (issued (eqb (kind_of n) loadl))
issue_seen i t (Retry j) = []
issue_seen i t (Send j) = []
issue_seen i t (ArriveMemory p) = []
issue_seen i t Serve = []
issue_seen i t SendBack = []
issue_seen i t (ArriveSite p) = []
issue_seen i t (Take j) = []

unfoldable pub answer_seen : ℕ → ℕ → Answer → List Event
answer_seen i t Nothing = []
answer_seen i t (Loaded j u v) = here i t j u (answered true)
answer_seen i t (Acknowledged j u) = here i t j u (answered false)

-- the instruction that a step issues, if it is accepted, and then its answer
abbrev pub seen : ℕ → ℕ → Step → Outcome → List Event
seen i t x o = cond (is_done o) (issue_seen i t x) [] ++ answer_seen i t (answer_of o)

-- along the steps, at site i under tag t
unfoldable pub events : ℕ → ℕ → System → List Step → List Event
events i t s [] = []
events i t s (x ∷ xs) = seen i t x (stepped s x).outcome ++ events i t (stepped s x).system xs

-- whose turn it is: an issue's, or the answer's to an instruction
pub data Turn : Type 0 where
  free : Turn
  due : Bool → Turn

-- They alternate, an issue first; and the answer is a value for a Loadl, an acknowledgement for the rest.
unfoldable pub alternate : Turn → List Event → Bool
alternate free [] = true
alternate (due b) [] = true
alternate free (issued b ∷ es) = alternate (due b) es
alternate free (answered c ∷ es) = false
alternate (due b) (issued c ∷ es) = false
alternate (due b) (answered c ∷ es) = beq b c && alternate free es

abbrev pub is_issued : Event → Bool
is_issued (issued b) = true
is_issued (answered b) = false

abbrev pub is_answered : Event → Bool
is_answered (issued b) = false
is_answered (answered b) = true
