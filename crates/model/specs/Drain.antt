-- Drain 1 to 6: quiet, the step that the drain takes next, the drain.
use Rattle.std.specs.Prelude.{List, [], ◌∷◌, ◌++◌, map, Bool, false, not, cond, ℕ, zero, suc, ◌-◌, ◌*◌, min, leb, eqb, length}
use Rattle.std.proofs.lemmas.List.Edits.{sets}
use Rattle.lists.specs.Places.{up_from, each, all_of}
use Rattle.model.specs.declared.System.{System}
use Rattle.model.specs.declared.After.{After}
use Rattle.model.specs.declared.Drained.{Drained}
use Rattle.model.specs.declared.Step.{Step}
use Rattle.model.specs.declared.Step.TheVariants.{Retry, Send, ArriveMemory, Serve, SendBack, ArriveSite, Take}
use Rattle.model.specs.declared.Answer.TheVariants.{Nothing}
use Rattle.model.specs.declared.Refusal.{Refusal}
use Rattle.model.specs.declared.Refusal.TheVariants.{NotSound, BufferShort}
use Rattle.model.specs.Limits.{most_drain}
use Rattle.model.specs.Sound.{sound}
use Rattle.model.specs.Steps.{step_of, is_done}
use Rattle.model.specs.Record.{steps_bytes}
use Rattle.std.specs.Prelude.{Ok, Err}

-- QUIET

-- Drain 1c, 3b: a sound state accepts the step
abbrev pub accepts : System → Step → Bool
accepts s x = is_done (step_of s x).outcome

-- Drain 3b: every step but an issue, at each site there is and at each position at which a message stands
unfoldable pub candidates : ℕ → ℕ → ℕ → List Step
candidates sites ups downs =
    map Retry (up_from 0 sites) ++ (map Send (up_from 0 sites) ++ (map Take (up_from 0 sites) ++
    (Serve ∷ SendBack ∷ (map ArriveMemory (up_from 0 ups) ++ map ArriveSite (up_from 0 downs)))))

-- Drain 3b: the same, of a state
abbrev pub candidates_of : System → List Step
candidates_of s = candidates s.sizes.sites s.up.count s.down.count

-- Drain 3b: in a quiet state nothing but an issue could be done
unfoldable pub quiet : System → Bool
quiet s = each (λ x. not (accepts s x)) (candidates_of s)

-- THE NEXT STEP

-- Drain 1a: the kind of each of its seven tries: 7 is tried first, 1 last
abbrev pub kind_at : ℕ → ℕ
kind_at j = 7 - j

-- Drain 1b: within a kind the sites are tried from 0 up, and of a network its oldest message alone
unfoldable pub steps_of_kind : ℕ → ℕ → List Step
steps_of_kind sites k =
    cond (eqb k 1) (map Retry (up_from 0 sites))
    (cond (eqb k 2) (map Send (up_from 0 sites))
    (cond (eqb k 3) (ArriveMemory 0 ∷ [])
    (cond (eqb k 4) (Serve ∷ [])
    (cond (eqb k 5) (SendBack ∷ [])
    (cond (eqb k 6) (ArriveSite 0 ∷ []) (map Take (up_from 0 sites)))))))

-- Drain 1a, 1b: all that is tried, in order
unfoldable pub tries : ℕ → List Step
tries sites = all_of 7 (λ j. steps_of_kind sites (kind_at j))

-- Drain 1c: the step chosen, with the state after it; or none
pub data Choice : Type 0 where
  chosen : Step → System → Choice
  none : Choice

-- Drain 1c: this step if it is accepted, or what the rest of the list gives
abbrev pub or_else : Step → After → Choice → Choice
or_else x r next = cond (is_done r.outcome) (chosen x r.system) next

-- Drain 1c: the earliest of the list that the state accepts
unfoldable pub first_of : System → List Step → Choice
first_of s [] = none
first_of s (x ∷ xs) = or_else x (step_of s x) (first_of s xs)

-- Drain 1c: what the drain does next
abbrev pub next_step : System → Choice
next_step s = first_of s (tries s.sizes.sites)

-- THE STEPS TAKEN

-- Drain 3a: the steps taken, and the state after them
pub record Taken : Type 0 where
  pub steps : List Step
  pub state : System

-- Drain 3a: one step more, before the others
abbrev pub further : Step → Taken → Taken
further x d = record { steps = x ∷ d.steps; state = d.state }

-- Drain 1c, 2: after each step the search begins anew; it ends where it finds nothing, or after as many steps as the budget has
unfoldable pub drained : ℕ → System → Taken
drained zero s = record { steps = []; state = s }
drained (suc b) s = elim (next_step s) [ chosen x t ↦ further x (drained b t) | none ↦ record { steps = []; state = s } ]

-- THE DRAIN

-- Drain 3: what it gives, and the buffer after it
pub record Drain : Type 0 where
  pub result : Drained
  pub buffer : List ℕ

-- Drain 3: a result beside a buffer
abbrev pub drain_gives : Drained → List ℕ → Drain
drain_gives r buf = record { result = r; buffer = buf }

-- Numbers 17: a refused drain took nothing, wrote nothing, answers nothing and leaves the system
abbrev pub undrained : Refusal → System → Drained
undrained r s = record { outcome = Err r; count = 0; quiet = false; length = 0; system = s }

-- Drain 3, 6: the bytes of the steps stand at the front of the buffer, their number is given, and the bytes behind them are as before
abbrev pub drained_into : Taken → List ℕ → List ℕ → Drain
drained_into d bytes buf =
    drain_gives (record { outcome = Ok Nothing; count = length d.steps; quiet = quiet d.state; length = length bytes; system = d.state })
    (sets buf 0 bytes)

-- Drain 3c: the same, from the steps
abbrev pub drained_with : Taken → List ℕ → Drain
drained_with d buf = drained_into d (steps_bytes d.steps) buf

-- Drain 4, Numbers 2, 11b: two bytes per step have to fit, for the budget or for 656 steps, whichever is less; if not, 11
unfoldable pub drain_of : System → ℕ → List ℕ → Drain
drain_of s budget buf =
    cond (sound s)
    (cond (leb (2 * min budget most_drain) (length buf)) (drained_with (drained budget s) buf) (drain_gives (undrained BufferShort s) buf))
    (drain_gives (undrained NotSound s) buf)
