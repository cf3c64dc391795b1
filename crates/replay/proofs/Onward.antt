-- What holds while lines are put: those in the buffer, and those still to come, are what was to be listed.
use Rattle.std.proofs.Common.{◌≡◌, ℕ, suc, ◌+◌, ◌<◌, ◌≤◌, List, [], ◌++◌, Ok, Err, Some, None, refl, length, take, add-one, ap, sym, ◌∙◌}
use mathlib.Core.List.{append-nil}
use Rattle.model.specs.declared.Step.{Step}
use Rattle.model.specs.declared.After.{After}
use Rattle.model.specs.Record.{read_step}
use Rattle.model.specs.Replay.{step_line, left_of, record_line, listed_at}
use Rattle.model.specs.Results.{Outcome, ReadStep, one}
use Rattle.model.specs.Steps.{step_of, stepped}
use Rattle.promises.proofs.Public.{stepped-sound}
use Rattle.promises.proofs.Listed.{listed_step, listed-end, listed-fault}
use Rattle.steps.specs.After.{after}
use Rattle.steps.proofs.Visits.{sound_open}
use Rattle.replay.specs.declared.going.Going.{Going}
use Rattle.replay.specs.Going.{last_line, to_list}

pub record Onward (bs buf : List ℕ) (from going : Going) (used : ℕ) : Type 0 where
  pub all : take used buf ++ to_list bs (Some going) ≡ to_list bs (Some from)
  pub within : used ≤ length buf
  -- no line was put yet, or some step's
  pub since : from.at ≤ going.at
  pub further : 0 < used → (from.at < going.at) × (going.at ≤ length bs)

-- what is listed where a step is read: its line, and what is listed behind it
pub step_listed : (bs : List ℕ) (g h : Going) (x : Step) (next : ℕ) (o : Outcome) → read_step bs g.at ≡ one x next →
    after o h.system ≡ step_of g.system x → h.at ≡ next → h.count ≡ g.count + 1 → to_list bs (Some g) ≡ step_line h.count x o ++ to_list bs (Some h)
step_listed bs g h x next o r e a k =
    let st : stepped g.system x ≡ after o h.system = stepped-sound g.system (sound_open g.system g.is_sound) x ∙ sym e in
    rw (a, k, add-one (g.count + 1)) (listed_step bs g.at (g.count + 1) g.system x next r ∙
    ap (λ (t : After). step_line (g.count + 1) x t.outcome ++ listed_at bs next (suc (g.count + 1)) t.system) st)

-- where none is read: the line behind the last step
pub last_listed : (bs : List ℕ) (g : Going) (got : ReadStep) → read_step bs g.at ≡ got → ((x : Step) (next : ℕ) → got ≡ one x next → ⊥) →
    to_list bs (Some g) ≡ last_line got g.system ++ []
unfolding last_line
last_listed bs g (Ok (Some (x, next))) e k = absurd (k x next refl)
last_listed bs g (Ok None) e k = listed-end bs g.at (g.count + 1) g.system e ∙ sym (append-nil (left_of g.system))
last_listed bs g (Err why) e k = listed-fault bs g.at (g.count + 1) g.system why e ∙ sym (append-nil (record_line why))
