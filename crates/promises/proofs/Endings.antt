-- Readings end: each step read ends behind its start, so that every reading has one ending, and a refusal has its place.
use mathlib.Core.Path.{◌≡◌, refl, subst, sym, ap, ◌∙◌}
use mathlib.Core.List.{List, [], ◌∷◌}
use Prim.Native.Nat.{ℕ, zero, suc, ◌+◌, ◌≤◌, ◌<◌}
use native.Mathlib.Omega.{arith}
use lib.ListN.{length}
use Rattle.model.specs.declared.Sizes.{Sizes}
use Rattle.model.specs.declared.Step.{Step}
use Rattle.model.specs.Record.{read_sizes, read_step}
use Rattle.promises.specs.Reading.{Ending, whole, broken, Reading, ended, stopped, further, Read, as_record, sizes_refused, step_refused}
use Rattle.promises.specs.Promises.{ReadOn, ReadAnswered, ReadFault}
use Rattle.promises.proofs.Readers.{step_says, step_numbers_lem, step_within}
use Rattle.std.specs.Prelude.{Ok, Err, Some, None}
use Rattle.model.specs.Results.{ReadSizes, ReadStep, sized, one}

-- BEHIND ITS START

pub step_on : ReadOn
step_on bs at next x e = step_within bs at x next (step_numbers_lem bs at e)

-- AN ENDING

record Ends (bs : List ℕ) (at : ℕ) : Type 0 where
  steps : List Step
  ending : Ending
  reading : Reading bs at steps ending

ends_by : (bs : List ℕ) (at : ℕ) → ((next : ℕ) → (at < next) × (next ≤ length bs) → Ends bs next) → (r : ReadStep) → read_step bs at ≡ r → Ends bs at
ends_by bs at more (Ok (Some (x, next))) e =
    let rest : Ends bs next = more next (step_on bs at next x e) in
    record { steps = x ∷ rest.steps; ending = rest.ending; reading = further at next x rest.steps rest.ending e rest.reading }
ends_by bs at more (Ok None) e = record { steps = []; ending = whole; reading = ended at e }
ends_by bs at more (Err r) e = record { steps = []; ending = broken r; reading = stopped at r e }

-- with no more bytes left than so many
ends : (bs : List ℕ) (left at : ℕ) → length bs ≤ at + left → Ends bs at
ends bs zero at l = ends_by bs at (λ next on. absurd (omega (arith, on, l))) (read_step bs at) refl
ends bs (suc left) at l = ends_by bs at (λ next on. ends bs left next (omega (arith, on, l))) (read_step bs at) refl

pub all_read : ReadAnswered
all_read bs = go (read_sizes bs) refl
  where
    by_ending : (z : Sizes) (past : ℕ) → read_sizes bs ≡ sized z past → (xs : List Step) (e : Ending) → Reading bs past xs e → Read bs
    by_ending z past s xs whole r = as_record z xs (record { past = past; sizes = s; steps = r })
    by_ending z past s xs (broken y) r = step_refused z past xs y s r

    go : (r : ReadSizes) → read_sizes bs ≡ r → Read bs
    go (Ok (z, past)) e =
        let rest : Ends bs past = ends bs (length bs) past (omega arith) in by_ending z past e rest.steps rest.ending rest.reading
    go (Err r) e = sizes_refused r e

-- THE ONE ENDING

-- the step that was read, or another where there is none
unfoldable step_in : Step → ReadStep → Step
step_in other (Ok (Some (x, next))) = x
step_in other (Ok None) = other
step_in other (Err r) = other

-- the offset past the step that was read, or 0
unfoldable past_in : ReadStep → ℕ
past_in (Ok (Some (x, next))) = next
past_in (Ok None) = 0
past_in (Err r) = 0

same_step : {x y : Step} {next after : ℕ} → one x next ≡ one y after → (x ≡ y) × (next ≡ after)
unfolding step_in past_in
same_step {x} e = (ap (step_in x) e, ap past_in e)

pub same_reading : (bs : List ℕ) (at : ℕ) (xs ys : List Step) (e f : Ending) → Reading bs at xs e → Reading bs at ys f → (xs ≡ ys) × (e ≡ f)
same_reading bs at xs ys e f (ended a p) (ended b q) = (refl, refl)
same_reading bs at xs ys e f (ended a p) (stopped b r q) = (cc, cc)
same_reading bs at xs ys e f (ended a p) (further b next y zs g q v) = (cc, cc)
same_reading bs at xs ys e f (stopped a r p) (ended b q) = (cc, cc)
same_reading bs at xs ys e f (stopped a r p) (stopped b s q) = (cc, cc)
same_reading bs at xs ys e f (stopped a r p) (further b next y zs g q v) = (cc, cc)
same_reading bs at xs ys e f (further a next x ws h p u) (ended b q) = (cc, cc)
same_reading bs at xs ys e f (further a next x ws h p u) (stopped b s q) = (cc, cc)
same_reading bs at xs ys e f (further a next x ws h p u) (further b after y zs g q v) =
    let same : (x ≡ y) × (next ≡ after) = same_step (sym p ∙ q) in
    let rest : (ws ≡ zs) × (h ≡ g) = same_reading bs next ws zs h g u (subst (λ (n : ℕ). Reading bs n zs g) (sym same.1) v) in
    (rw (same.0, rest.0), rest.1)

-- ITS PLACE

pub fault-placed : ReadFault
fault-placed bs at xs r l (stopped a s e) = rw e at (step_says bs at) l
fault-placed bs at xs r l (further a next x ys f e u) = fault-placed bs next ys r (step_on bs at next x e).1 u
