-- The listing goes on with each step that is read, whatever number of them it may have.
use mathlib.Core.Path.{◌≡◌, refl, ap, sym, ◌∙◌}
use mathlib.Core.List.{List, ◌++◌}
use Prim.Native.Nat.{ℕ, zero, suc, ◌-◌, ◌≤◌, ◌<◌}
use native.Mathlib.Omega.{arith}
use lib.ListN.{length}
use Rattle.model.specs.declared.System.{System}
use Rattle.model.specs.declared.Step.{Step}
use Rattle.model.specs.declared.Refusal.{Refusal}
use Rattle.model.specs.Fresh.{blank}
use Rattle.model.specs.Steps.{stepped}
use Rattle.model.specs.Record.{read_step}
use Rattle.model.specs.Replay.{sizes_line, step_line, left_of, record_line, step_and, listed_from, listed_at, listing}
use Rattle.promises.specs.Reading.{Ending, Reading, ended, stopped, further, lines_of}
use Rattle.promises.specs.Promises.{ListingWhole}
use Rattle.promises.proofs.Endings.{step_on}
use Rattle.std.specs.Prelude.{Ok, Err, Some, None}
use Rattle.model.specs.Results.{ReadStep, one, no_more}

module _ (bs : List ℕ) where
  -- the line of a step that is read, or the last line
  from_step : (g at n : ℕ) (s : System) (x : Step) (next : ℕ) → read_step bs at ≡ one x next →
      listed_from (suc g) bs at n s ≡ step_and n x (stepped s x) (λ t. listed_from g bs next (suc n) t)
  unfolding listed_from
  from_step g at n s x next e = rw (e, listed_from)

  from_end : (g at n : ℕ) (s : System) → read_step bs at ≡ no_more → listed_from (suc g) bs at n s ≡ left_of s
  unfolding listed_from
  from_end g at n s e = rw (e, listed_from)

  from_fault : (g at n : ℕ) (s : System) (why : Refusal) → read_step bs at ≡ Err why → listed_from (suc g) bs at n s ≡ record_line why
  unfolding listed_from
  from_fault g at n s why e = rw (e, listed_from)

  -- as many turns as there are bytes left are enough
  enough : (g h at n : ℕ) (s : System) → length bs - at < g → length bs - at < h → listed_from g bs at n s ≡ listed_from h bs at n s
  enough zero h at n s p q = absurd (omega arith)
  enough (suc g) zero at n s p q = absurd (omega arith)
  enough (suc g) (suc h) at n s p q =
      by (read_step bs at) refl (λ x next on. enough g h next (suc n) (stepped s x).system (omega (arith, on)) (omega (arith, on)))
    where
      by : (r : ReadStep) → read_step bs at ≡ r →
          ((x : Step) (next : ℕ) → (at < next) × (next ≤ length bs) →
          listed_from g bs next (suc n) (stepped s x).system ≡ listed_from h bs next (suc n) (stepped s x).system) →
          listed_from (suc g) bs at n s ≡ listed_from (suc h) bs at n s
      by (Ok (Some (x, next))) e more =
          from_step g at n s x next e ∙ ap (λ (l : List ℕ). step_line n x (stepped s x).outcome ++ l) (more x next (step_on bs at next x e)) ∙
          sym (from_step h at n s x next e)
      by (Ok None) e more = from_end g at n s e ∙ sym (from_end h at n s e)
      by (Err why) e more = from_fault g at n s why e ∙ sym (from_fault h at n s why e)

  pub listed_step : (at n : ℕ) (s : System) (x : Step) (next : ℕ) → read_step bs at ≡ one x next →
      listed_at bs at n s ≡ step_and n x (stepped s x) (λ t. listed_at bs next (suc n) t)
  listed_step at n s x next e =
      from_step (length bs - at) at n s x next e ∙
      ap (λ (l : List ℕ). step_line n x (stepped s x).outcome ++ l)
      (enough (length bs - at) (suc (length bs - next)) next (suc n) (stepped s x).system (omega (arith, step_on bs at next x e)) (omega arith))

  pub listed-end : (at n : ℕ) (s : System) → read_step bs at ≡ no_more → listed_at bs at n s ≡ left_of s
  listed-end at n s e = from_end (length bs - at) at n s e

  pub listed-fault : (at n : ℕ) (s : System) (why : Refusal) → read_step bs at ≡ Err why → listed_at bs at n s ≡ record_line why
  listed-fault at n s why e = from_fault (length bs - at) at n s why e

  -- all lines of a reading
  lines : (at n : ℕ) (s : System) (xs : List Step) (e : Ending) → Reading bs at xs e → listed_at bs at n s ≡ lines_of n s xs e
  unfolding lines_of
  lines at n s xs e (ended a p) = listed-end at n s p
  lines at n s xs e (stopped a r p) = listed-fault at n s r p
  lines at n s xs e (further a next x ys f p more) =
      listed_step at n s x next p ∙
      ap (λ (l : List ℕ). step_line n x (stepped s x).outcome ++ l) (lines next (suc n) (stepped s x).system ys f more)

pub whole-listing : ListingWhole
unfolding listing
whole-listing bs z past xs e sizes steps = rw (sizes, listing) (ap (λ (l : List ℕ). sizes_line z ++ l) (lines bs past 1 (blank z) xs e steps))
