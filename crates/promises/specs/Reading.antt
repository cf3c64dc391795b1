-- Whole records: what reading some bytes to the end gives, their listing, and what writing sizes and steps one behind the other leaves.
use Rattle.std.specs.Prelude.{◌≡◌, List, [], ◌∷◌, Bool, ℕ, suc, leb}
use Rattle.lists.specs.Places.{each}
use Rattle.model.specs.declared.Sizes.{Sizes}
use Rattle.model.specs.declared.System.{System}
use Rattle.model.specs.declared.Step.{Step}
use Rattle.model.specs.declared.Refusal.{Refusal}
use Rattle.model.specs.Steps.{stepped}
use Rattle.model.specs.Replay.{left_of, record_line, step_and}
use Rattle.model.specs.Record.{most_number, numbers_of, read_sizes, read_step, Written, write_sizes, write_step}
use Rattle.std.specs.Prelude.{Ok, Err}
use Rattle.model.specs.Results.{sized, one, no_more}

-- each is a number of a record
abbrev pub in_range : List ℕ → Bool
in_range vs = each (λ n. leb n most_number) vs

-- the numbers of a step are numbers of a record, as those of every step of the code are
abbrev pub recordable : Step → Bool
recordable x = in_range (numbers_of x)

-- READING

-- how a reading of steps ends: at the record's end, or with a refusal
pub data Ending : Type 0 where
  whole : Ending
  broken : Refusal → Ending

-- reading one step behind the other, from an offset on, gives the steps and ends so
pub data Reading (bs : List ℕ) : ℕ → List Step → Ending → Type 0 where
  ended : (at : ℕ) → read_step bs at ≡ no_more → Reading bs at [] whole
  stopped : (at : ℕ) (r : Refusal) → read_step bs at ≡ Err r → Reading bs at [] (broken r)
  further : (at next : ℕ) (x : Step) (xs : List Step) (e : Ending) → read_step bs at ≡ one x next → Reading bs next xs e → Reading bs at (x ∷ xs) e

-- the bytes are read as sizes and steps to the end
pub record ReadsAs (bs : List ℕ) (z : Sizes) (xs : List Step) : Type 0 where
  pub past : ℕ
  pub sizes : read_sizes bs ≡ sized z past
  pub steps : Reading bs past xs whole

-- what comes of reading some bytes: they are a record, or their sizes are refused, or one of their steps is
pub data Read (bs : List ℕ) : Type 0 where
  as_record : (z : Sizes) (xs : List Step) → ReadsAs bs z xs → Read bs
  sizes_refused : (r : Refusal) → read_sizes bs ≡ Err r → Read bs
  step_refused : (z : Sizes) (past : ℕ) (xs : List Step) (r : Refusal) → read_sizes bs ≡ sized z past → Reading bs past xs (broken r) → Read bs

-- LISTING

-- a line for each step from a state on, the first of count n, and the last line behind them
unfoldable pub lines_of : ℕ → System → List Step → Ending → List ℕ
lines_of n s [] whole = left_of s
lines_of n s [] (broken why) = record_line why
lines_of n s (x ∷ xs) e = step_and n x (stepped s x) (λ t. lines_of (suc n) t xs e)

-- WRITING

-- the steps, each where the write before it ended; a refusal ends it
unfoldable pub write_steps : List Step → Written → Written
write_steps [] w = w
write_steps (x ∷ xs) w = elim w.wrote [ Ok at ↦ write_steps xs (write_step x w.buffer at) | Err r ↦ w ]

abbrev pub write_record : Sizes → List Step → List ℕ → Written
write_record z xs buf = write_steps xs (write_sizes z buf)
