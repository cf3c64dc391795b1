-- What reads is what would be written: the bytes that numbers, sizes and steps are read from are their bytes.
use mathlib.Core.Path.{◌≡◌, refl, ap, ◌∙◌}
use mathlib.Core.List.{List, ◌++◌, append_assoc, flat_map}
use mathlib.Core.Bool.{true}
use Prim.Native.Nat.{ℕ}
use lib.Dec.{T, leb, ltb, le→leb}
use lib.ListN.{drop}
use lib.Seq.{drop-drop, drop-length}
use Rattle.lists.specs.Places.{each}
use Rattle.lists.proofs.Tests.{both}
use Rattle.lists.proofs.Counts.{each-drop}
use Rattle.numbers.specs.Groups.{bytes, most_groups, bytes_of}
use Rattle.numbers.proofs.Codec.{written_read}
use Rattle.numbers.proofs.Found.{Found}
use Rattle.model.specs.declared.Step.{Step}
use Rattle.model.specs.Record.{most_number, bytes_of_all, six_of, numbers_of, sizes_bytes, step_bytes, steps_bytes}
use Rattle.promises.specs.Reading.{in_range, recordable, Ending, whole, Reading, ended, stopped, further}
use Rattle.promises.specs.Promises.{RecordOnly}
use Rattle.promises.proofs.InTurn.{found, InTurn, no_more, one_more}
use Rattle.promises.proofs.Readers.{SizesRead, sizes-read, step_says, step_numbers_lem}

module _ (bs : List ℕ) (h : T (bytes bs)) where
  number_off : (at v next : ℕ) → Found most_number bs at v next → drop at bs ≡ bytes_of v ++ drop next bs
  number_off at v next f =
      (written_read most_groups true (drop at bs) v f.size (each-drop (λ b. ltb b 256) at bs h) f.groups).bytes ∙
      rw (drop-drop f.size at bs, f.past)

  numbers_off : (at : ℕ) (vs : List ℕ) (end : ℕ) → InTurn bs at vs end → drop at bs ≡ bytes_of_all vs ++ drop end bs
  unfolding flat_map
  numbers_off at vs end no_more = refl
  numbers_off at vs end (one_more {v = v} {next = next} {vs = ws} e r) =
      number_off at v next (found bs at e) ∙ rw (numbers_off next ws end r, append_assoc)

numbers_fit : (bs : List ℕ) (at : ℕ) (vs : List ℕ) (end : ℕ) → InTurn bs at vs end → T (in_range vs)
unfolding each
numbers_fit bs at vs end no_more = tt
numbers_fit bs at vs end (one_more {v = v} {next = next} {vs = ws} e r) =
    both (leb v most_number) _ (le→leb v most_number (found bs at e).fits) (numbers_fit bs next ws end r)

-- STEPS

steps_fit : (bs : List ℕ) (at : ℕ) (xs : List Step) (e : Ending) → Reading bs at xs e → T (each recordable xs)
unfolding each
steps_fit bs at xs e (ended a p) = tt
steps_fit bs at xs e (stopped a r p) = tt
steps_fit bs at xs e (further a next x ys f p r) =
    both (recordable x) _ (numbers_fit bs a (numbers_of x) next (step_numbers_lem bs a p)) (steps_fit bs next ys f r)

steps_off : (bs : List ℕ) → T (bytes bs) → (at : ℕ) (xs : List Step) → Reading bs at xs whole → drop at bs ≡ steps_bytes xs
unfolding flat_map
steps_off bs h at xs (ended a p) = rw (rw p at (step_says bs at)) (drop-length bs)
steps_off bs h at xs (further a next x ys e p r) =
    numbers_off bs h a (numbers_of x) next (step_numbers_lem bs a p) ∙ ap (λ (l : List ℕ). step_bytes x ++ l) (steps_off bs h next ys r)

pub read_off : RecordOnly
read_off bs t z xs r =
    let s : SizesRead bs z r.past = sizes-read bs r.sizes in
    record {
      record_bytes = numbers_off bs t 0 (six_of z) r.past s.six ∙ ap (λ (l : List ℕ). sizes_bytes z ++ l) (steps_off bs t r.past xs r.steps);
      limits = s.limits;
      numbers = steps_fit bs r.past xs whole r.steps;
      short = s.short;
    }
