-- What was written is read back: where the bytes of numbers, sizes and steps stand, those are read.
use mathlib.Core.Path.{◌≡◌, refl, ap, sym, ◌∙◌}
use mathlib.Core.List.{List, [], ◌∷◌, ◌++◌, append_assoc, flat_map}
use mathlib.Core.Bool.{true, false}
use Prim.Native.Nat.{ℕ, ◌+◌, ◌≤◌, ◌<◌}
use native.Mathlib.Nat.{zero-add, add-zero, add_assoc}
use native.Mathlib.Omega.{arith}
use lib.Dec.{T, leb, eqb, leb→le}
use lib.ListN.{length, drop, get_or, length-append, length-drop}
use lib.Seq.{drop-drop, drop-append_seam}
use borrow.Author.Tests.{le-leb, eq-eqb, ne_eqb}
use Rattle.lists.specs.Places.{each}
use Rattle.lists.proofs.Tests.{and_l, and_r, T_true}
use Rattle.numbers.specs.Groups.{bytes_of, limited, read_number}
use Rattle.numbers.proofs.Codec.{read-written}
use Rattle.model.specs.declared.Sizes.{Sizes}
use Rattle.model.specs.declared.Instruction.{Instruction}
use Rattle.model.specs.declared.Instruction.TheVariants.{Loadl, Storel, Commit, Reconcile, FenceRr, FenceRw, FenceWr, FenceWw}
use Rattle.model.specs.declared.Step.{Step}
use Rattle.model.specs.declared.Step.TheVariants.{Issue, Retry, Send, ArriveMemory, Serve, SendBack, ArriveSite, Take}
use Rattle.model.specs.Given.{most_bytes}
use Rattle.model.specs.Limits.{in_limits}
use Rattle.model.specs.Issue.{kind_of}
use Rattle.model.specs.Record.{most_number, bytes_of_all, six_of, sizes_bytes, operands, numbers_of, step_bytes, steps_bytes, record_of, sizes_from, read_sizes, numbers, consed, read_numbers, issue_limits, instruction_of, issue_from, read_issue, move_of, read_move, read_fields, step_at, read_step_of}
use Rattle.promises.specs.Reading.{in_range, recordable, whole, Reading, ended, further}
use Rattle.promises.specs.Promises.{RecordRead}
use Rattle.promises.proofs.InTurn.{InTurn, no_more, one_more, mosts}
use Rattle.promises.proofs.Readers.{step_within}
use Rattle.promises.proofs.Sound.{Limits, limits}
use Rattle.model.specs.Results.{one}
use Rattle.numbers.specs.Groups.{got}

-- NUMBERS

-- past some bytes stands what stood behind them
behind : (bs new rest : List ℕ) (at : ℕ) → drop at bs ≡ new ++ rest → drop (at + length new) bs ≡ rest
behind bs new rest at e = sym (drop-drop (length new) at bs) ∙ ap (drop (length new)) e ∙ drop-append_seam new rest

number_back : (bs rest : List ℕ) (at v : ℕ) → v ≤ most_number → drop at bs ≡ bytes_of v ++ rest →
    read_number most_number bs at ≡ got v (at + length (bytes_of v))
unfolding read_number limited
number_back bs rest at v l e = rw (e, read-written 4 v true rest (omega arith) refl, le-leb v most_number l)

numbers_back : (bs rest : List ℕ) (at : ℕ) (vs : List ℕ) → T (in_range vs) → drop at bs ≡ bytes_of_all vs ++ rest →
    InTurn bs at vs (at + length (bytes_of_all vs))
unfolding each flat_map
numbers_back bs rest at [] t e = rw add-zero no_more
numbers_back bs rest at (v ∷ vs) t e =
    let l : v ≤ most_number = leb→le v most_number (and_l (leb v most_number) _ t) in
    let f : drop at bs ≡ bytes_of v ++ (bytes_of_all vs ++ rest) = e ∙ append_assoc (bytes_of v) (bytes_of_all vs) rest in
    rw (length-append, ← add_assoc)
    (one_more (number_back bs (bytes_of_all vs ++ rest) at v l f)
    (numbers_back bs rest (at + length (bytes_of v)) vs (and_r (leb v most_number) _ t) (behind bs (bytes_of v) (bytes_of_all vs ++ rest) at f)))

-- A STEP

-- numbers read in turn are read as a list
numbers_list : (bs : List ℕ) (at : ℕ) (vs : List ℕ) (end : ℕ) → InTurn bs at vs end → read_numbers (mosts (length vs)) bs at ≡ numbers vs end
unfolding read_numbers mosts consed
numbers_list bs at vs end no_more = refl
numbers_list bs at vs end (one_more {next = next} {vs = ws} e r) = cc (numbers_list bs next ws end r)

-- an instruction is that of its kind and of its operands behind its tag
record Coded (t : ℕ) (n : Instruction) : Type 0 where
  kind : leb (kind_of n) 7 ≡ true
  limits : issue_limits (kind_of n) ≡ mosts (length (t ∷ operands n))
  same : instruction_of (kind_of n) (get_or (t ∷ operands n) 1 0) (get_or (t ∷ operands n) 2 0) ≡ n

coded : (t : ℕ) (n : Instruction) → Coded t n
unfolding kind_of operands issue_limits instruction_of mosts
coded t (Loadl a) = record { kind = refl; limits = refl; same = refl }
coded t (Storel a v) = record { kind = refl; limits = refl; same = refl }
coded t (Commit a) = record { kind = refl; limits = refl; same = refl }
coded t (Reconcile a) = record { kind = refl; limits = refl; same = refl }
coded t (FenceRr a b) = record { kind = refl; limits = refl; same = refl }
coded t (FenceRw a b) = record { kind = refl; limits = refl; same = refl }
coded t (FenceWr a b) = record { kind = refl; limits = refl; same = refl }
coded t (FenceWw a b) = record { kind = refl; limits = refl; same = refl }

step_back : (bs : List ℕ) (at next : ℕ) (x : Step) → InTurn bs at (numbers_of x) next → step_at bs at ≡ one x next
unfolding numbers_of step_at read_fields read_issue issue_from read_move move_of
step_back bs at next (Issue i t n) (one_more e (one_more f (one_more {next = mid} g r))) =
    let c : Coded t n = coded t n in cc (numbers_list bs mid (t ∷ operands n) next r)
step_back bs at next (Retry i) (one_more e (one_more f no_more)) = cc
step_back bs at next (Send i) (one_more e (one_more f no_more)) = cc
step_back bs at next (ArriveMemory p) (one_more e (one_more f no_more)) = cc
step_back bs at next Serve (one_more e no_more) = cc
step_back bs at next SendBack (one_more e no_more) = cc
step_back bs at next (ArriveSite p) (one_more e (one_more f no_more)) = cc
step_back bs at next (Take i) (one_more e (one_more f no_more)) = cc

pub steps_back : (bs : List ℕ) → length bs ≤ most_bytes → (at : ℕ) (xs : List Step) → at ≤ length bs → T (each recordable xs) → drop at bs ≡ steps_bytes xs →
    Reading bs at xs whole
unfolding each flat_map read_step_of
steps_back bs m at [] l t e =
    let end : at ≡ length bs = omega (arith, length-drop at bs, ap length e) in
    ended at (rw (le-leb (length bs) most_bytes m, eq-eqb at (length bs) end))
steps_back bs m at (x ∷ xs) l t e =
    let next : ℕ = at + length (step_bytes x) in
    let r : InTurn bs at (numbers_of x) next = numbers_back bs (steps_bytes xs) at (numbers_of x) (and_l (recordable x) _ t) e in
    let k : (at < next) × (next ≤ length bs) = step_within bs at x next r in
    let inside : eqb at (length bs) ≡ false = ne_eqb at (length bs) (λ q. omega (arith, q, k)) in
    further at next x xs whole (rw (le-leb (length bs) most_bytes m, inside) (step_back bs at next x r))
    (steps_back bs m next xs k.1 (and_r (recordable x) _ t) (behind bs (step_bytes x) (steps_bytes xs) at e))

-- A RECORD

-- sizes in their limits are numbers of a record
six_fit : (z : Sizes) → T (in_limits z) → T (in_range (six_of z))
unfolding each
six_fit z t =
    let l : Limits z = limits z t in
    let fit : (v : ℕ) → v ≤ 16 → leb v most_number ≡ true = λ v k. le-leb v most_number (omega (arith, k)) in
    rw (fit z.sites (omega arith), fit z.words (omega arith), fit z.lines (omega arith))
    (rw (fit z.sets (omega arith), fit z.pend (omega arith), fit z.stall (omega arith)) tt)

pub read_back : RecordRead
unfolding read_sizes sizes_from mosts
read_back z xs t u m =
    let bs : List ℕ = record_of z xs in
    let past : ℕ = length (sizes_bytes z) in
    let r : InTurn bs 0 (six_of z) (0 + past) = numbers_back bs (steps_bytes xs) 0 (six_of z) (six_fit z t) refl in
    record {
      past = past;
      sizes = rw (le-leb (length bs) most_bytes m, numbers_list bs 0 (six_of z) past (rw zero-add at r), T_true (in_limits z) t);
      steps = steps_back bs m past xs (omega (arith, length-append (sizes_bytes z) (steps_bytes xs))) u (drop-append_seam (sizes_bytes z) (steps_bytes xs));
    }
