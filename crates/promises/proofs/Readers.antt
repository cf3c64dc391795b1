-- What the readers of sizes and of a step give: their numbers, read in turn, or a refusal with its place.
use mathlib.Core.Path.{◌≡◌, refl}
use mathlib.Core.List.{List, [], ◌∷◌}
use mathlib.Core.Bool.{cond}
use mathlib.Core.Logic.{◌⊎◌, inl, inr}
use Prim.Native.Nat.{ℕ, zero, suc, ◌≤◌, ◌<◌}
use native.Mathlib.Omega.{arith}
use lib.Dec.{T, leb, eqb, leb→le, nleb→lt, eqb→eq}
use lib.ListN.{length, get_or}
use Rattle.lists.proofs.Long.{placed, by_places}
use Rattle.lists.proofs.Tests.{by_cond}
use Rattle.numbers.specs.Groups.{read_number}
use Rattle.model.specs.declared.Sizes.{Sizes}
use Rattle.model.specs.declared.Step.{Step}
use Rattle.model.specs.declared.Step.TheVariants.{Issue, Retry, Send, ArriveMemory, Serve, SendBack, ArriveSite, Take}
use Rattle.model.specs.declared.Refusal.TheVariants.{NoRecord, SizeOutside}
use Rattle.model.specs.Given.{most_bytes}
use Rattle.model.specs.Limits.{in_limits}
use Rattle.model.specs.Kinds.{storel, reconcile}
use Rattle.model.specs.Issue.{kind_of}
use Rattle.model.specs.Record.{most_number, six_of, operands, numbers_of, Numbers, numbers, fault_at, read_numbers, sizes_of, sizes_from, read_sizes, issue_limits, instruction_of, issue_from, read_issue, move_of, read_move, read_fields, step_at, read_step_of, read_step}
use Rattle.promises.specs.Promises.{Faulty, too_long, fault_at, SizesFault}
use Rattle.promises.proofs.InTurn.{found, by_number, InTurn, no_more, one_more, mosts, NumbersSay, numbers_say}
use Rattle.std.specs.Prelude.{Ok, Err, Some, None}
use Rattle.model.specs.Results.{ReadSizes, ReadStep, sized, one}
use Rattle.numbers.specs.Groups.{Got, got}

-- SIZES

-- the six are read first, in their limits, of bytes that are no more than a record's most
pub record SizesRead (bs : List ℕ) (z : Sizes) (past : ℕ) : Type 0 where
  pub short : length bs ≤ most_bytes
  pub limits : T (in_limits z)
  pub six : InTurn bs 0 (six_of z) past

abbrev SizesSay : List ℕ → ReadSizes → Type 0
SizesSay bs (Ok (z, past)) = SizesRead bs z past
SizesSay bs (Err r) = (r ≡ SizeOutside) ⊎ Faulty bs r

sizes_say : (bs : List ℕ) → SizesSay bs (read_sizes bs)
unfolding read_sizes sizes_from placed mosts
sizes_say bs =
    by_cond (SizesSay bs) (leb (length bs) most_bytes) _ _
    (λ t. go (leb→le (length bs) most_bytes t) (read_numbers (mosts 6) bs 0) (numbers_say 6 bs 0)) (λ t. inr (too_long (nleb→lt (length bs) most_bytes t)))
  where
    go : length bs ≤ most_bytes → (r : Numbers) → NumbersSay 6 bs 0 r → SizesSay bs (sizes_from r)
    go l (numbers vs past) h =
        by_cond (SizesSay bs) (in_limits (sizes_of vs)) _ _ (λ t. record { short = l; limits = t; six = rw (by_places 6 vs 0 h.0) h.1 }) (λ t. inl refl)
    go l (fault_at place) h = inr (fault_at place (h (omega arith)))

pub sizes-read : (bs : List ℕ) {z : Sizes} {past : ℕ} → read_sizes bs ≡ sized z past → SizesRead bs z past
sizes-read bs e = rw e at (sizes_say bs)

pub sizes_faulty : SizesFault
sizes_faulty bs r e = rw e at (sizes_say bs)

-- THE NUMBERS BEHIND A KIND

-- a kind of step or of instruction, one by one
pub each_kind : (P : ℕ → Type 0) → P 0 → P 1 → P 2 → P 3 → P 4 → P 5 → P 6 → P 7 → (k : ℕ) → T (leb k 7) → P k
each_kind P p0 p1 p2 p3 p4 p5 p6 p7 zero t = p0
each_kind P p0 p1 p2 p3 p4 p5 p6 p7 (suc zero) t = p1
each_kind P p0 p1 p2 p3 p4 p5 p6 p7 (suc (suc zero)) t = p2
each_kind P p0 p1 p2 p3 p4 p5 p6 p7 (suc (suc (suc zero))) t = p3
each_kind P p0 p1 p2 p3 p4 p5 p6 p7 (suc (suc (suc (suc zero)))) t = p4
each_kind P p0 p1 p2 p3 p4 p5 p6 p7 (suc (suc (suc (suc (suc zero))))) t = p5
each_kind P p0 p1 p2 p3 p4 p5 p6 p7 (suc (suc (suc (suc (suc (suc zero)))))) t = p6
each_kind P p0 p1 p2 p3 p4 p5 p6 p7 (suc (suc (suc (suc (suc (suc (suc zero))))))) t = p7
each_kind P p0 p1 p2 p3 p4 p5 p6 p7 (suc (suc (suc (suc (suc (suc (suc (suc k)))))))) t =
    absurd (omega (arith, leb→le (suc (suc (suc (suc (suc (suc (suc (suc k)))))))) 7 t))

-- each limit behind an instruction's number is the largest
limits-most : (k : ℕ) → issue_limits k ≡ mosts (length (issue_limits k))
unfolding issue_limits mosts
limits-most k =
    by_cond (λ (l : List ℕ). l ≡ mosts (length l)) (eqb k storel) _ _ (λ t. refl)
    (λ t. by_cond (λ (l : List ℕ). l ≡ mosts (length l)) (leb k reconcile) _ _ (λ u. refl) (λ u. refl))

-- the numbers read behind an instruction's are the issue's tag and operands
abbrev IssueNumbers : ℕ → Type 0
IssueNumbers k =
    (i : ℕ) (vs : List ℕ) → length vs ≡ length (issue_limits k) →
    numbers_of (Issue i (get_or vs 0 0) (instruction_of k (get_or vs 1 0) (get_or vs 2 0))) ≡ 0 ∷ i ∷ k ∷ vs

issue_numbers : (k : ℕ) → T (leb k 7) → IssueNumbers k
unfolding issue_limits instruction_of numbers_of operands kind_of placed
issue_numbers =
    each_kind IssueNumbers (λ i vs e. rw (by_places 2 vs 0 e)) (λ i vs e. rw (by_places 3 vs 0 e)) (λ i vs e. rw (by_places 2 vs 0 e))
    (λ i vs e. rw (by_places 2 vs 0 e)) (λ i vs e. rw (by_places 3 vs 0 e)) (λ i vs e. rw (by_places 3 vs 0 e)) (λ i vs e. rw (by_places 3 vs 0 e))
    (λ i vs e. rw (by_places 3 vs 0 e))

-- A STEP

-- what a step's answer says of the bytes
abbrev StepSays : List ℕ → ℕ → ReadStep → Type 0
StepSays bs at (Ok (Some (x, next))) = InTurn bs at (numbers_of x) next
StepSays bs at (Ok None) = at ≡ length bs
StepSays bs at (Err r) = at ≤ length bs → Faulty bs r

module _ (bs : List ℕ) (at : ℕ) where
  -- the tag and the operands, behind an instruction's number
  operands_say : (i k after : ℕ) → T (leb k 7) → after ≤ length bs →
      ((vs : List ℕ) (end : ℕ) → InTurn bs after vs end → InTurn bs at (0 ∷ i ∷ k ∷ vs) end) →
      StepSays bs at (issue_from i k (read_numbers (issue_limits k) bs after))
  unfolding issue_from
  operands_say i k after t l lead =
      rw (limits-most k) (go (read_numbers (mosts (length (issue_limits k))) bs after) (numbers_say (length (issue_limits k)) bs after))
    where
      go : (r : Numbers) → NumbersSay (length (issue_limits k)) bs after r → StepSays bs at (issue_from i k r)
      go (numbers vs end) h = rw (issue_numbers k t i vs h.0) (lead vs end h.1)
      go (fault_at place) h = λ m. fault_at place (h l)

  issue_says : (next : ℕ) → read_number most_number bs at ≡ got 0 next → StepSays bs at (read_issue bs next)
  unfolding read_issue
  issue_says next e =
      by_number (StepSays bs at) bs next _ _
      (λ i mid f. by_number (StepSays bs at) bs mid _ _
      (λ k after g. by_cond (StepSays bs at) (leb k 7) _ _
      (λ t. operands_say i k after t (found bs mid g).inside (λ vs end r. one_more e (one_more f (one_more g r))))
      (λ t l. fault_at mid (found bs next f).inside))
      (λ l. fault_at mid (found bs next f).inside))
      (λ l. fault_at next (found bs at e).inside)

  -- a step of one field
  field_says : (k : ℕ) (make : ℕ → Step) → ((v : ℕ) → numbers_of (make v) ≡ k ∷ v ∷ []) → (next : ℕ) → read_number most_number bs at ≡ got k next →
      StepSays bs at
      (elim (read_number most_number bs next) as (λ (r : Got). ReadStep) [ Err fault ↦ Err (NoRecord fault.place) | Ok (v, end) ↦ one (make v) end ])
  field_says k make m next e =
      by_number (StepSays bs at) bs next _ _ (λ v end f. rw (m v) (one_more e (one_more f no_more))) (λ l. fault_at next (found bs at e).inside)

  abbrev FieldsSay : ℕ → Type 0
  FieldsSay k = (next : ℕ) → read_number most_number bs at ≡ got k next → StepSays bs at (cond (eqb k 0) (read_issue bs next) (read_move bs k next))

  fields_say : (k : ℕ) → T (leb k 7) → FieldsSay k
  unfolding read_move move_of numbers_of
  fields_say =
      each_kind FieldsSay issue_says (field_says 1 Retry (λ v. refl)) (field_says 2 Send (λ v. refl)) (field_says 3 ArriveMemory (λ v. refl))
      (λ next e. one_more e no_more) (λ next e. one_more e no_more) (field_says 6 ArriveSite (λ v. refl)) (field_says 7 Take (λ v. refl))

  pub step_says : StepSays bs at (read_step bs at)
  unfolding read_step_of step_at read_fields
  step_says =
      by_cond (StepSays bs at) (leb (length bs) most_bytes) _ _
      (λ t. by_cond (StepSays bs at) (eqb at (length bs)) _ _ (λ u. eqb→eq at (length bs) u)
      (λ u. by_number (StepSays bs at) bs at _ _ (λ k next e. by_cond (StepSays bs at) (leb k 7) _ _ (λ v. fields_say k v next e) (λ v l. fault_at at l))
      (λ l. fault_at at l)))
      (λ t l. too_long (nleb→lt (length bs) most_bytes t))

  pub step_numbers_lem : {x : Step} {next : ℕ} → read_step bs at ≡ one x next → InTurn bs at (numbers_of x) next
  step_numbers_lem e = rw e at step_says

-- WITHIN THE BYTES

some-numbers : (x : Step) → 1 ≤ length (numbers_of x)
unfolding numbers_of
some-numbers (Issue i t n) = omega arith
some-numbers (Retry i) = omega arith
some-numbers (Send i) = omega arith
some-numbers (ArriveMemory p) = omega arith
some-numbers Serve = omega arith
some-numbers SendBack = omega arith
some-numbers (ArriveSite p) = omega arith
some-numbers (Take i) = omega arith

pub numbers-within : (bs : List ℕ) (at : ℕ) (vs : List ℕ) (end : ℕ) → InTurn bs at vs end → 1 ≤ length vs → (at < end) × (end ≤ length bs)
numbers-within bs at vs end no_more l = absurd (omega (arith, l))
numbers-within bs at vs end (one_more e no_more) l = omega (arith, found bs at e)
numbers-within bs at vs end (one_more {next = next} {vs = ws} e (one_more f r)) l =
    omega (arith, found bs at e, numbers-within bs next ws end (one_more f r) (omega arith))

-- a step's numbers end behind their start and within the bytes
pub step_within : (bs : List ℕ) (at : ℕ) (x : Step) (next : ℕ) → InTurn bs at (numbers_of x) next → (at < next) × (next ≤ length bs)
step_within bs at x next r = numbers-within bs at (numbers_of x) next r (some-numbers x)
