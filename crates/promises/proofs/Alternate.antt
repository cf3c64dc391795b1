-- Along a run, under each tag of each site, issues and answers alternate, an issue first; and each accepted instruction is answered or outstanding.
use mathlib.Core.Path.{◌≡◌, refl, ap}
use mathlib.Core.List.{List, [], ◌∷◌, ◌++◌}
use mathlib.Core.Bool.{Bool, true, false, ◌&&◌, beq}
use Prim.Native.Nat.{ℕ, ◌+◌, ◌≤◌}
use native.Mathlib.Omega.{arith}
use lib.Dec.{T}
use Rattle.lists.specs.Places.{ind, count}
use Rattle.lists.proofs.Tests.{and_r, both, some_T}
use Rattle.lists.proofs.Counts.{count-append, count_both}
use Rattle.model.specs.declared.Sizes.{Sizes}
use Rattle.model.specs.declared.System.{System}
use Rattle.model.specs.declared.After.{After}
use Rattle.model.specs.declared.Step.{Step}
use Rattle.model.specs.Limits.{may_be_fresh}
use Rattle.model.specs.Fresh.{blank}
use Rattle.model.specs.Parts.{Site}
use Rattle.model.specs.Steps.{step_of, answer_of}
use Rattle.promises.specs.Runs.{after_run, Event, issued, answered, events, Turn, free, due, alternate, is_issued, is_answered}
use Rattle.promises.specs.Promises.{run, Alternating, AllAnswered}
use Rattle.promises.proofs.Sound.{Sound, limits}
use Rattle.promises.proofs.Stepping.{stepping}
use Rattle.promises.proofs.Kept.{kept, fresh_sound, blank-site}
use Rattle.promises.proofs.Quiet.{Idle, quiet_idle}
use Rattle.promises.proofs.Public.{stepped-sound, run-kept}
use Rattle.promises.proofs.Answers.{outstanding, left, form_of, by_forms, issues_as, answers_as, issue_in, answer_in, step_once, none_left, Issuing, no_issue, one_issue, issuing, Answering, no_answer, one_answer, answering}

-- TURNS

-- how many are outstanding
abbrev waiting : Turn → ℕ
waiting free = 0
waiting (due b) = 1

-- how many of each form are
abbrev held : Turn → Bool → ℕ
held free c = 0
held (due b) c = ind (beq b c)

abbrev Fits : Turn → (Bool → ℕ) → Type 0
Fits u n = (c : Bool) → n c ≡ held u c

same_form : (b : Bool) → ind (beq b b) ≡ 1
same_form true = refl
same_form false = refl

form_is : (b c : Bool) → T (beq b c) → b ≡ c
form_is true true t = refl
form_is false false t = refl
form_is true false t = absurd t
form_is false true t = absurd t

-- A STEP

-- what a step shows keeps to the turn, and the next turn is that of what is then outstanding
module _ (i t : ℕ) (s : System) (n : Bool → ℕ) (rest : List Event) (next : (u : Turn) → Fits u n → T (alternate u rest)) where
  -- an answer where one of form b is outstanding
  settles : (b c : Bool) → ((d : Bool) → ind (beq c d) + n d ≡ ind (beq b d)) → T (beq b c && alternate free rest)
  settles b c e =
      let t : T (beq b c) = some_T (beq b c) (omega (arith, e c, same_form c)) in
      both (beq b c) _ t (next free (λ d. omega (arith, e d, ap (λ b. ind (beq b d)) (form_is b c t))))

  turns : (u : Turn) → Fits u (λ c. outstanding i t c s) → (es fs : List Event) → Issuing i t s es → Answering fs →
      ((c : Bool) → count (answers_as c) fs + n c ≡ outstanding i t c s + count (issues_as c) es) → T (alternate u ((es ++ fs) ++ rest))
  unfolding alternate count
  turns u f es fs no_issue no_answer e = next u (λ c. omega (arith, e c, f c))
  turns free f es fs no_issue (one_answer c) e = absurd (omega (arith, e c, f c, same_form c))
  turns (due b) f es fs no_issue (one_answer c) e = settles b c (λ d. omega (arith, e d, f d))
  turns (due b) f es fs (one_issue c z) a e = absurd (omega (arith, f b, z b, same_form b))
  turns free f es fs (one_issue b z) no_answer e = next (due b) (λ c. omega (arith, e c, f c))
  turns free f es fs (one_issue b z) (one_answer c) e = settles b c (λ d. omega (arith, e d, f d))

-- no answer among the issues, and no issue among the answers
no_answers : (i t : ℕ) (s : System) (b : Bool) (es : List Event) → Issuing i t s es → count (answers_as b) es ≡ 0
unfolding count
no_answers i t s b es no_issue = refl
no_answers i t s b es (one_issue c z) = refl

no-issues : (b : Bool) (es : List Event) → Answering es → count (issues_as b) es ≡ 0
unfolding count
no-issues b es no_answer = refl
no-issues b es (one_answer c) = refl

count_three : (f : Event → Bool) (es fs gs : List Event) → count f ((es ++ fs) ++ gs) ≡ count f es + count f fs + count f gs
count_three f es fs gs = omega (arith, count-append f (es ++ fs) gs, count-append f es fs)

-- the events that pass a test are of one form or of the other
count_forms : (f : Event → Bool) (es : List Event) →
    count f es ≡ count (λ e. f e && beq (form_of e) true) es + count (λ e. f e && beq (form_of e) false) es
count_forms f es = count_both f (λ e. f e && beq (form_of e) true) (λ e. f e && beq (form_of e) false) (λ e. by_forms (f e) (form_of e)) es

-- RUNS

module _ (i t : ℕ) where
  alternate_by : (s : System) → Sound s → (u : Turn) → Fits u (λ c. outstanding i t c s) → (xs : List Step) → T (alternate u (events i t s xs))
  unfolding events alternate
  alternate_by s h free f [] = tt
  alternate_by s h (due b) f [] = tt
  alternate_by s h u f (x ∷ xs) =
      let r : After = step_of s x in
      rw (stepped-sound s h x)
      (turns i t s (λ c. outstanding i t c r.system) (events i t r.system xs) (λ v g. alternate_by r.system (kept s h x) v g xs) u f
      (issue_in i t x r.outcome) (answer_in i t r.outcome) (issuing i t s x r (stepping s h x)) (answering i t (answer_of r.outcome))
      (λ c. step_once i t c s h x))

  -- of each form: answered, or outstanding still
  run-once : (b : Bool) (s : System) → Sound s → (xs : List Step) →
      count (answers_as b) (events i t s xs) + outstanding i t b (after_run s xs) ≡ outstanding i t b s + count (issues_as b) (events i t s xs)
  unfolding events after_run count
  run-once b s h [] = omega arith
  run-once b s h (x ∷ xs) =
      let r : After = step_of s x in
      let es : List Event = issue_in i t x r.outcome in
      let fs : List Event = answer_in i t r.outcome in
      rw (stepped-sound s h x)
      (omega (
        arith,
        count_three (answers_as b) es fs (events i t r.system xs),
        count_three (issues_as b) es fs (events i t r.system xs),
        no_answers i t s b es (issuing i t s x r (stepping s h x)),
        no-issues b fs (answering i t (answer_of r.outcome)),
        step_once i t b s h x,
        run-once b r.system (kept s h x) xs,
      ))

-- Each accepted instruction is answered, or outstanding still.
pub accounted : (s : System) → Sound s → (xs : List Step) (i t : ℕ) →
    count is_issued (events i t s xs) + left i t s ≡ count is_answered (events i t s xs) + left i t (after_run s xs)
accounted s h xs i t =
    omega (arith, count_forms is_issued (events i t s xs), count_forms is_answered (events i t s xs), run-once i t true s h xs, run-once i t false s h xs)

-- FROM A FRESH SYSTEM

module _ (z : Sizes) (l : T (may_be_fresh z)) where
  fresh_out : (i t : ℕ) (b : Bool) → outstanding i t b (blank z) ≡ 0
  fresh_out i t b = none_left (blank z) (fresh_sound z l) i t idle b
    where
      idle : Idle (blank z)
      idle j k =
          let e = blank-site z j (omega (arith, k, (limits z l).sites_most)) in
          (ap (λ (x : Site). x.pends) e, ap (λ (x : Site). x.stalls) e)

  -- Where no instruction is outstanding at any site, each accepted one has been answered.
  pub settled : (xs : List Step) → Idle (run z xs) → (i t : ℕ) → count is_issued (events i t (blank z) xs) ≡ count is_answered (events i t (blank z) xs)
  settled xs e i t =
      let h : Sound (blank z) = fresh_sound z l in
      let none : (b : Bool) → outstanding i t b (run z xs) ≡ 0 = none_left (run z xs) (run-kept (blank z) h xs) i t e in
      omega (arith, accounted (blank z) h xs i t, fresh_out i t true, fresh_out i t false, none true, none false)

pub alternates : Alternating
alternates z l xs i t = alternate_by i t (blank z) (fresh_sound z l) free (fresh_out z l i t) xs

-- as many answers as instructions, with what is due before them, or one fewer
counts_near : (u : Turn) (es : List Event) → T (alternate u es) →
    (count is_answered es ≤ waiting u + count is_issued es) × (waiting u + count is_issued es ≤ count is_answered es + 1)
unfolding alternate count
counts_near free [] t = omega arith
counts_near (due b) [] t = omega arith
counts_near free (issued b ∷ es) t = omega (arith, counts_near (due b) es t)
counts_near free (answered c ∷ es) t = absurd t
counts_near (due b) (issued c ∷ es) t = absurd t
counts_near (due b) (answered c ∷ es) t = omega (arith, counts_near free es (and_r (beq b c) _ t))

pub one_behind : (es : List Event) → T (alternate free es) → (count is_answered es ≤ count is_issued es) × (count is_issued es ≤ count is_answered es + 1)
one_behind es t = omega (arith, counts_near free es t)

pub all_answered : AllAnswered
all_answered z l xs q = settled z l xs (quiet_idle (run z xs) (run-kept (blank z) (fresh_sound z l) xs) q)
