-- The proof of each statement of specs/Promises.antt: a refused call hands on what the model's operation leaves, which
-- promises proves.
use mathlib.Core.Path.{◌≡◌, refl, ap, sym, subst, ◌∙◌}
use mathlib.Core.List.{List, [], ◌∷◌}
use Prim.Native.Nat.{ℕ, ◌*◌, min}
use lib.Dec.{T, leb}
use lib.ListN.{length}
use Rattle.lists.proofs.Tests.{by_cond}
use Rattle.model.specs.declared.System.{System}
use Rattle.model.specs.declared.Sizes.{Sizes}
use Rattle.model.specs.declared.Refusal.{Refusal}
use Rattle.model.specs.declared.Refusal.TheVariants.{NotSound, BufferShort}
use Rattle.model.specs.Limits.{may_be_fresh, most_drain}
use Rattle.model.specs.Fresh.{fresh_of}
use Rattle.model.specs.Given.{answer_given, refusal_given, number_of, given}
use Rattle.model.specs.Sound.{sound}
use Rattle.model.specs.Drain.{drain_gives, undrained, drained, drained_with, drain_of}
use Rattle.model.specs.Record.{Written, sizes_of, write_step}
use Rattle.codes.specs.Named.{Named, named_by}
use Rattle.promises.specs.Promises.{Kept}
use Rattle.promises.proofs.Demands.{refused_stays, write_keeps}
use Rattle.calls.specs.declared.values.Stepped.{Stepped}
use Rattle.calls.specs.Calls.{numbered, fresh_call, step_named, DrainBy, drain_result, drain_call, WriteBy, wrote_numbers, wrote_result, write_sizes_call, write_record_call, write_named}
use Rattle.calls.specs.Promises.{Promised, is_refusal, StepCallKeeps, NotDrained, DrainCallKeeps, NotFresh, FreshCallZero, NotPut, WriteByKeeps, WriteSizesCallKeeps, WriteStepCallKeeps, WriteRecordCallKeeps}
use Rattle.calls.proofs.Whole.{rows_name, whole_written, whole_as_steps, whole_keeps}
use Rattle.std.specs.Prelude.{Ok, Err}
use Rattle.model.specs.Results.{Wrote}

-- THE LENT SYSTEM

step_kept : (s : System) (x : Named) → T (is_refusal (step_named s x).given.number) → (step_named s x).system ≡ s
unfolding step_named
step_kept s (Ok x) t = refused_stays s x t
step_kept s (Err why) t = refl

pub step_call_keeps : StepCallKeeps
step_call_keeps s s' r k i n t a b e u =
    ap (λ w. w.system) e ∙ step_kept s (named_by k i n t a b) (rw (ap (λ w. w.given.number) e) at u)

-- what a drain gives and leaves, where it is refused
abbrev Drains : System → List ℕ → DrainBy → Type 0
Drains s buf d = T (is_refusal d.given.number) → NotDrained s d.system buf d.buffer d.given

not-drained : (s : System) (buf : List ℕ) (r : Refusal) → Drains s buf (drain_result (drain_gives (undrained r s) buf))
not-drained s buf r t = record { system_kept = refl; buffer_kept = refl; no_quiet = refl; no_count = refl; no_length = refl }

drain_kept : (s : System) (budget : ℕ) (buf : List ℕ) → Drains s buf (drain_call s budget buf)
unfolding drain_call drain_of given answer_given
drain_kept s budget buf =
    by_cond (λ d. Drains s buf (drain_result d)) (sound s) _ _
    (λ t. by_cond (λ d. Drains s buf (drain_result d)) (leb (2 * min budget most_drain) (length buf)) (drained_with (drained budget s) buf) _
    (λ u v. absurd v)
    (λ u. not-drained s buf BufferShort))
    (λ t. not-drained s buf NotSound)

pub drain_call_keeps : DrainCallKeeps
drain_call_keeps s s' budget buf buf' r e u = subst (λ d. Drains s buf d) (sym e) (drain_kept s budget buf) u

-- what a fresh system comes with, where it is refused
abbrev Freshens : Stepped → Type 0
Freshens w = T (is_refusal w.given.number) → NotFresh w.system w.given

fresh_zero : (z : Sizes) → Freshens (numbered (fresh_of z))
unfolding fresh_of given answer_given refusal_given number_of
fresh_zero z = by_cond (λ a. Freshens (numbered a)) (may_be_fresh z) _ _ (λ t u. absurd u) (λ t u. record { number = refl; all_zero = refl })

pub fresh_call_zero : FreshCallZero
unfolding fresh_call
fresh_call_zero s' r sites words lines sets pend stall e =
    subst (λ w. Freshens w) (sym e) (fresh_zero (sizes_of (sites ∷ words ∷ lines ∷ sets ∷ pend ∷ stall ∷ [])))

-- THE LENT BYTES

-- what a write gives and leaves, where it is refused
abbrev Writes : List ℕ → WriteBy → Type 0
Writes buf w = T (is_refusal w.given.number) → NotPut buf w.buffer w.given

-- a writer that leaves the buffer where it refuses, in numbers
write_kept : (at : ℕ) (buf : List ℕ) (w : Written) → Kept at buf w → Writes buf (wrote_result w)
unfolding wrote_numbers
write_kept at buf w k = go w.wrote refl
  where
    go : (o : Wrote) → w.wrote ≡ o → T (is_refusal (wrote_numbers o).number) → NotPut buf w.buffer (wrote_numbers o)
    go (Ok next) e t = absurd t
    go (Err r) e t = record { buffer_kept = k.refused_kept r e; no_next = refl }

-- the same of what a call gives by its contract
by_contract : (buf : List ℕ) (w : WriteBy) → Writes buf w → WriteByKeeps buf w
by_contract buf w k buf' r e = subst (λ v. Writes buf v) (sym e) k

pub write_sizes_call_keeps : WriteSizesCallKeeps
unfolding write_sizes_call
write_sizes_call_keeps sites words lines sets pend stall buf = by_contract buf _ (write_kept 0 buf _ (write_keeps.0 _ buf))

step_put : (x : Named) (buf : List ℕ) (at : ℕ) → Writes buf (write_named x buf at)
unfolding write_named wrote_numbers
step_put (Ok x) buf at = write_kept at buf (write_step x buf at) (write_keeps.1 x buf at)
step_put (Err why) buf at = λ t. record { buffer_kept = refl; no_next = refl }

pub write_step_call_keeps : WriteStepCallKeeps
write_step_call_keeps k i n t a b buf at = by_contract buf _ (step_put (named_by k i n t a b) buf at)

pub write_record_call_keeps : WriteRecordCallKeeps
unfolding write_record_call
write_record_call_keeps sites words lines sets pend stall ns buf = by_contract buf _ (write_kept 0 buf _ (whole_keeps _ ns buf))

-- ALL OF IT

pub promised : Promised
promised = record {
  step_call_keeps = step_call_keeps;
  drain_call_keeps = drain_call_keeps;
  fresh_call_zero = fresh_call_zero;
  write_sizes_call_keeps = write_sizes_call_keeps;
  write_step_call_keeps = write_step_call_keeps;
  write_record_call_keeps = write_record_call_keeps;
  whole_keeps = whole_keeps;
  rows_name = rows_name;
  whole_written = whole_written;
  whole_as_steps = whole_as_steps;
}
