-- What a drain wrote is read back as the steps that it took, and all else in the buffer stays.
use mathlib.Core.Path.{◌≡◌, refl}
use mathlib.Core.List.{List}
use Prim.Native.Nat.{ℕ, ◌*◌, ◌≤◌, min}
use native.Mathlib.Omega.{arith}
use lib.Dec.{leb}
use lib.ListN.{length, get_or}
use lib.Seq.{sets, length-sets, sets-eq, take-append_seam}
use borrow.Author.Tests.{le-leb}
use Rattle.lists.proofs.Tests.{by_cond, T_true}
use Rattle.model.specs.declared.System.{System}
use Rattle.model.specs.declared.Step.{Step}
use Rattle.model.specs.declared.Refusal.{Refusal}
use Rattle.model.specs.declared.Refusal.TheVariants.{NotSound, BufferShort}
use Rattle.model.specs.Limits.{most_drain}
use Rattle.model.specs.Sound.{sound}
use Rattle.model.specs.Record.{steps_bytes}
use Rattle.model.specs.Drain.{Taken, drained, drain_gives, undrained, drained_with, drain_of}
use Rattle.promises.specs.Promises.{DrainedBy, DrainRead, DrainKept, DrainKeeps}
use Rattle.promises.proofs.Sound.{Sound, opened}
use Rattle.promises.proofs.Drain.{Leaves, drained_leaves, drained-bytes}
use Rattle.promises.proofs.ReadBack.{steps_back}
use Rattle.promises.proofs.Writes.{sets_kept}
use Rattle.std.specs.Prelude.{Err}

-- THE STEPS WRITTEN

steps-read : (s : System) → Sound s → (b : ℕ) (buf : List ℕ) → 2 * min b most_drain ≤ length buf →
    DrainedBy s (drained b s).steps (drained_with (drained b s) buf)
steps-read s h b buf k =
    let r : Leaves b s (drained b s) = drained_leaves b s h in
    let xs : List Step = (drained b s).steps in
    let l : length (steps_bytes xs) ≤ 2 * min b most_drain = drained-bytes b s h in
    record {
      read =
          rw (sets-eq (steps_bytes xs) buf 0 (omega arith), take-append_seam)
          (steps_back (steps_bytes xs) (omega arith) 0 xs (omega arith) r.written refl);
      counted = refl;
      taken = r.taken;
      leads = r.leads;
    }

pub drained-read : DrainRead
unfolding drain_of
drained-read s t b buf k = rw (T_true (sound s) t, le-leb (2 * min b most_drain) (length buf) k) (steps-read s (opened s t) b buf k)

-- THE REST OF THE BUFFER

refusal_same : (s : System) (buf : List ℕ) (r q : Refusal) → (drain_gives (undrained r s) buf).result.outcome ≡ Err q →
    ((drain_gives (undrained r s) buf).result.system ≡ s) × ((drain_gives (undrained r s) buf).buffer ≡ buf)
refusal_same s buf r q e = (refl, refl)

refusal_kept : (s : System) (buf : List ℕ) (r : Refusal) → DrainKept s buf (drain_gives (undrained r s) buf)
refusal_kept s buf r = record { length_kept = refl; refused_kept = refusal_same s buf r; others_kept = λ i l. refl }

past-kept : (new buf : List ℕ) (i : ℕ) → length new ≤ i → get_or (sets buf 0 new) i 0 ≡ get_or buf i 0
past-kept new buf i l = sets_kept new buf 0 i (λ k. omega arith)

into_kept : (s : System) (d : Taken) (buf : List ℕ) → DrainKept s buf (drained_with d buf)
into_kept s d buf = record {
  length_kept = length-sets buf 0 (steps_bytes d.steps);
  refused_kept = λ r e. (cc, cc);
  others_kept = past-kept (steps_bytes d.steps) buf;
}

pub drained-kept : DrainKeeps
unfolding drain_of
drained-kept s b buf =
    by_cond (DrainKept s buf) (sound s) _ _
    (λ t. by_cond (DrainKept s buf) (leb (2 * min b most_drain) (length buf)) _ _
    (λ u. into_kept s (drained b s) buf)
    (λ u. refusal_kept s buf BufferShort))
    (λ t. refusal_kept s buf NotSound)
