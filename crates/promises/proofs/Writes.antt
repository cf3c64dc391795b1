-- What the writers leave: bytes, a record where it was put, and all other bytes as they were.
use mathlib.Core.Path.{◌≡◌, refl, ◌∙◌}
use mathlib.Core.Logic.{◌⊎◌, inl, inr}
use mathlib.Core.List.{List, [], ◌∷◌, ◌++◌, append-nil, flat_map}
use mathlib.Core.Bool.{true}
use Prim.Native.Nat.{ℕ, zero, suc, ◌+◌, ◌/◌, ◌%◌, ◌≤◌, ◌<◌}
use native.Mathlib.Nat.{zero-add, add_assoc}
use native.Mathlib.Omega.{arith}
use lib.Dec.{T, leb, ltb, lt→ltb, ltb→lt}
use lib.ListN.{length, set, drop, get_or, length-append}
use lib.Seq.{sets, length-sets, sets-eq, get_or-set_other}
use borrow.Author.Tests.{le-leb}
use Rattle.lists.specs.Places.{each}
use Rattle.lists.proofs.Tests.{by_cond, T_true, both}
use Rattle.lists.proofs.Counts.{each_append, each_flat}
use Rattle.lists.proofs.Stores.{sets_append}
use Rattle.numbers.specs.Groups.{bytes, encoded, most_groups, bytes_of}
use Rattle.model.specs.declared.Sizes.{Sizes}
use Rattle.model.specs.declared.Step.{Step}
use Rattle.model.specs.declared.Refusal.{Refusal}
use Rattle.model.specs.declared.Refusal.TheVariants.{BufferShort, SizeOutside, RecordLong}
use Rattle.model.specs.Given.{most_bytes}
use Rattle.model.specs.Limits.{in_limits}
use Rattle.model.specs.Record.{bytes_of_all, six_of, numbers_of, sizes_bytes, step_bytes, steps_bytes, record_of, written, put_at, written_at, write_sizes, write_step}
use Rattle.promises.specs.Reading.{write_steps, write_record}
use Rattle.promises.specs.Promises.{RecordBytes, Kept, WriteKeeps}
use Rattle.std.specs.Prelude.{Ok, Err}

-- BYTES

groups_bytes : (g n : ℕ) → T (bytes (encoded g n))
unfolding encoded each
groups_bytes zero n = tt
groups_bytes (suc g) n =
    by_cond (λ (l : List ℕ). T (bytes l)) (ltb n 128) _ _ (λ t. both (ltb n 256) true (lt→ltb n 256 (omega (arith, ltb→lt n 128 t))) tt)
    (λ t. both (ltb (128 + n % 128) 256) _ (lt→ltb (128 + n % 128) 256 (omega arith)) (groups_bytes g (n / 128)))

numbers-bytes : (ns : List ℕ) → T (bytes (bytes_of_all ns))
numbers-bytes = each_flat bytes_of _ (groups_bytes most_groups)

pub all_bytes : RecordBytes
all_bytes z xs = each_append _ (sizes_bytes z) (steps_bytes xs) (numbers-bytes (six_of z)) (each_flat step_bytes _ (λ x. numbers-bytes (numbers_of x)) xs)

-- ONE BEHIND THE OTHER

pub written_at_lem : (new buf : List ℕ) (at : ℕ) → at + length new ≤ most_bytes → at + length new ≤ length buf →
    written_at new buf at ≡ written (Ok (at + length new)) (sets buf at new)
unfolding written_at put_at
written_at_lem new buf at m l = rw (le-leb (at + length new) most_bytes m, le-leb (at + length new) (length buf) l)

-- the steps, behind some bytes
steps-written : (xs : List Step) (new buf : List ℕ) (at : ℕ) →
    at + length (new ++ steps_bytes xs) ≤ most_bytes → at + length (new ++ steps_bytes xs) ≤ length buf →
    write_steps xs (written_at new buf at) ≡ written (Ok (at + length (new ++ steps_bytes xs))) (sets buf at (new ++ steps_bytes xs))
unfolding write_steps write_step flat_map
steps-written [] new buf at m l = rw append-nil (written_at_lem new buf at (rw append-nil at m) (rw append-nil at l))
steps-written (x ∷ xs) new buf at m l =
    let more : List ℕ = step_bytes x ++ steps_bytes xs in
    let n : length (new ++ more) ≡ length new + length more = length-append new more in
    rw (written_at_lem new buf at (omega arith) (omega arith), n, ← add_assoc, sets_append new more)
    (steps-written xs (step_bytes x) (sets buf at new) (at + length new) (omega arith) (omega (arith, length-sets buf at new)))

pub record_put : (z : Sizes) (xs : List Step) (buf : List ℕ) → T (in_limits z) → length (record_of z xs) ≤ most_bytes → length (record_of z xs) ≤ length buf →
    write_record z xs buf ≡ written (Ok (length (record_of z xs))) (record_of z xs ++ drop (length (record_of z xs)) buf)
unfolding write_sizes
record_put z xs buf t m l =
    rw (T_true (in_limits z) t, steps-written xs (sizes_bytes z) buf 0 (omega arith) (omega arith), sets-eq (record_of z xs) buf 0 (omega arith), zero-add)

-- THE OTHER BYTES

refusal_same : (buf : List ℕ) (r s : Refusal) → (written (Err r) buf).wrote ≡ Err s → (written (Err r) buf).buffer ≡ buf
refusal_same buf r s e = refl

pub refusal_kept : (at : ℕ) (buf : List ℕ) (r : Refusal) → Kept at buf (written (Err r) buf)
refusal_kept at buf r = record { length_kept = refl; refused_kept = refusal_same buf r; others_kept = λ end i e h. refl }

-- a place before them, or past them
pub sets_kept : (new buf : List ℕ) (at i : ℕ) → (at ≤ i → at + length new ≤ i) → get_or (sets buf at new) i 0 ≡ get_or buf i 0
sets_kept [] buf at i h = refl
sets_kept (v ∷ new) buf at i h =
    sets_kept new (set buf at v) (suc at) i (λ k. omega (arith, h (omega arith))) ∙ get_or-set_other buf at i v 0 (λ e. omega (arith, h (omega arith)))

past : (at end i : ℕ) → (i < at) ⊎ (end ≤ i) → at ≤ i → end ≤ i
past at end i (inl k) l = absurd (omega arith)
past at end i (inr k) l = k

pub at_kept : (new buf : List ℕ) (at : ℕ) → Kept at buf (written_at new buf at)
unfolding written_at put_at
at_kept new buf at =
    by_cond (Kept at buf) (leb (at + length new) most_bytes) _ _
    (λ t. by_cond (Kept at buf) (leb (at + length new) (length buf)) _ _
    (λ u. record {
      length_kept = length-sets buf at new;
      refused_kept = λ r e. cc;
      others_kept = λ end i e h. let p : end ≡ at + length new = cc in sets_kept new buf at i (rw p at (past at end i h));
    })
    (λ u. refusal_kept at buf BufferShort))
    (λ t. refusal_kept at buf RecordLong)

pub writes_keep : WriteKeeps
unfolding write_sizes write_step
writes_keep = (
  λ z buf. by_cond (Kept 0 buf) (in_limits z) _ _ (λ t. at_kept (sizes_bytes z) buf 0) (λ t. refusal_kept 0 buf SizeOutside),
  λ x buf at. at_kept (step_bytes x) buf at,
)
