-- Rows of six numbers gone through one at a time, as the code measures and writes them.
use mathlib.Core.Path.{◌≡◌, refl, ap, sym, ◌∙◌}
use mathlib.Core.List.{List, [], ◌∷◌, ◌++◌, flat_map}
use mathlib.Core.Bool.{true}
use Prim.Native.Nat.{ℕ, ◌+◌, ◌≤◌, ◌<◌}
use native.Mathlib.Nat.{add-zero, zero-add}
use native.Mathlib.Omega.{arith}
use lib.ListN.{length, take, drop, length-append}
use lib.Seq.{sets}
use Rattle.lists.proofs.Stores.{sets_append}
use Rattle.numbers.specs.Groups.{Put, put_to}
use Rattle.model.specs.declared.Step.{Step}
use Rattle.model.specs.Given.{most_bytes}
use Rattle.model.specs.declared.Sizes.{Sizes}
use Rattle.model.specs.declared.Refusal.{Refusal}
use Rattle.model.specs.Record.{sizes_bytes, step_bytes, steps_bytes, written, written_at}
use Rattle.record.specs.Rows.{named_by_row, none_in, cut, measured, are_all, rows_bytes}
use Rattle.record.specs.Whole.{Steps, all, none_at, step_then, row_then, steps_in, write_rows}
use Rattle.std.specs.Prelude.{Ok, Err}

-- ONE ROW, AND THOSE BEHIND IT

pub empty_is : (ns : List ℕ) → length ns ≡ 0 → ns ≡ []
empty_is [] e = refl
empty_is (a ∷ ns) e = absurd (omega arith)

-- six numbers are a row
pub row_first : (ns : List ℕ) → 6 ≤ length ns → steps_in ns ≡ row_then (named_by_row (take 6 ns)) (steps_in (drop 6 ns))
unfolding steps_in
row_first [] h = absurd (omega arith)
row_first (a ∷ []) h = absurd (omega arith)
row_first (a ∷ b ∷ []) h = absurd (omega arith)
row_first (a ∷ b ∷ c ∷ []) h = absurd (omega arith)
row_first (a ∷ b ∷ c ∷ d ∷ []) h = absurd (omega arith)
row_first (a ∷ b ∷ c ∷ d ∷ e ∷ []) h = absurd (omega arith)
row_first (a ∷ b ∷ c ∷ d ∷ e ∷ f ∷ l) h = refl

-- fewer than six are a row that is cut short
pub row_cut : (ns : List ℕ) → 0 < length ns → length ns < 6 → steps_in ns ≡ none_at 0
unfolding steps_in
row_cut [] p q = absurd (omega arith)
row_cut (a ∷ []) p q = refl
row_cut (a ∷ b ∷ []) p q = refl
row_cut (a ∷ b ∷ c ∷ []) p q = refl
row_cut (a ∷ b ∷ c ∷ d ∷ []) p q = refl
row_cut (a ∷ b ∷ c ∷ d ∷ e ∷ []) p q = refl
row_cut (a ∷ b ∷ c ∷ d ∷ e ∷ f ∷ l) p q = absurd (omega arith)

-- MEASURING

step_measured : (size row : ℕ) (x : Step) (rest : Steps) →
    measured (cut (size + length (step_bytes x))) (row + 1) rest ≡ measured size row (step_then x rest)
unfolding measured step_then flat_map
step_measured size row x (all xs) = ap Ok (omega (arith, length-append (step_bytes x) (steps_bytes xs)))
step_measured size row x (none_at more) = ap none_in (omega arith)

module _ (ns : List ℕ) (size row : ℕ) where
  pub measured_on : (x : Step) → 6 ≤ length ns → named_by_row (take 6 ns) ≡ Ok x →
      measured (cut (size + length (step_bytes x))) (row + 1) (steps_in (drop 6 ns)) ≡ measured size row (steps_in ns)
  unfolding row_then
  measured_on x h e = rw (row_first ns h, e) (step_measured size row x (steps_in (drop 6 ns)))

  pub measured_none : (why : Refusal) → 6 ≤ length ns → named_by_row (take 6 ns) ≡ Err why → none_in row ≡ measured size row (steps_in ns)
  unfolding row_then measured
  measured_none why h e = rw (row_first ns h, e) (ap none_in (omega arith))

  pub measured_cut : 0 < length ns → length ns < 6 → none_in row ≡ measured size row (steps_in ns)
  unfolding measured
  measured_cut p q = rw (row_cut ns p q) (ap none_in (omega arith))

  pub measured_end : ns ≡ [] → size ≤ most_bytes + 1 → Ok size ≡ measured size row (steps_in ns)
  unfolding measured flat_map steps_in
  measured_end e k = rw e (ap Ok (omega arith))

-- rows measured, one more, the last, and those that name no step
pub ruleset measuring = (measured_on, measured_none, measured_cut, measured_end, empty_is)

-- WRITING

step_all : (x : Step) (rest : Steps) → are_all (step_then x rest) ≡ are_all rest
unfolding are_all step_then
step_all x (all xs) = refl
step_all x (none_at row) = refl

step_first : (x : Step) (rest : Steps) → are_all rest ≡ true → rows_bytes (step_then x rest) ≡ step_bytes x ++ rows_bytes rest
unfolding are_all rows_bytes step_then flat_map
step_first x (all xs) e = refl
step_first x (none_at row) e = cc

module _ (ns : List ℕ) (h : 6 ≤ length ns) where
  module _ (x : Step) (e : named_by_row (take 6 ns) ≡ Ok x) (every : are_all (steps_in ns) ≡ true) where
    opened : steps_in ns ≡ step_then x (steps_in (drop 6 ns))
    unfolding row_then
    opened = rw (row_first ns h, e)

    pub all_on : are_all (steps_in (drop 6 ns)) ≡ true
    all_on = sym (step_all x (steps_in (drop 6 ns))) ∙ ap are_all (sym opened) ∙ every

    pub bytes_on : rows_bytes (steps_in ns) ≡ step_bytes x ++ rows_bytes (steps_in (drop 6 ns))
    bytes_on = ap rows_bytes opened ∙ step_first x (steps_in (drop 6 ns)) all_on

    pub length_on : length (step_bytes x) ≤ length (rows_bytes (steps_in ns))
    length_on = omega (arith, ap length bytes_on, length-append (step_bytes x) (rows_bytes (steps_in (drop 6 ns))))

  pub bytes_none : (why : Refusal) → named_by_row (take 6 ns) ≡ Err why → rows_bytes (steps_in ns) ≡ []
  unfolding row_then rows_bytes
  bytes_none why e = rw (row_first ns h, e)

-- fewer numbers than a row have no bytes
pub few : (l : List ℕ) → length l < 6 → rows_bytes (steps_in l) ≡ []
unfolding steps_in rows_bytes flat_map
few [] q = refl
few (a ∷ []) q = refl
few (a ∷ b ∷ []) q = refl
few (a ∷ b ∷ c ∷ []) q = refl
few (a ∷ b ∷ c ∷ d ∷ []) q = refl
few (a ∷ b ∷ c ∷ d ∷ e ∷ []) q = refl
few (a ∷ b ∷ c ∷ d ∷ e ∷ f ∷ l) q = absurd (omega arith)

-- some bytes were put, and others come behind them
pub put_on : (new rest buf after : List ℕ) (at past : ℕ) → put_to past after ≡ put_to (at + length new) (sets buf at new) →
    put_to (past + length rest) (sets after past rest) ≡ put_to (at + length (new ++ rest)) (sets buf at (new ++ rest))
put_on new rest buf after at past e =
    let p : past ≡ at + length new = ap (λ (x : Put). x.past) e in
    let q : after ≡ sets buf at new = ap (λ (x : Put). x.buffer) e in
    let r : at + length new + length rest ≡ at + length (new ++ rest) = omega (arith, length-append new rest) in
    rw (p, q, r, sets_append new rest buf at)

-- nothing comes behind them
pub put_end : (rest buf : List ℕ) (past : ℕ) → rest ≡ [] → put_to past buf ≡ put_to (past + length rest) (sets buf past rest)
put_end rest buf past e = rw (e, add-zero)

-- rows put, one more, and the last
pub ruleset putting = (all_on, bytes_on, length_on, bytes_none, few, put_on, put_end)

-- MEASURED, THEN WRITTEN

-- a length is given exactly of rows that name a step each
pub measured_all : (size row n : ℕ) (s : Steps) → Ok n ≡ measured size row s → (are_all s ≡ true) × (n ≡ cut (size + length (rows_bytes s)))
unfolding measured are_all rows_bytes
measured_all size row n (all xs) e = (refl, cc)
measured_all size row n (none_at more) e = (cc, cc)

pub all_written : (z : Sizes) (s : Steps) (buf : List ℕ) → are_all s ≡ true → written_at (sizes_bytes z ++ rows_bytes s) buf 0 ≡ write_rows z s buf
unfolding are_all rows_bytes write_rows
all_written z (all xs) buf e = refl
all_written z (none_at row) buf e = cc

pub none_written : (z : Sizes) (size : ℕ) (why : Refusal) (s : Steps) (buf : List ℕ) → Err why ≡ measured size 0 s → written (Err why) buf ≡ write_rows z s buf
unfolding measured write_rows
none_written z size why (all xs) buf e = cc
none_written z size why (none_at more) buf e = ap (λ r. written r buf) (e ∙ ap none_in (zero-add more))

-- what was measured tells what is written
pub ruleset writing = (measured_all, all_written, none_written, length-append)
