-- Numbers read in turn: each ends behind its start and within the bytes; a fault is at the start of one of them.
use mathlib.Core.Path.{◌≡◌, refl, ap}
use mathlib.Core.List.{List, [], ◌∷◌}
use Prim.Native.Nat.{ℕ, zero, suc, ◌≤◌}
use lib.ListN.{length}
use Rattle.numbers.specs.Groups.{read_number}
use Rattle.numbers.proofs.Found.{Found, NumberSays, number-says}
use Rattle.model.specs.Record.{most_number, Numbers, numbers, fault_at, consed, read_numbers}
use Rattle.std.specs.Prelude.{Ok, Err}
use Rattle.numbers.specs.Groups.{Got, got}

-- A NUMBER

pub found : (bs : List ℕ) (at : ℕ) {v next : ℕ} → read_number most_number bs at ≡ got v next → Found most_number bs at v next
found bs at e = rw e at (number-says most_number bs at)

-- what holds where a reader goes on from a number, and where it stops at a fault, holds of what it gives
pub by_number : {A : Type 0} (P : A → Type 0) (bs : List ℕ) (at : ℕ) (on : ℕ → ℕ → A) (stop : ℕ → A) →
    ((v next : ℕ) → read_number most_number bs at ≡ got v next → P (on v next)) → P (stop at) →
    P (elim (read_number most_number bs at) as (λ (r : Got). A) [ Ok (v, next) ↦ on v next | Err fault ↦ stop fault.place ])
by_number {A} P bs at on stop if-on if-stop = go (read_number most_number bs at) refl (number-says most_number bs at)
  where
    go : (r : Got) → read_number most_number bs at ≡ r → NumberSays most_number bs at r →
        P (elim r as (λ (q : Got). A) [ Ok (v, next) ↦ on v next | Err fault ↦ stop fault.place ])
    go (Ok (v, next)) e h = if-on v next e
    go (Err fault) e h = rw h if-stop

-- NUMBERS

-- the numbers are read from an offset on, one behind the other, and end at another
pub data InTurn (bs : List ℕ) : ℕ → List ℕ → ℕ → Type 0 where
  no_more : {at : ℕ} → InTurn bs at [] at
  one_more : {at v next : ℕ} {vs : List ℕ} {end : ℕ} → read_number most_number bs at ≡ got v next → InTurn bs next vs end → InTurn bs at (v ∷ vs) end

-- the largest limit, so many times
unfoldable pub mosts : ℕ → List ℕ
mosts zero = []
mosts (suc n) = most_number ∷ mosts n

-- what the answer of a reader of n numbers says of the bytes
abbrev pub NumbersSay : ℕ → List ℕ → ℕ → Numbers → Type 0
NumbersSay n bs at (numbers vs next) = (length vs ≡ n) × InTurn bs at vs next
NumbersSay n bs at (fault_at place) = at ≤ length bs → place ≤ length bs

pub numbers_say : (n : ℕ) (bs : List ℕ) (at : ℕ) → NumbersSay n bs at (read_numbers (mosts n) bs at)
unfolding mosts read_numbers consed
numbers_say zero bs at = (refl, no_more)
numbers_say (suc n) bs at =
    by_number (NumbersSay (suc n) bs at) bs at _ _ (λ v next e. go v next e (read_numbers (mosts n) bs next) (numbers_say n bs next)) (λ l. l)
  where
    go : (v next : ℕ) → read_number most_number bs at ≡ got v next → (r : Numbers) → NumbersSay n bs next r → NumbersSay (suc n) bs at (consed v r)
    go v next e (numbers vs end) h = (ap suc h.0, one_more e h.1)
    go v next e (fault_at place) h = λ l. h (found bs at e).inside
