-- The table of names says of each entry whether exactly one message is under way for it.
use mathlib.Core.Path.{◌≡◌, refl, ap, sym, ◌∙◌}
use mathlib.Core.List.{List, [], ◌∷◌, ◌++◌}
use mathlib.Core.Bool.{Bool, ◌&&◌}
use Prim.Native.Nat.{ℕ, zero, suc, ◌+◌, ◌*◌, ◌%◌, ◌<◌}
use native.Mathlib.Nat.{mod-lt, mod-eq_of_lt, add-zero, zero-add}
use native.Mathlib.Numerals.{add-one}
use native.Mathlib.Omega.{arith}
use borrow.Author.Tests.{ne_eqb}
use lib.Dec.{T, ltb, eqb, eqb→eq, eqb_refl, ltb→lt}
use lib.ListN.{length, get_or, take, replicate, length-set, length-replicate, get_or-replicate}
use lib.Seq.{take-suc, get_or-set_same, get_or-set_other}
use Rattle.lists.specs.Places.{count, each}
use Rattle.lists.proofs.Tests.{and_l, and_r, both, by_test, by_cond, ind_T, ind_F, ne_of, same_test}
use Rattle.lists.proofs.Counts.{count_alike}
use Rattle.model.specs.declared.Message.{Message}
use Rattle.model.specs.declared.Entry.{Entry}
use Rattle.model.specs.Sound.{trip_of, trip_for, waits_for, is_for}
use Rattle.sound.specs.Naming.{name_at, message_name, one_more, counted, tallied, one_for}

-- NAMES

pub name_below : (i L k : ℕ) → name_at i L k < 128
name_below i L k = omega (arith, mod-lt i {m = 4} (omega arith), mod-lt L {m = 16} (omega arith), mod-lt k {m = 2} (omega arith))

trip_below : (k : ℕ) → trip_for k < 2
trip_below k = by_cond (λ (n : ℕ). n < 2) (ltb k 2) 0 1 (λ t. omega arith) (λ t. omega arith)

-- a message has the name of what the entry waits for if and only if it is for the entry
name_is : (i : ℕ) (e : Entry) (m : Message) → i < 4 → e.line < 16 → m.site < 4 → m.line < 16 →
    eqb (message_name m) (name_at i e.line (trip_for e.kind)) ≡ is_for i e m
name_is i e m h k h' k' = same_test (eqb (message_name m) (name_at i e.line (trip_for e.kind))) (is_for i e m) there back
  where
    there : T (eqb (message_name m) (name_at i e.line (trip_for e.kind))) → T (is_for i e m)
    there t =
        let q : message_name m ≡ name_at i e.line (trip_for e.kind) = eqb→eq (message_name m) (name_at i e.line (trip_for e.kind)) t in
        let a : m.site % 4 ≡ m.site = mod-eq_of_lt h' in
        let b : m.line % 16 ≡ m.line = mod-eq_of_lt k' in
        let a' : i % 4 ≡ i = mod-eq_of_lt h in
        let b' : e.line % 16 ≡ e.line = mod-eq_of_lt k in
        let c' : trip_for e.kind % 2 ≡ trip_for e.kind = mod-eq_of_lt (trip_below e.kind) in
        let c = mod-lt m.kind {m = 2} (omega arith) in
        let d = trip_below e.kind in
        let x : m.site ≡ i = omega arith in
        let y : m.line ≡ e.line = omega arith in
        let z : trip_of m.kind ≡ trip_for e.kind = omega arith in
        both (eqb m.site i) _ (rw x (eqb_refl i))
        (both (eqb m.line e.line) _ (rw y (eqb_refl e.line)) (rw z (eqb_refl (trip_for e.kind))))

    back : T (is_for i e m) → T (eqb (message_name m) (name_at i e.line (trip_for e.kind)))
    back t =
        let u : T (waits_for e m.line (trip_of m.kind)) = and_r (eqb m.site i) _ t in
        let x : m.site ≡ i = eqb→eq m.site i (and_l (eqb m.site i) _ t) in
        let y : m.line ≡ e.line = eqb→eq m.line e.line (and_l (eqb m.line e.line) _ u) in
        let z : m.kind % 2 ≡ trip_for e.kind = eqb→eq (trip_of m.kind) (trip_for e.kind) (and_r (eqb m.line e.line) _ u) in
        let w : trip_for e.kind % 2 ≡ trip_for e.kind = mod-eq_of_lt (trip_below e.kind) in
        rw (x, y, z, w) (eqb_refl (i % 4 * 32 + e.line % 16 * 2 + trip_for e.kind))

-- THE TABLE

pub tallied_append : (xs ys : List Message) (t : List ℕ) → tallied (xs ++ ys) t ≡ tallied ys (tallied xs t)
unfolding tallied
tallied_append [] ys t = refl
tallied_append (m ∷ xs) ys t = tallied_append xs ys (counted t m)

pub tallied_turn : (xs : List Message) (i : ℕ) (d : Message) (t : List ℕ) → i < length xs → tallied (take (i + 1) xs) t ≡ counted (tallied (take i xs) t) (get_or xs i d)
unfolding tallied
tallied_turn xs i d t h = rw (add-one, take-suc xs i d h) (tallied_append (take i xs) (get_or xs i d ∷ []) t)

-- what stands there for n messages
mark : ℕ → ℕ
mark zero = 0
mark (suc zero) = 1
mark (suc (suc n)) = 3

mark_more : (n : ℕ) → one_more (mark n) ≡ mark (suc n)
unfolding mark
mark_more zero = refl
mark_more (suc zero) = refl
mark_more (suc (suc n)) = refl

mark_one : (n : ℕ) → eqb (mark n) 1 ≡ eqb n 1
unfolding mark
mark_one zero = refl
mark_one (suc zero) = refl
mark_one (suc (suc n)) = sym (ne_eqb (suc (suc n)) 1 (λ q. omega (arith, q)))

tallied_at : (k : ℕ) (ms : List Message) (t : List ℕ) (n : ℕ) → k < length t → get_or t k 0 ≡ mark n →
    get_or (tallied ms t) k 0 ≡ mark (n + count (λ m. eqb (message_name m) k) ms)
unfolding tallied count
tallied_at k [] t n h e = e ∙ ap mark (sym (add-zero n))
tallied_at k (m ∷ ms) t n h e =
    by_test (eqb (message_name m) k)
    (λ u. let q : message_name m ≡ k = eqb→eq (message_name m) k u in
    tallied_at k ms (counted t m) (suc n) (rw length-set h) (rw (q, get_or-set_same t k (one_more (get_or t k 0)) 0 h, e) (mark_more n)) ∙
    ap mark (omega (arith, ind_T (eqb (message_name m) k) u)))
    (λ u. tallied_at k ms (counted t m) n (rw length-set h) (get_or-set_other t (message_name m) k _ 0 (λ q. ne_of (message_name m) k u (sym q)) ∙ e) ∙
    ap mark (omega (arith, ind_F (eqb (message_name m) k) u)))

-- a message that has a name of its own
abbrev pub nameable : Message → Bool
nameable m = ltb m.site 4 && ltb m.line 16

pub table_one : (i : ℕ) (e : Entry) (ms : List Message) → i < 4 → e.line < 16 → T (each nameable ms) →
    one_for (tallied ms (replicate 128 0)) i e ≡ eqb (count (is_for i e) ms) 1
unfolding mark
table_one i e ms h k t =
    let p = name_at i e.line (trip_for e.kind) in
    let b : p < 128 = name_below i e.line (trip_for e.kind) in
    ap (λ (n : ℕ). eqb n 1)
    (tallied_at p ms (replicate 128 0) 0 (rw length-replicate b) (get_or-replicate 128 p 0 0 b) ∙
    ap mark (zero-add (count (λ m. eqb (message_name m) p) ms) ∙
    count_alike nameable (λ m. eqb (message_name m) p) (is_for i e)
    (λ m u. name_is i e m h k (ltb→lt m.site 4 (and_l (ltb m.site 4) _ u)) (ltb→lt m.line 16 (and_r (ltb m.site 4) _ u))) ms t)) ∙
    mark_one (count (is_for i e) ms)
