-- Contracts 7, by induction on how many groups there are: what is written is read back whatever follows it, and what is read is what would be written.
use mathlib.Core.Path.{◌≡◌, refl, ap, sym, ◌∙◌, subst}
use mathlib.Core.List.{List, [], ◌∷◌, ◌++◌}
use mathlib.Core.Bool.{Bool, true, false, ◌||◌}
use Prim.Native.Nat.{ℕ, zero, suc, ◌+◌, ◌-◌, ◌*◌, ◌/◌, ◌%◌, ◌^◌, ◌≤◌, ◌<◌}
use native.Mathlib.Omega.{arith}
use lib.Dec.{T, ltb, ltb→lt}
use lib.ListN.{length, drop}
use borrow.Author.Tests.{lt-ltb, le-ltb, ltb-true, ltb-false}
use Rattle.lists.specs.Places.{each}
use Rattle.lists.proofs.Tests.{and_l, and_r}
use Rattle.numbers.specs.Groups.{bytes, encoded, Decoded, number, fault, above, decoded}

-- THE CLAUSES BY TESTS

pub encoded_last : (g n : ℕ) → n < 128 → encoded (suc g) n ≡ n ∷ []
unfolding encoded
encoded_last g n h = rw (lt-ltb n 128 h, encoded)

pub encoded_more : (g n : ℕ) → 128 ≤ n → encoded (suc g) n ≡ (128 + n % 128) ∷ encoded g (n / 128)
unfolding encoded
encoded_more g n h = rw (le-ltb n 128 h, encoded)

pub decoded_last : (g b : ℕ) (first : Bool) (bs : List ℕ) → b < 128 → (first || ltb 0 b) ≡ true → decoded (suc g) first (b ∷ bs) ≡ number b 1
unfolding decoded
decoded_last g b first bs h e = rw (lt-ltb b 128 h, e, decoded)

pub decoded_long : (g b : ℕ) (first : Bool) (bs : List ℕ) → b < 128 → (first || ltb 0 b) ≡ false → decoded (suc g) first (b ∷ bs) ≡ fault
unfolding decoded
decoded_long g b first bs h e = rw (lt-ltb b 128 h, e, decoded)

pub decoded_more : (g b : ℕ) (first : Bool) (bs : List ℕ) → 128 ≤ b → decoded (suc g) first (b ∷ bs) ≡ above (b - 128) (decoded g false bs)
unfolding decoded
decoded_more g b first bs h = rw (le-ltb b 128 h, decoded)

-- WRITTEN, THEN READ

abbrev Back : ℕ → Bool → List ℕ → ℕ → Type 0
Back g first rest n = decoded g first (encoded g n ++ rest) ≡ number n (length (encoded g n))

back_last : (g n : ℕ) (first : Bool) (rest : List ℕ) → n < 128 → (first || ltb 0 n) ≡ true → Back (suc g) first rest n
back_last g n first rest h e = rw (encoded_last g n h) (decoded_last g n first rest h e)

back_more : (g n : ℕ) (first : Bool) (rest : List ℕ) → 128 ≤ n → Back g false rest (n / 128) → Back (suc g) first rest n
unfolding above
back_more g n first rest h ih =
    rw (encoded_more g n h)
    (decoded_more g (128 + n % 128) first (encoded g (n / 128) ++ rest) (omega arith) ∙ ap (above (128 + n % 128 - 128)) ih ∙
    ap (λ (v : ℕ). number v (suc (length (encoded g (n / 128))))) whole)
  where
    whole : 128 + n % 128 - 128 + n / 128 * 128 ≡ n
    whole = omega arith

-- what was written reads back, whatever follows it
pub read-written : (g n : ℕ) (first : Bool) (rest : List ℕ) → n < 128 ^ suc g → (first || ltb 0 n) ≡ true → Back (suc g) first rest n
read-written zero n first rest h e = back_last zero n first rest h e
read-written (suc g) n first rest h e =
    by (ltb n 128) refl (λ k. read-written g (n / 128) false rest (omega arith) (lt-ltb 0 (n / 128) (omega arith)))
  where
    by : (b : Bool) → ltb n 128 ≡ b → (128 ≤ n → Back (suc g) false rest (n / 128)) → Back (suc (suc g)) first rest n
    by true p ih = back_last (suc g) n first rest (ltb-true n 128 p) e
    by false p ih = back_more (suc g) n first rest (ltb-false n 128 p) (ih (ltb-false n 128 p))

-- READ, THEN WRITTEN

-- the bytes at the start are those that the writer writes of n
pub record Was (g : ℕ) (first : Bool) (bs : List ℕ) (n k : ℕ) : Type 0 where
  pub bytes : bs ≡ encoded g n ++ drop k bs
  pub taken : k ≡ length (encoded g n)
  pub below : n < 128 ^ g
  pub shortest : (first || ltb 0 n) ≡ true

pub never : {n k : ℕ} → fault ≡ number n k → ⊥
never e = let z : ◌≡◌ {A = ℕ} 0 1 = cc in omega arith

some_groups : (g : ℕ) → 0 < 128 ^ g
some_groups zero = omega arith
some_groups (suc g) = omega (arith, some_groups g)

was_last : (g b : ℕ) (first : Bool) (bs : List ℕ) → b < 128 → (first || ltb 0 b) ≡ true → Was (suc g) first (b ∷ bs) b 1
was_last g b first bs h e = record {
  bytes = rw (encoded_last g b h);
  taken = rw (encoded_last g b h);
  below = omega (arith, some_groups g);
  shortest = e;
}

was_more : (g b : ℕ) (first : Bool) (bs : List ℕ) (v j : ℕ) → 128 ≤ b → b < 256 → Was g false bs v j → Was (suc g) first (b ∷ bs) (b - 128 + v * 128) (suc j)
was_more g b first bs v j h k w =
    let p : 0 < v = ltb-true 0 v w.shortest in
    let q : (b - 128 + v * 128) / 128 ≡ v = omega arith in
    let r : 128 + (b - 128 + v * 128) % 128 ≡ b = omega arith in
    record {
      bytes = rw (encoded_more g (b - 128 + v * 128) (omega arith), q, r) (ap (λ (l : List ℕ). b ∷ l) w.bytes);
      taken = rw (encoded_more g (b - 128 + v * 128) (omega arith), q) (ap suc w.taken);
      below = omega (arith, w.below);
      shortest = or_yes first (b - 128 + v * 128) (omega arith);
    }
  where
    or_yes : (c : Bool) (m : ℕ) → 0 < m → (c || ltb 0 m) ≡ true
    or_yes true m l = refl
    or_yes false m l = lt-ltb 0 m l

was_at : (g : ℕ) (first : Bool) (bs : List ℕ) (n n' k k' : ℕ) → number n k ≡ number n' k' → Was g first bs n k → Was g first bs n' k'
was_at g first bs n n' k k' e w =
    let p : n ≡ n' = cc in
    let q : k ≡ k' = cc in
    subst (λ (m : ℕ). Was g first bs m k') p (subst (λ (m : ℕ). Was g first bs n m) q w)

was_by : (g b : ℕ) (first : Bool) (bs : List ℕ) (n k : ℕ) → b < 256 → (c : Bool) → ltb b 128 ≡ c → (d : Decoded) → decoded g false bs ≡ d →
    ((v j : ℕ) → decoded g false bs ≡ number v j → Was g false bs v j) → decoded (suc g) first (b ∷ bs) ≡ number n k → Was (suc g) first (b ∷ bs) n k
unfolding above
was_by g b first bs n k h true p d q ih e = by (first || ltb 0 b) refl
  where
    by : (c : Bool) → (first || ltb 0 b) ≡ c → Was (suc g) first (b ∷ bs) n k
    by true r = was_at (suc g) first (b ∷ bs) b n 1 k (sym (decoded_last g b first bs (ltb-true b 128 p) r) ∙ e) (was_last g b first bs (ltb-true b 128 p) r)
    by false r = absurd (never (sym (decoded_long g b first bs (ltb-true b 128 p) r) ∙ e))
was_by g b first bs n k h false p fault q ih e =
    absurd (never (ap (above (b - 128)) (sym q) ∙ sym (decoded_more g b first bs (ltb-false b 128 p)) ∙ e))
was_by g b first bs n k h false p (number v j) q ih e =
    was_at (suc g) first (b ∷ bs) (b - 128 + v * 128) n (suc j) k
    (ap (above (b - 128)) (sym q) ∙ sym (decoded_more g b first bs (ltb-false b 128 p)) ∙ e)
    (was_more g b first bs v j (ltb-false b 128 p) h (ih v j q))

-- what reads is what the writer writes
pub written_read : (g : ℕ) (first : Bool) (bs : List ℕ) (n k : ℕ) → T (bytes bs) → decoded g first bs ≡ number n k → Was g first bs n k
unfolding decoded each
written_read zero first bs n k h e = absurd (never e)
written_read (suc g) first [] n k h e = absurd (never e)
written_read (suc g) first (b ∷ bs) n k h e =
    was_by g b first bs n k (ltb→lt b 256 (and_l (ltb b 256) _ h)) (ltb b 128) refl (decoded g false bs) refl
    (λ v j q. written_read g false bs v j (and_r (ltb b 256) _ h) q) e

-- THE SHORTEST FORM

-- a number that is written in two groups or more has no room in one less
abbrev Fewest : ℕ → ℕ → Type 0
Fewest g n = (k : ℕ) → length (encoded g n) ≡ suc (suc k) → 128 ^ suc k ≤ n

fewest : (g n : ℕ) → Fewest g n
unfolding encoded
fewest zero n k e = absurd (omega (arith, e))
fewest (suc g) n k e = by (ltb n 128) refl (fewest g (n / 128))
  where
    more : (i : ℕ) → 128 ≤ n → length (encoded g (n / 128)) ≡ suc i → Fewest g (n / 128) → 128 ^ suc i ≤ n
    more zero h f ih = omega arith
    more (suc i) h f ih = omega (arith, ih i f)

    by : (b : Bool) → ltb n 128 ≡ b → Fewest g (n / 128) → 128 ^ suc k ≤ n
    by true p ih = absurd (omega (arith, e, ap length (encoded_last g n (ltb-true n 128 p))))
    by false p ih = more k (ltb-false n 128 p) (omega (arith, e, ap length (encoded_more g n (ltb-false n 128 p)))) ih

-- no form but the shortest reads: what reads from several bytes has no room in fewer
pub shortest_only : (g : ℕ) (first : Bool) (bs : List ℕ) (n k : ℕ) → T (bytes bs) → decoded g first bs ≡ number n (suc (suc k)) → 128 ^ suc k ≤ n
shortest_only g first bs n k h e = fewest g n k (sym (written_read g first bs n (suc (suc k)) h e).taken)
