-- A number read ends behind its start and within the bytes; a fault is at the start.
use mathlib.Core.Path.{◌≡◌, refl}
use mathlib.Core.List.{List, [], ◌∷◌}
use mathlib.Core.Bool.{Bool, false, true, ◌||◌}
use Prim.Native.Nat.{ℕ, zero, suc, ◌+◌, ◌-◌, ◌≤◌, ◌<◌}
use native.Mathlib.Omega.{arith}
use lib.Dec.{leb, ltb, leb→le}
use lib.ListN.{length, drop, length-drop}
use Rattle.lists.proofs.Tests.{by_cond}
use Rattle.std.specs.Prelude.{Ok, Err}
use Rattle.numbers.specs.Groups.{Got, no_number, Decoded, number, fault, above, decoded, most_groups, limited, read_number}

-- groups take a byte at least, and no more bytes than there are
abbrev GroupsSay : List ℕ → Decoded → Type 0
GroupsSay bs (number v k) = (1 ≤ k) × (k ≤ length bs)
GroupsSay bs fault = Unit {0}

groups_say : (g : ℕ) (first : Bool) (bs : List ℕ) → GroupsSay bs (decoded g first bs)
unfolding decoded above
groups_say zero first bs = tt
groups_say (suc g) first [] = tt
groups_say (suc g) first (b ∷ bs) =
    by_cond (GroupsSay (b ∷ bs)) (ltb b 128) _ _ (λ t. by_cond (GroupsSay (b ∷ bs)) (first || ltb 0 b) _ _ (λ u. omega arith) (λ u. tt))
    (λ t. go (decoded g false bs) (groups_say g false bs))
  where
    go : (d : Decoded) → GroupsSay bs d → GroupsSay (b ∷ bs) (above (b - 128) d)
    go (number v k) h = omega arith
    go fault h = tt

-- a number read is that of so many bytes at the offset, within its limit, and ends behind its start and within the bytes
pub record Found (most : ℕ) (bs : List ℕ) (at v next : ℕ) : Type 0 where
  pub size : ℕ
  pub groups : decoded most_groups true (drop at bs) ≡ number v size
  pub past : next ≡ at + size
  pub fits : v ≤ most
  pub behind : at < next
  pub inside : next ≤ length bs

-- what a number's answer says of the bytes: a fault is at the start
abbrev pub NumberSays : ℕ → List ℕ → ℕ → Got → Type 0
NumberSays most bs at (Ok (v, next)) = Found most bs at v next
NumberSays most bs at (Err e) = e.place ≡ at

pub number-says : (most : ℕ) (bs : List ℕ) (at : ℕ) → NumberSays most bs at (read_number most bs at)
unfolding read_number limited
number-says most bs at = go (decoded most_groups true (drop at bs)) refl (groups_say most_groups true (drop at bs))
  where
    go : (d : Decoded) → decoded most_groups true (drop at bs) ≡ d → GroupsSay (drop at bs) d → NumberSays most bs at (limited most at d)
    go (number v k) e h =
        by_cond (NumberSays most bs at) (leb v most) _ _
        (λ t. record {
          size = k;
          groups = e;
          past = refl;
          fits = leb→le v most t;
          behind = omega arith;
          inside = omega (arith, length-drop at bs);
        })
        (λ t. refl)
    go fault e h = refl

pub fault-place : (most : ℕ) (bs : List ℕ) (at place : ℕ) → read_number most bs at ≡ no_number place → place ≡ at
fault-place most bs at place e = rw e at (number-says most bs at)
