-- What the length of an array tells.
use mathlib.Core.Path.{◌≡◌, refl, ap, sym, ◌∙◌}
use mathlib.Core.List.{List, [], ◌∷◌, map}
use Prim.Native.Nat.{ℕ, zero, suc}
use lib.ListN.{length, get_or, length-map}

-- of an array of structs, the length is known of the list with a function over it
pub length_mapped : (X Y : Type 0) (f : X → Y) (xs : List X) (n : ℕ) → length (map f xs) ≡ n → length xs ≡ n
length_mapped X Y f xs n e = sym (length-map xs f) ∙ e

-- A LIST BY ITS PLACES

-- what stands at the first n places
unfoldable pub placed : {A : Type 0} → ℕ → (ℕ → A) → List A
placed zero f = []
placed (suc n) f = f 0 ∷ placed n (λ i. f (suc i))

pub by_places : {A : Type 0} (n : ℕ) (xs : List A) (d : A) → length xs ≡ n → placed n (λ i. get_or xs i d) ≡ xs
unfolding placed
by_places {A = A} n xs d e = rw (← e) (all xs)
  where
    all : (ys : List A) → placed (length ys) (λ i. get_or ys i d) ≡ ys
    all [] = refl
    all (y ∷ ys) = ap (λ (l : List A). y ∷ l) (all ys)

-- an array of four, written out
pub four : {A : Type 0} (xs : List A) (d : A) → length xs ≡ 4 → xs ≡ get_or xs 0 d ∷ get_or xs 1 d ∷ get_or xs 2 d ∷ get_or xs 3 d ∷ []
unfolding placed
four xs d l = sym (by_places 4 xs d l)
