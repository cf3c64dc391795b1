-- The number that some decimal digits stand for.
use Rattle.std.specs.Prelude.{List, [], ◌∷◌, Bool, ◌&&◌, ℕ, ◌+◌, ◌-◌, ◌*◌, leb}

-- the digits of ASCII
abbrev pub is_digit : ℕ → Bool
is_digit b = leb 48 b && leb b 57

-- digits behind those that stand for v
unfoldable pub value_from : ℕ → List ℕ → ℕ
value_from v [] = v
value_from v (b ∷ bs) = value_from (v * 10 + (b - 48)) bs

unfoldable pub value_of : List ℕ → ℕ
value_of bs = value_from 0 bs
