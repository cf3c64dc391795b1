-- Six numbers at most, as six.
use Rattle.std.specs.Prelude.{List, [], ◌∷◌, ℕ, get_or}

-- what is not there is 0
abbrev pub padded : List ℕ → List ℕ
padded ns = get_or ns 0 0 ∷ get_or ns 1 0 ∷ get_or ns 2 0 ∷ get_or ns 3 0 ∷ get_or ns 4 0 ∷ get_or ns 5 0 ∷ []
