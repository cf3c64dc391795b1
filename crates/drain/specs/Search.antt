-- The first step of a list that passes a test, where something stands for a step, and how many of the drain's tries are of one kind.
use Rattle.std.specs.Prelude.{List, [], ◌∷◌, Bool, ◌&&◌, cond, ℕ, leb, ltb, Option, Some, None}
use Rattle.model.specs.declared.Step.{Step}
use Rattle.model.specs.declared.System.{System}
use Rattle.promises.proofs.Choices.{stock}

-- the first that passes, if there is one
unfoldable pub first_by : (Step → Bool) → List Step → Option Step
first_by f [] = None
first_by f (x ∷ xs) = cond (f x) (Some x) (first_by f xs)

-- something stands where the step takes one from
abbrev pub standing : System → Step → Bool
standing s x = ltb 0 (stock s x)

-- one at each site; kinds 3 to 6 have no site
abbrev pub width_of : ℕ → ℕ → ℕ
width_of sites k = cond (leb 3 k && leb k 6) 1 sites
