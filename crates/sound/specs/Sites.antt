-- A cache with nothing in it, which a site past the sizes has.
use Rattle.std.specs.Prelude.{List, Bool, ◌&&◌, eqb, length, get_or}
use Rattle.lists.specs.Places.{all_below}
use Rattle.model.specs.declared.CacheSet.{CacheSet}
use Rattle.model.specs.Parts.{past_set}
use Rattle.model.specs.Sets.{free_set}

-- no line is cached
abbrev pub cache_free : List CacheSet → Bool
cache_free c = eqb (length c) 8 && all_below 8 (λ k. free_set (get_or c k past_set))
