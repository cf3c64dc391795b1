-- Parts 2a, 2b: a cache set, which has one place today. Where a line is in it, where one goes, and the set after, are said here alone.
use Rattle.std.specs.Prelude.{List, Bool, true, not, ◌&&◌, cond, ℕ, ◌%◌, ltb, eqb, get_or}
use Rattle.lists.specs.Places.{array}
use Rattle.model.specs.declared.Sizes.{Sizes}
use Rattle.model.specs.declared.Place.{Place}
use Rattle.model.specs.declared.CacheSet.{CacheSet}
use Rattle.model.specs.Fresh.{no_place}
use Rattle.model.specs.Parts.{past_set}

-- WORDS AND MARKS: four places, n of them in use, the others 0

-- Parts 9i: words past those of a line hold 0
unfoldable pub words_fit : ℕ → List ℕ → Bool
words_fit n vs = array 4 (λ v. true) (λ v. eqb v 0) n vs

-- Parts 2b, 9i: marks past those of a line are Clean
unfoldable pub marks_fit : ℕ → List Bool → Bool
marks_fit n ms = array 4 (λ m. true) not n ms

-- A PLACE

-- Parts 2a: the place is in use, for line L
abbrev pub holds : Place → ℕ → Bool
holds p L = p.used && eqb p.line L

-- Parts 9i: a place without a line holds 0 throughout
unfoldable pub free_place : Place → Bool
free_place p = not p.used && eqb p.line 0 && words_fit 0 p.values && marks_fit 0 p.dirty

-- Parts 2a: a line has one set, which is its number modulo the number of sets
abbrev pub set_number : Sizes → ℕ → ℕ
set_number z L = L % z.sets

-- Parts 9d, 9e: a place of set k has a line of memory whose set is k, or nothing
unfoldable pub place_fits : Sizes → ℕ → Place → Bool
place_fits z k p =
    cond p.used
    (ltb k z.sets && ltb p.line z.lines && eqb (set_number z p.line) k && words_fit z.words p.values && marks_fit z.words p.dirty)
    (free_place p)

-- A SET

-- Parts 9e: the places of set k fit
unfoldable pub set_fits : Sizes → ℕ → CacheSet → Bool
set_fits z k t = place_fits z k t.low

-- Parts 9i: a set with nothing in it
unfoldable pub free_set : CacheSet → Bool
free_set t = free_place t.low

-- Parts 2a: where line L is, if it is in the set
unfoldable pub seat : CacheSet → ℕ → Place
seat t L = t.low

-- Parts 2a: line L is in the set
abbrev pub has : CacheSet → ℕ → Bool
has t L = holds (seat t L) L

-- Take 7, 8, 9: what stands where the next line goes
unfoldable pub displaced : Sizes → CacheSet → Place
displaced z t = t.low

-- Take 2, 3, 4: the set after a line came
unfoldable pub placed : Sizes → CacheSet → Place → CacheSet
placed z t p = record { low = p }

-- Handling 8b, 10, 11b: the set after line L went
unfoldable pub without : CacheSet → ℕ → CacheSet
without t L = record { low = no_place }

-- Handling 4: the set with line L's place anew
unfoldable pub anew : CacheSet → ℕ → Place → CacheSet
anew t L p = record { low = p }

-- A CACHE

-- Parts 2a: the set that line L goes to
abbrev pub set_of : Sizes → List CacheSet → ℕ → CacheSet
set_of z c L = get_or c (set_number z L) past_set

-- Handling 2: line L is cached
abbrev pub cached : Sizes → List CacheSet → ℕ → Bool
cached z c L = has (set_of z c L) L
