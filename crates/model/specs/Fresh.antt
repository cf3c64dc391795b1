-- Parts 7: a fresh state has 0 in all of memory and nothing in any other part.
use Rattle.std.specs.Prelude.{List, [], ◌∷◌, Bool, false, cond, ℕ, replicate}
use Rattle.model.specs.declared.Sizes.{Sizes}
use Rattle.model.specs.declared.Message.{Message}
use Rattle.model.specs.declared.Entry.{Entry}
use Rattle.model.specs.declared.Waiting.{Waiting}
use Rattle.model.specs.declared.Place.{Place}
use Rattle.model.specs.declared.CacheSet.{CacheSet}
use Rattle.model.specs.declared.SiteQueue.{SiteQueue}
use Rattle.model.specs.declared.Queue.{Queue}
use Rattle.model.specs.declared.Line.{Line}
use Rattle.model.specs.declared.System.{System}
use Rattle.model.specs.declared.After.{After}
use Rattle.model.specs.declared.Answer.{Answer}
use Rattle.model.specs.declared.Answer.TheVariants.{Nothing}
use Rattle.model.specs.declared.Refusal.{Refusal}
use Rattle.model.specs.declared.Refusal.TheVariants.{SizeOutside}
use Rattle.model.specs.Limits.{may_be_fresh}
use Rattle.std.specs.Prelude.{Ok, Err}

-- Parts 7, 9i: words of 0
abbrev pub no_values : List ℕ
no_values = 0 ∷ 0 ∷ 0 ∷ 0 ∷ []

-- Parts 7, 9i: no mark is Dirty
abbrev pub no_marks : List Bool
no_marks = false ∷ false ∷ false ∷ false ∷ []

-- Parts 7, 9i: a place of a queue with nothing in it
abbrev pub no_message : Message
no_message = record { kind = 0; site = 0; line = 0; dirty = no_marks; values = no_values }

-- Parts 7, 9i: a free pend entry
abbrev pub no_entry : Entry
no_entry = record { kind = 0; line = 0; word = 0; tag = 0; value = 0; values = no_values }

-- Parts 7, 9i: a place of the stall queue with nothing in it
abbrev pub no_waiting : Waiting
no_waiting = record { kind = 0; line = 0; word = 0; tag = 0; value = 0 }

-- Parts 7, 9i: a place of the cache with nothing in it
abbrev pub no_place : Place
no_place = record { used = false; line = 0; dirty = no_marks; values = no_values }

-- Parts 7, 9i: a set with nothing in it
abbrev pub no_set : CacheSet
no_set = record { low = no_place }

-- Parts 7: a line of memory, all 0
abbrev pub no_line : Line
no_line = record { values = no_values }

-- Parts 7: an empty queue of a site
abbrev pub no_site_queue : SiteQueue
no_site_queue = record { items = replicate 5 no_message; count = 0 }

-- Parts 7: an empty network or queue of memory
abbrev pub no_queue : Queue
no_queue = record { items = replicate 20 no_message; count = 0 }

-- Parts 7: a system of these sizes with 0 everywhere else
abbrev pub blank : Sizes → System
blank z = record {
  sizes = z;
  memory = replicate 16 no_line;
  caches = replicate 4 (record { sets = replicate 8 no_set });
  pends = replicate 4 (record { entries = replicate 5 no_entry; count = 0 });
  stalls = replicate 4 (record { waiting = replicate 8 no_waiting; count = 0 });
  outgoing = replicate 4 no_site_queue;
  incoming = replicate 4 no_site_queue;
  up = no_queue;
  arrived = no_queue;
  served = no_queue;
  down = no_queue;
}

-- Numbers 18a: the sizes of the state that a refused fresh system leaves
abbrev pub no_sizes : Sizes
no_sizes = record { sites = 0; words = 0; lines = 0; sets = 0; pend = 0; stall = 0 }

-- Numbers 17: a refusal, beside the state that it leaves
abbrev pub refused : Refusal → System → After
refused r s = record { outcome = Err r; system = s }

-- Numbers 1: a step that was done, with what it answers, beside the state after it
abbrev pub done : Answer → System → After
done a s = record { outcome = Ok a; system = s }

-- Parts 7, Numbers 12, 18: sizes outside their limits are refused with 12, and the state then holds 0 everywhere
unfoldable pub fresh_of : Sizes → After
fresh_of z = cond (may_be_fresh z) (done Nothing (blank z)) (refused SizeOutside (blank no_sizes))
