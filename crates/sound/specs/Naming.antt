-- The names of messages under way, and a table that says of each name how many messages have it.
use Rattle.std.specs.Prelude.{List, [], ◌∷◌, ◌++◌, Bool, ℕ, ◌+◌, ◌*◌, ◌%◌, eqb, get_or, set, take}
use Rattle.model.specs.declared.Message.{Message}
use Rattle.model.specs.declared.Entry.{Entry}
use Rattle.model.specs.declared.SiteQueue.{SiteQueue}
use Rattle.model.specs.Parts.{past_site_queue}
use Rattle.model.specs.Sound.{trip_for}

-- the messages of site i's two queues
abbrev pub near_at : List SiteQueue → List SiteQueue → ℕ → List Message
near_at out in' i =
    take (get_or out i past_site_queue).count (get_or out i past_site_queue).items ++ take (get_or in' i past_site_queue).count (get_or in' i past_site_queue).items

-- the name of a site, a line and a trip: below 128, and another for each site below 4, line below 16 and trip
abbrev pub name_at : ℕ → ℕ → ℕ → ℕ
name_at i L k = i % 4 * 32 + L % 16 * 2 + k % 2

abbrev pub message_name : Message → ℕ
message_name m = name_at m.site m.line m.kind

-- one more: 0 is none, 1 one, 3 more than one
abbrev pub one_more : ℕ → ℕ
one_more n = n % 2 * 2 + 1

-- the table with a message's name counted
abbrev pub counted : List ℕ → Message → List ℕ
counted t m = set t (message_name m) (one_more (get_or t (message_name m) 0))

unfoldable pub tallied : List Message → List ℕ → List ℕ
tallied [] t = t
tallied (m ∷ ms) t = tallied ms (counted t m)

-- exactly one message has the name of what the entry waits for
abbrev pub one_for : List ℕ → ℕ → Entry → Bool
one_for t i e = eqb (get_or t (name_at i e.line (trip_for e.kind)) 0) 1
