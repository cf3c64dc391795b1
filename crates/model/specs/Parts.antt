-- Parts 1 to 6: one site and one queue of a system, and the system with a part put anew.
use Rattle.std.specs.Prelude.{List, [], false, ℕ, ◌+◌, ◌-◌, get_or, set}
use Rattle.lists.specs.Places.{removed}
use Rattle.model.specs.declared.Message.{Message}
use Rattle.model.specs.declared.Entry.{Entry}
use Rattle.model.specs.declared.Waiting.{Waiting}
use Rattle.model.specs.declared.CacheSet.{CacheSet}
use Rattle.model.specs.declared.Cache.{Cache}
use Rattle.model.specs.declared.Pends.{Pends}
use Rattle.model.specs.declared.Stalls.{Stalls}
use Rattle.model.specs.declared.SiteQueue.{SiteQueue}
use Rattle.model.specs.declared.Queue.{Queue}
use Rattle.model.specs.declared.Line.{Line}
use Rattle.model.specs.declared.System.{System}
use Rattle.model.specs.Fresh.{no_message}

-- WHAT A READ PAST AN ARRAY'S END GIVES: numbers 0 and arrays empty, as the language has it. No sentence asks for these: in a sound state no
-- definition reads there.

abbrev pub past_message : Message
past_message = record { kind = 0; site = 0; line = 0; dirty = []; values = [] }

abbrev pub past_entry : Entry
past_entry = record { kind = 0; line = 0; word = 0; tag = 0; value = 0; values = [] }

abbrev pub past_waiting : Waiting
past_waiting = record { kind = 0; line = 0; word = 0; tag = 0; value = 0 }

abbrev pub past_set : CacheSet
past_set = record { low = record { used = false; line = 0; dirty = []; values = [] } }

abbrev pub past_line : Line
past_line = record { values = [] }

abbrev pub past_cache : Cache
past_cache = record { sets = [] }

abbrev pub past_pends : Pends
past_pends = record { entries = []; count = 0 }

abbrev pub past_stalls : Stalls
past_stalls = record { waiting = []; count = 0 }

abbrev pub past_site_queue : SiteQueue
past_site_queue = record { items = []; count = 0 }

-- ONE SITE

-- Parts 2: what stands at a site: the sets of its cache, its pend entries, its stall queue and its two queues
pub record Site : Type 0 where
  pub cache : List CacheSet
  pub pends : ℕ
  pub entries : List Entry
  pub stalls : ℕ
  pub waiting : List Waiting
  pub outgoing : SiteQueue
  pub incoming : SiteQueue

-- Parts 2: a site of its parts
abbrev pub site_from : Cache → Pends → Stalls → SiteQueue → SiteQueue → Site
site_from c p t out inc = record {
  cache = c.sets;
  pends = p.count;
  entries = p.entries;
  stalls = t.count;
  waiting = t.waiting;
  outgoing = out;
  incoming = inc;
}

-- Parts 2: site i of a system
abbrev pub site_at : System → ℕ → Site
site_at s i =
    site_from (get_or s.caches i past_cache) (get_or s.pends i past_pends) (get_or s.stalls i past_stalls)
    (get_or s.outgoing i past_site_queue) (get_or s.incoming i past_site_queue)

-- Parts 2: the system with site i put anew
abbrev pub put_site : System → ℕ → Site → System
put_site s i x = record {
  sizes = s.sizes;
  memory = s.memory;
  caches = set s.caches i (record { sets = x.cache });
  pends = set s.pends i (record { entries = x.entries; count = x.pends });
  stalls = set s.stalls i (record { waiting = x.waiting; count = x.stalls });
  outgoing = set s.outgoing i x.outgoing;
  incoming = set s.incoming i x.incoming;
  up = s.up;
  arrived = s.arrived;
  served = s.served;
  down = s.down;
}

-- Parts 2a: a site with its cache put anew
abbrev pub with_cache : Site → List CacheSet → Site
with_cache x c = record {
  cache = c;
  pends = x.pends;
  entries = x.entries;
  stalls = x.stalls;
  waiting = x.waiting;
  outgoing = x.outgoing;
  incoming = x.incoming;
}

-- Parts 2c: a site with its pend entries put anew
abbrev pub with_pends : Site → ℕ → List Entry → Site
with_pends x n es = record {
  cache = x.cache;
  pends = n;
  entries = es;
  stalls = x.stalls;
  waiting = x.waiting;
  outgoing = x.outgoing;
  incoming = x.incoming;
}

-- Parts 2d: a site with its stall queue put anew
abbrev pub with_stalls : Site → ℕ → List Waiting → Site
with_stalls x n ws = record {
  cache = x.cache;
  pends = x.pends;
  entries = x.entries;
  stalls = n;
  waiting = ws;
  outgoing = x.outgoing;
  incoming = x.incoming;
}

-- Parts 2e: a site with its outgoing queue put anew
abbrev pub with_outgoing : Site → SiteQueue → Site
with_outgoing x q = record {
  cache = x.cache;
  pends = x.pends;
  entries = x.entries;
  stalls = x.stalls;
  waiting = x.waiting;
  outgoing = q;
  incoming = x.incoming;
}

-- Parts 2e: a site with its incoming queue put anew
abbrev pub with_incoming : Site → SiteQueue → Site
with_incoming x q = record {
  cache = x.cache;
  pends = x.pends;
  entries = x.entries;
  stalls = x.stalls;
  waiting = x.waiting;
  outgoing = x.outgoing;
  incoming = q;
}

-- QUEUES: ONE MORE AT THE TAIL, THE MESSAGE AT A PLACE, AND THE QUEUE WITHOUT IT

-- Parts 2e: a message joins a site's queue at its tail
abbrev pub site_put : SiteQueue → Message → SiteQueue
site_put q m = record { items = set q.items q.count m; count = q.count + 1 }

-- Parts 2e: the first message of a site's queue
abbrev pub site_head : SiteQueue → Message
site_head q = get_or q.items 0 past_message

-- Parts 2e: the queue without its first message, the others one place further on
abbrev pub site_rest : SiteQueue → SiteQueue
site_rest q = record { items = removed no_message 0 q.items; count = q.count - 1 }

-- Parts 4, 6: a message joins a network or a queue of memory at its tail
abbrev pub net_put : Queue → Message → Queue
net_put q m = record { items = set q.items q.count m; count = q.count + 1 }

-- Parts 5a: the message at position p
abbrev pub net_at : Queue → ℕ → Message
net_at q p = get_or q.items p past_message

-- Parts 5b: the list without the message at p; what stood behind it closes the gap
abbrev pub net_rest : Queue → ℕ → Queue
net_rest q p = record { items = removed no_message p q.items; count = q.count - 1 }

-- THE SYSTEM WITH A PART PUT ANEW

-- Parts 1, 3, 6: memory, the sites' outgoing and incoming queues, the up network, memory's incoming and outgoing queues, the down network
abbrev pub carried : System → List Line → List SiteQueue → List SiteQueue → Queue → Queue → Queue → Queue → System
carried s m o n u a v d = record {
  sizes = s.sizes;
  memory = m;
  caches = s.caches;
  pends = s.pends;
  stalls = s.stalls;
  outgoing = o;
  incoming = n;
  up = u;
  arrived = a;
  served = v;
  down = d;
}

-- Parts 1: the system with its memory put anew
abbrev pub with_memory : System → List Line → System
with_memory s m = carried s m s.outgoing s.incoming s.up s.arrived s.served s.down

-- Parts 2e: the system with the outgoing queue of site i put anew
abbrev pub with_out : System → ℕ → SiteQueue → System
with_out s i q = carried s s.memory (set s.outgoing i q) s.incoming s.up s.arrived s.served s.down

-- Parts 2e: the system with the incoming queue of site i put anew
abbrev pub with_in : System → ℕ → SiteQueue → System
with_in s i q = carried s s.memory s.outgoing (set s.incoming i q) s.up s.arrived s.served s.down

-- Parts 3, 6: the up network, memory's incoming and outgoing queues, the down network
abbrev pub with_nets : System → Queue → Queue → Queue → Queue → System
with_nets s u a v d = carried s s.memory s.outgoing s.incoming u a v d
