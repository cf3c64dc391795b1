-- A site in hand, and what comes of a visit to it, in the words of the definitions.
use Rattle.std.specs.Prelude.{◌≡◌, Bool, true, false, ℕ, ◌+◌, ◌≤◌, ◌<◌, ltb}
use Rattle.model.specs.declared.Sizes.{Sizes}
use Rattle.model.specs.declared.Waiting.{Waiting}
use Rattle.model.specs.declared.System.{System}
use Rattle.model.specs.declared.After.{After}
use Rattle.model.specs.declared.Answer.{Answer}
use Rattle.model.specs.declared.Action.{Action}
use Rattle.model.specs.declared.Action.TheVariants.{Load, Store, Acknowledge, Drop, Fetch, WriteBackKept, WriteBackDropped, Wait}
use Rattle.model.specs.Limits.{line_of, word_of}
use Rattle.model.specs.Parts.{Site, site_from, site_at, put_site, site_head}
use Rattle.model.specs.Handling.{Handled}
use Rattle.model.specs.Results.{Outcome}
use Rattle.model.specs.Steps.{unless}
use Rattle.model.specs.declared.Refusal.TheVariants.{NoSuchSite}
use Rattle.model.specs.Take.{entry_for}
use Rattle.rules.specs.declared.issue.Apart.{Apart}
use Rattle.promises.proofs.Sound.{Ready}
use Rattle.steps.specs.declared.here.Here.{Here}
use Rattle.steps.specs.After.{after}

-- the site that the parts in hand are
abbrev pub site_of : Here → Site
site_of x = site_from x.cache x.pends x.stalls x.outgoing x.incoming

-- the hand with that site's parts in it
abbrev pub with_site : Here → Site → Here
with_site x y = record {
  home = x.home;
  cache = record { sets = y.cache };
  pends = record { entries = y.entries; count = y.pends };
  stalls = record { waiting = y.waiting; count = y.stalls };
  outgoing = y.outgoing;
  incoming = y.incoming;
}

-- site i of the system is in hand
pub record Held (s : System) (i : ℕ) (x : Here) : Type 0 where
  pub within : i < s.sizes.sites
  pub sizes : x.home.sizes ≡ s.sizes
  pub site : x.home.site ≡ i
  pub parts : site_of x ≡ site_at s i

-- what was made of an instruction or a reply: the answer, and the hand after it
pub record Made : Type 0 where
  pub answer : Answer
  pub here : Here

abbrev pub made : Answer → Here → Made
made a x = record { answer = a; here = x }

-- the same, as the definitions have it
abbrev pub made_of : Here → Handled → Made
made_of x h = made h.answer (with_site x h.site)

-- the outcome, and the system with the site put back
unfoldable pub laid : System → Outcome → Here → After
laid s o x = after o (put_site s x.home.site (site_of x))

-- a visit to the site x, which gave o and left y, does what f says of every system that has that site
abbrev pub Does : Here → Here → Outcome → (System → After) → Type 0
Does x y o f = (s : System) → s.sizes ≡ x.home.sizes → site_at s x.home.site ≡ site_of x → laid s o y ≡ f s

-- what a visit makes of a system, by the site's number and the site
abbrev pub Visit : Type 0
Visit = ℕ → Site → System → After

-- the visit g to site i, where there is one
abbrev pub at_site : Visit → System → ℕ → After
at_site g s i = unless (ltb i s.sizes.sites) NoSuchSite s (g i (site_at s i) s)

-- the action adds a pend entry and queues its request
abbrev pub asks : Action → Bool
asks Load = false
asks Store = false
asks Acknowledge = false
asks Drop = false
asks Fetch = true
asks WriteBackKept = true
asks WriteBackDropped = true
asks Wait = false

-- an instruction taken apart, as it waits or pends
abbrev pub waiting_of : Sizes → ℕ → Apart → Waiting
waiting_of z t a = record { kind = a.kind; line = line_of z a.first; word = word_of z a.first; tag = t; value = a.value }

-- what soundness says of a site: it fits, its messages are no more than its entries,
-- and the reply at its head has its entry
pub record Fit (z : Sizes) (i : ℕ) (x : Site) : Type 0 where
  pub ready : Ready z i x
  pub room : x.outgoing.count + x.incoming.count ≤ x.pends
  pub entry : 0 < x.incoming.count → entry_for x (site_head x.incoming).line < x.pends

-- the same of the site in hand
abbrev pub Fits : Here → Type 0
Fits x = Fit x.home.sizes x.home.site (site_of x)
