-- What comes of a message handed from one network or queue of memory to another.
use Rattle.std.specs.Prelude.{ℕ, cond, ltb, Ok, Err}
use Rattle.model.specs.declared.Queue.{Queue}
use Rattle.model.specs.declared.Answer.TheVariants.{Nothing}
use Rattle.model.specs.declared.Refusal.TheVariants.{NothingThere}
use Rattle.model.specs.Parts.{net_put, net_at, net_rest}
use Rattle.model.specs.Results.{Outcome}

-- the outcome, and the two after it
pub record Moved : Type 0 where
  pub outcome : Outcome
  pub from : Queue
  pub to : Queue

abbrev pub moved : Outcome → Queue → Queue → Moved
moved o q r = record { outcome = o; from = q; to = r }

-- the message at p of the one goes to the other's tail
abbrev pub hopped : Queue → ℕ → Queue → Moved
hopped q p r =
    cond (ltb p q.count) (moved (Ok Nothing) (net_rest q p) (net_put r (net_at q p))) (moved (Err NothingThere) q r)
