-- The two sides of the messages: requests on the way to memory, and replies on the way back.
use Rattle.std.specs.Prelude.{Bool, ℕ}
use Rattle.model.specs.Sound.{request, reply}
use Rattle.sound.specs.declared.messages.Side.{Side}
use Rattle.sound.specs.declared.messages.Side.TheVariants.{Requests, Replies}

abbrev pub side_of : Side → ℕ → Bool
side_of Requests = request
side_of Replies = reply
