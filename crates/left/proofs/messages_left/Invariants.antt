use Rattle.std.proofs.Common.{◌≡◌, ◌≤◌, ◌*◌, length}
use Rattle.lists.specs.Places.{all_of}
use Rattle.model.specs.Sound.{site_messages}
use Rattle.model.specs.Parts.{site_at}
use Rattle.left.proofs.messages_left.Given as goal

-- the messages at the sites so far
abbrev pub invariant-loop-outgoing : goal.invariant-loop-outgoing
invariant-loop-outgoing l = (l.n ≤ 510 * length l.yielded) × (l.n ≡ length (all_of (length l.yielded) (λ k. site_messages (site_at l.s k))))
