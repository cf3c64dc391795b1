use mathlib.Core.Path.{◌≡◌}
use native.Mathlib.Omega.{arith}
use borrow.Author.Rules.{rules}
use lib.ListN.{length}
use Rattle.lists.proofs.Below.{sum_both}
use Rattle.lists.proofs.Long.{length_mapped}
use Rattle.model.specs.declared.SiteQueue.{SiteQueue}
use Rattle.model.specs.Parts.{site_at, past_site_queue}
use Rattle.promises.proofs.Room.{message_count}
use Rattle.sound.proofs.InUse.{sum_whole}
use Rattle.sound.proofs.message_count.Goals as goal

pub returns : goal.returns
unfolding message_count
returns c =
    let s = c.args.s.now in
    let outgoing : length s.outgoing ≡ 4 = search (rules, length_mapped) in
    let incoming : length s.incoming ≡ 4 = search (rules, length_mapped) in
    omega (
      arith,
      c.near_count.ensures,
      c.near_count-2.ensures,
      sum_whole (λ (q : SiteQueue). q.count) 4 s.outgoing past_site_queue outgoing,
      sum_whole (λ (q : SiteQueue). q.count) 4 s.incoming past_site_queue incoming,
      sum_both 4 (λ i. (site_at s i).outgoing.count) (λ i. (site_at s i).incoming.count),
    )
