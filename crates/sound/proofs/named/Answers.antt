use lib.ListN.{replicate}
use Rattle.sound.proofs.Pairing.{tallied_under_way}
use Rattle.sound.proofs.named.Goals as goal

pub returns : goal.returns
returns c =
    rw (
      c.count-4.ensures,
      c.first-4.ensures,
      c.count-3.ensures,
      c.first-3.ensures,
      c.count-2.ensures,
      c.first-2.ensures,
      c.count.ensures,
      c.first.ensures,
      c.count_near.ensures,
      c.none-names.ensures,
    )
    (tallied_under_way c.args.s.now (replicate 128 0))
