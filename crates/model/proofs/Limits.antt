-- The limits of the sizes, one by one.
use Prim.Native.Nat.{◌≤◌}
use lib.Dec.{T, leb→le}
use Rattle.lists.proofs.Tests.{and_l, and_r}
use Rattle.model.specs.declared.Sizes.{Sizes}
use Rattle.model.specs.Limits.{in_limits}

pub record Limits (z : Sizes) : Type 0 where
  pub sites_most : z.sites ≤ 4
  pub words-most : z.words ≤ 4
  pub words-some : 1 ≤ z.words
  pub lines_most : z.lines ≤ 16
  pub sets_most : z.sets ≤ 8
  pub sets_some : 1 ≤ z.sets
  pub pend_most : z.pend ≤ 5
  pub pend_some : 1 ≤ z.pend
  pub stall_most : z.stall ≤ 8

pub limits : (z : Sizes) → T (in_limits z) → Limits z
unfolding in_limits
limits z t = record {
  sites_most = leb→le z.sites 4 (search (and_l, and_r) depth 10);
  words-most = leb→le z.words 4 (search (and_l, and_r) depth 10);
  words-some = leb→le 1 z.words (search (and_l, and_r) depth 10);
  lines_most = leb→le z.lines 16 (search (and_l, and_r) depth 10);
  sets_most = leb→le z.sets 8 (search (and_l, and_r) depth 10);
  sets_some = leb→le 1 z.sets (search (and_l, and_r) depth 10);
  pend_most = leb→le z.pend 5 (search (and_l, and_r) depth 10);
  pend_some = leb→le 1 z.pend (search (and_l, and_r) depth 10);
  stall_most = leb→le z.stall 8 (search (and_l, and_r) depth 10);
}
