-- Laws of the steps that carry a message on: what memory stores, and that there is room wherever a message goes.
use mathlib.Core.Path.{◌≡◌, refl}
use mathlib.Core.List.{List}
use mathlib.Core.Bool.{Bool, true, false, cond}
use Prim.Native.Nat.{ℕ, ◌≤◌, ◌<◌}
use native.Mathlib.Omega.{arith}
use lib.Dec.{eqb, ltb→lt}
use lib.ListN.{set}
use lib.Seq.{set-get_or}
use Rattle.lists.proofs.Tests.{and_l, and_r}
use Rattle.model.specs.declared.Message.{Message}
use Rattle.model.specs.declared.Line.{Line}
use Rattle.model.specs.declared.System.{System}
use Rattle.model.specs.Kinds.{fetch}
use Rattle.model.specs.Parts.{past_line, site_at, net_at}
use Rattle.model.specs.Sound.{message_fits, request, reply, sound}
use Rattle.model.specs.Serve.{line_at, stored, memory_after}
use Rattle.promises.proofs.Sound.{Sound}
use Rattle.promises.proofs.Room.{the_limits, net_places, net_most}
use Rattle.promises.proofs.Moves.{send_room, arrive_room, back_room, reached_site, reach_room}
use Rattle.promises.proofs.Served.{serve_room, request-fits}
use Rattle.steps.proofs.Visits.{sound_open}

-- MEMORY

-- what stands there stored again, a fetch stores nothing
pub stores : (mem : List Line) (m : Message) → set mem m.line (cond (eqb m.kind fetch) (line_at mem m.line) (stored (line_at mem m.line) m)) ≡ memory_after mem m
unfolding memory_after
stores mem m = go (eqb m.kind fetch)
  where
    go : (b : Bool) → set mem m.line (cond b (line_at mem m.line) (stored (line_at mem m.line) m)) ≡ cond b mem (set mem m.line (stored (line_at mem m.line) m))
    go true = set-get_or mem m.line past_line
    go false = refl

-- ROOM

module _ (s : System) (e : sound s ≡ true) where
  h : Sound s
  h = sound_open s e

  pub room_to_send : (i : ℕ) → i < s.sizes.sites → 0 < (site_at s i).outgoing.count → s.up.count < 20
  room_to_send i l k = omega (arith, send_room s h i l k, net_places s h)

  pub room_to_arrive : 0 < s.up.count → s.arrived.count < 20
  room_to_arrive l = omega (arith, arrive_room s h 0 l, net_places s h)

  pub room_to_serve : 0 < s.arrived.count → s.served.count < 20
  room_to_serve l = omega (arith, serve_room s h l, net_places s h)

  pub line_served : 0 < s.arrived.count → (net_at s.arrived 0).line < 16
  unfolding message_fits
  line_served l =
      let t = request-fits s h l in
      let u = ltb→lt (net_at s.arrived 0).line s.sizes.lines (search (and_l, and_r)) in
      omega (arith, u, (the_limits s h).lines_most)

  pub room_to_go_back : 0 < s.served.count → s.down.count < 20
  room_to_go_back l = omega (arith, back_room s h l, net_places s h)

  pub site_reached : (p : ℕ) → p < s.down.count → (net_at s.down p).site < 4
  site_reached p l = omega (arith, reached_site s h p l, (the_limits s h).sites_most)

  pub room_to_reach : (p : ℕ) → p < s.down.count → (site_at s (net_at s.down p).site).incoming.count < 5
  room_to_reach p l = omega (arith, reach_room s h p l, (the_limits s h).pend_most)

  pub up_most : s.up.count ≤ 20
  up_most = net_most s h request _ h.up

  pub served_most : s.served.count ≤ 20
  served_most = net_most s h reply _ h.served

  pub down_most : s.down.count ≤ 20
  down_most = net_most s h reply _ h.down
