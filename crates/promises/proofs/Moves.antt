-- Send, arrive-memory, send-back and arrive-site: a message leaves one place and enters another, and nothing else changes.
use mathlib.Core.Path.{◌≡◌, refl, ap, sym, ◌∙◌, subst}
use mathlib.Core.Bool.{Bool}
use Prim.Native.Nat.{ℕ, ◌*◌, ◌<◌}
use native.Mathlib.Omega.{arith}
use native.Mathlib.Decide.{ℕ_discrete}
use lib.Dec.{T, eqb, ltb→lt, eqb_refl}
use Rattle.lists.proofs.Tests.{and_l, and_r, both, ind_T}
use Rattle.lists.proofs.Below.{sum_at}
use Rattle.model.specs.declared.Message.{Message}
use Rattle.model.specs.declared.System.{System}
use Rattle.model.specs.Parts.{Site, site_at, with_outgoing, with_incoming, site_put, site_head, site_rest, net_at}
use Rattle.model.specs.Sound.{request, reply, message_fits}
use Rattle.model.specs.Steps.{after_send, after_arrive_memory, after_send_back, after_arrive_site}
use Rattle.promises.proofs.Sites.{Four, Put, put_sent, put_reached}
use Rattle.promises.proofs.Balance.{in_site, total, is_at}
use Rattle.promises.proofs.Queues.{net_at_lem, net_put_lem, net_rest_lem, net_gains, net_loses, net_counts, own_head, own_put, own_rest, own_gains, own_loses}
use Rattle.promises.proofs.Sound.{Sound, Ready, ready_close}
use Rattle.promises.proofs.Room.{anything, queued, message_count, the_limits, ready, below_four, count_most, net_places, site-room}
use Rattle.promises.proofs.Change.{put_ok, put_sum, moved_balance}

-- what is the same at the site put anew is the same at every site
pub same_part : {A : Type 0} (f : Site → A) (s s' : System) (i : ℕ) (x : Site) → Put s s' i x → f x ≡ f (site_at s i) → (j : ℕ) → f (site_at s' j) ≡ f (site_at s j)
same_part f s s' i x p e j = go (ℕ_discrete j i)
  where
    go : Dec (j ≡ i) → f (site_at s' j) ≡ f (site_at s j)
    go (yes q) = subst (λ (n : ℕ). f (site_at s' n) ≡ f (site_at s n)) (sym q) (ap f p.here ∙ e)
    go (no n) = ap f (p.there j n)

-- SEND

module _ (s : System) (h : Sound s) (i : ℕ) (l : i < s.sizes.sites) (k : 0 < (site_at s i).outgoing.count) where
  abbrev x : Site
  x = site_at s i

  abbrev s' : System
  s' = after_send s i x.outgoing

  abbrev x' : Site
  x' = with_outgoing x (site_rest x.outgoing)

  put : Put s s' i x'
  put = put_sent s h.four i (below_four s h i l) x.outgoing

  pub send_room : s.up.count < s.sizes.pend * s.sizes.sites
  unfolding message_count
  send_room = omega (arith, k, count_most s h, sum_at 4 (λ j. queued (site_at s j)) i (below_four s h i l))

  rest_ready : Ready s.sizes i x'
  rest_ready = record {
    limits = the_limits s h;
    sited = l;
    own = (ready s h i l).own;
    out = own_rest s.sizes request i x.outgoing (ready s h i l).out k;
    inc = (ready s h i l).inc;
  }

  pub send_counts : (f : Message → Bool) → total f s' ≡ total f s
  unfolding total in_site after_send
  send_counts f =
      omega (
        arith,
        put_sum s s' i x' put (in_site f) (below_four s h i l),
        own_loses s.sizes request i x.outgoing (ready s h i l).out f k,
        net_gains s.sizes request s.up h.up f (site_head x.outgoing) send_room (net_places s h),
      )

  pub send_sound : Sound s'
  unfolding after_send
  send_sound = record {
    sizes = h.sizes;
    memory = h.memory;
    four = put.four;
    sites = put_ok s s' i x' put l (ready_close s.sizes i x' rest_ready) h.sites;
    up =
        net_put_lem s.sizes request s.up h.up (site_head x.outgoing) send_room (net_places s h)
        (and_l (message_fits s.sizes request (site_head x.outgoing)) _ (own_head s.sizes request i x.outgoing (ready s h i l).out k));
    arrived = h.arrived;
    served = h.served;
    down = h.down;
    balance = moved_balance s s' refl (λ j f. send_counts (is_at j f)) (same_part (λ y. y.pends) s s' i x' put refl) (same_part (λ y. y.entries) s s' i x' put refl)
        h.balance;
  }

-- no part of a site changed
pub same_four : (s s' : System) → Four s → s'.caches ≡ s.caches → s'.pends ≡ s.pends → s'.stalls ≡ s.stalls → s'.outgoing ≡ s.outgoing →
    s'.incoming ≡ s.incoming → Four s'
same_four s s' f a b c d e = record {
  caches = rw a f.caches;
  pends = rw b f.pends;
  stalls = rw c f.stalls;
  outgoing = rw d f.outgoing;
  incoming = rw e f.incoming;
}

-- ARRIVE-MEMORY

module _ (s : System) (h : Sound s) (p : ℕ) (l : p < s.up.count) where
  pub arrive_room : s.arrived.count < s.sizes.pend * s.sizes.sites
  unfolding message_count
  arrive_room = omega (arith, l, count_most s h)

  pub arrive_counts : (f : Message → Bool) → total f (after_arrive_memory s p) ≡ total f s
  unfolding total after_arrive_memory
  arrive_counts f =
      omega (
        arith,
        net_loses s.sizes request s.up h.up f p l,
        net_gains s.sizes request s.arrived h.arrived f (net_at s.up p) arrive_room (net_places s h),
      )

  pub arrive_sound : Sound (after_arrive_memory s p)
  unfolding after_arrive_memory
  arrive_sound = record {
    sizes = h.sizes;
    memory = h.memory;
    four = same_four s (after_arrive_memory s p) h.four refl refl refl refl refl;
    sites = h.sites;
    up = net_rest_lem s.sizes request s.up h.up p l;
    arrived = net_put_lem s.sizes request s.arrived h.arrived (net_at s.up p) arrive_room (net_places s h) (net_at_lem s.sizes request s.up h.up p l);
    served = h.served;
    down = h.down;
    balance = moved_balance s (after_arrive_memory s p) refl (λ j f. arrive_counts (is_at j f)) (λ j. refl) (λ j. refl) h.balance;
  }

-- SEND-BACK

module _ (s : System) (h : Sound s) (l : 0 < s.served.count) where
  pub back_room : s.down.count < s.sizes.pend * s.sizes.sites
  unfolding message_count
  back_room = omega (arith, l, count_most s h)

  pub back_counts : (f : Message → Bool) → total f (after_send_back s) ≡ total f s
  unfolding total after_send_back
  back_counts f =
      omega (
        arith,
        net_loses s.sizes reply s.served h.served f 0 l,
        net_gains s.sizes reply s.down h.down f (net_at s.served 0) back_room (net_places s h),
      )

  pub back_sound : Sound (after_send_back s)
  unfolding after_send_back
  back_sound = record {
    sizes = h.sizes;
    memory = h.memory;
    four = same_four s (after_send_back s) h.four refl refl refl refl refl;
    sites = h.sites;
    up = h.up;
    arrived = h.arrived;
    served = net_rest_lem s.sizes reply s.served h.served 0 l;
    down = net_put_lem s.sizes reply s.down h.down (net_at s.served 0) back_room (net_places s h) (net_at_lem s.sizes reply s.served h.served 0 l);
    balance = moved_balance s (after_send_back s) refl (λ j f. back_counts (is_at j f)) (λ j. refl) (λ j. refl) h.balance;
  }

-- ARRIVE-SITE

module _ (s : System) (h : Sound s) (p : ℕ) (l : p < s.down.count) where
  abbrev m : Message
  m = net_at s.down p

  abbrev y : Site
  y = site_at s m.site

  abbrev y' : Site
  y' = with_incoming y (site_put y.incoming m)

  abbrev s'' : System
  s'' = after_arrive_site s p m

  fine : T (message_fits s.sizes reply m)
  fine = net_at_lem s.sizes reply s.down h.down p l

  pub reached_site : m.site < s.sizes.sites
  unfolding message_fits
  reached_site = let t = fine in ltb→lt m.site s.sizes.sites (search (and_l, and_r))

  -- it is one of its site's messages, so there is room
  pub reach_room : y.incoming.count < s.sizes.pend
  reach_room =
      omega (
        arith,
        site-room s h m.site reached_site,
        (ready s h m.site reached_site).own.n_most,
        ind_T (is_at m.site anything m) (both (eqb m.site m.site) _ (eqb_refl m.site) tt),
        net_counts s.sizes reply s.down h.down (is_at m.site anything) p l,
      )

  put' : Put s s'' m.site y'
  put' = put_reached s h.four p m (below_four s h m.site reached_site)

  reach_ready : Ready s.sizes m.site y'
  reach_ready = record {
    limits = the_limits s h;
    sited = reached_site;
    own = (ready s h m.site reached_site).own;
    out = (ready s h m.site reached_site).out;
    inc =
        own_put s.sizes reply m.site y.incoming (ready s h m.site reached_site).inc m reach_room (the_limits s h).pend_most
        (both (message_fits s.sizes reply m) _ fine (eqb_refl m.site));
  }

  pub reach_counts : (f : Message → Bool) → total f s'' ≡ total f s
  unfolding total in_site after_arrive_site
  reach_counts f =
      omega (
        arith,
        put_sum s s'' m.site y' put' (in_site f) (below_four s h m.site reached_site),
        net_loses s.sizes reply s.down h.down f p l,
        own_gains s.sizes reply m.site y.incoming (ready s h m.site reached_site).inc f m reach_room (the_limits s h).pend_most,
      )

  pub reach_sound : Sound s''
  unfolding after_arrive_site
  reach_sound = record {
    sizes = h.sizes;
    memory = h.memory;
    four = put'.four;
    sites = put_ok s s'' m.site y' put' reached_site (ready_close s.sizes m.site y' reach_ready) h.sites;
    up = h.up;
    arrived = h.arrived;
    served = h.served;
    down = net_rest_lem s.sizes reply s.down h.down p l;
    balance = moved_balance s s'' refl (λ j f. reach_counts (is_at j f)) (same_part (λ v. v.pends) s s'' m.site y' put' refl)
        (same_part (λ v. v.entries) s s'' m.site y' put' refl) h.balance;
  }
