-- One site of a system: what stands at each site after one was put anew.
use mathlib.Core.Path.{◌≡◌, ◌∙◌}
use Prim.Native.Nat.{ℕ, ◌<◌}
use native.Mathlib.Omega.{arith}
use lib.Dec.{T, eqb, eqb→eq}
use lib.ListN.{length, length-set}
use lib.Seq.{get_or-set_same, get_or-set_other}
use Rattle.model.specs.declared.Message.{Message}
use Rattle.model.specs.declared.SiteQueue.{SiteQueue}
use Rattle.model.specs.declared.System.{System}
use Rattle.model.specs.Parts.{Site, site_at, put_site, with_outgoing, with_incoming, past_cache, past_pends, past_stalls, past_site_queue, site_rest, site_put}
use Rattle.model.specs.Sound.{four_sites}
use Rattle.model.specs.Steps.{after_send, after_arrive_site}
use Rattle.lists.proofs.Tests.{and_l, and_r}

-- the parts have four elements each
pub record Four (s : System) : Type 0 where
  pub caches : length s.caches ≡ 4
  pub pends : length s.pends ≡ 4
  pub stalls : length s.stalls ≡ 4
  pub outgoing : length s.outgoing ≡ 4
  pub incoming : length s.incoming ≡ 4

pub four_open : (s : System) → T (four_sites s) → Four s
unfolding four_sites
four_open s t =
    let a : T (eqb (length s.caches) 4) = search (and_l, and_r) in
    let b : T (eqb (length s.pends) 4) = search (and_l, and_r) in
    let c : T (eqb (length s.stalls) 4) = search (and_l, and_r) in
    let d : T (eqb (length s.outgoing) 4) = search (and_l, and_r) in
    let e : T (eqb (length s.incoming) 4) = search (and_l, and_r) in
    record {
      caches = eqb→eq (length s.caches) 4 a;
      pends = eqb→eq (length s.pends) 4 b;
      stalls = eqb→eq (length s.stalls) 4 c;
      outgoing = eqb→eq (length s.outgoing) 4 d;
      incoming = eqb→eq (length s.incoming) 4 e;
    }

pub four_close : (s : System) → Four s → T (four_sites s)
unfolding four_sites
four_close s f = rw (f.caches, f.pends, f.stalls, f.outgoing, f.incoming) tt

-- s' is s with x at site i
pub record Put (s s' : System) (i : ℕ) (x : Site) : Type 0 where
  pub here : site_at s' i ≡ x
  pub there : (j : ℕ) → (j ≡ i → ⊥) → site_at s' j ≡ site_at s j
  pub four : Four s'

module _ (s : System) (f : Four s) (i : ℕ) (l : i < 4) where
  pub put_site_lem : (x : Site) → Put s (put_site s i x) i x
  put_site_lem x = record {
    here =
        rw (
          get_or-set_same s.caches i (record { sets = x.cache }) past_cache (omega (arith, f.caches)),
          get_or-set_same s.pends i (record { entries = x.entries; count = x.pends }) past_pends (omega (arith, f.pends)),
          get_or-set_same s.stalls i (record { waiting = x.waiting; count = x.stalls }) past_stalls (omega (arith, f.stalls)),
          get_or-set_same s.outgoing i x.outgoing past_site_queue (omega (arith, f.outgoing)),
          get_or-set_same s.incoming i x.incoming past_site_queue (omega (arith, f.incoming)),
        );
    there = λ j n.
        rw (
          get_or-set_other s.caches i j (record { sets = x.cache }) past_cache n,
          get_or-set_other s.pends i j (record { entries = x.entries; count = x.pends }) past_pends n,
          get_or-set_other s.stalls i j (record { waiting = x.waiting; count = x.stalls }) past_stalls n,
          get_or-set_other s.outgoing i j x.outgoing past_site_queue n,
          get_or-set_other s.incoming i j x.incoming past_site_queue n,
        );
    four = record {
      caches = length-set s.caches i _ ∙ f.caches;
      pends = length-set s.pends i _ ∙ f.pends;
      stalls = length-set s.stalls i _ ∙ f.stalls;
      outgoing = length-set s.outgoing i _ ∙ f.outgoing;
      incoming = length-set s.incoming i _ ∙ f.incoming;
    };
  }

  pub put_sent : (q : SiteQueue) → Put s (after_send s i q) i (with_outgoing (site_at s i) (site_rest q))
  unfolding after_send
  put_sent q = record {
    here = rw (get_or-set_same s.outgoing i (site_rest q) past_site_queue (omega (arith, f.outgoing)));
    there = λ j n. rw (get_or-set_other s.outgoing i j (site_rest q) past_site_queue n);
    four = record {
      caches = f.caches;
      pends = f.pends;
      stalls = f.stalls;
      outgoing = length-set s.outgoing i _ ∙ f.outgoing;
      incoming = f.incoming;
    };
  }

pub put_reached : (s : System) (f : Four s) (p : ℕ) (m : Message) → m.site < 4 →
    Put s (after_arrive_site s p m) m.site (with_incoming (site_at s m.site) (site_put (site_at s m.site).incoming m))
unfolding after_arrive_site
put_reached s f p m l = record {
  here = rw (get_or-set_same s.incoming m.site (site_put (site_at s m.site).incoming m) past_site_queue (omega (arith, f.incoming)));
  there = λ j n. rw (get_or-set_other s.incoming m.site j (site_put (site_at s m.site).incoming m) past_site_queue n);
  four = record {
    caches = f.caches;
    pends = f.pends;
    stalls = f.stalls;
    outgoing = f.outgoing;
    incoming = length-set s.incoming m.site _ ∙ f.incoming;
  };
}
