-- One site put anew, or messages moved: what must be shown for the state to stay sound.
use mathlib.Core.Path.{◌≡◌, ap, sym, ◌∙◌, subst}
use mathlib.Core.List.{List}
use mathlib.Core.Bool.{Bool}
use Prim.Native.Nat.{ℕ, ◌+◌, ◌<◌}
use native.Mathlib.Omega.{arith}
use native.Mathlib.Decide.{ℕ_discrete}
use lib.Dec.{T, ltb, eqb, eqb→eq, lt→ltb, not_T}
use Rattle.lists.specs.Places.{ind, tally, sum_below}
use Rattle.lists.proofs.Tests.{and_l, and_r, cond_T, ind_F}
use Rattle.lists.proofs.Places.{weigh-none}
use Rattle.lists.proofs.Below.{sum_put}
use Rattle.model.specs.declared.Sizes.{Sizes}
use Rattle.model.specs.declared.Message.{Message}
use Rattle.model.specs.declared.System.{System}
use Rattle.model.specs.Parts.{Site, site_at, put_site}
use Rattle.model.specs.Sound.{request, reply, of_site, message_fits, queue_fits, site_queue_fits, free_message, site_fits, free_site, site_ok}
use Rattle.promises.proofs.Sites.{Put, put_site_lem}
use Rattle.promises.proofs.Balance.{in_site, total, is_at, asks_at, Balance}
use Rattle.promises.proofs.Queues.{queue_fits_lem}
use Rattle.promises.proofs.Sound.{Sound, Ready, ready_open}
use Rattle.promises.proofs.Room.{the_limits, ready, below_four}

-- THE SITES

module _ (s s' : System) (i : ℕ) (x : Site) (p : Put s s' i x) where
  -- a site that fits, in the place of another
  pub put_ok : i < s.sizes.sites → T (site_fits s.sizes i x) → ((j : ℕ) → j < 4 → T (site_ok s.sizes j (site_at s j))) →
      (j : ℕ) → j < 4 → T (site_ok s.sizes j (site_at s' j))
  put_ok l t ok j k = go (ℕ_discrete j i)
    where
      go : Dec (j ≡ i) → T (site_ok s.sizes j (site_at s' j))
      go (yes e) =
          subst (λ (n : ℕ). T (site_ok s.sizes n (site_at s' n))) (sym e)
          (rw (p.here, cond_T (ltb i s.sizes.sites) (site_fits s.sizes i x) (free_site x) (lt→ltb i s.sizes.sites l)) t)
      go (no e) = rw (p.there j e) (ok j k)

  -- what a sum over the sites gains and loses
  pub put_sum : (f : Site → ℕ) → i < 4 → sum_below 4 (λ j. f (site_at s' j)) + f (site_at s i) ≡ sum_below 4 (λ j. f (site_at s j)) + f x
  put_sum f l =
      omega (arith, sum_put 4 (λ j. f (site_at s j)) (λ j. f (site_at s' j)) i l (λ j n. ap f (p.there j n)), ap f p.here)

-- MESSAGES MOVED

-- the messages still pass every test on site, line and trip, and no entry changed
pub moved_balance : (s s' : System) → s'.sizes ≡ s.sizes → ((i : ℕ) (f : ℕ → ℕ → Bool) → total (is_at i f) s' ≡ total (is_at i f) s) →
    ((i : ℕ) → (site_at s' i).pends ≡ (site_at s i).pends) → ((i : ℕ) → (site_at s' i).entries ≡ (site_at s i).entries) → Balance s → Balance s'
moved_balance s s' e t n es b i l f =
    t i f ∙ b i (subst (λ (z : Sizes). i < z.sites) e l) f ∙ sym (rw (n i, es i))

-- ONE SITE

-- no message of a site's own queues is another site's
module _ (z : Sizes) (i j : ℕ) (n : j ≡ i → ⊥) (f : ℕ → ℕ → Bool) where
  none-queued : (side : ℕ → Bool) (k : ℕ) (ms : List Message) → T (queue_fits 5 z.pend (of_site z side i) k ms) → tally (is_at j f) k ms ≡ 0
  none-queued side k ms t =
      weigh-none (of_site z side i) free_message (λ m. ind (is_at j f m)) other k ms (queue_fits_lem 5 z.pend (of_site z side i) k ms t)
    where
      other : (m : Message) → T (of_site z side i m) → ind (is_at j f m) ≡ 0
      other m u =
          ind_F (is_at j f m) (not_T (is_at j f m) (λ v. n (sym (eqb→eq m.site j (and_l (eqb m.site j) _ v)) ∙ eqb→eq m.site i (and_r (message_fits z side m) _ u))))

  pub none_in : (x : Site) → Ready z i x → in_site (is_at j f) x ≡ 0
  unfolding in_site site_queue_fits
  none_in x r =
      omega (arith, none-queued request x.outgoing.count x.outgoing.items r.out, none-queued reply x.incoming.count x.incoming.items r.inc)

-- the site fits, and its messages and entries changed alike
pub record Change (z : Sizes) (i : ℕ) (x x' : Site) : Type 0 where
  pub fits : T (site_fits z i x')
  pub balance : (f : ℕ → ℕ → Bool) →
      in_site (is_at i f) x' + tally (asks_at f) x.pends x.entries ≡ in_site (is_at i f) x + tally (asks_at f) x'.pends x'.entries

pub composed : (z : Sizes) (i : ℕ) (x y w : Site) → Change z i x y → Change z i y w → Change z i x w
composed z i x y w a b = record { fits = b.fits; balance = λ f. omega (arith, a.balance f, b.balance f) }

module _ (s : System) (h : Sound s) (i : ℕ) (l : i < s.sizes.sites) (x' : Site) (w : Change s.sizes i (site_at s i) x') where
  abbrev s' : System
  s' = put_site s i x'

  put : Put s s' i x'
  put = put_site_lem s h.four i (below_four s h i l) x'

  changed : (j : ℕ) (f : ℕ → ℕ → Bool) → total (is_at j f) s' + in_site (is_at j f) (site_at s i) ≡ total (is_at j f) s + in_site (is_at j f) x'
  unfolding total
  changed j f = omega (arith, put_sum s s' i x' put (in_site (is_at j f)) (below_four s h i l))

  balanced : Balance s'
  balanced j k f = go (ℕ_discrete j i)
    where
      held : Site → ℕ
      held y = tally (asks_at f) y.pends y.entries

      go : Dec (j ≡ i) → total (is_at j f) s' ≡ tally (asks_at f) (site_at s' j).pends (site_at s' j).entries
      go (yes e) =
          subst (λ (n : ℕ). total (is_at n f) s' ≡ tally (asks_at f) (site_at s' n).pends (site_at s' n).entries) (sym e)
          (omega (arith, changed i f, w.balance f, h.balance i l f, ap held put.here))
      go (no n) =
          omega (
            arith,
            changed j f,
            h.balance j k f,
            none_in s.sizes i j n f (site_at s i) (ready s h i l),
            none_in s.sizes i j n f x' (ready_open s.sizes i x' (the_limits s h) l w.fits),
            ap held (put.there j n),
          )

  pub change_sound : Sound s'
  change_sound = record {
    sizes = h.sizes;
    memory = h.memory;
    four = put.four;
    sites = put_ok s s' i x' put l w.fits h.sites;
    up = h.up;
    arrived = h.arrived;
    served = h.served;
    down = h.down;
    balance = balanced;
  }
