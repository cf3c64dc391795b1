-- A queue that fits, after a message is put at its tail or taken out.
use mathlib.Core.Path.{◌≡◌}
use mathlib.Core.List.{List}
use mathlib.Core.Bool.{Bool}
use Prim.Native.Nat.{ℕ, ◌+◌, ◌-◌, ◌*◌, ◌≤◌, ◌<◌}
use native.Mathlib.Omega.{arith}
use lib.Dec.{T, leb, leb→le, le→leb}
use lib.ListN.{length, get_or, set}
use Rattle.lists.specs.Places.{ind, fits, array, tally, removed}
use Rattle.lists.proofs.Tests.{and_l, and_r, both}
use Rattle.lists.proofs.Places.{array-length, array-fits, array-most, array_at, array_push, array_pull, weigh_push, weigh_pull, weigh_at}
use Rattle.model.specs.declared.Sizes.{Sizes}
use Rattle.model.specs.declared.Message.{Message}
use Rattle.model.specs.declared.SiteQueue.{SiteQueue}
use Rattle.model.specs.declared.Queue.{Queue}
use Rattle.model.specs.Fresh.{no_message}
use Rattle.model.specs.Parts.{past_message, site_put, site_head, site_rest, net_put, net_at, net_rest}
use Rattle.model.specs.Sets.{words_fit, marks_fit}
use Rattle.model.specs.Sound.{free_message, queue_fits, net_fits, message_fits, of_site, site_queue_fits}

pub free-message : T (free_message no_message)
unfolding free_message words_fit marks_fit array fits
free-message = tt

module _ (places most : ℕ) (ok : Message → Bool) (n : ℕ) (xs : List Message) (t : T (queue_fits places most ok n xs)) where
  pub queue_most : n ≤ most
  unfolding queue_fits
  queue_most = leb→le n most (and_l (leb n most) _ t)

  pub queue_array : T (array places ok free_message n xs)
  unfolding queue_fits
  queue_array = and_r (leb n most) _ t

  pub queue_fits_lem : T (fits ok free_message n xs)
  queue_fits_lem = array-fits places ok free_message n xs queue_array

  pub queue_length : length xs ≡ places
  queue_length = array-length places ok free_message n xs queue_array

  pub queue_inside : n ≤ length xs
  queue_inside = array-most places ok free_message n xs queue_array

  pub queue_at : (p : ℕ) → p < n → T (ok (get_or xs p past_message))
  queue_at p h = array_at places ok free_message n xs queue_array p past_message h

  pub queue_push : (m : Message) → n < most → most ≤ places → T (ok m) → T (queue_fits places most ok (n + 1) (set xs n m))
  unfolding queue_fits
  queue_push m h k u =
      both (leb (n + 1) most) _ (le→leb (n + 1) most (omega arith)) (array_push places ok free_message n xs queue_array m (omega arith) u)

  pub queue_pull : (p : ℕ) → p < n → T (queue_fits places most ok (n - 1) (removed no_message p xs))
  unfolding queue_fits
  queue_pull p h =
      both (leb (n - 1) most) _ (le→leb (n - 1) most (omega (arith, queue_most))) (array_pull places ok free_message n xs queue_array no_message p h free-message)

  -- what is counted of it
  pub queue_pushed : (f : Message → Bool) (m : Message) → n < most → most ≤ places → tally f (n + 1) (set xs n m) ≡ tally f n xs + ind (f m)
  queue_pushed f m h k = weigh_push (λ x. ind (f x)) n xs m (omega (arith, queue_length))

  pub queue_pulled : (f : Message → Bool) (p : ℕ) → p < n → tally f (n - 1) (removed no_message p xs) + ind (f (get_or xs p past_message)) ≡ tally f n xs
  queue_pulled f p h = weigh_pull (λ x. ind (f x)) n p xs no_message past_message h queue_inside

  pub queue_counts : (f : Message → Bool) (p : ℕ) → p < n → ind (f (get_or xs p past_message)) ≤ tally f n xs
  queue_counts f p h = weigh_at (λ x. ind (f x)) n p xs past_message h queue_inside

-- A NETWORK OR A QUEUE OF MEMORY, of requests or of replies

abbrev pub NetFits : Sizes → (ℕ → Bool) → Queue → Type 0
NetFits z side q = T (net_fits z side q)

module _ (z : Sizes) (side : ℕ → Bool) (q : Queue) (t : NetFits z side q) where
  abbrev most : ℕ
  most = z.pend * z.sites

  pub net_at_lem : (p : ℕ) → p < q.count → T (message_fits z side (net_at q p))
  net_at_lem p h = queue_at 20 most (message_fits z side) q.count q.items t p h

  pub net_put_lem : (m : Message) → q.count < z.pend * z.sites → z.pend * z.sites ≤ 20 → T (message_fits z side m) → NetFits z side (net_put q m)
  net_put_lem m h k u = queue_push 20 most (message_fits z side) q.count q.items t m h k u

  pub net_rest_lem : (p : ℕ) → p < q.count → NetFits z side (net_rest q p)
  net_rest_lem p h = queue_pull 20 most (message_fits z side) q.count q.items t p h

  pub net_gains : (f : Message → Bool) (m : Message) → q.count < z.pend * z.sites → z.pend * z.sites ≤ 20 →
      tally f (net_put q m).count (net_put q m).items ≡ tally f q.count q.items + ind (f m)
  net_gains f m h k = queue_pushed 20 most (message_fits z side) q.count q.items t f m h k

  pub net_loses : (f : Message → Bool) (p : ℕ) → p < q.count → tally f (net_rest q p).count (net_rest q p).items + ind (f (net_at q p)) ≡ tally f q.count q.items
  net_loses f p h = queue_pulled 20 most (message_fits z side) q.count q.items t f p h

  pub net_counts : (f : Message → Bool) (p : ℕ) → p < q.count → ind (f (net_at q p)) ≤ tally f q.count q.items
  net_counts f p h = queue_counts 20 most (message_fits z side) q.count q.items t f p h

-- A QUEUE OF SITE i

module _ (z : Sizes) (side : ℕ → Bool) (i : ℕ) (q : SiteQueue) (t : T (site_queue_fits z side i q)) where
  pub own_head : 0 < q.count → T (of_site z side i (site_head q))
  unfolding site_queue_fits
  own_head h = queue_at 5 z.pend (of_site z side i) q.count q.items t 0 h

  pub own_put : (m : Message) → q.count < z.pend → z.pend ≤ 5 → T (of_site z side i m) → T (site_queue_fits z side i (site_put q m))
  unfolding site_queue_fits
  own_put m h k u = queue_push 5 z.pend (of_site z side i) q.count q.items t m h k u

  pub own_rest : 0 < q.count → T (site_queue_fits z side i (site_rest q))
  unfolding site_queue_fits
  own_rest h = queue_pull 5 z.pend (of_site z side i) q.count q.items t 0 h

  pub own_gains : (f : Message → Bool) (m : Message) → q.count < z.pend → z.pend ≤ 5 →
      tally f (site_put q m).count (site_put q m).items ≡ tally f q.count q.items + ind (f m)
  unfolding site_queue_fits
  own_gains f m h k = queue_pushed 5 z.pend (of_site z side i) q.count q.items t f m h k

  pub own_loses : (f : Message → Bool) → 0 < q.count → tally f (site_rest q).count (site_rest q).items + ind (f (site_head q)) ≡ tally f q.count q.items
  unfolding site_queue_fits
  own_loses f h = queue_pulled 5 z.pend (of_site z side i) q.count q.items t f 0 h
