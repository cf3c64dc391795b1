-- The steps other than issues that a sound state accepts: they are among the candidates, no two of which are alike, and number 24 at most.
use mathlib.Core.List.{Memᴰ}
use mathlib.Core.Bool.{Bool, true, false, ◌&&◌}
use Prim.Native.Nat.{ℕ, ◌*◌, ◌≤◌, ◌<◌}
use native.Mathlib.Omega.{arith}
use lib.Dec.{T, eqb, lt→ltb}
use lib.ListN.{get_or}
use Rattle.lists.specs.Places.{ind, sum_below, count}
use Rattle.lists.proofs.Tests.{ind_and, by_test, ind_T, ind_F, ind-most}
use Rattle.lists.proofs.Below.{sum_less, sum_most, sum_both, sum_more, once_below}
use Rattle.model.specs.declared.System.{System}
use Rattle.model.specs.declared.After.{After}
use Rattle.model.specs.declared.Step.{Step}
use Rattle.model.specs.declared.Step.TheVariants.{Issue, Retry, Send, ArriveMemory, Serve, SendBack, ArriveSite, Take}
use Rattle.model.specs.Parts.{site_at}
use Rattle.model.specs.Steps.{step_of, is_done}
use Rattle.model.specs.Record.{numbers_of}
use Rattle.model.specs.Drain.{accepts, candidates, candidates_of}
use Rattle.promises.specs.Runs.{issues, is_move, same_move}
use Rattle.promises.proofs.Sound.{Sound}
use Rattle.promises.proofs.Room.{the_limits, queued, message_count, count_most, net_places}
use Rattle.promises.proofs.Stepping.{Stepping, refusing, fenced, stalling, handling, resuming, sending, arriving, serving, returning, reaching, tooking, stepping}
use Rattle.promises.proofs.Named.{named, candidate, count-candidates}

-- how many stand where a step takes one from
unfoldable pub stock : System → Step → ℕ
stock s (Issue i t n) = 0
stock s (Retry i) = (site_at s i).stalls
stock s (Send i) = (site_at s i).outgoing.count
stock s (ArriveMemory p) = s.up.count
stock s Serve = s.arrived.count
stock s SendBack = s.served.count
stock s (ArriveSite p) = s.down.count
stock s (Take i) = (site_at s i).incoming.count

abbrev pub named_in : System → Step → Bool
named_in s x = named s.sizes.sites s.up.count s.down.count x

-- AN ACCEPTED STEP IS A CANDIDATE

grounds : (s : System) (x : Step) (r : After) → Stepping s x r → T (is_move x) → T (is_done r.outcome) → T (named_in s x) × (0 < stock s x)
unfolding issues named stock
grounds s x r (refusing y q) m t = absurd t
grounds s x r (fenced i u n d k) m t = absurd m
grounds s x r (stalling i u n d k l w) m t = absurd m
grounds s x r (handling i u n d k a w q) m t = absurd m
grounds s x r (resuming i l k a w q) m t = (lt→ltb i s.sizes.sites l, k)
grounds s x r (sending i l k) m t = (lt→ltb i s.sizes.sites l, k)
grounds s x r (arriving p l) m t = (lt→ltb p s.up.count l, omega arith)
grounds s x r (serving l) m t = (tt, l)
grounds s x r (returning l) m t = (tt, l)
grounds s x r (reaching p l) m t = (lt→ltb p s.down.count l, omega arith)
grounds s x r (tooking i l k) m t = (lt→ltb i s.sizes.sites l, k)

module _ (s : System) (h : Sound s) where
  pub accepted_named : (x : Step) → T (is_move x) → T (accepts s x) → T (named_in s x)
  accepted_named x m t = (grounds s x (step_of s x) (stepping s h x) m t).0

  pub accepted_stock : (x : Step) → T (is_move x) → T (accepts s x) → 0 < stock s x
  accepted_stock x m t = (grounds s x (step_of s x) (stepping s h x) m t).1

  pub accepted_candidate : (x : Step) → T (is_move x) → T (accepts s x) → Memᴰ x (candidates_of s)
  accepted_candidate x m t = candidate s.sizes.sites s.up.count s.down.count x (accepted_named x m t)

  -- AT MOST 24

  of_stock : (x : Step) → T (is_move x) → ind (accepts s x) ≤ stock s x
  of_stock x m =
      by_test (accepts s x) (λ t. omega (arith, ind_T (accepts s x) t, accepted_stock x m t)) (λ t. omega (arith, ind_F (accepts s x) t))

  of_sites : (g : ℕ → Step) → ((i : ℕ) → T (is_move (g i))) → (n : ℕ) → sum_below n (λ i. ind (accepts s (g i))) ≤ sum_below n (λ i. stock s (g i))
  of_sites g m n = sum_less n (λ i. ind (accepts s (g i))) (λ i. stock s (g i)) (λ i l. of_stock (g i) (m i))

  at_most : (g : ℕ → Step) (n : ℕ) → sum_below n (λ i. ind (accepts s (g i))) ≤ n * 1
  at_most g n = sum_most n 1 (λ i. ind (accepts s (g i))) (λ i l. ind-most (accepts s (g i)))

  -- a retry for each site, and for each other step that is accepted a message
  pub choices : count (accepts s) (candidates_of s) ≤ 24
  unfolding stock message_count issues
  choices =
      let n = s.sizes.sites in
      omega (
        arith,
        count-candidates n s.up.count s.down.count (accepts s),
        at_most Retry n,
        of_sites Send (λ i. tt) n,
        of_sites Take (λ i. tt) n,
        of_stock Serve tt,
        of_stock SendBack tt,
        at_most ArriveMemory s.up.count,
        at_most ArriveSite s.down.count,
        sum_both n (λ i. (site_at s i).outgoing.count) (λ i. (site_at s i).incoming.count),
        sum_more n 4 (λ i. queued (site_at s i)) (the_limits s h).sites_most,
        (the_limits s h).sites_most,
        count_most s h,
        net_places s h,
      )

-- NO STEP STANDS TWICE AMONG THE CANDIDATES

both_once : (b : Bool) (n k : ℕ) → sum_below n (λ i. ind (b && eqb k i)) ≤ ind b
both_once true n k = once_below n k
both_once false n k = omega (arith, sum_most n 0 (λ i. 0) (λ i l. omega arith))

pub candidates-once : (n u d : ℕ) (x : Step) → count (same_move x) (candidates n u d) ≤ 1
unfolding sum_below numbers_of
candidates-once n u d x =
    let k = get_or (numbers_of x) 0 0 in
    let j = get_or (numbers_of x) 1 0 in
    omega (
      arith,
      count-candidates n u d (same_move x),
      once_below 8 k,
      both_once (eqb k 1) n j,
      both_once (eqb k 2) n j,
      both_once (eqb k 7) n j,
      ind_and (eqb k 4) (eqb j 0),
      ind_and (eqb k 5) (eqb j 0),
      both_once (eqb k 3) u j,
      both_once (eqb k 6) d j,
    )
