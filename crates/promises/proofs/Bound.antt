-- The bound: each accepted step other than an issue lowers the potential, and an issue raises it by 13 or 7 at most.
use mathlib.Core.Path.{◌≡◌, refl}
use mathlib.Core.List.{List, [], ◌∷◌}
use mathlib.Core.Bool.{Bool, false, ◌&&◌, and-false}
use Prim.Native.Nat.{ℕ, zero, suc, ◌+◌, ◌*◌, ◌≤◌, ◌<◌}
use native.Mathlib.Omega.{arith}
use lib.Dec.{T, ltb, eqb}
use lib.ListN.{get_or}
use Rattle.lists.specs.Places.{ind, weigh, sum_below, each}
use Rattle.lists.proofs.Tests.{and_l, and_r, both, ind_T}
use Rattle.model.specs.declared.Sizes.{Sizes}
use Rattle.model.specs.declared.System.{System}
use Rattle.model.specs.declared.After.{After}
use Rattle.model.specs.declared.Instruction.{Instruction}
use Rattle.model.specs.declared.Step.{Step}
use Rattle.model.specs.declared.Step.TheVariants.{Issue, Retry, Send, ArriveMemory, Serve, SendBack, ArriveSite, Take}
use Rattle.model.specs.Kinds.{reconcile}
use Rattle.model.specs.Limits.{may_be_fresh}
use Rattle.model.specs.Fresh.{blank}
use Rattle.model.specs.Parts.{Site, site_at, put_site, past_entry, net_at, site_rest, site_put, with_outgoing, with_incoming}
use Rattle.model.specs.Issue.{kind_of, as_waiting}
use Rattle.model.specs.Handling.{performed}
use Rattle.model.specs.Take.{taken}
use Rattle.model.specs.Steps.{stalled_at, stall_head, unstalled, after_send, after_arrive_memory, after_serve, after_send_back, after_arrive_site, step_of, stepped, is_done}
use Rattle.promises.specs.Runs.{after_run, accepted, issues, is_move, issues_trip, issues_reconcile}
use Rattle.promises.proofs.Sites.{put_site_lem, put_sent, put_reached}
use Rattle.promises.proofs.Sound.{Sound, ready-pends, pends-room}
use Rattle.promises.proofs.Room.{ready, below_four}
use Rattle.promises.proofs.Rows.{taking}
use Rattle.promises.proofs.Stepping.{Stepping, refusing, fenced, stalling, handling, resuming, sending, arriving, serving, returning, reaching, tooking, stepping, issued_place, head_place, taker, reply_at, entry_at}
use Rattle.promises.proofs.Change.{put_sum}
use Rattle.promises.proofs.Moves.{reached_site}
use Rattle.promises.proofs.Took.{entry_below}
use Rattle.promises.proofs.Kept.{kept, fresh_sound}
use Rattle.promises.proofs.Potential.{displacing, stall_cost, site_left, potential, potential_most}
use Rattle.promises.proofs.Cost.{stalled_left, unstalled_left, performed_left, taken_left}
use Rattle.promises.proofs.Public.{stepped-sound}

-- an instruction that is no fence is a Reconcile or one of the three before it
one_of : (k : ℕ) → k < 4 → ind (ltb k reconcile) + ind (eqb k reconcile) ≡ 1
one_of zero h = refl
one_of (suc zero) h = refl
one_of (suc (suc zero)) h = refl
one_of (suc (suc (suc zero))) h = refl
one_of (suc (suc (suc (suc k)))) h = absurd (omega (arith, h))

-- a move issues nothing
move_free : (f : Instruction → Bool) (x : Step) → T (is_move x) → issues f x ≡ false
unfolding issues
move_free f (Issue i t n) m = absurd m
move_free f (Retry i) m = refl
move_free f (Send i) m = refl
move_free f (ArriveMemory p) m = refl
move_free f Serve m = refl
move_free f SendBack m = refl
move_free f (ArriveSite p) m = refl
move_free f (Take i) m = refl

no_issue : (f : Instruction → Bool) (b : Bool) (x : Step) → T (is_move x) → ind (b && issues f x) ≡ 0
no_issue f b x t = rw (move_free f x t, and-false b)

none-issued : (f : Instruction → Bool) (s : System) (xs : List Step) → T (each is_move xs) → accepted (issues f) s xs ≡ 0
unfolding accepted each
none-issued f s [] t = refl
none-issued f s (x ∷ xs) t =
    omega (
      arith,
      no_issue f (is_done (stepped s x).outcome) x (and_l (is_move x) _ t),
      none-issued f (stepped s x).system xs (and_r (is_move x) _ t),
    )

pub fresh-none : (z : Sizes) → potential (blank z) ≡ 0
unfolding potential sum_below site_left weigh
fresh-none z = refl

-- ONE STEP

-- what is left after a step, with the step if it is a move, is no more than before, with the price of what is issued
abbrev pub Left : System → Step → After → Type 0
Left s x r =
    potential r.system + ind (is_done r.outcome && is_move x) ≤
    potential s + 13 * ind (is_done r.outcome && issues_trip x) + 7 * ind (is_done r.outcome && issues_reconcile x)

-- a site of the system put anew
site_left_lem : (s : System) → Sound s → (i : ℕ) → i < s.sizes.sites → (y : Site) → potential (put_site s i y) + site_left (site_at s i) ≡ potential s + site_left y
unfolding potential
site_left_lem s h i l y = let k = below_four s h i l in omega (arith, put_sum s (put_site s i y) i y (put_site_lem s h.four i k y) site_left k)

by_way : (s : System) → Sound s → (x : Step) (r : After) → Stepping s x r → Left s x r
unfolding issues potential stall_cost displacing site_left after_send after_arrive_memory after_serve after_send_back after_arrive_site
by_way s h x r (refusing y q) = omega arith
by_way s h x r (fenced i t n d k) = omega arith
by_way s h x r (stalling i t n d k l w) =
    let v = as_waiting s.sizes t n in
    omega (
      arith,
      site_left_lem s h i d.sited (stalled_at (site_at s i) v),
      stalled_left s.sizes i (site_at s i) (ready s h i d.sited) v l,
      one_of (kind_of n) k,
    )
by_way s h x r (handling i t n d k a u w) =
    let v = as_waiting s.sizes t n in
    let p = issued_place s i t n in
    omega (
      arith,
      site_left_lem s h i d.sited (performed s.sizes i (site_at s i) v p a).site,
      performed_left s.sizes i (site_at s i) v p (pends-room s.sizes i (site_at s i) (ready s h i d.sited)) a u w,
      one_of (kind_of n) k,
    )
by_way s h x r (resuming i l k a u w) =
    let y = site_at s i in
    omega (
      arith,
      site_left_lem s h i l (performed s.sizes i (unstalled y) (stall_head y) (head_place s i) a).site,
      unstalled_left s.sizes i y (ready s h i l) k,
      performed_left s.sizes i (unstalled y) (stall_head y) (head_place s i) (pends-room s.sizes i y (ready s h i l)) a u w,
    )
by_way s h x r (sending i l k) =
    let f = below_four s h i l in
    let q = (site_at s i).outgoing in
    omega (arith, put_sum s (after_send s i q) i (with_outgoing (site_at s i) (site_rest q)) (put_sent s h.four i f q) site_left f)
by_way s h x r (arriving p l) = omega arith
by_way s h x r (serving l) = omega arith
by_way s h x r (returning l) = omega arith
by_way s h x r (reaching p l) =
    let m = net_at s.down p in
    let y = site_at s m.site in
    let f = below_four s h m.site (reached_site s h p l) in
    omega (arith, put_sum s (after_arrive_site s p m) m.site (with_incoming y (site_put y.incoming m)) (put_reached s h.four p m f) site_left f)
by_way s h x r (tooking i l k) =
    let e = get_or (site_at s i).entries (entry_at s i) past_entry in
    let y = taken s.sizes i (taker s i) (entry_at s i) e (reply_at s i) in
    omega (
      arith,
      site_left_lem s h i l y.site,
      taken_left s.sizes i (site_at s i) k (entry_at s i) (entry_below s h i l k) (ready-pends s.sizes i (site_at s i) (ready s h i l)) (reply_at s i) y
          (taking s.sizes i (taker s i) (entry_at s i) e (reply_at s i)),
    )

pub step_left : (s : System) → Sound s → (x : Step) → Left s x (step_of s x)
step_left s h x = by_way s h x (step_of s x) (stepping s h x)

-- a move that is accepted lowers the potential
pub moves_fall : (s : System) → Sound s → (x : Step) → T (is_move x) → T (is_done (step_of s x).outcome) → potential (step_of s x).system + 1 ≤ potential s
moves_fall s h x t d =
    let b = is_done (step_of s x).outcome in
    omega (
      arith,
      step_left s h x,
      ind_T (b && is_move x) (both b (is_move x) d t),
      no_issue (λ n. ltb (kind_of n) reconcile) b x t,
      no_issue (λ n. eqb (kind_of n) reconcile) b x t,
    )

-- RUNS

pub run_left : (s : System) → Sound s → (xs : List Step) →
    accepted is_move s xs + potential (after_run s xs) ≤ potential s + 13 * accepted issues_trip s xs + 7 * accepted issues_reconcile s xs
unfolding accepted after_run
run_left s h [] = omega arith
run_left s h (x ∷ xs) = rw (stepped-sound s h x) (omega (arith, step_left s h x, run_left (step_of s x).system (kept s h x) xs))

-- without issues, at most 656 steps are accepted
pub most_moves : (s : System) → Sound s → (xs : List Step) → T (each is_move xs) → accepted is_move s xs ≤ 656
most_moves s h xs t =
    omega (
      arith,
      run_left s h xs,
      potential_most s h,
      none-issued (λ n. ltb (kind_of n) reconcile) s xs t,
      none-issued (λ n. eqb (kind_of n) reconcile) s xs t,
    )

pub run_bound : (z : Sizes) → T (may_be_fresh z) → (xs : List Step) →
    accepted is_move (blank z) xs ≤ 13 * accepted issues_trip (blank z) xs + 7 * accepted issues_reconcile (blank z) xs
run_bound z t xs = omega (arith, run_left (blank z) (fresh_sound z t) xs, fresh-none z)
