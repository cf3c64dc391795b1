-- The public step of a sound state, and runs of it: sound throughout, with the same sizes.
use mathlib.Core.Path.{◌≡◌, refl, ap, ◌∙◌}
use mathlib.Core.List.{List, [], ◌∷◌}
use Rattle.lists.proofs.Tests.{cond_T}
use Rattle.model.specs.declared.System.{System}
use Rattle.model.specs.declared.After.{After}
use Rattle.model.specs.declared.Step.{Step}
use Rattle.model.specs.declared.Refusal.TheVariants.{NotSound}
use Rattle.model.specs.Fresh.{refused}
use Rattle.model.specs.Sound.{sound}
use Rattle.model.specs.Steps.{after_send, after_arrive_memory, after_serve, after_send_back, after_arrive_site, step_of, stepped}
use Rattle.promises.specs.Runs.{after_run}
use Rattle.promises.proofs.Sound.{Sound, closed}
use Rattle.promises.proofs.Stepping.{Stepping, refusing, fenced, stalling, handling, resuming, sending, arriving, serving, returning, reaching, tooking, stepping}
use Rattle.promises.proofs.Kept.{kept}

pub stepped-sound : (s : System) → Sound s → (x : Step) → stepped s x ≡ step_of s x
unfolding stepped
stepped-sound s h x = cond_T (sound s) (step_of s x) (refused NotSound s) (closed s h)

-- the state after some steps, opened
pub run-kept : (s : System) → Sound s → (xs : List Step) → Sound (after_run s xs)
unfolding after_run
run-kept s h [] = h
run-kept s h (x ∷ xs) = rw (stepped-sound s h x) (run-kept (step_of s x).system (kept s h x) xs)

same_sizes : (s : System) (x : Step) (r : After) → Stepping s x r → r.system.sizes ≡ s.sizes
unfolding after_send after_arrive_memory after_serve after_send_back after_arrive_site
same_sizes s x r (refusing y q) = refl
same_sizes s x r (fenced i u n d k) = refl
same_sizes s x r (stalling i u n d k l w) = refl
same_sizes s x r (handling i u n d k a q b) = refl
same_sizes s x r (resuming i l k a q b) = refl
same_sizes s x r (sending i l k) = refl
same_sizes s x r (arriving p l) = refl
same_sizes s x r (serving l) = refl
same_sizes s x r (returning l) = refl
same_sizes s x r (reaching p l) = refl
same_sizes s x r (tooking i l k) = refl

pub step_sizes : (s : System) → Sound s → (x : Step) → (step_of s x).system.sizes ≡ s.sizes
step_sizes s h x = same_sizes s x (step_of s x) (stepping s h x)

pub run-sizes : (s : System) → Sound s → (xs : List Step) → (after_run s xs).sizes ≡ s.sizes
unfolding after_run
run-sizes s h [] = refl
run-sizes s h (x ∷ xs) =
    ap (λ (r : After). (after_run r.system xs).sizes) (stepped-sound s h x) ∙ run-sizes (step_of s x).system (kept s h x) xs ∙
    step_sizes s h x
