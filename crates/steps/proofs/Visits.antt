-- Laws of a visit: the site put back as it was, and what the definitions say by the action decided.
use mathlib.Core.Path.{◌≡◌, refl, ap, sym, subst, ◌∙◌}
use mathlib.Core.Bool.{true, false}
use Prim.Native.Nat.{ℕ, ◌≤◌, ◌<◌}
use native.Mathlib.Omega.{arith}
use borrow.Author.Tests.{lt-ltb, le-ltb}
use lib.Dec.{T, ltb, ltb→lt}
use lib.ListN.{get_or}
use lib.Seq.{set-get_or}
use Rattle.lists.proofs.Tests.{and_l, and_r}
use Rattle.lists.proofs.Places.{array_at}
use Rattle.model.specs.declared.Sizes.{Sizes}
use Rattle.model.specs.declared.Waiting.{Waiting}
use Rattle.model.specs.declared.Place.{Place}
use Rattle.model.specs.declared.Facts.{Facts}
use Rattle.model.specs.declared.Action.{Action}
use Rattle.model.specs.declared.Action.TheVariants.{Load, Store, Acknowledge, Drop, Fetch, WriteBackKept, WriteBackDropped, Wait}
use Rattle.model.specs.declared.Answer.{Answer}
use Rattle.model.specs.declared.System.{System}
use Rattle.model.specs.declared.After.{After}
use Rattle.model.specs.declared.Refusal.TheVariants.{NoSuchSite}
use Rattle.model.specs.Fresh.{refused}
use Rattle.model.specs.Parts.{Site, site_at, put_site, past_entry, past_waiting, past_cache, past_pends, past_stalls, past_site_queue}
use Rattle.model.specs.Sound.{waiting_fits, entry_fits, free_entry, sound}
use Rattle.model.specs.Handling.{Handled, facts_of, missed, on_loadl, on_storel, absent, on_commit, on_reconcile, decided, must_wait}
use Rattle.model.specs.Steps.{unless, handled_at}
use Rattle.promises.proofs.Sound.{Sound, ready_head, pends-most, opened}
use Rattle.promises.proofs.Room.{the_limits, ready, site-room}
use Rattle.promises.proofs.Took.{entry_below}
use Rattle.promises.proofs.Rows.{Row, load_hit, store_hit, fetches, not-cached, commit-clean, reconcile_dirty, drops, writes_kept, writes_dropped, waits_full, waits-pending, row}
use Rattle.steps.specs.declared.here.Here.{Here}
use Rattle.model.specs.Results.{Outcome}
use Rattle.steps.specs.After.{after}
use Rattle.steps.specs.View.{site_of, Held, Does, laid, Visit, at_site, Made, made, made_of, asks, Fit, Fits}
use Rattle.std.specs.Prelude.{Ok}

-- PUT BACK

-- a site put back where it was
put_same : (s : System) (i : ℕ) → put_site s i (site_at s i) ≡ s
put_same s i =
    rw (
      set-get_or s.caches i past_cache,
      set-get_or s.pends i past_pends,
      set-get_or s.stalls i past_stalls,
      set-get_or s.outgoing i past_site_queue,
      set-get_or s.incoming i past_site_queue,
    )

-- the same, of a site in hand
pub back : (s : System) (x : Here) → site_at s x.home.site ≡ site_of x → put_site s x.home.site (site_of x) ≡ s
back s x h = ap (put_site s x.home.site) (sym h) ∙ put_same s x.home.site

-- a site that is as it was leaves the system as it was
pub laid_same : (s : System) (x : Here) → site_at s x.home.site ≡ site_of x → (o : Outcome) → laid s o x ≡ after o s
unfolding laid
laid_same s x h o = ap (λ (t : System). after o t) (back s x h)

-- what was made is done, with the site after it put back
pub laid_done : (s : System) (x y : Here) (o : Answer) (d : Handled) → made o y ≡ made_of x d → laid s (Ok o) y ≡ handled_at s x.home.site d
unfolding laid
laid_done s x y o d e = ap (λ (m : Made). laid s (Ok m.answer) m.here) e

-- BY THE ACTION DECIDED

-- what is decided does not rest on whether the stall queue has room
pub uncrowded : (k : ℕ) (f : Facts) → decided k f ≡ decided k (record f { crowded = false })
unfolding decided on_loadl on_storel on_commit on_reconcile missed absent
uncrowded k f = refl

-- an action that is not Wait
pub waits_not : (d : Action) → (d ≡ Wait → ⊥) → must_wait d ≡ false
waits_not Load k = refl
waits_not Store k = refl
waits_not Acknowledge k = refl
waits_not Drop k = refl
waits_not Fetch k = refl
waits_not WriteBackKept k = refl
waits_not WriteBackDropped k = refl
waits_not Wait k = absurd (k refl)

-- WHAT FITS

module _ (x : Here) (f : Fits x) where
  -- the head of the stall queue
  pub head_word : 0 < x.stalls.count → (get_or x.stalls.waiting 0 past_waiting).word < 4
  unfolding waiting_fits
  head_word l =
      let t = ready_head x.home.sizes x.home.site (site_of x) f.ready l in
      let u = ltb→lt (get_or x.stalls.waiting 0 past_waiting).word x.home.sizes.words (search (and_l, and_r)) in
      omega (arith, u, f.ready.limits.words-most)

  -- an entry in use
  pub entry_word : (p : ℕ) → p < x.pends.count → (get_or x.pends.entries p past_entry).word < 4
  unfolding entry_fits
  entry_word p l =
      let t = array_at 5 (entry_fits x.home.sizes) free_entry x.pends.count x.pends.entries f.ready.own.entries p past_entry l in
      let u = ltb→lt (get_or x.pends.entries p past_entry).word x.home.sizes.words (search (and_l, and_r)) in
      omega (arith, u, f.ready.limits.words-most)

  -- the outgoing queue, where a reply is to be taken
  pub room_to_reply : 0 < x.incoming.count → x.outgoing.count < 5
  room_to_reply l = omega (arith, f.room, pends-most x.home.sizes x.home.site (site_of x) f.ready)

-- ROOM

-- what adds an entry finds the pend entries not full
asks-room : (z : Sizes) (x : Site) (w : Waiting) (p : Place) (a : Action) → Row z x w p a → T (asks a) → x.pends < z.pend
asks-room z x w p a (load_hit e c) t = absurd t
asks-room z x w p a (store_hit e c) t = absurd t
asks-room z x w p a (fetches k c l f) t = l
asks-room z x w p a (not-cached k c f) t = absurd t
asks-room z x w p a (commit-clean k c d) t = absurd t
asks-room z x w p a (reconcile_dirty k c d) t = absurd t
asks-room z x w p a (drops k c d) t = absurd t
asks-room z x w p a (writes_kept k c d l) t = l
asks-room z x w p a (writes_dropped k c d e l) t = l
asks-room z x w p a (waits_full l) t = absurd t
asks-room z x w p a (waits-pending f) t = absurd t

-- what adds an entry has room for it and for its request
pub ask_room : (x : Here) → Fits x → (w : Waiting) (p : Place) (f : Facts) (a : Action) → f ≡ facts_of x.home.sizes (site_of x) w p → a ≡ decided w.kind f → w.kind < 4 → T (asks a) →
    (x.pends.count < 5) × (x.outgoing.count < 5)
ask_room x m w p f a l e k t =
    let q : a ≡ decided w.kind (facts_of x.home.sizes (site_of x) w p) = rw l at e in
    let n : x.pends.count < x.home.sizes.pend =
    asks-room x.home.sizes (site_of x) w p a (subst (Row x.home.sizes (site_of x) w p) (sym q) (row x.home.sizes (site_of x) w p k)) t in
    (omega (arith, m.ready.limits.pend_most), omega (arith, m.ready.limits.pend_most, m.room))

-- A SOUND STATE

-- what soundness means, part by part
pub sound_open : (s : System) → sound s ≡ true → Sound s
sound_open s e = opened s (subst T (sym e) tt)

-- a site of a sound state fits
pub fit : (s : System) → Sound s → (i : ℕ) → i < s.sizes.sites → Fit s.sizes i (site_at s i)
fit s h i l = record { ready = ready s h i l; room = omega (arith, site-room s h i l); entry = λ k. entry_below s h i l k }

-- A SITE TAKEN OUT OF A SOUND STATE AND PUT BACK

-- so does a site taken out of one
pub fits : (s : System) → sound s ≡ true → (i : ℕ) (x : Here) → Held s i x → Fits x
fits s e i x h = rw (h.sizes, h.site, h.parts) (fit s (sound_open s e) i h.within)

-- what a visit to site i does, g, the system has after it
pub visited : (s : System) (i : ℕ) (x y : Here) (o : Outcome) (t : System) (g : Visit) → Held s i x →
    Does x y o (g x.home.site (site_of x)) → t ≡ put_site s y.home.site (site_of y) →
    after o t ≡ at_site g s i
unfolding laid
visited s i x y o t g h d e =
    ap (after o) e ∙ d s (sym h.sizes) (rw (h.site, h.parts)) ∙ ap (λ (q : ℕ). g q (site_of x) s) h.site ∙ ap (λ (q : Site). g i q s) h.parts ∙
    sym (rw (lt-ltb i s.sizes.sites h.within))

-- where there is no site i
pub no_site : (s : System) (i : ℕ) (a : After) → s.sizes.sites ≤ i → unless (ltb i s.sizes.sites) NoSuchSite s a ≡ refused NoSuchSite s
no_site s i a l = rw (le-ltb i s.sizes.sites l)

-- THE SIZES OF A SOUND STATE

module _ (s : System) (e : sound s ≡ true) where
  pub few_sites : s.sizes.sites ≤ 4
  few_sites = (the_limits s (sound_open s e)).sites_most

  pub some_sets : 0 < s.sizes.sets
  some_sets = (the_limits s (sound_open s e)).sets_some

  pub few_sets : s.sizes.sets ≤ 8
  few_sets = (the_limits s (sound_open s e)).sets_most

-- the three of them
pub ruleset sizes = (few_sites, some_sets, few_sets)
