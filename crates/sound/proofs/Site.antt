-- The tests of what a site holds beside its queues, made of the entries and the instructions in use.
use mathlib.Core.Path.{◌≡◌, refl, sym, ◌∙◌}
use mathlib.Core.List.{List}
use mathlib.Core.Bool.{Bool, true, false, not, ◌&&◌}
use Prim.Native.Nat.{ℕ, ◌≤◌}
use lib.Dec.{T, leb}
use lib.ListN.{length, take}
use Rattle.lists.specs.Places.{none_of}
use Rattle.lists.proofs.Tests.{and_l, and_r}
use Rattle.lists.proofs.Each.{each_same}
use Rattle.lists.proofs.Places.{array-most}
use Rattle.model.specs.declared.Sizes.{Sizes}
use Rattle.model.specs.declared.CacheSet.{CacheSet}
use Rattle.model.specs.declared.Entry.{Entry}
use Rattle.model.specs.declared.Waiting.{Waiting}
use Rattle.model.specs.Sets.{cached}
use Rattle.model.specs.Sound.{free_entry, free_waiting, entry_fits, waiting_fits, same_line, same_tag, same_pend_tag, pends_under, pends_fit, stalls_fit, cache_fits, cached_apart, lines_differ, tags_differ, own_fits}
use Rattle.sound.proofs.InUse.{each_part, unlike_part}

-- a test after one that the counts fit
after : (b x y : Bool) → (T b → x ≡ y) → (b && x) ≡ (b && y)
after true x y h = h tt
after false x y h = refl

-- three tests after another one
chain : (b a l d : Bool) → (b && a && l && d) ≡ (b && (a && l && d))
chain true a l d = refl
chain false a l d = refl

-- counts that fit are no more than the places
pends-most : (z : Sizes) (n : ℕ) (es : List Entry) → T (pends_fit z n es) → n ≤ length es
unfolding pends_fit
pends-most z n es t = array-most 5 (entry_fits z) free_entry n es (and_r (leb n z.pend) _ t)

stalls-most : (z : Sizes) (k : ℕ) (ws : List Waiting) → T (stalls_fit z k ws) → k ≤ length ws
unfolding stalls_fit
stalls-most z k ws t = array-most 8 (waiting_fits z) free_waiting k ws (and_r (leb k z.stall) _ t)

module _ (z : Sizes) (c : List CacheSet) (n : ℕ) (es : List Entry) (k : ℕ) (ws : List Waiting) where
  -- what must differ among the first places
  abbrev differ : ℕ → List Entry → ℕ → List Waiting → Bool
  differ m xs j ys = cached_apart z c m xs && lines_differ m xs && tags_differ m xs j ys

  -- the places in use alone tell it
  differ_part : n ≤ length es → k ≤ length ws → differ (length (take n es)) (take n es) (length (take k ws)) (take k ws) ≡ differ n es k ws
  unfolding cached_apart tags_differ
  differ_part h l =
      rw (
        each_part (λ (e : Entry). not (cached z c e.line)) n es h,
        unlike_part same_line n es h,
        unlike_part same_tag k ws l,
        unlike_part same_pend_tag n es h,
        each_part (λ (w : Waiting). none_of (pends_under w.tag) (length (take n es)) (take n es)) k ws l,
        each_same (λ (w : Waiting). none_of (pends_under w.tag) (length (take n es)) (take n es)) (λ (w : Waiting). none_of (pends_under w.tag) n es)
            (λ w. each_part (λ (e : Entry). not (pends_under w.tag e)) n es h) k ws,
      )

  -- the tests in the order in which they are made
  pub own_tests : own_fits z c n es k ws ≡
      (cache_fits z c && pends_fit z n es && stalls_fit z k ws && differ (length (take n es)) (take n es) (length (take k ws)) (take k ws))
  unfolding own_fits
  own_tests =
      let b = cache_fits z c && pends_fit z n es && stalls_fit z k ws in
      chain b _ _ _ ∙
      sym (after b _ (differ n es k ws) (λ t. differ_part
      (pends-most z n es (and_r (cache_fits z c) _ (and_l (cache_fits z c && pends_fit z n es) _ t)))
      (stalls-most z k ws (and_r (cache_fits z c && pends_fit z n es) _ t))))
