-- What a site holds beside its queues, after its stall queue, its entries or a set of its cache changed.
use mathlib.Core.Path.{◌≡◌, sym, subst}
use mathlib.Core.List.{List}
use mathlib.Core.Bool.{Bool, true, false, not, ◌&&◌}
use Prim.Native.Nat.{ℕ, ◌+◌, ◌-◌, ◌≤◌, ◌<◌}
use native.Mathlib.Omega.{arith}
use lib.Dec.{T, eqb, eqb→eq, not_T, T_not}
use lib.ListN.{length, get_or, set, length-set}
use Rattle.lists.specs.Places.{fits, array, each_of, none_of, removed}
use Rattle.lists.proofs.Tests.{and_l, and_r, both, eqb_sym, not_eqb_sym}
use Rattle.lists.proofs.Places.{array-length, array-fits, array-most, array_push, array_pull, array_set, fits_any, fits_zip, fits_push, fits_pull, fits_set, set_turn}
use Rattle.lists.proofs.Unlike.{unlike_push, unlike_pull, unlike_set}
use Rattle.lists.proofs.Below.{below_at, below_set}
use Rattle.model.specs.declared.Sizes.{Sizes}
use Rattle.model.specs.declared.Entry.{Entry}
use Rattle.model.specs.declared.Waiting.{Waiting}
use Rattle.model.specs.declared.CacheSet.{CacheSet}
use Rattle.model.specs.Kinds.{voluntary}
use Rattle.model.specs.Fresh.{no_entry, no_waiting}
use Rattle.model.specs.Parts.{past_set}
use Rattle.model.specs.Sets.{words_fit, set_fits, set_number, has, cached}
use Rattle.model.specs.Sound.{free_entry, free_waiting, waiting_fits, entry_fits, cache_fits, waits_under, pends_under, same_line, same_tag, same_pend_tag}
use Rattle.model.specs.Take.{voluntary_entry}
use Rattle.promises.proofs.Sound.{Own}

pub free-entry : T (free_entry no_entry)
unfolding free_entry words_fit array fits
free-entry = tt

pub free-waiting : T (free_waiting no_waiting)
unfolding free_waiting
free-waiting = tt

module _ (z : Sizes) (c : List CacheSet) (n : ℕ) (es : List Entry) (k : ℕ) (ws : List Waiting) (o : Own z c n es k ws) where
  es_length : length es ≡ 5
  es_length = array-length 5 (entry_fits z) free_entry n es o.entries

  es_most : n ≤ length es
  es_most = array-most 5 (entry_fits z) free_entry n es o.entries

  ws_length : length ws ≡ 8
  ws_length = array-length 8 (waiting_fits z) free_waiting k ws o.waiting

  ws_most : k ≤ length ws
  ws_most = array-most 8 (waiting_fits z) free_waiting k ws o.waiting

  -- every entry passes what passes any
  pub any_entry : (f : Entry → Bool) → ((e : Entry) → T (f e)) → T (each_of f n es)
  any_entry f h = fits_any (entry_fits z) f free_entry (λ e t. h e) n es (array-fits 5 (entry_fits z) free_entry n es o.entries)

  -- THE STALL QUEUE

  pub stall_push : (w : Waiting) → k < z.stall → z.stall ≤ 8 → T (waiting_fits z w) → T (none_of (waits_under w.tag) k ws) → T (none_of (pends_under w.tag) n es) →
      Own z c n es (k + 1) (set ws k w)
  stall_push w h m t u v = record {
    cache = o.cache;
    n_most = o.n_most;
    entries = o.entries;
    k_most = omega arith;
    waiting = array_push 8 (waiting_fits z) free_waiting k ws o.waiting w (omega arith) t;
    absent = o.absent;
    lines = o.lines;
    w_tags = unlike_push same_tag k ws w o.w_tags (omega (arith, ws_length)) u;
    e_tags = o.e_tags;
    apart = fits_push (λ (y : Waiting). none_of (pends_under y.tag) n es) (λ (y : Waiting). true) k ws w o.apart (omega (arith, ws_length)) v;
  }

  pub stall_pull : 0 < k → Own z c n es (k - 1) (removed no_waiting 0 ws)
  stall_pull h = record {
    cache = o.cache;
    n_most = o.n_most;
    entries = o.entries;
    k_most = omega (arith, o.k_most);
    waiting = array_pull 8 (waiting_fits z) free_waiting k ws o.waiting no_waiting 0 h free-waiting;
    absent = o.absent;
    lines = o.lines;
    w_tags = unlike_pull same_tag k 0 ws no_waiting o.w_tags h ws_most;
    e_tags = o.e_tags;
    apart = fits_pull (λ (y : Waiting). none_of (pends_under y.tag) n es) (λ (y : Waiting). true) k 0 ws no_waiting o.apart h tt;
  }

  -- THE ENTRIES

  tags_apart : (e : Entry) (x : Entry) → T (not (pends_under e.tag x)) → T (not (same_pend_tag x e))
  tags_apart e x t = not_T (same_pend_tag x e) λ u.
      T_not (pends_under e.tag x) t
      (both (not (eqb x.kind voluntary)) _ (and_l (not (eqb x.kind voluntary)) _ u)
      (eqb_sym e.tag x.tag (and_r (not (eqb e.kind voluntary)) _ (and_r (not (eqb x.kind voluntary)) _ u))))

  pub pend_push : (e : Entry) → n < z.pend → z.pend ≤ 5 → T (entry_fits z e) → T (not (cached z c e.line)) → T (none_of (λ (x : Entry). eqb x.line e.line) n es) →
      T (none_of (pends_under e.tag) n es) → T (none_of (waits_under e.tag) k ws) → Own z c (n + 1) (set es n e) k ws
  pend_push e h m t a u v q = record {
    cache = o.cache;
    n_most = omega arith;
    entries = array_push 5 (entry_fits z) free_entry n es o.entries e (omega arith) t;
    k_most = o.k_most;
    waiting = o.waiting;
    absent = fits_push (λ (x : Entry). not (cached z c x.line)) (λ (x : Entry). true) n es e o.absent (omega (arith, es_length)) a;
    lines = unlike_push same_line n es e o.lines (omega (arith, es_length)) u;
    w_tags = o.w_tags;
    e_tags = unlike_push same_pend_tag n es e o.e_tags (omega (arith, es_length))
        (fits_any (λ (x : Entry). not (pends_under e.tag x)) (λ (x : Entry). not (same_pend_tag x e)) (λ (x : Entry). true) (tags_apart e) n es v);
    apart = fits_zip (λ (y : Waiting). none_of (pends_under y.tag) n es) (λ (y : Waiting). not (eqb y.tag e.tag))
        (λ (y : Waiting). none_of (pends_under y.tag) (n + 1) (set es n e)) (λ (y : Waiting). true) (λ (y : Waiting). true)
        (λ y a b. fits_push (λ (x : Entry). not (pends_under y.tag x)) (λ (x : Entry). true) n es e a (omega (arith, es_length))
        (not_T (pends_under y.tag e) (λ d. T_not (eqb y.tag e.tag) b (eqb_sym e.tag y.tag (and_r (not (eqb e.kind voluntary)) _ d)))))
        k ws o.apart q;
  }

  pub pend_pull : (p : ℕ) → p < n → Own z c (n - 1) (removed no_entry p es) k ws
  pend_pull p h = record {
    cache = o.cache;
    n_most = omega (arith, o.n_most);
    entries = array_pull 5 (entry_fits z) free_entry n es o.entries no_entry p h free-entry;
    k_most = o.k_most;
    waiting = o.waiting;
    absent = fits_pull (λ (x : Entry). not (cached z c x.line)) (λ (x : Entry). true) n p es no_entry o.absent h tt;
    lines = unlike_pull same_line n p es no_entry o.lines h es_most;
    w_tags = o.w_tags;
    e_tags = unlike_pull same_pend_tag n p es no_entry o.e_tags h es_most;
    apart = fits_any (λ (y : Waiting). none_of (pends_under y.tag) n es) (λ (y : Waiting). none_of (pends_under y.tag) (n - 1) (removed no_entry p es)) (λ (y : Waiting). true)
        (λ y a. fits_pull (λ (x : Entry). not (pends_under y.tag x)) (λ (x : Entry). true) n p es no_entry a h tt) k ws o.apart;
  }

  -- a voluntary entry in the place of another
  pub pend_swap : (p L : ℕ) → p < n → T (entry_fits z (voluntary_entry L)) → T (not (cached z c L)) → T (none_of (λ (x : Entry). eqb x.line L) n es) →
      Own z c n (set es p (voluntary_entry L)) k ws
  pend_swap p L h t a u = record {
    cache = o.cache;
    n_most = o.n_most;
    entries = array_set 5 (entry_fits z) free_entry n es o.entries p (voluntary_entry L) h t;
    k_most = o.k_most;
    waiting = o.waiting;
    absent = fits_set (λ (x : Entry). not (cached z c x.line)) (λ (x : Entry). true) n p es (voluntary_entry L) o.absent h a;
    lines = unlike_set same_line n p es (voluntary_entry L) o.lines h
        (fits_any (λ (x : Entry). not (eqb x.line L)) (λ (x : Entry). not (eqb L x.line)) (λ (x : Entry). true) (λ x a. not_eqb_sym x.line L a) n es u) u;
    w_tags = o.w_tags;
    e_tags = unlike_set same_pend_tag n p es (voluntary_entry L) o.e_tags h (any_entry (λ (x : Entry). true) (λ x. tt))
        (any_entry (λ (x : Entry). not (same_pend_tag x (voluntary_entry L))) (λ x. no-tag (not (eqb x.kind voluntary))));
    apart = fits_any (λ (y : Waiting). none_of (pends_under y.tag) n es) (λ (y : Waiting). none_of (pends_under y.tag) n (set es p (voluntary_entry L))) (λ (y : Waiting). true)
        (λ y a. fits_set (λ (x : Entry). not (pends_under y.tag x)) (λ (x : Entry). true) n p es (voluntary_entry L) a h tt) k ws o.apart;
  }
    where
      no-tag : (b : Bool) → T (not (b && false))
      no-tag true = tt
      no-tag false = tt

  -- THE CACHE

  pub cache-length : length c ≡ 8
  unfolding cache_fits
  cache-length = eqb→eq (length c) 8 (and_l (eqb (length c) 8) _ o.cache)

  pub set_at : (j : ℕ) → j < 8 → T (set_fits z j (get_or c j past_set))
  unfolding cache_fits
  set_at j h = below_at 8 (λ j. set_fits z j (get_or c j past_set)) (and_r (eqb (length c) 8) _ o.cache) j h

  -- no entry is for a line that is cached
  pub cached-free : (L : ℕ) → T (cached z c L) → T (none_of (λ (x : Entry). eqb x.line L) n es)
  cached-free L t =
      fits_any (λ (x : Entry). not (cached z c x.line)) (λ (x : Entry). not (eqb x.line L)) (λ (x : Entry). true)
      (λ x a. not_T (eqb x.line L) (λ u. T_not (cached z c x.line) a (subst (λ (y : ℕ). T (cached z c y)) (sym (eqb→eq x.line L u)) t))) n es o.absent

  -- set j anew: a line that was not in it, and is an entry's, is not in it
  pub cache_put : (j : ℕ) (t : CacheSet) (f : Entry → Bool) → j < 8 → T (set_fits z j t) →
      ((x : Entry) → T (not (has (get_or c j past_set) x.line)) → T (f x) → T (not (has t x.line))) → T (each_of f n es) → Own z (set c j t) n es k ws
  unfolding cache_fits
  cache_put j t f l s g u = record {
    cache =
        both (eqb (length (set c j t)) 8) _ (rw length-set (and_l (eqb (length c) 8) _ o.cache))
        (below_set 8 (set_fits z) c j t past_set (omega (arith, l, cache-length)) (and_r (eqb (length c) 8) _ o.cache) s);
    n_most = o.n_most;
    entries = o.entries;
    k_most = o.k_most;
    waiting = o.waiting;
    absent = fits_zip (λ (x : Entry). not (cached z c x.line)) f (λ (x : Entry). not (cached z (set c j t) x.line)) (λ (x : Entry). true) (λ (x : Entry). true)
        (λ x a b. set_turn (λ (y : CacheSet). not (has y x.line)) c j (set_number z x.line) t past_set a (λ v. g x v b)) n es o.absent u;
    lines = o.lines;
    w_tags = o.w_tags;
    e_tags = o.e_tags;
    apart = o.apart;
  }
