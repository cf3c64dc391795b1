-- What a site makes of an instruction keeps it sound: each row of the rules is a change of one site.
use mathlib.Core.Path.{◌≡◌, refl}
use mathlib.Core.List.{List}
use mathlib.Core.Bool.{Bool, true, not, ◌&&◌, ◌||◌, cond}
use Prim.Native.Nat.{ℕ, ◌+◌, ◌≤◌, ◌<◌}
use native.Mathlib.Nat.{mod-lt}
use native.Mathlib.Omega.{arith}
use lib.Dec.{T, ltb, eqb, ltb→lt, lt→ltb, eqb→eq, eqb_refl}
use lib.ListN.{length, set}
use lib.Seq.{get_or-set_same}
use borrow.Author.Tests.{ne_eqb, lt-ltb, le-ltb}
use Rattle.lists.specs.Places.{ind, fits, array, each_of, none_of}
use Rattle.lists.proofs.Tests.{and_l, and_r, both, or_l, of_ne}
use Rattle.lists.proofs.Places.{array_set, weigh_push}
use Rattle.model.specs.declared.Sizes.{Sizes}
use Rattle.model.specs.declared.Message.{Message}
use Rattle.model.specs.declared.Entry.{Entry}
use Rattle.model.specs.declared.Waiting.{Waiting}
use Rattle.model.specs.declared.Place.{Place}
use Rattle.model.specs.declared.CacheSet.{CacheSet}
use Rattle.model.specs.declared.Action.{Action}
use Rattle.model.specs.Kinds.{storel, commit, voluntary}
use Rattle.model.specs.Fresh.{no_values}
use Rattle.model.specs.Parts.{Site, with_cache, past_set}
use Rattle.model.specs.Sets.{words_fit, marks_fit, holds, set_number, set_fits, has, without, anew, set_of, cached}
use Rattle.model.specs.Sound.{request, message_fits, carries, waiting_fits, entry_fits, waits_under, pends_under, trip_of, trip_for}
use Rattle.model.specs.Handling.{line_free, place_of, put_set, dropped, entry_of, fetch_of, write_back_of, asked, written, performed}
use Rattle.promises.proofs.Balance.{in_site, is_at, asks_at, as_asked}
use Rattle.promises.proofs.Queues.{own_put, own_gains}
use Rattle.promises.proofs.Sound.{Own, Ready, ready_close, pends-room}
use Rattle.promises.proofs.Change.{Change, composed}
use Rattle.promises.proofs.SetLaws.{Full, full_open, full_close, seat-fits, without-fits, without-line, without-others, anew-fits, anew-others}
use Rattle.promises.proofs.Owned.{any_entry, pend_push, cache-length, set_at, cached-free, cache_put}
use Rattle.promises.proofs.Rows.{Row, load_hit, store_hit, fetches, not-cached, commit-clean, reconcile_dirty, drops, writes_kept, writes_dropped, waits_full, waits-pending}

-- WORDS AND MARKS

pub words_set : (n j v : ℕ) (vs : List ℕ) → j < n → T (words_fit n vs) → T (words_fit n (set vs j v))
unfolding words_fit
words_set n j v vs h t = array_set 4 (λ (y : ℕ). true) (λ (y : ℕ). eqb y 0) n vs t j v h tt

pub marks_set : (n j : ℕ) (b : Bool) (ms : List Bool) → j < n → T (marks_fit n ms) → T (marks_fit n (set ms j b))
unfolding marks_fit
marks_set n j b ms h t = array_set 4 (λ (y : Bool). true) not n ms t j b h tt

-- a request of a site
pub request-fits : (z : Sizes) (i : ℕ) (m : Message) → T (ltb m.kind 2) → i < z.sites → m.site ≡ i → T (ltb m.line z.lines) →
    T (carries z m.kind m.values m.dirty) → T (message_fits z request m)
unfolding message_fits
request-fits z i m k l e a b =
    let s : T (ltb m.site z.sites) = rw e (lt→ltb i z.sites l) in
    both (ltb m.kind 2 && ltb m.site z.sites && ltb m.line z.lines) _
    (both (ltb m.kind 2 && ltb m.site z.sites) _ (both (ltb m.kind 2) _ k s) a) b

-- a write-back of a place that fits
pub write_back-fits : (z : Sizes) (i k : ℕ) (p : Place) → i < z.sites → Full z k p → T (message_fits z request (write_back_of i p))
unfolding carries
write_back-fits z i k p l f =
    request-fits z i (write_back_of i p) tt l refl f.line_ok (both (words_fit z.words p.values) _ f.words f.marks)

-- CHANGES OF A SITE

pub unchanged : (z : Sizes) (i : ℕ) (x : Site) → Ready z i x → Change z i x x
unchanged z i x r = record { fits = ready_close z i x r; balance = λ f. refl }

module _ (z : Sizes) (i : ℕ) (x : Site) (r : Ready z i x) where
  pub ready-cache : (c : List CacheSet) → Own z c x.pends x.entries x.stalls x.waiting → Ready z i (with_cache x c)
  ready-cache c o = record { limits = r.limits; sited = r.sited; own = o; out = r.out; inc = r.inc }

  -- the cache anew
  pub recached : (c : List CacheSet) → Own z c x.pends x.entries x.stalls x.waiting → Change z i x (with_cache x c)
  unfolding in_site
  recached c o = record { fits = ready_close z i (with_cache x c) (ready-cache c o); balance = λ f. refl }

  -- an entry and its request
  pub asked_change : (e : Entry) (m : Message) → x.outgoing.count < z.pend → x.pends < z.pend →
      Own z x.cache (x.pends + 1) (set x.entries x.pends e) x.stalls x.waiting → T (message_fits z request m) → m.site ≡ i → m.line ≡ e.line →
      trip_of m.kind ≡ trip_for e.kind → Change z i x (asked x e m)
  unfolding in_site
  asked_change e m l n o t p q c = record {
    fits = ready_close z i (asked x e m) (record {
      limits = r.limits;
      sited = r.sited;
      own = o;
      out = own_put z request i x.outgoing r.out m l r.limits.pend_most (both (message_fits z request m) _ t (rw p (eqb_refl i)));
      inc = r.inc;
    });
    balance = λ f.
        omega (
          arith,
          own_gains z request i x.outgoing r.out (is_at i f) m l r.limits.pend_most,
          weigh_push (λ y. ind (asks_at f y)) x.pends x.entries e (pends-room z i x r n),
          as_asked i m e p q c f,
        );
  }

-- A LINE'S SET

module _ (z : Sizes) (i : ℕ) (x : Site) (r : Ready z i x) (L : ℕ) where
  abbrev j : ℕ
  j = set_number z L

  abbrev t : CacheSet
  t = set_of z x.cache L

  pub j_8 : j < 8
  j_8 = omega (arith, mod-lt L r.limits.sets_some, r.limits.sets_most)

  pub j_most : j < length x.cache
  j_most = omega (arith, j_8, cache-length z x.cache x.pends x.entries x.stalls x.waiting r.own)

  pub set_fits_lem : T (set_fits z j t)
  set_fits_lem = set_at z x.cache x.pends x.entries x.stalls x.waiting r.own j j_8

  -- the set put anew
  pub set_put : (u : CacheSet) (f : Entry → Bool) → T (set_fits z j u) → ((e : Entry) → T (not (has t e.line)) → T (f e) → T (not (has u e.line))) →
      T (each_of f x.pends x.entries) → Own z (set x.cache j u) x.pends x.entries x.stalls x.waiting
  set_put u f s g h = cache_put z x.cache x.pends x.entries x.stalls x.waiting r.own j u f j_8 s g h

  -- the set without line M
  pub emptied : (M : ℕ) → Own z (set x.cache j (without t M)) x.pends x.entries x.stalls x.waiting
  emptied M =
      set_put (without t M) (λ (e : Entry). true) (without-fits z j t set_fits_lem M) (λ e a b. without-others z j t set_fits_lem M e.line a)
      (any_entry z x.cache x.pends x.entries x.stalls x.waiting r.own (λ (e : Entry). true) (λ e. tt))

  pub emptied_line : (M : ℕ) → set_number z M ≡ j → T (not (cached z (set x.cache j (without t M)) M))
  emptied_line M e = rw (e, get_or-set_same x.cache j (without t M) past_set j_most) (without-line z j t set_fits_lem M)

  pub emptied_ready : Ready z i (dropped z x L)
  emptied_ready = ready-cache z i x r _ (emptied L)

  pub emptied_change : Change z i x (dropped z x L)
  emptied_change = recached z i x r _ (emptied L)

-- AN INSTRUCTION

-- an entry made of a waiting instruction
entry-fits : (z : Sizes) (w : Waiting) (vs : List ℕ) → T (waiting_fits z w) → T (words_fit (cond (eqb w.kind commit) z.words 0) vs) → T (entry_fits z (entry_of w vs))
unfolding waiting_fits entry_fits
entry-fits z w vs t u =
    let k : T (ltb w.kind 4) = search (and_l, and_r) in
    let k5 : T (ltb w.kind 5) = lt→ltb w.kind 5 (omega (arith, ltb→lt w.kind 4 k)) in
    let l : T (ltb w.line z.lines) = search (and_l, and_r) in
    let d : T (ltb w.word z.words) = search (and_l, and_r) in
    let v : T (eqb w.kind storel || eqb w.value 0) = search (and_l, and_r) in
    let q : T (not (eqb w.kind voluntary) || eqb w.tag 0 && eqb w.word 0) =
    or_l (not (eqb w.kind voluntary)) _ (of_ne w.kind voluntary (λ e. omega (arith, ltb→lt w.kind 4 k, e))) in
    search both depth 8

module _ (z : Sizes) (i : ℕ) (x : Site) (r : Ready z i x) (w : Waiting) (t : T (waiting_fits z w)) (w_free : T (none_of (waits_under w.tag) x.stalls x.waiting))
    (e_free : T (none_of (pends_under w.tag) x.pends x.entries)) (room : x.pends < z.pend → x.outgoing.count < z.pend) where
  w_line : T (ltb w.line z.lines)
  unfolding waiting_fits
  w_line = search (and_l, and_r)

  w_word : w.word < z.words
  unfolding waiting_fits
  w_word = ltb→lt w.word z.words (search (and_l, and_r))

  abbrev p : Place
  p = place_of z x w.line

  abbrev k : ℕ
  k = set_number z w.line

  abbrev u : CacheSet
  u = set_of z x.cache w.line

  -- an entry and a fetch
  fetching : w.kind < commit → T (not (holds p w.line)) → x.pends < z.pend → T (line_free x w.line) →
      Change z i x (asked x (entry_of w no_values) (fetch_of i w.line))
  unfolding carries words_fit marks_fit array fits
  fetching c a h f =
      asked_change z i x r (entry_of w no_values) (fetch_of i w.line) (room h) h
      (pend_push z x.cache x.pends x.entries x.stalls x.waiting r.own (entry_of w no_values) h r.limits.pend_most
      (entry-fits z w no_values t (rw (ne_eqb w.kind commit (λ e. omega (arith, c, e))) tt)) a f e_free w_free)
      (request-fits z i (fetch_of i w.line) tt r.sited refl w_line tt) refl refl (rw (lt-ltb w.kind 2 c))

  module _ (c : T (holds p w.line)) where
    p_full : Full z k p
    p_full = full_open z k p (and_l p.used _ c) (seat-fits z k u (set_fits_lem z i x r w.line) w.line)

    p_line : p.line ≡ w.line
    p_line = eqb→eq p.line w.line (and_r p.used _ c)

    line-free : T (line_free x w.line)
    line-free = cached-free z x.cache x.pends x.entries x.stalls x.waiting r.own w.line c

    -- the line goes from the cache to an entry, and is written back
    writing : (vs : List ℕ) → T (words_fit (cond (eqb w.kind commit) z.words 0) vs) → commit ≤ w.kind → x.pends < z.pend →
        Change z i x (asked (dropped z x w.line) (entry_of w vs) (write_back_of i p))
    writing vs v q h =
        composed z i x (dropped z x w.line) _ (emptied_change z i x r w.line)
        (asked_change z i (dropped z x w.line) (emptied_ready z i x r w.line) (entry_of w vs) (write_back_of i p) (room h) h
        (pend_push z (dropped z x w.line).cache x.pends x.entries x.stalls x.waiting (emptied_ready z i x r w.line).own (entry_of w vs) h
        r.limits.pend_most (entry-fits z w vs t v) (emptied_line z i x r w.line w.line refl) line-free e_free w_free)
        (write_back-fits z i k p r.sited p_full) refl p_line (rw (le-ltb w.kind 2 q)))

    -- the word set, in its place
    abbrev p' : Place
    p' = written p w.word w.value

    storing : Change z i x (put_set z x w.line (anew u w.line p'))
    storing =
        recached z i x r _
        (set_put z i x r w.line (anew u w.line p') (λ (e : Entry). true)
        (anew-fits z k u (set_fits_lem z i x r w.line) w.line p' (and_l p.used _ c) p_line c
        (full_close z k p' (and_l p.used _ c)
        (record {
          set_ok = p_full.set_ok;
          line_ok = p_full.line_ok;
          home = p_full.home;
          words = words_set z.words w.word w.value p.values w_word p_full.words;
          marks = marks_set z.words w.word true p.dirty w_word p_full.marks;
        })))
        (λ e a b. anew-others z k u (set_fits_lem z i x r w.line) w.line p' (and_l p.used _ c) p_line e.line c a)
        (any_entry z x.cache x.pends x.entries x.stalls x.waiting r.own (λ (e : Entry). true) (λ e. tt)))

  pub performed_change : (a : Action) → Row z x w p a → Change z i x (performed z i x w p a).site
  unfolding performed words_fit array fits
  performed_change a (load_hit q c) = unchanged z i x r
  performed_change a (store_hit q c) = storing c
  performed_change a (fetches q c h f) = fetching q c h f
  performed_change a (not-cached q c f) = unchanged z i x r
  performed_change a (commit-clean q c d) = unchanged z i x r
  performed_change a (reconcile_dirty q c d) = unchanged z i x r
  performed_change a (drops q c d) = emptied_change z i x r w.line
  performed_change a (writes_kept q c d h) = writing c p.values (rw q (p_full c).words) (omega (arith, q)) h
  performed_change a (writes_dropped q c d e h) = writing c no_values (rw q tt) (omega (arith, q)) h
  performed_change a (waits_full h) = unchanged z i x r
  performed_change a (waits-pending h) = unchanged z i x r
