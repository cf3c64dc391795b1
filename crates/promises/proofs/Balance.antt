-- Parts 9j and 9k in the form of counts: of each site, whatever one asks of
-- lines and trips, as many messages under way as pend entries pass.
use mathlib.Core.Path.{◌≡◌, refl, ap, sym, ◌∙◌, subst}
use mathlib.Core.Logic.{◌↔◌}
use mathlib.Core.List.{List, [], ◌∷◌, ◌++◌}
use mathlib.Core.Bool.{Bool, true, false, not, ◌&&◌, ◌||◌, cond}
use Prim.Native.Nat.{ℕ, zero, suc, ◌+◌, ◌≤◌, ◌<◌}
use native.Mathlib.Nat.{not-suc-le-zero}
use native.Mathlib.Omega.{arith}
use lib.Dec.{T, ltb, eqb, eqb→eq, eqb_refl, ltb→lt, not_T, T_not}
use lib.ListN.{length, get_or, take}
use Rattle.lists.specs.Places.{ind, weigh, tally, none_of, unlike, sum_below, count, each, some, all_of}
use Rattle.lists.proofs.Tests.{and_l, and_r, both, or_l, or_r, by_test, T_true, eqb_sym, ind_F}
use Rattle.lists.proofs.Places.{weigh-none, weigh_zero, weigh_both, weigh_alike}
use Rattle.lists.proofs.Unlike.{unlike-once}
use Rattle.lists.proofs.Below.{below_at, below_all, sum_same}
use Rattle.lists.proofs.Counts.{count-append, count-all_of, count-take, some-count, count-some, some-map, take-each, each_map, each_by, each-counted}
use Rattle.model.specs.declared.Message.{Message}
use Rattle.model.specs.declared.Entry.{Entry}
use Rattle.model.specs.declared.System.{System}
use Rattle.model.specs.Parts.{Site, site_at, past_entry}
use Rattle.model.specs.Sound.{trip_of, trip_for, waits_for, is_for, same_line, site_messages, under_way, entries_at, exactly_one, no_others, messages_fit}

-- MESSAGES UNDER WAY, COUNTED

-- how many messages of a site's two queues pass a test
unfoldable pub in_site : (Message → Bool) → Site → ℕ
in_site f x = tally f x.outgoing.count x.outgoing.items + tally f x.incoming.count x.incoming.items

-- how many messages under way pass a test
unfoldable pub total : (Message → Bool) → System → ℕ
total f s =
    sum_below 4 (λ i. in_site f (site_at s i)) + tally f s.up.count s.up.items + tally f s.arrived.count s.arrived.items +
    tally f s.served.count s.served.items + tally f s.down.count s.down.items

pub count_total : (f : Message → Bool) (s : System) → count f (under_way s) ≡ total f s
unfolding under_way total in_site
count_total f s =
    let u = take s.up.count s.up.items in
    let a = take s.arrived.count s.arrived.items in
    let v = take s.served.count s.served.items in
    let d = take s.down.count s.down.items in
    omega (
      arith,
      count-append f (all_of 4 (λ i. site_messages (site_at s i))) (u ++ (a ++ (v ++ d))),
      count-append f u (a ++ (v ++ d)),
      count-append f a (v ++ d),
      count-append f v d,
      count-take f s.up.count s.up.items,
      count-take f s.arrived.count s.arrived.items,
      count-take f s.served.count s.served.items,
      count-take f s.down.count s.down.items,
      count-all_of f 4 (λ i. site_messages (site_at s i)),
      sum_same 4 (λ i. in_site f (site_at s i)) (λ i. count f (site_messages (site_at s i))) (λ i l. of_site_lem (site_at s i)),
    )
  where
    of_site_lem : (x : Site) → count f (site_messages x) ≡ in_site f x
    of_site_lem x =
        omega (
          arith,
          count-append f (take x.outgoing.count x.outgoing.items) (take x.incoming.count x.incoming.items),
          count-take f x.outgoing.count x.outgoing.items,
          count-take f x.incoming.count x.incoming.items,
        )

-- THE COUNT FORM

-- a message of site i, whose line and trip pass f
abbrev pub is_at : ℕ → (ℕ → ℕ → Bool) → Message → Bool
is_at i f m = eqb m.site i && f m.line (trip_of m.kind)

-- an entry whose line and trip pass f
abbrev pub asks_at : (ℕ → ℕ → Bool) → Entry → Bool
asks_at f e = f e.line (trip_for e.kind)

-- a message on the trip that an entry asks for is counted as the entry is
pub as_asked : (i : ℕ) (m : Message) (e : Entry) → m.site ≡ i → m.line ≡ e.line → trip_of m.kind ≡ trip_for e.kind → (f : ℕ → ℕ → Bool) →
    ind (is_at i f m) ≡ ind (asks_at f e)
as_asked i m e s l t f = rw (s, l, t, T_true (eqb i i) (eqb_refl i))

abbrev pub Balance : System → Type 0
Balance s = (i : ℕ) → i < s.sizes.sites → (f : ℕ → ℕ → Bool) → total (is_at i f) s ≡ tally (asks_at f) (site_at s i).pends (site_at s i).entries

-- FROM THE DOCUMENT'S WORDS TO THE COUNT FORM

module _ (i : ℕ) (f : ℕ → ℕ → Bool) where
  -- the entry passes f and the message is its
  abbrev mine : Message → Entry → Bool
  mine m e = asks_at f e && is_for i e m

  same_test : (e : Entry) (m : Message) → T (is_for i e m) → asks_at f e ≡ is_at i f m
  same_test e m t =
      let a : m.site ≡ i = eqb→eq m.site i (and_l (eqb m.site i) _ t) in
      let u : T (waits_for e m.line (trip_of m.kind)) = and_r (eqb m.site i) _ t in
      let b : m.line ≡ e.line = eqb→eq m.line e.line (and_l (eqb m.line e.line) _ u) in
      let c : trip_of m.kind ≡ trip_for e.kind = eqb→eq (trip_of m.kind) (trip_for e.kind) (and_r (eqb m.line e.line) _ u) in
      ap (λ (L : ℕ). f L (trip_for e.kind)) (sym b) ∙ ap (λ (k : ℕ). f m.line k) (sym c) ∙
      sym (ap (λ (q : Bool). q && f m.line (trip_of m.kind)) (T_true (eqb m.site i) (and_l (eqb m.site i) _ t)))

  off : (a b : Bool) → T (not b) → ind (a && b) ≡ 0
  off true b t = ind_F b t
  off false b t = refl

  on : (a b : Bool) → T b → ind (a && b) ≡ ind a
  on true true t = refl
  on false b t = refl
  on true false t = absurd t

  -- a message that some entry waits for: one does, and it passes f where the message does
  one_mine : (m : Message) (n : ℕ) (es : List Entry) → T (unlike same_line n es) → 0 < tally (λ e. is_for i e m) n es → tally (mine m) n es ≡ ind (is_at i f m)
  unfolding unlike weigh
  one_mine m zero es t h = absurd (not-suc-le-zero h)
  one_mine m (suc n) [] t h = absurd (not-suc-le-zero h)
  one_mine m (suc n) (e ∷ es) t h =
      by_test (is_for i e m)
      (λ u. omega (arith, on (asks_at f e) (is_for i e m) u, ap ind (same_test e m u), rest u))
      (λ u. omega (arith, off (asks_at f e) (is_for i e m) u, one_mine m n es (and_r (none_of (same_line e) n es) _ t) (omega (arith, h, ind_F (is_for i e m) u))))
    where
      rest : T (is_for i e m) → tally (mine m) n es ≡ 0
      rest u =
          weigh-none (λ (y : Entry). not (same_line e y)) (λ (y : Entry). true) (λ (y : Entry). ind (mine m y))
          (λ y v. off (asks_at f y) (is_for i y m) (not_T (is_for i y m) (λ w. T_not (same_line e y) v (lines y u w)))) n es (and_l (none_of (same_line e) n es) _ t)
        where
          lines : (y : Entry) → T (is_for i e m) → T (is_for i y m) → T (same_line e y)
          lines y u w =
              let a : m.line ≡ e.line = eqb→eq m.line e.line (and_l (eqb m.line e.line) _ (and_r (eqb m.site i) _ u)) in
              subst (λ (k : ℕ). T (eqb k y.line)) a (and_l (eqb m.line y.line) _ (and_r (eqb m.site i) _ w))

  -- a message of another site
  none_mine : (m : Message) (n : ℕ) (es : List Entry) → T (not (eqb m.site i)) → tally (mine m) n es ≡ ind (is_at i f m)
  none_mine m n es t =
      weigh_zero (λ (y : Entry). ind (mine m y)) (λ y. off (asks_at f y) (is_for i y m) (no (waits_for y m.line (trip_of m.kind)))) n es ∙
      sym (ind_F (is_at i f m) (no (f m.line (trip_of m.kind))))
    where
      no : (b : Bool) → T (not (eqb m.site i && b))
      no b = not_T (eqb m.site i && b) (λ u. T_not (eqb m.site i) t (and_l (eqb m.site i) _ u))

  -- place by place: of an entry that passes f, its messages
  abbrev shares : List Message → Entry → ℕ
  shares ms e = cond (asks_at f e) (count (is_for i e) ms) 0

  split : (m : Message) (ms : List Message) (e : Entry) → shares (m ∷ ms) e ≡ ind (mine m e) + shares ms e
  unfolding count
  split m ms e = go (asks_at f e)
    where
      go : (b : Bool) → cond b (ind (is_for i e m) + count (is_for i e) ms) 0 ≡ ind (b && is_for i e m) + cond b (count (is_for i e) ms) 0
      go true = refl
      go false = refl

  none_shared : (e : Entry) → shares [] e ≡ 0
  unfolding count
  none_shared e = go (asks_at f e)
    where
      go : (b : Bool) → ◌≡◌ {A = ℕ} (cond b 0 0) 0
      go true = refl
      go false = refl

  -- a message that is of another site, or that some entry waits for
  abbrev placed : ℕ → List Entry → Message → Bool
  placed n es m = not (eqb m.site i) || some (λ (e : Entry). is_for i e m) (take n es)

  shared : (n : ℕ) (es : List Entry) → T (unlike same_line n es) → (ms : List Message) → T (each (placed n es) ms) → count (is_at i f) ms ≡ weigh (shares ms) n es
  unfolding count each
  shared n es d [] t = sym (weigh_zero (shares []) none_shared n es)
  shared n es d (m ∷ ms) t =
      omega (
        arith,
        weigh_both (shares (m ∷ ms)) (λ (e : Entry). ind (mine m e)) (shares ms) (split m ms) n es,
        shared n es d ms (and_r (placed n es m) _ t),
        by_test (eqb m.site i)
            (λ u. one_mine m n es d (counted (here (eqb m.site i) (some (λ (e : Entry). is_for i e m) (take n es)) u (and_l (placed n es m) _ t))))
            (λ u. none_mine m n es u),
      )
    where
      here : (a b : Bool) → T a → T (not a || b) → T b
      here true b t u = u
      here false b t u = absurd t

      counted : T (some (λ (e : Entry). is_for i e m) (take n es)) → 0 < tally (λ e. is_for i e m) n es
      counted u = omega (arith, count-some (λ (e : Entry). is_for i e m) (take n es) u, count-take (λ (e : Entry). is_for i e m) n es)

  pub counted_form : (n : ℕ) (es : List Entry) (ms : List Message) → n ≤ length es → T (unlike same_line n es) →
      T (each (λ e. eqb (count (is_for i e) ms) 1) (take n es)) → T (each (placed n es) ms) → count (is_at i f) ms ≡ tally (asks_at f) n es
  counted_form n es ms l d one t =
      shared n es d ms t ∙
      weigh_alike (λ e. eqb (count (is_for i e) ms) 1) (λ e. true) (shares ms) (λ (e : Entry). ind (asks_at f e)) ones n es
      (take-each (λ e. eqb (count (is_for i e) ms) 1) n es l one)
    where
      ones : (e : Entry) → T (eqb (count (is_for i e) ms) 1) → shares ms e ≡ ind (asks_at f e)
      ones e u = go (asks_at f e) (eqb→eq (count (is_for i e) ms) 1 u)
        where
          go : (b : Bool) → count (is_for i e) ms ≡ 1 → cond b (count (is_for i e) ms) 0 ≡ ind b
          go true q = q
          go false q = refl

module _ (s : System) (most : (i : ℕ) → i < s.sizes.sites → (site_at s i).pends ≤ length (site_at s i).entries)
    (differ : (i : ℕ) → i < s.sizes.sites → T (unlike same_line (site_at s i).pends (site_at s i).entries)) where
  pub balance_open : T (messages_fit s (under_way s)) → Balance s
  unfolding messages_fit exactly_one no_others
  balance_open t i l f =
      sym (count_total (is_at i f) s) ∙
      counted_form i f (site_at s i).pends (site_at s i).entries (under_way s) (most i l) (differ i l)
      (below_at s.sizes.sites (λ i. each (λ e. eqb (count (is_for i e) (under_way s)) 1) (entries_at s i)) (and_l (exactly_one s (under_way s)) _ t) i l)
      (each_placed i (under_way s) (and_r (exactly_one s (under_way s)) _ t))
    where
      each_placed : (i : ℕ) (ms : List Message) → T (no_others s ms) → T (each (λ m. not (eqb m.site i) || some (λ (e : Entry). is_for i e m) (entries_at s i)) ms)
      each_placed i ms t =
          each_map (λ m. some (λ e. is_for m.site e m) (entries_at s m.site))
          (λ m. not (eqb m.site i) || some (λ (e : Entry). is_for i e m) (entries_at s i)) of_entry ms t
        where
          of_entry : (m : Message) → T (some (λ e. is_for m.site e m) (entries_at s m.site)) → T (not (eqb m.site i) || some (λ (e : Entry). is_for i e m) (entries_at s i))
          of_entry m u =
              by_test (eqb m.site i)
              (λ v. or_r (not (eqb m.site i)) _ (subst (λ (k : ℕ). T (some (λ (e : Entry). is_for k e m) (entries_at s k))) (eqb→eq m.site i v) u))
              (λ v. or_l (not (eqb m.site i)) _ v)

  -- FROM THE COUNT FORM TO THE DOCUMENT'S WORDS

  pub balance_close : T (each (λ m. ltb m.site s.sizes.sites) (under_way s)) → Balance s → T (messages_fit s (under_way s))
  unfolding messages_fit exactly_one no_others
  balance_close sited b = both (exactly_one s (under_way s)) _ one others
    where
      one : T (exactly_one s (under_way s))
      one =
          below_all s.sizes.sites (λ i. each (λ e. eqb (count (is_for i e) (under_way s)) 1) (entries_at s i))
          (λ i l. each_by (λ e. eqb (count (is_for i e) (under_way s)) 1) (site_at s i).pends (site_at s i).entries past_entry (most i l) (once i l))
        where
          once : (i : ℕ) (l : i < s.sizes.sites) (p : ℕ) → p < (site_at s i).pends → T (eqb (count (is_for i (get_or (site_at s i).entries p past_entry)) (under_way s)) 1)
          once i l p h =
              let e : Entry = get_or (site_at s i).entries p past_entry in
              rw (
              count_total (is_for i e) s ∙ b i l (waits_for e) ∙
              unlike-once same_line (asks_at (waits_for e)) (site_at s i).pends p (site_at s i).entries past_entry (differ i l) h (most i l)
              (both (eqb e.line e.line) _ (eqb_refl e.line) (eqb_refl (trip_for e.kind)))
              (λ x u. and_l (eqb x.line e.line) _ u) (λ x u. eqb_sym x.line e.line (and_l (eqb x.line e.line) _ u))
              ) tt

      others : T (each (λ m. some (λ e. is_for m.site e m) (entries_at s m.site)) (under_way s))
      others =
          each-counted (λ m. ltb m.site s.sizes.sites) (λ m. some (λ e. is_for m.site e m) (entries_at s m.site)) (under_way s) wanted (under_way s) sited
          (λ g. omega arith)
        where
          wanted : (m : Message) → T (ltb m.site s.sizes.sites) → ((g : Message → Bool) → T (g m) → 0 < count g (under_way s)) →
              T (some (λ e. is_for m.site e m) (entries_at s m.site))
          wanted m t c =
              let i = m.site in
              let f : ℕ → ℕ → Bool = λ L k. eqb m.line L && eqb (trip_of m.kind) k in
              some-map (asks_at f) (λ (e : Entry). is_for i e m) (λ e u. both (eqb i i) _ (eqb_refl i) u) (entries_at s i)
              (some-count (asks_at f) (entries_at s i)
              (omega (
                arith,
                c (is_at i f) (both (eqb i i) _ (eqb_refl i) (both (eqb m.line m.line) _ (eqb_refl m.line) (eqb_refl (trip_of m.kind)))),
                count_total (is_at i f) s,
                b i (ltb→lt i s.sizes.sites t) f,
                count-take (asks_at f) (site_at s i).pends (site_at s i).entries,
              )))

  -- the two say the same
  pub count_form : T (each (λ m. ltb m.site s.sizes.sites) (under_way s)) → T (messages_fit s (under_way s)) ↔ Balance s
  count_form sited = (balance_open, balance_close sited)
