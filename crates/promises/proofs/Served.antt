-- Serve: a request becomes its reply, on the same trip, and memory keeps its shape.
use mathlib.Core.Path.{◌≡◌, refl, ap}
use mathlib.Core.List.{List, [], ◌∷◌}
use mathlib.Core.Bool.{Bool, true, ◌&&◌, cond}
use Prim.Native.Nat.{ℕ, zero, suc, ◌*◌, ◌<◌}
use native.Mathlib.Omega.{arith}
use lib.Dec.{T, eqb, ltb, eqb→eq, ltb→lt}
use lib.ListN.{length}
use Rattle.lists.specs.Places.{ind, fits, array}
use Rattle.lists.proofs.Tests.{and_l, and_r, both, by_cond, ne_of}
use Rattle.lists.proofs.Places.{array_at, array_set}
use Rattle.model.specs.declared.Sizes.{Sizes}
use Rattle.model.specs.declared.Message.{Message}
use Rattle.model.specs.declared.Line.{Line}
use Rattle.model.specs.declared.System.{System}
use Rattle.model.specs.Kinds.{fetch, write_back}
use Rattle.model.specs.Parts.{net_at, past_line}
use Rattle.model.specs.Sets.{words_fit, marks_fit}
use Rattle.model.specs.Sound.{request, reply, carries, message_fits, memory_fits}
use Rattle.model.specs.Serve.{merged, line_at, stored, memory_after, reply_to}
use Rattle.model.specs.Steps.{after_serve}
use Rattle.promises.proofs.Balance.{total, is_at}
use Rattle.promises.proofs.Queues.{net_at_lem, net_put_lem, net_rest_lem, net_gains, net_loses}
use Rattle.promises.proofs.Sound.{Sound}
use Rattle.promises.proofs.Room.{message_count, count_most, net_places}
use Rattle.promises.proofs.Change.{moved_balance}
use Rattle.promises.proofs.Moves.{same_four}

-- THE WORDS STORED

length_merged : (os vs : List ℕ) (ms : List Bool) → length (merged os vs ms) ≡ length os
unfolding merged
length_merged [] vs ms = refl
length_merged (o ∷ os) [] ms = refl
length_merged (o ∷ os) (v ∷ vs) [] = refl
length_merged (o ∷ os) (v ∷ vs) (m ∷ ms) = ap suc (length_merged os vs ms)

merged-fits : (n : ℕ) (os vs : List ℕ) (ms : List Bool) → T (fits (λ v. true) (λ v. eqb v 0) n os) → T (fits (λ v. true) (λ v. eqb v 0) n vs) →
    T (fits (λ v. true) (λ v. eqb v 0) n (merged os vs ms))
unfolding merged fits
merged-fits n [] vs ms p q = p
merged-fits n (o ∷ os) [] ms p q = p
merged-fits n (o ∷ os) (v ∷ vs) [] p q = p
merged-fits zero (o ∷ os) (v ∷ vs) (m ∷ ms) p q =
    both (eqb (cond m v o) 0) _ (by_cond (λ (k : ℕ). T (eqb k 0)) m v o (λ t. and_l (eqb v 0) _ q) (λ t. and_l (eqb o 0) _ p))
    (merged-fits zero os vs ms (and_r (eqb o 0) _ p) (and_r (eqb v 0) _ q))
merged-fits (suc n) (o ∷ os) (v ∷ vs) (m ∷ ms) p q = merged-fits n os vs ms p q

merged-words : (n : ℕ) (os vs : List ℕ) (ms : List Bool) → T (words_fit n os) → T (words_fit n vs) → T (words_fit n (merged os vs ms))
unfolding words_fit array
merged-words n os vs ms p q =
    both (eqb (length (merged os vs ms)) 4) _ (rw length_merged (and_l (eqb (length os) 4) _ p))
    (merged-fits n os vs ms (and_r (eqb (length os) 4) _ p) (and_r (eqb (length vs) 4) _ q))

-- THE MEMORY AND THE REPLY

-- a request that is no fetch is a write-back
other_request : (k : ℕ) → T (ltb k 2) → (k ≡ fetch → ⊥) → k ≡ write_back
other_request zero t h = absurd (h refl)
other_request (suc zero) t h = refl
other_request (suc (suc k)) t h = absurd (omega (arith, ltb→lt (suc (suc k)) 2 t))

write_words : (z : Sizes) (k : ℕ) (vs : List ℕ) (ms : List Bool) → k ≡ write_back → T (carries z k vs ms) → T (words_fit z.words vs)
unfolding carries
write_words z k vs ms e t = and_l (words_fit z.words vs) _ (rw e at t)

module _ (z : Sizes) (mem : List Line) (u : T (memory_fits z mem)) (m : Message) (fine : T (message_fits z request m)) where
  abbrev in_use : Line → Bool
  in_use l = words_fit z.words l.values

  abbrev not_in_use : Line → Bool
  not_in_use l = words_fit 0 l.values

  m_kind : T (ltb m.kind 2)
  unfolding message_fits
  m_kind = search (and_l, and_r)

  m_site : T (ltb m.site z.sites)
  unfolding message_fits
  m_site = search (and_l, and_r)

  m_line : T (ltb m.line z.lines)
  unfolding message_fits
  m_line = search (and_l, and_r)

  m_carries : T (carries z m.kind m.values m.dirty)
  unfolding message_fits
  m_carries = search (and_l, and_r)

  line-words : T (words_fit z.words (line_at mem m.line).values)
  unfolding memory_fits
  line-words = array_at 16 in_use not_in_use z.lines mem u m.line past_line (ltb→lt m.line z.lines m_line)

  memory_kept : T (memory_fits z (memory_after mem m))
  unfolding memory_after memory_fits
  memory_kept =
      by_cond (λ (l : List Line). T (array 16 in_use not_in_use z.lines l)) (eqb m.kind fetch) _ _ (λ t. u)
      (λ t. array_set 16 in_use not_in_use z.lines mem u m.line (stored (line_at mem m.line) m)
      (ltb→lt m.line z.lines m_line)
      (merged-words z.words (line_at mem m.line).values m.values m.dirty line-words
      (write_words z m.kind m.values m.dirty (other_request m.kind m_kind (ne_of m.kind fetch t)) m_carries)))

  reply-fits : T (message_fits z reply (reply_to (line_at mem m.line) m))
  unfolding reply_to message_fits carries words_fit marks_fit array fits
  reply-fits =
      by_cond (λ (r : Message). T (message_fits z reply r)) (eqb m.kind fetch) _ _
      (λ t. let w : T (words_fit z.words (line_at mem m.line).values) = line-words in
      both (ltb m.site z.sites && ltb m.line z.lines) _ (both (ltb m.site z.sites) _ m_site m_line)
      (both (words_fit z.words (line_at mem m.line).values) _ w tt))
      (λ t. both (ltb m.site z.sites && ltb m.line z.lines) _ (both (ltb m.site z.sites) _ m_site m_line) tt)

  same_trip : (i : ℕ) (f : ℕ → ℕ → Bool) → ind (is_at i f (reply_to (line_at mem m.line) m)) ≡ ind (is_at i f m)
  unfolding reply_to
  same_trip i f =
      by_cond (λ (r : Message). ind (is_at i f r) ≡ ind (is_at i f m)) (eqb m.kind fetch) _ _
      (λ t. rw (eqb→eq m.kind fetch t)) (λ t. rw (other_request m.kind m_kind (ne_of m.kind fetch t)))

-- SERVE

module _ (s : System) (h : Sound s) (l : 0 < s.arrived.count) where
  abbrev m₀ : Message
  m₀ = net_at s.arrived 0

  abbrev s' : System
  s' = after_serve s m₀

  pub request-fits : T (message_fits s.sizes request m₀)
  request-fits = net_at_lem s.sizes request s.arrived h.arrived 0 l

  pub serve_room : s.served.count < s.sizes.pend * s.sizes.sites
  unfolding message_count
  serve_room = omega (arith, l, count_most s h)

  pub serve_counts : (i : ℕ) (f : ℕ → ℕ → Bool) → total (is_at i f) s' ≡ total (is_at i f) s
  unfolding total after_serve
  serve_counts i f =
      omega (
        arith,
        same_trip s.sizes s.memory h.memory m₀ request-fits i f,
        net_loses s.sizes request s.arrived h.arrived (is_at i f) 0 l,
        net_gains s.sizes reply s.served h.served (is_at i f) (reply_to (line_at s.memory m₀.line) m₀) serve_room (net_places s h),
      )

  pub serve_sound : Sound s'
  unfolding after_serve
  serve_sound = record {
    sizes = h.sizes;
    memory = memory_kept s.sizes s.memory h.memory m₀ request-fits;
    four = same_four s s' h.four refl refl refl refl refl;
    sites = h.sites;
    up = h.up;
    arrived = net_rest_lem s.sizes request s.arrived h.arrived 0 l;
    served = net_put_lem s.sizes reply s.served h.served (reply_to (line_at s.memory m₀.line) m₀) serve_room (net_places s h) (reply-fits s.sizes s.memory h.memory m₀ request-fits);
    down = h.down;
    balance = moved_balance s s' refl serve_counts (λ j. refl) (λ j. refl) h.balance;
  }
