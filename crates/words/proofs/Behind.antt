-- A text grows: what was put at the end of its first bytes stands behind them.
use mathlib.Core.Path.{◌≡◌, refl, ap, sym, ◌∙◌}
use mathlib.Core.List.{List, ◌++◌, append_assoc}
use Prim.Native.Nat.{ℕ, ◌+◌, ◌-◌, ◌≤◌}
use native.Mathlib.Omega.{arith}
use lib.ListN.{length, take, drop, length-append}
use lib.Seq.{sets, sets-eq, take_at, length-take-le}
use borrow.Rule.Slice.PartMut.{put_mid}
use Rattle.std.proofs.lemmas.List.Edits.{paste_all}
use Rattle.std.proofs.lemmas.Slice.{put_mid-paste}
use Rattle.numbers.specs.Groups.{Put, put_to, put_bytes}
use Rattle.numbers.proofs.Grouped.{put_there}

-- where there is room: the bytes up to the end of what was put
pub take_sets : (new buf : List ℕ) (at : ℕ) → at + length new ≤ length buf → take (at + length new) (sets buf at new) ≡ take at buf ++ new
take_sets new buf at room =
    let l : length (take at buf ++ new) ≡ at + length new =
    length-append (take at buf) new ∙ ap (λ (n : ℕ). n + length new) (length-take-le at buf (omega arith)) in
    rw (sets-eq new buf at room) (take_at (take at buf ++ new) (drop (at + length new) buf) (at + length new) l)

-- the same of what a writer gives, with the offset past them
pub put_behind : (new buf after : List ℕ) (at past : ℕ) → at + length new ≤ length buf → put_to past after ≡ put_bytes new buf at →
    (past ≡ at + length new) × (take past after ≡ take at buf ++ new)
put_behind new buf after at past room e =
    let put : put_to past after ≡ put_to (at + length new) (sets buf at new) = e ∙ put_there new buf at room in
    let p : past ≡ at + length new = ap (λ (x : Put). x.past) put in
    let b : after ≡ sets buf at new = ap (λ (x : Put). x.buffer) put in
    (p, rw (p, b) (take_sets new buf at room))

-- a text that is copied to its place
pub copied : (buf text part : List ℕ) (at : ℕ) → at + length text ≤ length buf → part ≡ text →
    put_mid at (at + length text - at) buf part ≡ sets buf at text
copied buf text part at room e =
    put_mid-paste at (at + length text - at) buf part text (length text) e (omega arith) refl ∙ paste_all buf at text (length text) refl ∙
    sym (append_assoc (take at buf) text (drop (at + length text) buf)) ∙ sym (sets-eq text buf at room)
