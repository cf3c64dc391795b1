-- Which kinds of step are left, by their numbers, once the kinds before them were looked for.
use mathlib.Core.Path.{◌≡◌, refl}
use Prim.Native.Nat.{ℕ, ◌≤◌}
use native.Mathlib.Omega.{arith}
use lib.ListN.{get_or}
use Rattle.model.specs.declared.Instruction.{Instruction}
use Rattle.model.specs.declared.Step.{Step}
use Rattle.model.specs.declared.Step.TheVariants.{Issue, Retry, Send, ArriveMemory, Serve, SendBack, ArriveSite, Take}
use Rattle.model.specs.Record.{numbers_of}

-- the number of a step's kind
abbrev kind : Step → ℕ
kind x = get_or (numbers_of x) 0 0

-- what is no issue, retry or send is of memory or of a reply
pub past_send : (x : Step) → ((i t : ℕ) (n : Instruction) → x ≡ Issue i t n → ⊥) → ((i : ℕ) → x ≡ Retry i → ⊥) → ((i : ℕ) → x ≡ Send i → ⊥) → 3 ≤ kind x
unfolding numbers_of
past_send (Issue i t n) a b c = absurd (a i t n refl)
past_send (Retry i) a b c = absurd (b i refl)
past_send (Send i) a b c = absurd (c i refl)
past_send x a b c = omega arith

-- of these, what is no arrive-memory, serve or send-back is of a reply
pub past_send_back : (x : Step) → 3 ≤ kind x → ((p : ℕ) → x ≡ ArriveMemory p → ⊥) → (x ≡ Serve → ⊥) → (x ≡ SendBack → ⊥) → 6 ≤ kind x
unfolding numbers_of
past_send_back (ArriveMemory p) l a b c = absurd (a p refl)
past_send_back Serve l a b c = absurd (b refl)
past_send_back SendBack l a b c = absurd (c refl)
past_send_back x l a b c = omega arith

-- of these, each is an arrive-site or a take
pub none_left : (x : Step) → 6 ≤ kind x → ((p : ℕ) → x ≡ ArriveSite p → ⊥) → ((i : ℕ) → x ≡ Take i → ⊥) → ⊥
unfolding numbers_of
none_left (ArriveSite p) l a b = a p refl
none_left (Take i) l a b = b i refl
none_left x l a b = omega arith
