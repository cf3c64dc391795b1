-- Issue 0 to 6 (001, figure 4-4), and the looks that come before it in an issue (Numbers 4, 5).
use Rattle.std.specs.Prelude.{Bool, ◌&&◌, ◌||◌, ℕ, ltb, eqb}
use Rattle.lists.specs.Places.{none_of}
use Rattle.model.specs.declared.Sizes.{Sizes}
use Rattle.model.specs.declared.Entry.{Entry}
use Rattle.model.specs.declared.Waiting.{Waiting}
use Rattle.model.specs.declared.Instruction.{Instruction}
use Rattle.model.specs.declared.Instruction.TheVariants.{Loadl, Storel, Commit, Reconcile, FenceRr, FenceRw, FenceWr, FenceWw}
use Rattle.model.specs.Limits.{addresses, line_of, word_of}
use Rattle.model.specs.Kinds.{loadl, storel, commit, reconcile, fence_rr, fence_rw, fence_wr, fence_ww}
use Rattle.model.specs.Parts.{Site}
use Rattle.model.specs.Sound.{waits_under, pends_under}

-- THE PARTS OF AN INSTRUCTION

-- Steps 9: the number of an instruction's kind
unfoldable pub kind_of : Instruction → ℕ
kind_of (Loadl a) = loadl
kind_of (Storel a v) = storel
kind_of (Commit a) = commit
kind_of (Reconcile a) = reconcile
kind_of (FenceRr a b) = fence_rr
kind_of (FenceRw a b) = fence_rw
kind_of (FenceWr a b) = fence_wr
kind_of (FenceWw a b) = fence_ww

-- Steps 9: the address, or a fence's first one
unfoldable pub first_address : Instruction → ℕ
first_address (Loadl a) = a
first_address (Storel a v) = a
first_address (Commit a) = a
first_address (Reconcile a) = a
first_address (FenceRr a b) = a
first_address (FenceRw a b) = a
first_address (FenceWr a b) = a
first_address (FenceWw a b) = a

-- Steps 9: a fence's second address; the first where there is no second
unfoldable pub last_address : Instruction → ℕ
last_address (Loadl a) = a
last_address (Storel a v) = a
last_address (Commit a) = a
last_address (Reconcile a) = a
last_address (FenceRr a b) = b
last_address (FenceRw a b) = b
last_address (FenceWr a b) = b
last_address (FenceWw a b) = b

-- Steps 9: a Storel's value; 0 where there is none
unfoldable pub value_of : Instruction → ℕ
value_of (Loadl a) = 0
value_of (Storel a v) = v
value_of (Commit a) = 0
value_of (Reconcile a) = 0
value_of (FenceRr a b) = 0
value_of (FenceRw a b) = 0
value_of (FenceWr a b) = 0
value_of (FenceWw a b) = 0

-- Issue 6: kinds 4 to 7 are fences
abbrev pub is_fence : Instruction → Bool
is_fence n = ltb reconcile (kind_of n)

-- Steps 10: an instruction, with its tag, as it waits or pends
abbrev pub as_waiting : Sizes → ℕ → Instruction → Waiting
as_waiting z t n = record {
  kind = kind_of n;
  line = line_of z (first_address n);
  word = word_of z (first_address n);
  tag = t;
  value = value_of n;
}

-- THE TESTS OF AN ISSUE

-- Numbers 4: every address that the instruction names exists
unfoldable pub addresses_fit : Sizes → Instruction → Bool
addresses_fit z n = ltb (first_address n) (addresses z) && ltb (last_address n) (addresses z)

-- Numbers 5: nothing outstanding at the site has this tag
unfoldable pub tag_free : Site → ℕ → Bool
tag_free x t = none_of (waits_under t) x.stalls x.waiting && none_of (pends_under t) x.pends x.entries

-- Issue 2 to 5: of an earlier and a later instruction that meet in one address, which pairs keep their order.
-- The rows are the earlier ones: Loadl, Storel, Commit, Reconcile. Of a fence its first address counts.
unfoldable pub blocks : ℕ → ℕ → Bool
blocks earlier later =
    eqb earlier loadl && (eqb later storel || eqb later fence_rr || eqb later fence_rw) ||
    eqb earlier storel && (eqb later loadl || eqb later storel || eqb later commit) ||
    eqb earlier commit && (eqb later fence_wr || eqb later fence_ww) ||
    eqb earlier reconcile && eqb later loadl

-- Issue 2 to 5: an earlier instruction, of a kind and at a line and a word, is in the way of a later one
abbrev pub in_the_way : ℕ → ℕ → ℕ → Waiting → Bool
in_the_way earlier line word later = eqb line later.line && eqb word later.word && blocks earlier later.kind

-- Issue 1: nothing that is outstanding at its site is in its way
unfoldable pub may_issue : Site → Waiting → Bool
may_issue x n =
    none_of (λ (w : Waiting). in_the_way w.kind w.line w.word n) x.stalls x.waiting &&
    none_of (λ (e : Entry). in_the_way e.kind e.line e.word n) x.pends x.entries
