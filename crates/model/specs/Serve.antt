-- Serve 1, 2 (001, rules M1 to M5).
use Rattle.std.specs.Prelude.{List, [], ◌∷◌, Bool, cond, ℕ, eqb, get_or, set}
use Rattle.model.specs.declared.Message.{Message}
use Rattle.model.specs.declared.Line.{Line}
use Rattle.model.specs.Kinds.{fetch, fetch_reply, acknowledgement}
use Rattle.model.specs.Fresh.{no_values, no_marks}
use Rattle.model.specs.Parts.{past_line}

-- Serve 2a: each word marked Dirty anew, the others as they were
unfoldable pub merged : List ℕ → List ℕ → List Bool → List ℕ
merged [] vs ms = []
merged (o ∷ os) [] ms = o ∷ os
merged (o ∷ os) (v ∷ vs) [] = o ∷ os
merged (o ∷ os) (v ∷ vs) (m ∷ ms) = cond m v o ∷ merged os vs ms

-- Serve 1: line L of memory
abbrev pub line_at : List Line → ℕ → Line
line_at mem L = get_or mem L past_line

-- Serve 2a: memory takes over a word of a write-back if and only if that word is marked Dirty (M4)
abbrev pub stored : Line → Message → Line
stored l m = record { values = merged l.values m.values m.dirty }

-- Serve 1, 2a: a fetch stores nothing
unfoldable pub memory_after : List Line → Message → List Line
memory_after mem m = cond (eqb m.kind fetch) mem (set mem m.line (stored (line_at mem m.line) m))

-- Serve 1, 2b: a fetch gets the line's words back (M2), a write-back an acknowledgement with nothing in it (M4)
unfoldable pub reply_to : Line → Message → Message
reply_to l m =
    cond (eqb m.kind fetch)
    (record { kind = fetch_reply; site = m.site; line = m.line; dirty = no_marks; values = l.values })
    (record { kind = acknowledgement; site = m.site; line = m.line; dirty = no_marks; values = no_values })
