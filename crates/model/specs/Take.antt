-- Take 1 to 9: what a site does with a reply.
use Rattle.std.specs.Prelude.{List, true, not, ◌&&◌, cond, ℕ, ◌-◌, eqb, get_or, set}
use Rattle.lists.specs.Places.{removed, first_at}
use Rattle.model.specs.declared.Sizes.{Sizes}
use Rattle.model.specs.declared.Message.{Message}
use Rattle.model.specs.declared.Entry.{Entry}
use Rattle.model.specs.declared.Place.{Place}
use Rattle.model.specs.declared.CacheSet.{CacheSet}
use Rattle.model.specs.declared.Answer.TheVariants.{Nothing, Loaded, Acknowledged}
use Rattle.model.specs.Kinds.{loadl, storel, commit, reconcile, voluntary}
use Rattle.model.specs.Fresh.{no_values, no_marks, no_entry}
use Rattle.model.specs.Parts.{Site, with_pends, with_outgoing, site_put}
use Rattle.model.specs.Sets.{displaced, placed, set_of}
use Rattle.model.specs.Handling.{Handled, answered, all_clean, put_set, write_back_of, written}

-- Take 1: where the pend entry stands that is for line L
abbrev pub entry_for : Site → ℕ → ℕ
entry_for x L = first_at (λ (e : Entry). eqb e.line L) x.pends x.entries

-- Take 7b: the entry at p goes, and later entries close the gap
abbrev pub removed_entry : Site → ℕ → Site
removed_entry x p = with_pends x (x.pends - 1) (removed no_entry p x.entries)

-- Take 9b: an entry that has a line and nothing else
abbrev pub voluntary_entry : ℕ → Entry
voluntary_entry L = record { kind = voluntary; line = L; word = 0; tag = 0; value = 0; values = no_values }

-- Take 9: the Dirty line that was driven out is written back, and a voluntary entry for it takes over position p
abbrev pub evicted : ℕ → Site → ℕ → Place → Site
evicted i x p old = with_outgoing (with_pends x x.pends (set x.entries p (voluntary_entry old.line))) (site_put x.outgoing (write_back_of i old))

-- Take 7a, 8, 9: a line came into the cache for the entry at p. If nothing was driven out, or a line without a Dirty word, the entry goes
-- (C8, C9, C17, C18, C29, C30). If a line with a Dirty word was driven out, it is written back (C7, C16, C28).
unfoldable pub settled : ℕ → Site → ℕ → Place → Site
settled i x p old = cond (old.used && not (all_clean old.dirty)) (evicted i x p old) (removed_entry x p)

-- Take 2, 3, 4: the line goes into its set t
abbrev pub caching_in : Sizes → ℕ → Site → ℕ → Place → CacheSet → Site
caching_in z i x p new t = settled i (put_set z x new.line (placed z t new)) p (displaced z t)

-- Take 2, 3, 4: the line goes into the cache
abbrev pub caching : Sizes → ℕ → Site → ℕ → Place → Site
caching z i x p new = caching_in z i x p new (set_of z x.cache new.line)

-- Take 2, 4: a line's words, each of them Clean
abbrev pub clean_place : ℕ → List ℕ → Place
clean_place L vs = record { used = true; line = L; dirty = no_marks; values = vs }

-- Take 2 to 6: the entry e, at p, has its reply m
unfoldable pub taken : Sizes → ℕ → Site → ℕ → Entry → Message → Handled
taken z i x p e m =
    -- Take 2: a Loadl's words go into the cache as Clean ones, and its word is the answer (C6).
    cond (eqb e.kind loadl)
    (answered (Loaded i e.tag (get_or m.values e.word 0)) (caching z i x p (clean_place e.line m.values)))
    -- Take 3: a Storel's words too, but for its own word, which is the stored value and Dirty; it is acknowledged (C15).
    (cond (eqb e.kind storel)
    (answered (Acknowledged i e.tag) (caching z i x p (written (clean_place e.line m.values) e.word e.value)))
    -- Take 4: a Commit's entry kept the words; they return to the cache as Clean ones, and it is acknowledged (C27).
    (cond (eqb e.kind commit)
    (answered (Acknowledged i e.tag) (caching z i x p (clean_place e.line e.values)))
    -- Take 5: a Reconcile is acknowledged, and its entry goes (C40).
    (cond (eqb e.kind reconcile)
    (answered (Acknowledged i e.tag) (removed_entry x p))
    -- Take 6: a voluntary entry goes, and no processor hears of it (C10, C20, C32).
    (answered Nothing (removed_entry x p)))))
