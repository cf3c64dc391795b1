-- What it says that a contract leaves one result.
use Rattle.std.specs.Prelude.{◌≡◌}
use seplogic.Ra.Ura.{Ura}
use base.Logic.{SProp, ent}
use contract.Lifetimes.{Lfts}
use contract.Monad.{fact}
use denote.Triple.Clauses.{Ended, AtExit, Clauses}
use denote.Triple.Entry.{Args, Res}

-- of a call that is lent nothing
abbrev pub nothing : {X : Type 0} → X → Unit {0}
nothing x = tt

-- Take the arguments of a call and two results r and r', with the lent parts at exit e and e'. Whoever knows that each satisfies the contract knows that the values
-- returned are the same and that the lent parts are left the same. `left` reads what each lent part holds at exit.
abbrev pub Only : {M : Type 1} {𝓤 : Ura M} (T : Ended) {Left : Type 0} → Clauses 𝓤 T → ((κs : Lfts T.signature.lifetimes) → AtExit T κs → Left) → Type 2
Only {M} {𝓤} T c left =
    (κs : Lfts T.signature.lifetimes) (a : Args T.signature κs) (g : (c κs a).ghost) (r r' : Res T.signature κs) (e e' : AtExit T κs) (known : SProp 𝓤) →
    ent 𝓤 known ((c κs a).ensures g r e) →
    ent 𝓤 known ((c κs a).ensures g r' e') →
    ent 𝓤 known (fact 𝓤 ((r ≡ r') × (left κs e ≡ left κs e')))

-- The same of a call that gives a reference: what is seen behind it is the same.
abbrev pub OnlySeen : {M : Type 1} {𝓤 : Ura M} (T : Ended) {Seen Left : Type 0} → Clauses 𝓤 T → ((κs : Lfts T.signature.lifetimes) → Res T.signature κs → Seen) →
    ((κs : Lfts T.signature.lifetimes) → AtExit T κs → Left) → Type 2
OnlySeen {M} {𝓤} T c seen left =
    (κs : Lfts T.signature.lifetimes) (a : Args T.signature κs) (g : (c κs a).ghost) (r r' : Res T.signature κs) (e e' : AtExit T κs) (known : SProp 𝓤) →
    ent 𝓤 known ((c κs a).ensures g r e) →
    ent 𝓤 known ((c κs a).ensures g r' e') →
    ent 𝓤 known (fact 𝓤 ((seen κs r ≡ seen κs r') × (left κs e ≡ left κs e')))
