use mathlib.Core.Path.{◌≡◌}
use Rattle.std.specs.Prelude.{None}
use Rattle.drain.specs.Search.{standing}
use Rattle.drain.proofs.Tries.{Passed, PassedSites}
use Rattle.drain.proofs.search.first_step.Given as goal

abbrev pub invariant-sites : goal.invariant-sites
invariant-sites l = (l.found ≡ None) × PassedSites (standing l.s) l.s.sizes.sites l.kind l.site

abbrev pub invariant-kinds : goal.invariant-kinds
invariant-kinds l = (l.found ≡ None) × Passed (standing l.s) l.s.sizes.sites l.kind-index
