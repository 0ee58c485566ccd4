use Rattle.std.proofs.Common.{◌≡◌, drop, map}
use Rattle.f_tree.specs.declared.units.Unit.{Unit as GivenUnit}
use Rattle.f_tree.specs.Attributes.{named_dummies}
use Rattle.name_classes.specs.KnownSigns.{AreSigns}
use Rattle.name_facts.specs.GivenFacts.{AreNameFacts}
use Rattle.translator.specs.UnitFiles.{dummy_in}
use Rattle.translator.proofs.HeadingLemmas.{dummies_from}
use Rattle.translator.proofs.heading.dummies.Given as goal

abbrev pub invariant-loop-dummy : goal.invariant-loop-dummy
invariant-loop-dummy l =
    (u : GivenUnit) → AreSigns u l.fn.signs → AreNameFacts u l.fn.table → map (dummy_in u) (named_dummies l.dummies) ≡ dummies_from u l.found.items (drop l.dummy-index l.dummies)
