-- When the tables of a unit are right. ANSI X3.9-1978, section 18.
use Rattle.f_tree.specs.declared.units.Unit.{Unit as WrittenUnit}
use Rattle.declared_types.specs.TypeTables.{AreTypes}
use Rattle.name_classes.specs.KnownSigns.{AreSigns}
use Rattle.name_facts.specs.GivenFacts.{AreNameFacts}
use Rattle.unit_judge.specs.declared.tables.Tables.{Tables}

pub record AreTables (u : WrittenUnit) (tables : Tables) : Type 0 where
  pub signs : AreSigns u tables.signs
  pub types : AreTypes u tables.types
  pub facts : AreNameFacts u tables.facts
