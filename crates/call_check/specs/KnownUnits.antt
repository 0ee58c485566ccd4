-- When what is known of the names of a unit is what its statements say. ANSI X3.9-1978, section 18.
use Rattle.std.specs.Prelude.{◌≡◌}
use Rattle.f_tree.specs.declared.units.Unit.{Unit as WrittenUnit}
use Rattle.f_tree.specs.Attributes.{arrays_of}
use Rattle.call_shapes.specs.declaration_rows.NameRows.{known_in}
use Rattle.declared_types.specs.TypeTables.{AreTypes}
use Rattle.expression_judge.specs.SeenNames.{AreSeen}
use Rattle.name_table.specs.Named.{names_in, IsNameSet}
use Rattle.call_check.specs.declared.known.KnownNames.{KnownNames}

pub record AreKnown (u : WrittenUnit) (known : KnownNames) : Type 0 where
  pub is_set : IsNameSet known.arrays
  pub arrays : names_in known.arrays ≡ arrays_of u
  pub types : AreTypes u known.types
  pub names : AreSeen (known_in u) known.names
