-- A name of a unit is plain by what the table tells of it. ANSI X3.9-1978, sections 5.1 and 18.
use Rattle.std.specs.Borrow.{Bor}
use Rattle.std.specs.Prelude.{Bool}
use Rattle.f_tree.specs.declared.units.Unit.{Unit as WrittenUnit}
use Rattle.f_tree.specs.Values.{Bytes}
use Rattle.name_facts.specs.declaration_rows.NameRows.{shape_in}
use Rattle.name_facts.specs.declared.table.NameFacts.{NameFacts}
use Rattle.name_facts.specs.GivenFacts.{fact_in}
use Rattle.plain_procedures.specs.ToldProcedures.{is_plain}

abbrev pub plain_in : WrittenUnit → NameFacts → Bool → Bor Bytes → Bool
plain_in u table function name = is_plain table function name.now (shape_in u name.now) (fact_in table name.now)
