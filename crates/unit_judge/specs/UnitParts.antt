-- The rows of a unit in parts, by what they speak of. ANSI X3.9-1978, sections 3 to 18.
use Rattle.std.specs.Prelude.{List, [], ◌++◌}
use Rattle.f_tree.specs.declared.names.Options.{Options}
use Rattle.f_tree.specs.declared.refusals.Refusal.{Refusal}
use Rattle.f_tree.specs.declared.units.Unit.{Unit as WrittenUnit}
use Rattle.f_tree.specs.Facts.{ProgramUnit}
use Rattle.f_tree.specs.Attributes.{arrays_of}
use Rattle.f_tree.specs.Lines.{unit_read}
use Rattle.name_facts.specs.declaration_rows.NameRows.{given_names, own_attributes, all_names, defined_rows, names_rows}
use Rattle.name_facts.specs.declaration_rows.UnitRows.{statements_rows, labels_rows, nest_rows, end_rows, ends_by_end, ranges_from, crossing_rows}
use Rattle.name_facts.specs.declaration_rows.UndeclaredRows.{unit_undeclared_rows}
use Rattle.name_facts.specs.declaration_rows.OrderRows.{unit_order_rows}
use Rattle.name_facts.specs.declaration_rows.BlockRows.{unit_block_rows}
use Rattle.name_facts.specs.declaration_rows.FormatRows.{unit_format_rows}
use Rattle.name_facts.specs.declaration_rows.ReferenceRows.{unit_reference_rows}
use Rattle.name_facts.specs.declaration_rows.LengthRows.{unit_length_rows}
use Rattle.name_facts.specs.declaration_rows.ExpansionRows.{unit_expansion_rows}
use Rattle.name_facts.specs.declaration_rows.GivenRows.{unit_given_rows}

-- names (8 and 18) and statement functions (15.4)
unfoldable pub declared_rows : WrittenUnit → List Refusal
declared_rows u = names_rows u (all_names u) ++ defined_rows (given_names u) (own_attributes u) (arrays_of u) [] [] u.statements

-- labels (3.4), IF blocks (11.6 to 11.9), END (11.14), and DO ranges (11.10)
unfoldable pub control_rows : WrittenUnit → ProgramUnit → List Refusal
control_rows u p =
    labels_rows [] u.statements ++ (nest_rows [] u.statements ++ (end_rows u (ends_by_end u.statements) ++ crossing_rows (ranges_from p 0 u.statements) 0 u.statements))

-- statements (10 to 13)
unfoldable pub executed_rows : WrittenUnit → ProgramUnit → List Refusal
executed_rows u p = statements_rows u p 0 u.statements ++ control_rows u p

-- names without a type (4.1.2), the order of statements (3.5), and branches and ENTRY in blocks (11 and 15.7)
unfoldable pub placed_rows : Options → WrittenUnit → List Refusal
placed_rows options u = unit_undeclared_rows options u ++ (unit_order_rows u ++ unit_block_rows u (unit_read options u))

-- formats (13), references (15) and lengths (5.7 and 8.4.2)
unfoldable pub used_rows : WrittenUnit → List Refusal
used_rows u = unit_format_rows u ++ (unit_reference_rows u ++ unit_length_rows u)

-- expanded statement functions (15.4), and what is given to names (8 and 9)
unfoldable pub expanded_rows : WrittenUnit → List Refusal
expanded_rows u = unit_expansion_rows u ++ unit_given_rows u

-- what the standard asks for besides what makes a unit well formed
unfoldable pub further_rows : Options → WrittenUnit → List Refusal
further_rows options u = placed_rows options u ++ (used_rows u ++ expanded_rows u)
