-- The prototypes of a FORTRAN file: of each name by which another unit may call one of its units, the function that the C text of the file has
-- for it. The main program and BLOCK DATA have none. ANSI X3.9-1978, sections 14, 15.5 to 15.7 and 16.
use Rattle.std.specs.Prelude.{List, [], map}
use Rattle.std.specs.List.{flat_map}
use Rattle.fortran_text.specs.f_tree.declared.names.Options.{Options}
use Rattle.fortran_text.specs.f_tree.declared.units.Unit.{Unit as WrittenUnit}
use Rattle.fortran_text.specs.f_tree.declared.units.File.{File}
use Rattle.fortran_text.specs.f_tree.Facts.{UnitKind, MainProgram, BlockDataUnit, ProgramUnit}
use Rattle.fortran_text.specs.f_tree.Uses.{Use, uses_of_statements}
use Rattle.fortran_text.specs.f_tree.Attributes.{arrays_of}
use Rattle.fortran_text.specs.f_tree.Lines.{unit_read}
use Rattle.faithful.specs.Signatures.{Signature, entry_signature, dummy_of}
use Rattle.prototypes.specs.declared.prototype.Prototype.{Prototype}

-- a function with its signature
unfoldable pub prototype_of : Signature → Prototype
prototype_of s = record {
  result = s.gives;
  name = s.name;
  params = map (λ p. record { of = p.type; name = p.name }) s.parameters;
}

-- one function for each entry of a subroutine or function subprogram, its own name first
unfoldable pub prototypes_by : UnitKind → ProgramUnit → List Use → List Prototype
prototypes_by MainProgram unit uses = []
prototypes_by BlockDataUnit unit uses = []
prototypes_by kind unit uses = map (λ entry. prototype_of (entry_signature unit (dummy_of uses unit.attribute) entry)) unit.entries

unfoldable pub unit_prototypes : Options → WrittenUnit → List Prototype
unit_prototypes options u = prototypes_by (unit_read options u).kind (unit_read options u) (uses_of_statements (arrays_of u) u.statements)

-- those of the units of a file, in their order
unfoldable pub file_prototypes : Options → File → List Prototype
file_prototypes options file = flat_map (unit_prototypes options) file.units
