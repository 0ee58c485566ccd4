use Rattle.std.proofs.Common.{◌≡◌, drop}
use Rattle.declaration_rows.specs.LengthRows.{files_alone}
use Rattle.length_judge.specs.KnownNames.{naming_in, constants_in}
use Rattle.length_judge.proofs.statements.files_alone.Given as goal

abbrev pub invariant-loop-control : goal.invariant-loop-control
invariant-loop-control l =
    files_alone (naming_in l.names) (constants_in l.names) l.controls ≡ files_alone (naming_in l.names) (constants_in l.names) (drop l.control-index l.controls)
