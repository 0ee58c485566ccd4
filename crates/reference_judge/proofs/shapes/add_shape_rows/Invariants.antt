use Rattle.std.proofs.Common.{◌≡◌, ◌++◌, List, drop}
use Rattle.f_tree.specs.Values.{Bytes}
use Rattle.declaration_rows.specs.ReferenceRows as rows
use Rattle.declaration_rows.specs.ReferenceRows.{first_arguments}
use Rattle.reference_judge.specs.FirstShapes.{first_in, rows_from, no_references}
use Rattle.reference_judge.specs.ReferencesSeen.{located}
use Rattle.reference_judge.proofs.shapes.add_shape_rows.Given as goal

abbrev pub invariant-loop-reference : goal.invariant-loop-reference
invariant-loop-reference l = record {
  before : List rows.Reference;
  first : (x : Bytes) → first_in l.first x ≡ first_arguments x before;
  rest : l.initial.found.items ++ rows_from no_references (located l.references) ≡ l.found.items ++ rows_from before (located (drop l.reference-index l.references));
}
