use Rattle.std.proofs.Common.{◌≡◌, length, Some}
use Rattle.std.specs.Prelude.{slice_get, slice_set}
use Rattle.c_tree.specs.declared.types.ListType.{ListType}
use Rattle.c_tree.specs.Access.{ToList}
use Rattle.c_tree.specs.Declarations.{unset_values}
use Rattle.started_objects.proofs.FieldLaws.{list-to}
use Rattle.started_objects.proofs.starts.put_fields.Given as goal

abbrev pub invariant-loop-offset : goal.invariant-loop-offset
invariant-loop-offset l =
    (type : ListType) → slice_get l.initial.run l.number ≡ Some (unset_values (ToList type) (length l.fields)) → l.run ≡ slice_set l.initial.run l.number (list-to type l.offset l.fields)
