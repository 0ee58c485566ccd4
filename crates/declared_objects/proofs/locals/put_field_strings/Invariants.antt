use Rattle.std.proofs.Common.{◌≡◌, ◌++◌, drop}
use Rattle.c_tree.specs.Declarations.{field_strings}
use Rattle.expression_linker.specs.StringsSeen.{texts}
use Rattle.declared_objects.proofs.locals.put_field_strings.Given as goal

abbrev pub invariant-loop-field : goal.invariant-loop-field
invariant-loop-field l =
    texts l.initial.out.items ++ field_strings l.fields ≡ texts l.out.items ++ field_strings (drop l.field-index l.fields)
