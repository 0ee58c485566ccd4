-- The objects of a call as it makes them: those of the parameters, and then the automatic ones (C89, 3.1.2.4 and 3.7.1).
use Rattle.std.specs.Prelude.{List}
use Rattle.c_tree.specs.declared.declaration.CParam.{CParam}
use Rattle.c_tree.specs.declared.declaration.CLocal.{CLocal}
use Rattle.c_tree.specs.Objects.{Object}
use Rattle.c_tree.specs.Terms.{Unknown}
use Rattle.c_tree.specs.Drafts.{Scope}
use Rattle.c_tree.specs.Declarations.{declared_parameters, declared_automatics}
use Rattle.c_tree.specs.Linking.{objects_of}

abbrev pub no_names : Scope
no_names name = Unknown

unfoldable pub parameter_objects : List CParam → List Object
parameter_objects params = objects_of no_names 0 (declared_parameters params)

unfoldable pub automatic_objects : List CLocal → List Object
automatic_objects locals = objects_of no_names 0 (declared_automatics locals)
