-- The numbers of the objects that declarations make, one for each in order (C89, 3.5).
use Rattle.std.specs.Prelude.{◌+◌, List, length}
use Rattle.c_tree.specs.declared.declaration.CLocal.{CLocal}
use Rattle.c_tree.specs.Declarations.{declared_statics, declared_automatics}
use Rattle.c_tree.specs.Linking.{strings_of}
use Rattle.function_linker.specs.declared.numbers.NextNumbers.{NextNumbers}

-- the numbers of what is declared behind declarations
unfoldable pub numbers_behind : NextNumbers → List CLocal → NextNumbers
numbers_behind at locals = record {
  lasting = at.lasting + length (declared_statics locals);
  string = at.string + length (strings_of (declared_statics locals));
  frame = at.frame + length (declared_automatics locals);
}
