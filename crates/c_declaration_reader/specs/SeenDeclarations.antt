-- The declarations that are read, with the names that they declare, and what the names stand for (C89, 3.5).
use Rattle.c_tree.specs.declared.types.ParameterType.{ParameterType}
use Rattle.c_tree.specs.declared.types.ParameterType.TheVariants as parameter
use Rattle.c_tree.specs.declared.declaration.CLocal.{CLocal}
use Rattle.c_tree.specs.declared.declaration.CLocal.TheVariants as local
use Rattle.c_readers.specs.DeclarationReader as reader
use Rattle.c_scope.specs.declared.class.NameClass.{NameClass}
use Rattle.c_scope.specs.declared.class.NameClass.TheVariants as class
use Rattle.c_declaration_reader.specs.declared.nodes.Declared.{Declared}
use Rattle.c_declaration_reader.specs.declared.nodes.Named.{Named}
use Rattle.c_file_readers.specs.ObjectReader as object

abbrev pub seen_declared : Declared → reader.Declared
seen_declared declared = (declared.local, declared.name.now)

-- what the name of a parameter stands for
unfoldable pub parameter_class : ParameterType → NameClass
parameter_class (parameter.Function of) = class.Pointer
parameter_class other = class.Object

-- what the name of a declaration stands for
unfoldable pub local_class : CLocal → NameClass
local_class (local.Extern of name types) = class.Function
local_class (local.StaticNumbers of name n values) = class.Array
local_class (local.StaticChars name n bytes) = class.Array
local_class other = class.Object

abbrev pub seen_named : Named → object.Named
seen_named named = (named.object, named.name.now)
