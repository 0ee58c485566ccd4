-- The program that the data of a linked program stand for (C89, 3.1.2.2, 3.5 and 3.7).
use Rattle.std.specs.Prelude.{ℕ, length, map}
use Rattle.c_tree.specs.Access.{ToList}
use Rattle.c_tree.specs.Objects.{Object, Values}
use Rattle.c_tree.specs.Declarations.{filled}
use Rattle.c_tree.specs.Linking.{Function, Program}
use Rattle.run_bytes.specs.Accesses.{object_at_first}
use Rattle.linked_terms.specs.LinkedItems.{flat_of}
use Rattle.linked_programs.specs.declared.objects.LinkedObject.{LinkedObject}
use Rattle.linked_programs.specs.declared.objects.LinkedObject.TheVariants as object
use Rattle.linked_programs.specs.declared.functions.LinkedFunction.{LinkedFunction}
use Rattle.linked_programs.specs.declared.programs.LinkedProgram.{LinkedProgram}

abbrev pub object_of : LinkedObject → Object
object_of (object.Plain kind) = object_at_first kind
object_of (object.Image size bytes) = filled size bytes
object_of (object.List type fields) = Values (record { type = ToList type; values = fields })

-- a function of a program that has so many
abbrev pub function_of : ℕ → LinkedFunction → Function
function_of own function = record {
  name = function.name;
  result = function.result;
  parameters = function.parameters;
  frame = function.frame;
  fresh = map object_at_first function.fresh;
  code = map flat_of function.code;
  own = own;
}

abbrev pub program_of : LinkedProgram → Program
program_of program = record {
  functions = map (function_of (length program.functions)) program.functions;
  objects = map object_of program.objects;
}
