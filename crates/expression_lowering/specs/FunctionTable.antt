-- The intrinsic functions in the table of the code (15.10).
use Rattle.std.specs.Prelude.{List, [], ◌∷◌, bytes_eq, Option, Some, None, if◌then◌else◌}
use Rattle.f_tree.specs.Values.{Bytes}
use Rattle.f_tree.specs.Terms as term
use Rattle.lowered_tree.specs.Shapes.{function_of}
use Rattle.expression_lowering.specs.declared.intrinsics.NamedFunction.{NamedFunction}

-- the function with a name in the table of the code
unfoldable pub named_in : List NamedFunction → Bytes → Option term.Function
named_in [] x = None
named_in (f ∷ fs) x = if bytes_eq f.name.now x then Some (function_of f.function) else named_in fs x
