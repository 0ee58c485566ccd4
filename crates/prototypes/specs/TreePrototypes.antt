-- The prototypes of the functions of a C tree, but for the main program and for the functions that units with entries have for all their entries:
-- no other unit calls those (ANSI X3.9-1978, sections 14 and 15.7).
use Rattle.std.specs.Prelude.{ℕ, nat_eq, Bool, not, ◌&&◌, List, map, filter, codes, bytes_eq}
use Rattle.std.specs.List.{ends_with}
use Rattle.c_tree.specs.declared.file.CFunction.{CFunction}
use Rattle.c_tree.specs.declared.file.CFile.{CFile}
use Rattle.prototypes.specs.declared.prototype.Prototype.{Prototype}

-- a function that another file may call, by its name: the main program is `MAIN__`, and the function of all entries of a unit `name_0_`
unfoldable pub is_called_outside : List ℕ → Bool
is_called_outside name = not (bytes_eq name (codes "MAIN__")) && not (ends_with nat_eq name (codes "_0_"))

unfoldable pub function_prototype : CFunction → Prototype
function_prototype f = record { result = f.result; name = f.name; params = f.params }

unfoldable pub function_prototypes : List CFunction → List Prototype
function_prototypes functions = map function_prototype (filter (λ f. is_called_outside f.name) functions)

abbrev pub tree_prototypes : CFile → List Prototype
tree_prototypes file = function_prototypes file.functions
