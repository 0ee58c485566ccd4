-- The parts of the line of a prototype, of the test of its parameters, and of the prototypes of a tree.
use Rattle.std.specs.Prelude.{ℕ, Bool, not, ◌&&◌, List, [], ◌∷◌, ◌++◌, codes, if◌then◌else◌}
use Rattle.std.specs.List.{flat_map}
use Rattle.c_tree.specs.declared.file.CFunction.{CFunction}
use Rattle.c_tree.specs.declared.types.ResultType.{ResultType}
use Rattle.c_tree.specs.CWords.{is_among, is_name}
use Rattle.c_text.specs.Types.{result_word}
use Rattle.c_text.specs.Declarations.{printed_params}
use Rattle.prototypes.specs.declared.prototype.Prototype.{Prototype}
use Rattle.prototypes.specs.TreePrototypes.{is_called_outside, function_prototype}

-- up to the name of the function, and from there on
unfoldable pub line_front : ResultType → List ℕ
line_front of = codes "extern " ++ (result_word of ++ codes " ")

unfoldable pub line_rest : Prototype → List ℕ
line_rest p = p.name ++ (codes "(" ++ (printed_params p.params ++ codes ");\n"))

-- a name that none of these is
unfoldable pub is_new : List (List ℕ) → List ℕ → Bool
is_new before name = is_name name && not (is_among name before)

-- the prototype of a function that another file may call, and of another one none
unfoldable pub listed : CFunction → List Prototype
listed f = if is_called_outside f.name then function_prototype f ∷ [] else []

abbrev pub all_listed : List CFunction → List Prototype
all_listed functions = flat_map listed functions
