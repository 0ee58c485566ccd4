-- What linking a part of a program behind others gives (C89, 3.5 and 3.7).
use Rattle.std.specs.Prelude.{◌≡◌, ℕ, true, List, [], ◌∷◌, ◌++◌, map, Result, Ok, Err}
use Rattle.c_tree.specs.declared.file.CConstant.{CConstant}
use Rattle.c_tree.specs.Objects.{Object, bytes_of_number}
use Rattle.c_tree.specs.Declarations.{filled}
use Rattle.c_tree.specs.Linking as tree
use Rattle.c_tree.specs.Linking.{Program}
use Rattle.expression_linker.specs.declared.failure.LinkFail.{LinkFail}
use Rattle.expression_linker.specs.declared.failure.LinkFail.TheVariants as fail
use Rattle.linked_programs.specs.declared.functions.LinkedFunction.{LinkedFunction}
use Rattle.linked_programs.specs.declared.objects.LinkedObject.{LinkedObject}
use Rattle.linked_programs.specs.LinkedPrograms.{object_of, function_of}
use Rattle.known_code.specs.LostCode.{some_code_lost}

-- the object of a constant
abbrev pub constant_object : CConstant → Object
constant_object constant = filled 4 (bytes_of_number constant.value)

-- a part of one function
abbrev pub alone : tree.LinkedFunction → Program
alone linked = record { functions = linked.function ∷ []; objects = linked.objects }

-- the functions and objects of a part stand behind those before
pub record StandBehind (own : ℕ) (part : Program) (functions functions' : List LinkedFunction) (objects objects' : List LinkedObject) : Type 0 where
  pub functions_stand : map (function_of own) functions' ≡ map (function_of own) functions ++ part.functions
  pub objects_stand : map object_of objects' ≡ map object_of objects ++ part.objects

-- they do, or an item of one of the functions links nothing; want of memory says nothing
abbrev pub LinksPart : ℕ → Result (Unit {0}) LinkFail → Program → List LinkedFunction → List LinkedFunction → List LinkedObject → List LinkedObject → Type 0
LinksPart own (Ok done) part functions functions' objects objects' = StandBehind own part functions functions' objects objects'
LinksPart own (Err fail.Unknown) part functions functions' objects objects' = some_code_lost part.functions ≡ true
LinksPart own (Err fail.Memory) part functions functions' objects objects' = Unit {0}
