-- The names in scope behind declarations of a function, which hide those that are known before (C89, 3.1.2.1).
use Rattle.std.specs.Prelude.{◌≡◌, ℕ, List}
use Rattle.c_tree.specs.declared.declaration.CLocal.{CLocal}
use Rattle.c_tree.specs.Drafts.{Scope}
use Rattle.c_tree.specs.Declarations.{declared_statics, declared_automatics, declared_externs}
use Rattle.c_tree.specs.Linking.{Routines, known_objects, known_functions}
use Rattle.first_names.specs.FirstNames.{first_of}
use Rattle.first_names.specs.declared.FirstNames.{FirstNames}
use Rattle.expression_linker.specs.NamesInScope.{term_or}
use Rattle.expression_linker.specs.declared.scope.NameScope.{NameScope}
use Rattle.expression_linker.specs.declared.things.NamedThing.{NamedThing}
use Rattle.declared_names.specs.Hiding.{Hides}
use Rattle.function_linker.specs.LinkedFunctions.{file_names}
use Rattle.function_linker.specs.declared.numbers.NextNumbers.{NextNumbers}

-- the names of a table, around which others are known
abbrev pub around : FirstNames NamedThing → Scope → Scope
around names outer q = term_or (first_of names q) (outer q)

-- the names in scope behind declarations
unfoldable pub scope_behind : Routines → NameScope → NextNumbers → List CLocal → Scope
scope_behind numbers names at before =
    around names.lasting (known_objects at.lasting (declared_statics before)
    (around names.frame (known_objects at.frame (declared_automatics before)
    (around names.functions (known_functions numbers (declared_externs before) (file_names names))))))

-- the names that declarations give are in their tables
pub record GivesNames (numbers : Routines) (at : NextNumbers) (given : List CLocal) (before now : NameScope) : Type 0 where
  pub lasting : Hides before.lasting now.lasting (known_objects at.lasting (declared_statics given))
  pub frame : Hides before.frame now.frame (known_objects at.frame (declared_automatics given))
  pub functions : Hides before.functions now.functions (known_functions numbers (declared_externs given))
  pub file : (q : List ℕ) → first_of now.file q ≡ first_of before.file q
