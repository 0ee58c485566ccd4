-- The scope behind declarations in their order, and the names that they declare (C89, 3.1.2.1).
use Rattle.std.specs.Prelude.{ℕ, Bool, true, false, not, ◌&&◌, List, [], ◌∷◌, Option, Some, None, is_some, bytes_eq}
use Rattle.std.specs.Map.{lookup}
use Rattle.std.specs.Borrow.{Bor}
use Rattle.c_lexer.specs.c_tree.CExpressionText.{Scope}
use Rattle.c_lexer.specs.c_tree.CDeclarationText.{with_object, with_array, with_function, with_pointer}
use Rattle.c_scope.specs.declared.class.NameClass.{NameClass}
use Rattle.c_scope.specs.declared.class.NameClass.TheVariants as class

-- names with their classes, in the order of their declarations
abbrev pub Names : Type 0
Names = List (Bor (List ℕ) × NameClass)

-- the scope with a name of a class
unfoldable pub with_name : NameClass → List ℕ → Scope → Scope
with_name class.Object name scope = with_object name scope
with_name class.Array name scope = with_array name scope
with_name class.Function name scope = with_function name scope
with_name class.Pointer name scope = with_pointer name scope

-- the scope behind declarations
unfoldable pub behind : Names → Scope → Scope
behind [] scope = scope
behind (one ∷ later) scope = behind later (with_name one.1 one.0.now scope)

-- the names declared before and by these declarations, the last one first
unfoldable pub declared : Names → List (List ℕ) → List (List ℕ)
declared [] here = here
declared (one ∷ later) here = declared later (one.0.now ∷ here)

-- the class of a name
abbrev pub class_in : List ℕ → Names → Option NameClass
class_in name names = lookup (λ key. bytes_eq name key.now) names

-- no name is declared twice
unfoldable pub stand_once : Names → Bool
stand_once [] = true
stand_once (one ∷ later) = not (is_some (class_in one.0.now later)) && stand_once later

-- a class, or the one outside where there is none
abbrev pub or_outside : Option NameClass → Option NameClass → Option NameClass
or_outside (Some of) outside = Some of
or_outside None outside = outside

-- whether a name of a class is an object, a function, a parameter that points to one, or lasts for the whole run
abbrev pub is_object : Option NameClass → Bool
is_object None = false
is_object (Some class.Function) = false
is_object (Some other) = true

abbrev pub is_function : Option NameClass → Bool
is_function (Some class.Function) = true
is_function other = false

abbrev pub is_pointer : Option NameClass → Bool
is_pointer (Some class.Pointer) = true
is_pointer other = false

abbrev pub is_array : Option NameClass → Bool
is_array (Some class.Array) = true
is_array other = false
