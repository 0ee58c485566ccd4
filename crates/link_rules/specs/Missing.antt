-- Functions that are declared and not defined, as a walk over declarations finds them (C89, 3.7).
use Rattle.std.specs.Prelude.{ℕ, ◌||◌, ◌&&◌, Bool, false, List, [], ◌∷◌, Option, Some, None, is_none, bytes_eq}
use Rattle.c_tree.specs.declared.declaration.CField.{CField}
use Rattle.c_tree.specs.declared.declaration.CLocal.{CLocal}
use Rattle.c_tree.specs.declared.declaration.CLocal.TheVariants as local
use Rattle.c_tree.specs.declared.statement.CStmt.{CStmt}
use Rattle.c_tree.specs.Declarations.{field_names}
use Rattle.c_tree.specs.FlatForm.{whole_body}
use Rattle.c_tree.specs.Linking.{any_of}

-- the function that a declaration names
abbrev pub extern_name : CLocal → Option (List ℕ)
extern_name (local.Extern result name types) = Some name
extern_name other = None

-- the fields of the list that a declaration makes
abbrev pub list_fields : CLocal → List CField
list_fields (local.StaticList type name fields) = fields
list_fields other = []

-- whether a name is one that is declared and lacking, once this one may be declared
abbrev pub lacking : (List ℕ → Option ℕ) → Option (List ℕ) → List ℕ → Bool → Bool
lacking numbers None q before = before
lacking numbers (Some name) q before = (bytes_eq q name && is_none (numbers q)) || before

-- whether a field of a list or the body mentions a name that is declared before and lacking, where those before are given
abbrev pub misses_from : (List ℕ → Option ℕ) → (List ℕ → Bool) → List CLocal → List CStmt → Bool
misses_from numbers before [] body = any_of before (whole_body body).items.names
misses_from numbers before (one ∷ later) body =
    any_of before (field_names (list_fields one)) || misses_from numbers (λ q. lacking numbers (extern_name one) q (before q)) later body

-- no name is lacking before the first declaration
abbrev pub none_before : List ℕ → Bool
none_before q = false
