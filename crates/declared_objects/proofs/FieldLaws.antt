-- The strings of fields, as a loop finds them.
use Rattle.std.proofs.Common.{◌≡◌, refl, ap, sym, ◌∙◌, ℕ, List, [], ◌∷◌, ◌++◌, append_assoc}
use Rattle.c_tree.specs.declared.types.ListType.{ListType}
use Rattle.c_tree.specs.declared.declaration.CField.{CField}
use Rattle.c_tree.specs.declared.declaration.CField.TheVariants as given
use Rattle.c_tree.specs.declared.declaration.CLocal.TheVariants as local
use Rattle.c_tree.specs.Declarations.{field_strings, declared_statics}
use Rattle.c_tree.specs.Linking.{strings_of}

pub nothing_behind : (xs : List (List ℕ)) → xs ++ [] ≡ xs
nothing_behind [] = refl
nothing_behind (x ∷ xs) = ap (λ zs. x ∷ zs) (nothing_behind xs)

one_more : (one : CField) (later : List CField) → field_strings (one ∷ later) ≡ field_strings (one ∷ []) ++ field_strings later
one_more (given.Str bytes) later = refl
one_more (given.Number number) later = refl
one_more (given.Name name) later = refl

pub field-strings-one : (before : List (List ℕ)) (one : CField) (later : List CField) →
    before ++ field_strings (one ∷ later) ≡ (before ++ field_strings (one ∷ [])) ++ field_strings later
field-strings-one before one later = ap (λ zs. before ++ zs) (one_more one later) ∙ sym (append_assoc before (field_strings (one ∷ [])) (field_strings later))

pub list-strings : (type : ListType) (name : List ℕ) (fields : List CField) → strings_of (declared_statics (local.StaticList type name fields ∷ [])) ≡ field_strings fields
list-strings type name fields = nothing_behind (field_strings fields)

pub ruleset field_laws = (field-strings-one)

pub ruleset list_laws = (list-strings, nothing_behind)
