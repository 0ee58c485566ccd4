-- Strings of fields and of declarations, as loops find and count them.
use Rattle.std.proofs.Common.{◌≡◌, ap, sym, ◌∙◌, ℕ, suc, ◌+◌, List, [], ◌∷◌, ◌++◌, length, append_assoc, zero-add, arith}
use Rattle.c_tree.specs.declared.types.ListType.{ListType}
use Rattle.c_tree.specs.declared.declaration.CField.{CField}
use Rattle.c_tree.specs.declared.declaration.CField.TheVariants as given
use Rattle.c_tree.specs.declared.declaration.CLocal.{CLocal}
use Rattle.c_tree.specs.declared.declaration.CLocal.TheVariants as local
use Rattle.c_tree.specs.Declarations.{field_strings, declared_statics}
use Rattle.c_tree.specs.Linking.{strings_of}
use Rattle.declared_objects.proofs.FieldLaws.{list-strings}
use Rattle.function_linker.proofs.DeclarationLaws.{string-lists-append}

one_by_one : (n : ℕ) → suc n ≡ 1 + n
one_by_one n = omega arith

pub fields-count : (one : CField) (later : List CField) → length (field_strings (one ∷ later)) ≡ length (field_strings (one ∷ [])) + length (field_strings later)
fields-count (given.Str bytes) later = one_by_one (length (field_strings later))
fields-count (given.Number number) later = sym (zero-add (length (field_strings later)))
fields-count (given.Name name) later = sym (zero-add (length (field_strings later)))

pub list-count : (type : ListType) (name : List ℕ) (fields : List CField) → length (strings_of (declared_statics (local.StaticList type name fields ∷ []))) ≡ length (field_strings fields)
list-count type name fields = ap length (list-strings type name fields)

pub lists-one : (before : List (List ℕ)) (one : CLocal) (later : List CLocal) →
    before ++ strings_of (declared_statics (one ∷ later)) ≡ (before ++ strings_of (declared_statics (one ∷ []))) ++ strings_of (declared_statics later)
lists-one before one later =
    ap (λ zs. before ++ zs) (string-lists-append (one ∷ []) later) ∙ sym (append_assoc before (strings_of (declared_statics (one ∷ []))) (strings_of (declared_statics later)))

pub ruleset count_laws = (fields-count)

pub ruleset list_laws = (list-count)

pub ruleset strings_laws = (lists-one)
