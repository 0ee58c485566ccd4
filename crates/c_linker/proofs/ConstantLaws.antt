-- The objects of constants.
use Rattle.std.proofs.Common.{◌≡◌, refl, sym, ap, ◌∙◌, ℕ, ℤ, ◌+◌, ◌<◌, List, [], ◌∷◌, ◌++◌, append_assoc, length, get_or, map, drop}
use Rattle.std.proofs.lemmas.List.{map-append}
use Rattle.c_tree.specs.declared.file.CConstant.{CConstant}
use Rattle.c_tree.specs.Objects.{bytes_of_number}
use Rattle.c_tree.specs.Drafts.{Scope}
use Rattle.c_tree.specs.Declarations.{filled}
use Rattle.c_tree.specs.Linking.{declared_constants, objects_of}
use Rattle.linked_programs.specs.declared.objects.LinkedObject.{LinkedObject}
use Rattle.linked_programs.specs.LinkedPrograms.{object_of}
use Rattle.c_linker.specs.LinkedParts.{constant_object}
use Rattle.c_linker.proofs.HidingSteps.{next_one}

pub constants-made : (scope : Scope) (first : ℕ) (constants : List CConstant) → objects_of scope first (declared_constants constants) ≡ map constant_object constants
constants-made scope first [] = refl
constants-made scope first (constant ∷ later) = ap (λ z. constant_object constant ∷ z) (constants-made scope (first + 0) later)

pub constants-put : (before now next : List LinkedObject) (i : ℕ) (list : List CConstant) (a : CConstant) (value : ℤ) (made : LinkedObject) → i < length list → a ≡ get_or list i a → value ≡ a.value → next ≡ now ++ made ∷ [] →
    object_of made ≡ filled 4 (bytes_of_number value) →
    map object_of before ++ map constant_object list ≡ map object_of now ++ map constant_object (drop i list) → map object_of before ++ map constant_object list ≡ map object_of next ++ map constant_object (drop (i + 1) list)
constants-put before now next i list a value made inside is same pushed by all =
    all
    ∙ ap (λ z. map object_of now ++ map constant_object z) (next_one list i a inside is)
    ∙ ap (λ z. map object_of now ++ z ∷ map constant_object (drop (i + 1) list)) (ap (λ n. filled 4 (bytes_of_number n)) (sym same) ∙ sym by)
    ∙ sym (append_assoc (map object_of now) (object_of made ∷ []) (map constant_object (drop (i + 1) list)))
    ∙ ap (λ z. z ++ map constant_object (drop (i + 1) list)) (sym (map-append object_of now (made ∷ [])) ∙ ap (λ z. map object_of z) (sym pushed))
