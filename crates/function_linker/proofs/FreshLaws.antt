-- The objects of a call, by what declares them.
use Rattle.std.proofs.Common.{◌≡◌, refl, ap, sym, ◌∙◌, ◌*◌, List, [], ◌∷◌, ◌++◌, append_assoc}
use Rattle.c_tree.specs.declared.declaration.CParam.{CParam}
use Rattle.c_tree.specs.declared.declaration.CLocal.{CLocal}
use Rattle.c_tree.specs.declared.declaration.CLocal.TheVariants as local
use Rattle.c_tree.specs.Access.{ToChar, ToPointer}
use Rattle.c_tree.specs.Objects.{Object}
use Rattle.c_tree.specs.Drafts.{Scope}
use Rattle.c_tree.specs.Declarations.{parameter_object, unset, unset_values, declared_parameters, declared_automatics}
use Rattle.c_tree.specs.Linking.{objects_of}
use Rattle.function_linker.specs.FreshObjects.{parameter_objects, automatic_objects}

pub no-parameters : parameter_objects [] ≡ []
unfolding parameter_objects
no-parameters = refl

pub parameters-one : (one : CParam) (later : List CParam) → parameter_objects (one ∷ later) ≡ parameter_object one.of ∷ parameter_objects later
unfolding parameter_objects
parameters-one one later = refl

pub no-automatics : automatic_objects [] ≡ []
unfolding automatic_objects
no-automatics = refl

automatic_first : (one : CLocal) (later : List CLocal) → automatic_objects (one ∷ later) ≡ automatic_objects (one ∷ []) ++ automatic_objects later
unfolding automatic_objects
automatic_first (local.Extern result name types) later = refl
automatic_first (local.StaticNumber type name value) later = refl
automatic_first (local.StaticNumbers type name count image) later = refl
automatic_first (local.StaticChars name size text) later = refl
automatic_first (local.StaticList type name fields) later = refl
automatic_first (local.Number type name) later = refl
automatic_first (local.Numbers type name count) later = refl
automatic_first (local.Chars name size) later = refl
automatic_first (local.Addresses name count) later = refl

pub automatics-more : (before : List Object) (one : CLocal) (later : List CLocal) → before ++ automatic_objects (one ∷ later) ≡ (before ++ automatic_objects (one ∷ [])) ++ automatic_objects later
automatics-more before one later = ap (λ zs. before ++ zs) (automatic_first one later) ∙ sym (append_assoc before (automatic_objects (one ∷ [])) (automatic_objects later))

pub ruleset fresh_laws = (no-parameters, parameters-one, no-automatics, automatics-more)

automatics-in : (scope : Scope) (locals : List CLocal) → objects_of scope 0 (declared_automatics locals) ≡ automatic_objects locals
unfolding automatic_objects
automatics-in scope [] = refl
automatics-in scope (local.Extern result name types ∷ later) = automatics-in scope later
automatics-in scope (local.StaticNumber type name value ∷ later) = automatics-in scope later
automatics-in scope (local.StaticNumbers type name count image ∷ later) = automatics-in scope later
automatics-in scope (local.StaticChars name size text ∷ later) = automatics-in scope later
automatics-in scope (local.StaticList type name fields ∷ later) = automatics-in scope later
automatics-in scope (local.Number type name ∷ later) = ap (λ zs. unset 4 ∷ zs) (automatics-in scope later)
automatics-in scope (local.Numbers type name count ∷ later) = ap (λ zs. unset (4 * count) ∷ zs) (automatics-in scope later)
automatics-in scope (local.Chars name size ∷ later) = ap (λ zs. unset size ∷ zs) (automatics-in scope later)
automatics-in scope (local.Addresses name count ∷ later) = ap (λ zs. unset_values (ToPointer ToChar) count ∷ zs) (automatics-in scope later)

-- the objects of a call are the same under all names
pub fresh-in : (scope : Scope) (params : List CParam) (locals : List CLocal) → objects_of scope 0 (declared_parameters params ++ declared_automatics locals) ≡ parameter_objects params ++ automatic_objects locals
unfolding parameter_objects
fresh-in scope [] locals = automatics-in scope locals
fresh-in scope (param ∷ later) locals = ap (λ zs. parameter_object param.of ∷ zs) (fresh-in scope later locals)
