-- The tree that a text spells keeps the rules on images and labels.
use Rattle.std.specs.Prelude.{◌≡◌, ℕ, ◌≤◌, nat_le, ℤ, Bool, true, ◌&&◌, List, [], ◌∷◌, ◌++◌, length, codes, Option, Some}
use Rattle.std.specs.List.{list_all}
use Rattle.std.proofs.Common.{refl, sym, subst, ⊎_elim, true≢false, lt_of_lt_of_le, lt_irrefl}
use Rattle.std.proofs.lemmas.Bool.Decides.{leb_tells}
use Rattle.c_tree.specs.declared.declaration.CField.TheVariants as field
use Rattle.c_tree.specs.declared.declaration.CLocal.{CLocal}
use Rattle.c_tree.specs.declared.file.CObject.{CObject}
use Rattle.c_tree.specs.declared.file.CConstant.{CConstant}
use Rattle.c_tree.specs.declared.file.CFunction.{CFunction}
use Rattle.c_tree.specs.declared.file.CFile.{CFile}
use Rattle.c_tree.specs.Access.{fields_of}
use Rattle.c_tree.specs.Tokens.{Token}
use Rattle.c_tree.specs.CWords.{is_among, last_item, one_item}
use Rattle.c_tree.specs.CLabels.{labels_meet}
use Rattle.c_tree.specs.CExpressionText.{Scope, IsKnown, declared_before, an_object, a_function, a_truth}
use Rattle.c_tree.specs.CDeclarationText as text
use Rattle.c_tree.specs.CText.{ReadsFunction, a_function, ReadsFunctions, no_function, one_function, ReadsParts, only_functions, one_constant, one_object, no_names, CText}
use Rattle.c_tree.specs.CGuards.{image_fits, has_value, object_fits, local_fits, function_fits, file_fits}

pub test-of-le : (m n : ℕ) → m ≤ n → nat_le m n ≡ true
test-of-le m n h = ⊎_elim (λ t. t.0) (λ t. absurd (lt_irrefl n (lt_of_lt_of_le t.1 h))) (leb_tells m n)

pub both-hold : (a b : Bool) → a ≡ true → b ≡ true → (a && b) ≡ true
both-hold a b h k = subst (λ x. (x && b) ≡ true) (sym h) k

pub some-value : {values : List ℤ} {p q : List Token} → text.ReadsValues values p q → has_value (Some values) ≡ true
some-value (last_item x a) = refl
some-value (one_item x a more) = refl

pub numbers-fit : {n : ℕ} {image : Option (List ℤ)} {p q : List Token} → text.ReadsNumbers n image p q → (image_fits n image && has_value image) ≡ true
numbers-fit (text.no_image a) = refl
numbers-fit {n = n} (text.an_image {values = values} h a b all c) =
    both-hold (image_fits n (Some values)) (has_value (Some values)) (test-of-le (length values) n h) (some-value all)

pub text-fits : {n : ℕ} {image : Option (List ℕ)} {p q : List Token} → text.ReadsText n image p q → image_fits n image ≡ true
text-fits (text.no_text a) = refl
text-fits {n = n} (text.a_text bytes h a b c) = test-of-le (length bytes) n h

pub object-fits : {one : CObject} {name : List ℕ} {p q : List Token} → text.ReadsObject one name p q → object_fits one ≡ true
object-fits (text.integers name n a b c) = numbers-fit c
object-fits (text.chars name n a b c) = text-fits c

pub static-fits : {scope : Scope} {one : CLocal} {name : List ℕ} {p q : List Token} → text.ReadsStatic scope one name p q → local_fits one ≡ true
static-fits (text.a_static of name a b c) = refl
static-fits (text.a_static_value of name a b c x d) = refl
static-fits (text.a_static_array of name n a b c) = numbers-fit c
static-fits (text.a_static_text name n a b c) = text-fits c
static-fits (text.a_text_of_its_length name bytes a b c d e f g) = refl
static-fits (text.a_list of name h a b c d (last_item {one = one} x y) e) = test-of-le (length (one ∷ [])) (length (fields_of of)) h
static-fits (text.a_list of name h a b c d (one_item {one = one} {later = later} x y z) e) = test-of-le (length (one ∷ later)) (length (fields_of of)) h

pub local-fits : {scope : Scope} {one : CLocal} {name : List ℕ} {p q : List Token} → text.ReadsLocal scope one name p q → local_fits one ≡ true
local-fits (text.an_extern of name a b c d types e) = refl
local-fits (text.static a x) = static-fits x
local-fits (text.a_number of name a b c) = refl
local-fits (text.an_array_of_numbers of name n a b c) = refl
local-fits (text.an_array_of_chars name n a b c) = refl
local-fits (text.an_array_of_addresses name n a b c) = refl

pub locals-fit : {scope : Scope} {here : List (List ℕ)} {all : List CLocal} {last : Scope} {p q : List Token}
    → text.ReadsLocals scope here all last p q → list_all local_fits all ≡ true
locals-fit (text.no_local scope here) = refl
locals-fit (text.one_local scope last here {one = one} {later = later} x h more) =
    both-hold (local_fits one) (list_all local_fits later) (local-fits x) (locals-fit more)

pub function-fits : {scope : Scope} {one : CFunction} {p q : List Token} → ReadsFunction scope one p q → function_fits one ≡ true
function-fits (a_function of name {locals = locals} {body = body} h a b c params d e all statements) =
    both-hold (list_all local_fits locals) (labels_meet body) (locals-fit all) h

pub functions-fit : {scope : Scope} {here : List (List ℕ)} {all : List CFunction} {p : List Token} → ReadsFunctions scope here all p → list_all function_fits all ≡ true
functions-fit (no_function scope here) = refl
functions-fit (one_function scope here {first = first} {later = later} one h more) =
    both-hold (function_fits first) (list_all function_fits later) (function-fits one) (functions-fit more)

pub parts-fit : {scope : Scope} {here : List (List ℕ)} {objects : List CObject} {constants : List CConstant} {functions : List CFunction} {p : List Token}
    → ReadsParts scope here objects constants functions p → (list_all object_fits objects && list_all function_fits functions) ≡ true
parts-fit (only_functions scope here all) = functions-fit all
parts-fit (one_constant scope here one h more) = parts-fit more
parts-fit (one_object scope here {first = first} {later = later} {functions = functions} one h more) =
    three (object_fits first) (list_all object_fits later) (list_all function_fits functions) (object-fits one) (parts-fit more)
  where
    three : (a b c : Bool) → a ≡ true → (b && c) ≡ true → ((a && b) && c) ≡ true
    three a b c h k = subst (λ x. ((x && b) && c) ≡ true) (sym h) k

-- of each text
pub text_fits_file : (bytes : List ℕ) (file : CFile) → CText bytes file → file_fits file ≡ true
text_fits_file bytes file spells = parts-fit spells.reads.parts

-- where nothing is declared, an expression may use the include line's names alone
pub unknown_name : (name : List ℕ) → IsKnown no_names name → is_among name (codes "TRUE_" ∷ codes "FALSE_" ∷ []) ≡ true
unknown_name name (declared_before (an_object h)) = absurd (true≢false (sym h))
unknown_name name (declared_before (a_function h)) = absurd (true≢false (sym h))
unknown_name name (a_truth h) = h

-- a name in a field is an address constant
pub constant_field : (scope : Scope) (name : List ℕ) (p q : List Token) → text.ReadsField scope (field.Name name) p q
    → is_among name (scope.arrays ++ scope.functions) ≡ true
constant_field scope name p q (text.a_start same h a) = h
