-- The prototypes of a well-formed C tree are ones that lines may say.
use Rattle.std.proofs.Common.{◌≡◌, ℕ, Bool, true, false, List, [], ◌∷◌, refl, sym, ap, subst, ◌∙◌, map}
use Rattle.std.specs.Prelude.{not, filter, Result, Ok, Err, IfOk, if◌then◌else◌}
use Rattle.std.specs.List.{list_all}
use Rattle.std.proofs.lemmas.Bool.{and_from}
use Rattle.c_tree.specs.declared.declaration.CParam.{CParam}
use Rattle.c_tree.specs.declared.file.CFunction.{CFunction}
use Rattle.c_tree.specs.declared.file.CObject.{CObject}
use Rattle.c_tree.specs.declared.file.CConstant.{CConstant}
use Rattle.c_tree.specs.declared.file.CFile.{CFile}
use Rattle.c_tree.specs.Tokens.{Token}
use Rattle.c_tree.specs.CWords.{is_among, is_name}
use Rattle.c_tree.specs.CExpressionText.{Scope}
use Rattle.c_tree.specs.CDeclarationText.{IsNew, ReadsParams, no_parameter, last_parameter, one_parameter}
use Rattle.c_tree.specs.CText.{ReadsFunction, a_function, ReadsFunctions, no_function, one_function, ReadsParts, only_functions, one_constant, one_object, WellFormed}
use Rattle.prototypes.specs.declared.prototype.Prototype.{Prototype}
use Rattle.prototypes.specs.PrototypeText.{are_parameters, is_prototype}
use Rattle.prototypes.specs.TreePrototypes.{is_called_outside, function_prototype, function_prototypes, tree_prototypes}
use Rattle.prototype_laws.proofs.TreeLemmas.{same_prototypes}
use Rattle.proto_file.specs.Lists.{AreOfItsFile}
use Rattle.proto_file.specs.Parts.{is_new}
use Rattle.proto_file.proofs.LineSteps.{named-none, named-more}

new_name : (before : List (List ℕ)) (name : List ℕ) → IsNew name before → is_new before name ≡ true
unfolding is_new
new_name before name one = and_from (is_name name) (not (is_among name before)) one.named (ap not one.fresh)

params_told : {scope last : Scope} {here names : List (List ℕ)} {params : List CParam} {p q : List Token} → ReadsParams scope here params last names p q
    → are_parameters here params ≡ true
params_told (no_parameter scope here word) = named-none here
params_told (last_parameter scope here of name type word one) =
    named-more here (record { of = of; name = name }) [] (new_name here name one) ∙ named-none (name ∷ here)
params_told (one_parameter scope last here names of name {next} {later} type word one comma rest) =
    named-more here (record { of = of; name = name }) (next ∷ later) (new_name here name one) ∙ params_told rest

function_told : {scope : Scope} {f : CFunction} {p q : List Token} → ReadsFunction scope f p q → is_name f.name ≡ true → is_prototype (function_prototype f) ≡ true
unfolding is_prototype function_prototype
function_told (a_function of name {params} meets gives word opening reads closing brace locals body) named =
    and_from (is_name name) (are_parameters [] params) named (params_told reads)

told_by : (f : CFunction) (fs : List CFunction) (t : Bool) → is_prototype (function_prototype f) ≡ true
    → list_all is_prototype (map function_prototype (filter (λ x. is_called_outside x.name) fs)) ≡ true
    → list_all is_prototype (map function_prototype (if t then f ∷ filter (λ x. is_called_outside x.name) fs else filter (λ x. is_called_outside x.name) fs)) ≡ true
told_by f fs true h k =
    and_from (is_prototype (function_prototype f)) (list_all is_prototype (map function_prototype (filter (λ x. is_called_outside x.name) fs))) h k
told_by f fs false h k = k

functions_told : {scope : Scope} {here : List (List ℕ)} {fs : List CFunction} {p : List Token} → ReadsFunctions scope here fs p
    → list_all is_prototype (map function_prototype (filter (λ x. is_called_outside x.name) fs)) ≡ true
functions_told (no_function scope here) = refl
functions_told (one_function scope here {first} {later} reads one rest) =
    told_by first later (is_called_outside first.name) (function_told reads one.named) (functions_told rest)

parts_told : {scope : Scope} {here : List (List ℕ)} {objects : List CObject} {constants : List CConstant} {fs : List CFunction} {p : List Token}
    → ReadsParts scope here objects constants fs p → list_all is_prototype (map function_prototype (filter (λ x. is_called_outside x.name) fs)) ≡ true
parts_told (only_functions scope here reads) = functions_told reads
parts_told (one_constant scope here reads one rest) = parts_told rest
parts_told (one_object scope here reads one rest) = parts_told rest

tree_told : (file : CFile) → WellFormed file → list_all is_prototype (tree_prototypes file) ≡ true
unfolding function_prototypes
tree_told file formed = parts_told formed.reads.parts

of_its_file : (tree : CFile) → AreOfItsFile tree (tree_prototypes tree)
of_its_file tree = λ options file has. same_prototypes options file tree has.functions

-- ## What is told of a tree

pub result_told : {E : Type 0} (tree : CFile) (r : Result (List Prototype) E) → IfOk r (λ ps. ps ≡ tree_prototypes tree)
    → IfOk r (λ ps. WellFormed tree → list_all is_prototype ps ≡ true)
result_told tree (Ok ps) h = λ formed. ap (list_all is_prototype) h ∙ tree_told tree formed
result_told tree (Err e) h = tt

pub result_of_its_file : {E : Type 0} (tree : CFile) (r : Result (List Prototype) E) → IfOk r (λ ps. ps ≡ tree_prototypes tree) → IfOk r (AreOfItsFile tree)
result_of_its_file tree (Ok ps) h = subst (AreOfItsFile tree) (sym h) (of_its_file tree)
result_of_its_file tree (Err e) h = tt
