-- What the locals of a unit declare, by their names.
use Rattle.std.specs.Prelude.{◌≡◌, ℕ, zero, suc, true, List, [], ◌∷◌, ◌++◌, map, Option, Some, None}
use Rattle.std.proofs.Common.{refl, sym, ap, ◌∙◌}
use Rattle.std.proofs.lemmas.List.{append-nil}
use Rattle.unit_places.specs.f_tree.CNames.{variable_name, made_name, NumberTemporary}
use Rattle.unit_places.specs.c_tree.declared.types.NumberType.{NumberType}
use Rattle.unit_places.specs.c_tree.declared.types.ParameterType.{ParameterType}
use Rattle.unit_places.specs.c_tree.declared.types.ParameterType.TheVariants as parameter
use Rattle.unit_places.specs.c_tree.declared.declaration.CLocal.{CLocal}
use Rattle.unit_places.specs.c_tree.Access.{ToNumber, ToPointer, ToFunction}
use Rattle.unit_places.specs.c_tree.Declarations.{Declared, parameter_access, declared_parameter, declared_parameters, declared_automatics, declared_externs}
use Rattle.unit_places.proofs.main_file_laws.Listed.{temporaries, externs_listed}
use Rattle.unit_places.specs.linking_laws.Linked.{names_of}
use Rattle.unit_places.specs.main_file.MainFile.{temporary_names}
use Rattle.unit_places.specs.procedure_emission.EmittedUnits.{is_number_pointer, is_function_pointer}
use Rattle.unit_places.specs.unit_file.UnitFile.{Parameter, KeptBound, Callee, Inventory, variable_for, lists_from, temporaries_from, parameter_for, result_local, bound_name, bound_for, extern_for, unit_locals, result_names, framed_names}
use Rattle.unit_places.specs.unit_file.UnitNames.{called_names}
use Rattle.unit_places.proofs.Declared.{as_main, declared_result, declared_bound, declared_kept, framed_by, framed_are}

-- ## The frame

parameters_named : (ps : List Parameter) (behind : List Declared) → names_of (map (λ (p : Parameter). declared_parameter (parameter_for p)) ps ++ behind) ≡ map (λ (p : Parameter). variable_name p.name) ps ++ names_of behind
parameters_named [] behind = refl
parameters_named (p ∷ ps) behind = ap (λ ns. variable_name p.name ∷ ns) (parameters_named ps behind)

result_named : (type : Option NumberType) (behind : List Declared) → names_of (declared_result type ++ behind) ≡ result_names type ++ names_of behind
result_named None behind = refl
result_named (Some type) behind = refl

temporaries_named : (k n : ℕ) (behind : List Declared) → names_of (temporaries k n ++ behind) ≡ temporary_names k n ++ names_of behind
temporaries_named k zero behind = refl
temporaries_named k (suc n) behind = ap (λ ns. made_name (NumberTemporary k) ∷ ns) (temporaries_named (suc k) n behind)

bounds_named : (bounds : List KeptBound) → names_of (map declared_bound bounds) ≡ map bound_name bounds
bounds_named [] = refl
bounds_named (one ∷ bounds) = ap (λ ns. bound_name one ∷ ns) (bounds_named bounds)

framed_by_names : (v : Inventory) → names_of (framed_by v) ≡ framed_names v
framed_by_names v =
    parameters_named v.parameters (declared_result v.returned ++ declared_kept v)
    ∙ ap (λ ns. map (λ (p : Parameter). variable_name p.name) v.parameters ++ ns)
    (result_named v.returned (declared_kept v)
    ∙ ap (λ ns. result_names v.returned ++ ns) (temporaries_named 1 v.temporaries (map declared_bound v.bounds) ∙ ap (λ ns. temporary_names 1 v.temporaries ++ ns) (bounds_named v.bounds)))

pub framed_names_are : (v : Inventory) → names_of (declared_parameters (map parameter_for v.parameters) ++ declared_automatics (unit_locals v)) ≡ framed_names v
framed_names_are v = ap names_of (framed_are v) ∙ framed_by_names v

pub framed_names_by : (v : Inventory) → framed_names v ≡ names_of (framed_by v)
framed_names_by v = sym (framed_by_names v)

-- ## What is called

past_result : (type : Option NumberType) (behind : List CLocal) → declared_externs (result_local type ++ behind) ≡ declared_externs behind
past_result None behind = refl
past_result (Some type) behind = refl

past_temporaries : (k n : ℕ) (behind : List CLocal) → declared_externs (temporaries_from k n ++ behind) ≡ declared_externs behind
past_temporaries k zero behind = refl
past_temporaries k (suc n) behind = past_temporaries (suc k) n behind

past_bounds : (bounds : List KeptBound) (behind : List CLocal) → declared_externs (map bound_for bounds ++ behind) ≡ declared_externs behind
past_bounds [] behind = refl
past_bounds (one ∷ bounds) behind = past_bounds bounds behind

calls_first : (calls : List Callee) (behind : List CLocal) → declared_externs (map extern_for calls ++ behind) ≡ map (λ (call : Callee). call.name) calls ++ declared_externs behind
calls_first [] behind = refl
calls_first (c ∷ calls) behind = ap (λ ns. c.name ∷ ns) (calls_first calls behind)

pub externs_are : (v : Inventory) → declared_externs (unit_locals v) ≡ called_names v
externs_are v =
    past_result v.returned (temporaries_from 1 v.temporaries ++ (map bound_for v.bounds ++ (map extern_for v.calls ++ (map variable_for v.variables ++ lists_from 1 v.lists))))
    ∙ past_temporaries 1 v.temporaries (map bound_for v.bounds ++ (map extern_for v.calls ++ (map variable_for v.variables ++ lists_from 1 v.lists)))
    ∙ past_bounds v.bounds (map extern_for v.calls ++ (map variable_for v.variables ++ lists_from 1 v.lists))
    ∙ calls_first v.calls (map variable_for v.variables ++ lists_from 1 v.lists)
    ∙ ap (λ ns. called_names v ++ ns) (sym (past_temporaries 1 v.temporaries (map variable_for v.variables ++ lists_from 1 v.lists)) ∙ externs_listed (as_main v)) ∙ append-nil (called_names v)

-- ## Parameters

pub number_access : (type : ParameterType) → is_number_pointer type ≡ true → parameter_access type ≡ ToPointer ToNumber
unfolding is_number_pointer
number_access parameter.Integers h = refl
number_access parameter.Logicals h = refl
number_access parameter.Chars h = absurd (cc)
number_access parameter.Length h = absurd (cc)
number_access parameter.Int h = absurd (cc)
number_access (parameter.Function type) h = absurd (cc)

pub function_access : (type : ParameterType) → is_function_pointer type ≡ true → parameter_access type ≡ ToFunction
unfolding is_function_pointer
function_access (parameter.Function type) h = refl
function_access parameter.Integers h = absurd (cc)
function_access parameter.Logicals h = absurd (cc)
function_access parameter.Chars h = absurd (cc)
function_access parameter.Length h = absurd (cc)
function_access parameter.Int h = absurd (cc)
