-- What the parameters and the locals of a unit's function declare.
use Rattle.std.specs.Prelude.{◌≡◌, ℕ, zero, suc, ◌+◌, ◌<◌, List, [], ◌∷◌, ◌++◌, map, length, Option, Some, None, slice_get}
use Rattle.std.proofs.Common.{refl, sym, ap, ◌∙◌, arith}
use Rattle.std.proofs.lemmas.List.{append-nil, length-append, length-map}
use Rattle.main_file_laws.specs.f_tree.CNames.{variable_name, made_name, FunctionResult}
use Rattle.main_file_laws.specs.c_tree.declared.types.NumberType.{NumberType}
use Rattle.main_file_laws.specs.c_tree.declared.declaration.CLocal.{CLocal}
use Rattle.main_file_laws.specs.c_tree.Access.{ToNumber}
use Rattle.main_file_laws.specs.c_tree.Declarations.{Declared, made, unset, variable, declared_parameter, declared_parameters, declared_statics, declared_automatics}
use Rattle.main_file_laws.specs.c_tree.Linking.{strings_of, parameter_types}
use Rattle.main_file_laws.specs.main_file.MainFile as main
use Rattle.main_file_laws.specs.main_file.MainFile.{variable_by, main_locals}
use Rattle.main_file_laws.proofs.linking_laws.Places.{get_front, get_back, map_at}
use Rattle.main_file_laws.proofs.Listed.{declared_variable, declared_listing, declared_temporary, temporaries, statics_count, no_strings, lasting_names_are, variable_at, listing_at}
use Rattle.main_file_laws.specs.linking_laws.Linked.{names_of}
use Rattle.unit_sites.specs.unit_file.UnitFile.{Variable, Listing, Parameter, KeptBound, Callee, Inventory, variable_for, lists_from, temporaries_from, parameter_for, result_local, bound_name, bound_for, extern_for, unit_locals, result_count, frame_count, lasting_names}

-- the same variables, lists and temporaries in a main program that calls nothing
abbrev pub as_main : Inventory → main.Inventory
as_main v = record { constants = []; variables = v.variables; lists = v.lists; temporaries = v.temporaries; calls = []; strings = v.strings; texts = v.texts }

abbrev lasting_locals : Inventory → List CLocal
lasting_locals v = map variable_for v.variables ++ lists_from 1 v.lists

-- ## The objects that last

past_result : (type : Option NumberType) (behind : List CLocal) → declared_statics (result_local type ++ behind) ≡ declared_statics behind
past_result None behind = refl
past_result (Some type) behind = refl

past_temporaries : (k n : ℕ) (behind : List CLocal) → declared_statics (temporaries_from k n ++ behind) ≡ declared_statics behind
past_temporaries k zero behind = refl
past_temporaries k (suc n) behind = past_temporaries (suc k) n behind

past_bounds : (bounds : List KeptBound) (behind : List CLocal) → declared_statics (map bound_for bounds ++ behind) ≡ declared_statics behind
past_bounds [] behind = refl
past_bounds (one ∷ bounds) behind = past_bounds bounds behind

past_externs : (calls : List Callee) (behind : List CLocal) → declared_statics (map extern_for calls ++ behind) ≡ declared_statics behind
past_externs [] behind = refl
past_externs (c ∷ calls) behind = past_externs calls behind

pub statics_are : (v : Inventory) → declared_statics (unit_locals v) ≡ declared_statics (main_locals (as_main v))
statics_are v =
    past_result v.returned (temporaries_from 1 v.temporaries ++ (map bound_for v.bounds ++ (map extern_for v.calls ++ lasting_locals v)))
    ∙ past_temporaries 1 v.temporaries (map bound_for v.bounds ++ (map extern_for v.calls ++ lasting_locals v))
    ∙ past_bounds v.bounds (map extern_for v.calls ++ lasting_locals v)
    ∙ past_externs v.calls (lasting_locals v)
    ∙ sym (past_temporaries 1 v.temporaries (lasting_locals v))

pub unit_strings : (v : Inventory) → strings_of (declared_statics (unit_locals v)) ≡ []
unit_strings v = ap strings_of (statics_are v) ∙ no_strings (as_main v)

pub unit_statics_count : (v : Inventory) → length (declared_statics (unit_locals v)) ≡ length v.variables + length v.lists
unit_statics_count v = ap length (statics_are v) ∙ statics_count (as_main v)

pub unit_lasting_names : (v : Inventory) → names_of (declared_statics (unit_locals v)) ≡ lasting_names v
unit_lasting_names v = ap names_of (statics_are v) ∙ lasting_names_are (as_main v)

pub unit_variable : (v : Inventory) (i : ℕ) (one : Variable) → slice_get v.variables i ≡ Some one → slice_get (declared_statics (unit_locals v)) i ≡ Some (declared_variable one)
unit_variable v i one at = ap (λ ds. slice_get ds i) (statics_are v) ∙ variable_at (as_main v) i one at

pub unit_listing : (v : Inventory) (i : ℕ) (l : Listing) → slice_get v.lists i ≡ Some l → slice_get (declared_statics (unit_locals v)) (length v.variables + i) ≡ Some (declared_listing (1 + i) l)
unit_listing v i l at = ap (λ ds. slice_get ds (length v.variables + i)) (statics_are v) ∙ listing_at (as_main v) i l at

-- ## The frame

abbrev pub declared_result : Option NumberType → List Declared
declared_result None = []
declared_result (Some type) = made (made_name FunctionResult) (variable ToNumber) (unset 4) ∷ []

result_first : (type : Option NumberType) (behind : List CLocal) → declared_automatics (result_local type ++ behind) ≡ declared_result type ++ declared_automatics behind
result_first None behind = refl
result_first (Some type) behind = refl

none_of_externs : (calls : List Callee) (behind : List CLocal) → declared_automatics (map extern_for calls ++ behind) ≡ declared_automatics behind
none_of_externs [] behind = refl
none_of_externs (c ∷ calls) behind = none_of_externs calls behind

temporaries_first : (k n : ℕ) (behind : List CLocal) → declared_automatics (temporaries_from k n ++ behind) ≡ temporaries k n ++ declared_automatics behind
temporaries_first k zero behind = refl
temporaries_first k (suc n) behind = ap (λ ds. declared_temporary k ∷ ds) (temporaries_first (suc k) n behind)

abbrev pub declared_bound : KeptBound → Declared
declared_bound one = made (bound_name one) (variable ToNumber) (unset 4)

bounds_first : (bounds : List KeptBound) (behind : List CLocal) → declared_automatics (map bound_for bounds ++ behind) ≡ map declared_bound bounds ++ declared_automatics behind
bounds_first [] behind = refl
bounds_first (one ∷ bounds) behind = ap (λ ds. declared_bound one ∷ ds) (bounds_first bounds behind)

none_of_variable : (count : Option ℕ) (type : NumberType) (name : List ℕ) (behind : List CLocal) → declared_automatics (variable_by type name count ∷ behind) ≡ declared_automatics behind
none_of_variable None type name behind = refl
none_of_variable (Some count) type name behind = refl

none_of_variables : (vs : List Variable) (behind : List CLocal) → declared_automatics (map variable_for vs ++ behind) ≡ declared_automatics behind
none_of_variables [] behind = refl
none_of_variables (one ∷ vs) behind = none_of_variable one.count one.type (variable_name one.name) (map variable_for vs ++ behind) ∙ none_of_variables vs behind

none_of_lists : (k : ℕ) (ls : List Listing) → declared_automatics (lists_from k ls) ≡ []
none_of_lists k [] = refl
none_of_lists k (l ∷ ls) = none_of_lists (suc k) ls

-- the automatic objects behind the result: temporaries, and kept bounds
abbrev pub declared_kept : Inventory → List Declared
declared_kept v = temporaries 1 v.temporaries ++ map declared_bound v.bounds

pub unit_automatics : (v : Inventory) → declared_automatics (unit_locals v) ≡ declared_result v.returned ++ declared_kept v
unit_automatics v =
    result_first v.returned (temporaries_from 1 v.temporaries ++ (map bound_for v.bounds ++ (map extern_for v.calls ++ lasting_locals v)))
    ∙ ap (λ ds. declared_result v.returned ++ ds)
    (temporaries_first 1 v.temporaries (map bound_for v.bounds ++ (map extern_for v.calls ++ lasting_locals v))
    ∙ ap (λ ds. temporaries 1 v.temporaries ++ ds)
    (bounds_first v.bounds (map extern_for v.calls ++ lasting_locals v)
    ∙ ap (λ ds. map declared_bound v.bounds ++ ds) (none_of_externs v.calls (lasting_locals v) ∙ none_of_variables v.variables (lists_from 1 v.lists) ∙ none_of_lists 1 v.lists)
    ∙ append-nil (map declared_bound v.bounds)))

pub parameters_declared : (ps : List Parameter) → declared_parameters (map parameter_for ps) ≡ map (λ (p : Parameter). declared_parameter (parameter_for p)) ps
parameters_declared [] = refl
parameters_declared (p ∷ ps) = ap (λ ds. declared_parameter (parameter_for p) ∷ ds) (parameters_declared ps)

pub types_are : (ps : List Parameter) → parameter_types (map parameter_for ps) ≡ map (λ (p : Parameter). p.type) ps
types_are [] = refl
types_are (p ∷ ps) = ap (λ ts. p.type ∷ ts) (types_are ps)

abbrev pub framed_by : Inventory → List Declared
framed_by v = map (λ (p : Parameter). declared_parameter (parameter_for p)) v.parameters ++ (declared_result v.returned ++ declared_kept v)

pub framed_are : (v : Inventory) → declared_parameters (map parameter_for v.parameters) ++ declared_automatics (unit_locals v) ≡ framed_by v
framed_are v = (λ i. parameters_declared v.parameters i ++ unit_automatics v i)

pub result_many : (type : Option NumberType) → length (declared_result type) ≡ result_count type
result_many None = refl
result_many (Some type) = refl

temporaries_many : (k n : ℕ) → length (temporaries k n) ≡ n
temporaries_many k zero = refl
temporaries_many k (suc n) = ap suc (temporaries_many (suc k) n)

pub framed_many : (v : Inventory) → length (framed_by v) ≡ frame_count v
framed_many v =
    let one = length-append (map (λ (p : Parameter). declared_parameter (parameter_for p)) v.parameters) (declared_result v.returned ++ declared_kept v) in
    let two = length-append (declared_result v.returned) (declared_kept v) in
    let three = length-append (temporaries 1 v.temporaries) (map declared_bound v.bounds) in
    let parameters = length-map v.parameters (λ (p : Parameter). declared_parameter (parameter_for p)) in
    let result = result_many v.returned in
    let kept = temporaries_many 1 v.temporaries in
    let bounds = length-map v.bounds declared_bound in
    omega (arith, one, two, three, parameters, result, kept, bounds)

pub framed_parameter : (v : Inventory) (i : ℕ) (one : Parameter) → slice_get v.parameters i ≡ Some one → slice_get (framed_by v) i ≡ Some (declared_parameter (parameter_for one))
framed_parameter v i one at =
    get_front (map (λ (p : Parameter). declared_parameter (parameter_for p)) v.parameters) (declared_result v.returned ++ declared_kept v) i (declared_parameter (parameter_for one))
    (map_at (λ (p : Parameter). declared_parameter (parameter_for p)) v.parameters i one at)

result_at : (type : Option NumberType) (one : NumberType) → type ≡ Some one → slice_get (declared_result type) 0 ≡ Some (made (made_name FunctionResult) (variable ToNumber) (unset 4))
result_at (Some type) one is = refl
result_at None one is = absurd (cc)

pub framed_result : (v : Inventory) (type : NumberType) → v.returned ≡ Some type → slice_get (framed_by v) (length v.parameters) ≡ Some (made (made_name FunctionResult) (variable ToNumber) (unset 4))
framed_result v type is =
    let parameters = length-map v.parameters (λ (p : Parameter). declared_parameter (parameter_for p)) in
    get_back (map (λ (p : Parameter). declared_parameter (parameter_for p)) v.parameters) (declared_result v.returned ++ declared_kept v) (length v.parameters) 0 _ (omega (arith, parameters))
    (get_front (declared_result v.returned) (declared_kept v) 0 _ (result_at v.returned type is))

temporary_from : (k n i : ℕ) → i < n → slice_get (temporaries k n) i ≡ Some (declared_temporary (k + i))
temporary_from k zero i below = absurd (let no : ⊥ = omega (arith, below) in no)
temporary_from k (suc n) zero below = ap (λ m. Some (declared_temporary m)) {x = k} {y = k + 0} (omega arith)
temporary_from k (suc n) (suc i) below = temporary_from (suc k) n i (omega (arith, below)) ∙ ap (λ m. Some (declared_temporary m)) {x = suc k + i} {y = k + suc i} (omega arith)

-- an object behind the result
framed_behind : (v : Inventory) (k : ℕ) (d : Declared) → slice_get (declared_kept v) k ≡ Some d → slice_get (framed_by v) (length v.parameters + (result_count v.returned + k)) ≡ Some d
framed_behind v k d at =
    let parameters = length-map v.parameters (λ (p : Parameter). declared_parameter (parameter_for p)) in
    let result = result_many v.returned in
    get_back (map (λ (p : Parameter). declared_parameter (parameter_for p)) v.parameters) (declared_result v.returned ++ declared_kept v) (length v.parameters + (result_count v.returned + k)) (result_count v.returned + k) d
    (omega (arith, parameters)) (get_back (declared_result v.returned) (declared_kept v) (result_count v.returned + k) k d (omega (arith, result)) at)

pub framed_temporary : (v : Inventory) (k : ℕ) → k < v.temporaries → slice_get (framed_by v) (length v.parameters + (result_count v.returned + k)) ≡ Some (declared_temporary (1 + k))
framed_temporary v k below = framed_behind v k (declared_temporary (1 + k)) (get_front (temporaries 1 v.temporaries) (map declared_bound v.bounds) k (declared_temporary (1 + k)) (temporary_from 1 v.temporaries k below))

pub framed_bound : (v : Inventory) (i : ℕ) (one : KeptBound) → slice_get v.bounds i ≡ Some one → slice_get (framed_by v) (length v.parameters + (result_count v.returned + (v.temporaries + i))) ≡ Some (declared_bound one)
framed_bound v i one at =
    let kept = temporaries_many 1 v.temporaries in
    framed_behind v (v.temporaries + i) (declared_bound one)
    (get_back (temporaries 1 v.temporaries) (map declared_bound v.bounds) (v.temporaries + i) i (declared_bound one) (omega (arith, kept)) (map_at declared_bound v.bounds i one at))
