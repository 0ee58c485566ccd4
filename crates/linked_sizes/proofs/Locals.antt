-- The bytes of the objects that a function of a unit declares.
use Rattle.std.specs.Prelude.{◌≡◌, ℕ, zero, suc, ◌+◌, ◌*◌, ◌-◌, ◌≤◌, List, [], ◌∷◌, ◌++◌, map, length, replicate, Option, Some, None}
use Rattle.std.proofs.Common.{refl, arith}
use Rattle.std.proofs.lemmas.List.{length-append, length-map, length-replicate}
use Rattle.main_file.specs.c_tree.declared.types.NumberType.{NumberType}
use Rattle.main_file.specs.c_tree.declared.types.NumberType.TheVariants as number_type
use Rattle.main_file.specs.c_tree.declared.types.ParameterType.{ParameterType}
use Rattle.main_file.specs.c_tree.declared.types.ParameterType.TheVariants as parameter
use Rattle.main_file.specs.c_tree.declared.declaration.CLocal.{CLocal}
use Rattle.main_file.specs.c_tree.declared.declaration.CLocal.TheVariants as local
use Rattle.main_file.specs.c_tree.Objects.{Object}
use Rattle.main_file.specs.c_tree.Drafts.{Scope}
use Rattle.main_file.specs.c_tree.Declarations.{filled, parameter_object, string_object, declared_parameters, declared_statics, declared_automatics}
use Rattle.main_file.specs.c_tree.Linking.{strings_of, objects_of, bytes_of_object, bytes_of_objects}
use Rattle.main_file.specs.c_tree.Linking as linking
use Rattle.unit_sites.specs.unit_file.UnitFile.{Variable, Listing, Parameter, KeptBound, Callee, Inventory, parameter_for, bound_for, extern_for, result_local, result_count, frame_count, unit_locals, variable_for, lists_from, temporaries_from}
use Rattle.main_file.specs.f_tree.CNames.{made_name, FunctionResult, NumberTemporary}
use Rattle.main_file.specs.MainFile.{list_for}
use Rattle.linked_sizes.specs.LinkedSizes.{count_bytes, variables_bytes}
use Rattle.built_strings.specs.BuiltStrings.{texts_bytes}

-- ## Objects

pub bytes_both : (xs ys : List Object) → bytes_of_objects (xs ++ ys) ≡ bytes_of_objects xs + bytes_of_objects ys
bytes_both [] ys = (let e : bytes_of_objects ys ≡ 0 + bytes_of_objects ys = omega arith in e)
bytes_both (x ∷ xs) ys = let more = bytes_both xs ys in (let e : bytes_of_object x + bytes_of_objects (xs ++ ys) ≡ bytes_of_object x + bytes_of_objects xs + bytes_of_objects ys = omega (arith, more) in e)

-- bytes with zero bytes behind them
filled_within : (size : ℕ) (bytes : List ℕ) → length bytes ≤ size → bytes_of_object (filled size bytes) ≤ size
filled_within size bytes h =
    let whole = length-map (bytes ++ replicate (size - length bytes) 0) (λ (b : ℕ). Some b) in
    let both = length-append bytes (replicate (size - length bytes) 0) in
    let zeros = length-replicate {A = ℕ} (size - length bytes) 0 in
    omega (arith, whole, both, zeros, h)

pub texts_within : (texts : List (List ℕ)) → bytes_of_objects (map string_object texts) ≤ texts_bytes texts
unfolding texts_bytes
texts_within [] = omega arith
texts_within (text ∷ later) =
    let one = filled_within (length text + 1) text (omega arith) in
    let more = texts_within later in
    omega (arith, one, more)

-- ## What lasts

-- whatever is in scope and stands before
abbrev Lasts : List CLocal → ℕ → Type 0
Lasts locals n = (scope : List CLocal → Scope) (first : ℕ) (before : List CLocal) → bytes_of_objects (linking.lasting scope first before locals) ≤ n

lists_last : (k : ℕ) (ls : List Listing) → Lasts (lists_from k ls) 0
lists_last k [] scope first before = omega arith
lists_last k (l ∷ ls) scope first before = let more = lists_last (suc k) ls scope (first + 0) (before ++ list_for k l ∷ []) in omega (arith, more)

variable_last : (v : Variable) (count : Option ℕ) (rest : List CLocal) (n : ℕ) → Lasts rest n → Lasts (variable_for (record v { count = count }) ∷ rest) (count_bytes count + n)
unfolding count_bytes
variable_last v None rest n h scope first before =
    let more = h scope (first + 0) (before ++ variable_for (record v { count = None }) ∷ []) in
    omega (arith, more)
variable_last v (Some count) rest n h scope first before =
    let one = filled_within (4 * count) [] (omega arith) in
    let more = h scope (first + 0) (before ++ variable_for (record v { count = Some count }) ∷ []) in
    omega (arith, one, more)

variables_last : (vs : List Variable) (rest : List CLocal) (n : ℕ) → Lasts rest n → Lasts (map variable_for vs ++ rest) (variables_bytes vs + n)
unfolding variables_bytes
variables_last [] rest n h scope first before = let all = h scope first before in omega (arith, all)
variables_last (v ∷ vs) rest n h scope first before =
    let all = variable_last v v.count (map variable_for vs ++ rest) (variables_bytes vs + n) (variables_last vs rest n h) scope first before in
    omega (arith, all)

externs_last : (calls : List Callee) (rest : List CLocal) (n : ℕ) → Lasts rest n → Lasts (map extern_for calls ++ rest) n
externs_last [] rest n h scope first before = h scope first before
externs_last (call ∷ calls) rest n h scope first before = externs_last calls rest n h scope (first + 0) (before ++ extern_for call ∷ [])

bounds_last : (bounds : List KeptBound) (rest : List CLocal) (n : ℕ) → Lasts rest n → Lasts (map bound_for bounds ++ rest) n
bounds_last [] rest n h scope first before = h scope first before
bounds_last (one ∷ bounds) rest n h scope first before = bounds_last bounds rest n h scope (first + 0) (before ++ bound_for one ∷ [])

temporaries_last : (k count : ℕ) (rest : List CLocal) (n : ℕ) → Lasts rest n → Lasts (temporaries_from k count ++ rest) n
temporaries_last k zero rest n h scope first before = h scope first before
temporaries_last k (suc count) rest n h scope first before = temporaries_last (suc k) count rest n h scope (first + 0) (before ++ local.Number number_type.Integer (made_name (NumberTemporary k)) ∷ [])

result_lasts : (type : Option NumberType) (rest : List CLocal) (n : ℕ) → Lasts rest n → Lasts (result_local type ++ rest) n
result_lasts None rest n h scope first before = h scope first before
result_lasts (Some type) rest n h scope first before = h scope (first + 0) (before ++ local.Number type (made_name FunctionResult) ∷ [])

pub locals_last : (v : Inventory) → Lasts (unit_locals v) (variables_bytes v.variables)
locals_last v scope first before =
    let n = variables_bytes v.variables + 0 in
    let lists = lists_from 1 v.lists in
    let variables = map variable_for v.variables ++ lists in
    let externs = map extern_for v.calls ++ variables in
    let bounds = map bound_for v.bounds ++ externs in
    let temporaries = temporaries_from 1 v.temporaries ++ bounds in
    let all = result_lasts v.returned temporaries n (temporaries_last 1 v.temporaries bounds n (bounds_last v.bounds externs n (externs_last v.calls variables n (variables_last v.variables lists 0 (lists_last 1 v.lists))))) scope first before in
    omega (arith, all)

-- ## Strings of what lasts

abbrev Strings : List CLocal → Type 0
Strings locals = strings_of (declared_statics locals) ≡ []

lists_strings : (k : ℕ) (ls : List Listing) → Strings (lists_from k ls)
lists_strings k [] = refl
lists_strings k (l ∷ ls) = lists_strings (suc k) ls

variable_strings : (v : Variable) (count : Option ℕ) (rest : List CLocal) → Strings rest → Strings (variable_for (record v { count = count }) ∷ rest)
variable_strings v None rest h = h
variable_strings v (Some count) rest h = h

variables_strings : (vs : List Variable) (rest : List CLocal) → Strings rest → Strings (map variable_for vs ++ rest)
variables_strings [] rest h = h
variables_strings (v ∷ vs) rest h = variable_strings v v.count (map variable_for vs ++ rest) (variables_strings vs rest h)

externs_strings : (calls : List Callee) (rest : List CLocal) → Strings rest → Strings (map extern_for calls ++ rest)
externs_strings [] rest h = h
externs_strings (call ∷ calls) rest h = externs_strings calls rest h

bounds_strings : (bounds : List KeptBound) (rest : List CLocal) → Strings rest → Strings (map bound_for bounds ++ rest)
bounds_strings [] rest h = h
bounds_strings (one ∷ bounds) rest h = bounds_strings bounds rest h

temporaries_strings : (k count : ℕ) (rest : List CLocal) → Strings rest → Strings (temporaries_from k count ++ rest)
temporaries_strings k zero rest h = h
temporaries_strings k (suc count) rest h = temporaries_strings (suc k) count rest h

result_strings : (type : Option NumberType) (rest : List CLocal) → Strings rest → Strings (result_local type ++ rest)
result_strings None rest h = h
result_strings (Some type) rest h = h

pub locals_strings : (v : Inventory) → Strings (unit_locals v)
locals_strings v =
    let lists = lists_from 1 v.lists in
    let variables = map variable_for v.variables ++ lists in
    let externs = map extern_for v.calls ++ variables in
    let bounds = map bound_for v.bounds ++ externs in
    result_strings v.returned (temporaries_from 1 v.temporaries ++ bounds)
    (temporaries_strings 1 v.temporaries bounds (bounds_strings v.bounds externs (externs_strings v.calls variables (variables_strings v.variables lists (lists_strings 1 v.lists)))))

-- ## The frame

abbrev Frames : List CLocal → ℕ → Type 0
Frames locals n = (scope : Scope) (first : ℕ) → bytes_of_objects (objects_of scope first (declared_automatics locals)) ≤ n

lists_frame : (k : ℕ) (ls : List Listing) → Frames (lists_from k ls) 0
lists_frame k [] scope first = omega arith
lists_frame k (l ∷ ls) scope first = lists_frame (suc k) ls scope first

variable_frame : (v : Variable) (count : Option ℕ) (rest : List CLocal) (n : ℕ) → Frames rest n → Frames (variable_for (record v { count = count }) ∷ rest) n
variable_frame v None rest n h scope first = h scope first
variable_frame v (Some count) rest n h scope first = h scope first

variables_frame : (vs : List Variable) (rest : List CLocal) (n : ℕ) → Frames rest n → Frames (map variable_for vs ++ rest) n
variables_frame [] rest n h scope first = h scope first
variables_frame (v ∷ vs) rest n h scope first = variable_frame v v.count (map variable_for vs ++ rest) n (variables_frame vs rest n h) scope first

externs_frame : (calls : List Callee) (rest : List CLocal) (n : ℕ) → Frames rest n → Frames (map extern_for calls ++ rest) n
externs_frame [] rest n h scope first = h scope first
externs_frame (call ∷ calls) rest n h scope first = externs_frame calls rest n h scope first

bounds_frame : (bounds : List KeptBound) (rest : List CLocal) (n : ℕ) → Frames rest n → Frames (map bound_for bounds ++ rest) (4 * length bounds + n)
bounds_frame [] rest n h scope first = let all = h scope first in omega (arith, all)
bounds_frame (one ∷ bounds) rest n h scope first = let more = bounds_frame bounds rest n h scope (first + 0) in omega (arith, more)

temporaries_frame : (k count : ℕ) (rest : List CLocal) (n : ℕ) → Frames rest n → Frames (temporaries_from k count ++ rest) (4 * count + n)
temporaries_frame k zero rest n h scope first = let all = h scope first in omega (arith, all)
temporaries_frame k (suc count) rest n h scope first = let more = temporaries_frame (suc k) count rest n h scope (first + 0) in omega (arith, more)

result_frame : (type : Option NumberType) (rest : List CLocal) (n : ℕ) → Frames rest n → Frames (result_local type ++ rest) (4 * result_count type + n)
result_frame None rest n h scope first = let all = h scope first in omega (arith, all)
result_frame (Some type) rest n h scope first = let all = h scope (first + 0) in omega (arith, all)

locals_frame : (v : Inventory) → Frames (unit_locals v) (4 * result_count v.returned + (4 * v.temporaries + (4 * length v.bounds + 0)))
locals_frame v =
    let lists = lists_from 1 v.lists in
    let variables = map variable_for v.variables ++ lists in
    let externs = map extern_for v.calls ++ variables in
    let bounds = map bound_for v.bounds ++ externs in
    result_frame v.returned (temporaries_from 1 v.temporaries ++ bounds) (4 * v.temporaries + (4 * length v.bounds + 0))
    (temporaries_frame 1 v.temporaries bounds (4 * length v.bounds + 0) (bounds_frame v.bounds externs 0 (externs_frame v.calls variables 0 (variables_frame v.variables lists 0 (lists_frame 1 v.lists)))))

parameter_within : (type : ParameterType) → bytes_of_object (parameter_object type) ≤ 4
parameter_within parameter.Integers = omega arith
parameter_within parameter.Logicals = omega arith
parameter_within parameter.Chars = omega arith
parameter_within parameter.Length = omega arith
parameter_within parameter.Int = omega arith
parameter_within (parameter.Function type) = omega arith

parameters_frame : (ps : List Parameter) (locals : List CLocal) (n : ℕ) → Frames locals n → (scope : Scope) (first : ℕ) → bytes_of_objects (objects_of scope first (declared_parameters (map parameter_for ps) ++ declared_automatics locals)) ≤ 4 * length ps + n
parameters_frame [] locals n h scope first = let all = h scope first in omega (arith, all)
parameters_frame (p ∷ ps) locals n h scope first =
    let one = parameter_within p.type in
    let more = parameters_frame ps locals n h scope (first + 0) in
    omega (arith, one, more)

pub frame_within : (v : Inventory) (scope : Scope) (first : ℕ) → bytes_of_objects (objects_of scope first (declared_parameters (map parameter_for v.parameters) ++ declared_automatics (unit_locals v))) ≤ 4 * frame_count v
frame_within v scope first = let all = parameters_frame v.parameters (unit_locals v) (4 * result_count v.returned + (4 * v.temporaries + (4 * length v.bounds + 0))) (locals_frame v) scope first in omega (arith, all)
