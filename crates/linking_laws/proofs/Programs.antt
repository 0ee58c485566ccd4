-- Where the functions and the objects of files stand in their program.
use Rattle.std.specs.Prelude.{◌≡◌, ℕ, zero, suc, ◌+◌, ◌-◌, ◌≤◌, List, [], ◌∷◌, map, length, take, Option, Some, slice_get}
use Rattle.std.proofs.Common.{refl, sym, ap, ◌∙◌, subst, arith}
use Rattle.std.proofs.lemmas.List.{length-append, length-map}
use Rattle.c_structure_laws.specs.c_tree.declared.file.CFile.{CFile}
use Rattle.c_structure_laws.specs.c_tree.declared.file.CFunction.{CFunction}
use Rattle.c_structure_laws.specs.c_tree.Objects.{Object}
use Rattle.c_structure_laws.specs.c_tree.Drafts.{Scope}
use Rattle.c_structure_laws.specs.c_tree.Linking.{Function, Routines, externals, external_object, all_functions, declared_constants, file_scope, objects_of, linked_function, linked_functions, linked_file, linked_files, program}
use Rattle.linking_laws.specs.Linked.{base_of_function, base_of_file, routines_of, outside_of, own_of, base_at, file_names, function_base, linked_at, functions_before, FunctionsStand, ExternalsStand, ConstantsStand}
use Rattle.linking_laws.proofs.Places.{some_same, get_front, get_back, map_at}
use Rattle.linking_laws.proofs.FunctionObjects.{objects_at, objects_count}

-- ## The functions of a file

function_behind : (numbers : Routines) (own : ℕ) (outer : Scope) (base : ℕ) (functions : List CFunction) (j : ℕ) → base ≤ base_of_function numbers own outer base functions j
function_behind numbers own outer base [] j = omega arith
function_behind numbers own outer base (f ∷ later) zero = omega arith
function_behind numbers own outer base (f ∷ later) (suc j) =
    let more = function_behind numbers own outer (base + length (linked_function numbers own outer base f).objects) later j in omega (arith, more)

function_linked : (numbers : Routines) (own : ℕ) (outer : Scope) (base : ℕ) (functions : List CFunction) (j : ℕ) (function : CFunction) → slice_get functions j ≡ Some function →
    slice_get (linked_functions numbers own outer base functions).functions j ≡ Some (linked_function numbers own outer (base_of_function numbers own outer base functions j) function).function
function_linked numbers own outer base [] j function at = absurd (cc)
function_linked numbers own outer base (f ∷ later) zero function at = ap (λ g. Some (linked_function numbers own outer base g).function) (some_same f function at)
function_linked numbers own outer base (f ∷ later) (suc j) function at = function_linked numbers own outer (base + length (linked_function numbers own outer base f).objects) later j function at

functions_count : (numbers : Routines) (own : ℕ) (outer : Scope) (base : ℕ) (functions : List CFunction) → length (linked_functions numbers own outer base functions).functions ≡ length functions
functions_count numbers own outer base [] = refl
functions_count numbers own outer base (f ∷ later) = ap suc (functions_count numbers own outer (base + length (linked_function numbers own outer base f).objects) later)

function_objects : (numbers : Routines) (own : ℕ) (outer : Scope) (base : ℕ) (functions : List CFunction) (j : ℕ) (function : CFunction) (n m : ℕ) (object : Object) → slice_get functions j ≡ Some function →
    base + m ≡ base_of_function numbers own outer base functions j + n → slice_get (linked_function numbers own outer (base_of_function numbers own outer base functions j) function).objects n ≡ Some object →
    slice_get (linked_functions numbers own outer base functions).objects m ≡ Some object
function_objects numbers own outer base [] j function n m object at there got = absurd (cc)
function_objects numbers own outer base (f ∷ later) zero function n m object at there got =
    let same : n ≡ m = omega (arith, there) in
    let mine = subst (λ g. slice_get (linked_function numbers own outer base g).objects n ≡ Some object) (sym (some_same f function at)) got in
    get_front (linked_function numbers own outer base f).objects (linked_functions numbers own outer (base + length (linked_function numbers own outer base f).objects) later).objects m object
    (subst (λ k. slice_get (linked_function numbers own outer base f).objects k ≡ Some object) same mine)
function_objects numbers own outer base (f ∷ later) (suc j) function n m object at there got =
    let own_objects = (linked_function numbers own outer base f).objects in
    let next = base + length own_objects in
    let behind = function_behind numbers own outer next later j in
    get_back own_objects (linked_functions numbers own outer next later).objects m (m - length own_objects) object (omega (arith, behind, there))
    (function_objects numbers own outer next later j function n (m - length own_objects) object at (omega (arith, behind, there)) got)

-- ## Files

file_behind : (numbers : Routines) (objects : List ℕ → Option ℕ) (own base : ℕ) (files : List CFile) (k : ℕ) → base ≤ base_of_file numbers objects own base files k
file_behind numbers objects own base [] k = omega arith
file_behind numbers objects own base (f ∷ later) zero = omega arith
file_behind numbers objects own base (f ∷ later) (suc k) = let more = file_behind numbers objects own (base + length (linked_file numbers objects own base f).objects) later k in omega (arith, more)

file_objects : (numbers : Routines) (objects : List ℕ → Option ℕ) (own base : ℕ) (files : List CFile) (k : ℕ) (file : CFile) (n m : ℕ) (object : Object) → slice_get files k ≡ Some file →
    base + m ≡ base_of_file numbers objects own base files k + n → slice_get (linked_file numbers objects own (base_of_file numbers objects own base files k) file).objects n ≡ Some object →
    slice_get (linked_files numbers objects own base files).objects m ≡ Some object
file_objects numbers objects own base [] k file n m object at there got = absurd (cc)
file_objects numbers objects own base (f ∷ later) zero file n m object at there got =
    let same : n ≡ m = omega (arith, there) in
    let mine = subst (λ g. slice_get (linked_file numbers objects own base g).objects n ≡ Some object) (sym (some_same f file at)) got in
    get_front (linked_file numbers objects own base f).objects (linked_files numbers objects own (base + length (linked_file numbers objects own base f).objects) later).objects m object
    (subst (λ k. slice_get (linked_file numbers objects own base f).objects k ≡ Some object) same mine)
file_objects numbers objects own base (f ∷ later) (suc k) file n m object at there got =
    let own_objects = (linked_file numbers objects own base f).objects in
    let next = base + length own_objects in
    let behind = file_behind numbers objects own next later k in
    get_back own_objects (linked_files numbers objects own next later).objects m (m - length own_objects) object (omega (arith, behind, there))
    (file_objects numbers objects own next later k file n (m - length own_objects) object at (omega (arith, behind, there)) got)

file_functions_count : (numbers : Routines) (objects : List ℕ → Option ℕ) (own base : ℕ) (file : CFile) → length (linked_file numbers objects own base file).functions ≡ length file.functions
file_functions_count numbers objects own base file =
    functions_count numbers own (file_scope numbers objects base file) (base + length (objects_of (file_scope numbers objects base file) base (declared_constants file.constants))) file.functions

file_functions : (numbers : Routines) (objects : List ℕ → Option ℕ) (own base : ℕ) (files : List CFile) (k : ℕ) (file : CFile) (j : ℕ) (function : Function) → slice_get files k ≡ Some file →
    slice_get (linked_file numbers objects own (base_of_file numbers objects own base files k) file).functions j ≡ Some function →
    slice_get (linked_files numbers objects own base files).functions (functions_before files k + j) ≡ Some function
file_functions numbers objects own base [] k file j function at got = absurd (cc)
file_functions numbers objects own base (f ∷ later) zero file j function at got =
    let mine = subst (λ g. slice_get (linked_file numbers objects own base g).functions j ≡ Some function) (sym (some_same f file at)) got in
    ap (slice_get (linked_files numbers objects own base (f ∷ later)).functions) {x = functions_before (f ∷ later) 0 + j} {y = j} (omega arith)
    ∙ get_front (linked_file numbers objects own base f).functions (linked_files numbers objects own (base + length (linked_file numbers objects own base f).objects) later).functions j function mine
file_functions numbers objects own base (f ∷ later) (suc k) file j function at got =
    let next = base + length (linked_file numbers objects own base f).objects in
    let count = file_functions_count numbers objects own base f in
    let more = length-append f.functions (all_functions (take k later)) in
    get_back (linked_file numbers objects own base f).functions (linked_files numbers objects own next later).functions (functions_before (f ∷ later) (suc k) + j) (functions_before later k + j) function (omega (arith, count, more))
    (file_functions numbers objects own next later k file j function at got)

written_at : (files : List CFile) (k : ℕ) (file : CFile) (j : ℕ) (function : CFunction) → slice_get files k ≡ Some file → slice_get file.functions j ≡ Some function →
    slice_get (all_functions files) (functions_before files k + j) ≡ Some function
written_at [] k file j function at got = absurd (cc)
written_at (f ∷ later) zero file j function at got =
    let mine = subst (λ (g : CFile). slice_get g.functions j ≡ Some function) (sym (some_same f file at)) got in
    ap (slice_get (all_functions (f ∷ later))) {x = functions_before (f ∷ later) 0 + j} {y = j} (omega arith) ∙ get_front f.functions (all_functions later) j function mine
written_at (f ∷ later) (suc k) file j function at got =
    let more = length-append f.functions (all_functions (take k later)) in
    get_back f.functions (all_functions later) (functions_before (f ∷ later) (suc k) + j) (functions_before later k + j) function (omega (arith, more)) (written_at later k file j function at got)

-- ## The program

-- what a file has, behind the external objects
in_program : (files : List CFile) (k : ℕ) (file : CFile) (n m : ℕ) (object : Object) → slice_get files k ≡ Some file → m ≡ base_at files k + n →
    slice_get (linked_file (routines_of files) (outside_of files) (own_of files) (base_at files k) file).objects n ≡ Some object → slice_get (program files).objects m ≡ Some object
unfolding program
in_program files k file n m object at there got =
    let outside = map external_object (externals files) in
    let first = length (externals files) in
    let count = length-map (externals files) external_object in
    let behind = file_behind (routines_of files) (outside_of files) (own_of files) first files k in
    get_back outside (linked_files (routines_of files) (outside_of files) (own_of files) first files).objects m (m - first) object (omega (arith, there, count, behind))
    (file_objects (routines_of files) (outside_of files) (own_of files) first files k file n (m - first) object at (omega (arith, there, behind)) got)

pub functions_stand : FunctionsStand
unfolding program
functions_stand files k file j function at got =
    let numbers = routines_of files in
    let own = own_of files in
    let scope = file_names files k file in
    let made = objects_of scope (base_at files k) (declared_constants file.constants) in
    let first = base_at files k + length (declared_constants file.constants) in
    let count : length made ≡ length (declared_constants file.constants) = objects_count scope (base_at files k) (declared_constants file.constants) in
    let there : base_at files k + length made ≡ first = ap (λ n. base_at files k + n) count in
    let linked = function_linked numbers own scope first file.functions j function got in
    let behind = function_behind numbers own scope first file.functions j in
    record {
      function_is = file_functions numbers (outside_of files) own (length (externals files)) files k file j (linked_at files k file j function).function at
          (subst (λ n. slice_get (linked_functions numbers own scope n file.functions).functions j ≡ Some (linked_at files k file j function).function) (sym there) linked);
      written = written_at files k file j function at got;
      objects = λ n object has.
          let m = function_base files k file j + n - first in
          in_program files k file (length made + m) (function_base files k file j + n) object at (omega (arith, behind, count))
          (get_back made (linked_functions numbers own scope (base_at files k + length made) file.functions).objects (length made + m) m object refl
          (subst (λ b. slice_get (linked_functions numbers own scope b file.functions).objects m ≡ Some object) (sym there)
          (function_objects numbers own scope first file.functions j function n m object got (omega (arith, behind)) has)));
    }

pub externals_stand : ExternalsStand
unfolding program
externals_stand files k known at =
    get_front (map external_object (externals files)) (linked_files (routines_of files) (outside_of files) (own_of files) (length (externals files)) files).objects k (external_object known) (map_at external_object (externals files) k known at)

pub constants_stand : ConstantsStand
constants_stand files k file i d object at got always =
    let scope = file_names files k file in
    let made = objects_of scope (base_at files k) (declared_constants file.constants) in
    in_program files k file i (base_at files k + i) object at refl
    (get_front made (linked_functions (routines_of files) (own_of files) scope (base_at files k + length made) file.functions).objects i object (objects_at scope (base_at files k) (declared_constants file.constants) i d object got always))
