-- The bytes of the objects of a program.
use Rattle.std.specs.Prelude.{◌≡◌, ℕ, ◌+◌, ◌*◌, ◌≤◌, ℤ, List, [], ◌∷◌, ◌++◌, map, length, Option}
use Rattle.std.proofs.Common.{refl, sym, ap, subst, arith}
use Rattle.main_file.specs.c_tree.Drafts.{Scope}
use Rattle.main_file.specs.c_tree.FlatForm.{whole_body}
use Rattle.main_file.specs.c_tree.Declarations.{string_object, declared_parameters, declared_statics, declared_automatics}
use Rattle.main_file.specs.c_tree.Linking.{External, Routines, externals, externals_from, external_object, external_number, function_names, all_functions, routines, strings_of, objects_of, local_scope, declared_constants, linked_function, linked_functions, linked_file, linked_files, program, bytes_of_objects}
use Rattle.main_file.specs.c_tree.Linking as linking
use Rattle.unit_sites.specs.unit_file.UnitFile.{WrittenUnit, constant_for, parameter_for, unit_locals, unit_function}
use Rattle.unit_sites.specs.UnitSites.{UnitsOfFile, file_for, files_of}
use Rattle.built_strings.specs.BuiltStrings.{texts_bytes}
use Rattle.built_strings.specs.BuiltStrings.{texts_bytes}
use Rattle.linked_sizes.specs.LinkedSizes.{unit_bytes, units_bytes, files_bytes, EachProgramIsSized}
use Rattle.linked_sizes.proofs.Locals.{bytes_both, texts_within, locals_last, locals_strings, frame_within}

-- ## Functions

strings_same : (w : WrittenUnit) → bytes_of_objects (map string_object (strings_of (declared_statics (unit_locals w.inventory)) ++ (whole_body w.body).items.strings)) ≤ texts_bytes (whole_body w.body).items.strings
strings_same w =
    subst (λ (texts : List (List ℕ)). bytes_of_objects (map string_object (texts ++ (whole_body w.body).items.strings)) ≤ texts_bytes (whole_body w.body).items.strings) (sym (locals_strings w.inventory)) (texts_within (whole_body w.body).items.strings)

unit_within : (numbers : Routines) (own : ℕ) (outer : Scope) (base : ℕ) (w : WrittenUnit) → bytes_of_objects (linked_function numbers own outer base (unit_function w)).objects ≤ unit_bytes w
unfolding unit_bytes
unit_within numbers own outer base w =
    let statics = declared_statics (unit_locals w.inventory) in
    let strings = strings_of statics ++ (whole_body w.body).items.strings in
    let first = base + length statics in
    let frame = first + length strings in
    let inner = local_scope numbers base frame (map parameter_for w.inventory.parameters) outer in
    let keeps = linking.lasting inner first [] (unit_locals w.inventory) in
    let texts = map string_object strings in
    let fresh = objects_of (inner (unit_locals w.inventory)) 0 (declared_parameters (map parameter_for w.inventory.parameters) ++ declared_automatics (unit_locals w.inventory)) in
    let whole = bytes_both (keeps ++ texts) fresh in
    let both = bytes_both keeps texts in
    let one = locals_last w.inventory inner first [] in
    let two = strings_same w in
    let three = frame_within w.inventory (inner (unit_locals w.inventory)) 0 in
    omega (arith, whole, both, one, two, three)

units_within : (numbers : Routines) (own : ℕ) (outer : Scope) (base : ℕ) (ws : List WrittenUnit) → bytes_of_objects (linked_functions numbers own outer base (map unit_function ws)).objects ≤ units_bytes ws
unfolding units_bytes
units_within numbers own outer base [] = omega arith
units_within numbers own outer base (w ∷ ws) =
    let here = (linked_function numbers own outer base (unit_function w)).objects in
    let later = base + length here in
    let whole = bytes_both here (linked_functions numbers own outer later (map unit_function ws)).objects in
    let one = unit_within numbers own outer base w in
    let more = units_within numbers own outer later ws in
    omega (arith, whole, one, more)

-- ## Files

constants_within : (scope : Scope) (first : ℕ) (zs : List ℤ) → bytes_of_objects (objects_of scope first (declared_constants (map constant_for zs))) ≤ 4 * length zs
constants_within scope first [] = omega arith
constants_within scope first (z ∷ zs) = let more = constants_within scope (first + 0) zs in omega (arith, more)

file_within : (numbers : Routines) (objects : List ℕ → Option ℕ) (own base : ℕ) (f : UnitsOfFile) → bytes_of_objects (linked_file numbers objects own base (file_for f)).objects ≤ 4 * length f.constants + units_bytes f.units
file_within numbers objects own base f =
    let scope = linking.file_scope numbers objects base (file_for f) in
    let constants = objects_of scope base (declared_constants (map constant_for f.constants)) in
    let functions = linked_functions numbers own scope (base + length constants) (map unit_function f.units) in
    let whole = bytes_both constants functions.objects in
    let one = constants_within scope base f.constants in
    let more = units_within numbers own scope (base + length constants) f.units in
    omega (arith, whole, one, more)

files_within : (numbers : Routines) (objects : List ℕ → Option ℕ) (own base : ℕ) (fs : List UnitsOfFile) → bytes_of_objects (linked_files numbers objects own base (files_of fs)).objects ≤ files_bytes fs
unfolding files_bytes
files_within numbers objects own base [] = omega arith
files_within numbers objects own base (f ∷ fs) =
    let here = (linked_file numbers objects own base (file_for f)).objects in
    let later = base + length here in
    let whole = bytes_both here (linked_files numbers objects own later (files_of fs)).objects in
    let one = file_within numbers objects own base f in
    let more = files_within numbers objects own later fs in
    omega (arith, whole, one, more)

-- the files have no external objects
none_outside : (known : List External) (fs : List UnitsOfFile) → externals_from known (files_of fs) ≡ known
none_outside known [] = refl
none_outside known (f ∷ fs) = none_outside known fs

pub each_program_is_sized : EachProgramIsSized
unfolding program
each_program_is_sized fs =
    let outside = externals (files_of fs) in
    let defined = function_names (all_functions (files_of fs)) in
    let linked = linked_files (routines defined) (external_number outside) (length defined) (length outside) (files_of fs) in
    let whole = bytes_both (map external_object outside) linked.objects in
    let none : bytes_of_objects (map external_object outside) ≡ 0 = ap (λ (known : List External). bytes_of_objects (map external_object known)) (none_outside [] fs) in
    let all = files_within (routines defined) (external_number outside) (length defined) (length outside) fs in
    omega (arith, whole, none, all)
