-- The functions of files of several units, and their objects, have their places.
use Rattle.std.specs.Prelude.{◌≡◌, ℕ, zero, suc, ◌+◌, ◌<◌, ◌≤◌, ℤ, List, [], ◌∷◌, ◌++◌, map, length, Option, Some, None, slice_get}
use Rattle.std.proofs.Common.{refl, sym, ap, ◌∙◌, subst, arith}
use Rattle.std.proofs.lemmas.List.{map-append, length-append, length-map}
use Rattle.main_file_laws.specs.c_tree.declared.file.CFunction.{CFunction}
use Rattle.main_file_laws.specs.c_tree.Drafts.{Scope}
use Rattle.main_file_laws.specs.c_tree.Objects.{Object}
use Rattle.main_file_laws.specs.c_tree.Declarations.{Declared, string_object, unset, parameter_object, declared_statics}
use Rattle.main_file_laws.specs.c_tree.FlatForm.{whole_body}
use Rattle.main_file_laws.specs.c_tree.Linking as linking
use Rattle.main_file_laws.specs.c_tree.Linking.{LinkedFunction, External, Routines, externals_from, externals, external_object, function_names, all_functions, declared_constants, file_scope, objects_of, linked_function, linked_functions, linked_file, linked_files}
use Rattle.main_file_laws.specs.c_image.Held.{number_object}
use Rattle.unit_sites.specs.output_laws.ListedOutputs.{list_object}
use Rattle.main_file_laws.specs.linking_laws.Linked as linked
use Rattle.main_file_laws.specs.linking_laws.Linked.{base_of_function, base_of_file, routines_of, outside_of, own_of, file_names, base_at, function_base, linked_at, functions_before}
use Rattle.main_file_laws.proofs.linking_laws.Places.{some_same, get_front, get_back, map_at, some_at}
use Rattle.main_file_laws.proofs.linking_laws.FunctionObjects.{functions_have_objects, objects_count}
use Rattle.main_file_laws.proofs.linking_laws.Programs.{functions_stand, constants_stand}
use Rattle.main_file_laws.proofs.Listed.{object_by, declared_variable, declared_listing}
use Rattle.unit_sites.specs.unit_file.UnitFile.{Variable, Listing, WrittenUnit, constant_for, unit_locals, unit_function, result_count, frame_count, object_count, first_object, first_list, first_string, first_parameter}
use Rattle.unit_sites.specs.UnitSites.{UnitsOfFile, file_for, files_of, all_units, inventories, contents_of, all_inventories, Site, behind, sites_of}
use Rattle.unit_places.specs.UnitPlaces.{HaveTheirStrings, variable_object, StandsAs, FunctionStands, FunctionsHavePlaces}
use Rattle.unit_places.proofs.Declared.{unit_strings, unit_statics_count, unit_variable, unit_listing, framed_by, framed_are, framed_many, framed_parameter, framed_result, framed_temporary, framed_bound, types_are}
use Rattle.unit_places.proofs.Sites.{first_behind, ends_before, inventory_at, file_end, file_start, site_in, placed}

-- ## One function

-- the strings of a unit, as the definitions of linking say them
strings_are : (w : WrittenUnit) → (whole_body w.body).items.strings ≡ map w.inventory.texts w.inventory.strings → linked.strings (unit_function w) ≡ map w.inventory.texts w.inventory.strings
strings_are w theirs = (λ i. unit_strings w.inventory i ++ theirs i)

pub strings_many : (w : WrittenUnit) → (whole_body w.body).items.strings ≡ map w.inventory.texts w.inventory.strings → length (linked.strings (unit_function w)) ≡ length w.inventory.strings
strings_many w theirs = ap length (strings_are w theirs) ∙ length-map w.inventory.strings w.inventory.texts

framed_count : (w : WrittenUnit) → length (linked.framed (unit_function w)) ≡ frame_count w.inventory
framed_count w = ap length (framed_are w.inventory) ∙ framed_many w.inventory

-- how many objects it has
pub objects_many : (numbers : Routines) (own : ℕ) (outer : Scope) (base : ℕ) (w : WrittenUnit) → (whole_body w.body).items.strings ≡ map w.inventory.texts w.inventory.strings →
    length (linked_function numbers own outer base (unit_function w)).objects ≡ object_count w.inventory
objects_many numbers own outer base w theirs =
    let has = functions_have_objects numbers own outer base (unit_function w) in
    let all = has.in_all in
    let statics = unit_statics_count w.inventory in
    let strings = strings_many w theirs in
    let framed = framed_count w in
    omega (arith, all, statics, strings, framed)

-- where its frame begins
frame_is : (base : ℕ) (w : WrittenUnit) → (whole_body w.body).items.strings ≡ map w.inventory.texts w.inventory.strings →
    linked.frame base (unit_function w) ≡ base + length w.inventory.variables + length w.inventory.lists + length w.inventory.strings
frame_is base w theirs =
    let statics = unit_statics_count w.inventory in
    let strings = strings_many w theirs in
    omega (arith, statics, strings)

-- ## One function behind the other

later_strings : (w : WrittenUnit) (ws : List WrittenUnit) → HaveTheirStrings (w ∷ ws) → HaveTheirStrings ws
later_strings w ws have j one at = have (suc j) one at

base_is : (numbers : Routines) (own : ℕ) (outer : Scope) (base : ℕ) (ws : List WrittenUnit) (j : ℕ) → HaveTheirStrings ws → base_of_function numbers own outer base (map unit_function ws) j ≡ first_object base (inventories ws) j
base_is numbers own outer base [] j have = refl
base_is numbers own outer base (w ∷ ws) zero have = refl
base_is numbers own outer base (w ∷ ws) (suc j) have =
    ap (λ count. base_of_function numbers own outer (base + count) (map unit_function ws) j) (objects_many numbers own outer base w (have 0 w refl))
    ∙ base_is numbers own outer (base + object_count w.inventory) ws j (later_strings w ws have)

pub names_many : (fs : List CFunction) → length (function_names fs) ≡ length fs
names_many [] = refl
names_many (f ∷ fs) = ap suc (names_many fs)

-- how many objects functions have
functions_many : (numbers : Routines) (own : ℕ) (outer : Scope) (base : ℕ) (ws : List WrittenUnit) → HaveTheirStrings ws → base + length (linked_functions numbers own outer base (map unit_function ws)).objects ≡ behind base (inventories ws)
functions_many numbers own outer base [] have = omega arith
functions_many numbers own outer base (w ∷ ws) have =
    let objects = (linked_function numbers own outer base (unit_function w)).objects in
    let all = length-append objects (linked_functions numbers own outer (base + length objects) (map unit_function ws)).objects in
    let later : base + object_count w.inventory + length (linked_functions numbers own outer (base + object_count w.inventory) (map unit_function ws)).objects ≡ behind base (inventories (w ∷ ws)) =
    functions_many numbers own outer (base + object_count w.inventory) ws (later_strings w ws have) in
    let one : base + length objects ≡ base + object_count w.inventory = ap (λ count. base + count) (objects_many numbers own outer base w (have 0 w refl)) in
    let same : base + length objects + length (linked_functions numbers own outer (base + length objects) (map unit_function ws)).objects
    ≡ base + object_count w.inventory + length (linked_functions numbers own outer (base + object_count w.inventory) (map unit_function ws)).objects =
    ap (λ n. n + length (linked_functions numbers own outer n (map unit_function ws)).objects) one in
    omega (arith, all, later, same)

-- ## The constants

constants_count : (zs : List ℤ) → length (declared_constants (map constant_for zs)) ≡ length zs
constants_count [] = refl
constants_count (z ∷ zs) = ap suc (constants_count zs)

record IsConstantAt (zs : List ℤ) (i : ℕ) (z : ℤ) : Type 0 where
  declared : Declared
  at : slice_get (declared_constants (map constant_for zs)) i ≡ Some declared
  always : linked.IsAlways declared (number_object z)

constant_at : (zs : List ℤ) (i : ℕ) (z : ℤ) → slice_get zs i ≡ Some z → IsConstantAt zs i z
constant_at [] i z at = absurd (cc)
constant_at (y ∷ zs) zero z at = subst (IsConstantAt (y ∷ zs) 0) (some_same y z at) (record { declared = _; at = refl; always = λ scope first. refl })
constant_at (y ∷ zs) (suc i) z at = let later = constant_at zs i z at in record { declared = later.declared; at = later.at; always = later.always }

-- ## The files

first_strings : (us ws : List WrittenUnit) → HaveTheirStrings (us ++ ws) → HaveTheirStrings us
first_strings us ws have j w at = have j w (get_front us ws j w at)

last_strings : (us ws : List WrittenUnit) → HaveTheirStrings (us ++ ws) → HaveTheirStrings ws
last_strings us ws have j w at = have (length us + j) w (get_back us ws (length us + j) j w refl at)

file_strings : (fs : List UnitsOfFile) (k : ℕ) (f : UnitsOfFile) → HaveTheirStrings (all_units fs) → slice_get fs k ≡ Some f → HaveTheirStrings f.units
file_strings [] k f have at = absurd (cc)
file_strings (g ∷ fs) zero f have at = subst (λ (h : UnitsOfFile). HaveTheirStrings h.units) (some_same g f at) (first_strings g.units (all_units fs) have)
file_strings (g ∷ fs) (suc k) f have at = file_strings fs k f (last_strings g.units (all_units fs) have) at

functions_are : (fs : List UnitsOfFile) → all_functions (files_of fs) ≡ map unit_function (all_units fs)
functions_are [] = refl
functions_are (f ∷ fs) = ap (λ later. map unit_function f.units ++ later) (functions_are fs) ∙ sym (map-append unit_function f.units (all_units fs))

-- the program has as many functions as the files have units
pub own_is : (fs : List UnitsOfFile) → own_of (files_of fs) ≡ length (all_units fs)
own_is fs = names_many (all_functions (files_of fs)) ∙ ap length (functions_are fs) ∙ length-map (all_units fs) unit_function

-- no file has an external object
no_externals : (known : List External) (fs : List UnitsOfFile) → externals_from known (files_of fs) ≡ known
no_externals known [] = refl
no_externals known (f ∷ fs) = no_externals known fs

-- where the objects of a file end
file_many : (numbers : Routines) (objects : List ℕ → Option ℕ) (own first : ℕ) (f : UnitsOfFile) → HaveTheirStrings f.units → first + length (linked_file numbers objects own first (file_for f)).objects ≡ file_end first f
file_many numbers objects own first f have =
    let scope = file_scope numbers objects first (file_for f) in
    let declared = declared_constants (map constant_for f.constants) in
    let made = objects_of scope first declared in
    let count : length made ≡ length f.constants = objects_count scope first declared ∙ constants_count f.constants in
    let all = length-append made (linked_functions numbers own scope (first + length made) (map unit_function f.units)).objects in
    let functions = functions_many numbers own scope (first + length made) f.units have in
    let same : behind (first + length made) (inventories f.units) ≡ file_end first f = ap (λ n. behind (first + n) (inventories f.units)) count in
    omega (arith, all, functions, same)

module _ (numbers : Routines) (objects : List ℕ → Option ℕ) (own : ℕ) where
  start_is : (first : ℕ) (fs : List UnitsOfFile) (k : ℕ) → HaveTheirStrings (all_units fs) → base_of_file numbers objects own first (files_of fs) k ≡ file_start first fs k
  start_is first [] k have = refl
  start_is first (f ∷ fs) zero have = refl
  start_is first (f ∷ fs) (suc k) have =
      ap (λ n. base_of_file numbers objects own n (files_of fs) k) (file_many numbers objects own first f (first_strings f.units (all_units fs) have)) ∙ start_is (file_end first f) fs k (last_strings f.units (all_units fs) have)

  -- the objects of a file end before those of all files do
  file_ends_before : (first : ℕ) (fs : List UnitsOfFile) (k : ℕ) (f : UnitsOfFile) → HaveTheirStrings (all_units fs) → slice_get fs k ≡ Some f →
      file_end (file_start first fs k) f ≤ first + length (linked_files numbers objects own first (files_of fs)).objects
  file_ends_before first [] k f have at = absurd (cc)
  file_ends_before first (g ∷ fs) zero f have at =
      let same : file_end first g ≡ file_end first f = ap (file_end first) (some_same g f at) in
      let mine = (linked_file numbers objects own first (file_for g)).objects in
      let all = length-append mine (linked_files numbers objects own (first + length mine) (files_of fs)).objects in
      let ends = file_many numbers objects own first g (first_strings g.units (all_units fs) have) in
      omega (arith, same, all, ends)
  file_ends_before first (g ∷ fs) (suc k) f have at =
      let mine = (linked_file numbers objects own first (file_for g)).objects in
      let all = length-append mine (linked_files numbers objects own (first + length mine) (files_of fs)).objects in
      let later = file_ends_before (file_end first g) fs k f (last_strings g.units (all_units fs) have) at in
      let same : first + length mine + length (linked_files numbers objects own (first + length mine) (files_of fs)).objects ≡ file_end first g + length (linked_files numbers objects own (file_end first g) (files_of fs)).objects =
      ap (λ n. n + length (linked_files numbers objects own n (files_of fs)).objects) (file_many numbers objects own first g (first_strings g.units (all_units fs) have)) in
      omega (arith, all, later, same)

-- ## A unit of a file

object_same : (count : Option ℕ) → object_by count ≡ variable_object count
object_same None = refl
object_same (Some count) = refl

variable_always : (v : Variable) → linked.IsAlways (declared_variable v) (variable_object v.count)
variable_always v scope first = object_same v.count

module _ (fs : List UnitsOfFile) (have : HaveTheirStrings (all_units fs)) where
  abbrev numbers : Routines
  numbers = routines_of (files_of fs)

  abbrev outside : List ℕ → Option ℕ
  outside = outside_of (files_of fs)

  abbrev own : ℕ
  own = own_of (files_of fs)

  outside_none : length (externals (files_of fs)) ≡ 0
  outside_none = ap length (no_externals [] fs)

  module _ (k : ℕ) (f : UnitsOfFile) (file_at : slice_get fs k ≡ Some f) where
    abbrev start : ℕ
    start = file_start 0 fs k

    abbrev outer : Scope
    outer = file_scope numbers outside start (file_for f)

    file_there : slice_get (files_of fs) k ≡ Some (file_for f)
    file_there = map_at file_for fs k f file_at

    base_there : base_at (files_of fs) k ≡ start
    base_there = ap (λ first. base_of_file numbers outside own first (files_of fs) k) outside_none ∙ start_is numbers outside own 0 fs k have

    units_have : HaveTheirStrings f.units
    units_have = file_strings fs k f have file_at

    function_there : (i : ℕ) → function_base (files_of fs) k (file_for f) i ≡ first_object (start + length f.constants) (inventories f.units) i
    function_there i =
        ap (λ first. base_of_function numbers own (file_names (files_of fs) k (file_for f)) first (map unit_function f.units) i) ((λ n. base_there n + constants_count f.constants n))
        ∙ base_is numbers own (file_names (files_of fs) k (file_for f)) (start + length f.constants) f.units i units_have

    constant_there : (i : ℕ) (z : ℤ) → slice_get f.constants i ≡ Some z → StandsAs fs (start + i) (number_object z)
    constant_there i z got =
        let c = constant_at f.constants i z got in
        ap (λ first. slice_get (linking.program (files_of fs)).objects (first + i)) (sym base_there) ∙ constants_stand (files_of fs) k (file_for f) i c.declared (number_object z) file_there c.at c.always

    module _ (i : ℕ) (w : WrittenUnit) (at : slice_get f.units i ≡ Some w) where
      abbrev site : Site
      site = site_in (length (all_inventories (map contents_of fs))) start f i

      abbrev linked_here : LinkedFunction
      linked_here = linked_function numbers own outer site.bases.function (unit_function w)

      theirs : (whole_body w.body).items.strings ≡ map w.inventory.texts w.inventory.strings
      theirs = units_have i w at

      linked_same : linked_at (files_of fs) k (file_for f) i (unit_function w) ≡ linked_here
      linked_same = (λ n. linked_function numbers own (file_scope numbers outside (base_there n) (file_for f)) (function_there i n) (unit_function w))

      stand : linked.IsInProgram (files_of fs) k (file_for f) i (unit_function w)
      stand = functions_stand (files_of fs) k (file_for f) i (unit_function w) file_there (map_at unit_function f.units i w at)

      has : linked.HasItsObjects linked_here site.bases.function (unit_function w)
      has = functions_have_objects numbers own outer site.bases.function (unit_function w)

      -- an object of the function, by its place among those of the function
      object_there : (n number : ℕ) (object : Object) → number ≡ site.bases.function + n → slice_get linked_here.objects n ≡ Some object → StandsAs fs number object
      object_there n number object there got =
          ap (slice_get (linking.program (files_of fs)).objects) (there ∙ ap (λ base. base + n) (sym (function_there i)))
          ∙ stand.objects n object (ap (λ (l : LinkedFunction). slice_get l.objects n) linked_same ∙ got)

      fresh_at : (n : ℕ) (d : Declared) (object : Object) → slice_get (framed_by w.inventory) n ≡ Some d → linked.IsAlways d object → slice_get linked_here.function.fresh n ≡ Some object
      fresh_at n d object got always = has.fresh n d object (ap (λ ds. slice_get ds n) (framed_are w.inventory) ∙ got) always

      variable_there : (n : ℕ) (one : Variable) → slice_get w.inventory.variables n ≡ Some one → StandsAs fs (site.bases.function + n) (variable_object one.count)
      variable_there n one got =
          object_there n (site.bases.function + n) (variable_object one.count) refl (has.lasting n (declared_variable one) (variable_object one.count) (unit_variable w.inventory n one got) (variable_always one))

      list_there : (n : ℕ) (l : Listing) → slice_get w.inventory.lists n ≡ Some l → StandsAs fs (first_list w.inventory site.bases + n) (list_object l.unit)
      list_there n l got =
          object_there (length w.inventory.variables + n) (first_list w.inventory site.bases + n) (list_object l.unit) (omega arith)
          (has.lasting (length w.inventory.variables + n) (declared_listing (1 + n) l) (list_object l.unit) (unit_listing w.inventory n l got) (λ scope first. refl))

      string_there : (m n : ℕ) → slice_get w.inventory.strings m ≡ Some n → StandsAs fs (first_string w.inventory site.bases + m) (string_object (w.inventory.texts n))
      string_there m n got =
          let statics = unit_statics_count w.inventory in
          object_there (length (declared_statics (unit_locals w.inventory)) + m) (first_string w.inventory site.bases + m) (string_object (w.inventory.texts n)) (omega (arith, statics))
          (has.passed m (w.inventory.texts n) (ap (λ ss. slice_get ss m) (strings_are w theirs) ∙ map_at w.inventory.texts w.inventory.strings m n got))

      frame_has : (n : ℕ) → n < frame_count w.inventory → (object : Object) × StandsAs fs (first_parameter w.inventory site.bases + n) object
      frame_has n below =
          let many = has.as_many in
          let framed = framed_count w in
          let statics = unit_statics_count w.inventory in
          let strings = strings_many w theirs in
          let x = some_at linked_here.function.fresh n (omega (arith, many, framed, below)) in (
            x.0,
            object_there (length (linked.statics (unit_function w)) + (length (linked.strings (unit_function w)) + n)) (first_parameter w.inventory site.bases + n) x.0 (omega (arith, statics, strings)) (has.in_frame n x.0 x.1),
          )

      all_inside : first_parameter w.inventory site.bases + frame_count w.inventory ≤ length (linking.program (files_of fs)).objects
      unfolding linking.program
      all_inside =
          let mine = ends_before (start + length f.constants) (inventories f.units) i w.inventory (inventory_at f.units i w at) in
          let ends = file_ends_before numbers outside own 0 fs k f have file_at in
          let first = outside_none in
          let all = length-append (map external_object (externals (files_of fs))) (linked_files numbers outside own (length (externals (files_of fs))) (files_of fs)).objects in
          let same : length (linked_files numbers outside own (length (externals (files_of fs))) (files_of fs)).objects ≡ length (linked_files numbers outside own 0 (files_of fs)).objects =
          ap (λ n. length (linked_files numbers outside own n (files_of fs)).objects) outside_none in
          omega (arith, mine, ends, all, same)

      function_stands : (j : ℕ) → functions_before (files_of fs) k + i ≡ j → FunctionStands fs j site w
      function_stands j there = record {
        functions = map unit_function f.units;
        function_is = ap (slice_get (linking.program (files_of fs)).functions) (sym there) ∙ stand.function_is ∙ ap (λ (l : LinkedFunction). Some l.function) linked_same;
        written = ap (slice_get (all_functions (files_of fs))) (sym there) ∙ stand.written;
        own = own_is fs;
        parameters_are = types_are w.inventory.parameters;
        frame = has.at ∙ frame_is site.bases.function w theirs;
        inside = all_inside;
        as_many = has.as_many ∙ framed_count w;
        parameter = λ n one got. fresh_at n _ (parameter_object one.type) (framed_parameter w.inventory n one got) (λ scope first. refl);
        result = λ type is. fresh_at (length w.inventory.parameters) _ (unset 4) (framed_result w.inventory type is) (λ scope first. refl);
        temporary = λ n below. fresh_at (length w.inventory.parameters + (result_count w.inventory.returned + n)) _ (unset 4) (framed_temporary w.inventory n below) (λ scope first. refl);
        bound = λ n one got. fresh_at (length w.inventory.parameters + (result_count w.inventory.returned + (w.inventory.temporaries + n))) _ (unset 4) (framed_bound w.inventory n one got) (λ scope first. refl);
        variable = variable_there;
        list = list_there;
        string = string_there;
        in_frame = frame_has;
        number = constant_there;
        before = first_behind (start + length f.constants) (inventories f.units) i;
      }

  unit_stands : (j : ℕ) (s : Site) (w : WrittenUnit) → slice_get (sites_of fs) j ≡ Some s → slice_get (all_units fs) j ≡ Some w → FunctionStands fs j s w
  unit_stands j s w at unit =
      let p = placed (length (all_inventories (map contents_of fs))) 0 fs j s w at unit in
      subst (λ (t : Site). FunctionStands fs j t w) p.site (function_stands p.file p.one p.file_at p.place w p.unit_at j p.number)

pub functions_have_places : FunctionsHavePlaces
functions_have_places fs have = record { functions = unit_stands fs have }
