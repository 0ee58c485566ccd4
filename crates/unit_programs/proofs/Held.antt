-- What the objects of the files hold that no statement defines, by where the functions of the units stand.
use Rattle.std.specs.List.{flat_map}
use Rattle.std.specs.Option.{option_flatten}
use Rattle.std.specs.Prelude.{◌≡◌, ℕ, zero, suc, ◌+◌, ◌<◌, ℤ, List, [], ◌∷◌, ◌++◌, map, length, replicate, Option, Some, None, slice_get}
use Rattle.std.proofs.Common.{refl, ap, ◌∙◌, subst, arith}
use Rattle.std.proofs.lemmas.List.{length-append, length-map, length-replicate}
use Rattle.emitted_procedures.specs.c_tree.Objects.{Object}
use Rattle.emitted_procedures.specs.c_tree.Declarations.{string_object}
use Rattle.emitted_procedures.specs.c_tree.Linking as linking
use Rattle.emitted_procedures.specs.c_image.Held.{number_object}
use Rattle.emitted_procedures.specs.output_laws.ListedOutputs.{list_object}
use Rattle.unit_file_laws.proofs.linking_laws.Places.{some_same, get_front, get_back, map_at, IsAt, in_first, in_second, at_one}
use Rattle.main_programs.proofs.MainStorage.{map_back}
use Rattle.unit_file_laws.specs.unit_file.UnitFile.{Listing, Inventory, WrittenUnit, object_count, frame_count, first_object, first_list, first_string, first_parameter}
use Rattle.unit_file_laws.specs.unit_sites.UnitSites.{UnitsOfFile, files_of, all_units, inventories, contents_of, all_inventories, Site, sites_in, behind, sites_of}
use Rattle.unit_file_laws.specs.unit_places.UnitPlaces.{StandsAs, FunctionStands, HasPlaces}
use Rattle.unit_file_laws.proofs.unit_places.Sites.{sites_in_many, inventory_at, file_end, site_in, sites_behind, file_start, IsPlaced, placed}
use Rattle.unit_programs.specs.OwnStorage.{held_of, held_numbers, held_in}
use Rattle.unit_programs.proofs.Pieces.{before, flat_there, IsPart, flat_back}

-- ## How many they are

held_many : (v : Inventory) → length (held_of v) ≡ object_count v
held_many v =
    let lists = map (λ (l : Listing). Some (list_object l.unit)) v.lists in
    let strings = map (λ n. Some (string_object (v.texts n))) v.strings in
    let one = length-append {A = Option Object} (replicate (length v.variables) None) (lists ++ (strings ++ replicate (frame_count v) None)) in
    let two = length-append {A = Option Object} lists (strings ++ replicate (frame_count v) None) in
    let three = length-append {A = Option Object} strings (replicate (frame_count v) None) in
    let four = length-replicate {A = Option Object} (length v.variables) None in
    let five = length-replicate {A = Option Object} (frame_count v) None in
    let six = length-map v.lists (λ (l : Listing). Some (list_object l.unit)) in
    let seven = length-map v.strings (λ n. Some (string_object (v.texts n))) in
    omega (arith, one, two, three, four, five, six, seven)

numbers_many : (zs : List ℤ) (ws : List WrittenUnit) → length (held_numbers zs ws) ≡ length zs
numbers_many zs [] = length-replicate {A = Option Object} (length zs) None
numbers_many zs (w ∷ ws) = length-map zs (λ z. Some (number_object z))

-- where the objects of a function begin
first_is : (first : ℕ) (vs : List Inventory) (place : ℕ) → first_object first vs place ≡ first + before held_of vs place
first_is first [] place = omega arith
first_is first (v ∷ vs) zero = omega arith
first_is first (v ∷ vs) (suc place) = let later = first_is (first + object_count v) vs place in let many = held_many v in omega (arith, later, many)

behind_is : (first : ℕ) (vs : List Inventory) → behind first vs ≡ first + length (flat_map held_of vs)
behind_is first [] = omega arith
behind_is first (v ∷ vs) =
    let later = behind_is (first + object_count v) vs in
    let one = held_many v in
    let both = length-append (held_of v) (flat_map held_of vs) in
    omega (arith, later, one, both)

-- and those of a file
start_is : (first : ℕ) (fs : List UnitsOfFile) (number : ℕ) → file_start first fs number ≡ first + before held_in fs number
start_is first [] number = omega arith
start_is first (f ∷ fs) zero = omega arith
start_is first (f ∷ fs) (suc number) =
    let later = start_is (file_end first f) fs number in
    let last = behind_is (first + length f.constants) (inventories f.units) in
    let numbers = numbers_many f.constants f.units in
    let both = length-append (held_numbers f.constants f.units) (flat_map held_of (inventories f.units)) in
    omega (arith, later, last, numbers, both)

-- ## The number of a unit of a file among all

site_there : (own file : ℕ) (constants : List ℤ) (function : ℕ) (vs : List Inventory) (place : ℕ) (v : Inventory) → slice_get vs place ≡ Some v
    → slice_get (sites_in own file constants function vs) place ≡ Some (record { constants = constants; bases = record { own = own; file = file; function = first_object function vs place } })
site_there own file constants function [] place v at = absurd (cc)
site_there own file constants function (x ∷ vs) zero v at = refl
site_there own file constants function (x ∷ vs) (suc place) v at = site_there own file constants (function + object_count x) vs place v at

record IsSited (own first : ℕ) (fs : List UnitsOfFile) (number : ℕ) (file : UnitsOfFile) (place : ℕ) (w : WrittenUnit) : Type 0 where
  unit : ℕ
  at : slice_get (all_units fs) unit ≡ Some w
  here : slice_get (sites_behind own first fs) unit ≡ Some (site_in own (file_start first fs number) file place)

sited : (own first : ℕ) (fs : List UnitsOfFile) (number : ℕ) (file : UnitsOfFile) (place : ℕ) (w : WrittenUnit) → slice_get fs number ≡ Some file → slice_get file.units place ≡ Some w → IsSited own first fs number file place w
sited own first [] number file place w has at = absurd (cc)
sited own first (f ∷ fs) zero file place w has at = subst (λ g. slice_get g.units place ≡ Some w → IsSited own first (f ∷ fs) 0 g place w) (some_same f file has) in_it at
  where
    in_it : slice_get f.units place ≡ Some w → IsSited own first (f ∷ fs) 0 f place w
    in_it there = record {
      unit = place;
      at = get_front f.units (all_units fs) place w there;
      here = get_front (sites_in own first f.constants (first + length f.constants) (inventories f.units)) (sites_behind own (file_end first f) fs) place (site_in own first f place)
          (site_there own first f.constants (first + length f.constants) (inventories f.units) place w.inventory (inventory_at f.units place w there));
    }
sited own first (f ∷ fs) (suc number) file place w has at =
    let l = sited own (file_end first f) fs number file place w has at in
    let sites = sites_in_many own first f.constants (first + length f.constants) (inventories f.units) in
    let units = length-map f.units (λ (x : WrittenUnit). x.inventory) in
    record {
      unit = length f.units + l.unit;
      at = get_back f.units (all_units fs) (length f.units + l.unit) l.unit w refl l.at;
      here = get_back (sites_in own first f.constants (first + length f.constants) (inventories f.units)) (sites_behind own (file_end first f) fs) (length f.units + l.unit) l.unit
          (site_in own (file_start (file_end first f) fs number) file place) (omega (arith, sites, units)) l.here;
    }

-- ## What a function holds

abbrev blanks : ℕ → List (Option Object)
blanks n = replicate n None

blanks_many : (n : ℕ) → length (blanks n) ≡ n
blanks_many n = length-replicate {A = Option Object} n None

no_blank : {A : Type 0} (count j : ℕ) (object : Object) → slice_get (blanks count) j ≡ Some (Some object) → A
no_blank zero j object at = absurd (cc)
no_blank (suc count) zero object at = absurd (cc)
no_blank (suc count) (suc j) object at = no_blank count j object at

blank_at : (count n : ℕ) → n < count → slice_get (blanks count) n ≡ Some None
blank_at zero n below = absurd (let no : ⊥ = omega (arith, below) in no)
blank_at (suc count) zero below = refl
blank_at (suc count) (suc n) below = blank_at count n (omega (arith, below))

abbrev lists_held : Inventory → List (Option Object)
lists_held v = map (λ (l : Listing). Some (list_object l.unit)) v.lists

abbrev strings_held : Inventory → List (Option Object)
strings_held v = map (λ n. Some (string_object (v.texts n))) v.strings

number_held : (zs : List ℤ) (ws : List WrittenUnit) (place i : ℕ) (w : WrittenUnit) (z : ℤ) → slice_get ws place ≡ Some w → slice_get zs i ≡ Some z → slice_get (held_numbers zs ws) i ≡ Some (Some (number_object z))
number_held zs [] place i w z there at = absurd (cc)
number_held zs (x ∷ ws) place i w z there at = map_at (λ y. Some (number_object y)) zs i z at

module _ (fs : List UnitsOfFile) (j : ℕ) (s : Site) (w : WrittenUnit) (here : slice_get (sites_of fs) j ≡ Some s) (at : slice_get (all_units fs) j ≡ Some w) where
  abbrev v : Inventory
  v = w.inventory

  its_file : IsPlaced (length (all_inventories (map contents_of fs))) 0 fs j s w
  its_file = placed (length (all_inventories (map contents_of fs))) 0 fs j s w here at

  -- an object of the file
  file_held : (i k : ℕ) (found : Option Object) → k ≡ s.bases.file + i → slice_get (held_in its_file.one) i ≡ Some found → option_flatten (slice_get (flat_map held_in fs) k) ≡ found
  file_held i k found there got =
      let file = ap (λ (t : Site). t.bases.file) its_file.site in
      let start = start_is 0 fs its_file.file in
      ap (λ n. option_flatten (slice_get (flat_map held_in fs) n)) {x = k} {y = before held_in fs its_file.file + i} (omega (arith, there, file, start))
      ∙ ap option_flatten (flat_there held_in fs its_file.file its_file.one i found its_file.file_at got)

  pub constant_held : (i : ℕ) (z : ℤ) → slice_get s.constants i ≡ Some z → option_flatten (slice_get (flat_map held_in fs) (s.bases.file + i)) ≡ Some (number_object z)
  constant_held i z got =
      file_held i (s.bases.file + i) (Some (number_object z)) refl (get_front (held_numbers its_file.one.constants its_file.one.units) (flat_map held_of (inventories its_file.one.units)) i (Some (number_object z))
      (number_held its_file.one.constants its_file.one.units its_file.place i w z its_file.unit_at (ap (λ (t : Site). slice_get t.constants i) its_file.site ∙ got)))

  -- an object of the function
  held_at : (i k : ℕ) (found : Option Object) → k ≡ s.bases.function + i → slice_get (held_of v) i ≡ Some found → option_flatten (slice_get (flat_map held_in fs) k) ≡ found
  held_at i k found there got =
      let file = ap (λ (t : Site). t.bases.file) its_file.site in
      let function = ap (λ (t : Site). t.bases.function) its_file.site in
      let first = first_is (file_start 0 fs its_file.file + length its_file.one.constants) (inventories its_file.one.units) its_file.place in
      let many = numbers_many its_file.one.constants its_file.one.units in
      file_held (length its_file.one.constants + (before held_of (inventories its_file.one.units) its_file.place + i)) k found (omega (arith, there, file, function, first))
      (get_back (held_numbers its_file.one.constants its_file.one.units) (flat_map held_of (inventories its_file.one.units)) (length its_file.one.constants + (before held_of (inventories its_file.one.units) its_file.place + i))
      (before held_of (inventories its_file.one.units) its_file.place + i) found (omega (arith, many)) (flat_there held_of (inventories its_file.one.units) its_file.place v i found (inventory_at its_file.one.units its_file.place w its_file.unit_at) got))

  pub not_held : (i : ℕ) → i < length v.variables → option_flatten (slice_get (flat_map held_in fs) (s.bases.function + i)) ≡ None
  not_held i below =
      held_at i (s.bases.function + i) None refl (get_front (blanks (length v.variables)) (lists_held v ++ (strings_held v ++ blanks (frame_count v))) i None (blank_at (length v.variables) i below))

  pub held_list : (i k : ℕ) (l : Listing) → k ≡ first_list v s.bases + i → slice_get v.lists i ≡ Some l → option_flatten (slice_get (flat_map held_in fs) k) ≡ Some (list_object l.unit)
  held_list i k l there got =
      let many = blanks_many (length v.variables) in
      held_at (length v.variables + i) k (Some (list_object l.unit)) (omega (arith, there))
      (get_back (blanks (length v.variables)) (lists_held v ++ (strings_held v ++ blanks (frame_count v))) (length v.variables + i) i (Some (list_object l.unit)) (omega (arith, many))
      (get_front (lists_held v) (strings_held v ++ blanks (frame_count v)) i (Some (list_object l.unit)) (map_at (λ (one : Listing). Some (list_object one.unit)) v.lists i l got)))

  pub held_string : (i k n : ℕ) → k ≡ first_string v s.bases + i → slice_get v.strings i ≡ Some n → option_flatten (slice_get (flat_map held_in fs) k) ≡ Some (string_object (v.texts n))
  held_string i k n there got =
      let many = blanks_many (length v.variables) in
      let lists = length-map v.lists (λ (l : Listing). Some (list_object l.unit)) in
      held_at (length v.variables + (length v.lists + i)) k (Some (string_object (v.texts n))) (omega (arith, there))
      (get_back (blanks (length v.variables)) (lists_held v ++ (strings_held v ++ blanks (frame_count v))) (length v.variables + (length v.lists + i)) (length v.lists + i) (Some (string_object (v.texts n))) (omega (arith, many))
      (get_back (lists_held v) (strings_held v ++ blanks (frame_count v)) (length v.lists + i) i (Some (string_object (v.texts n))) (omega (arith, lists))
      (get_front (strings_held v) (blanks (frame_count v)) i (Some (string_object (v.texts n))) (map_at (λ m. Some (string_object (v.texts m))) v.strings i n got))))

  -- of a frame nothing is held
  pub frame_blank : (i k : ℕ) → k ≡ first_parameter v s.bases + i → i < frame_count v → option_flatten (slice_get (flat_map held_in fs) k) ≡ None
  frame_blank i k there below =
      let many = blanks_many (length v.variables) in
      let lists = length-map v.lists (λ (l : Listing). Some (list_object l.unit)) in
      let strings = length-map v.strings (λ n. Some (string_object (v.texts n))) in
      held_at (length v.variables + (length v.lists + (length v.strings + i))) k None (omega (arith, there))
      (get_back (blanks (length v.variables)) (lists_held v ++ (strings_held v ++ blanks (frame_count v))) (length v.variables + (length v.lists + (length v.strings + i))) (length v.lists + (length v.strings + i)) None (omega (arith, many))
      (get_back (lists_held v) (strings_held v ++ blanks (frame_count v)) (length v.lists + (length v.strings + i)) (length v.strings + i) None (omega (arith, lists))
      (get_back (strings_held v) (blanks (frame_count v)) (length v.strings + i) i None (omega (arith, strings)) (blank_at (frame_count v) i below))))

  -- ## In the program

  module _ (stands : FunctionStands fs j s w) (k : ℕ) (object : Object) where
    string_there : (n : ℕ) → k ≡ first_string v s.bases + n → IsAt (strings_held v) (blanks (frame_count v)) n (Some object) → StandsAs fs k object
    string_there n there (in_first got) = let m = map_back (λ n. Some (string_object (v.texts n))) v.strings n (Some object) got in ap (slice_get (linking.program (files_of fs)).objects) there ∙ stands.string n m.0 m.1 ∙ m.2
    string_there n there (in_second m apart got) = no_blank (frame_count v) m object got

    list_there : (n : ℕ) → k ≡ first_list v s.bases + n → IsAt (lists_held v) (strings_held v ++ blanks (frame_count v)) n (Some object) → StandsAs fs k object
    list_there n there (in_first got) = let l = map_back (λ (one : Listing). Some (list_object one.unit)) v.lists n (Some object) got in ap (slice_get (linking.program (files_of fs)).objects) there ∙ stands.list n l.0 l.1 ∙ l.2
    list_there n there (in_second m apart got) =
        let lists = length-map v.lists (λ (l : Listing). Some (list_object l.unit)) in
        string_there m (omega (arith, there, apart, lists)) (at_one (strings_held v) (blanks (frame_count v)) m (Some object) got)

    function_there : (n : ℕ) → k ≡ s.bases.function + n → IsAt (blanks (length v.variables)) (lists_held v ++ (strings_held v ++ blanks (frame_count v))) n (Some object) → StandsAs fs k object
    function_there n there (in_first got) = no_blank (length v.variables) n object got
    function_there n there (in_second m apart got) =
        let many = blanks_many (length v.variables) in
        list_there m (omega (arith, there, apart, many)) (at_one (lists_held v) (strings_held v ++ blanks (frame_count v)) m (Some object) got)

    constant_there : (n : ℕ) → k ≡ s.bases.file + n → slice_get (map (λ z. Some (number_object z)) s.constants) n ≡ Some (Some object) → StandsAs fs k object
    constant_there n there got =
        let z = map_back (λ y. Some (number_object y)) s.constants n (Some object) got in
        ap (slice_get (linking.program (files_of fs)).objects) there ∙ stands.number n z.0 z.1 ∙ z.2

-- ## All that is held

joined_is : (found : Option (Option Object)) (object : Object) → option_flatten found ≡ Some object → found ≡ Some (Some object)
joined_is (Some (Some one)) object h = ap Some h
joined_is (Some None) object h = absurd (cc)
joined_is None object h = absurd (cc)

-- it stands in the objects of the program
pub held_there : (fs : List UnitsOfFile) → HasPlaces fs → (k : ℕ) (object : Object) → option_flatten (slice_get (flat_map held_in fs) k) ≡ Some object → StandsAs fs k object
held_there fs places k object h = in_file (flat_back held_in fs k (Some object) (joined_is (slice_get (flat_map held_in fs) k) object h))
  where
    numbers_there : (number : ℕ) (constants : List ℤ) (ws : List WrittenUnit) (n : ℕ) → slice_get fs number ≡ Some (record { constants = constants; units = ws }) → k ≡ before held_in fs number + n
        → slice_get (held_numbers constants ws) n ≡ Some (Some object) → StandsAs fs k object
    numbers_there number constants [] n has there got = no_blank (length constants) n object got
    numbers_there number constants (w ∷ ws) n has there got =
        let f : UnitsOfFile = record { constants = constants; units = w ∷ ws } in
        let own = length (all_inventories (map contents_of fs)) in
        let u = sited own 0 fs number f 0 w has refl in
        let s = site_in own (file_start 0 fs number) f 0 in
        let start = start_is 0 fs number in
        constant_there fs u.unit s w u.here u.at (places.functions u.unit s w u.here u.at) k object n (omega (arith, there, start)) got

    functions_there : (number : ℕ) (file : UnitsOfFile) (n m : ℕ) → slice_get fs number ≡ Some file → k ≡ before held_in fs number + n → n ≡ length (held_numbers file.constants file.units) + m
        → slice_get (flat_map held_of (inventories file.units)) m ≡ Some (Some object) → StandsAs fs k object
    functions_there number file n m has there apart got =
        let f = flat_back held_of (inventories file.units) m (Some object) got in
        let w = map_back (λ (x : WrittenUnit). x.inventory) file.units f.piece f.whole f.at in
        let own = length (all_inventories (map contents_of fs)) in
        let u = sited own 0 fs number file f.piece w.0 has w.1 in
        let s = site_in own (file_start 0 fs number) file f.piece in
        let start = start_is 0 fs number in
        let first = first_is (file_start 0 fs number + length file.constants) (inventories file.units) f.piece in
        let many = numbers_many file.constants file.units in
        let place = f.is in
        function_there fs u.unit s w.0 u.here u.at (places.functions u.unit s w.0 u.here u.at) k object f.place (omega (arith, there, apart, start, first, many, place))
        (at_one (blanks (length w.0.inventory.variables)) (lists_held w.0.inventory ++ (strings_held w.0.inventory ++ blanks (frame_count w.0.inventory))) f.place (Some object) (ap (λ v. slice_get (held_of v) f.place) w.2 ∙ f.got))

    in_file : IsPart held_in fs k (Some object) → StandsAs fs k object
    in_file f = by (at_one (held_numbers f.whole.constants f.whole.units) (flat_map held_of (inventories f.whole.units)) f.place (Some object) f.got)
      where
        by : IsAt (held_numbers f.whole.constants f.whole.units) (flat_map held_of (inventories f.whole.units)) f.place (Some object) → StandsAs fs k object
        by (in_first got) = numbers_there f.piece f.whole.constants f.whole.units f.place f.at f.is got
        by (in_second m apart got) = functions_there f.piece f.whole f.place m f.at f.is apart got
