-- A main program runs as its file does.
use Rattle.std.specs.Prelude.{◌≡◌, ℕ, zero, suc, ◌+◌, ◌-◌, ◌<◌, ◌≤◌, nat_lt, nat_eq, max, ℤ, Bool, true, false, not, ◌&&◌, ◌||◌, List, [], ◌∷◌, ◌++◌, map, length, replicate, position, Option, Some, None, is_none, is_some, option_map, option_and_then, unwrap_or, slice_get, bytes_eq, find, filter_map, if◌then◌else◌}
use Rattle.std.specs.Ordering.{int_eq}
use Rattle.std.proofs.Common.{refl, sym, ap, ◌∙◌, subst, arith}
use Rattle.std.proofs.lemmas.Bool.{ltb-true, ltb-false, lt-ltb}
use Rattle.std.proofs.lemmas.Bool.Decides.{Decides-int_eq}
use Rattle.std.proofs.lemmas.List.{length-append, length-map, length-replicate}
use Rattle.std.proofs.lemmas.Option.{slice_get_past}
use Rattle.main_file_laws.specs.simulation.LocalSimulation.{Local}
use Rattle.main_file_laws.specs.run_state.Units.{Units}
use Rattle.main_file_laws.specs.f_tree.declared.names.Basic.{Basic}
use Rattle.main_file_laws.specs.f_tree.declared.names.Class.TheVariants as class
use Rattle.main_file_laws.specs.f_tree.Values.{Bytes, Spot, IsInt, IsText, IsSpot, Gives}
use Rattle.main_file_laws.specs.f_tree.Store.{Sequence, Cell, Undefined, undefined_units}
use Rattle.main_file_laws.specs.f_tree.Facts.{Direction, Layout, Controls, Home, Member, MainProgram, EntryPoint, ProgramUnit, FunctionUnit, Block, Tie, Frame}
use Rattle.main_file_laws.specs.f_tree.Setting.{IsIn, first_in, later_in, HasUnit, homes_at, unit_home}
use Rattle.main_file_laws.specs.f_tree.Valuing.{extent_of, elements_of, whole}
use Rattle.main_file_laws.specs.f_tree.World.{Called, TheMain}
use Rattle.main_file_laws.specs.f_tree.Meaning.{found_from, facts_at, start_world, answers_to}
use Rattle.main_file_laws.specs.l_core.Pures.{Pures}
use Rattle.main_file_laws.specs.l_core.Steps.{Starts, Step, Acts, Halt, Text}
use Rattle.main_file_laws.specs.l_core.Costs.{cost, rest}
use Rattle.plain_forms.specs.lowering_laws.Layer.{lower_couple}
use Rattle.plain_forms.proofs.lowering_laws.LayoutLemmas.{laid_out}
use Rattle.plain_forms.proofs.lowering_laws.LocalLemmas.{simulates}
use Rattle.main_file_laws.specs.c_tree.declared.statement.CStmt.{CStmt}
use Rattle.main_file_laws.specs.c_tree.Objects.{Object, bytes_of_number}
use Rattle.main_file_laws.specs.c_tree.Declarations.{Declared, string_object, declared_statics}
use Rattle.main_file_laws.specs.c_tree.Builtins.{builtin_names}
use Rattle.main_file_laws.specs.c_tree.Flat.{Flat}
use Rattle.main_file_laws.specs.c_tree.FlatForm.{whole_body}
use Rattle.main_file_laws.specs.c_tree.Linking as linking
use Rattle.main_file_laws.specs.c_tree.Linking.{program, linked_function, file_scope, declared_constants}
use Rattle.main_file_laws.specs.c_tree.Meaning.{no_function, main_number, wrapped_by, counted_steps, step_factor}
use Rattle.main_file_laws.specs.faithful.StorageImage.{is_sequence, first_lasting, name_of_entries, NamesStand, StandsInItsObject, function_number, function_name, number_named, static_object, static_object_at, local_object, block_from, block_of, is_tied, class_of, each_once, classes, object_of, object_for, byte_for, cell_of}
use Rattle.main_file_laws.specs.faithful.FrameImage as frames
use Rattle.main_file_laws.specs.f_tree.CNames as c_names
use Rattle.main_file_laws.specs.f_tree.CNames.{variable_name}
use Rattle.main_file_laws.specs.c_image.World.{IsIdle}
use Rattle.main_file_laws.specs.c_image.Standing.{Stands, IsHoused, IsInRange, HasRoom}
use Rattle.main_file_laws.specs.c_image.Held.{Holds, number_object}
use Rattle.main_file_laws.specs.c_image.Addresses.{Reaches, IsSound, Alone}
use Rattle.main_file_laws.specs.c_structure.Statements.{Outline}
use Rattle.main_file_laws.specs.c_emit.Numbers.{is_numeric}
use Rattle.main_file_laws.specs.c_emit.Calls.{unit_of}
use Rattle.std.specs.List.{cons_option, list_any}
use Rattle.bridge.specs.output_laws.ListedOutputs.{list_object}
use Rattle.main_file_laws.specs.linking_laws.Linked as linked
use Rattle.main_file_laws.specs.linking_laws.Linked.{AreDistinct, routines_of, outside_of, own_of, base_at, function_base, linked_at}
use Rattle.main_file_laws.proofs.linking_laws.Places.{some_same, get_front, get_back, map_at, within, some_at, IsAt, in_first, in_second, at_one, taken}
use Rattle.main_file_laws.proofs.linking_laws.Scopes.{builtins_are_numbered}
use Rattle.main_file_laws.proofs.linking_laws.FunctionObjects.{functions_have_objects}
use Rattle.main_file_laws.proofs.linking_laws.Programs.{functions_stand, constants_stand}
use Rattle.bridge.specs.emitted_texts.SecondLayer.{emit_couple}
use Rattle.bridge.proofs.emitted_texts.Simulated.{mains_are_simulated}
use Rattle.bridge.specs.Bridge.{is_wrapper, FramesStand, UnitIsTranslated, IsTranslated}
use Rattle.bridge.proofs.Together.{translations_run_alike}
use Rattle.main_file_laws.specs.main_file.MainFile as main
use Rattle.main_file_laws.specs.main_file.MainFile.{Inventory, Listing, Bases, constant_for, main_function, main_file, first_temporary, place_or_none, place_of_constant, place_of_variable, place_of_list, place_of_string, first_string, main_locals, writing_of}
use Rattle.main_file_laws.specs.BuiltMain.{AreNumberedBuiltins}
use Rattle.main_file_laws.proofs.Listed.{declared_variable, declared_listing, object_by, no_strings, statics_count, variable_at, listing_at, lasting_names_are}
use Rattle.main_file_laws.proofs.Known.{position_finds}
use Rattle.main_programs.specs.EmittedMain.{emission_of, ObjectsStand}
use Rattle.main_programs.specs.MainRuns.{sizes_of, plain_setting, plain_facts, bytes_in, files_of, bases_of, linked_main, held_objects, held_at, world_of, surroundings_of, translation_of, IsTranslatedMain, MainProgramsRunAlike}
use Rattle.main_programs.proofs.Emission as emission
use Rattle.main_programs.proofs.Emission.{mains_are_emitted}
use Rattle.main_programs.proofs.MainStrings.{front_is, string_of, strings_stand}
use Rattle.main_programs.proofs.MainStorage.{home_found, home_there, IsPlaced, placed, shaped, store_is, map_back, all_undefined, room_of, position_named}

-- ## Costs

pub ones_cost : (count n : ℕ) → n < count → 1 ≤ cost (replicate count 1) n
unfolding cost
ones_cost zero n below = absurd (let no : ⊥ = omega (arith, below) in no)
ones_cost (suc count) zero below = omega arith
ones_cost (suc count) (suc n) below = ones_cost count n (omega (arith, below))

pub ones_rest : (count : ℕ) → rest (replicate count 1) 0 ≡ count
unfolding rest
ones_rest zero = refl
ones_rest (suc count) = let later = ones_rest count in omega (arith, later)

-- ## Lists

-- a list is as long as it has places
at_least : {A : Type 0} (xs : List A) (n : ℕ) → ((i : ℕ) → i < n → (x : A) × (slice_get xs i ≡ Some x)) → n ≤ length xs
at_least xs zero each = omega arith
at_least xs (suc n) each = let last = each n (omega arith) in let less = within xs n last.0 last.1 in omega (arith, less)

joined_is : (found : Option (Option Object)) (object : Object) → option_and_then (λ one. one) found ≡ Some object → found ≡ Some (Some object)
joined_is (Some (Some one)) object h = ap Some h
joined_is (Some None) object h = absurd (cc)
joined_is None object h = absurd (cc)

blanks : ℕ → List (Option Object)
blanks count = replicate count None

blank_at : (count n : ℕ) → n < count → slice_get (blanks count) n ≡ Some None
unfolding blanks
blank_at zero n below = absurd (let no : ⊥ = omega (arith, below) in no)
blank_at (suc count) zero below = refl
blank_at (suc count) (suc n) below = blank_at count n (omega (arith, below))

-- ## What the objects hold

abbrev constants_held : Inventory → List (Option Object)
constants_held v = map (λ z. Some (number_object z)) v.constants

abbrev lists_held : Inventory → List (Option Object)
lists_held v = map (λ (l : Listing). Some (list_object l.unit)) v.lists

abbrev strings_held : Inventory → List (Option Object)
strings_held v = map (λ n. Some (string_object (v.texts n))) v.strings

constants_many : (v : Inventory) → length (constants_held v) ≡ length v.constants
constants_many v = length-map v.constants (λ z. Some (number_object z))

variables_many : (v : Inventory) → length {A = Option Object} (replicate (length v.variables) None) ≡ length v.variables
variables_many v = length-replicate (length v.variables) None

lists_many : (v : Inventory) → length (lists_held v) ≡ length v.lists
lists_many v = length-map v.lists (λ (l : Listing). Some (list_object l.unit))

strings_many : (v : Inventory) → length (strings_held v) ≡ length v.strings
strings_many v = length-map v.strings (λ n. Some (string_object (v.texts n)))

all_many : (v : Inventory) → length (held_objects v) ≡ length v.constants + (length v.variables + (length v.lists + length v.strings))
all_many v =
    let one = length-append (constants_held v) (replicate (length v.variables) None ++ (lists_held v ++ strings_held v)) in
    let two = length-append (replicate (length v.variables) None) (lists_held v ++ strings_held v) in
    let three = length-append (lists_held v) (strings_held v) in
    let constants = constants_many v in
    let variables = variables_many v in
    let lists = lists_many v in
    let strings = strings_many v in
    omega (arith, one, two, three, constants, variables, lists, strings)

-- ## The constants of the file

pub constants_count : (zs : List ℤ) → length (declared_constants (map constant_for zs)) ≡ length zs
constants_count [] = refl
constants_count (z ∷ zs) = ap suc (constants_count zs)

record IsConstantAt (zs : List ℤ) (i : ℕ) (z : ℤ) : Type 0 where
  declared : Declared
  at : slice_get (declared_constants (map constant_for zs)) i ≡ Some declared
  always : linked.IsAlways declared (number_object z)

constant_at : (zs : List ℤ) (i : ℕ) (z : ℤ) → slice_get zs i ≡ Some z → IsConstantAt zs i z
constant_at [] i z at = absurd (cc)
constant_at (y ∷ zs) zero z at = subst (IsConstantAt (y ∷ zs) 0) (some_same y z at) (record { declared = _; at = refl; always = λ scope first. refl })
constant_at (y ∷ zs) (suc i) z at = let later = constant_at zs i z at in record { declared = later.declared; at = later.at; always = later.always }

pub no_main : (found : Option ℕ) (k : ℕ) → position (bytes_eq linking.main_name) builtin_names ≡ Some k → ⊥
no_main found k h = cc

no_blank : {A : Type 0} (count j : ℕ) (object : Object) → slice_get (replicate count None) j ≡ Some (Some object) → A
no_blank zero j object at = absurd (cc)
no_blank (suc count) zero object at = absurd (cc)
no_blank (suc count) (suc j) object at = no_blank count j object at

none_filtered : {A : Type 0} (f : A → Option ℕ) (xs : List A) → ((x : A) → f x ≡ None) → filter_map f xs ≡ []
none_filtered f [] none = refl
none_filtered f (x ∷ xs) none = ap (λ o. cons_option o (filter_map f xs)) (none x) ∙ none_filtered f xs none

most : (a n : ℕ) → n ≤ a → n ≤ max a 0
most a n less = omega (arith, less)

one_entry : (e only : EntryPoint) → IsIn e (only ∷ []) → only ≡ e
one_entry e _ first_in = refl
one_entry e only (later_in among) = elim among [ ]

no_function_unit : MainProgram ≡ FunctionUnit → ⊥
no_function_unit h = cc

module _ (unit : ProgramUnit) (v : Inventory) (u : Text) (kind : ℕ → ℕ → Option Basic) (stage : ℕ → Option ℤ) (o : Outline) (items : List Flat) (body : List CStmt) (is : IsTranslatedMain unit v u kind stage o items body) where
  first_object : (bases_of v body).function ≡ length v.constants
  first_object = let count = constants_count v.constants in omega (arith, count)

  builtins : AreNumberedBuiltins (routines_of (files_of v body)) v (bases_of v body)
  builtins name k called at =
      builtins_are_numbered (linking.main_name ∷ []) k name (λ i same. no_name i same) at
    where
      no_name : (i : ℕ) → slice_get (linking.main_name ∷ []) i ≡ Some name → ⊥
      no_name zero same = no_main None k (ap (λ (n : List ℕ). position (bytes_eq n) builtin_names) (some_same linking.main_name name same) ∙ at)
      no_name (suc i) same = cc

  in_program : linked.IsInProgram (files_of v body) 0 (main_file v body) 0 (main_function v body)
  in_program = functions_stand (files_of v body) 0 (main_file v body) 0 (main_function v body) refl refl

  has : linked.HasItsObjects (linked_at (files_of v body) 0 (main_file v body) 0 (main_function v body)) (bases_of v body).function (main_function v body)
  has = functions_have_objects (routines_of (files_of v body)) (bases_of v body).own (file_scope (routines_of (files_of v body)) (outside_of (files_of v body)) (bases_of v body).file (main_file v body)) (bases_of v body).function (main_function v body)

  frame_is : (linked_main v body).frame ≡ first_temporary v (bases_of v body)
  frame_is =
      emission.frame_is (surroundings_of v body unit.stored) 0 (routines_of (files_of v body)) (outside_of (files_of v body)) v (bases_of v body) u (replicate (length u.steps) 1) kind stage o items body builtins is.built

  -- ## Objects

  variable_object : (i : ℕ) (one : main.Variable) → slice_get v.variables i ≡ Some one → slice_get (program (files_of v body)).objects ((bases_of v body).function + i) ≡ Some (object_by one.count)
  variable_object i one at = in_program.objects i (object_by one.count) (has.lasting i (declared_variable one) (object_by one.count) (variable_at v i one at) (λ scope first. refl))

  list_stands : (i : ℕ) (l : Listing) → slice_get v.lists i ≡ Some l → slice_get (program (files_of v body)).objects ((bases_of v body).function + (length v.variables + i)) ≡ Some (list_object l.unit)
  list_stands i l at = in_program.objects (length v.variables + i) (list_object l.unit) (has.lasting (length v.variables + i) (declared_listing (1 + i) l) (list_object l.unit) (listing_at v i l at) (λ scope first. refl))

  string_stands : (i n : ℕ) → slice_get v.strings i ≡ Some n → slice_get (program (files_of v body)).objects ((bases_of v body).function + (length v.variables + (length v.lists + i))) ≡ Some (string_object (v.texts n))
  string_stands i n at =
      let stands = strings_stand (routines_of (files_of v body)) (outside_of (files_of v body)) v (bases_of v body) u kind o items body builtins is.built i n at in
      let passed = has.passed i (v.texts n) (ap (λ (ss : List (List ℕ)). slice_get (ss ++ (whole_body body).items.strings) i) (no_strings v) ∙ stands) in
      let kept = statics_count v in
      in_program.objects (length v.variables + (length v.lists + i)) (string_object (v.texts n))
      (ap (slice_get (linked_at (files_of v body) 0 (main_file v body) 0 (main_function v body)).objects) {x = length v.variables + (length v.lists + i)} {y = length (declared_statics (main_locals v)) + i} (omega (arith, kept)) ∙ passed)

  constant_stands : (i : ℕ) (z : ℤ) → slice_get v.constants i ≡ Some z → slice_get (program (files_of v body)).objects i ≡ Some (number_object z)
  constant_stands i z at =
      let c = constant_at v.constants i z at in
      ap (slice_get (program (files_of v body)).objects) {x = i} {y = 0 + i} (omega arith) ∙ constants_stand (files_of v body) 0 (main_file v body) i c.declared (number_object z) refl c.at c.always

  -- ## What is held

  held_constant : (i : ℕ) (z : ℤ) → slice_get v.constants i ≡ Some z → held_at v i ≡ Some (number_object z)
  held_constant i z at =
      ap (option_and_then (λ one. one)) (get_front (constants_held v) (replicate (length v.variables) None ++ (lists_held v ++ strings_held v)) i (Some (number_object z)) (map_at (λ y. Some (number_object y)) v.constants i z at))

  held_behind : (k i : ℕ) (object : Object) → k ≡ (bases_of v body).function + length v.variables + i → slice_get (lists_held v ++ strings_held v) i ≡ Some (Some object) → held_at v k ≡ Some object
  held_behind k i object there at =
      let count = constants_many v in
      let blanks = variables_many v in
      let first = first_object in
      ap (option_and_then (λ one. one))
      (get_back (constants_held v) (replicate (length v.variables) None ++ (lists_held v ++ strings_held v)) k (length v.variables + i) (Some object) (omega (arith, count, there, first))
      (get_back (replicate (length v.variables) None) (lists_held v ++ strings_held v) (length v.variables + i) i (Some object) (omega (arith, blanks)) at))

  held_list : (i k : ℕ) (l : Listing) → k ≡ (bases_of v body).function + length v.variables + i → slice_get v.lists i ≡ Some l → held_at v k ≡ Some (list_object l.unit)
  held_list i k l there at =
      held_behind k i (list_object l.unit) there (get_front (lists_held v) (strings_held v) i (Some (list_object l.unit)) (map_at (λ (one : Listing). Some (list_object one.unit)) v.lists i l at))

  held_string : (i k n : ℕ) → k ≡ first_string v (bases_of v body) + i → slice_get v.strings i ≡ Some n → held_at v k ≡ Some (string_object (v.texts n))
  held_string i k n there at =
      let lists = lists_many v in
      held_behind k (length v.lists + i) (string_object (v.texts n)) (omega (arith, there))
      (get_back (lists_held v) (strings_held v) (length v.lists + i) i (Some (string_object (v.texts n))) (omega (arith, lists)) (map_at (λ m. Some (string_object (v.texts m))) v.strings i n at))

  not_held : (n object : ℕ) → n < length v.variables → (bases_of v body).function + n ≡ object → held_at v object ≡ None
  unfolding blanks
  not_held n object below there =
      let count = constants_many v in
      let first = first_object in
      ap (option_and_then (λ one. one))
      (get_back (constants_held v) (replicate (length v.variables) None ++ (lists_held v ++ strings_held v)) object n None (omega (arith, count, there, first))
      (get_front (replicate (length v.variables) None) (lists_held v ++ strings_held v) n None (blank_at (length v.variables) n below)))

  held_there : (k : ℕ) (object : Object) → held_at v k ≡ Some object → slice_get (program (files_of v body)).objects k ≡ Some object
  held_there k object h = by (at_one (constants_held v) (replicate (length v.variables) None ++ (lists_held v ++ strings_held v)) k (Some object) (joined_is (slice_get (held_objects v) k) object h))
    where
      behind : (i : ℕ) → k ≡ (bases_of v body).function + (length v.variables + i) → IsAt (lists_held v) (strings_held v) i (Some object) → slice_get (program (files_of v body)).objects k ≡ Some object
      behind i there (in_first at) =
          let l = map_back (λ (one : Listing). Some (list_object one.unit)) v.lists i (Some object) at in
          ap (slice_get (program (files_of v body)).objects) there ∙ list_stands i l.0 l.1 ∙ l.2
      behind i there (in_second j apart at) =
          let n = map_back (λ m. Some (string_object (v.texts m))) v.strings j (Some object) at in
          let lists = lists_many v in
          ap (slice_get (program (files_of v body)).objects) {x = k} {y = (bases_of v body).function + (length v.variables + (length v.lists + j))} (omega (arith, there, apart, lists)) ∙ string_stands j n.0 n.1 ∙ n.2

      own_objects : (j : ℕ) → k ≡ length (constants_held v) + j → IsAt (replicate (length v.variables) None) (lists_held v ++ strings_held v) j (Some object) → slice_get (program (files_of v body)).objects k ≡ Some object
      own_objects j there (in_first at) = no_blank (length v.variables) j object at
      own_objects j there (in_second i apart at) =
          let count = constants_many v in
          let blank = variables_many v in
          let first = first_object in
          behind i (omega (arith, there, apart, count, blank, first)) (at_one (lists_held v) (strings_held v) i (Some object) at)

      by : IsAt (constants_held v) (replicate (length v.variables) None ++ (lists_held v ++ strings_held v)) k (Some object) → slice_get (program (files_of v body)).objects k ≡ Some object
      by (in_first at) = let z = map_back (λ y. Some (number_object y)) v.constants k (Some object) at in constant_stands k z.0 z.1 ∙ z.2
      by (in_second j there at) = own_objects j there (at_one (replicate (length v.variables) None) (lists_held v ++ strings_held v) j (Some object) at)

  -- ## The world

  home_at : (n : ℕ) → n < length v.variables → (world_of v body unit.stored).homes n ≡ Some ((bases_of v body).function + n)
  home_at n below = taken (nat_lt n (length v.variables)) (Some ((bases_of v body).function + n)) None (lt-ltb n (length v.variables) below)

  home_by : (n object : ℕ) (t : Bool) → nat_lt n (length v.variables) ≡ t → (if t then Some ((bases_of v body).function + n) else None) ≡ Some object → (n < length v.variables) × ((bases_of v body).function + n ≡ object)
  home_by n object true less h = (ltb-true n (length v.variables) less, some_same ((bases_of v body).function + n) object h)
  home_by n object false less h = absurd (cc)

  home_is : (n object : ℕ) → (world_of v body unit.stored).homes n ≡ Some object → (n < length v.variables) × ((bases_of v body).function + n ≡ object)
  home_is n object h = home_by n object (nat_lt n (length v.variables)) refl h

  -- the member of a place, with its variable
  record IsMemberAt (n : ℕ) : Type 0 where
    member : Member
    at : slice_get unit.stored n ≡ Some member
    one : main.Variable
    variable : slice_get v.variables n ≡ Some one
    size : member.size ≡ bytes_in one.count
    sized : (world_of v body unit.stored).size n ≡ member.size

  member_at : (n : ℕ) (m : Member) → slice_get unit.stored n ≡ Some m → IsMemberAt n
  member_at n m at =
      let l = is.storage.listed n m at in
      record { member = m; at = at; one = l.0; variable = l.1; size = l.3; sized = ap (λ found. unwrap_or found 0) (map_at (λ (k : Member). k.size) unit.stored n m at) }

  member_below : (n : ℕ) → n < length v.variables → IsMemberAt n
  member_below n below = let many = is.storage.as_many in let found = some_at unit.stored n (omega (arith, below, many)) in member_at n found.0 found.1

  small_at : (n : ℕ) → n < length v.variables → (world_of v body unit.stored).size n < 2147483648
  small_at n below = let m = member_below n below in let few = is.storage.small n m.member m.at in let same = m.sized in omega (arith, few, same)

  undefined_in : (size place : ℕ) (cell : Cell) → slice_get (undefined_units size).cells place ≡ Some cell → Undefined ≡ cell
  unfolding undefined_units
  undefined_in size place cell at = all_undefined size place cell at

  units_long : (size : ℕ) → length (undefined_units size).cells ≡ size
  unfolding undefined_units
  units_long size = length-replicate size Undefined

  units_open : (size : ℕ) → (undefined_units size).read_only ≡ false
  unfolding undefined_units
  units_open size = refl

  room_at : (n object size : ℕ) (m : IsMemberAt n) → m.member.size ≡ size → (bases_of v body).function + n ≡ object → HasRoom (length (undefined_units size).cells) (slice_get (program (files_of v body)).objects object)
  room_at n object size m same there =
      let room = room_of m.one.count in
      let long = units_long size in
      let fits = room.2 in
      let worth = m.size in
      record {
        bytes = room.0;
        is = ap (slice_get (program (files_of v body)).objects) (sym there) ∙ variable_object n m.one m.variable ∙ ap Some room.1;
        room = omega (arith, long, fits, worth, same);
      }

  housed_by : (n : ℕ) (m : IsMemberAt n) → IsHoused (world_of v body unit.stored) (program (files_of v body)).objects n (undefined_units m.member.size)
  housed_by n m = record {
    sized = units_long m.member.size ∙ sym m.sized;
    locked = units_open m.member.size;
    in_range = λ place cell at. subst IsInRange (undefined_in m.member.size place cell at) tt;
    room = λ object home. room_at n object m.member.size m refl (home_is n object home).1;
  }

  housed : (n : ℕ) (q : Sequence) → slice_get (map undefined_units (sizes_of unit.stored)) n ≡ Some q → IsHoused (world_of v body unit.stored) (program (files_of v body)).objects n q
  unfolding member_at
  housed n q at =
      let size = map_back undefined_units (sizes_of unit.stored) n q at in
      let m = map_back (λ (k : Member). k.size) unit.stored n size.0 size.1 in
      subst (IsHoused (world_of v body unit.stored) (program (files_of v body)).objects n) (ap undefined_units m.2 ∙ size.2) (housed_by n (member_at n m.0 m.1))

  no_byte : {A : Type 0} (size place byte : ℕ) (cell : Cell) → slice_get (undefined_units size).cells place ≡ Some cell → byte_for cell ≡ Some byte → A
  unfolding byte_for
  no_byte size place byte cell at gives = let none : None ≡ Some byte = ap byte_for (undefined_in size place cell at) ∙ gives in absurd (cc)

  nothing_stands : {A : Type 0} (n place byte : ℕ) (cell : Cell) (found : Option Sequence) → slice_get (map undefined_units (sizes_of unit.stored)) n ≡ found → cell_of found place ≡ Some cell → byte_for cell ≡ Some byte → A
  nothing_stands n place byte cell None at there gives = absurd (cc)
  nothing_stands n place byte cell (Some q) at there gives =
      let size = map_back undefined_units (sizes_of unit.stored) n q at in
      no_byte size.0 place byte cell (ap (λ (s : Sequence). slice_get s.cells place) size.2 ∙ there) gives

  stands_undefined : Stands (world_of v body unit.stored) (map undefined_units (sizes_of unit.stored)) (program (files_of v body)).objects
  stands_undefined = record {
    sane = record {
      small = small_at;
      alone = λ n m object below below' fixed one other. (let a = (home_is n object one).1 in let c = (home_is m object other).1 in omega (arith, a, c));
      free = λ n object below fixed one. not_held n object below (home_is n object one).1;
    };
    as_high = length-map (sizes_of unit.stored) undefined_units ∙ length-map unit.stored (λ (m : Member). m.size) ∙ sym is.storage.as_many;
    housed = housed;
    units = λ n number place byte cell home at gives. nothing_stands n place byte cell (slice_get (map undefined_units (sizes_of unit.stored)) n) refl at gives;
    held = held_there;
  }

  stands : (units : Units) → Stands (world_of v body unit.stored) (start_world (plain_setting unit) (unit ∷ []) units).store (program (files_of v body)).objects
  stands units = subst (λ s. Stands (world_of v body unit.stored) s (program (files_of v body)).objects) (sym (store_is unit units is.storage.images)) stands_undefined

  -- ## What is asked of the function

  object_some : (i : ℕ) → i < (linked_main v body).frame + length (linked_main v body).fresh → (x : Object) × (slice_get (program (files_of v body)).objects i ≡ Some x)
  object_some i below = by (nat_lt i (bases_of v body).function) refl
    where
      by : (t : Bool) → nat_lt i (bases_of v body).function ≡ t → (x : Object) × (slice_get (program (files_of v body)).objects i ≡ Some x)
      by true less =
          let before = ltb-true i (bases_of v body).function less in
          let first = first_object in
          let z = some_at v.constants i (omega (arith, before, first)) in
          (number_object z.0, constant_stands i z.0 z.1)
      by false more =
          let behind = ltb-false i (bases_of v body).function more in
          let many = has.as_many in
          let all = has.in_all in
          let at = has.at in
          let x = some_at (linked_at (files_of v body) 0 (main_file v body) 0 (main_function v body)).objects (i - (bases_of v body).function) (omega (arith, behind, below, many, all, at)) in
          (x.0, ap (slice_get (program (files_of v body)).objects) {x = i} {y = (bases_of v body).function + (i - (bases_of v body).function)} (omega (arith, behind)) ∙ in_program.objects (i - (bases_of v body).function) x.0 x.1)

  constant_held : (z : ℤ) → (writing_of v (bases_of v body) u.facts kind).library.has z ≡ true → Holds (held_at v ((writing_of v (bases_of v body) u.facts kind).library.constant z)) (IsInt z)
  constant_held z h = by (place_of_constant v z) refl h
    where
      by : (found : Option ℕ) → place_of_constant v z ≡ found → is_some found ≡ true → Holds (held_at v (0 + place_or_none found)) (IsInt z)
      by None at h = absurd (cc)
      by (Some i) at h =
          let f = position_finds (int_eq z) v.constants i at in
          let same : z ≡ f.one = (Decides-int_eq z f.one).0 f.passes in
          subst (λ y. Holds (held_at v (0 + i)) (IsInt y)) (sym same) (record {
            bytes = map Some (bytes_of_number f.one);
            is = ap (held_at v) {x = 0 + i} {y = i} (omega arith) ∙ held_constant i f.one f.at;
            begins = (is.numbers i f.one f.at, refl);
          })

  list_held : (n : ℕ) (way : Direction) (layout : Layout) (controls : Controls) (ps : Pures) (m : ℕ) (number : ℤ) → slice_get u.steps n ≡ Some (Acts (Starts way layout controls) ps m) → unit_of ps ≡ Some number
      → held_at v ((writing_of v (bases_of v body) u.facts kind).library.list n) ≡ Some (list_object number)
  list_held n way layout controls ps m number at of =
      let l = is.units n way layout controls ps m number at of in
      held_list l.0 ((writing_of v (bases_of v body) u.facts kind).library.list n) l.1 (ap (λ found. (bases_of v body).function + length v.variables + place_or_none found) l.2) l.3 ∙ ap (λ z. Some (list_object z)) l.4

  text_held : (n : ℕ) (text : Bytes) → slice_get u.steps n ≡ Some (Halt text) → Holds (held_at v ((writing_of v (bases_of v body) u.facts kind).library.text n)) (IsText text)
  text_held n text at =
      let string = string_of v u.steps n text is.built.stops at in
      let short = is.short n text at in
      record {
        bytes = map Some (text ++ replicate (length text + 1 - length text) 0);
        is = held_string string.place ((writing_of v (bases_of v body) u.facts kind).library.text n) n (ap (λ found. first_string v (bases_of v body) + place_or_none found) string.placed) string.at
            ∙ ap (λ bytes. Some (string_object bytes)) (is.texts n text at);
        begins = (short.1, short.0, front_is text (replicate (length text + 1 - length text) 0));
      }

  sound_at : (x : Bytes) (p : Spot) → IsPlaced unit x p → IsSound (world_of v body unit.stored) p
  sound_at x p pl =
      let widths = subst (λ y. (unit.attribute y).width ≡ Some 4) pl.named (is.storage.wide pl.place pl.member pl.at) in
      let four : pl.wide ≡ 4 = some_same pl.wide 4 (sym pl.width_is ∙ widths) in
      let fits = subst (λ y. extent_of (elements_of (unit.attribute y).bounds) 4 ≤ pl.member.size) pl.named (is.storage.within pl.place pl.member pl.at) in
      let sized = ap (λ found. unwrap_or found 0) (map_at (λ (k : Member). k.size) unit.stored pl.place pl.member pl.at) in
      let below = within unit.stored pl.place pl.member pl.at in
      let many = is.storage.as_many in
      let numeric = subst (λ y. is_numeric (unit.attribute y).basic ≡ true) pl.named (is.storage.numbers pl.place pl.member pl.at) in
      subst (IsSound (world_of v body unit.stored)) pl.is (record {
        there = omega (arith, below, many);
        shaped = shaped (unit.attribute x).basic _ numeric refl four;
        inside = subst (λ w. 0 + extent_of (elements_of (unit.attribute x).bounds) w ≤ (world_of v body unit.stored).size pl.place) (sym four) (omega (arith, fits, sized));
      })

  reached_at : (x : Bytes) (p : Spot) → IsPlaced unit x p → Reaches (world_of v body unit.stored) p (Alone ((bases_of v body).function + place_or_none (place_of_variable v x)))
  reached_at x p pl =
      let place : place_of_variable v x ≡ Some pl.place = subst (λ y. position (λ (one : main.Variable). bytes_eq y one.name) v.variables ≡ Some pl.place) pl.named (is.storage.first pl.place pl.member pl.at) in
      let below = within unit.stored pl.place pl.member pl.at in
      let many = is.storage.as_many in
      subst (λ q. Reaches (world_of v body unit.stored) q (Alone ((bases_of v body).function + place_or_none (place_of_variable v x)))) pl.is
      (home_at pl.place (omega (arith, below, many)) ∙ ap (λ found. Some ((bases_of v body).function + place_or_none found)) (sym place), refl)

  sound : (f : Frame) (x : Bytes) (p : Spot) → (u.facts.program.attribute x).class ≡ class.Stored → whole u.facts f x ≡ Gives (IsSpot p) → IsSound (world_of v body unit.stored) p
  sound = subst (λ c. (f : Frame) (x : Bytes) (p : Spot) → (c.program.attribute x).class ≡ class.Stored → whole c f x ≡ Gives (IsSpot p) → IsSound (world_of v body unit.stored) p) (sym is.facts) (λ f x p stored h. sound_at x p (placed unit f x p stored h))

  reached : (f : Frame) (x : Bytes) (p : Spot) → (u.facts.program.attribute x).class ≡ class.Stored → whole u.facts f x ≡ Gives (IsSpot p) → Reaches (world_of v body unit.stored) p (Alone ((bases_of v body).function + place_or_none (place_of_variable v x)))
  reached = subst (λ c. (f : Frame) (x : Bytes) (p : Spot) → (c.program.attribute x).class ≡ class.Stored → whole c f x ≡ Gives (IsSpot p) → Reaches (world_of v body unit.stored) p (Alone ((bases_of v body).function + place_or_none (place_of_variable v x)))) (sym is.facts)
      (λ f x p stored h. reached_at x p (placed unit f x p stored h))

  objects_stand : ObjectsStand (surroundings_of v body unit.stored) 0 v (bases_of v body) u kind (linked_main v body)
  objects_stand = record {
    room = refl;
    inside = at_least (program (files_of v body)).objects ((linked_main v body).frame + length (linked_main v body).fresh) object_some;
    constants = constant_held;
    lists = list_held;
    texts = text_held;
    sound = sound;
    reached = reached;
  }

  positive : (n : ℕ) (st : Step) → slice_get u.steps n ≡ Some st → 1 ≤ cost (replicate (length u.steps) 1) n
  positive n st at = ones_cost (length u.steps) n (within u.steps n st at)

  upper : Local (lower_couple 0 u (replicate (length u.steps) 1))
  upper = simulates 0 u (replicate (length u.steps) 1) (laid_out (plain_facts unit) u is.lowered is.direct is.ended is.loops) positive

  lower : Local (emit_couple (surroundings_of v body unit.stored) 0 u (replicate (length u.steps) 1) (emission_of v (bases_of v body) u kind stage (linked_main v body) 0))
  lower = mains_are_simulated (surroundings_of v body unit.stored) 0 u (replicate (length u.steps) 1) (emission_of v (bases_of v body) u kind stage (linked_main v body) 0)
      (mains_are_emitted (surroundings_of v body unit.stored) 0 (routines_of (files_of v body)) (outside_of (files_of v body)) v (bases_of v body) u (replicate (length u.steps) 1) kind stage o items body builtins is.built is.main is.fit positive objects_stand)

  -- ## The linked program

  factor_by : (found : Option (List ℕ)) → found ≡ None → (whole_body body).size ≤ max (counted_steps (main_function v body ∷ []) (main_function v body) found) 0
  factor_by None none = most (counted_steps (main_function v body ∷ []) (main_function v body) None) (whole_body body).size (omega arith)
  factor_by (Some name) none = absurd (cc)

  factor : length u.steps ≤ step_factor (files_of v body)
  unfolding step_factor
  factor = let long = is.as_long in let most_steps = factor_by (wrapped_by body) is.no_wrapper in omega (arith, long, most_steps)

  function_there : slice_get (program (files_of v body)).functions 0 ≡ Some (linked_main v body)
  function_there = in_program.function_is

  kind_is : unit.kind ≡ MainProgram
  kind_is = ap (λ c. c.program.kind) (sym is.facts) ∙ is.main.kind

  main_named : number_named (files_of v body) c_names.main_name ≡ Some 0
  unfolding c_names.main_name
  main_named = refl

  named : function_number (files_of v body) unit ≡ Some 0
  unfolding function_name
  named = ap (λ k. number_named (files_of v body) (elim k [ MainProgram ↦ c_names.main_name | _ ↦ name_of_entries unit.entries ])) kind_is ∙ main_named

  -- ## Names

  no_block : (sequence : ℕ) → block_of (unit ∷ []) (plain_setting unit) sequence ≡ None
  unfolding block_of block_from
  no_block sequence = ap (λ bs. linking.or_else (find (λ (block : Block). list_any (λ (member : Member). is_sequence sequence (unit_home (plain_setting unit) 0 unit member.name)) block.members) bs) None) is.storage.blocks

  no_class_of : (name : Bytes) (home : Option Home) (ties : List Tie) → ties ≡ [] → class_of (unit ∷ []) (plain_setting unit) ties name home ≡ None
  unfolding class_of is_tied
  no_class_of name None ties none = refl
  no_class_of name (Some home) ties none = ap (λ ts. if list_any (λ (tie : Tie). bytes_eq tie.one.name name || bytes_eq tie.other.name name) ts && is_none (block_of (unit ∷ []) (plain_setting unit) home.sequence) then Some home.sequence else None) none

  no_classes : classes (unit ∷ []) (plain_setting unit) 0 unit ≡ []
  unfolding classes each_once
  no_classes = ap (each_once []) (none_filtered (λ (member : Member). class_of (unit ∷ []) (plain_setting unit) unit.ties member.name (unit_home (plain_setting unit) 0 unit member.name)) unit.stored
      (λ m. no_class_of m.name (unit_home (plain_setting unit) 0 unit m.name) unit.ties is.storage.ties))

  static_is : (j : ℕ) (m : IsMemberAt j) (name : Bytes) → m.member.name ≡ name → m.one.name ≡ m.member.name → static_object (variable_name name) (main_function v body) (linked_main v body) ≡ Some ((bases_of v body).function + j)
  static_is j m name same listed =
      let d = declared_variable m.one in
      let called : variable_name m.one.name ≡ variable_name name = ap variable_name (listed ∙ same) in
      let place = position_named (declared_statics (main_locals v)) j d (subst AreDistinct (sym (lasting_names_are v)) is.built.differ.lasting) (variable_at v j m.one m.variable) in
      let at = has.at in
      ap (λ nm. option_map (λ place. first_lasting (main_function v body) (linked_main v body) + place) (position (λ (e : Declared). bytes_eq e.name nm) (declared_statics (main_locals v)))) (sym called)
      ∙ ap (option_map (λ place. first_lasting (main_function v body) (linked_main v body) + place)) place
      ∙ ap Some {x = first_lasting (main_function v body) (linked_main v body) + j} {y = (bases_of v body).function + j} (omega (arith, at))

  local_is : (j : ℕ) (name : Bytes) → static_object (variable_name name) (main_function v body) (linked_main v body) ≡ Some ((bases_of v body).function + j) → local_object (files_of v body) unit (variable_name name) ≡ Some ((bases_of v body).function + j)
  local_is j name static =
      ap (option_and_then (λ number. static_object_at (variable_name name) (slice_get (linking.all_functions (files_of v body)) number) (slice_get (program (files_of v body)).functions number))) named
      ∙ ap (static_object_at (variable_name name) (Some (main_function v body))) function_there ∙ static

  object_is : (j : ℕ) (name : Bytes) (home : Home) → static_object (variable_name name) (main_function v body) (linked_main v body) ≡ Some ((bases_of v body).function + j) → object_for (unit ∷ []) (plain_setting unit) (files_of v body) 0 unit name home ≡ Some ((bases_of v body).function + j)
  unfolding object_for
  object_is j name home static =
      (λ i. object_of (files_of v body) unit name (no_block home.sequence i) (position (nat_eq home.sequence) (no_classes i))) ∙ local_is j name static

  in_its_object : (member : Member) → IsIn member unit.stored → StandsInItsObject (unit ∷ []) (plain_setting unit) (files_of v body) (world_of v body unit.stored).homes 0 unit member.name
  unfolding unit_home homes_at member_at
  in_its_object member among =
      let h = home_there member 0 unit.stored among in
      let f = home_found member.name 0 unit.stored h.0 h.1 in
      let m = member_at f.place f.member f.at in
      let listed = (is.storage.listed f.place f.member f.at).2 in
      let below = within unit.stored f.place f.member f.at in
      let many = is.storage.as_many in
      let here : 0 + f.place ≡ f.place = omega arith in
      record {
        home = h.0;
        is = h.1;
        object = λ takes. (
          (bases_of v body).function + f.place,
          object_is f.place member.name h.0 (static_is f.place m member.name f.named listed),
          subst (λ (k : Home). (world_of v body unit.stored).homes k.sequence ≡ Some ((bases_of v body).function + f.place)) f.is (ap (world_of v body unit.stored).homes here ∙ home_at f.place (omega (arith, below, many))),
        );
      }

  names_stand : NamesStand (unit ∷ []) (plain_setting unit) (files_of v body) (world_of v body unit.stored).homes
  names_stand zero one member there among =
      let same : unit ≡ one = some_same unit one there in
      subst (λ (w : ProgramUnit). StandsInItsObject (unit ∷ []) (plain_setting unit) (files_of v body) (world_of v body unit.stored).homes 0 w member.name) same (in_its_object member (subst (λ (w : ProgramUnit). IsIn member w.stored) (sym same) among))
  names_stand (suc k) one member there among = absurd (cc)

  low_at : (member : Member) (home : Home) → unit_home (plain_setting unit) 0 unit member.name ≡ Some home → home.sequence < length v.variables
  unfolding unit_home homes_at
  low_at member home h =
      let f = home_found member.name 0 unit.stored home h in
      let below = within unit.stored f.place f.member f.at in
      let many = is.storage.as_many in
      subst (λ (k : Home). k.sequence < length v.variables) f.is (omega (arith, below, many))

  low : (k : ℕ) (one : ProgramUnit) (member : Member) (home : Home) → HasUnit (unit ∷ []) k one → IsIn member one.stored → unit_home (plain_setting unit) k one member.name ≡ Some home → home.sequence < length v.variables
  low zero one member home there among h = let same : unit ≡ one = some_same unit one there in low_at member home (subst (λ (w : ProgramUnit). unit_home (plain_setting unit) 0 w member.name ≡ Some home) (sym same) h)
  low (suc k) one member home there among h = absurd (cc)

  -- ## The unit

  found_one : (t : Bool) (i : ℕ) → (if t then Some 0 else None) ≡ Some i → 0 ≡ i
  found_one true i h = some_same 0 i h
  found_one false i h = absurd (cc)

  one_unit : (name : Called) (i : ℕ) → found_from 0 (unit ∷ []) name ≡ Some i → 0 ≡ i
  unfolding found_from
  one_unit name i h = found_one (answers_to name unit) i h

  entry_is : (e : EntryPoint) (es : List EntryPoint) → es ≡ is.main.entry ∷ [] → IsIn e es → is.main.entry ≡ e
  entry_is e es only among = one_entry e is.main.entry (subst (IsIn e) only among)

  frames_stand : FramesStand (unit ∷ []) (files_of v body) 0 (emission_of v (bases_of v body) u kind stage (linked_main v body) 0)
  frames_stand ν f kept objects of known held = record {
    unit = unit;
    is = refl;
    function = 0;
    has = named;
    dummies = subst (λ fs. frames.Each (frames.FormalStands (files_of v body) ν.homes objects 0 unit f) fs) (sym is.main.no_dummies ∙ ap (λ (e : EntryPoint). e.formals) (entry_is f.called u.facts.program.entries is.main.only of.called)) frames.none;
    result = subst (frames.ResultStands (files_of v body) ν.homes objects 0) (sym (of.no_result (λ wrong. no_function_unit (sym is.main.kind ∙ wrong)))) tt;
  }

  own_one : nat_lt 0 (length (program (files_of v body)).functions) ≡ true
  own_one = let less = within (program (files_of v body)).functions 0 (linked_main v body) function_there in lt-ltb 0 (length (program (files_of v body)).functions) less

  inner_by : (found : Option (List ℕ)) → found ≡ None → is_none found ≡ true
  inner_by found none = ap is_none none

  idle : IsIdle (linked_main v body).frame (length (linked_main v body).fresh) (world_of v body unit.stored)
  idle = record {
    no_home = λ n object below home from before. (let there = (home_is n object home).1 in let less = (home_is n object home).0 in let frame = frame_is in omega (arith, there, less, frame, from));
    not_held = λ k from before. nothing_held k from;
  }
    where
      nothing_held : (k : ℕ) → (linked_main v body).frame ≤ k → held_at v k ≡ None
      nothing_held k from =
          let all = all_many v in
          let first = first_object in
          let frame = frame_is in
          ap (option_and_then (λ one. one)) (slice_get_past (held_objects v) k (omega (arith, all, first, frame, from)))

  the_unit : UnitIsTranslated (plain_setting unit) (unit ∷ []) (files_of v body) (translation_of v body unit.stored u kind stage) 0
  unfolding facts_at
  the_unit = record {
    unit = unit;
    has = refl;
    facts = is.facts;
    upper = upper;
    lower = lower;
    narrow = (let counted = ones_rest (length u.steps) in let most_steps = factor in omega (arith, counted, most_steps));
    function = ap (λ found. unwrap_or found no_function) function_there;
    own = own_one;
    inner = ap is_none is.no_wrapper;
    named = named;
    called = λ name h. refl;
    idle = idle;
    frames = frames_stand;
  }

  no_wrapper : (i : ℕ) → is_wrapper (slice_get (linking.all_functions (files_of v body)) i) ≡ false
  unfolding is_wrapper
  no_wrapper zero = ap (λ found. not (is_none found)) is.no_wrapper
  no_wrapper (suc i) = refl

  main_first : main_number (program (files_of v body)) ≡ 0
  unfolding program
  main_first = refl

  translated : IsTranslated (plain_setting unit) (unit ∷ []) (files_of v body) (translation_of v body unit.stored u kind stage)
  translated = record {
    units = λ i may. subst (UnitIsTranslated (plain_setting unit) (unit ∷ []) (files_of v body) (translation_of v body unit.stored u kind stage)) (one_unit may.0 i may.1) the_unit;
    owned = λ i. refl;
    no_wrapper = no_wrapper;
    some_step = (let some = is.some_step in let most_steps = factor in omega (arith, some, most_steps));
    main = λ i found. main_first ∙ one_unit TheMain i found;
    stands = stands;
    as_many = refl;
    names = names_stand;
    low = low;
  }

pub main_programs_run_alike : MainProgramsRunAlike
main_programs_run_alike unit v u kind stage o items body is units n no_break =
    translations_run_alike (plain_setting unit) (unit ∷ []) (files_of v body) (translation_of v body unit.stored u kind stage) (translated unit v u kind stage o items body is) units n no_break
