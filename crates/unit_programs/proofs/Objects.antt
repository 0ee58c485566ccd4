-- The functions of the files by their numbers, and what linking makes of each.
use Rattle.std.specs.Prelude.{◌≡◌, ℕ, zero, suc, ◌+◌, ◌<◌, ◌≤◌, Bool, true, false, List, [], ◌∷◌, ◌++◌, map, length, drop, position, Option, Some, None, unwrap_or, slice_get, bytes_eq, if◌then◌else◌}
use Rattle.std.proofs.Common.{refl, sym, ap, ◌∙◌, subst, arith}
use Rattle.std.proofs.lemmas.List.{length-map, map-append}
use Rattle.std.proofs.lemmas.Slice.Eq.{bytes_eq-Decides}
use Rattle.emitted_procedures.specs.f_tree.Facts.{MainProgram, SubroutineUnit, FunctionUnit, BlockDataUnit, UnitKind, ProgramUnit}
use Rattle.emitted_procedures.specs.f_tree.CNames as c_names
use Rattle.emitted_procedures.specs.f_tree.World.{Called, TheMain}
use Rattle.emitted_procedures.specs.f_tree.Meaning.{is_main, answers_to, found_from}
use Rattle.emitted_procedures.specs.l_core.Steps.{Step}
use Rattle.emitted_procedures.specs.c_tree.declared.types.NumberType.{NumberType}
use Rattle.emitted_procedures.specs.c_tree.declared.file.CFunction.{CFunction}
use Rattle.emitted_procedures.specs.c_tree.declared.file.CFile.{CFile}
use Rattle.emitted_procedures.specs.c_tree.Builtins.{builtin_names}
use Rattle.emitted_procedures.specs.c_tree.Drafts.{Scope}
use Rattle.emitted_procedures.specs.c_tree.Declarations.{parameter_object, unset}
use Rattle.emitted_procedures.specs.c_tree.Flat.{Flat}
use Rattle.emitted_procedures.specs.c_tree.FlatForm.{whole_body}
use Rattle.emitted_procedures.specs.c_tree.Linking as linking
use Rattle.emitted_procedures.specs.c_tree.Linking.{Routines, externals, function_names, all_functions, file_scope, linked_function, linked_functions, linked_file, linked_files}
use Rattle.emitted_procedures.specs.c_tree.Meaning.{no_function, text_of, main_number, wrapped_by, steps_of, counted_steps, greatest_steps, step_factor}
use Rattle.emitted_procedures.specs.faithful.StorageImage.{name_of_entries, function_name, number_named, function_number}
use Rattle.emitted_procedures.specs.c_emit.Numbers.{Writing}
use Rattle.unit_file_laws.specs.linking_laws.Linked.{AreDistinct, routines_of, outside_of, own_of}
use Rattle.unit_file_laws.proofs.linking_laws.Places.{some_same, get_front, map_at}
use Rattle.unit_file_laws.proofs.linking_laws.Scopes.{own_are_numbered, builtins_are_numbered}
use Rattle.emitted_procedures.specs.procedure_emission.ProcedureItems.{Numbers, procedure_item}
use Rattle.unit_file_laws.proofs.main_file_laws.Known.{position_finds}
use Rattle.unit_file_laws.proofs.main_file_laws.BuiltItems.{before_by}
use Rattle.main_programs.proofs.MainStorage.{map_back}
use Rattle.emitted_procedures.specs.procedure_emission.bound_items.BoundItems.{Saving}
use Rattle.behind_bounds.specs.BehindBounds.{steps_behind, position_behind}
use Rattle.behind_bounds.proofs.StepsBehind.{dropped_behind}
use Rattle.unit_file_laws.specs.unit_file.UnitFile.{Parameter, KeptBound, Inventory, WrittenUnit, unit_function, result_count, frame_count, first_parameter, first_bound}
use Rattle.unit_file_laws.specs.unit_file.UnitSavings.{savings_of}
use Rattle.unit_file_laws.specs.unit_file.UnitNames.{own_names, routine_name}
use Rattle.unit_file_laws.specs.unit_sites.UnitSites.{UnitsOfFile, files_of, all_units, inventories, sites_of}
use Rattle.unit_file_laws.specs.unit_places.UnitPlaces.{linked_unit, HaveTheirStrings, FunctionStands, HasPlaces}
use Rattle.unit_file_laws.proofs.unit_places.Sites.{owned, constants_before}
use Rattle.unit_file_laws.proofs.unit_places.Placing.{functions_have_places}
use Rattle.unit_file_laws.specs.KnownUnits.{unit_writing}
use Rattle.unit_file_laws.specs.BuiltUnits.{unit_items, whole_items, AreNumbered, HasItsItems}
use Rattle.unit_file_laws.proofs.BuiltItems.{units_have_their_items}
use Rattle.unit_programs.specs.TranslatedUnits.{Rendering, units_of, written_of, numbers_of, whole_text, IsTranslatedSet}
use Rattle.unit_programs.proofs.Pieces.{placed_by}
use Rattle.unit_programs.proofs.Savings.{savings_many, IsSavedAt, saved_at, behind_savings}

-- ## Units that are found

pub record IsFound (m : ℕ) (us : List ProgramUnit) (name : Called) (k : ℕ) : Type 0 where
  pub place : ℕ
  pub unit : ProgramUnit
  pub is : k ≡ m + place
  pub at : slice_get us place ≡ Some unit
  pub answers : answers_to name unit ≡ true

pub found_back : (m : ℕ) (us : List ProgramUnit) (name : Called) (k : ℕ) → found_from m us name ≡ Some k → IsFound m us name k
unfolding found_from
found_back m [] name k h = absurd (cc)
found_back m (u ∷ us) name k h = by (answers_to name u) refl h (λ g. found_back (suc m) us name k g)
  where
    by : (t : Bool) → answers_to name u ≡ t → (if t then Some m else found_from (suc m) us name) ≡ Some k → (found_from (suc m) us name ≡ Some k → IsFound (suc m) us name k) → IsFound m (u ∷ us) name k
    by true so g later = record { place = 0; unit = u; is = (let same = some_same m k g in omega (arith, same)); at = refl; answers = so }
    by false so g later = let f = later g in let there = f.is in record { place = suc f.place; unit = f.unit; is = omega (arith, there); at = f.at; answers = f.answers }

-- the function of a main program has its name
main_named : (u : ProgramUnit) → answers_to TheMain u ≡ true → function_name u ≡ linking.main_name
unfolding answers_to function_name is_main c_names.main_name
main_named u h = by u.kind h
  where
    by : (k : UnitKind) → is_main k ≡ true → elim k [ MainProgram ↦ c_names.main_name | _ ↦ name_of_entries u.entries ] ≡ linking.main_name
    by MainProgram g = refl
    by SubroutineUnit g = absurd (cc)
    by FunctionUnit g = absurd (cc)
    by BlockDataUnit g = absurd (cc)

-- ## Names of functions

-- the functions of all files are those of all units
pub functions_are : (fs : List UnitsOfFile) → all_functions (files_of fs) ≡ map unit_function (all_units fs)
functions_are [] = refl
functions_are (f ∷ fs) = ap (λ later. map unit_function f.units ++ later) (functions_are fs) ∙ sym (map-append unit_function f.units (all_units fs))

names_from : (ws : List WrittenUnit) → function_names (map unit_function ws) ≡ own_names (inventories ws)
names_from [] = refl
names_from (w ∷ ws) = ap (λ ns. w.inventory.name ∷ ns) (names_from ws)

abbrev names_in : List linking.Function → List (List ℕ)
names_in functions = map (λ (f : linking.Function). f.name) functions

linked_names : (numbers : Routines) (own : ℕ) (outer : Scope) (base : ℕ) (fs later : List CFunction) (linked : List linking.Function) → names_in linked ≡ function_names later
    → names_in ((linked_functions numbers own outer base fs).functions ++ linked) ≡ function_names (fs ++ later)
linked_names numbers own outer base [] later linked same = same
linked_names numbers own outer base (f ∷ fs) later linked same = ap (λ ns. f.name ∷ ns) (linked_names numbers own outer (base + length (linked_function numbers own outer base f).objects) fs later linked same)

names_linked : (numbers : Routines) (objects : List ℕ → Option ℕ) (own base : ℕ) (files : List CFile) → names_in (linked_files numbers objects own base files).functions ≡ function_names (all_functions files)
names_linked numbers objects own base [] = refl
names_linked numbers objects own base (file ∷ later) =
    linked_names numbers own (file_scope numbers objects base file) _ file.functions (all_functions later) (linked_files numbers objects own (base + length (linked_file numbers objects own base file).objects) later).functions
    (names_linked numbers objects own (base + length (linked_file numbers objects own base file).objects) later)

-- ## Items

pub record IsEmittedAt (numbers : Numbers) (w : Writing) (label : ℕ → Option ℕ) (n : ℕ) (st : Step) (items : List Flat) (i : ℕ) : Type 0 where
  pub item : Flat
  pub emitted : procedure_item numbers w (λ m. m) label n st ≡ Some item
  pub at : slice_get items i ≡ Some item

behind_it : (numbers : Numbers) (w : Writing) (label : ℕ → Option ℕ) (n : ℕ) (st : Step) (item : Flat) (items : List Flat) (i : ℕ) → IsEmittedAt numbers w label n st items i → IsEmittedAt numbers w label n st (item ∷ items) (suc i)
behind_it numbers w label n st item items i is = record { item = is.item; emitted = is.emitted; at = is.at }

pub emitted_at : (numbers : Numbers) (w : Writing) (label : ℕ → Option ℕ) (n i m : ℕ) (steps : List Step) (items : List Flat) (st : Step) → m ≡ n + i → unit_items numbers w label n steps ≡ Some items → slice_get steps i ≡ Some st
    → IsEmittedAt numbers w label m st items i
unfolding unit_items
emitted_at numbers w label n i m [] items st there h at = absurd (cc)
emitted_at numbers w label n zero m (first ∷ later) items st there h at =
    let parts = before_by (procedure_item numbers w (λ k. k) label n first) (unit_items numbers w label (suc n) later) items h in
    let here : n ≡ m = omega (arith, there) in
    record { item = parts.item; emitted = (λ j. procedure_item numbers w (λ k. k) label (sym here j) (sym (some_same first st at) j)) ∙ parts.item_is; at = ap (λ xs. slice_get xs 0) (sym parts.is) }
emitted_at numbers w label n (suc i) m (first ∷ later) items st there h at =
    let parts = before_by (procedure_item numbers w (λ k. k) label n first) (unit_items numbers w label (suc n) later) items h in
    subst (λ xs. IsEmittedAt numbers w label m st xs (suc i)) parts.is
    (behind_it numbers w label m st parts.item parts.later i (emitted_at numbers w label (suc n) i m later parts.later st (omega (arith, there)) parts.later_is at))

items_many : (numbers : Numbers) (w : Writing) (label : ℕ → Option ℕ) (n : ℕ) (steps : List Step) (items : List Flat) → unit_items numbers w label n steps ≡ Some items → length items ≡ length steps
unfolding unit_items
items_many numbers w label n [] items h = ap length (sym (some_same [] items h))
items_many numbers w label n (st ∷ later) items h =
    let parts = before_by (procedure_item numbers w (λ k. k) label n st) (unit_items numbers w label (suc n) later) items h in
    ap length (sym parts.is) ∙ ap suc (items_many numbers w label (suc n) later parts.later parts.later_is)

-- the items of the steps behind those for what is kept
pub record IsWhole (numbers : Numbers) (w : Writing) (label : ℕ → Option ℕ) (first : ℕ) (steps : List Step) (items : List Flat) : Type 0 where
  pub later : List Flat
  pub emitted : unit_items numbers w label first steps ≡ Some later
  pub many : length items ≡ first + length later
  pub at : (n : ℕ) → slice_get items (first + n) ≡ slice_get later n

pub whole_by : (numbers : Numbers) (w : Writing) (label : ℕ → Option ℕ) (first : ℕ) (savings : List Saving) (steps : List Step) (items : List Flat) → length savings ≡ first → whole_items numbers w label savings (steps_behind first steps) ≡ Some items
    → IsWhole numbers w label first steps items
unfolding whole_items
whole_by numbers w label first savings steps items many h =
    let is = behind_savings w savings (unit_items numbers w label (length savings) (drop (length savings) (steps_behind first steps))) items h in
    let emitted : unit_items numbers w label first steps ≡ Some is.later =
    ap (unit_items numbers w label first) (sym (dropped_behind first steps)) ∙ ap (λ n. unit_items numbers w label n (drop n (steps_behind first steps))) (sym many) ∙ is.is in
    record {
      later = is.later;
      emitted = emitted;
      many = is.many ∙ ap (λ n. n + length is.later) many;
      at = λ n. ap (λ m. slice_get items (m + n)) (sym many) ∙ is.at n;
    }

pub saved_in : (numbers : Numbers) (w : Writing) (label : ℕ → Option ℕ) (savings : List Saving) (steps : List Step) (items : List Flat) (i : ℕ) (one : Saving) → whole_items numbers w label savings steps ≡ Some items → slice_get savings i ≡ Some one
    → IsSavedAt w one items i
unfolding whole_items
saved_in numbers w label savings steps items i one h at = saved_at w savings (unit_items numbers w label (length savings) (drop (length savings) steps)) items i one h at

-- ## Steps of functions

counted_by : (all : List CFunction) (f : CFunction) (found : Option (List ℕ)) → found ≡ None → steps_of f ≤ counted_steps all f found
counted_by all f None none = omega arith
counted_by all f (Some name) none = absurd (cc)

greatest : (all fs : List CFunction) (j : ℕ) (f : CFunction) → slice_get fs j ≡ Some f → wrapped_by f.body ≡ None → steps_of f ≤ greatest_steps all fs
greatest all [] j f at none = absurd (cc)
greatest all (g ∷ fs) zero f at none =
    let same = some_same g f at in
    let one = counted_by all g (wrapped_by g.body) (ap (λ (h : CFunction). wrapped_by h.body) same ∙ none) in
    let steps = ap steps_of same in
    omega (arith, one, steps)
greatest all (g ∷ fs) (suc j) f at none = let later = greatest all fs j f at none in omega (arith, later)

-- ## The function of a unit

-- its frame, and its items
pub record IsFunctionOf (fs : List UnitsOfFile) (r : Rendering) (function : linking.Function) : Type 0 where
  pub own : function.own ≡ length (all_units fs)
  pub gives : function.result ≡ r.written.inventory.result
  pub parameters_are : function.parameters ≡ map (λ (p : Parameter). p.type) r.written.inventory.parameters
  pub frame : function.frame ≡ first_parameter r.written.inventory r.site.bases
  pub as_many : length function.fresh ≡ frame_count r.written.inventory
  pub parameter : (i : ℕ) (one : Parameter) → slice_get r.written.inventory.parameters i ≡ Some one → slice_get function.fresh i ≡ Some (parameter_object one.type)
  pub result : (type : NumberType) → r.written.inventory.returned ≡ Some type → slice_get function.fresh (length r.written.inventory.parameters) ≡ Some (unset 4)
  pub temporary : (k : ℕ) → k < r.written.inventory.temporaries → slice_get function.fresh (length r.written.inventory.parameters + (result_count r.written.inventory.returned + k)) ≡ Some (unset 4)
  pub bound : (i : ℕ) (one : KeptBound) → slice_get r.written.inventory.bounds i ≡ Some one → slice_get function.fresh (length r.written.inventory.parameters + (result_count r.written.inventory.returned + (r.written.inventory.temporaries + i))) ≡ Some (unset 4)
  pub code : function.code ≡ r.items

module _ (fs : List UnitsOfFile) (rs : List Rendering) (is : IsTranslatedSet fs rs) where
  abbrev ws : List WrittenUnit
  ws = written_of rs

  abbrev vs : List Inventory
  vs = inventories ws

  -- ## Renderings

  pub written_at : (j : ℕ) (r : Rendering) → slice_get rs j ≡ Some r → slice_get ws j ≡ Some r.written
  written_at j r at = map_at (λ (q : Rendering). q.written) rs j r at

  pub inventory_at : (j : ℕ) (r : Rendering) → slice_get rs j ≡ Some r → slice_get vs j ≡ Some r.written.inventory
  inventory_at j r at = map_at (λ (w : WrittenUnit). w.inventory) ws j r.written (written_at j r at)

  pub unit_at : (j : ℕ) (r : Rendering) → slice_get rs j ≡ Some r → slice_get (units_of rs) j ≡ Some r.unit
  unit_at j r at = map_at (λ (q : Rendering). q.unit) rs j r at

  pub of_unit : (j : ℕ) (u : ProgramUnit) → slice_get (units_of rs) j ≡ Some u → (r : Rendering) × (slice_get rs j ≡ Some r) × (r.unit ≡ u)
  of_unit j u at = map_back (λ (q : Rendering). q.unit) rs j u at

  pub of_written : (j : ℕ) (w : WrittenUnit) → slice_get (all_units fs) j ≡ Some w → (r : Rendering) × (slice_get rs j ≡ Some r) × (r.written ≡ w)
  of_written j w at = map_back (λ (q : Rendering). q.written) rs j w (ap (λ us. slice_get us j) is.written ∙ at)

  -- among the units of the files
  pub unit_written : (j : ℕ) (r : Rendering) → slice_get rs j ≡ Some r → slice_get (all_units fs) j ≡ Some r.written
  unit_written j r at = ap (λ us. slice_get us j) (sym is.written) ∙ written_at j r at

  pub site_at : (j : ℕ) (r : Rendering) → slice_get rs j ≡ Some r → slice_get (sites_of fs) j ≡ Some r.site
  site_at j r at = ap (λ ss. slice_get ss j) (sym is.sited) ∙ map_at (λ (q : Rendering). q.site) rs j r at

  -- ## Functions by their names

  functions_named : function_names (all_functions (files_of fs)) ≡ own_names vs
  functions_named = ap function_names (functions_are fs) ∙ names_from (all_units fs) ∙ ap (λ us. own_names (inventories us)) (sym is.written)

  name_at : (j : ℕ) (r : Rendering) → slice_get rs j ≡ Some r → slice_get (own_names vs) j ≡ Some r.written.inventory.name
  name_at j r at = map_at (λ (v : Inventory). v.name) vs j r.written.inventory (inventory_at j r at)

  numbered : (j : ℕ) (r : Rendering) → AreNumbered (routines_of (files_of fs)) (numbers_of rs) ws r.written.inventory
  numbered j r = record {
    library = λ name k called at. library_number name k at;
    own = λ called k found. own_number called k found;
  }
    where
      library_number : (name : List ℕ) (k : ℕ) → position (bytes_eq name) builtin_names ≡ Some k → routines_of (files_of fs) name ≡ Some (length ws + k)
      library_number name k at =
          let f = position_finds (bytes_eq name) builtin_names k at in
          let same : name ≡ f.one = (bytes_eq-Decides name f.one).0 f.passes in
          let none = is.apart k name (f.at ∙ ap Some (sym same)) in
          let count = ap length functions_named in
          let many = length-map ws (λ (w : WrittenUnit). w.inventory) in
          let names = length-map vs (λ (v : Inventory). v.name) in
          builtins_are_numbered (function_names (all_functions (files_of fs))) k name (λ i there. none i (ap (λ ns. slice_get ns i) (sym functions_named) ∙ there)) at
          ∙ ap Some {x = length (function_names (all_functions (files_of fs))) + k} {y = length ws + k} (omega (arith, count, many, names))

      own_number : (called : Called) (k : ℕ) → numbers_of rs called ≡ Some k → routines_of (files_of fs) (routine_name vs k) ≡ Some k
      own_number called k found =
          let f = found_back 0 (units_of rs) called k found in
          let there = f.is in
          let place : k ≡ f.place = omega (arith, there) in
          let r' = of_unit f.place f.unit f.at in
          let own = name_at f.place r'.0 r'.1 in
          let named : routine_name vs k ≡ r'.0.written.inventory.name =
          ap (λ o. unwrap_or o []) (get_front (own_names vs) builtin_names k r'.0.written.inventory.name (ap (slice_get (own_names vs)) place ∙ own)) in
          ap (routines_of (files_of fs)) named
          ∙ own_are_numbered (function_names (all_functions (files_of fs))) k r'.0.written.inventory.name (subst AreDistinct (sym functions_named) is.differ)
          (ap (λ ns. slice_get ns k) functions_named ∙ ap (slice_get (own_names vs)) place ∙ own)

  pub its_items : (j : ℕ) (r : Rendering) → slice_get rs j ≡ Some r → HasItsItems (routines_of (files_of fs)) (outside_of (files_of fs)) (own_of (files_of fs)) r.site r.written r.outline r.items
  its_items j r at =
      units_have_their_items (routines_of (files_of fs)) (outside_of (files_of fs)) (own_of (files_of fs)) (numbers_of rs) ws r.site r.written (whole_text r) r.kind r.outline r.items
      (owned fs j r.site (site_at j r at) ∙ sym (ap length is.written)) (constants_before fs j r.site (site_at j r at)) (numbered j r) (is.units j r at).built

  have : HaveTheirStrings (all_units fs)
  have j w at =
      let r = of_written j w at in
      subst (λ (z : WrittenUnit). (whole_body z.body).items.strings ≡ map z.inventory.texts z.inventory.strings) r.2 (its_items j r.0 r.1).strings

  pub places : HasPlaces fs
  places = functions_have_places fs have

  pub function_stands : (j : ℕ) (r : Rendering) → slice_get rs j ≡ Some r → FunctionStands fs j r.site r.written
  function_stands j r at = places.functions j r.site r.written (site_at j r at) (unit_written j r at)

  pub function_of : (j : ℕ) (r : Rendering) → slice_get rs j ≡ Some r → IsFunctionOf fs r (text_of (linking.program (files_of fs)).functions j)
  function_of j r at =
      let stands = function_stands j r at in
      subst (IsFunctionOf fs r) (sym (ap (λ found. unwrap_or found no_function) stands.function_is)) (record {
        own = stands.own;
        gives = refl;
        parameters_are = stands.parameters_are;
        frame = stands.frame;
        as_many = stands.as_many;
        parameter = stands.parameter;
        result = stands.result;
        temporary = stands.temporary;
        bound = stands.bound;
        code = (its_items j r at).code stands.functions;
      })

  pub unit_named : (j : ℕ) (r : Rendering) → slice_get rs j ≡ Some r → function_number (files_of fs) r.unit ≡ Some j
  unit_named j r at =
      ap (number_named (files_of fs)) (sym (is.units j r at).named) ∙ ap (position (bytes_eq r.written.inventory.name)) functions_named
      ∙ placed_by (λ n. n) (own_names vs) j r.written.inventory.name (λ m name there same. is.differ m j r.written.inventory.name (there ∙ ap Some same) (name_at j r at)) (name_at j r at)

  program_names : names_in (linking.program (files_of fs)).functions ≡ own_names vs
  unfolding linking.program
  program_names = names_linked (routines_of (files_of fs)) (outside_of (files_of fs)) (own_of (files_of fs)) (length (externals (files_of fs))) (files_of fs) ∙ functions_named

  pub main_is : (j : ℕ) → found_from 0 (units_of rs) TheMain ≡ Some j → main_number (linking.program (files_of fs)) ≡ j
  main_is j found =
      let f = found_back 0 (units_of rs) TheMain j found in
      let there = f.is in
      let place : f.place ≡ j = omega (arith, there) in
      let r = of_unit f.place f.unit f.at in
      let stands = function_stands f.place r.0 r.1 in
      let name : r.0.written.inventory.name ≡ linking.main_name = (is.units f.place r.0 r.1).named ∙ ap function_name r.2 ∙ main_named f.unit f.answers in
      let function = linked_unit fs stands.functions r.0.site r.0.written in
      let alone : (m : ℕ) (z : linking.Function) → slice_get (linking.program (files_of fs)).functions m ≡ Some z → z.name ≡ r.0.written.inventory.name → m ≡ f.place =
      λ m z at same. is.differ m f.place r.0.written.inventory.name (ap (λ ns. slice_get ns m) (sym program_names) ∙ map_at (λ (g : linking.Function). g.name) (linking.program (files_of fs)).functions m z at ∙ ap Some same) (name_at f.place r.0 r.1) in
      ap (λ n. unwrap_or (position (λ (g : linking.Function). bytes_eq n g.name) (linking.program (files_of fs)).functions) 0) (sym name)
      ∙ ap (λ o. unwrap_or o 0) (placed_by (λ (g : linking.Function). g.name) (linking.program (files_of fs)).functions f.place function alone stands.function_is) ∙ place

  -- ## Items

  -- what is kept, one item for each, and behind those the items of the steps
  abbrev writing_in : Rendering → Writing
  writing_in r = unit_writing r.site r.written r.text.facts r.kind

  abbrev kept_in : Rendering → ℕ
  kept_in r = length r.written.inventory.bounds

  its_whole : (j : ℕ) (r : Rendering) → slice_get rs j ≡ Some r → IsWhole (numbers_of rs) (writing_in r) (position_behind (kept_in r) r.text.position) (kept_in r) r.text.steps r.items
  its_whole j r at =
      whole_by (numbers_of rs) (writing_in r) (position_behind (kept_in r) r.text.position) (kept_in r) (savings_of r.written.inventory r.site.bases) r.text.steps r.items
      (savings_many (first_bound r.written.inventory r.site.bases) r.written.inventory.bounds) (is.units j r at).built.emitted

  pub saving_at : (j : ℕ) (r : Rendering) → slice_get rs j ≡ Some r → (i : ℕ) (one : Saving) → slice_get (savings_of r.written.inventory r.site.bases) i ≡ Some one → IsSavedAt (writing_in r) one r.items i
  saving_at j r at i one there =
      saved_in (numbers_of rs) (writing_in r) (position_behind (kept_in r) r.text.position) (savings_of r.written.inventory r.site.bases) (whole_text r).steps r.items i one (is.units j r at).built.emitted there

  pub item_at : (j : ℕ) (r : Rendering) → slice_get rs j ≡ Some r → (n : ℕ) (st : Step) → slice_get r.text.steps n ≡ Some st
      → IsEmittedAt (numbers_of rs) (unit_writing r.site r.written r.text.facts r.kind) (position_behind (length r.written.inventory.bounds) r.text.position) (length r.written.inventory.bounds + n) st r.items (length r.written.inventory.bounds + n)
  item_at j r at n st there =
      let whole = its_whole j r at in
      let i = emitted_at (numbers_of rs) (writing_in r) (position_behind (kept_in r) r.text.position) (kept_in r) n (kept_in r + n) r.text.steps whole.later st refl whole.emitted there in
      record { item = i.item; emitted = i.emitted; at = whole.at n ∙ i.at }

  -- a function takes as many steps as it has items, and the program at least as many
  pub items_few : (j : ℕ) (r : Rendering) → slice_get rs j ≡ Some r → length r.items ≤ step_factor (files_of fs)
  unfolding step_factor
  items_few j r at =
      let one = is.units j r at in
      let size = (its_items j r at).size in
      let most = greatest (all_functions (files_of fs)) (all_functions (files_of fs)) j (unit_function r.written) (function_stands j r at).written one.no_wrapper in
      omega (arith, size, most)

  pub factor : (j : ℕ) (r : Rendering) → slice_get rs j ≡ Some r → length r.written.inventory.bounds + length r.text.steps ≤ step_factor (files_of fs)
  factor j r at =
      let whole = its_whole j r at in
      let all = whole.many in
      let many = items_many (numbers_of rs) _ (position_behind (kept_in r) r.text.position) (kept_in r) r.text.steps whole.later whole.emitted in
      let most = items_few j r at in
      omega (arith, all, many, most)
