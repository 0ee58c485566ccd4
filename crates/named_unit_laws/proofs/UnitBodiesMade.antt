-- The functions that are made from items by names are those that are made from flat items.
use Rattle.std.specs.Prelude.{◌≡◌, ℕ, ◌+◌, ◌≤◌, ℤ, true, List, [], ◌∷◌, map, length, drop, Option, Some, None, option_map, option_and_then, slice_get, if◌then◌else◌}
use Rattle.std.proofs.Common.{refl, sym, ap, ◌∙◌, subst, arith}
use Rattle.std.proofs.lemmas.List.{length-map}
use Rattle.named_units.specs.f_tree.Values.{Bytes}
use Rattle.named_units.specs.f_tree.Facts.{Facts, ProgramUnit}
use Rattle.named_units.specs.f_tree.Setting.{IsIn, first_in, later_in}
use Rattle.named_units.specs.f_tree.Meaning.{facts_at}
use Rattle.named_units.specs.l_core.Steps.{Step, Halt, Text}
use Rattle.named_main_laws.specs.lowering.Units.{lines_code, if_called_well, lowered_unit}
use Rattle.unit_translation_laws.specs.unit_forms.OwnSetting.{own_facts}
use Rattle.named_units.specs.c_tree.Flat.{Flat}
use Rattle.named_units.specs.c_tree.declared.statement.CStmt.{CStmt}
use Rattle.named_units.specs.c_structure.Expressions.{Names}
use Rattle.named_units.specs.c_structure.Statements.{statements_for}
use Rattle.named_units.specs.c_emit.Numbers.{Writing, is_numeric}
use Rattle.named_units.specs.procedure_emission.bound_items.BoundItems.{Saving, saving_item}
use Rattle.named_units.specs.procedure_emission.ProcedureItems.{procedure_item}
use Rattle.named_units.specs.main_translation.Contents.{text_at}
use Rattle.named_units.specs.main_translation.Outlined.{if_returned}
use Rattle.named_main_laws.proofs.main_translation_laws.Lists.{at_in}
use Rattle.named_main_laws.proofs.main_translation_laws.FlowLaws.{in_front, in_back}
use Rattle.named_units.specs.unit_file.UnitFile.{KeptBound, Inventory, WrittenUnit, object_count, first_bound, writing_of}
use Rattle.named_units.specs.unit_file.UnitNames.{names_of}
use Rattle.named_units.specs.unit_file.UnitItems.{unit_items, whole_items}
use Rattle.named_units.specs.unit_file.UnitSavings.{savings_of}
use Rattle.named_units.specs.unit_sites.UnitSites.{UnitsOfFile, Site, behind as number_behind}
use Rattle.named_units.specs.unit_file_laws.KnownUnits.{NamesAreListed}
use Rattle.named_units.specs.unit_translation.UnitFlow.{kind_before, are_in_place}
use Rattle.named_units.specs.unit_translation.UnitContents.{LoweredUnit, program_units, bounds_kept, whole_text, unit_numbers, constants_passed, inventory_of, inventories_of}
use Rattle.named_units.specs.unit_translation.UnitBodies.{all_lowered, unit_outline, items_of, body_of, written_before, written_from, file_before, files_from, written_files}
use Rattle.unit_translation_laws.specs.PlainUnits.{IsPlainUnit, ArePlainUnits}
use Rattle.unit_translation_laws.proofs.Listed.{names_listed}
use Rattle.unit_translation_laws.proofs.Renderings.{split}
use Rattle.named_units.specs.named_items.declared.item.Item.{Item}
use Rattle.named_units.specs.named_items.Agreement.{TellsPlaces}
use Rattle.named_units.specs.named_items.Items.{item_for}
use Rattle.named_units.specs.named_items.Structured.{structured}
use Rattle.named_units.proofs.named_items.Agreeing.{items_are_structured}
use Rattle.named_units.proofs.named_items.NamedItems.{some_same, items_length}
use Rattle.named_units.specs.item_emission.NamedEmission.{Knowledge, item_step}
use Rattle.named_units.specs.named_mains.NamedMains.{items_from, statements_of}
use Rattle.named_units.specs.NamedUnits.{known_for, layout_for, items_behind, named_items_of, named_body_of, named_from, named_file_of, named_files_from, named_files}
use Rattle.named_units.specs.unit_item_laws.AgreeingUnits.{bound_step, IsListed}
use Rattle.named_units.proofs.unit_item_laws.UnitStepsAgree.{unit_emissions_agree, unit_bounds_agree}
use Rattle.named_main_laws.proofs.NamedPlaces.{Reach, SetsObjects, tells_places}
use Rattle.named_main_laws.proofs.NamedValues.{EmitsEach, WritesObjects, all_set}
use Rattle.named_main_laws.proofs.NamedNames.{stored_named}
use Rattle.named_main_laws.proofs.NamedSteps.{are_flat}
use Rattle.named_main_laws.proofs.NamedBodies.{facts_by, behind, if_some}
use Rattle.named_unit_laws.specs.NamedBodies.{EachNamedUnitIsAUnit}
use Rattle.named_unit_laws.proofs.UnitReaches.{IsUnitObject, of_bound, reaches_told, HaveNames, writes_objects}
use Rattle.named_unit_laws.proofs.UnitSteps.{unit_items_each, unit_step_sets, savings_set, step_listed}
use Rattle.named_unit_laws.proofs.UnitSaved.{savings_count, behind_at, AreNamed, bounds_are_flat}
use Rattle.named_unit_laws.proofs.UnitBoundNames.{bounds_told}

-- ## What a body by names was made by

record HasItems (constants : List ℤ) (us : List LoweredUnit) (u : LoweredUnit) (body : List CStmt) : Type 0 where
  in_place : are_in_place (whole_text u) 0 (whole_text u).steps ≡ true
  items : List Item
  given : named_items_of constants us u ≡ Some items
  statements : List CStmt
  structure : structured (layout_for (whole_text u)) (length items) 0 items ≡ Some statements
  returned : if_returned statements ≡ Some body

has_items : (constants : List ℤ) (us : List LoweredUnit) (u : LoweredUnit) (body : List CStmt) → named_body_of constants us u ≡ Some body → HasItems constants us u body
unfolding named_body_of statements_of
has_items constants us u body h =
    let layout = layout_for (whole_text u) in
    let items = named_items_of constants us u in
    let made = if_some (are_in_place (whole_text u) 0 (whole_text u).steps) (option_and_then (statements_of layout) items) body h in
    let found = behind (statements_of layout) items body made.1 in
    let last = behind if_returned (structured layout (length found.one) 0 found.one) body found.gives in
    record { in_place = made.0; items = found.one; given = found.is; statements = last.one; structure = last.is; returned = last.gives }

program_of : (us : List ProgramUnit) (j : ℕ) (unit : ProgramUnit) → (own_facts us j unit).program ≡ unit
unfolding facts_at
program_of us j unit = refl

-- ## A unit

-- at its site, in a program with a function for each unit, where the constants of its file stand before the objects of its function
module _ (us : List LoweredUnit) (j : ℕ) (s : Site) (owned : s.bases.own ≡ length us) (constants_before : s.bases.file + length s.constants ≤ s.bases.function) (u : LoweredUnit) (plain : IsPlainUnit us j u) (body : List CStmt)
    (made : HasItems s.constants us u body) where
  abbrev vs : List Inventory
  vs = inventories_of us

  abbrev v : Inventory
  v = inventory_of us u

  abbrev its_text : Text
  its_text = whole_text u

  abbrev kept : List KeptBound
  kept = bounds_kept u.unit

  abbrev savings : List Saving
  savings = savings_of v s.bases

  abbrev w : Writing
  w = writing_of s.constants v s.bases u.text.facts (kind_before its_text)

  abbrev names : Names
  names = names_of s.constants vs v s.bases

  abbrev known : Knowledge
  known = known_for s.constants us u

  abbrev emit : ℕ → Step → Option Flat
  emit = procedure_item (unit_numbers us) w (λ m. m) its_text.position

  abbrev emits : ℕ → List Step → Option (List Flat)
  emits = unit_items (unit_numbers us) w its_text.position

  abbrev IsObject : Reach → ℕ → Type 0
  IsObject = IsUnitObject vs s v u.text.facts

  facts_are : u.text.facts ≡ own_facts (program_units us) j u.unit
  unfolding lowered_unit
  facts_are = let c = own_facts (program_units us) j u.unit in facts_by c u.text (if_called_well (lines_code c.program 0 c.program.lines)) plain.lowered

  program_is : u.text.facts.program ≡ u.unit
  program_is = ap (λ (f : Facts). f.program) facts_are ∙ program_of (program_units us) j u.unit

  listed : NamesAreListed v u.text.facts
  listed = subst (NamesAreListed v) (sym facts_are) (names_listed us j u plain.name plain.formals plain.entry plain.dummies plain.storage plain.bounds plain.result)

  have_names : HaveNames vs s v u.text.facts
  have_names = record {
    stored = λ x own numeric.
        stored_named x u.unit.stored (plain.storage.stored x (sym (ap (λ (p : ProgramUnit). (p.attribute x).class) program_is) ∙ own) (sym (ap (λ (p : ProgramUnit). is_numeric (p.attribute x).basic) program_is) ∙ numeric))
        plain.storage.named;
    dummies = λ x own numeric.
        plain.dummies.named x (plain.dummies.variables x (sym (ap (λ (p : ProgramUnit). (p.attribute x).class) program_is) ∙ own) (sym (ap (λ (p : ProgramUnit). is_numeric (p.attribute x).basic) program_is) ∙ numeric));
  }

  text_there : (n : ℕ) (text : Bytes) → slice_get its_text.steps n ≡ Some (Halt text) → text_at (slice_get its_text.steps n) ≡ text
  unfolding text_at
  text_there n text at = ap text_at at

  step_is_listed : (i k : ℕ) (st : Step) (item : Item) → k ≡ length kept + i → slice_get (drop (length kept) its_text.steps) i ≡ Some st → item_step known (kind_before its_text k) k st ≡ Some item → IsListed v k st
  step_is_listed i k st item at got is =
      step_listed s.constants vs v u.text.facts (unit_numbers us) (kind_before its_text) its_text.position k its_text.steps st item refl (text_there k) (behind_at (length kept) its_text.steps i k st at got) is

  each : EmitsEach emit emits
  each = unit_items_each (unit_numbers us) w its_text.position

  as_many : s.bases.own ≡ length vs
  as_many = owned ∙ sym (length-map us (inventory_of us))

  -- the items of its steps, and those by which its bounds are kept
  steps_flat : (later : List Item) → items_from known (kind_before its_text) (length kept) (drop (length kept) its_text.steps) ≡ Some later → AreNamed (emits (length savings) (drop (length savings) its_text.steps)) names later
  steps_flat later given =
      let flat = are_flat emit emits each names known (kind_before its_text) (length kept) (drop (length kept) its_text.steps) later
      (λ i k st item at got is. unit_emissions_agree vs s v u.text.facts (unit_numbers us) (kind_before its_text) its_text.position k st as_many constants_before listed (step_is_listed i k st item at got is)) given in
      record { flats = flat.flats; emitted = ap (λ n. emits n (drop n its_text.steps)) (savings_count (first_bound v s.bases) kept) ∙ flat.emitted; named = flat.named }

  bound_agrees : (i : ℕ) (one : KeptBound) → slice_get kept i ≡ Some one → option_and_then (item_for names) (saving_item w (record { object = first_bound v s.bases + i; value = one.value })) ≡ bound_step known one
  bound_agrees i one at = unit_bounds_agree vs s v u.text.facts (unit_numbers us) (kind_before its_text) its_text.position i one as_many constants_before listed at

  flat : AreNamed (items_of us s u) names made.items
  unfolding items_behind whole_items
  flat =
      bounds_are_flat w names known (first_bound v s.bases) kept (items_from known (kind_before its_text) (length kept) (drop (length kept) its_text.steps)) (emits (length savings) (drop (length savings) its_text.steps)) made.items
      bound_agrees steps_flat made.given

  writes : WritesObjects IsObject w
  writes = writes_objects vs s v u.text.facts listed have_names (kind_before its_text)

  steps_set : (fs : List Flat) → emits (length savings) (drop (length savings) its_text.steps) ≡ Some fs → (i : ℕ) (item : Flat) → slice_get fs i ≡ Some item → SetsObjects IsObject item
  steps_set = all_set IsObject emit emits each (unit_step_sets IsObject (unit_numbers us) w writes its_text.position) (length savings) (drop (length savings) its_text.steps)

  items_set : (i : ℕ) (item : Flat) → slice_get flat.flats i ≡ Some item → SetsObjects IsObject item
  unfolding whole_items
  items_set =
      savings_set IsObject w writes (first_bound v s.bases) kept (emits (length savings) (drop (length savings) its_text.steps)) flat.flats (λ i one at. of_bound (first_bound v s.bases + i) i one at refl) steps_set flat.emitted

  tells : TellsPlaces names flat.flats
  tells = tells_places IsObject names (reaches_told vs s v u.text.facts plain.text.temporaries (bounds_told us j u plain)) flat.flats items_set

  statements_are : statements_for (unit_outline us s u) (length flat.flats) 0 flat.flats ≡ Some made.statements
  statements_are =
      ap (λ turns. statements_for (unit_outline us s u) turns 0 flat.flats) (items_length names flat.flats made.items flat.named)
      ∙ items_are_structured (unit_outline us s u) (length made.items) 0 flat.flats made.items made.statements flat.named tells made.structure

  body_made : body_of us s u ≡ Some body
  unfolding body_of
  body_made =
      ap (λ t. if t then option_and_then if_returned (option_and_then (λ items. statements_for (unit_outline us s u) (length items) 0 items) (items_of us s u)) else None) made.in_place
      ∙ ap (λ found. option_and_then if_returned (option_and_then (λ items. statements_for (unit_outline us s u) (length items) 0 items) found)) flat.emitted
      ∙ ap (option_and_then if_returned) statements_are
      ∙ made.returned

-- ## The units of a file

module _ (us : List LoweredUnit) (plain : ArePlainUnits us) (file : ℕ) (constants : List ℤ) where
  functions_made : (function : ℕ) (rest : List LoweredUnit) (ws : List WrittenUnit) → file + length constants ≤ function → ((u : LoweredUnit) → IsIn u rest → IsIn u us) → named_from constants us rest ≡ Some ws
      → written_from us (length us) file constants function rest ≡ Some ws
  unfolding named_from written_from written_before
  functions_made function [] ws before among h = h
  functions_made function (u ∷ later) ws before among h =
      let parts = split (inventory_of us u) (named_body_of constants us u) (named_from constants us later) ws h in
      let place = at_in u us (among u first_in) in
      let site : Site = record { constants = constants; bases = record { own = length us; file = file; function = function } } in
      let one = body_made us place.index site refl before u (plain.units place.index u place.at) parts.statements (has_items constants us u parts.statements parts.body_is) in
      let rest = functions_made (function + object_count (inventory_of us u)) later parts.rest (omega (arith, before)) (λ v o. among v (later_in o)) parts.later_is in
      (λ i. written_before (inventory_of us u) (one i) (rest i)) ∙ ap Some parts.is

-- ## All files

record AreNamedFiles (constants : List ℤ) (units : Option (List WrittenUnit)) (later : Option (List UnitsOfFile)) (fs : List UnitsOfFile) : Type 0 where
  functions : List WrittenUnit
  rest : List UnitsOfFile
  units_are : units ≡ Some functions
  later_is : later ≡ Some rest
  is : record { constants = constants; units = functions } ∷ rest ≡ fs

named_parts : (constants : List ℤ) (units : Option (List WrittenUnit)) (later : Option (List UnitsOfFile)) (fs : List UnitsOfFile)
    → option_and_then (λ (f : UnitsOfFile). option_map (λ rest. f ∷ rest) later) (option_map (λ ws. record { constants = constants; units = ws }) units) ≡ Some fs → AreNamedFiles constants units later fs
named_parts constants (Some ws) (Some later) fs h = record { functions = ws; rest = later; units_are = refl; later_is = refl; is = some_same (record { constants = constants; units = ws } ∷ later) fs h }
named_parts constants (Some ws) None fs h = absurd (cc)
named_parts constants None later fs h = absurd (cc)

module _ (us : List LoweredUnit) (plain : ArePlainUnits us) where
  files_made : (first : ℕ) (lfs : List (List LoweredUnit)) (fs : List UnitsOfFile) → ((u : LoweredUnit) → IsIn u (all_lowered lfs) → IsIn u us) → named_files_from us lfs ≡ Some fs → files_from us (length us) first lfs ≡ Some fs
  unfolding named_file_of named_files_from files_from file_before
  files_made first [] fs among h = h
  files_made first (vs ∷ lfs) fs among h =
      let constants = constants_passed vs in
      let parts = named_parts constants (named_from constants us vs) (named_files_from us lfs) fs h in
      let one = functions_made us plain first constants (first + length constants) vs parts.functions (omega arith) (λ u o. among u (in_front u vs (all_lowered lfs) o)) parts.units_are in
      let rest = files_made (number_behind (first + length constants) (map (inventory_of us) vs)) lfs parts.rest (λ u o. among u (in_back u vs (all_lowered lfs) o)) parts.later_is in
      (λ i. file_before constants (one i) (rest i)) ∙ ap Some parts.is

pub units_are_made : EachNamedUnitIsAUnit
unfolding named_files written_files
units_are_made lfs fs plain h = files_made (all_lowered lfs) plain 0 lfs fs (λ u o. o) h
