-- Plain units are translated as the law of units that call each other asks, and so they run as their files do.
use Rattle.std.specs.Prelude.{◌≡◌, ℕ, suc, ◌<◌, ◌^◌, ℤ, true, List, [], ◌∷◌, length, drop, Some, None, slice_get}
use Rattle.std.proofs.Common.{refl, sym, ap, ◌∙◌, subst, arith}
use Rattle.std.proofs.lemmas.List.{length-map}
use Rattle.unit_translation.specs.f_tree.declared.names.Class.TheVariants as class
use Rattle.unit_translation.specs.f_tree.Values.{Bytes, in_range}
use Rattle.unit_translation.specs.f_tree.CNames.{is_name}
use Rattle.unit_translation.specs.f_tree.Facts.{EntryPoint, ProgramUnit, Facts}
use Rattle.unit_translation.specs.f_tree.Setting.{IsIn}
use Rattle.unit_translation.specs.f_tree.Meaning.{facts_at, found_from, ftn, act_of}
use Rattle.unit_translation.specs.l_core.Steps.{Halt, Text}
use Rattle.main_translation_laws.specs.lowering.Units.{lowered_unit}
use Rattle.unit_translation.specs.c_tree.declared.statement.CStmt.{CStmt}
use Rattle.unit_translation.specs.c_tree.FlatForm.{Body, position_of, whole_body, body_of_all}
use Rattle.unit_translation.specs.c_tree.Linking.{routines}
use Rattle.unit_translation.specs.c_structure.Statements.{strings_of_items}
use Rattle.main_translation_laws.specs.c_structure_laws.Fitting.{KnowsItems, marks_from, Fits}
use Rattle.main_translation_laws.proofs.c_structure_laws.DrawnExpressions.{bytes_count}
use Rattle.unit_translation.specs.faithful.Faithful.{SameRuns}
use Rattle.main_translation_laws.specs.linking_laws.Linked.{IsBuilt}
use Rattle.main_translation_laws.proofs.linking_laws.BuiltCode.{built_fit, whole_is}
use Rattle.unit_programs.specs.unit_forms.OwnSetting.{own_setting, own_facts}
use Rattle.unit_translation.specs.main_file.MainItems.{stops_from}
use Rattle.unit_translation.specs.main_translation.Contents.{variable_of, text_at}
use Rattle.main_translation_laws.proofs.Lists.{AreApart, in_map, in_at}
use Rattle.main_translation_laws.proofs.Storage.{variables_apart, name_is}
use Rattle.main_translation_laws.proofs.Contents.{listings_count, listed_at, small_magnitude}
use Rattle.main_translation_laws.proofs.Built.{built_by, no_wrapper}
use Rattle.main_translation_laws.proofs.Translated.{text_is, first_start, other_body, body_count}
use Rattle.unit_translation.specs.procedure_emission.bound_items.BoundItems.{Saving}
use Rattle.unit_translation.specs.unit_file.UnitFile.{Variable, KeptBound, Inventory, WrittenUnit, unit_function, first_bound, writing_of}
use Rattle.unit_translation.specs.unit_file.UnitSavings.{savings_of}
use Rattle.unit_translation.specs.unit_file.UnitNames.{own_names, names_of}
use Rattle.unit_translation.specs.unit_sites.UnitSites.{UnitsOfFile, files_of, inventories, Site}
use Rattle.unit_programs.specs.unit_file_laws.KnownUnits.{NamesAreListed, scope_in}
use Rattle.unit_programs.specs.unit_file_laws.BuiltUnits.{AreListed, IsUnitBuilt}
use Rattle.unit_programs.proofs.unit_file_laws.BuiltItems.{AreEmitted, AreNumberedItems, every}
use Rattle.unit_translation.specs.UnitFlow.{kind_before}
use Rattle.unit_translation.specs.UnitContents.{LoweredUnit, program_units, bounds_kept, whole_text, unit_numbers, inventory_of, inventories_of}
use Rattle.unit_translation.specs.UnitBodies.{all_lowered, unit_outline}
use Rattle.unit_programs.specs.TranslatedUnits.{Rendering, units_of, written_of, facts_of, IsBoundValue, BoundsAreWritten, IsDummy, IsResult, Passes, IsTranslatedUnit, IsTranslatedSet}
use Rattle.unit_programs.proofs.Objects.{whole_by}
use Rattle.unit_programs.proofs.unit_file_laws.Passed.{savings_count, none_stops}
use Rattle.behind_units.specs.BehindUnits.{UnitStandsBehind}
use Rattle.behind_units.proofs.UnitsBehind.{units_stand_behind}
use Rattle.unit_programs.proofs.Runs.{unit_programs_run_alike}
use Rattle.unit_translation_laws.specs.PlainUnits.{IsPlainUnit, ArePlainUnits, PlainUnitsRunAlike}
use Rattle.unit_translation_laws.specs.RenderedUnits.{IsRenderingOf, PlainUnitsAreRendered}
use Rattle.unit_translation_laws.proofs.OutputParts.{outputs_are_whole}
use Rattle.unit_translation_laws.proofs.FlowFits.{flows_behind}
use Rattle.unit_translation_laws.proofs.OutputFlow.{steps_alone}
use Rattle.unit_translation_laws.proofs.Renderings.{HasBody, rendering_of, IsSiteOfUnit, AreEachRendered, units_are, inventories_are, as_many, rendered_at, AreAllRendered, all_rendered, items_count}
use Rattle.unit_translation_laws.proofs.Names.{HasUnitNames, names_differ}
use Rattle.unit_translation_laws.proofs.Constants.{constants_fit, constants_apart}
use Rattle.unit_translation_laws.proofs.Calls.{IsProcedure, no_dummy, no_dummy_procedure, all_listed, callee_sort}
use Rattle.unit_translation_laws.proofs.KeptBounds.{place_below}
use Rattle.unit_translation_laws.proofs.KeptNames.{bound_named, names_apart}
use Rattle.unit_translation_laws.proofs.Listed.{own_storage, dummies_listed, formals_apart, pure_dimensions, parameters_apart, parameter_named, parameter_is, others_written, values_kept, parameter_class, names_listed, result_is, no_result}
use Rattle.unit_translation_laws.proofs.Functions.{own_distinct, own_apart, numbered}

program_of : (us : List ProgramUnit) (j : ℕ) (unit : ProgramUnit) → (own_facts us j unit).program ≡ unit
unfolding facts_at
program_of us j unit = refl

text_there : (u : Text) (n : ℕ) (text : Bytes) → slice_get u.steps n ≡ Some (Halt text) → text_at (slice_get u.steps n) ≡ text
unfolding text_at
text_there u n text at = ap text_at at

-- the units of all files, and what becomes of each
module _ (us : List LoweredUnit) (plain : ArePlainUnits us) (rs : List Rendering) (rendered : AreEachRendered us us rs) where
  abbrev ws : List WrittenUnit
  ws = written_of rs

  same_inventories : inventories ws ≡ inventories_of us
  same_inventories = inventories_are us us rs rendered

  same_units : units_of rs ≡ program_units us
  same_units = units_are us us rs rendered

  own_many : length us ≡ length ws
  own_many = let many = as_many us us rs rendered in let functions = length-map rs (λ (r : Rendering). r.written) in omega (arith, many, functions)

  single : (k : ℕ) (w : LoweredUnit) → slice_get us k ≡ Some w → (entry : EntryPoint) × (w.unit.entries ≡ entry ∷ [])
  single k w at = let p = plain.units k w at in (record { name = p.name; formals = p.formals; start = 0 }, p.entry)

  -- ## One unit

  module _ (j : ℕ) (u : LoweredUnit) (at : slice_get us j ≡ Some u) (s : Site) (sited : IsSiteOfUnit us s) (body : List CStmt) (made : HasBody us s u body) where
    abbrev v : Inventory
    v = inventory_of us u

    abbrev its_plain : IsPlainUnit us j u
    its_plain = plain.units j u at

    facts_are : u.text.facts ≡ own_facts (program_units us) j u.unit
    facts_are = (text_is (own_facts (program_units us) j u.unit) u.text its_plain.lowered).facts

    program_is : u.text.facts.program ≡ u.unit
    program_is = ap (λ (c : Facts). c.program) facts_are ∙ program_of (program_units us) j u.unit

    begins : u.text.begins 0 ≡ 0
    begins = ap (λ f. f 0) (text_is (own_facts (program_units us) j u.unit) u.text its_plain.lowered).begins ∙ first_start (own_facts (program_units us) j u.unit).program

    -- ### What stands before the steps

    abbrev first : ℕ
    first = length (bounds_kept u.unit)

    behind_it : UnitStandsBehind first u.text
    behind_it = units_stand_behind (own_facts (program_units us) j u.unit) u.text its_plain.lowered first

    abbrev savings : List Saving
    savings = savings_of v s.bases

    saved_many : length savings ≡ first
    saved_many = savings_count (first_bound v s.bases) v.bounds

    -- ### Names

    apart : AreApart s.constants
    apart = subst AreApart (sym sited.constants) (constants_apart sited.file)

    pub fit : (z : ℤ) → IsIn z s.constants → in_range z ≡ true
    fit z o = constants_fit sited.file z (subst (IsIn z) sited.constants o)

    of_variable : (one : Variable) → IsIn one v.variables → (u.unit.attribute one.name).class ≡ class.Stored
    of_variable one o =
        let found = in_map (variable_of u.unit) u.unit.stored one o in
        ap (λ x. (u.unit.attribute x).class) (ap (λ (x : Variable). x.name) (sym found.is) ∙ name_is u.unit found.from) ∙ its_plain.storage.kept found.from found.among

    variable_named : (one : Variable) → IsIn one v.variables → is_name one.name ≡ true
    variable_named one o =
        let found = in_map (variable_of u.unit) u.unit.stored one o in
        ap is_name (ap (λ (x : Variable). x.name) (sym found.is) ∙ name_is u.unit found.from) ∙ its_plain.storage.named found.from found.among

    kept_small : (one : KeptBound) → IsIn one (bounds_kept u.unit) → suc one.place < 2 ^ 64
    kept_small one o =
        let below = place_below u.unit one (pure_dimensions us j u its_plain.name its_plain.formals its_plain.entry its_plain.dummies) o in
        let long = behind_it.steps.long in
        let fits = its_plain.text.steps in omega (arith, below, long, fits)

    has_names : HasUnitNames s.constants v
    has_names = record {
      constants = apart;
      small = λ z o. small_magnitude z (fit z o);
      variables = variables_apart u.unit its_plain.storage.distinct;
      variables_named = variable_named;
      parameters = parameters_apart us j u its_plain.name its_plain.formals its_plain.entry its_plain.dummies.distinct;
      parameters_named = parameter_named us j u its_plain.name its_plain.formals its_plain.entry its_plain.dummies;
      apart = λ p one o q same.
          parameter_class us j u its_plain.name its_plain.formals its_plain.entry its_plain.dummies ⊥ p o
          (λ dummy. let no : class.Stored ≡ class.Dummy = sym (of_variable one q) ∙ ap (λ x. (u.unit.attribute x).class) (sym same) ∙ dummy in absurd (cc))
          (λ dummy. let no : class.Stored ≡ class.DummyProcedure = sym (of_variable one q) ∙ ap (λ x. (u.unit.attribute x).class) (sym same) ∙ dummy in absurd (cc));
      lists = (let few = listings_count 0 (whole_text u).steps in let fits = its_plain.text.steps in omega (arith, few, fits));
      temporaries = its_plain.text.temporaries;
      kept = names_apart u.unit (formals_apart us j u its_plain.name its_plain.formals its_plain.entry its_plain.dummies.distinct) kept_small;
      kept_named = λ one o. bound_named one (kept_small one o);
      called = callee_sort us u single (λ one o. ap (λ (p : ProgramUnit). (p.attribute one.name).class) program_is ∙ of_variable one o) (λ p o is.
          let of : IsProcedure (u.unit.attribute p.name).class = subst (λ (q : ProgramUnit). IsProcedure (q.attribute p.name).class) program_is is in
          parameter_class us j u its_plain.name its_plain.formals its_plain.entry its_plain.dummies ⊥ p o (no_dummy (u.unit.attribute p.name).class of) (no_dummy_procedure (u.unit.attribute p.name).class of));
    }

    -- ### Items

    its_listed : AreListed (unit_numbers us) (inventories ws) u.text.facts v 0 (whole_text u).steps
    its_listed =
        subst (λ is. AreListed (unit_numbers us) is u.text.facts v 0 (whole_text u).steps) (sym same_inventories)
        (all_listed us u (writing_of s.constants v s.bases u.text.facts (kind_before (whole_text u))) savings made.items saved_many behind_it.steps made.emitted)

    its_names : NamesAreListed v u.text.facts
    its_names =
        subst (NamesAreListed v) (sym facts_are)
        (names_listed us j u its_plain.name its_plain.formals its_plain.entry its_plain.dummies its_plain.storage its_plain.bounds its_plain.result)

    same_names : (unit_outline us s u).names ≡ names_of s.constants (inventories ws) v s.bases
    same_names = ap (λ is. names_of s.constants is v s.bases) (sym same_inventories)

    owned : s.bases.own ≡ length ws
    owned = sited.own ∙ own_many

    -- with other statements that have as many strings
    abbrev other : WrittenUnit
    other = record { inventory = v; body = other_body (whole_text u) }

    emitted : AreEmitted (unit_numbers us) ws s other (whole_text u) (kind_before (whole_text u)) made.items
    emitted = record {
      differ = names_differ s.constants v has_names;
      names_listed = its_names;
      listed = its_listed;
      stops = refl;
      emitted = made.emitted;
      as_many = body_count (length (stops_from 0 (whole_text u).steps));
    }

    no_stops : stops_from 0 (whole_text u).steps ≡ stops_from (length savings) (drop (length savings) (whole_text u).steps)
    no_stops = none_stops (length savings) 0 (length savings) (whole_text u).steps (omega arith) (λ k less. behind_it.steps.before k (omega (arith, less, saved_many)))

    items_many : length made.items ≡ length (whole_text u).steps
    items_many =
        let its_writing = writing_of s.constants v s.bases u.text.facts (kind_before (whole_text u)) in
        let whole = whole_by (unit_numbers us) its_writing (whole_text u).position first savings u.text.steps made.items saved_many made.emitted in
        let count = items_count (unit_numbers us) its_writing (whole_text u).position first u.text.steps whole.later whole.emitted in
        let all = whole.many in
        let long = behind_it.steps.long in omega (arith, count, all, long)

    known : AreNumberedItems (routines (own_names (inventories ws))) (λ name. None) [] (unit_numbers us) ws s other (whole_text u) (kind_before (whole_text u)) made.items owned sited.before (numbered us ws same_inventories single plain.differ v) emitted [] 0 (whole_text u).steps made.items
    known = every (routines (own_names (inventories ws))) (λ name. None) [] (unit_numbers us) ws s other (whole_text u) (kind_before (whole_text u)) made.items owned sited.before (numbered us ws same_inventories single plain.differ v) emitted no_stops

    built : IsBuilt (unit_outline us s u) made.items (unit_function (record { inventory = v; body = body }))
    built =
        built_by (unit_outline us s u).names (whole_text u) made.items (unit_function (record { inventory = v; body = body })) (record { marks = its_plain.text.marks; labels = its_plain.text.labels })
        items_many made.statements made.returned

    fits : Fits (unit_outline us s u) (scope_in (routines (own_names (inventories ws))) (λ name. None) [] s other) (position_of (marks_from (unit_outline us s u).label 0 made.items)) 0 made.items (body_of_all body)
    fits =
        built_fit (scope_in (routines (own_names (inventories ws))) (λ name. None) [] s other) (unit_outline us s u) made.items (unit_function (record { inventory = v; body = body })) built
        (subst (λ ns. KnowsItems (scope_in (routines (own_names (inventories ws))) (λ name. None) [] s other) ns made.items) (sym same_names) known.knows)

    its_strings : length (whole_body body).items.strings ≡ length v.strings
    its_strings =
        ap (λ (o : Body). length o.items.strings) (whole_is (unit_outline us s u) made.items (unit_function (record { inventory = v; body = body })) built)
        ∙ bytes_count (unit_outline us s u).names (body_of_all body).items.strings (strings_of_items (unit_outline us s u).names made.items) fits.strings
        ∙ ap (λ ns. length (strings_of_items ns made.items)) same_names ∙ known.counted

    unit_built : IsUnitBuilt (unit_numbers us) ws s (record { inventory = v; body = body }) (whole_text u) (kind_before (whole_text u)) (unit_outline us s u) made.items
    unit_built = record {
      differ = emitted.differ;
      names_listed = its_names;
      listed = its_listed;
      stops = refl;
      names = same_names;
      emitted = made.emitted;
      built = built;
      as_many = its_strings;
    }

    -- ### The whole

    abbrev made_rendering : Rendering
    made_rendering = rendering_of us s u body made.items

    same_facts : u.text.facts ≡ facts_of rs j made_rendering
    same_facts = facts_are ∙ ap (λ ps. facts_at (own_setting ps) j (Some u.unit)) (sym same_units)

    passes : Passes v (whole_text u)
    passes = record {
      units = λ n way layout controls ps m unit stands is. let l = listed_at 0 (whole_text u).steps n n way layout controls ps m unit (omega arith) stands is in (l.index, l.listing, l.place, l.at, l.is);
      texts = λ n text stands. text_there (whole_text u) n text stands;
      short = its_plain.text.stops;
    }

    pub translated : IsTranslatedUnit rs j made_rendering
    translated = record {
      lowered = ap (λ ps. lowered_unit (facts_at (own_setting ps) j (Some u.unit))) same_units ∙ its_plain.lowered;
      facts = same_facts;
      direct = its_plain.direct;
      ended = its_plain.ended;
      loops = its_plain.loops;
      runs = its_plain.runs;
      entry = record { name = its_plain.name; formals = its_plain.formals; start = 0 };
      only = its_plain.entry;
      begins = begins;
      named = refl;
      dummies = dummies_listed us j u its_plain.name its_plain.formals its_plain.entry;
      parameters = λ i p stands. subst (λ c. IsDummy c v p) (sym facts_are) (parameter_is us j u its_plain.name its_plain.formals its_plain.entry its_plain.dummies its_plain.bounds i p stands);
      gives = no_result us j u;
      result = λ function.
          subst (λ c. IsResult c v (record { name = its_plain.name; formals = its_plain.formals; start = 0 })) (sym facts_are)
          (result_is us j u its_plain.name its_plain.formals its_plain.entry its_plain.dummies its_plain.storage its_plain.bounds its_plain.result function);
      results = λ x own. (its_plain.result.numeric x (ap (λ (p : ProgramUnit). (p.attribute x).class) (sym program_is) ∙ own)).0;
      storage = own_storage us j u its_plain.storage;
      bounds = λ x other. subst (λ c. BoundsAreWritten c v x) (sym facts_are) (others_written us j u its_plain.name its_plain.formals its_plain.entry its_plain.dummies its_plain.bounds x other);
      values = λ i one stands. subst (λ c. IsBoundValue c its_plain.formals one.value) (sym facts_are) (values_kept us j u its_plain.name its_plain.formals its_plain.entry its_plain.dummies its_plain.bounds i one stands);
      built = subst (λ numbers. IsUnitBuilt numbers ws s (record { inventory = v; body = body }) (whole_text u) (kind_before (whole_text u)) (unit_outline us s u) made.items) (ap (found_from 0) (sym same_units)) unit_built;
      flows = flows_behind first (writing_of s.constants v s.bases u.text.facts (kind_before (whole_text u))) u.text (record { name = its_plain.name; formals = its_plain.formals; start = 0 }) refl refl behind_it.flows made.in_place
          (steps_alone u.text (outputs_are_whole (own_facts (program_units us) j u.unit) u.text its_plain.lowered) (sym behind_it.flows.in_place ∙ made.in_place)) begins;
      passes = passes;
      no_wrapper = no_wrapper body made.returned;
    }

  -- ## Each of them

  each : (j : ℕ) (r : Rendering) → slice_get rs j ≡ Some r → IsTranslatedUnit rs j r
  each j r at =
      let found = rendered_at us us rs j r rendered at in
      let one = found.one in
      subst (IsTranslatedUnit rs j) one.is (translated j found.unit found.at one.site one.sited one.body one.made)

  numbers : (j : ℕ) (r : Rendering) → slice_get rs j ≡ Some r → (i : ℕ) (z : ℤ) → slice_get r.site.constants i ≡ Some z → in_range z ≡ true
  numbers j r at =
      let found = rendered_at us us rs j r rendered at in
      let one = found.one in
      subst (λ (q : Rendering). (i : ℕ) (z : ℤ) → slice_get q.site.constants i ≡ Some z → in_range z ≡ true) one.is
      (λ i z there. fit j found.unit found.at one.site one.sited one.body one.made z (in_at one.site.constants i z there))

  rendering_is : (j : ℕ) (r : Rendering) → slice_get rs j ≡ Some r → IsRenderingOf us j r
  rendering_is j r at =
      let found = rendered_at us us rs j r rendered at in
      let one = found.one in
      subst (IsRenderingOf us j) one.is (record { unit = found.unit; at = found.at; text = refl; inventory = refl; outline = refl })

-- ## All files

set_translated : (lfs : List (List LoweredUnit)) (fs : List UnitsOfFile) → ArePlainUnits (all_lowered lfs) → (made : AreAllRendered lfs fs) → IsTranslatedSet fs made.renderings
set_translated lfs fs plain made =
    let us = all_lowered lfs in
    let rs = made.renderings in
    let same = same_inventories us plain rs made.each in
    let one_entry = single us plain rs made.each in
    record {
      units = each us plain rs made.each;
      written = made.written;
      sited = made.sited;
      some = (let many = as_many us us rs made.each in let one = plain.some in omega (arith, many, one));
      differ = own_distinct us (written_of rs) same one_entry plain.differ;
      apart = own_apart us (written_of rs) same one_entry plain.differ;
      numbers = numbers us plain rs made.each;
    }

pub plain_units_are_rendered : PlainUnitsAreRendered
plain_units_are_rendered lfs fs plain are =
    let made = all_rendered lfs fs are in
    record { renderings = made.renderings; translated = set_translated lfs fs plain made; each = rendering_is (all_lowered lfs) plain made.renderings made.each }

pub plain_units_run_alike : PlainUnitsRunAlike
plain_units_run_alike lfs fs plain are units n meant =
    let made = all_rendered lfs fs are in
    let same = same_units (all_lowered lfs) plain made.renderings made.each in
    subst (λ ps. SameRuns ps (own_setting ps) (files_of fs) units n) same
    (unit_programs_run_alike fs made.renderings (set_translated lfs fs plain made) units n (λ h. meant (ap (λ ps. act_of (ftn (own_setting ps) ps units n)) (sym same) ∙ h)))
