-- Units that call each other run as their files do.
use Rattle.std.specs.Prelude.{◌≡◌, ℕ, ◌≤◌, nat_lt, true, false, not, List, [], ◌∷◌, length, Option, Some, None, is_none, unwrap_or, slice_get}
use Rattle.std.proofs.Common.{refl, sym, ap, ◌∙◌, subst, arith}
use Rattle.std.proofs.lemmas.Bool.{lt-ltb}
use Rattle.emitted_procedures.specs.simulation.LocalSimulation.{Local}
use Rattle.emitted_procedures.specs.f_tree.Facts.{ProgramUnit}
use Rattle.emitted_procedures.specs.f_tree.Attributes.{no_program, no_facts}
use Rattle.emitted_procedures.specs.f_tree.Meaning.{facts_at}
use Rattle.emitted_procedures.specs.l_core.Steps.{Step, Text}
use Rattle.emitted_procedures.specs.l_core.Costs.{cost, rest}
use Rattle.unit_forms.specs.lowering_laws.Layer.{lower_couple}
use Rattle.unit_forms.proofs.lowering_laws.LayoutLemmas.{laid_out}
use Rattle.unit_forms.proofs.lowering_laws.LocalLemmas.{simulates}
use Rattle.emitted_procedures.specs.c_tree.declared.types.ResultType.TheVariants as result
use Rattle.emitted_procedures.specs.c_tree.declared.statement.CStmt.{CStmt}
use Rattle.emitted_procedures.specs.c_tree.declared.file.CFunction.{CFunction}
use Rattle.emitted_procedures.specs.c_tree.Flat.{Flat}
use Rattle.emitted_procedures.specs.c_tree.FlatForm.{ends}
use Rattle.emitted_procedures.specs.c_tree.Linking as linking
use Rattle.emitted_procedures.specs.c_tree.Meaning.{wrapped_by, step_factor}
use Rattle.emitted_procedures.specs.faithful.SameState.{is_inner}
use Rattle.emitted_procedures.specs.c_image.World.{IsIdle}
use Rattle.unit_forms.specs.c_structure.Statements.{Outline, statements_for}
use Rattle.unit_file_laws.proofs.linking_laws.Places.{some_same, within, some_at}
use Rattle.emitted_procedures.specs.procedure_emission.CallLayer.{entered_couple}
use Rattle.emitted_procedures.proofs.Simulated.{units_are_simulated}
use Rattle.call_bridge.specs.CallBridge.{Translation, MayRun, is_wrapper, UnitIsTranslated, IsTranslated}
use Rattle.call_bridge.proofs.Together.{calls_run_alike}
use Rattle.main_programs.proofs.MainRuns.{ones_cost, ones_rest}
use Rattle.main_programs.proofs.MainStorage.{map_back}
use Rattle.unit_file_laws.specs.unit_file.UnitFile.{WrittenUnit, unit_function}
use Rattle.unit_file_laws.specs.unit_sites.UnitSites.{UnitsOfFile, files_of, all_units, Site}
use Rattle.unit_file_laws.specs.unit_places.UnitPlaces.{linked_unit}
use Rattle.unit_programs.specs.OwnStorage.{own_setting}
use Rattle.unit_programs.specs.TranslatedUnits.{Rendering, units_of, facts_of, IsTranslatedUnit, IsTranslatedSet}
use Rattle.unit_programs.specs.EmittedFile.{room_at, surroundings_of, emission_of, costs_of, costs_behind}
use Rattle.unit_programs.specs.UnitRuns.{UnitProgramsRunAlike}
use Rattle.unit_programs.proofs.Costs.{costs_more, costs_rest}
use Rattle.unit_programs.proofs.Objects as objects_of
use Rattle.unit_programs.proofs.Objects.{found_back}
use Rattle.unit_programs.proofs.Stored as stored_of
use Rattle.unit_programs.proofs.Emission.{units_are_emitted}
use Rattle.unit_programs.proofs.Frames.{frames_stand}

-- stands at numbers that no unit has
abbrev no_text : Text
no_text = record { facts = no_facts; steps = []; begins = λ i. 0; position = λ label. None; marks = [] }

abbrev no_outline : Outline
no_outline = record { names = record { object = λ k. []; string = λ k. None; routine = λ k. [] }; label = λ n. None; ends_arm = λ n. false; loop = λ n. None }

abbrev no_unit : WrittenUnit
no_unit = record {
  inventory = record { name = []; result = result.Int; parameters = []; returned = None; variables = []; lists = []; temporaries = 0; bounds = []; calls = []; strings = []; texts = λ n. [] };
  body = [];
}

abbrev no_site : Site
no_site = record { constants = []; bases = record { own = 0; file = 0; function = 0 } }

abbrev no_rendering : Rendering
no_rendering = record { unit = no_program; text = no_text; written = no_unit; site = no_site; kind = λ n k. None; stage = λ n. None; outline = no_outline; items = [] }

-- a function that ends with a return has an item
has_items : (items : List Flat) (o : Outline) (turns : ℕ) (body : List CStmt) → statements_for o turns 0 items ≡ Some body → ends body ≡ true → 1 ≤ length items
unfolding statements_for
has_items [] o turns body made ended =
    let none : [] ≡ body = some_same [] body made in
    let no : false ≡ true = ap ends none ∙ ended in
    absurd (cc)
has_items (item ∷ items) o turns body made ended = omega arith

module _ (fs : List UnitsOfFile) (rs : List Rendering) (is : IsTranslatedSet fs rs) where
  abbrev us : List ProgramUnit
  us = units_of rs

  -- what becomes of a unit, by its number
  abbrev rendering_at : ℕ → Rendering
  rendering_at i = unwrap_or (slice_get rs i) no_rendering

  abbrev translation : Translation
  translation = record {
    surroundings = surroundings_of fs rs;
    texts = λ i. (rendering_at i).text;
    own_costs = λ i. costs_of (rendering_at i).text;
    costs = λ i. costs_behind (length (rendering_at i).written.inventory.bounds) (costs_of (rendering_at i).text);
    emissions = λ i. emission_of fs i (rendering_at i);
    owner = λ k. k;
  }

  found_rendering : (i : ℕ) (r : Rendering) → slice_get rs i ≡ Some r → slice_get rs i ≡ Some (rendering_at i)
  found_rendering i r at = at ∙ ap Some (sym (ap (λ found. unwrap_or found no_rendering) at))

  -- ## One unit

  module _ (i : ℕ) (r : Rendering) (at : slice_get rs i ≡ Some r) where
    one : IsTranslatedUnit rs i r
    one = is.units i r at

    abbrev first : ℕ
    first = length r.written.inventory.bounds

    abbrev costs : List ℕ
    costs = costs_behind first (costs_of r.text)

    positive : (n : ℕ) (st : Step) → slice_get r.text.steps n ≡ Some st → 1 ≤ cost costs n
    positive n st there =
        let one = ones_cost (length r.text.steps) n (within r.text.steps n st there) in
        let more = costs_more first (costs_of r.text) n in
        omega (arith, one, more)

    upper : Local (lower_couple i r.text costs)
    unfolding facts_at
    upper = simulates i r.text costs (laid_out (facts_of rs i r) r.text one.lowered one.direct one.ended one.loops) positive

    lower : Local (entered_couple (surroundings_of fs rs) i r.text (costs_of r.text) costs (emission_of fs i r))
    lower = let emitted = units_are_emitted fs rs is i r at in units_are_simulated (surroundings_of fs rs) i r.text (costs_of r.text) costs (emission_of fs i r) emitted.0 emitted.1

    narrow : rest costs 0 ≤ step_factor (files_of fs)
    narrow =
        let all = costs_rest first (costs_of r.text) in
        let counted = ones_rest (length r.text.steps) in
        let most = objects_of.factor fs rs is i r at in
        omega (arith, all, counted, most)

    own : nat_lt i (length (linking.program (files_of fs)).functions) ≡ true
    own =
        let stands = objects_of.function_stands fs rs is i r at in
        lt-ltb i (length (linking.program (files_of fs)).functions) (within (linking.program (files_of fs)).functions i (linked_unit fs stands.functions r.site r.written) stands.function_is)

    inner_is : is_inner (slice_get (linking.all_functions (files_of fs)) i) ≡ true
    inner_is = ap is_inner (objects_of.function_stands fs rs is i r at).written ∙ ap is_none one.no_wrapper

  the_unit : (i : ℕ) → slice_get rs i ≡ Some (rendering_at i) → UnitIsTranslated (own_setting us) us (files_of fs) translation i
  the_unit i at = record {
    unit = (rendering_at i).unit;
    has = objects_of.unit_at fs rs is i (rendering_at i) at;
    facts = (is.units i (rendering_at i) at).facts;
    upper = upper i (rendering_at i) at;
    lower = lower i (rendering_at i) at;
    narrow = narrow i (rendering_at i) at;
    function = refl;
    own = own i (rendering_at i) at;
    inner = inner_is i (rendering_at i) at;
    named = objects_of.unit_named fs rs is i (rendering_at i) at;
    called = λ name found. found;
    idle = subst (λ found. IsIdle (room_at found).first (room_at found).count (surroundings_of fs rs).first) (sym at) (stored_of.idle fs rs is i (rendering_at i) at);
    frames = frames_stand fs rs is i (rendering_at i) at;
  }

  -- ## The file

  unit_may_run : (i : ℕ) → MayRun us i → UnitIsTranslated (own_setting us) us (files_of fs) translation i
  unit_may_run i may =
      let f = found_back 0 us may.0 i may.1 in
      let there = f.is in
      let r = objects_of.of_unit fs rs is f.place f.unit f.at in
      the_unit i (found_rendering i r.0 (ap (slice_get rs) {x = i} {y = f.place} (omega (arith, there)) ∙ r.1))

  no_wrapper_at : (i : ℕ) → is_wrapper (slice_get (linking.all_functions (files_of fs)) i) ≡ false
  unfolding is_wrapper
  no_wrapper_at i = by (slice_get (linking.all_functions (files_of fs)) i) refl
    where
      by : (found : Option CFunction) → slice_get (linking.all_functions (files_of fs)) i ≡ found → is_wrapper found ≡ false
      by None at = refl
      by (Some function) at =
          let w = map_back unit_function (all_units fs) i function (ap (λ functions. slice_get functions i) (sym (objects_of.functions_are fs)) ∙ at) in
          let r = objects_of.of_written fs rs is i w.0 w.1 in
          let none : wrapped_by function.body ≡ None = ap (λ (g : CFunction). wrapped_by g.body) (sym w.2) ∙ ap (λ (z : WrittenUnit). wrapped_by z.body) (sym r.2) ∙ (is.units i r.0 r.1).no_wrapper in
          ap (λ name. not (is_none name)) none

  some_step : 1 ≤ step_factor (files_of fs)
  some_step =
      let first = some_at rs 0 (let some = is.some in omega (arith, some)) in
      let built = (is.units 0 first.0 first.1).built in
      let items = has_items first.0.items first.0.outline built.built.turns first.0.written.body built.built.statements built.built.ended in
      let most = objects_of.items_few fs rs is 0 first.0 first.1 in
      omega (arith, items, most)

  translated : IsTranslated (own_setting us) us (files_of fs) translation
  translated = record {
    units = unit_may_run;
    owned = λ i. refl;
    no_wrapper = no_wrapper_at;
    some_step = some_step;
    main = objects_of.main_is fs rs is;
    stands = stored_of.stands fs rs is;
    as_many = refl;
    names = stored_of.names_stand fs rs is;
    low = stored_of.low fs rs is;
  }

pub unit_programs_run_alike : UnitProgramsRunAlike
unit_programs_run_alike fs rs is units n meant = calls_run_alike (own_setting (units_of rs)) (units_of rs) (files_of fs) (translation fs rs is) (translated fs rs is) units n meant
