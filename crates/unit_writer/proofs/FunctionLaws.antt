-- The function that is written for a unit is the one that the unit has.
use mathlib.Core.Path.{fun_ext}
use Rattle.std.specs.List.{flat_map}
use Rattle.std.specs.Prelude.{◌≡◌, ℕ, zero, suc, ◌+◌, ◌-◌, nat_lt, ℤ, Bool, true, List, [], ◌∷◌, ◌++◌, map, length, drop, Option, Some, None, option_map, option_and_then, if◌then◌else◌}
use Rattle.std.proofs.Common.{append_assoc, refl, sym, ap, ◌∙◌, arith}
use Rattle.std.proofs.lemmas.Bool.{lt-ltb}
use Rattle.std.proofs.lemmas.List.{length-drop, map-append}
use Rattle.f_tree.specs.CNames.{variable_name, external_name, main_name}
use Rattle.f_tree.specs.Values.{Bytes}
use Rattle.f_tree.specs.Facts.{Member, UnitKind, EntryPoint, ProgramUnit}
use Rattle.lowered_tree.specs.l_core.Steps.{Step}
use Rattle.lowered_tree.specs.Shapes.{steps_of}
use Rattle.c_tree.specs.declared.declaration.CLocal.{CLocal}
use Rattle.c_tree.specs.declared.statement.CStmt.{CStmt}
use Rattle.c_tree.specs.declared.file.CFunction.{CFunction}
use Rattle.c_emit.specs.faithful.StorageImage.{function_name, name_of_entries}
use Rattle.main_translation.specs.main_file.MainFile.{Called, call_for, lists_from, temporaries_from, variable_by, variable_for}
use Rattle.main_translation.specs.Contents.{calls_of, count_by, function_called, functions_of, if_called, number_type_of, start_output, output_item, end_output, stop_run, variable_of}
use Rattle.unit_translation.specs.unit_file.UnitFile.{KeptBound, Callee, bound_for, extern_for, parameter_for, result_local, unit_function, unit_locals}
use Rattle.unit_translation.specs.behind_bounds.BehindBounds.{steps_behind}
use Rattle.unit_translation.specs.UnitFlow.{kind_before}
use Rattle.unit_translation.specs.UnitContents.{LoweredUnit, whole_text, bounds_kept, basic_given, inventory_of, library_callee, procedure_callee, procedures_in, result_by, result_given, returned_by, type_given}
use Rattle.lowered_text.specs.declared.text.LoweredText.{LoweredText}
use Rattle.lowered_text.specs.Texts.{IsText}
use Rattle.name_facts.specs.declared.table.NameFacts.{NameFacts}
use Rattle.name_facts.specs.GivenFacts.{fact_in}
use Rattle.named_items.specs.Layouts.{layout_of}
use Rattle.item_emission.specs.NamedEmission.{Knowledge, Kinds, item_step}
use Rattle.item_emitter.specs.declared.known.Known.{Known}
use Rattle.item_emitter.specs.Knowing.{known_of}
use Rattle.unit_contents.specs.declared.contents.Contents.{Contents}
use Rattle.unit_contents.specs.ContentsOf.{AreContents}
use Rattle.named_mains.specs.NamedMains.{item_ahead, items_from, statements_of}
use Rattle.named_units.specs.NamedUnits.{bound_items_from, items_behind, known_for, layout_for, named_items_of, named_body_of}
use Rattle.unit_writer.specs.declared.heading.UnitRole.{UnitRole}
use Rattle.unit_writer.specs.declared.heading.UnitRole.TheVariants as role
use Rattle.unit_writer.specs.declared.heading.Dummy.{Dummy}
use Rattle.unit_writer.specs.declared.heading.Heading.{Heading}
use Rattle.unit_writer.specs.declared.heading.Procedure.{Procedure}
use Rattle.unit_writer.specs.Functions.{kinds_at, basic_told, body_by, local_of, calls_by, locals_by, name_told, parameter_told, function_by}
use Rattle.unit_writer.specs.Told.{Tells}
use Rattle.unit_writer.specs.ToldUnits.{IsToldUnit, IsWrittenUnit, TellsProcedures, bound_told, callees_told, dummy_told, kind_told, stored_names}
use Rattle.unit_writer.proofs.KnownItems.{behind_passed_same, with_passed}
use Rattle.unit_writer.proofs.KnownLaws.{alone, known_agrees, passes, passes_same}

-- ## Statements

-- the items are the same where the same is known of the temporaries before each step
items_same : (known : Knowledge) (one other : ℕ → Kinds) (count : ℕ) → ((n : ℕ) → nat_lt n count ≡ true → one n ≡ other n) → (n : ℕ) (steps : List Step) → n + length steps ≡ count
    → items_from known one n steps ≡ items_from known other n steps
unfolding items_from
items_same known one other count same n [] fits = refl
items_same known one other count same n (st ∷ later) fits =
    let here : one n ≡ other n = same n (lt-ltb n count (omega arith)) in
    let behind : items_from known one (suc n) later ≡ items_from known other (suc n) later = items_same known one other count same (suc n) later (omega arith) in
    λ i. item_ahead (item_step known (here i) n st) (behind i)

-- a text behind what does nothing
long_behind : (first : ℕ) (steps : List Step) → length (steps_behind first steps) ≡ first + length steps
unfolding steps_behind
long_behind zero steps = let none : 0 + length steps ≡ length steps = omega arith in sym none
long_behind (suc first) steps = let more : suc (first + length steps) ≡ suc first + length steps = omega arith in ap suc (long_behind first steps) ∙ more

-- ## The heading

entries_named : (entries : List EntryPoint) (x : Bytes) → map (λ (entry : EntryPoint). entry.name) entries ≡ x ∷ [] → external_name x ≡ name_of_entries entries
entries_named entries x h =
    let one = alone entries x h in
    ap external_name (sym one.2) ∙ sym (ap name_of_entries one.1)

-- a unit, but for its kind
abbrev of_kind : ProgramUnit → UnitKind → ProgramUnit
of_kind unit kind = record {
  kind = kind;
  entries = unit.entries;
  lines = unit.lines;
  attribute = unit.attribute;
  formats = unit.formats;
  blocks = unit.blocks;
  ties = unit.ties;
  images = unit.images;
  references = unit.references;
  stored = unit.stored;
  onetrip = unit.onetrip;
}

name_by : (r : UnitRole) (unit : ProgramUnit) (x : Bytes) → map (λ (entry : EntryPoint). entry.name) unit.entries ≡ x ∷ [] → name_told r x ≡ function_name (of_kind unit (kind_told r))
unfolding name_told kind_told function_name main_name
name_by role.Main unit x h = refl
name_by role.Subroutine unit x h = entries_named unit.entries x h
name_by role.Function unit x h = entries_named unit.entries x h

type_by : (table : NameFacts) (unit : ProgramUnit) (entries : List EntryPoint) (x : Bytes) → map (λ (entry : EntryPoint). entry.name) entries ≡ x ∷ [] → (fact_in table x).basic ≡ (unit.attribute x).basic
    → Some (fact_in table x).basic ≡ type_given unit entries
unfolding type_given
type_by table unit entries x h is =
    let one = alone entries x h in
    ap Some (is ∙ ap (λ (y : Bytes). (unit.attribute y).basic) (sym one.2)) ∙ sym (ap (type_given unit) one.1)

basic_by : (r : UnitRole) (table : NameFacts) (unit : ProgramUnit) (x : Bytes) → map (λ (entry : EntryPoint). entry.name) unit.entries ≡ x ∷ [] → (fact_in table x).basic ≡ (unit.attribute x).basic
    → basic_told table r x ≡ basic_given unit (kind_told r)
unfolding basic_told basic_given kind_told
basic_by role.Main table unit x h is = refl
basic_by role.Subroutine table unit x h is = refl
basic_by role.Function table unit x h is = type_by table unit unit.entries x h is

-- ## Declarations

library_externs : (calls : List Called) → map call_for calls ≡ map extern_for (map library_callee calls)
library_externs [] = refl
library_externs (call ∷ calls) = ap (λ later. call_for call ∷ later) (library_externs calls)

callees_same : (procedures : Bytes → Option Procedure) (us : List LoweredUnit) → TellsProcedures us procedures → (xs : List Bytes) → flat_map (callees_told procedures) xs ≡ flat_map (procedure_callee us) xs
callees_same procedures us tells xs = ap (λ (f : Bytes → List Callee). flat_map f xs) (fun_ext tells.told)

dummies_same : (ds : List Dummy) → map parameter_told ds ≡ map parameter_for (map dummy_told ds)
dummies_same [] = refl
dummies_same (d ∷ ds) = ap (λ later. parameter_told d ∷ later) (dummies_same ds)

-- ## The whole

module _ (table : NameFacts) (names : List Bytes) (heading : Heading) (procedures : Bytes → Option Procedure) (constants : List ℤ) (t : LoweredText) (c : Contents) (k : Known) (us : List LoweredUnit)
    (u : LoweredUnit) (tells : Tells table names heading procedures constants t c k) (program : u.text.facts.program ≡ u.unit) (told : IsToldUnit table names heading u) (given : TellsProcedures us procedures)
    (text : IsText t (whole_text u)) (contents : AreContents (whole_text u) c) where
  kinds_same : (n : ℕ) → nat_lt n (length (whole_text u).steps) ≡ true → kinds_at c.kinds.items n ≡ kind_before (whole_text u) n
  unfolding kinds_at
  kinds_same n within = fun_ext (λ k. contents.kinds n k within)

  layout_same : layout_of c.layout ≡ layout_for (whole_text u)
  layout_same = λ i. record { label = λ n. contents.labels n i; ends_arm = λ n. contents.arms n i; loop = λ n. contents.loops n i }

  abbrev kept : List KeptBound
  kept = bounds_kept u.unit

  abbrev steps_after : List Step
  steps_after = drop (length kept) (whole_text u).steps

  items_agree : items_behind (known_of k) (kinds_at c.kinds.items) (map bound_told heading.bounds.items) (steps_of t.steps.items) ≡ named_items_of constants us u
  unfolding items_behind
  items_agree =
      let its_passes : Bytes → Bool = passes table names heading procedures constants t c k us u tells program told given text contents in
      let known : known_of k ≡ with_passed (known_for constants us u) its_passes = known_agrees table names heading procedures constants t c k us u tells program told given text contents in
      let known_there : items_behind (known_of k) (kinds_at c.kinds.items) (map bound_told heading.bounds.items) (steps_of t.steps.items)
      ≡ items_behind (with_passed (known_for constants us u) its_passes) (kinds_at c.kinds.items) kept (whole_text u).steps =
      λ i. items_behind (known i) (kinds_at c.kinds.items) (told.bounds i) (text.steps i) in
      let after : length steps_after ≡ length (whole_text u).steps - length kept = length-drop (length kept) (whole_text u).steps in
      let all : length (whole_text u).steps ≡ length kept + length u.text.steps = long_behind (length kept) u.text.steps in
      known_there
      ∙ behind_passed_same (known_for constants us u) its_passes (passes_same table names heading procedures constants t c k us u tells program told given text contents) (kinds_at c.kinds.items) kept
      (whole_text u).steps
      ∙ ap (bound_items_from (known_for constants us u) kept)
      (items_same (known_for constants us u) (kinds_at c.kinds.items) (kind_before (whole_text u)) (length (whole_text u).steps) kinds_same (length kept) steps_after (omega arith))

  pub body_agrees : body_by (known_of k) (map bound_told heading.bounds.items) c (steps_of t.steps.items) ≡ named_body_of constants us u
  unfolding body_by named_body_of
  body_agrees = λ i. if contents.outputs i then option_and_then (statements_of (layout_same i)) (items_agree i) else None

  local_same : (m : Member) → local_of table m.name ≡ variable_for (variable_of u.unit m)
  unfolding local_of variable_of
  local_same m = λ i. variable_by (number_type_of ((told.facts m.name).basic i)) (variable_name m.name) (count_by ((told.facts m.name).bounds i))

  locals_same : (ms : List Member) → map (local_of table) (map (λ (m : Member). m.name) ms) ≡ map variable_for (map (variable_of u.unit) ms)
  locals_same [] = refl
  locals_same (m ∷ ms) = λ i. local_same m i ∷ locals_same ms i

  library_same : calls_by c.calls ≡ calls_of (whole_text u).steps
  unfolding calls_by calls_of functions_of
  library_same = λ i. if_called (contents.calls.starts i) start_output ++ (if_called (contents.calls.takes i) output_item
      ++ (if_called (contents.calls.finishes i) end_output ++ (if_called (contents.calls.stops i) stop_run ++ map function_called (contents.calls.functions i))))

  procedures_same : flat_map (callees_told procedures) c.procedures.items ≡ flat_map (procedure_callee us) (procedures_in (whole_text u))
  procedures_same = ap (flat_map (callees_told procedures)) contents.procedures ∙ callees_same procedures us given (procedures_in (whole_text u))

  calls_same : (rest : List CLocal) → map call_for (calls_by c.calls) ++ (map extern_for (flat_map (callees_told procedures) c.procedures.items) ++ rest) ≡ map extern_for (inventory_of us u).calls ++ rest
  calls_same rest =
      (λ i. (ap (map call_for) library_same ∙ library_externs (calls_of (whole_text u).steps)) i ++ (map extern_for (procedures_same i) ++ rest))
      ∙ sym (append_assoc (map extern_for (map library_callee (calls_of (whole_text u).steps))) (map extern_for (flat_map (procedure_callee us) (procedures_in (whole_text u)))) rest)
      ∙ ap (λ es. es ++ rest) (sym (map-append extern_for (map library_callee (calls_of (whole_text u).steps)) (flat_map (procedure_callee us) (procedures_in (whole_text u)))))

  basic_same : basic_told table heading.role heading.name.now ≡ basic_given u.unit u.unit.kind
  basic_same = basic_by heading.role table u.unit heading.name.now told.entries (told.facts heading.name.now).basic ∙ ap (basic_given u.unit) (sym told.kind)

  name_same : name_told heading.role heading.name.now ≡ function_name u.unit
  name_same = name_by heading.role u.unit heading.name.now told.entries ∙ ap (λ (kind : UnitKind). function_name (of_kind u.unit kind)) (sym told.kind)

  all_locals : locals_by table names (basic_told table heading.role heading.name.now) (map bound_told heading.bounds.items) procedures c ≡ unit_locals (inventory_of us u)
  unfolding locals_by
  all_locals =
      let variables : map (local_of table) (stored_names table names) ≡ map variable_for (map (variable_of u.unit) u.unit.stored) =
      ap (map (local_of table)) (sym told.stored) ∙ locals_same u.unit.stored in
      (λ i. result_local (returned_by (basic_same i)) ++ (temporaries_from 1 (contents.temporaries i) ++ (map bound_for (told.bounds i) ++ calls_same (variables i ++ lists_from 1 (contents.lists i)) i)))

  pub function_agrees : (body : List CStmt) → function_by table names heading procedures c body ≡ unit_function (record { inventory = inventory_of us u; body = body })
  unfolding function_by result_given
  function_agrees body = λ i. record {
    result = result_by (basic_same i);
    name = name_same i;
    params = (dummies_same heading.dummies.items ∙ ap (map parameter_for) told.dummies) i;
    locals = all_locals i;
    body = body;
  }

pub function_is_written : (table : NameFacts) (names : List Bytes) (heading : Heading) (procedures : Bytes → Option Procedure) (constants : List ℤ) (t : LoweredText) (c : Contents) (k : Known)
    (function : Option CFunction) → Tells table names heading procedures constants t c k
    → function ≡ option_map (function_by table names heading procedures c) (body_by (known_of k) (map bound_told heading.bounds.items) c (steps_of t.steps.items)) → IsWrittenUnit table names heading procedures constants t c function
function_is_written table names heading procedures constants t c k function tells is = record {
  meant = λ us u program told given text contents.
      is ∙ ap (option_map (function_by table names heading procedures c)) (body_agrees table names heading procedures constants t c k us u tells program told given text contents)
      ∙ ap (λ write. option_map write (named_body_of constants us u)) (fun_ext (function_agrees table names heading procedures constants t c k us u tells program told given text contents));
}
