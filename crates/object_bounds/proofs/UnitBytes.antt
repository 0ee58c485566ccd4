-- The function of a unit has few bytes for the storage and the tree of the unit.
use Rattle.std.specs.Prelude.{◌≡◌, ℕ, suc, ◌+◌, ◌*◌, ◌≤◌, ◌&&◌, Bool, true, false, ℤ, List, [], ◌∷◌, map, length, Option, Some, None, if◌then◌else◌}
use Rattle.std.proofs.Common.{refl, sym, ◌∙◌, subst, arith}
use Rattle.std.proofs.lemmas.Bool.{and_parts}
use Rattle.std.proofs.lemmas.List.{length-map}
use Rattle.step_bounds.specs.translated_files.f_tree.declared.names.Basic.{Basic}
use Rattle.step_bounds.specs.translated_files.f_tree.declared.names.Options.{Options}
use Rattle.step_bounds.specs.translated_files.f_tree.declared.statements.DummyArgument.{DummyArgument}
use Rattle.step_bounds.specs.translated_files.f_tree.declared.statements.DummyArgument.TheVariants as dummy
use Rattle.step_bounds.specs.translated_files.f_tree.declared.units.Unit.{Unit as GivenUnit}
use Rattle.step_bounds.specs.translated_files.f_tree.Values.{Bytes}
use Rattle.step_bounds.specs.translated_files.f_tree.Facts.{Member, EntryPoint, ProgramUnit}
use Rattle.step_bounds.specs.translated_files.f_tree.Setting.{IsIn, first_in, later_in}
use Rattle.step_bounds.specs.translated_files.f_tree.Uses.{uses_of_statements}
use Rattle.step_bounds.specs.translated_files.f_tree.Attributes.{arrays_of}
use Rattle.step_bounds.specs.translated_files.f_tree.Lines.{formals_of, entries_from, program_of, with_ties, unit_read}
use Rattle.step_bounds.specs.translated_files.f_tree.Meaning.{facts_at}
use Rattle.step_bounds.specs.translated_files.faithful.Signatures.{named_formals, dummy_of}
use Rattle.step_bounds.specs.translated_files.declaration_rows.ExpansionRows.{functions_of}
use Rattle.step_bounds.specs.translated_files.declaration_rows.NameRows.{given_names}
use Rattle.step_bounds.specs.translated_files.l_core.Steps.{Text}
use Rattle.step_bounds.specs.translated_files.lowering.Units.{lowered_unit}
use Rattle.step_bounds.specs.translated_files.c_tree.declared.statement.CStmt.{CStmt}
use Rattle.step_bounds.specs.translated_files.c_tree.FlatForm.{whole_body}
use Rattle.step_bounds.specs.translated_files.main_translation.Contents.{count_by, variable_of}
use Rattle.step_bounds.specs.translated_files.unit_file.UnitFile.{Parameter, WrittenUnit, result_count}
use Rattle.step_bounds.specs.translated_files.unit_translation.UnitContents.{LoweredUnit, bounds_kept, whole_text, values_from, parameter_for, formals_in, parameters_in, returned_by, basic_given, temporaries_kept, inventory_of}
use Rattle.step_bounds.specs.translated_files.named_units.NamedUnits.{named_body_of}
use Rattle.step_bounds.specs.translated_files.unit_forms.OwnSetting.{own_facts}
use Rattle.step_bounds.specs.translated_files.unit_forms.PlainProcedures.{is_plain_unit}
use Rattle.step_bounds.specs.translated_files.unit_forms.SpellableUnits.{is_spellable_unit}
use Rattle.step_bounds.specs.translated_files.translated_forms.LoweredForms.{statements_lower}
use Rattle.step_bounds.specs.translated_files.TranslatedFiles.{text_fits, unit_with, procedure_names, procedures_are_defined, passes_tests, lowered_by, lowered_at}
use Rattle.step_bounds.specs.read_sizes.ReadUnits.{EachUnitIsReadWithin}
use Rattle.step_bounds.specs.read_sizes.lowered_sizes.ReadNodes.{lines_nodes}
use Rattle.step_bounds.proofs.References.{statements}
use Rattle.step_bounds.proofs.KeptCounts.{few_kept}
use Rattle.plain_units.specs.unit_programs.OwnStorage.{bytes_in}
use Rattle.plain_units.specs.PlainParts.{PlainUnitsAreTold}
use Rattle.built_strings.specs.BuiltStrings.{texts_bytes, EachStructureHasItsStrings}
use Rattle.emitted_strings.specs.EmittedStrings.{EachItemHasTheStringOfItsStep}
use Rattle.lowered_objects.specs.FewObjects.{NeedsFew, EachTextNeedsFewObjects}
use Rattle.linked_sizes.specs.LinkedSizes.{count_bytes, variables_bytes, unit_bytes}
use Rattle.object_bytes.specs.tree_nodes.TreeNodes.{total_by, statements_nodes, unit_nodes}
use Rattle.object_bytes.specs.ObjectBytes.{unit_stops}
use Rattle.object_bounds.proofs.Bodies.{body_within}
use Rattle.object_bounds.proofs.StopTexts.{unit_text}

-- ## What a lowered unit is of

record IsLowered (options : Options) (units : List GivenUnit) (j : ℕ) (given : GivenUnit) (u : LoweredUnit) : Type 0 where
  plain : is_plain_unit options given ≡ true
  lowers : statements_lower (given_names given) given.statements ≡ true
  text : lowered_unit (own_facts (map (unit_read options) units) j (unit_read options given)) ≡ Some u.text
  unit : u.unit ≡ unit_read options given
  uses : (x : Bytes) → u.use_of x ≡ (dummy_of (uses_of_statements (arrays_of given) given.statements) u.unit.attribute x).use_of

if_some : {A : Type 0} → (b : Bool) (x y : A) → (if b then Some x else None) ≡ Some y → x ≡ y
if_some true x y h = cc
if_some false x y h = absurd (cc)

record IsOf (options : Options) (given : GivenUnit) (found : Option Text) (u : LoweredUnit) : Type 0 where
  text : found ≡ Some u.text
  unit : u.unit ≡ unit_read options given
  uses : (x : Bytes) → u.use_of x ≡ (dummy_of (uses_of_statements (arrays_of given) given.statements) u.unit.attribute x).use_of

of_text : (options : Options) (given : GivenUnit) (found : Option Text) (u : LoweredUnit) → lowered_by options given found ≡ Some u → IsOf options given found u
unfolding lowered_by
of_text options given None u h = absurd (cc)
of_text options given (Some text) u h =
    let same = if_some (text_fits (whole_text (unit_with options given text))) (unit_with options given text) u h in
    subst (IsOf options given (Some text)) same (record { text = refl; unit = refl; uses = λ x. refl })

of_tests : (options : Options) (units : List GivenUnit) (j : ℕ) (given : GivenUnit) (u : LoweredUnit) (b : Bool) → passes_tests options (procedure_names units) given ≡ b
    → (if b then lowered_by options given (lowered_unit (own_facts (map (unit_read options) units) j (unit_read options given))) else None) ≡ Some u → IsLowered options units j given u
unfolding passes_tests
of_tests options units j given u false passed h = absurd (cc)
of_tests options units j given u true passed h =
    let defined = procedures_are_defined (procedure_names units) given in
    let lowers = statements_lower (given_names given) given.statements in
    let spellable = is_spellable_unit (unit_read options given) in
    let one = and_parts (is_plain_unit options given) (spellable && (defined && lowers)) passed in
    let two = and_parts spellable (defined && lowers) one.1 in
    let three = and_parts defined lowers two.1 in
    let is = of_text options given (lowered_unit (own_facts (map (unit_read options) units) j (unit_read options given))) u h in
    record { plain = one.0; lowers = three.1; text = is.text; unit = is.unit; uses = is.uses }

is_lowered : (options : Options) (units : List GivenUnit) (j : ℕ) (given : GivenUnit) (u : LoweredUnit) → lowered_at options units j given ≡ Some u → IsLowered options units j given u
unfolding lowered_at
is_lowered options units j given u h = of_tests options units j given u (passes_tests options (procedure_names units) given) refl h

own_program : (us : List ProgramUnit) (j : ℕ) (unit : ProgramUnit) → (own_facts us j unit).program ≡ unit
unfolding facts_at
own_program us j unit = refl

-- ## Variables

-- the bytes of stored names
unfoldable pub sizes : List Member → ℕ
sizes ms = total_by (λ size. size) (map (λ (m : Member). m.size) ms)

same_count : (count : Option ℕ) → count_bytes count ≡ bytes_in count
unfolding count_bytes
same_count None = refl
same_count (Some count) = refl

variables_within : (unit : ProgramUnit) (ms : List Member) → ((m : Member) → IsIn m ms → m.size ≡ bytes_in (count_by (unit.attribute m.name).bounds)) → variables_bytes (map (variable_of unit) ms) ≤ sizes ms
unfolding variables_bytes variable_of sizes total_by
variables_within unit [] each = omega arith
variables_within unit (m ∷ ms) each =
    let one : count_bytes (count_by (unit.attribute m.name).bounds) ≡ m.size = same_count (count_by (unit.attribute m.name).bounds) ∙ sym (each m first_in) in
    let more = variables_within unit ms (λ n o. each n (later_in o)) in
    omega (arith, one, more)

-- ## Parameters and the result

formals_within : (ds : List DummyArgument) → length (named_formals (formals_of ds)) ≤ length ds
unfolding named_formals formals_of
formals_within [] = omega arith
formals_within (dummy.Named x ∷ ds) = let more = formals_within ds in omega (arith, more)
formals_within (dummy.AlternateReturn ∷ ds) = let more = formals_within ds in omega (arith, more)

entries_within : (ds : List DummyArgument) (name : Bytes) (others : List EntryPoint) → length (named_formals (formals_in (record { name = name; formals = formals_of ds; start = 0 } ∷ others))) ≤ length ds
unfolding formals_in named_formals
entries_within ds name [] = formals_within ds
entries_within ds name (other ∷ later) = omega arith

read_within : (options : Options) (given : GivenUnit) → length (named_formals (formals_in (unit_read options given).entries)) ≤ length given.dummies
unfolding unit_read with_ties program_of
read_within options given = entries_within given.dummies _ (entries_from 0 given.statements)

abbrev parameter_of : LoweredUnit → Bytes → Parameter
parameter_of u x = record { name = x; type = parameter_for (u.use_of x) }

parameters_within : (options : Options) (given : GivenUnit) (u : LoweredUnit) → u.unit ≡ unit_read options given → length (parameters_in u) ≤ length given.dummies
unfolding parameters_in
parameters_within options given u is =
    let same = length-map (named_formals (formals_in u.unit.entries)) (parameter_of u) in
    let own = subst (λ (unit : ProgramUnit). length (named_formals (formals_in unit.entries)) ≤ length given.dummies) (sym is) (read_within options given) in
    omega (arith, same, own)

result_once : (basic : Option Basic) → result_count (returned_by basic) ≤ 1
unfolding returned_by
result_once None = omega arith
result_once (Some basic) = omega arith

-- ## The unit

nodes_apart : (given : GivenUnit) → suc (length given.dummies + statements_nodes (functions_of given) given.statements) ≤ unit_nodes given
unfolding unit_nodes
nodes_apart given = omega arith

bound : (variables texts parameters result temporaries bounds stored lines stops nodes dummies n : ℕ) → variables ≤ stored → texts ≤ lines + stops → parameters ≤ dummies → result ≤ 1 → temporaries ≤ 2 * lines → bounds ≤ 2 * nodes → lines ≤ 4 * nodes
    → suc (dummies + nodes) ≤ n → variables + (texts + 4 * (parameters + (result + (temporaries + bounds)))) ≤ stored + (stops + 100 * n)
bound variables texts parameters result temporaries bounds stored lines stops nodes dummies n a b c d e k f g = omega (arith, a, b, c, d, e, k, f, g)

few_values : (values lines nodes dummies n : ℕ) → values ≤ 3 * lines → lines ≤ 4 * nodes → suc (dummies + nodes) ≤ n → values ≤ 12 * n
few_values values lines nodes dummies n a b c = omega (arith, a, b, c)

-- what the function of a unit has, and what it passes
pub record IsSmall (options : Options) (given : GivenUnit) (u : LoweredUnit) (w : WrittenUnit) : Type 0 where
  pub bytes : unit_bytes w ≤ sizes (unit_read options given).stored + (unit_stops given + 100 * unit_nodes given)
  pub values : length (values_from (whole_text u) 0 (whole_text u).steps) ≤ 12 * unit_nodes given

pub unit_within : PlainUnitsAreTold → EachUnitIsReadWithin → EachTextNeedsFewObjects → EachStructureHasItsStrings → EachItemHasTheStringOfItsStep → (options : Options) (units : List GivenUnit) (j : ℕ) (given : GivenUnit) (constants : List ℤ) (all : List LoweredUnit)
    (u : LoweredUnit) (body : List CStmt) → lowered_at options units j given ≡ Some u → named_body_of constants all u ≡ Some body → IsSmall options given u (record { inventory = inventory_of all u; body = body })
unfolding unit_bytes
unit_within told within few built each options units j given constants all u body lowered is =
    let made = is_lowered options units j given u lowered in
    let c = own_facts (map (unit_read options) units) j (unit_read options given) in
    let read = within options given (statements (given_names given) given.statements made.lowers) in
    let needs : NeedsFew (unit_read options given).lines (whole_text u) =
    subst (λ (p : ProgramUnit). NeedsFew p.lines (whole_text u)) (own_program (map (unit_read options) units) j (unit_read options given)) (few c u.text made.text (length (bounds_kept u.unit))) in
    let kept = subst (λ (p : ProgramUnit). length (bounds_kept p) ≤ 2 * statements_nodes (functions_of given) given.statements) (sym made.unit) (few_kept options given made.plain) in
    let plain = told options given all j u made.plain made.unit made.uses in
    let stored : variables_bytes (map (variable_of u.unit) u.unit.stored) ≤ sizes (unit_read options given).stored =
    subst (λ (p : ProgramUnit). variables_bytes (map (variable_of u.unit) u.unit.stored) ≤ sizes p.stored) made.unit (variables_within u.unit u.unit.stored plain.storage.sized) in
    let stops = unit_text options given in
    let strings = needs.strings in
    let own = body_within built each constants all u body is in
    record {
      bytes = bound (variables_bytes (map (variable_of u.unit) u.unit.stored)) (texts_bytes (whole_body body).items.strings) (length (parameters_in u)) (result_count (returned_by (basic_given u.unit u.unit.kind))) (temporaries_kept (whole_text u).steps) (length (bounds_kept u.unit))
          (sizes (unit_read options given).stored) (lines_nodes (unit_read options given).lines) (unit_stops given) (statements_nodes (functions_of given) given.statements) (length given.dummies) (unit_nodes given) stored
          (omega (arith, own, strings, stops)) (parameters_within options given u made.unit) (result_once (basic_given u.unit u.unit.kind)) needs.temporaries kept read.nodes (nodes_apart given);
      values = few_values (length (values_from (whole_text u) 0 (whole_text u).steps)) (lines_nodes (unit_read options given).lines) (statements_nodes (functions_of given) given.statements) (length given.dummies) (unit_nodes given) needs.constants read.nodes (nodes_apart given);
    }
