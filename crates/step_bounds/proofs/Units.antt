-- The function of one unit has few steps for the tree of the unit.
use Rattle.std.specs.Prelude.{◌≡◌, ℕ, zero, suc, ◌+◌, ◌*◌, ◌≤◌, ◌&&◌, Bool, true, false, ℤ, List, [], ◌∷◌, map, length, drop, Option, Some, None, option_and_then, if◌then◌else◌}
use Rattle.std.proofs.Common.{refl, sym, ap, ◌∙◌, subst, arith}
use Rattle.std.proofs.Math.Nat.{mul-le-mul_left, mul-le-mul_right}
use Rattle.std.proofs.lemmas.Bool.{and_parts}
use Rattle.translated_files.specs.f_tree.declared.names.Options.{Options}
use Rattle.translated_files.specs.f_tree.declared.statements.Stmt.{Stmt}
use Rattle.translated_files.specs.f_tree.declared.units.Unit.{Unit as GivenUnit}
use Rattle.translated_files.specs.f_tree.Facts.{ProgramUnit}
use Rattle.translated_files.specs.f_tree.Lines.{unit_read}
use Rattle.translated_files.specs.f_tree.Meaning.{facts_at}
use Rattle.translated_files.specs.declaration_rows.ExpansionRows.{Sized, functions_of}
use Rattle.translated_files.specs.declaration_rows.NameRows.{given_names}
use Rattle.translated_files.specs.l_core.Steps.{Step, Text}
use Rattle.translated_files.specs.lowering.Units.{lowered_unit}
use Rattle.translated_files.specs.c_tree.FlatForm.{Body, with_return, ends, body_of_all, whole_body}
use Rattle.translated_files.specs.c_tree.declared.statement.CStmt.{CStmt}
use Rattle.translated_files.specs.main_translation.Outlined.{returns_last, if_returned}
use Rattle.translated_files.specs.named_units.item_emission.NamedEmission.{Knowledge, Kinds, item_step}
use Rattle.translated_files.specs.named_units.named_items.declared.item.Item.{Item}
use Rattle.translated_files.specs.named_units.named_items.Layouts.{Layout}
use Rattle.translated_files.specs.named_units.named_items.Structured.{structured}
use Rattle.translated_files.specs.named_units.named_mains.NamedMains.{item_ahead, items_from, statements_of}
use Rattle.translated_files.specs.unit_file.UnitFile.{KeptBound}
use Rattle.translated_files.specs.named_units.unit_item_laws.AgreeingUnits.{bound_step}
use Rattle.translated_files.specs.unit_translation.behind_bounds.BehindBounds.{steps_behind}
use Rattle.translated_files.specs.unit_translation.UnitContents.{LoweredUnit, bounds_kept, whole_text}
use Rattle.translated_files.specs.unit_translation.UnitFlow.{kind_before, are_in_place}
use Rattle.translated_files.specs.named_units.NamedUnits.{known_for, layout_for, bound_items_from, items_behind, named_items_of, named_body_of}
use Rattle.translated_files.specs.unit_forms.OwnSetting.{own_facts}
use Rattle.translated_files.specs.unit_forms.PlainProcedures.{is_plain_unit}
use Rattle.translated_files.specs.unit_forms.SpellableUnits.{is_spellable_unit}
use Rattle.translated_files.specs.translated_forms.LoweredForms.{statements_lower}
use Rattle.translated_files.specs.TranslatedFiles.{text_fits, unit_with, procedure_names, procedures_are_defined, passes_tests, lowered_by, lowered_at}
use Rattle.built_sizes.specs.SizedStructures.{EachStructureHasASize}
use Rattle.read_sizes.specs.lowered_sizes.ReadNodes.{lines_nodes, EachTextIsBounded}
use Rattle.read_sizes.specs.tree_nodes.TreeNodes.{total_by, statements_nodes, unit_nodes}
use Rattle.read_sizes.specs.ReadUnits.{EachUnitIsReadWithin}
use Rattle.step_bounds.proofs.References.{statements}
use Rattle.step_bounds.proofs.KeptCounts.{few_kept}

-- ## What a body was made by

record AreAhead (x : Option Item) (xs : Option (List Item)) (items : List Item) : Type 0 where
  first : Item
  later : List Item
  first_is : x ≡ Some first
  later_are : xs ≡ Some later
  all : first ∷ later ≡ items

ahead_of : (x : Option Item) (xs : Option (List Item)) (items : List Item) → item_ahead x xs ≡ Some items → AreAhead x xs items
unfolding item_ahead
ahead_of (Some first) (Some later) items h = record { first = first; later = later; first_is = refl; later_are = refl; all = (let same : first ∷ later ≡ items = cc in same) }
ahead_of (Some first) None items h = absurd (cc)
ahead_of None xs items h = absurd (cc)

as_many : (known : Knowledge) (kinds : ℕ → Kinds) (n : ℕ) (steps : List Step) (items : List Item) → items_from known kinds n steps ≡ Some items → length items ≡ length steps
unfolding items_from
as_many known kinds n [] items h = ap length (let same : items ≡ [] = cc in same)
as_many known kinds n (st ∷ later) items h =
    let a = ahead_of (item_step known (kinds n) n st) (items_from known kinds (suc n) later) items h in
    ap length (sym a.all) ∙ ap suc (as_many known kinds (suc n) later a.later a.later_are)

-- an item for each bound that is kept, before others
more_items : (known : Knowledge) (bounds : List KeptBound) (found : Option (List Item)) (count : ℕ) → ((later : List Item) → found ≡ Some later → length later ≡ count) → (items : List Item) → bound_items_from known bounds found ≡ Some items
    → length items ≡ length bounds + count
unfolding bound_items_from
more_items known [] found count many items h = (let all = many items h in let e : length items ≡ 0 + count = omega (arith, all) in e)
more_items known (one ∷ bounds) found count many items h =
    let a = ahead_of (bound_step known one) (bound_items_from known bounds found) items h in
    let more = more_items known bounds found count many a.later a.later_are in
    let long = ap length (sym a.all) in
    (let e : length items ≡ length (one ∷ bounds) + count = omega (arith, long, more) in e)

-- the steps behind so many others
steps_left : (first : ℕ) (steps : List Step) → drop first (steps_behind first steps) ≡ steps
unfolding steps_behind
steps_left zero steps = refl
steps_left (suc first) steps = steps_left first steps

whole_many : (known : Knowledge) (kinds : ℕ → Kinds) (bounds : List KeptBound) (steps : List Step) (items : List Item) → items_behind known kinds bounds (steps_behind (length bounds) steps) ≡ Some items → length items ≡ length bounds + length steps
unfolding items_behind
whole_many known kinds bounds steps items h =
    more_items known bounds (items_from known kinds (length bounds) (drop (length bounds) (steps_behind (length bounds) steps))) (length steps)
    (λ later from. as_many known kinds (length bounds) (drop (length bounds) (steps_behind (length bounds) steps)) later from ∙ ap length (steps_left (length bounds) steps)) items h

record HasBody (constants : List ℤ) (all : List LoweredUnit) (u : LoweredUnit) (body : List CStmt) : Type 0 where
  items : List Item
  emitted : named_items_of constants all u ≡ Some items
  statements : structured (layout_for (whole_text u)) (length items) 0 items ≡ Some body

returned_by : (ss body : List CStmt) → if_returned ss ≡ Some body → ss ≡ body
unfolding if_returned
returned_by ss body h = by (returns_last ss) h
  where
    by : (b : Bool) → (if b then Some ss else None) ≡ Some body → ss ≡ body
    by true g = cc
    by false g = absurd (cc)

statements_by : (layout : Layout) (items : List Item) (body : List CStmt) (found : Option (List CStmt)) → option_and_then if_returned found ≡ Some body → found ≡ Some body
statements_by layout items body (Some ss) h = ap Some (returned_by ss body h)
statements_by layout items body None h = absurd (cc)

structured_by : (layout : Layout) (items : List Item) (body : List CStmt) → statements_of layout items ≡ Some body → structured layout (length items) 0 items ≡ Some body
unfolding statements_of
structured_by layout items body h = statements_by layout items body (structured layout (length items) 0 items) h

items_by : (constants : List ℤ) (all : List LoweredUnit) (u : LoweredUnit) (body : List CStmt) (found : Option (List Item)) → named_items_of constants all u ≡ found → option_and_then (statements_of (layout_for (whole_text u))) found ≡ Some body
    → HasBody constants all u body
items_by constants all u body (Some items) is h = record { items = items; emitted = is; statements = structured_by (layout_for (whole_text u)) items body h }
items_by constants all u body None is h = absurd (cc)

has_body : (constants : List ℤ) (all : List LoweredUnit) (u : LoweredUnit) (body : List CStmt) → named_body_of constants all u ≡ Some body → HasBody constants all u body
unfolding named_body_of
has_body constants all u body h = by (are_in_place (whole_text u) 0 (whole_text u).steps) h
  where
    by : (b : Bool) → (if b then option_and_then (statements_of (layout_for (whole_text u))) (named_items_of constants all u) else None) ≡ Some body → HasBody constants all u body
    by true g = items_by constants all u body (named_items_of constants all u) refl g
    by false g = absurd (cc)

returning : (b : Bool) (x : Body) → (with_return b x).size ≤ suc x.size
returning true x = omega arith
returning false x = omega arith

whole_within : (ss : List CStmt) → (whole_body ss).size ≤ suc (body_of_all ss).size
whole_within ss = returning (ends ss) (body_of_all ss)

-- the steps of a function are those by which it keeps bounds, those of the text, and perhaps a return
body_within : EachStructureHasASize → (constants : List ℤ) (all : List LoweredUnit) (u : LoweredUnit) (body : List CStmt) → named_body_of constants all u ≡ Some body → (whole_body body).size ≤ suc (length (bounds_kept u.unit) + length u.text.steps)
body_within sized constants all u body h =
    let made = has_body constants all u body h in
    let own = sized (layout_for (whole_text u)) (length made.items) 0 made.items body made.statements in
    let many = whole_many (known_for constants all u) (kind_before (whole_text u)) (bounds_kept u.unit) u.text.steps made.items made.emitted in
    let whole = whole_within body in
    omega (arith, own, many, whole)

-- ## What a lowered unit is of

record IsLowered (options : Options) (units : List GivenUnit) (j : ℕ) (given : GivenUnit) (u : LoweredUnit) : Type 0 where
  plain : is_plain_unit options given ≡ true
  lowers : statements_lower (given_names given) given.statements ≡ true
  unit : u.unit ≡ unit_read options given
  text : lowered_unit (own_facts (map (unit_read options) units) j (unit_read options given)) ≡ Some u.text

if_some : {A : Type 0} → (b : Bool) (x y : A) → (if b then Some x else None) ≡ Some y → x ≡ y
if_some true x y h = cc
if_some false x y h = absurd (cc)

record IsOf (options : Options) (given : GivenUnit) (found : Option Text) (u : LoweredUnit) : Type 0 where
  unit : u.unit ≡ unit_read options given
  text : found ≡ Some u.text

of_text : (options : Options) (given : GivenUnit) (found : Option Text) (u : LoweredUnit) → lowered_by options given found ≡ Some u → IsOf options given found u
unfolding lowered_by
of_text options given None u h = absurd (cc)
of_text options given (Some text) u h =
    let same = if_some (text_fits (whole_text (unit_with options given text))) (unit_with options given text) u h in
    subst (IsOf options given (Some text)) same (record { unit = refl; text = refl })

of_tests : (options : Options) (units : List GivenUnit) (j : ℕ) (given : GivenUnit) (u : LoweredUnit) (b : Bool) → passes_tests options (procedure_names units) given ≡ b
    → (if b then lowered_by options given (lowered_unit (own_facts (map (unit_read options) units) j (unit_read options given))) else None) ≡ Some u → IsLowered options units j given u
unfolding passes_tests
of_tests options units j given u false passed h = absurd (cc)
of_tests options units j given u true passed h =
    let defined = procedures_are_defined (procedure_names units) given in
    let lowers = statements_lower (given_names given) given.statements in
    let spellable = is_spellable_unit (unit_read options given) in
    let one = and_parts (is_plain_unit options given) (spellable && (defined && lowers)) passed in
    let two = and_parts spellable (defined && lowers) one.1 in
    let three = and_parts defined lowers two.1 in
    let is = of_text options given (lowered_unit (own_facts (map (unit_read options) units) j (unit_read options given))) u h in
    record { plain = one.0; lowers = three.1; unit = is.unit; text = is.text }

is_lowered : (options : Options) (units : List GivenUnit) (j : ℕ) (given : GivenUnit) (u : LoweredUnit) → lowered_at options units j given ≡ Some u → IsLowered options units j given u
unfolding lowered_at
is_lowered options units j given u h = of_tests options units j given u (passes_tests options (procedure_names units) given) refl h

own_program : (us : List ProgramUnit) (j : ℕ) (unit : ProgramUnit) → (own_facts us j unit).program ≡ unit
unfolding facts_at
own_program us j unit = refl

-- ## Bounds

pub squares : (m n : ℕ) → m ≤ n → m * m ≤ n * n
squares m n h =
    let one : m * m ≤ m * n = mul-le-mul_left m h in
    let two : m * n ≤ n * n = mul-le-mul_right n h in
    omega (arith, one, two)

self_square : (n : ℕ) → 1 ≤ n → n ≤ n * n
self_square n h = let one : n * 1 ≤ n * n = mul-le-mul_left n h in omega (arith, one)

bound : (size kept steps count lines nodes n : ℕ) → size ≤ suc (kept + steps) → kept ≤ 2 * nodes → steps ≤ 5 * count + 2 * (lines * lines) → count ≤ 4 * nodes → lines ≤ nodes → suc nodes ≤ n → size ≤ 24 * (n * n)
bound size kept steps count lines nodes n a k b c d e =
    let inner = squares lines n (omega (arith, d, e)) in
    let own = self_square n (omega (arith, e)) in
    omega (arith, inner, own)

each_has_nodes : (functions : List Sized) (ss : List Stmt) → length ss ≤ statements_nodes functions ss
unfolding statements_nodes total_by
each_has_nodes functions [] = omega arith
each_has_nodes functions (s ∷ ss) = let more = each_has_nodes functions ss in omega (arith, more)

unit_has_more : (u : GivenUnit) → suc (statements_nodes (functions_of u) u.statements) ≤ unit_nodes u
unfolding unit_nodes
unit_has_more u = omega arith

pub unit_within : EachStructureHasASize → EachTextIsBounded → EachUnitIsReadWithin → (options : Options) (units : List GivenUnit) (j : ℕ) (given : GivenUnit) (constants : List ℤ) (all : List LoweredUnit) (u : LoweredUnit) (body : List CStmt)
    → lowered_at options units j given ≡ Some u → named_body_of constants all u ≡ Some body → (whole_body body).size ≤ 24 * (unit_nodes given * unit_nodes given)
unit_within sized bounded within options units j given constants all u body lowered is =
    let made = is_lowered options units j given u lowered in
    let c = own_facts (map (unit_read options) units) j (unit_read options given) in
    let read = within options given (statements (given_names given) given.statements made.lowers) in
    let steps = subst (λ (p : ProgramUnit). length u.text.steps ≤ 5 * lines_nodes p.lines + 2 * (length p.lines * length p.lines)) (own_program (map (unit_read options) units) j (unit_read options given)) (bounded c u.text made.text) in
    let lines : length (unit_read options given).lines ≤ statements_nodes (functions_of given) given.statements =
    (let many = each_has_nodes (functions_of given) given.statements in let same = read.lines in omega (arith, many, same)) in
    let kept = subst (λ (p : ProgramUnit). length (bounds_kept p) ≤ 2 * statements_nodes (functions_of given) given.statements) (sym made.unit) (few_kept options given made.plain) in
    bound (whole_body body).size (length (bounds_kept u.unit)) (length u.text.steps) (lines_nodes (unit_read options given).lines) (length (unit_read options given).lines) (statements_nodes (functions_of given) given.statements) (unit_nodes given)
    (body_within sized constants all u body is) kept steps read.nodes lines (unit_has_more given)
