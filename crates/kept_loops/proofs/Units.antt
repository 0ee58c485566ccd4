-- The function of one unit keeps its loops.
use Rattle.std.specs.Prelude.{◌≡◌, ℕ, ◌+◌, Bool, true, false, ℤ, List, map, length, filter, Option, Some, None, option_and_then, if◌then◌else◌}
use Rattle.std.proofs.Common.{refl, sym, ap, ◌∙◌, subst, arith}
use Rattle.translated_files.specs.f_tree.declared.names.Options.{Options}
use Rattle.translated_files.specs.f_tree.declared.units.Unit.{Unit as GivenUnit}
use Rattle.translated_files.specs.f_tree.Facts.{ProgramUnit, Facts}
use Rattle.translated_files.specs.f_tree.Lines.{line_of, unit_read}
use Rattle.translated_files.specs.f_tree.Meaning.{facts_at}
use Rattle.translated_files.specs.f_tree.Setting.{IsIn}
use Rattle.translated_files.specs.declaration_rows.NameRows.{given_names}
use Rattle.translated_files.specs.l_core.Steps.{Text}
use Rattle.translated_files.specs.lowering.Units.{start_of, all_named, lowered_unit}
use Rattle.translated_files.specs.c_tree.CLabels.{labels_of_all}
use Rattle.translated_files.specs.c_tree.declared.file.CFunction.{CFunction}
use Rattle.translated_files.specs.c_tree.declared.statement.CStmt.{CStmt}
use Rattle.translated_files.specs.main_translation.Outlined.{labels_in, stands_at, whiles_in, returns_last, if_returned, loop_at}
use Rattle.translated_files.specs.named_units.named_items.declared.item.Item.{Item}
use Rattle.translated_files.specs.named_units.named_items.Layouts.{Layout}
use Rattle.translated_files.specs.named_units.named_items.Structured.{structured}
use Rattle.translated_files.specs.named_units.named_mains.NamedMains.{statements_of}
use Rattle.translated_files.specs.unit_translation.UnitContents.{LoweredUnit, bounds_kept, whole_text}
use Rattle.translated_files.specs.unit_translation.behind_bounds.BehindBounds.{behind}
use Rattle.translated_files.specs.unit_translation.UnitFlow.{kind_before, are_in_place}
use Rattle.translated_files.specs.named_units.NamedUnits.{known_for, layout_for, named_items_of, named_body_of}
use Rattle.translated_files.specs.unit_forms.OwnSetting.{own_facts}
use Rattle.translated_files.specs.translated_forms.LoweredForms.{statements_lower}
use Rattle.behind_units.specs.BehindUnits.{LoweredUnitsStandBehind}
use Rattle.loop_marks.specs.c_loops.Loops.{Loops, loops_by, loops_of_all}
use Rattle.loop_marks.specs.c_loops.KeptLayouts.{loops_from, EachStructureIsKept}
use Rattle.loop_marks.specs.DoStatements.{dos_among, whiles_among}
use Rattle.loop_marks.specs.MarkedLoops.{EachTextMarksItsLoops, EachBranchIsNamed}
use Rattle.loop_marks.proofs.Whole.{text_of}
use Rattle.kept_loops.specs.SourceLoops.{do_statements, do_whiles, implied_dos, labels_named, is_label_of}
use Rattle.kept_loops.specs.KeptFunctions.{KeepsLoops}
use Rattle.kept_loops.proofs.SourceForms.{all_dos, all_whiles, dos_of_lines, whiles_of_lines, labels_of_lines, lines_read, names_read, once_read}
use Rattle.kept_loops.proofs.Direct.{IsPlain, dos_are, whiles_are, dos_plain}
use Rattle.kept_loops.proofs.BehindKept.{labels_same, stood_before, late, marked_behind}
use Rattle.kept_loops.proofs.Items.{many_behind, made_behind, begin_from}
use Rattle.kept_loops.proofs.Names.{all_allowed, jumps_forward}
use Rattle.kept_loops.proofs.OwnLabels.{in_filter, of_statements}

-- ## What a body was made by

record HasBody (constants : List ℤ) (all : List LoweredUnit) (u : LoweredUnit) (body : List CStmt) : Type 0 where
  items : List Item
  emitted : named_items_of constants all u ≡ Some items
  statements : structured (layout_for (whole_text u)) (length items) 0 items ≡ Some body

returned_by : (ss body : List CStmt) → if_returned ss ≡ Some body → ss ≡ body
unfolding if_returned
returned_by ss body h = by (returns_last ss) h
  where
    by : (b : Bool) → (if b then Some ss else None) ≡ Some body → ss ≡ body
    by true g = cc
    by false g = absurd (cc)

statements_by : (layout : Layout) (items : List Item) (body : List CStmt) (found : Option (List CStmt)) → option_and_then if_returned found ≡ Some body → found ≡ Some body
statements_by layout items body (Some ss) h = ap Some (returned_by ss body h)
statements_by layout items body None h = absurd (cc)

structured_by : (layout : Layout) (items : List Item) (body : List CStmt) → statements_of layout items ≡ Some body → structured layout (length items) 0 items ≡ Some body
unfolding statements_of
structured_by layout items body h = statements_by layout items body (structured layout (length items) 0 items) h

items_by : (constants : List ℤ) (all : List LoweredUnit) (u : LoweredUnit) (body : List CStmt) (found : Option (List Item)) → named_items_of constants all u ≡ found → option_and_then (statements_of (layout_for (whole_text u))) found ≡ Some body
    → HasBody constants all u body
items_by constants all u body (Some items) is h = record { items = items; emitted = is; statements = structured_by (layout_for (whole_text u)) items body h }
items_by constants all u body None is h = absurd (cc)

has_body : (constants : List ℤ) (all : List LoweredUnit) (u : LoweredUnit) (body : List CStmt) → named_body_of constants all u ≡ Some body → HasBody constants all u body
unfolding named_body_of
has_body constants all u body h = by (are_in_place (whole_text u) 0 (whole_text u).steps) h
  where
    by : (b : Bool) → (if b then option_and_then (statements_of (layout_for (whole_text u))) (named_items_of constants all u) else None) ≡ Some body → HasBody constants all u body
    by true g = items_by constants all u body (named_items_of constants all u) refl g
    by false g = absurd (cc)

-- ## One unit

pub own_program : (us : List ProgramUnit) (j : ℕ) (unit : ProgramUnit) → (own_facts us j unit).program ≡ unit
unfolding facts_at
own_program us j unit = refl

fors_by : (once : Bool) (n : ℕ) → (loops_by once n).fors ≡ (if once then 0 else n)
fors_by true n = refl
fors_by false n = refl

dos_by : (once : Bool) (n : ℕ) → (loops_by once n).dos ≡ (if once then n else 0)
dos_by true n = refl
dos_by false n = refl

module _ (built : EachStructureIsKept) (marked : EachTextMarksItsLoops) (branches : EachBranchIsNamed) (stand : LoweredUnitsStandBehind) (options : Options) (given : GivenUnit) (c : Facts) (program : c.program ≡ unit_read options given) (plain : IsPlain (unit_read options given))
    (lowers : statements_lower (given_names given) given.statements ≡ true) where
  lines_are : (labels : List ℕ) × (c.program.lines ≡ map (line_of (unit_read options given).attribute labels) given.statements)
  lines_are = let read = lines_read options given in (read.0, ap (λ (p : ProgramUnit). p.lines) program ∙ read.1)

  once_is : c.program.onetrip ≡ options.onetrip
  once_is = ap (λ (p : ProgramUnit). p.onetrip) program ∙ once_read options given

  plain_lines : IsPlain c.program
  plain_lines = subst IsPlain (sym program) plain

  dos_counted : dos_among c.program.lines ≡ do_statements given
  dos_counted = dos_are c.program.lines plain_lines.direct ∙ ap all_dos lines_are.1 ∙ dos_of_lines (unit_read options given).attribute lines_are.0 given.statements

  whiles_counted : whiles_among c.program.lines ≡ do_whiles given
  whiles_counted = whiles_are c.program.lines plain_lines.direct ∙ ap all_whiles lines_are.1 ∙ whiles_of_lines (unit_read options given).attribute lines_are.0 given.statements

  labels_known : (u : Text) → lowered_unit c ≡ Some u → (label : ℕ) → IsIn label (labels_in u.steps) → IsIn label (labels_named (given_names given) given.statements)
  labels_known u lowered label among =
      subst (λ names. IsIn label (labels_named names given.statements)) (names_read options given)
      (labels_of_lines (unit_read options given).attribute lines_are.0 given.statements (subst (λ names. statements_lower names given.statements ≡ true) (sym (names_read options given)) lowers) label
      (subst (λ ls. IsIn label (all_named ls)) lines_are.1 (branches c u lowered label among)))

  labels_stand : (u : Text) → lowered_unit c ≡ Some u → (label n : ℕ) → stands_at (u.position label) n ≡ true → is_label_of given.statements label ≡ true
  labels_stand u lowered label n stands =
      let text = text_of c u lowered in
      let lines : u.facts.program.lines ≡ map (line_of (unit_read options given).attribute lines_are.0) given.statements = ap (λ (d : Facts). d.program.lines) (sym text.facts) ∙ lines_are.1 in
      of_statements u.facts.program (start_of u.facts.program) (unit_read options given).attribute lines_are.0 given.statements label n lines (ap (λ place. stands_at (place label) n) (sym text.places) ∙ stands)

  labels_are_own : (u : Text) → lowered_unit c ≡ Some u → (label n : ℕ) → IsIn label (labels_in u.steps) → stands_at (u.position label) n ≡ true → IsIn label (filter (is_label_of given.statements) (labels_named (given_names given) given.statements))
  labels_are_own u lowered label n among stands =
      in_filter (is_label_of given.statements) label (labels_named (given_names given) given.statements) (labels_known u lowered label among) (labels_stand u lowered label n stands)

  -- and behind what is kept before the text
  labels_stay_own : (u : Text) → lowered_unit c ≡ Some u → (first label n : ℕ) → IsIn label (labels_in (behind first u).steps) → stands_at ((behind first u).position label) n ≡ true
      → IsIn label (filter (is_label_of given.statements) (labels_named (given_names given) given.statements))
  labels_stay_own u lowered first label n among stands =
      let own = stood_before first n u.position label stands in
      labels_are_own u lowered label own.0 (subst (IsIn label) (labels_same first u.steps) among) own.1

  pub unit_keeps : (constants : List ℤ) (all : List LoweredUnit) (u : LoweredUnit) (f : CFunction) → lowered_unit c ≡ Some u.text → implied_dos given ≡ 0 → named_body_of constants all u ≡ Some f.body → KeepsLoops options given f
  unit_keeps constants all u f lowered implied body_is =
      let first = length (bounds_kept u.unit) in
      let text = text_of c u.text lowered in
      let stands = stand c u.text lowered first in
      let own = marked c u.text (dos_plain c.program.lines plain_lines.direct) plain_lines.ends lowered in
      let loops = marked_behind first u.text stands own in
      let body = has_body constants all u f.body body_is in
      let known = known_for constants all u in
      let kinds = kind_before (whole_text u) in
      let items = many_behind known kinds (bounds_kept u.unit) (whole_text u).steps body.items body.emitted in
      let rest = ap length stands.steps.rest in
      let long = stands.steps.long in
      let many : length body.items ≡ length (whole_text u).steps = omega (arith, items, rest, long) in
      let once : u.text.facts.program.onetrip ≡ options.onetrip = ap (λ (d : Facts). d.program.onetrip) (sym text.facts) ∙ once_is in
      let well = begin_from known kinds first (whole_text u) body.items (made_behind known kinds (bounds_kept u.unit) (whole_text u).steps body.items body.emitted) (late first u.text stands own) loops options.onetrip once in
      let kept = built (layout_for (whole_text u)) options.onetrip (length body.items) 0 body.items f.body well body.statements in
      let counted : dos_among u.text.facts.program.lines ≡ do_statements given = ap (λ (d : Facts). dos_among d.program.lines) (sym text.facts) ∙ dos_counted in
      let all : loops_of_all f.body ≡ loops_by options.onetrip (do_statements given) = kept.loops ∙ ap (loops_by options.onetrip) (ap (loops_from (loop_at (whole_text u)) 0) many ∙ loops.number ∙ counted) in
      let count : (loops_of_all f.body).fors ≡ (if options.onetrip then 0 else do_statements given) = ap (λ (x : Loops). x.fors) all ∙ fors_by options.onetrip (do_statements given) in
      let whiles : length (whiles_in (whole_text u).marks) ≡ do_whiles given = loops.whiles ∙ ap (λ (d : Facts). whiles_among d.program.lines) (sym text.facts) ∙ whiles_counted in
      record {
        fors = (let e : (loops_of_all f.body).fors ≡ (if options.onetrip then 0 else do_statements given) + implied_dos given = omega (arith, count, implied) in e);
        dos = ap (λ (x : Loops). x.dos) all ∙ dos_by options.onetrip (do_statements given);
        labels = all_allowed given (whole_text u) (labels_stay_own u.text lowered first) whiles (layout_for (whole_text u)) (labels_of_all f.body).named (λ n. refl) kept.named;
        forward = jumps_forward given (whole_text u) (labels_stay_own u.text lowered first) whiles (layout_for (whole_text u)) f.body (λ n. refl) kept.named;
      }
