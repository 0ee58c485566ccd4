-- A statement that breaks no row, and none of whose calls is found to disagree, is one whose calls agree with the procedures of the set.
use Rattle.std.specs.Prelude.{◌≡◌, ℕ, Bool, true, false, List, [], ◌∷◌, ◌++◌, map, Option, Some, None, IsTrue, if◌then◌else◌}
use Rattle.std.proofs.Common.{refl, sym, ap, ◌∙◌, subst}
use Rattle.call_shapes.specs.f_tree.declared.names.Basic.{Basic}
use Rattle.call_shapes.specs.f_tree.declared.names.Basic.TheVariants.{Integer, Logical, Character}
use Rattle.call_shapes.specs.f_tree.declared.names.Class.{Class}
use Rattle.call_shapes.specs.f_tree.declared.names.Class.TheVariants as class
use Rattle.call_shapes.specs.f_tree.declared.refusals.Kind.{Kind}
use Rattle.call_shapes.specs.f_tree.declared.refusals.Kind.TheVariants.{SyntaxError, ConflictingAttributes, BadDoNest, OperandTypes, NotAssignable, BadStatementFunction, BadFormat}
use Rattle.call_shapes.specs.f_tree.declared.expressions.Expr.{Expr}
use Rattle.call_shapes.specs.f_tree.declared.statements.Body as whole
use Rattle.call_shapes.specs.f_tree.declared.statements.Body.TheOpen as body
use Rattle.call_shapes.specs.f_tree.declared.statements.Body.{Body, more_of-Body, IfOne'}
use Rattle.call_shapes.specs.f_tree.declared.statements.ListItem.{ListItem, Item as ItemTree, Loop', Row_of-ListItem, end_of-ListItem, more_of-ListItem}
use Rattle.call_shapes.specs.f_tree.declared.statements.LoopControl.{LoopControl}
use Rattle.call_shapes.specs.f_tree.declared.statements.Control.{Control}
use Rattle.call_shapes.specs.f_tree.declared.statements.ControlValue.{ControlValue}
use Rattle.call_shapes.specs.f_tree.declared.statements.ControlValue.TheVariants as value
use Rattle.call_shapes.specs.f_tree.declared.statements.ControlWord.{ControlWord}
use Rattle.call_shapes.specs.f_tree.declared.statements.ControlWord.TheVariants as word
use Rattle.call_shapes.specs.f_tree.declared.statements.Direction as direction
use Rattle.call_shapes.specs.f_tree.declared.statements.Direction.TheVariants as way
use Rattle.call_shapes.specs.f_tree.Folds.{fold_item, fold_items, fold_body}
use Rattle.call_shapes.specs.f_tree.Values.{Bytes}
use Rattle.call_shapes.specs.f_tree.Terms.{AsSubroutine, Term, All, Alone, NoMore, More, terms, refers}
use Rattle.call_shapes.specs.f_tree.Facts.{Attribute, Direction, Output, Layout, Listed, Labelled, Computed, Unformatted, ToSetText, Passes, On, ProgramUnit, Facts}
use Rattle.call_shapes.specs.f_tree.Association.{same_basic}
use Rattle.call_shapes.specs.f_tree.Attributes.{option_list}
use Rattle.call_shapes.specs.f_tree.Reading.{Read, read}
use Rattle.call_shapes.specs.f_tree.Uses.{heading_of}
use Rattle.call_shapes.specs.f_tree.Lines.{value_of, place_of, arguments_of, step_of, control_of, is_array, array_or, item_of, work_of, layer_job, job_of, jobs_of, is_text, Written, nothing_written, with_operand, if_placed, settled, control_written, controls_written, layout_written, way_of, transfer_form, auxiliary_form, is_statement_function, value_assignment, text_assignment, assignment, assign_form, return_form, layer_form, form_of}
use Rattle.call_shapes.specs.f_tree.WellTyped as typed
use Rattle.call_shapes.specs.f_tree.WellTyped.{Sort, is_callee}
use Rattle.call_shapes.specs.declaration_rows.Judgement.{What, AFunctionName, Judged, wants_one, unless, wants, judge}
use Rattle.call_shapes.specs.declaration_rows.Fits.{Fits, Agrees as NamesAgree, read_alike}
use Rattle.call_shapes.specs.declaration_rows.StatementRows.{Site, branch, all_branches, settable, typed_as, target_rows, value_rows, assigned_rows, judged_name, step_rows, loop_rows, read_one, written_one, item_rows, joined_rows, layer_listed, listed_rows, text_one, text_rows, file_or_number, unit_rows, control_rows, controls_rows, is_unit_word, is_format_word, any_word, call_passed, arguments_rows, breaks, breaks_alone, assign_broken, return_rows, layer_broken, broken}
use Rattle.call_shapes.specs.declaration_rows.ReferenceRows.{expressions_of_control, joined_expressions, layer_item_expressions, expressions_of_items, expressions_of_value, expressions_of_controls}
use Rattle.call_shapes.specs.declared.shapes.NamedShape.{NamedShape}
use Rattle.call_shapes.specs.declared.shapes.ShapeResult.TheVariants.{Subroutine}
use Rattle.call_shapes.specs.CallsMade.{actual_argument, is_procedure_class, call_as, function_call, subroutine_call, calls_within, calls_among, layer_calls, calls_of_body}
use Rattle.call_shapes.specs.Disagreements.{reason_of}
use Rattle.agreeing_runs.specs.AgreeingForms.{Agrees, TermAgrees, TermsAgree, JobAgrees, WorkAgrees, HeadAgrees, FormAgrees}
use Rattle.declaration_laws.proofs.ExpressionFits.{none_of_both, unless_holds}
use Rattle.declaration_laws.proofs.StatementFits.{fits_of}
use Rattle.agreeing_calls.proofs.AgreementLemmas.{AreSorts, argument_of_judged, a_call}
use Rattle.agreeing_calls.proofs.ReadLemmas.{ReadAgrees, Safe, both_agree, wanted_safe, one_safe, value_of_read, actual_of, pieces_of, IsSorted, AllSorted, sorted_as}
use Rattle.agreeing_calls.proofs.TreeLemmas.{AllClear, clear_both, call_clear, EachClearAgrees, NamesSuit, expression_safe}
use Rattle.agreeing_calls.proofs.SeenLemmas.{same_seen}

-- a place in a statement that takes no function's name alone
no_function : (rows : What → List Kind) (k : Kind) (more : List Kind) → rows AFunctionName ≡ k ∷ more → (w : What) → rows w ≡ [] → w ≡ AFunctionName → ⊥
no_function rows k more is w none same =
    absurd (let bad : k ∷ more ≡ [] = sym is ∙ subst (λ v. rows v ≡ []) same none in cc)

clear_joined : (procedures lines xs ys : List NamedShape) → AllClear procedures lines xs → AllClear procedures lines ys → AllClear procedures lines (xs ++ ys)
unfolding AllClear
clear_joined procedures lines [] ys one other = other
clear_joined procedures lines (x ∷ xs) ys one other = (one.0, clear_joined procedures lines xs ys one.1 other)

among_both : (procedures lines : List NamedShape) (applied : Bytes → List Expr → List NamedShape) (es fs : List Expr) → AllClear procedures lines (calls_among applied (es ++ fs)) →
    AllClear procedures lines (calls_among applied es) × AllClear procedures lines (calls_among applied fs)
unfolding calls_among AllClear
among_both procedures lines applied [] fs clear = (tt, clear)
among_both procedures lines applied (e ∷ es) fs clear =
    let h = clear_both procedures lines (calls_within applied e) (calls_among applied (es ++ fs)) clear in
    let k = among_both procedures lines applied es fs h.1 in
    (clear_joined procedures lines (calls_within applied e) (calls_among applied es) h.0 k.0, k.1)

module _ (S : List ProgramUnit) (procedures lines : List NamedShape) (c : Facts) (clear_agrees : EachClearAgrees S procedures lines c) (n : ℕ) (site : Site)
    (agrees : NamesAgree c n [] site.known) (suit : NamesSuit S c n [] site.known) where
  abbrev names : Bytes → Attribute
  names = site.known.attribute

  abbrev call : Bytes → List Expr → List NamedShape
  call = function_call site.known

  abbrev Clear : List NamedShape → Type 0
  Clear calls = AllClear procedures lines calls

  abbrev ReadWell : Read → Type 0
  ReadWell r = ReadAgrees S c n [] r

  -- EXPRESSIONS
  safe_of : (e : Expr) → Clear (calls_within call e) → Safe S c n [] (judge site.known e) (read site.known.attribute e)
  safe_of e clear = expression_safe S procedures lines c clear_agrees n [] site.known site.known agrees suit (same_seen site.known) site.known.attribute (λ x. read_alike refl) e clear

  first_of : (e : Expr) (es : List Expr) → Clear (calls_among call (e ∷ es)) → Clear (calls_within call e) × Clear (calls_among call es)
  unfolding calls_among
  first_of e es clear = clear_both procedures lines (calls_within call e) (calls_among call es) clear

  read_by : (rows : What → List Kind) (k : Kind) (more : List Kind) (e : Expr) → rows AFunctionName ≡ k ∷ more → Clear (calls_within call e) →
      (judge site.known e).faults ≡ [] → rows (judge site.known e).what ≡ [] → ReadWell (read site.known.attribute e)
  read_by rows k more e is clear faultless none = safe_of e clear faultless (no_function rows k more is (judge site.known e).what none)

  value_read : (basic : Basic) (e : Expr) → Clear (calls_within call e) → value_rows basic (judge site.known e) ≡ [] → ReadWell (read site.known.attribute e)
  unfolding value_rows
  value_read basic e clear none =
      let f = none_of_both (judge site.known e).faults (wants basic (judge site.known e)) none in
      wanted_safe S c n [] basic (judge site.known e) (read site.known.attribute e) (safe_of e clear) f.0 f.1

  value_agrees : (basic : Basic) (e : Expr) → Clear (calls_within call e) → value_rows basic (judge site.known e) ≡ [] →
      TermAgrees S c n [] (value_of site.known.attribute e)
  unfolding value_of
  value_agrees basic e clear none = value_of_read S c n [] (read site.known.attribute e) (value_read basic e clear none)

  one_agrees : (basic : Basic) (e : Expr) → Clear (calls_among call (e ∷ [])) → value_rows basic (judge site.known e) ≡ [] →
      TermsAgree S c n [] (More (value_of site.known.attribute e) NoMore)
  unfolding TermsAgree
  one_agrees basic e clear none = (value_agrees basic e (first_of e [] clear).0 none, tt)

  -- LOOPS
  step_agrees : (o : Option Expr) → Clear (calls_among call (option_list o)) → step_rows site o ≡ [] → TermAgrees S c n [] (step_of site.known.attribute o)
  unfolding step_rows step_of option_list TermAgrees
  step_agrees None clear none = tt
  step_agrees (Some e) clear none = value_agrees Integer e (first_of e [] clear).0 none

  loop_agrees : (control : LoopControl) → Clear (calls_among call (expressions_of_control control)) → loop_rows site control ≡ [] →
      TermsAgree S c n [] (control_of site.known.attribute control)
  unfolding loop_rows control_of expressions_of_control TermsAgree TermAgrees
  loop_agrees control clear none =
      let first : List Kind = value_rows Integer (judge site.known control.first) in
      let limit : List Kind = value_rows Integer (judge site.known control.limit) in
      let h = none_of_both (target_rows Integer (judged_name site control.variable)) (first ++ (limit ++ step_rows site control.step)) none in
      let k = none_of_both first (limit ++ step_rows site control.step) h.1 in
      let l = none_of_both limit (step_rows site control.step) k.1 in
      let one = first_of control.first (control.limit ∷ option_list control.step) clear in
      let two = first_of control.limit (option_list control.step) one.1 in
      (tt, (value_agrees Integer control.first one.0 k.0, (value_agrees Integer control.limit two.0 l.0, (step_agrees control.step two.1 l.1, tt))))

  -- LISTS
  if_term : (b : Bool) (t u : Term) → TermAgrees S c n [] t → TermAgrees S c n [] u → TermAgrees S c n [] (if b then t else u)
  if_term true t u one other = one
  if_term false t u one other = other

  array_agrees : (t : Term) (o : Option Bytes) → TermAgrees S c n [] t → TermAgrees S c n [] (array_or t site.known.attribute o)
  unfolding array_or TermAgrees
  array_agrees t None of = of
  array_agrees t (Some x) of = if_term (is_array (site.known.attribute x)) (All x) t tt of

  placed_by : (r : Read) (o : Option Bytes) → ReadWell r → TermAgrees S c n [] (if_placed r o)
  unfolding if_placed TermAgrees
  placed_by r None well = value_of_read S c n [] r well
  placed_by r (Some x) well = actual_of S c n [] r well

  settled_agrees : (r : Read) → ReadWell r → TermAgrees S c n [] (settled site.known.attribute r)
  unfolding settled
  settled_agrees r well = array_agrees (if_placed r r.base) r.named (placed_by r r.base well)

  item_agrees : (w : direction.Direction) (layout : Layout) (e : Expr) → Clear (calls_within call e) → item_rows w (judge site.known e) ≡ [] →
      TermAgrees S c n [] (item_of (way_of w) layout site.known.attribute e)
  unfolding item_rows item_of way_of value_of place_of read_one written_one TermAgrees
  item_agrees way.Read layout e clear none =
      let f = none_of_both (judge site.known e).faults (read_one (judge site.known e).what) none in
      let r : Read = read site.known.attribute e in
      array_agrees (Alone r.actual) r.named (actual_of S c n [] r (read_by read_one NotAssignable [] e refl clear f.0 f.1))
  item_agrees way.Write Listed e clear none =
      let f = none_of_both (judge site.known e).faults (written_one (judge site.known e).what (judge site.known e).basic) none in
      let r : Read = read site.known.attribute e in
      array_agrees r.value r.named (value_of_read S c n [] r (read_by (λ w. written_one w (judge site.known e).basic) OperandTypes [] e refl clear f.0 f.1))
  item_agrees way.Write (Labelled l) e clear none =
      let f = none_of_both (judge site.known e).faults (written_one (judge site.known e).what (judge site.known e).basic) none in
      settled_agrees (read site.known.attribute e) (read_by (λ w. written_one w (judge site.known e).basic) OperandTypes [] e refl clear f.0 f.1)
  item_agrees way.Write Computed e clear none =
      let f = none_of_both (judge site.known e).faults (written_one (judge site.known e).what (judge site.known e).basic) none in
      settled_agrees (read site.known.attribute e) (read_by (λ w. written_one w (judge site.known e).basic) OperandTypes [] e refl clear f.0 f.1)
  item_agrees way.Write Unformatted e clear none =
      let f = none_of_both (judge site.known e).faults (written_one (judge site.known e).what (judge site.known e).basic) none in
      settled_agrees (read site.known.attribute e) (read_by (λ w. written_one w (judge site.known e).basic) OperandTypes [] e refl clear f.0 f.1)

  mutual
    unfolding fold_item fold_items layer_item_expressions joined_expressions layer_listed joined_rows layer_job work_of JobAgrees WorkAgrees

    tree_agrees : (w : direction.Direction) (layout : Layout) (i : ListItem) → Clear (calls_among call (fold_item layer_item_expressions i)) →
        fold_item (layer_listed site w) i ≡ [] → JobAgrees S c n (fold_item (layer_job (way_of w) layout site.known.attribute) i)
    tree_agrees w layout (ItemTree e) clear none = item_agrees w layout e (first_of e [] clear).0 none
    tree_agrees w layout (Loop' s row control) clear none =
        let h = none_of_both (joined_rows (fold_items (layer_listed site w) row)) (loop_rows site control) none in
        let k = among_both procedures lines call (joined_expressions (fold_items layer_item_expressions row)) (expressions_of_control control) clear in
        (row_agrees w layout row k.0 h.0, loop_agrees control k.1 h.1)

    row_agrees : (w : direction.Direction) (layout : Layout) {m : _} (row : Row_of-ListItem m) →
        Clear (calls_among call (joined_expressions (fold_items layer_item_expressions row))) → joined_rows (fold_items (layer_listed site w) row) ≡ [] →
        WorkAgrees S c n (work_of (fold_items (layer_job (way_of w) layout site.known.attribute) row))
    row_agrees w layout end_of-ListItem clear none = tt
    row_agrees w layout (more_of-ListItem i row) clear none =
        let h = none_of_both (fold_item (layer_listed site w) i) (joined_rows (fold_items (layer_listed site w) row)) none in
        let k = among_both procedures lines call (fold_item layer_item_expressions i) (joined_expressions (fold_items layer_item_expressions row)) clear in
        (tree_agrees w layout i k.0 h.0, row_agrees w layout row k.1 h.1)

  jobs_agree : (w : direction.Direction) (layout : Layout) (is : List ListItem) → Clear (calls_among call (expressions_of_items is)) → listed_rows site w is ≡ [] →
      WorkAgrees S c n (jobs_of (way_of w) layout site.known.attribute is)
  unfolding expressions_of_items listed_rows jobs_of job_of WorkAgrees
  jobs_agree w layout [] clear none = tt
  jobs_agree w layout (i ∷ is) clear none =
      let h = none_of_both (fold_item (layer_listed site w) i) (listed_rows site w is) none in
      let k = among_both procedures lines call (fold_item layer_item_expressions i) (expressions_of_items is) clear in
      (tree_agrees w layout i k.0 h.0, jobs_agree w layout is k.1 h.1)

  -- CONTROL WORDS
  unit_read : (files : Bool) (e : Expr) → Clear (calls_within call e) → unit_rows files (judge site.known e) ≡ [] → ReadWell (read site.known.attribute e)
  unfolding unit_rows file_or_number wants_one
  unit_read false e clear none = value_read Integer e clear none
  unit_read true e clear none =
      let f = none_of_both (judge site.known e).faults (file_or_number (judge site.known e).what (judge site.known e).basic) none in
      read_by (λ w. file_or_number w (judge site.known e).basic) OperandTypes (unless (same_basic (judge site.known e).basic Integer) OperandTypes) e refl clear f.0 f.1

  text_read : (kind : Kind) (e : Expr) → Clear (calls_within call e) → text_rows kind (judge site.known e) ≡ [] → ReadWell (read site.known.attribute e)
  unfolding text_rows text_one
  text_read kind e clear none =
      let f = none_of_both (judge site.known e).faults (text_one (judge site.known e).what ++ unless (same_basic (judge site.known e).basic Character) kind) none in
      read_by text_one OperandTypes [] e refl clear f.0 (none_of_both (text_one (judge site.known e).what) (unless (same_basic (judge site.known e).basic Character) kind) f.1).0

  target_read : (basic : Basic) (e : Expr) → Clear (calls_within call e) → target_rows basic (judge site.known e) ≡ [] → ReadWell (read site.known.attribute e)
  unfolding target_rows settable
  target_read basic e clear none =
      let j : Judged = judge site.known e in
      let f = none_of_both j.faults (settable j.what ++ typed_as j.what j.basic basic) none in
      read_by settable NotAssignable [] e refl clear f.0 (none_of_both (settable j.what) (typed_as j.what j.basic basic) f.1).0

  control_agrees : (direct : Direction) (files : Bool) (w : ControlWord) (v : ControlValue) (more : Written) → Clear (calls_among call (expressions_of_value v)) →
      control_rows site files w v ≡ [] → TermsAgree S c n [] (terms more.operands) →
      TermsAgree S c n [] (terms (control_written direct site.known.attribute w v more).operands)
  unfolding control_rows control_written expressions_of_value with_operand TermsAgree TermAgrees terms value_of place_of
  control_agrees direct files word.Unit value.Star more clear none of = (tt, of)
  control_agrees direct files word.Unit (value.Value e) more clear none of =
      let r : Read = read site.known.attribute e in
      let well : ReadWell r = unit_read files e (first_of e [] clear).0 none in
      (if_term (is_text site.known.attribute r.base) (settled site.known.attribute r) r.value (settled_agrees r well) (value_of_read S c n [] r well), of)
  control_agrees direct files word.Format value.Star more clear none of = of
  control_agrees direct files word.Format (value.Label l) more clear none of = of
  control_agrees direct files word.Format (value.Value e) more clear none of =
      (settled_agrees (read site.known.attribute e) (text_read BadFormat e (first_of e [] clear).0 none), of)
  control_agrees direct files word.Status (value.Value e) more clear none of =
      (actual_of S c n [] (read site.known.attribute e) (target_read Integer e (first_of e [] clear).0 none), of)
  control_agrees direct files word.OnError (value.Label l) more clear none of = of
  control_agrees direct files word.OnEnd (value.Label l) more clear none of = of
  control_agrees direct files word.File (value.Value e) more clear none of =
      (settled_agrees (read site.known.attribute e) (text_read OperandTypes e (first_of e [] clear).0 none), of)
  control_agrees direct files word.FileStatus (value.Value e) more clear none of = (value_agrees Character e (first_of e [] clear).0 none, of)
  control_agrees direct files word.Access (value.Value e) more clear none of = (value_agrees Character e (first_of e [] clear).0 none, of)
  control_agrees direct files word.Form (value.Value e) more clear none of = (value_agrees Character e (first_of e [] clear).0 none, of)
  control_agrees direct files word.Blank (value.Value e) more clear none of = (value_agrees Character e (first_of e [] clear).0 none, of)
  control_agrees direct files _ _ more clear none of = absurd (cc)

  controls_agree : (direct : Direction) (files : Bool) (cs : List Control) → Clear (calls_among call (expressions_of_controls cs)) → controls_rows site files cs ≡ [] →
      TermsAgree S c n [] (terms (controls_written direct site.known.attribute cs).operands)
  unfolding controls_rows controls_written expressions_of_controls nothing_written TermsAgree terms
  controls_agree direct files [] clear none = tt
  controls_agree direct files (one ∷ cs) clear none =
      let h = none_of_both (control_rows site files one.word one.value) (controls_rows site files cs) none in
      let k = among_both procedures lines call (expressions_of_value one.value) (expressions_of_controls cs) clear in
      control_agrees direct files one.word one.value (controls_written direct site.known.attribute cs) k.0 h.0 (controls_agree direct files cs k.1 h.1)

  -- CALL
  arguments_read : (es : List Expr) → Clear (calls_among call es) → arguments_rows site es ≡ [] → TermsAgree S c n [] (terms (arguments_of site.known.attribute es))
  unfolding arguments_rows arguments_of place_of TermsAgree terms call_passed
  arguments_read [] clear none = tt
  arguments_read (e ∷ es) clear none =
      let j : Judged = judge site.known e in
      let h = none_of_both (j.faults ++ call_passed site j.what) (arguments_rows site es) none in
      let f = none_of_both j.faults (call_passed site j.what) h.0 in
      let k = first_of e es clear in
      (actual_of S c n [] (read site.known.attribute e) (read_by (call_passed site) OperandTypes [] e refl k.0 f.0 f.1), arguments_read es k.1 h.1)

  arguments_sorted : (es : List Expr) → arguments_rows site es ≡ [] → AllSorted c n [] (map (judge site.known) es) (terms (arguments_of site.known.attribute es))
  unfolding arguments_rows arguments_of place_of terms call_passed AreSorts Fits
  arguments_sorted [] none = record { sorts = []; typed = typed.no_terms []; sorted = tt }
  arguments_sorted (e ∷ es) none =
      let j : Judged = judge site.known e in
      let h = none_of_both (j.faults ++ call_passed site j.what) (arguments_rows site es) none in
      let f = none_of_both j.faults (call_passed site j.what) h.0 in
      let first : IsSorted c n [] j.what j.basic (read site.known.attribute e).actual =
      sorted_as c n [] site.known j.what j.basic (read site.known.attribute e) (fits_of c n site agrees e f.0)
      (no_function (call_passed site) OperandTypes [] refl j.what f.1) in
      let rest : AllSorted c n [] (map (judge site.known) es) (terms (arguments_of site.known.attribute es)) = arguments_sorted es h.1 in
      record {
        sorts = first.sort ∷ rest.sorts;
        typed = typed.more_terms [] (read site.known.attribute e).actual (terms (arguments_of site.known.attribute es)) first.sort rest.sorts first.typed rest.typed;
        sorted = (first.sorted, rest.sorted);
      }

  arguments_judged : (es : List Expr) → map (actual_argument site.known) es ≡ map argument_of_judged (map (judge site.known) es)
  unfolding actual_argument argument_of_judged
  arguments_judged [] = refl
  arguments_judged (e ∷ es) = ap (λ as'. actual_argument site.known e ∷ as') (arguments_judged es)

  callee_agrees : (k : Class) (x : Bytes) (es : List Expr) (sorts : List Sort) → (site.known.attribute x).class ≡ k → IsTrue (is_callee k) →
      Clear (subroutine_call site.known x es) → AreSorts (map (judge site.known) es) sorts → Agrees S c (record { name = x; want = AsSubroutine }) sorts
  unfolding is_callee subroutine_call call_as is_procedure_class
  callee_agrees class.DummyProcedure x es sorts is callee clear sorted = λ direct. absurd (direct (suit.procedures x is))
  callee_agrees class.Procedure x es sorts is callee clear sorted =
      clear_agrees x Subroutine AsSubroutine (map (judge site.known) es) sorts a_call
      (subst (λ as'. reason_of procedures lines (record { name = x; shape = record { result = Subroutine; arguments = as' } }) ≡ None) (arguments_judged es)
      (call_clear procedures lines Subroutine site.known x es (is_procedure_class (site.known.attribute x).class) (ap is_procedure_class is) clear)) sorted
  callee_agrees class.Result x es sorts is callee clear sorted =
      clear_agrees x Subroutine AsSubroutine (map (judge site.known) es) sorts a_call
      (subst (λ as'. reason_of procedures lines (record { name = x; shape = record { result = Subroutine; arguments = as' } }) ≡ None) (arguments_judged es)
      (call_clear procedures lines Subroutine site.known x es (is_procedure_class (site.known.attribute x).class) (ap is_procedure_class is) clear)) sorted
  callee_agrees class.Unit x es sorts is callee clear sorted =
      clear_agrees x Subroutine AsSubroutine (map (judge site.known) es) sorts a_call
      (subst (λ as'. reason_of procedures lines (record { name = x; shape = record { result = Subroutine; arguments = as' } }) ≡ None) (arguments_judged es)
      (call_clear procedures lines Subroutine site.known x es (is_procedure_class (site.known.attribute x).class) (ap is_procedure_class is) clear)) sorted
  callee_agrees class.Constant x es sorts is callee clear sorted = absurd (cc)
  callee_agrees class.Stored x es sorts is callee clear sorted = absurd (cc)
  callee_agrees class.Dummy x es sorts is callee clear sorted = absurd (cc)
  callee_agrees class.StatementFunction x es sorts is callee clear sorted = absurd (cc)
  callee_agrees class.Intrinsic x es sorts is callee clear sorted = absurd (cc)

  call_form : (x : Bytes) (es : List Expr) → Clear (subroutine_call site.known x es ++ calls_among call es) →
      (unless (is_callee (site.known.attribute x).class) ConflictingAttributes ++ arguments_rows site es) ≡ [] → FormAgrees S c n (layer_form site.known.attribute (body.Call x es))
  unfolding layer_form FormAgrees HeadAgrees
  call_form x es clear none =
      let h = none_of_both (unless (is_callee (site.known.attribute x).class) ConflictingAttributes) (arguments_rows site es) none in
      let k = clear_both procedures lines (subroutine_call site.known x es) (calls_among call es) clear in
      let sorted : AllSorted c n [] (map (judge site.known) es) (terms (arguments_of site.known.attribute es)) = arguments_sorted es h.1 in (
        record {
          sorts = sorted.sorts;
          typed = sorted.typed;
          agrees = callee_agrees (site.known.attribute x).class x es sorted.sorts refl (unless_holds (is_callee (site.known.attribute x).class) ConflictingAttributes h.0) k.0 sorted.sorted;
        },
        arguments_read es k.1 h.1,
      )

  -- ASSIGNMENTS
  value_form : (target e : Read) → ReadWell target → ReadWell e → FormAgrees S c n (value_assignment target e)
  unfolding value_assignment FormAgrees HeadAgrees TermsAgree
  value_form target e one other = (tt, (value_of_read S c n [] e other, (actual_of S c n [] target one, tt)))

  pieces_form : (target e : Read) → ReadWell target → ReadWell e → TermsAgree S c n [] (terms (e.pieces ++ target.actual ∷ []))
  unfolding TermsAgree terms
  pieces_form target e one other =
      both_agree S c n [] e.pieces (target.actual ∷ []) (pieces_of S c n [] e other) (actual_of S c n [] target one, tt)

  text_form : (target e : Read) (b : Bool) → ReadWell target → ReadWell e →
      FormAgrees S c n (if b then value_assignment target e else On ToSetText (terms (e.pieces ++ target.actual ∷ [])))
  unfolding FormAgrees HeadAgrees
  text_form target e true one other = value_form target e one other
  text_form target e false one other = (tt, pieces_form target e one other)

  assigned_form : (target e : Read) (b : Bool) → ReadWell target → ReadWell e → FormAgrees S c n (if b then text_assignment target e else value_assignment target e)
  unfolding text_assignment
  assigned_form target e true one other = text_form target e (refers target.actual) one other
  assigned_form target e false one other = value_form target e one other

  rows_form : (target e : Expr) → Clear (calls_among call (target ∷ e ∷ [])) → assigned_rows (judge site.known target) (judge site.known e) ≡ [] →
      FormAgrees S c n (assignment site.known.attribute (read site.known.attribute target) (read site.known.attribute e))
  unfolding assigned_rows assignment settable
  rows_form target e clear none =
      let t : Judged = judge site.known target in
      let j : Judged = judge site.known e in
      let last : List Kind = typed_as t.what j.basic t.basic in
      let h = none_of_both t.faults (settable t.what ++ (j.faults ++ (wants_one j.what ++ last))) none in
      let k = none_of_both (settable t.what) (j.faults ++ (wants_one j.what ++ last)) h.1 in
      let l = none_of_both j.faults (wants_one j.what ++ last) k.1 in
      let m = none_of_both (wants_one j.what) last l.1 in
      let f = first_of target (e ∷ []) clear in
      let g = first_of e [] f.1 in
      assigned_form (read site.known.attribute target) (read site.known.attribute e) (is_text site.known.attribute (read site.known.attribute target).base)
      (read_by settable NotAssignable [] target refl f.0 h.0 k.0) (one_safe S c n [] j (read site.known.attribute e) (safe_of e g.0) l.0 m.0)

  assign_if : (target e : Expr) (b : Bool) → Clear (calls_among call (target ∷ e ∷ [])) →
      (if b then record { rows = []; guarded = BadStatementFunction ∷ [] } else breaks (assigned_rows (judge site.known target) (judge site.known e))).rows ≡ [] →
      FormAgrees S c n (if b then Passes else assignment site.known.attribute (read site.known.attribute target) (read site.known.attribute e))
  unfolding breaks FormAgrees
  assign_if target e true clear none = tt
  assign_if target e false clear none = rows_form target e clear none

  -- EACH STATEMENT
  return_agrees : (o : Option Expr) → Clear (calls_among call (option_list o)) → return_rows site o ≡ [] → FormAgrees S c n (return_form site.known.attribute o)
  unfolding return_rows return_form option_list FormAgrees HeadAgrees TermsAgree
  return_agrees None clear none = (tt, tt)
  return_agrees (Some e) clear none = (tt, one_agrees Integer e clear none)

  transfer_agrees : (w : direction.Direction) (cs : List Control) (is : List ListItem) → Clear (calls_among call (expressions_of_controls cs ++ expressions_of_items is)) →
      (controls_rows site true cs ++ (unless (any_word is_unit_word cs) SyntaxError ++ (unless (any_word is_format_word cs) SyntaxError ++ listed_rows site w is))) ≡ [] →
      FormAgrees S c n (transfer_form (way_of w) site.known.attribute is (controls_written (way_of w) site.known.attribute cs))
  unfolding transfer_form FormAgrees HeadAgrees
  transfer_agrees w cs is clear none =
      let unit : List Kind = unless (any_word is_unit_word cs) SyntaxError in
      let format : List Kind = unless (any_word is_format_word cs) SyntaxError in
      let h = none_of_both (controls_rows site true cs) (unit ++ (format ++ listed_rows site w is)) none in
      let k = none_of_both unit (format ++ listed_rows site w is) h.1 in
      let l = none_of_both format (listed_rows site w is) k.1 in
      let m = among_both procedures lines call (expressions_of_controls cs) (expressions_of_items is) clear in
      (jobs_agree w (layout_written (controls_written (way_of w) site.known.attribute cs).layout) is m.1 l.1, controls_agree (way_of w) true cs m.0 h.0)

  pub body_agrees : (b : Body) → Clear (calls_of_body (subroutine_call site.known) call b) → (broken site b).rows ≡ [] → FormAgrees S c n (form_of site.known.attribute b)
  unfolding calls_of_body fold_body layer_calls broken layer_broken breaks breaks_alone assign_broken form_of layer_form assign_form auxiliary_form FormAgrees HeadAgrees TermsAgree TermAgrees
  body_agrees (whole.Assign target e) clear none = assign_if target e (is_statement_function site.known.attribute (heading_of target).applied) clear none
  body_agrees (whole.AssignLabel label x) clear none = (tt, (tt, tt))
  body_agrees (whole.Goto label) clear none = (tt, tt)
  body_agrees (whole.GotoList labels e) clear none =
      (tt, one_agrees Integer e clear (none_of_both (value_rows Integer (judge site.known e)) (all_branches site labels) none).0)
  body_agrees (whole.GotoName x labels) clear none = (tt, (tt, tt))
  body_agrees (whole.IfSign e below at above) clear none =
      (tt, one_agrees Integer e clear (none_of_both (value_rows Integer (judge site.known e)) (branch site below ++ (branch site at ++ branch site above)) none).0)
  body_agrees (IfOne' e s (more_of-Body b r)) clear none =
      let h = none_of_both (value_rows Logical (judge site.known e)) ((broken site b).rows ++ (broken site b).guarded) none in
      let k = clear_both procedures lines (calls_within call e) (calls_of_body (subroutine_call site.known) call b) clear in
      (body_agrees b k.1 (none_of_both (broken site b).rows (broken site b).guarded h.1).0, (value_agrees Logical e k.0 h.0, tt))
  body_agrees (whole.IfThen e) clear none = (tt, one_agrees Logical e clear none)
  body_agrees (whole.ElseIf e) clear none = (tt, one_agrees Logical e clear none)
  body_agrees (whole.Do label control) clear none =
      (tt, loop_agrees control clear (none_of_both (loop_rows site control) (unless (site.ends_loop label) BadDoNest) none).0)
  body_agrees (whole.DoWhile label e) clear none =
      (tt, one_agrees Logical e clear (none_of_both (value_rows Logical (judge site.known e)) (unless (site.ends_loop label) BadDoNest) none).0)
  body_agrees (whole.Call x es) clear none = call_form x es clear none
  body_agrees (whole.Return e) clear none = return_agrees e clear none
  body_agrees (whole.Stop text) clear none = (tt, tt)
  body_agrees (whole.Transfer w cs is) clear none = transfer_agrees w cs is clear none
  body_agrees (whole.Auxiliary which cs) clear none =
      (tt, controls_agree Output false cs clear (none_of_both (controls_rows site false cs) (unless (any_word is_unit_word cs) SyntaxError) none).0)
  body_agrees whole.End clear none = (tt, tt)
  body_agrees _ clear none = tt
