-- In the statements of a unit that are lowered functions alone are referred to: a subroutine is called by CALL alone. Section 15.6.
use Rattle.std.proofs.Common.{◌≡◌, ℕ, Bool, true, false, not, ◌&&◌, ◌||◌, List, [], ◌∷◌, map, Option, Some, None, if◌then◌else◌, refl, sym, ap, ◌∙◌, subst}
use Rattle.f_tree.specs.declared.expressions.BinaryOp.{BinaryOp}
use Rattle.f_tree.specs.declared.expressions.BinaryOp.TheVariants as op
use Rattle.f_tree.specs.declared.expressions.Expr.{Expr, Int, Logical, Text, Name, Apply', Part', Minus', Plus', Not', Paren', Binary', AltReturn, Bind', Bound, Row_of-Expr, end_of-Expr, more_of-Expr}
use Rattle.f_tree.specs.declared.names.Class.{Class}
use Rattle.f_tree.specs.declared.names.Class.TheVariants as class
use Rattle.f_tree.specs.declared.statements.Body as whole
use Rattle.f_tree.specs.declared.statements.Body.{Body, IfOne', more_of-Body}
use Rattle.f_tree.specs.declared.statements.Control.{Control}
use Rattle.f_tree.specs.declared.statements.ControlValue.{ControlValue}
use Rattle.f_tree.specs.declared.statements.ControlValue.TheVariants as value
use Rattle.f_tree.specs.declared.statements.ControlWord.{ControlWord}
use Rattle.f_tree.specs.declared.statements.ControlWord.TheVariants as word
use Rattle.f_tree.specs.declared.statements.ListItem.{ListItem, Item, Loop'}
use Rattle.f_tree.specs.declared.statements.LoopControl.{LoopControl}
use Rattle.f_tree.specs.declared.statements.Stmt.{Stmt}
use Rattle.f_tree.specs.Folds.{fold_expr, fold_exprs, fold_item, fold_body}
use Rattle.f_tree.specs.Values.{Bytes, Datum}
use Rattle.f_tree.specs.Terms.{Function, TextLength, Term, All, Alone, terms, refers}
use Rattle.f_tree.specs.Attributes.{from_all}
use Rattle.f_tree.specs.Facts.{Attribute, Direction, Input, Output, Layout, Listed, Word, Form, Passes, ProgramUnit}
use Rattle.f_tree.specs.Reading.{Read, read, valued_only, placed, function_named, operands_of, function_read, intrinsic_read, name_read, applied_read, binary_read, layer_read}
use Rattle.f_tree.specs.Lines.{Naming, value_of, place_of, arguments_of, step_of, control_of, is_array, array_or, if_placed, settled, item_of, layer_job, job_of, jobs_of, is_text, Written, nothing_written, with_operand, control_written, controls_written, layout_written, transfer_form, auxiliary_form, is_statement_function, value_assignment, text_assignment, assignment, assign_form, return_form, layer_form, form_of, loop_label_in, line_of}
use Rattle.f_tree.specs.Uses.{heading_of}
use Rattle.lowered_tree.specs.l_core.Steps.{Step}
use Rattle.lowering.specs.Statements.{wants_no_value}
use Rattle.lowering.specs.Units.{lines_code, calls_well}
use Rattle.name_facts.specs.declared.table.NameFacts.{NameFacts}
use Rattle.name_facts.specs.GivenFacts.{fact_in}
use Rattle.expression_lowering.specs.TableNames.{AreFactsOf, name_lowers, function_lowers, applied_lowers, operator_lowers, all_lower, layer_lowers, is_lowered_value}
use Rattle.statement_lowering.specs.LoweredTransfers.{value_lowers, controls_lower, layer_item, item_lowers, items_lower, transfer_lowers, call_lowers}
use Rattle.statement_lowering.specs.LoweredStatements as stated
use Rattle.statement_lowering.specs.LoweredStatements.{is_function_class, names_function, is_definition, both_lower, assigned_lowers, assignment_lowers, optional_lowers, control_lowers, is_lowered_statement}
use Rattle.statement_places.specs.open_loops.ReadLines.{IsReadAs}
use Rattle.statement_places.specs.StatementPlaces.{statements_lower}
use Rattle.unit_lowering.proofs.FunctionTerms.{RefersToFunctions, ReferToFunctions}
use Rattle.unit_lowering.proofs.FunctionForms.{ItemsReferToFunctions, FormRefersToFunctions, HeadRefersToFunctions, LinesReferToFunctions, called_well}

both_of : (a b : Bool) → (a && b) ≡ true → (a ≡ true) × (b ≡ true)
both_of true b both = (refl, both)
both_of false b both = absurd (cc)

-- READS
record Reads (r : Read) : Type 0 where
  value : RefersToFunctions r.value
  actual : RefersToFunctions r.actual

abbrev AllRead : List Read → Type 0
AllRead [] = Unit {0}
AllRead (r ∷ rs) = Reads r × AllRead rs

values_refer : (rs : List Read) → AllRead rs → ReferToFunctions (terms (map (λ r. r.value) rs))
unfolding terms ReferToFunctions
values_refer [] are = tt
values_refer (r ∷ rs) are = (are.0.value, values_refer rs are.1)

actuals_refer : (rs : List Read) → AllRead rs → ReferToFunctions (terms (map (λ r. r.actual) rs))
unfolding terms ReferToFunctions
actuals_refer [] are = tt
actuals_refer (r ∷ rs) are = (are.0.actual, actuals_refer rs are.1)

valued_reads : (t : Term) → RefersToFunctions t → Reads (valued_only t)
unfolding valued_only
valued_reads t only = record { value = only; actual = only }

placed_reads : (t : Term) → RefersToFunctions t → Reads (placed t)
unfolding placed RefersToFunctions
placed_reads t only = record { value = only; actual = only }

name_reads : (x : Bytes) (a : Attribute) (c : Class) (d : Option Datum) → name_lowers c ≡ true → Reads (name_read x (record a { class = c; constant = d }))
unfolding name_read valued_only placed name_lowers RefersToFunctions
name_reads x a class.Constant None h = record { value = tt; actual = tt }
name_reads x a class.Constant (Some d) h = record { value = tt; actual = tt }
name_reads x a class.StatementFunction d h = absurd (cc)
name_reads x a class.Stored d h = record { value = tt; actual = tt }
name_reads x a class.Dummy d h = record { value = tt; actual = tt }
name_reads x a class.Result d h = record { value = tt; actual = tt }
name_reads x a class.Procedure d h = record { value = tt; actual = tt }
name_reads x a class.DummyProcedure d h = record { value = tt; actual = tt }
name_reads x a class.Intrinsic d h = record { value = tt; actual = tt }
name_reads x a class.Unit d h = record { value = tt; actual = tt }

function_reads : (x : Bytes) (a : Attribute) (rs : List Read) → AllRead rs → Reads (function_read x a rs)
unfolding function_read RefersToFunctions wants_no_value valued_only
function_reads x a rs are = record { value = (refl, actuals_refer rs are); actual = (refl, actuals_refer rs are) }

operands_refer : (f : Function) (rs : List Read) → function_lowers (Some f) ≡ true → AllRead rs → ReferToFunctions (terms (operands_of f rs))
unfolding operands_of function_lowers
operands_refer TextLength rs h are = absurd (cc)
operands_refer _ rs h are = values_refer rs are

intrinsic_reads : (x : Bytes) (a : Attribute) (rs : List Read) (f : Option Function) → function_lowers f ≡ true → AllRead rs → Reads (intrinsic_read x a rs f)
unfolding intrinsic_read RefersToFunctions valued_only
intrinsic_reads x a rs None h are = function_reads x a rs are
intrinsic_reads x a rs (Some f) h are = record { value = operands_refer f rs h are; actual = operands_refer f rs h are }

applied_reads : (x : Bytes) (a : Attribute) (rs : List Read) (c : Class) → applied_lowers x c ≡ true → AllRead rs → Reads (applied_read x (record a { class = c }) rs)
unfolding applied_read applied_lowers placed RefersToFunctions
applied_reads x a rs class.Intrinsic h are = intrinsic_reads x (record a { class = class.Intrinsic }) rs (function_named x) h are
applied_reads x a rs class.StatementFunction h are = absurd (cc)
applied_reads x a rs class.Procedure h are = function_reads x (record a { class = class.Procedure }) rs are
applied_reads x a rs class.DummyProcedure h are = function_reads x (record a { class = class.DummyProcedure }) rs are
applied_reads x a rs class.Result h are = function_reads x (record a { class = class.Result }) rs are
applied_reads x a rs class.Constant h are = record { value = values_refer rs are; actual = values_refer rs are }
applied_reads x a rs class.Stored h are = record { value = values_refer rs are; actual = values_refer rs are }
applied_reads x a rs class.Dummy h are = record { value = values_refer rs are; actual = values_refer rs are }
applied_reads x a rs class.Unit h are = record { value = values_refer rs are; actual = values_refer rs are }

binary_reads : (o : BinaryOp) (r s : Read) → operator_lowers o ≡ true → Reads r → Reads s → Reads (binary_read o r s)
unfolding binary_read valued_only RefersToFunctions ReferToFunctions operator_lowers
binary_reads op.Power r s h one other = record { value = (one.value, (other.value, tt)); actual = (one.value, (other.value, tt)) }
binary_reads op.Concatenate r s h one other = absurd (cc)
binary_reads op.Times r s h one other = record { value = (one.value, other.value); actual = (one.value, other.value) }
binary_reads op.Divide r s h one other = record { value = (one.value, other.value); actual = (one.value, other.value) }
binary_reads op.Plus r s h one other = record { value = (one.value, other.value); actual = (one.value, other.value) }
binary_reads op.Minus r s h one other = record { value = (one.value, other.value); actual = (one.value, other.value) }
binary_reads op.Less r s h one other = record { value = (one.value, other.value); actual = (one.value, other.value) }
binary_reads op.LessOrEqual r s h one other = record { value = (one.value, other.value); actual = (one.value, other.value) }
binary_reads op.Equal r s h one other = record { value = (one.value, other.value); actual = (one.value, other.value) }
binary_reads op.NotEqual r s h one other = record { value = (one.value, other.value); actual = (one.value, other.value) }
binary_reads op.Greater r s h one other = record { value = (one.value, other.value); actual = (one.value, other.value) }
binary_reads op.GreaterOrEqual r s h one other = record { value = (one.value, other.value); actual = (one.value, other.value) }
binary_reads op.And r s h one other = record { value = (one.value, other.value); actual = (one.value, other.value) }
binary_reads op.Or r s h one other = record { value = (one.value, other.value); actual = (one.value, other.value) }
binary_reads op.Equivalent r s h one other = record { value = (one.value, other.value); actual = (one.value, other.value) }
binary_reads op.NotEquivalent r s h one other = record { value = (one.value, other.value); actual = (one.value, other.value) }

module _ (names : Naming) (table : NameFacts) (told : AreFactsOf names table) where
  same_class : (x : Bytes) → (fact_in table x).class ≡ (names x).class
  same_class x = (told.facts x).class

  -- EXPRESSIONS
  mutual
    unfolding fold_expr fold_exprs layer_read layer_lowers all_lower valued_only RefersToFunctions

    tree_reads : (e : Expr) → fold_expr (layer_lowers table) e ≡ true → Reads (fold_expr (layer_read names) e)
    tree_reads (Int z) h = record { value = tt; actual = tt }
    tree_reads (Logical b) h = record { value = tt; actual = tt }
    tree_reads (Text cs) h = record { value = tt; actual = tt }
    tree_reads (Name x) h = name_reads x (names x) (names x).class (names x).constant (ap name_lowers (sym (same_class x)) ∙ h)
    tree_reads (Apply' x s row) h =
        let both = both_of (applied_lowers x (fact_in table x).class) (all_lower (fold_exprs (layer_lowers table) row)) h in
        applied_reads x (names x) (fold_exprs (layer_read names) row) (names x).class (ap (applied_lowers x) (sym (same_class x)) ∙ both.0) (row_reads row both.1)
    tree_reads (Part' s (more_of-Expr e r) from to) h = absurd (cc)
    tree_reads (Minus' s (more_of-Expr e r)) h = let is = tree_reads e h in record { value = is.value; actual = is.value }
    tree_reads (Plus' s (more_of-Expr e r)) h = let is = tree_reads e h in record { value = is.value; actual = is.value }
    tree_reads (Not' s (more_of-Expr e r)) h = let is = tree_reads e h in record { value = is.value; actual = is.value }
    tree_reads (Paren' s (more_of-Expr e r)) h = let is = tree_reads e h in record { value = is.value; actual = is.value }
    tree_reads (Binary' o s (more_of-Expr a r) t (more_of-Expr b q)) h =
        let parts = both_of (operator_lowers o) (fold_expr (layer_lowers table) a && fold_expr (layer_lowers table) b) h in
        let both = both_of (fold_expr (layer_lowers table) a) (fold_expr (layer_lowers table) b) parts.1 in
        binary_reads o (fold_expr (layer_read names) a) (fold_expr (layer_read names) b) parts.0 (tree_reads a both.0) (tree_reads b both.1)
    tree_reads (AltReturn l) h = record { value = tt; actual = tt }
    tree_reads (Bind' s row t (more_of-Expr e q)) h = absurd (cc)
    tree_reads (Bound k) h = absurd (cc)

    row_reads : {m : _} (row : Row_of-Expr m) → all_lower (fold_exprs (layer_lowers table) row) ≡ true → AllRead (fold_exprs (layer_read names) row)
    row_reads end_of-Expr h = tt
    row_reads (more_of-Expr e row) h =
        let both = both_of (fold_expr (layer_lowers table) e) (all_lower (fold_exprs (layer_lowers table) row)) h in
        (tree_reads e both.0, row_reads row both.1)

  reads : (e : Expr) → is_lowered_value table e ≡ true → Reads (read names e)
  unfolding is_lowered_value read
  reads e h = tree_reads e h

  value_refers : (e : Expr) → is_lowered_value table e ≡ true → RefersToFunctions (value_of names e)
  unfolding value_of
  value_refers e h = (reads e h).value

  place_refers : (e : Expr) → is_lowered_value table e ≡ true → RefersToFunctions (place_of names e)
  unfolding place_of
  place_refers e h = (reads e h).actual

  arguments_refer : (es : List Expr) → call_lowers table es ≡ true → ReferToFunctions (terms (arguments_of names es))
  unfolding call_lowers all_lower arguments_of terms ReferToFunctions
  arguments_refer [] h = tt
  arguments_refer (e ∷ es) h =
      let both = both_of (is_lowered_value table e) (all_lower (map (is_lowered_value table) es)) h in
      (place_refers e both.0, arguments_refer es both.1)

  step_refers : (e : Option Expr) → optional_lowers table e ≡ true → RefersToFunctions (step_of names e)
  unfolding optional_lowers step_of RefersToFunctions
  step_refers None h = tt
  step_refers (Some e) h = value_refers e h

  control_refers : (control : LoopControl) → control_lowers table control ≡ true → ReferToFunctions (control_of names control)
  unfolding control_lowers control_of RefersToFunctions ReferToFunctions
  control_refers control h =
      let first = both_of (is_lowered_value table control.first) (is_lowered_value table control.limit && optional_lowers table control.step) h in
      let later = both_of (is_lowered_value table control.limit) (optional_lowers table control.step) first.1 in
      (tt, (value_refers control.first first.0, (value_refers control.limit later.0, (step_refers control.step later.1, tt))))

  -- LISTS AND CONTROL WORDS
  either_refers : (b : Bool) (t u : Term) → RefersToFunctions t → RefersToFunctions u → RefersToFunctions (if b then t else u)
  either_refers true t u one other = one
  either_refers false t u one other = other

  array_refers : (t : Term) (x : Option Bytes) → RefersToFunctions t → RefersToFunctions (array_or t names x)
  unfolding array_or RefersToFunctions
  array_refers t None only = only
  array_refers t (Some x) only = either_refers (is_array (names x)) (All x) t tt only

  placed_refers : (r : Read) (x : Option Bytes) → Reads r → RefersToFunctions (if_placed r x)
  unfolding if_placed RefersToFunctions
  placed_refers r None is = is.value
  placed_refers r (Some x) is = is.actual

  settled_refers : (r : Read) → Reads r → RefersToFunctions (settled names r)
  unfolding settled
  settled_refers r is = array_refers (if_placed r r.base) r.named (placed_refers r r.base is)

  item_refers : (way : Direction) (layout : Layout) (e : Expr) → is_lowered_value table e ≡ true → RefersToFunctions (item_of way layout names e)
  unfolding item_of RefersToFunctions
  item_refers Input layout e h = array_refers (Alone (place_of names e)) (read names e).named (place_refers e h)
  item_refers Output Listed e h = array_refers (value_of names e) (read names e).named (value_refers e h)
  item_refers Output _ e h = settled_refers (read names e) (reads e h)

  items_refer : (way : Direction) (layout : Layout) (items : List ListItem) → items_lower table items ≡ true → ItemsReferToFunctions (jobs_of way layout names items)
  unfolding items_lower item_lowers layer_item all_lower fold_item jobs_of job_of layer_job ItemsReferToFunctions
  items_refer way layout [] h = tt
  items_refer way layout (Item e ∷ items) h =
      let both = both_of (is_lowered_value table e) (all_lower (map (item_lowers table) items)) h in
      (item_refers way layout e both.0, items_refer way layout items both.1)
  items_refer way layout (Loop' s row control ∷ items) h = absurd (cc)

  operand_refers : (w : Word) (t : Term) (more : Written) → RefersToFunctions t → ReferToFunctions (terms more.operands) → ReferToFunctions (terms (with_operand w t more).operands)
  unfolding with_operand terms ReferToFunctions
  operand_refers w t more one later = (one, later)

  word_refers : (way : Direction) (w : ControlWord) (v : ControlValue) (more : Written) → value_lowers table v ≡ true → ReferToFunctions (terms more.operands)
      → ReferToFunctions (terms (control_written way names w v more).operands)
  unfolding control_written with_operand value_lowers terms RefersToFunctions ReferToFunctions
  word_refers way word.Unit value.Star more h later = (tt, later)
  word_refers way word.Unit (value.Label l) more h later = later
  word_refers way word.Unit (value.Value e) more h later =
      (either_refers (is_text names (read names e).base) (settled names (read names e)) (value_of names e) (settled_refers (read names e) (reads e h)) (value_refers e h), later)
  word_refers way word.Format value.Star more h later = later
  word_refers way word.Format (value.Label l) more h later = later
  word_refers way word.Format (value.Value e) more h later = (settled_refers (read names e) (reads e h), later)
  word_refers way word.Status value.Star more h later = later
  word_refers way word.Status (value.Label l) more h later = later
  word_refers way word.Status (value.Value e) more h later = (place_refers e h, later)
  word_refers way word.OnError value.Star more h later = later
  word_refers way word.OnError (value.Label l) more h later = later
  word_refers way word.OnError (value.Value e) more h later = later
  word_refers way word.OnEnd value.Star more h later = later
  word_refers way word.OnEnd (value.Label l) more h later = later
  word_refers way word.OnEnd (value.Value e) more h later = later
  word_refers way word.File value.Star more h later = later
  word_refers way word.File (value.Label l) more h later = later
  word_refers way word.File (value.Value e) more h later = (settled_refers (read names e) (reads e h), later)
  word_refers way word.FileStatus value.Star more h later = later
  word_refers way word.FileStatus (value.Label l) more h later = later
  word_refers way word.FileStatus (value.Value e) more h later = (value_refers e h, later)
  word_refers way word.Access value.Star more h later = later
  word_refers way word.Access (value.Label l) more h later = later
  word_refers way word.Access (value.Value e) more h later = (value_refers e h, later)
  word_refers way word.Form value.Star more h later = later
  word_refers way word.Form (value.Label l) more h later = later
  word_refers way word.Form (value.Value e) more h later = (value_refers e h, later)
  word_refers way word.Blank value.Star more h later = later
  word_refers way word.Blank (value.Label l) more h later = later
  word_refers way word.Blank (value.Value e) more h later = (value_refers e h, later)

  words_refer : (way : Direction) (cs : List Control) → controls_lower table cs ≡ true → ReferToFunctions (terms (controls_written way names cs).operands)
  unfolding controls_lower all_lower controls_written nothing_written terms ReferToFunctions
  words_refer way [] h = tt
  words_refer way (c ∷ cs) h =
      let both = both_of (value_lowers table c.value) (all_lower (map (λ (d : Control). value_lowers table d.value) cs)) h in
      word_refers way c.word c.value (controls_written way names cs) both.0 (words_refer way cs both.1)

  -- STATEMENTS
  if_both : (b : Bool) (x y : Form) → FormRefersToFunctions x → FormRefersToFunctions y → FormRefersToFunctions (if b then x else y)
  if_both true x y one other = one
  if_both false x y one other = other

  set_refers : (target e : Read) → Reads target → Reads e → FormRefersToFunctions (assignment names target e)
  unfolding assignment text_assignment value_assignment FormRefersToFunctions HeadRefersToFunctions ReferToFunctions
  set_refers target e one other =
      if_both (is_text names target.base) (text_assignment target e) (value_assignment target e)
      (if_both (refers target.actual) (value_assignment target e) _ (other.value, (one.actual, tt)) tt) (other.value, (one.actual, tt))

  same_function : (x : Option Bytes) → names_function table x ≡ is_statement_function names x
  unfolding names_function is_statement_function is_function_class
  same_function None = refl
  same_function (Some x) = ap is_function_class (same_class x)

  assigned_refers : (function : Bool) (target e : Expr) → (function || assigned_lowers table target e) ≡ true → FormRefersToFunctions (if function then Passes else assignment names (read names target) (read names e))
  unfolding assigned_lowers both_lower FormRefersToFunctions
  assigned_refers true target e h = tt
  assigned_refers false target e h =
      let first = both_of (not (stated.is_text_target table target)) (is_lowered_value table e && is_lowered_value table target) h in
      let both = both_of (is_lowered_value table e) (is_lowered_value table target) first.1 in
      set_refers (read names target) (read names e) (reads target both.1) (reads e both.0)

  assign_refers : (target e : Expr) → assignment_lowers table target e ≡ true → FormRefersToFunctions (assign_form names target e)
  unfolding assignment_lowers is_definition assign_form
  assign_refers target e h =
      assigned_refers (is_statement_function names (heading_of target).applied) target e (ap (λ b. b || assigned_lowers table target e) (sym (same_function (heading_of target).applied)) ∙ h)

  return_refers : (e : Option Expr) → optional_lowers table e ≡ true → FormRefersToFunctions (return_form names e)
  unfolding optional_lowers return_form FormRefersToFunctions HeadRefersToFunctions ReferToFunctions
  return_refers None h = tt
  return_refers (Some e) h = (value_refers e h, tt)

  transfer_refers : (way : Direction) (items : List ListItem) (w : Written) → ReferToFunctions (terms w.operands) → items_lower table items ≡ true → FormRefersToFunctions (transfer_form way names items w)
  unfolding transfer_form FormRefersToFunctions HeadRefersToFunctions
  transfer_refers way items w words h = (words, items_refer way (layout_written w.layout) items h)

  form_refers : (b : Body) → is_lowered_statement table b ≡ true → FormRefersToFunctions (form_of names b)
  unfolding is_lowered_statement stated.layer_lowers transfer_lowers fold_body form_of layer_form auxiliary_form FormRefersToFunctions HeadRefersToFunctions RefersToFunctions ReferToFunctions
  form_refers (whole.Assign target e) h = assign_refers target e h
  form_refers (whole.GotoList labels e) h = (value_refers e h, tt)
  form_refers (whole.IfSign e below at above) h = (value_refers e h, tt)
  form_refers (IfOne' e s (more_of-Body b r)) h =
      let both = both_of (is_lowered_statement table b) (is_lowered_value table e) h in
      ((value_refers e both.1, tt), form_refers b both.0)
  form_refers (whole.IfThen e) h = (value_refers e h, tt)
  form_refers (whole.ElseIf e) h = (value_refers e h, tt)
  form_refers (whole.Do label control) h = control_refers control h
  form_refers (whole.DoWhile label e) h = (value_refers e h, tt)
  form_refers (whole.Call x es) h = arguments_refer es h
  form_refers (whole.Return e) h = return_refers e h
  form_refers (whole.Transfer way controls items) h =
      let both = both_of (controls_lower table controls) (items_lower table items) h in
      transfer_refers _ items (controls_written _ names controls) (words_refer _ controls both.0) both.1
  form_refers (whole.Auxiliary which controls) h = words_refer Output controls h
  form_refers (whole.AssignLabel label x) h = (tt, tt)
  form_refers (whole.GotoName x labels) h = (tt, tt)
  form_refers b h = tt

  -- LINES
  lines_refer : (labels : List ℕ) (ss : List Stmt) → statements_lower table ss ≡ true → LinesReferToFunctions (map (line_of names labels) ss)
  unfolding statements_lower line_of
  lines_refer labels [] h = tt
  lines_refer labels (s ∷ ss) h =
      let both = both_of (is_lowered_statement table s.body) (statements_lower table ss) h in
      (form_refers s.body both.0, lines_refer labels ss both.1)

-- the calls of a unit whose statements are lowered are well
pub calls_are_well : (p : ProgramUnit) (once : Bool) (names : Naming) (table : NameFacts) (ss : List Stmt) (steps : List Step) → IsReadAs p once names ss → AreFactsOf names table → statements_lower table ss ≡ true
    → lines_code p 0 p.lines ≡ Some steps → calls_well steps ≡ true
calls_are_well p once names table ss steps read told lowers is =
    called_well p steps (subst LinesReferToFunctions (sym read.lines) (lines_refer names table told (from_all loop_label_in ss) ss lowers)) is
