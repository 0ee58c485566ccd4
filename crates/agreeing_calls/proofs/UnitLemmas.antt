-- The statements of a unit that breaks no row, none of whose calls is found to disagree, agree with the procedures of the set.
use Rattle.std.specs.Prelude.{◌≡◌, ℕ, zero, suc, ◌+◌, nat_eq, replicate, Bool, true, false, not, ◌||◌, List, [], ◌∷◌, ◌++◌, map, length, bytes_eq, Option, Some, None, slice_get, if◌then◌else◌}
use Rattle.std.proofs.Common.{refl, sym, ap, ◌∙◌, subst, arith}
use Rattle.std.proofs.lemmas.Bool.{eqb-true}
use Rattle.std.proofs.lemmas.Slice.Eq.{bytes_eq-Decides}
use Rattle.call_shapes.specs.f_tree.declared.names.Basic.TheVariants.{Integer}
use Rattle.call_shapes.specs.f_tree.declared.names.Class.{Class}
use Rattle.call_shapes.specs.f_tree.declared.names.Class.TheVariants as class
use Rattle.call_shapes.specs.f_tree.declared.refusals.Kind.{Kind}
use Rattle.call_shapes.specs.f_tree.declared.refusals.Kind.TheVariants.{BadStatementFunction, NumberOfSubscripts}
use Rattle.call_shapes.specs.f_tree.declared.expressions.Expr.{Expr, Apply', Part', Minus', Plus', Not', Paren', Binary', Bind', Row_of-Expr, end_of-Expr, more_of-Expr}
use Rattle.call_shapes.specs.f_tree.declared.statements.Body as whole
use Rattle.call_shapes.specs.f_tree.declared.statements.Body.{Body, more_of-Body, IfOne'}
use Rattle.call_shapes.specs.f_tree.declared.statements.Dimension.{Dimension as WrittenDimension}
use Rattle.call_shapes.specs.f_tree.declared.statements.Stmt.{Stmt}
use Rattle.call_shapes.specs.f_tree.declared.units.Unit.{Unit as WrittenUnit}
use Rattle.call_shapes.specs.f_tree.Folds.{fold_expr, fold_exprs, fold_body, layer_of}
use Rattle.call_shapes.specs.f_tree.Values.{Bytes}
use Rattle.call_shapes.specs.f_tree.Terms.{Function}
use Rattle.call_shapes.specs.f_tree.Facts.{Attribute, Passes, Form, Line, ProgramUnit, Facts}
use Rattle.call_shapes.specs.f_tree.Reading.{function_named}
use Rattle.call_shapes.specs.f_tree.Uses.{Heading, is_among, no_heading, alone_in, layer_heading, heading_of, defines_function}
use Rattle.call_shapes.specs.f_tree.Attributes.{from_all, bare, Shaped, shaped_in, dimensions_among, array_names, arrays_of, with_dimensions, without_expansion, with_expansions, dummy_among, definition_by, definitions_in}
use Rattle.call_shapes.specs.f_tree.Lines.{loop_label_in, is_statement_function, assign_form, layer_form, form_of, line_of}
use Rattle.call_shapes.specs.declaration_rows.Judgement.{Judged, Known, a_value, a_place, no_operand, wants_one, all_faults, all_wanted, unless, intrinsic_judged, reference_judged, element_judged, applied_judged, layer_judged, judge}
use Rattle.call_shapes.specs.declaration_rows.Fits.{Agrees as NamesAgree}
use Rattle.call_shapes.specs.declaration_rows.StatementRows.{settable, typed_as, assigned_rows, breaks, assign_broken, layer_broken, broken}
use Rattle.call_shapes.specs.declaration_rows.NameRows.{given_names, own_attributes, known_in, dummy_or, unless_dummy, known_within, defined_rows}
use Rattle.call_shapes.specs.declaration_rows.ReferenceRows.{known_for}
use Rattle.call_shapes.specs.declaration_rows.UnitRows.{site_at, statements_rows}
use Rattle.call_shapes.specs.declared.shapes.NamedShape.{NamedShape}
use Rattle.call_shapes.specs.CallsMade.{calls_known, calls_of_statement}
use Rattle.agreeing_runs.specs.AgreeingForms.{FormAgrees}
use Rattle.declaration_laws.proofs.ExpressionFits.{none_of_both, unless_holds}
use Rattle.declaration_laws.proofs.NameFits.{IsNamed, a_name, no_name, each_named, IsFaultless}
use Rattle.declaration_laws.proofs.DefinitionFits.{agrees_in}
use Rattle.declaration_laws.proofs.UnitFits.{IsTheStatement, the_statement, each_statement}
use Rattle.declaration_laws.proofs.SetFits.{IsReadFrom}
use Rattle.agreeing_calls.proofs.TreeLemmas.{AllClear, EachClearAgrees, NamesSuit}
use Rattle.agreeing_calls.proofs.DefinitionLemmas.{StatementsClear, names_in}
use Rattle.agreeing_calls.proofs.StatementLemmas.{body_agrees}

-- ARRAYS. What is among no arrays has no dimensions
neither_of : (a b : Bool) → (a || b) ≡ false → (a ≡ false) × (b ≡ false)
neither_of true b none = absurd (cc)
neither_of false b none = (refl, none)

turned_apart : (x y : Bytes) (b : Bool) → bytes_eq y x ≡ b → bytes_eq x y ≡ false → b ≡ false
turned_apart x y false is apart = refl
turned_apart x y true is apart =
    absurd (let same : y ≡ x = (bytes_eq-Decides y x).0 is in
    let bad : true ≡ false = sym ((bytes_eq-Decides x y).1 (sym same)) ∙ apart in cc)

shaped_if : (x y : Bytes) (first : WrittenDimension) (rest : List WrittenDimension) (ds : List Shaped) (b : Bool) → b ≡ false → dimensions_among x ds ≡ [] →
    (if b then first ∷ rest else dimensions_among x ds) ≡ []
shaped_if x y first rest ds true is none = absurd (cc)
shaped_if x y first rest ds false is none = none

shaped_apart : (x y : Bytes) (shape : List WrittenDimension) (ds : List Shaped) →
    is_among x (array_names (record { name = y; dimensions = shape } ∷ ds)) ≡ false → (is_among x (array_names ds) ≡ false → dimensions_among x ds ≡ []) →
    dimensions_among x (record { name = y; dimensions = shape } ∷ ds) ≡ []
unfolding dimensions_among array_names is_among
shaped_apart x y [] ds none later = later none
shaped_apart x y (first ∷ rest) ds none later =
    let h = neither_of (bytes_eq x y) (is_among x (array_names ds)) none in
    shaped_if x y first rest ds (bytes_eq y x) (turned_apart x y (bytes_eq y x) refl h.0) (later h.1)

no_dimensions : (x : Bytes) (ds : List Shaped) → is_among x (array_names ds) ≡ false → dimensions_among x ds ≡ []
unfolding dimensions_among array_names is_among
no_dimensions x [] none = refl
no_dimensions x (d ∷ ds) none = shaped_apart x d.name d.dimensions ds none (λ later. no_dimensions x ds later)

flat_by_name : (u : WrittenUnit) (x : Bytes) → IsNamed u x → is_among x (arrays_of u) ≡ false → (given_names u x).dimensions ≡ []
unfolding with_expansions own_attributes without_expansion with_dimensions arrays_of bare
flat_by_name u x (a_name among is) none =
    ap (λ a. a.dimensions) is ∙ ap (map _) (no_dimensions x (from_all shaped_in u.statements) none)
flat_by_name u x (no_name is) none = ap (λ a. a.dimensions) is

intrinsic_apart : (o : Option Function) (js : List Judged) → (intrinsic_judged o js).faults ≡ [] → settable (intrinsic_judged o js).what ≡ [] → ⊥
unfolding intrinsic_judged no_operand a_value settable
intrinsic_apart None js none set = absurd (let bad = none in cc)
intrinsic_apart (Some f) js none set = absurd (let bad = set in cc)

element_apart : (a : Attribute) (j : Judged) (js : List Judged) → a.dimensions ≡ [] → (element_judged a (j ∷ js)).faults ≡ [] → ⊥
unfolding element_judged a_place unless
element_apart a j js flat none =
    let wanted : List Kind = all_wanted (replicate (length (j ∷ js)) Integer) (j ∷ js) in
    let last : List Kind = unless (nat_eq (length (j ∷ js)) (length a.dimensions)) NumberOfSubscripts in
    let h = none_of_both (all_faults (j ∷ js)) (wanted ++ last) none in
    let k : last ≡ [] = (none_of_both wanted last h.1).1 in
    let counted : suc (length js) ≡ length a.dimensions =
    eqb-true (suc (length js)) (length a.dimensions) (unless_holds (nat_eq (suc (length js)) (length a.dimensions)) NumberOfSubscripts k) in
    let none_there : length a.dimensions ≡ 0 = ap length flat in
    absurd (omega (arith, counted, none_there))

-- TARGETS WITH A LIST that is no list of subscripts: of no class may they be set
target_apart : (known : Known) (k : Class) (x : Bytes) (a : Attribute) (j : Judged) (js : List Judged) → (k ≡ class.StatementFunction → ⊥) → a.dimensions ≡ [] →
    (applied_judged known x (record a { class = k }) (j ∷ js)).faults ≡ [] → settable (applied_judged known x (record a { class = k }) (j ∷ js)).what ≡ [] → ⊥
unfolding applied_judged no_operand a_value reference_judged settable
target_apart known class.Constant x a j js other flat none set = absurd (cc)
target_apart known class.Unit x a j js other flat none set = absurd (cc)
target_apart known class.Procedure x a j js other flat none set = absurd (cc)
target_apart known class.DummyProcedure x a j js other flat none set = absurd (cc)
target_apart known class.Result x a j js other flat none set = absurd (cc)
target_apart known class.StatementFunction x a j js other flat none set = other refl
target_apart known class.Intrinsic x a j js other flat none set = intrinsic_apart (function_named x) (j ∷ js) none set
target_apart known class.Stored x a j js other flat none set = element_apart (record a { class = class.Stored }) j js flat none
target_apart known class.Dummy x a j js other flat none set = element_apart (record a { class = class.Dummy }) j js flat none

-- a list with its headings, which is empty or not
data RowShape (hs : List Heading) (js : List Judged) : Type 0 where
  empty_row : hs ≡ [] → RowShape hs js
  some_row : (j : Judged) (more : List Judged) → js ≡ j ∷ more → RowShape hs js

row_shape : (known : Known) {m : _} (row : Row_of-Expr m) → RowShape (fold_exprs layer_heading row) (fold_exprs (layer_judged known) row)
unfolding fold_exprs
row_shape known end_of-Expr = empty_row refl
row_shape known (more_of-Expr e row) = some_row (fold_expr (layer_judged known) e) (fold_exprs (layer_judged known) row) refl

-- a test of what a name is
function_class : (a : Attribute) → a.class ≡ class.StatementFunction → (elim a.class [ class.StatementFunction ↦ true | _ ↦ false ]) ≡ true
function_class a is = ap (λ k. elim k [ class.StatementFunction ↦ true | _ ↦ false ]) is

-- STATEMENTS
module _ (S : List ProgramUnit) (procedures lines : List NamedShape) (c : Facts) (clear_agrees : EachClearAgrees S procedures lines c) (n : ℕ) (u : WrittenUnit) (i : ℕ)
    (agrees : NamesAgree c n [] (known_in u)) (suit : NamesSuit S c n [] (known_in u)) where
  plain_agrees : (b : Body) → AllClear procedures lines (calls_known (known_in u) b) → (broken (site_at u c.program i) b).rows ≡ [] →
      FormAgrees S c n (form_of (known_in u).attribute b)
  unfolding calls_known site_at
  plain_agrees b clear none = body_agrees S procedures lines c clear_agrees n (site_at u c.program i) agrees suit b clear none

  -- the definition of a statement function takes no step, or its target breaks a row
  assigned_if : (x : Bytes) (target e : Expr) (j : Judged) (js : List Judged) (form : Form) (b : Bool) → is_statement_function (known_in u).attribute (Some x) ≡ b →
      judge (known_in u) target ≡ applied_judged (known_in u) x (given_names u x) (j ∷ js) → (given_names u x).dimensions ≡ [] →
      (if b then record { rows = []; guarded = BadStatementFunction ∷ [] } else breaks (assigned_rows (judge (known_in u) target) (judge (known_in u) e))).rows ≡ [] →
      FormAgrees S c n (if b then Passes else form)
  unfolding breaks assigned_rows FormAgrees is_statement_function known_in
  assigned_if x target e j js form true is judged flat none = tt
  assigned_if x target e j js form false is judged flat none =
      let t : Judged = judge (known_in u) target in
      let h = none_of_both t.faults (settable t.what ++ ((judge (known_in u) e).faults ++ (wants_one (judge (known_in u) e).what ++ typed_as t.what (judge (known_in u) e).basic t.basic))) none in
      let k = none_of_both (settable t.what) ((judge (known_in u) e).faults ++ (wants_one (judge (known_in u) e).what ++ typed_as t.what (judge (known_in u) e).basic t.basic)) h.1 in
      absurd (target_apart (known_in u) (given_names u x).class x (given_names u x) j js
      (λ of. absurd (let bad : true ≡ false = sym (function_class (given_names u x) of) ∙ is in cc)) flat
      (subst (λ z. z.faults ≡ []) judged h.0) (subst (λ z. settable z.what ≡ []) judged k.0))

  listed_agrees : (x : Bytes) (target e : Expr) (j : Judged) (js : List Judged) → (heading_of target).applied ≡ Some x →
      judge (known_in u) target ≡ applied_judged (known_in u) x (given_names u x) (j ∷ js) → is_among x (arrays_of u) ≡ false →
      (broken (site_at u c.program i) (whole.Assign target e)).rows ≡ [] → FormAgrees S c n (form_of (known_in u).attribute (whole.Assign target e))
  unfolding broken layer_broken assign_broken form_of layer_form assign_form fold_body site_at
  listed_agrees x target e j js applied judged is none =
      assigned_if x target e j js _ (is_statement_function (known_in u).attribute (heading_of target).applied)
      (sym (ap (is_statement_function (known_in u).attribute) applied)) judged (flat_by_name u x (each_named u x) is) none

  -- a name with an empty list has no dummy arguments
  empty_agrees : (x : Bytes) (target e : Expr) → AllClear procedures lines (calls_known (known_for u (record { name = x; dummies = []; body = e } ∷ [])) (whole.Assign target e)) →
      (broken (site_at u c.program i) (whole.Assign target e)).rows ≡ [] → FormAgrees S c n (form_of (known_in u).attribute (whole.Assign target e))
  unfolding known_for known_within known_in dummy_or unless_dummy dummy_among
  empty_agrees x target e clear none = plain_agrees (whole.Assign target e) clear none

  -- an assignment to a name with a list, which is that of an array or not
  applied_agrees : (x : Bytes) (target e : Expr) (hs : List Heading) (js : List Judged) (b : Bool) → (heading_of target).applied ≡ Some x →
      judge (known_in u) target ≡ applied_judged (known_in u) x (given_names u x) js → RowShape hs js → is_among x (arrays_of u) ≡ b →
      AllClear procedures lines (calls_known (known_for u (if not b then record { name = x; dummies = alone_in hs; body = e } ∷ [] else [])) (whole.Assign target e)) →
      (broken (site_at u c.program i) (whole.Assign target e)).rows ≡ [] → FormAgrees S c n (form_of (known_in u).attribute (whole.Assign target e))
  unfolding known_for alone_in
  applied_agrees x target e hs js true applied judged shape is clear none = plain_agrees (whole.Assign target e) clear none
  applied_agrees x target e hs js false applied judged (empty_row none_there) is clear none =
      empty_agrees x target e
      (subst (λ ys. AllClear procedures lines (calls_known (known_for u (record { name = x; dummies = alone_in ys; body = e } ∷ [])) (whole.Assign target e))) none_there clear) none
  applied_agrees x target e hs js false applied judged (some_row j more some) is clear none =
      listed_agrees x target e j more applied (judged ∙ ap (applied_judged (known_in u) x (given_names u x)) some) is none

  assign_agrees : (target e : Expr) → AllClear procedures lines (calls_of_statement u (whole.Assign target e)) →
      (broken (site_at u c.program i) (whole.Assign target e)).rows ≡ [] → FormAgrees S c n (form_of (known_in u).attribute (whole.Assign target e))
  unfolding calls_of_statement definitions_in layer_of defines_function definition_by heading_of layer_heading no_heading fold_expr judge layer_judged known_for known_in
  assign_agrees (Apply' x s row) e clear none =
      applied_agrees x (Apply' x s row) e (fold_exprs layer_heading row) (fold_exprs (layer_judged (known_in u)) row) (is_among x (arrays_of u)) refl refl
      (row_shape (known_in u) row) refl clear none
  assign_agrees (Part' s (more_of-Expr a r) from to) e clear none = plain_agrees (whole.Assign (Part' s (more_of-Expr a r) from to) e) clear none
  assign_agrees (Minus' s (more_of-Expr a r)) e clear none = plain_agrees (whole.Assign (Minus' s (more_of-Expr a r)) e) clear none
  assign_agrees (Plus' s (more_of-Expr a r)) e clear none = plain_agrees (whole.Assign (Plus' s (more_of-Expr a r)) e) clear none
  assign_agrees (Not' s (more_of-Expr a r)) e clear none = plain_agrees (whole.Assign (Not' s (more_of-Expr a r)) e) clear none
  assign_agrees (Paren' s (more_of-Expr a r)) e clear none = plain_agrees (whole.Assign (Paren' s (more_of-Expr a r)) e) clear none
  assign_agrees (Binary' o s (more_of-Expr a r) t (more_of-Expr b q)) e clear none =
      plain_agrees (whole.Assign (Binary' o s (more_of-Expr a r) t (more_of-Expr b q)) e) clear none
  assign_agrees (Bind' s row t (more_of-Expr a r)) e clear none = plain_agrees (whole.Assign (Bind' s row t (more_of-Expr a r)) e) clear none
  assign_agrees target e clear none = plain_agrees (whole.Assign target e) clear none

  statement_agrees : (b : Body) → AllClear procedures lines (calls_of_statement u b) → (broken (site_at u c.program i) b).rows ≡ [] →
      FormAgrees S c n (form_of (known_in u).attribute b)
  unfolding calls_of_statement definitions_in layer_of known_for
  statement_agrees (whole.Assign target e) clear none = assign_agrees target e clear none
  statement_agrees (IfOne' e s (more_of-Body b r)) clear none = plain_agrees (IfOne' e s (more_of-Body b r)) clear none
  statement_agrees b clear none = plain_agrees b clear none

-- the calls of the statement at a place
clear_at : (procedures lines : List NamedShape) (u : WrittenUnit) (ss : List Stmt) (i : ℕ) (s : Stmt) → StatementsClear procedures lines u ss → slice_get ss i ≡ Some s →
    AllClear procedures lines (calls_of_statement u s.body)
unfolding StatementsClear
clear_at procedures lines u [] i s clear is = absurd (cc)
clear_at procedures lines u (t ∷ ss) zero s clear is =
    let same : t ≡ s = cc in subst (λ z. AllClear procedures lines (calls_of_statement u z.body)) same clear.0
clear_at procedures lines u (t ∷ ss) (suc i) s clear is = clear_at procedures lines u ss i s clear.1 is

-- THE WHOLE UNIT
module _ (S : List ProgramUnit) (procedures lines : List NamedShape) (c : Facts) (clear_agrees : EachClearAgrees S procedures lines c) (n : ℕ) (u : WrittenUnit)
    (reads : IsReadFrom u c.program) (faultless : (x : Bytes) → IsFaultless u x (given_names u x)) where
  pub line_agrees : defined_rows (given_names u) (own_attributes u) (arrays_of u) [] [] u.statements ≡ [] → statements_rows u c.program 0 u.statements ≡ [] →
      StatementsClear procedures lines u u.statements → (i : ℕ) (line : Line) → slice_get c.program.lines i ≡ Some line → FormAgrees S c n line.form
  unfolding known_in line_of
  line_agrees defined none clear i line is =
      let labels : List ℕ = from_all loop_label_in u.statements in
      let t : IsTheStatement (given_names u) labels u.statements i line =
      the_statement (given_names u) labels u.statements i line (subst (λ ls. slice_get ls i ≡ Some line) reads.lines_are is) in
      let rows : (broken (site_at u c.program i) t.statement.body).rows ≡ [] =
      subst (λ k. (broken (site_at u c.program k) t.statement.body).rows ≡ []) (let q : 0 + i ≡ i = omega arith in q)
      (each_statement u c.program 0 u.statements none i t.statement t.there) in
      subst (λ f. FormAgrees S c n f) (sym (ap (λ l. l.form) t.is))
      (statement_agrees S procedures lines c clear_agrees n u i (agrees_in c n u reads.names_are faultless defined)
      (names_in S procedures lines c clear_agrees n u reads.names_are faultless clear defined) t.statement.body
      (clear_at procedures lines u u.statements i t.statement clear t.there) rows)
