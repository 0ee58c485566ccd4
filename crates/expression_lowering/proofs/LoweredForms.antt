-- What each form of an expression is lowered to.
use Rattle.std.specs.Prelude.{◌≡◌, ℕ, ℤ, Bool, true, false, ◌&&◌, ◌||◌, List, [], ◌∷◌, map, Option, Some, None, option_map}
use Rattle.std.proofs.Common.{refl, ap, sym, ◌∙◌}
use Rattle.f_tree.specs.declared.names.Class.{Class}
use Rattle.f_tree.specs.declared.names.Class.TheVariants as class
use Rattle.f_tree.specs.declared.expressions.BinaryOp.{BinaryOp}
use Rattle.f_tree.specs.declared.expressions.BinaryOp.TheVariants as op
use Rattle.f_tree.specs.declared.expressions.Expr.{Expr, Int, Logical, Text, Name, Apply', Part', Minus', Plus', Not', Paren', Binary', AltReturn, Bind', Bound, Row_of-Expr, end_of-Expr, more_of-Expr, None', Some', Held-Expr-Part-1}
use Rattle.f_tree.specs.declared.expressions.Expr as tree
use Rattle.f_tree.specs.declared.expressions.Expr.TheBlock as block
use Rattle.f_tree.specs.Folds.{fold_expr, fold_exprs, folds_opened}
use Rattle.f_tree.specs.Values.{Bytes, Datum, IsInt, IsLog, IsText, IsLabel}
use Rattle.f_tree.specs.Facts.{Attribute}
use Rattle.f_tree.specs.Terms.{Term, Terms, Operator, Negate, Complement, Between, Function, Power, TextLength, NoMore, More, terms, refers, any_refers, terms_opened}
use Rattle.f_tree.specs.Terms as term
use Rattle.f_tree.specs.Reading.{Read, read, valued_only, placed, width_or_zero, function_named, name_read, applied_read, intrinsic_read, function_read, binary_read, layer_read, reading_opened}
use Rattle.lowered_tree.specs.l_core.Pures as core
use Rattle.lowering.specs.Expressions as low
use Rattle.lowering.specs.Expressions.{expressions_opened}
use Rattle.name_facts.specs.declared.table.NameFacts.{NameFacts}
use Rattle.name_facts.specs.GivenFacts.{datum_of, fact_in}
use Rattle.expression_lowering.specs.declared.purpose.Aspect.{Aspect}
use Rattle.expression_lowering.specs.declared.purpose.Aspect.TheVariants.{Value, Actual}
use Rattle.expression_lowering.specs.Purposes.{aspect_term}
use Rattle.expression_lowering.specs.TableNames.{attribute_in, reading, function_lowers, applied_lowers, operator_lowers, is_lowered_value, table_names_opened}
use Rattle.expression_lowering.specs.LoweredForms.{lowered, lowered_list, has_reference, any_reference, takes_any_step, constant_pure, variable_form, name_form, function_form, reference_form, place_form, element_form, intrinsic_form, applied_form, prefixed_form, two_operands, power_form, operated_form, guarded_form, decided_form, between_form, form_of, is_form, binary_form, callee_of_fact}
use Rattle.expression_lowering.proofs.CoveredForms.{name-Apply, operator-Binary}
use Rattle.expression_lowering.proofs.ReferenceForms.{row-reading, operands-of, or-false}

pub lowered-Int : (table : NameFacts) (a : Aspect) (q : low.Purpose) (k : ℕ) (z : ℤ) → lowered table a q k (tree.Int z) ≡ low.plain (core.Constant (IsInt z)) k
unfolding folds_opened reading_opened expressions_opened reading aspect_term lowered
lowered-Int table Value q k z = refl
lowered-Int table Actual q k z = refl

pub lowered-Logical : (table : NameFacts) (a : Aspect) (q : low.Purpose) (k : ℕ) (b : Bool) → lowered table a q k (tree.Logical b) ≡ low.plain (core.Constant (IsLog b)) k
unfolding folds_opened reading_opened expressions_opened reading aspect_term lowered
lowered-Logical table Value q k b = refl
lowered-Logical table Actual q k b = refl

pub lowered-Text : (table : NameFacts) (a : Aspect) (q : low.Purpose) (k : ℕ) (cs : Bytes) → lowered table a q k (tree.Text cs) ≡ low.plain (core.Constant (IsText cs)) k
unfolding folds_opened reading_opened expressions_opened reading aspect_term lowered
lowered-Text table Value q k cs = refl
lowered-Text table Actual q k cs = refl

pub lowered-AltReturn : (table : NameFacts) (a : Aspect) (q : low.Purpose) (k label : ℕ) → lowered table a q k (tree.AltReturn label) ≡ low.plain (core.Constant (IsLabel label)) k
unfolding folds_opened reading_opened expressions_opened reading aspect_term lowered
lowered-AltReturn table Value q k label = refl
lowered-AltReturn table Actual q k label = refl

pub lowered-Plus : (table : NameFacts) (a : Aspect) (q : low.Purpose) (k : ℕ) (e : Expr) → lowered table a q k (tree.Plus e) ≡ lowered table Value q k e
unfolding folds_opened reading_opened expressions_opened reading aspect_term lowered
lowered-Plus table Value q k e = refl
lowered-Plus table Actual q k e = refl

pub lowered-Paren : (table : NameFacts) (a : Aspect) (q : low.Purpose) (k : ℕ) (e : Expr) → lowered table a q k (tree.Paren e) ≡ lowered table Value q k e
unfolding folds_opened reading_opened expressions_opened reading aspect_term lowered
lowered-Paren table Value q k e = refl
lowered-Paren table Actual q k e = refl

pub lowered-Minus : (table : NameFacts) (a : Aspect) (q : low.Purpose) (k : ℕ) (e : Expr) → lowered table a q k (tree.Minus e) ≡ prefixed_form table Negate q k e
unfolding folds_opened reading_opened expressions_opened reading aspect_term lowered prefixed_form
lowered-Minus table Value q k e = refl
lowered-Minus table Actual q k e = refl

pub lowered-Not : (table : NameFacts) (a : Aspect) (q : low.Purpose) (k : ℕ) (e : Expr) → lowered table a q k (tree.Not e) ≡ prefixed_form table Complement q k e
unfolding folds_opened reading_opened expressions_opened reading aspect_term lowered prefixed_form
lowered-Not table Value q k e = refl
lowered-Not table Actual q k e = refl

-- NAMES ALONE
name-lowered : (c : Class) (d : Option Datum) (a : Aspect) (q : low.Purpose) (k : ℕ) (x : Bytes) (at : Attribute) →
    low.lower core.NoPure q k (aspect_term a (name_read x (record at { class = c; constant = d; expansion = None }))) ≡ name_form a q k x c d
unfolding reading_opened expressions_opened aspect_term name_form variable_form constant_pure
name-lowered class.Constant None Value q k x at = refl
name-lowered class.Constant None Actual q k x at = refl
name-lowered class.Constant (Some d) Value q k x at = refl
name-lowered class.Constant (Some d) Actual q k x at = refl
name-lowered class.Procedure d Value q k x at = refl
name-lowered class.Procedure d Actual q k x at = refl
name-lowered class.DummyProcedure d Value q k x at = refl
name-lowered class.DummyProcedure d Actual q k x at = refl
name-lowered class.Intrinsic d Value q k x at = refl
name-lowered class.Intrinsic d Actual q k x at = refl
name-lowered class.StatementFunction d Value q k x at = refl
name-lowered class.StatementFunction d Actual q k x at = refl
name-lowered _ d Value q k x at = refl
name-lowered _ d Actual q k x at = refl

pub lowered-Name : (table : NameFacts) (a : Aspect) (q : low.Purpose) (k : ℕ) (x : Bytes) →
    lowered table a q k (tree.Name x) ≡ name_form a q k x (fact_in table x).class (option_map datum_of (fact_in table x).constant)
unfolding folds_opened reading read layer_read table_names_opened lowered
lowered-Name table a q k x = name-lowered (fact_in table x).class (option_map datum_of (fact_in table x).constant) a q k x (attribute_in table x)

-- LISTS
pub list-values : (table : NameFacts) (es : List Expr) → map (λ (r : Read). r.value) (map (reading table) es) ≡ map (λ e. aspect_term Value (reading table e)) es
unfolding aspect_term
list-values table [] = refl
list-values table (e ∷ es) = ap (λ ts. (reading table e).value ∷ ts) (list-values table es)

pub list-actuals : (table : NameFacts) (es : List Expr) → map (λ (r : Read). r.actual) (map (reading table) es) ≡ map (λ e. aspect_term Actual (reading table e)) es
unfolding aspect_term
list-actuals table [] = refl
list-actuals table (e ∷ es) = ap (λ ts. (reading table e).actual ∷ ts) (list-actuals table es)

-- what is passed has a reference where its value has one
name-same : (c : Class) (d : Option Datum) (x : Bytes) (at : Attribute) →
    refers (name_read x (record at { class = c; constant = d; expansion = None })).actual ≡ refers (name_read x (record at { class = c; constant = d; expansion = None })).value
unfolding reading_opened terms_opened
name-same class.Constant None x at = refl
name-same class.Constant (Some d) x at = refl
name-same class.StatementFunction d x at = refl
name-same class.Procedure d x at = refl
name-same class.DummyProcedure d x at = refl
name-same class.Intrinsic d x at = refl
name-same _ d x at = refl

intrinsic-same : (o : Option Function) (x : Bytes) (at : Attribute) (rs : List Read) → refers (intrinsic_read x at rs o).actual ≡ refers (intrinsic_read x at rs o).value
unfolding reading_opened terms_opened
intrinsic-same None x at rs = refl
intrinsic-same (Some f) x at rs = refl

applied-same : (c : Class) (x : Bytes) (at : Attribute) (rs : List Read) →
    refers (applied_read x (record at { class = c; expansion = None }) rs).actual ≡ refers (applied_read x (record at { class = c; expansion = None }) rs).value
unfolding reading_opened terms_opened
applied-same class.Intrinsic x at rs = intrinsic-same (function_named x) x (record at { class = class.Intrinsic; expansion = None }) rs
applied-same class.StatementFunction x at rs = refl
applied-same class.Procedure x at rs = refl
applied-same class.DummyProcedure x at rs = refl
applied-same class.Result x at rs = refl
applied-same _ x at rs = refl

binary-same : (o : BinaryOp) (a b : Read) → refers (binary_read o a b).actual ≡ refers (binary_read o a b).value
unfolding reading_opened terms_opened
binary-same op.Power a b = refl
binary-same op.Concatenate a b = refl
binary-same _ a b = refl

layer-same : (table : NameFacts) (e : Expr) → refers (fold_expr (layer_read (attribute_in table)) e).actual ≡ refers (fold_expr (layer_read (attribute_in table)) e).value
unfolding fold_expr layer_read reading_opened terms_opened table_names_opened
layer-same table (Int z) = refl
layer-same table (Logical b) = refl
layer-same table (Text cs) = refl
layer-same table (Name x) = name-same (fact_in table x).class (option_map datum_of (fact_in table x).constant) x (attribute_in table x)
layer-same table (Apply' x s row) = applied-same (fact_in table x).class x (attribute_in table x) (fold_exprs (layer_read (attribute_in table)) row)
layer-same table (Part' s (more_of-Expr e r) from to) = refl
layer-same table (Minus' s (more_of-Expr e r)) = refl
layer-same table (Plus' s (more_of-Expr e r)) = refl
layer-same table (Not' s (more_of-Expr e r)) = refl
layer-same table (Paren' s (more_of-Expr e r)) = refl
layer-same table (Binary' o s (more_of-Expr a r) t (more_of-Expr b q)) =
    binary-same o (fold_expr (layer_read (attribute_in table)) a) (fold_expr (layer_read (attribute_in table)) b)
layer-same table (AltReturn l) = refl
layer-same table (Bind' s row t (more_of-Expr e q)) = refl
layer-same table (Bound k) = refl

aspect-refers : (table : NameFacts) (a : Aspect) (e : Expr) → refers (aspect_term a (reading table e)) ≡ has_reference table e
unfolding aspect_term has_reference reading read
aspect-refers table Value e = refl
aspect-refers table Actual e = layer-same table e

all-refers : (table : NameFacts) (a : Aspect) (es : List Expr) → any_refers (terms (map (λ e. aspect_term a (reading table e)) es)) ≡ any_reference table es
unfolding terms_opened any_reference
all-refers table a [] = refl
all-refers table a (e ∷ es) =
    ap (λ b. b || any_refers (terms (map (λ e. aspect_term a (reading table e)) es))) (aspect-refers table a e)
    ∙ ap (λ b. has_reference table e || b) (all-refers table a es)

pub list-none : (table : NameFacts) (a : Aspect) (q : low.Purpose) (k : ℕ) → lowered_list table a q k [] ≡ low.plain core.NoPure k
unfolding terms_opened expressions_opened lowered_list
list-none table a q k = refl

pub list-more : (table : NameFacts) (a : Aspect) (q : low.Purpose) (k : ℕ) (e : Expr) (es : List Expr) →
    lowered_list table a q k (e ∷ es) ≡ low.and_then (lowered table a (low.ahead q (any_reference table es)) k e) (λ n. lowered_list table a q n es)
unfolding terms low.lower_all lowered_list lowered
list-more table a q k e es =
    ap (λ b. low.and_then (lowered table a (low.ahead q b) k e) (λ n. lowered_list table a q n es)) (all-refers table a es)

-- NAMES WITH A LIST
list-terms : (table : NameFacts) (q : low.Purpose) (k : ℕ) (es : List Expr) →
    low.lower_all core.NoPure q k (terms (map (λ (r : Read). r.value) (map (reading table) es))) ≡ lowered_list table Value q k es
unfolding lowered_list
list-terms table q k es = ap (λ ts. low.lower_all core.NoPure q k (terms ts)) (list-values table es)

function-lowered : (table : NameFacts) (a : Aspect) (q : low.Purpose) (k : ℕ) (f : Function) (x : Bytes) (at : Attribute) (es : List Expr) → function_lowers (Some f) ≡ true →
    low.lower core.NoPure q k (aspect_term a (intrinsic_read x at (map (reading table) es) (Some f))) ≡ function_form table q k f es
unfolding intrinsic_read valued_only low.lower aspect_term function_form
function-lowered table Value q k f x at es h =
    ap (λ ts. low.shaped (low.AsFunction f) q k (low.lower_all core.NoPure (low.for_function (low.is_library f)) k (terms ts))) (operands-of f (map (reading table) es) h)
    ∙ ap (low.shaped (low.AsFunction f) q k) (list-terms table (low.for_function (low.is_library f)) k es)
function-lowered table Actual q k f x at es h =
    ap (λ ts. low.shaped (low.AsFunction f) q k (low.lower_all core.NoPure (low.for_function (low.is_library f)) k (terms ts))) (operands-of f (map (reading table) es) h)
    ∙ ap (low.shaped (low.AsFunction f) q k) (list-terms table (low.for_function (low.is_library f)) k es)

reference-lowered : (table : NameFacts) (a : Aspect) (q : low.Purpose) (k : ℕ) (x : Bytes) (at : Attribute) (es : List Expr) →
    at.basic ≡ (fact_in table x).basic → at.width ≡ (fact_in table x).width →
    low.lower core.NoPure q k (aspect_term a (function_read x at (map (reading table) es))) ≡ reference_form table q k x es
unfolding reading_opened low.lower aspect_term reference_form callee_of_fact lowered_list
reference-lowered table Value q k x at es basic width =
    let called = λ (b : _) (w : _) (ts : List Term). low.shaped (low.AsReference (record { name = x; want = term.AsFunction b (width_or_zero w) })) q k (low.lower_all core.NoPure low.ForCall k (terms ts)) in
    ap (λ b. called b at.width (map (λ (r : Read). r.actual) (map (reading table) es))) basic
    ∙ ap (λ w. called (fact_in table x).basic w (map (λ (r : Read). r.actual) (map (reading table) es))) width
    ∙ ap (called (fact_in table x).basic (fact_in table x).width) (list-actuals table es)
reference-lowered table Actual q k x at es basic width =
    let called = λ (b : _) (w : _) (ts : List Term). low.shaped (low.AsReference (record { name = x; want = term.AsFunction b (width_or_zero w) })) q k (low.lower_all core.NoPure low.ForCall k (terms ts)) in
    ap (λ b. called b at.width (map (λ (r : Read). r.actual) (map (reading table) es))) basic
    ∙ ap (λ w. called (fact_in table x).basic w (map (λ (r : Read). r.actual) (map (reading table) es))) width
    ∙ ap (called (fact_in table x).basic (fact_in table x).width) (list-actuals table es)

element-lowered : (table : NameFacts) (a : Aspect) (q : low.Purpose) (k : ℕ) (x : Bytes) (es : List Expr) →
    low.lower core.NoPure q k (aspect_term a (record (placed (term.Element x (terms (map (λ (r : Read). r.value) (map (reading table) es))))) { base = Some x })) ≡ element_form table a q k x es
unfolding placed low.lower aspect_term element_form place_form
element-lowered table Value q k x es =
    ap (λ l. low.shaped low.AsFetch q k (low.and_then (low.shaped (low.AsElement x) low.ForUse k l) low.no_operand)) (list-terms table (low.for_place low.ForUse) k es)
element-lowered table Actual q k x es = ap (low.shaped (low.AsElement x) q k) (list-terms table (low.for_place q) k es)

intrinsic-lowered : (o : Option Function) (table : NameFacts) (a : Aspect) (q : low.Purpose) (k : ℕ) (x : Bytes) (at : Attribute) (es : List Expr) →
    at.basic ≡ (fact_in table x).basic → at.width ≡ (fact_in table x).width → function_lowers o ≡ true →
    low.lower core.NoPure q k (aspect_term a (intrinsic_read x at (map (reading table) es) o)) ≡ intrinsic_form table q k x o es
unfolding intrinsic_read intrinsic_form
intrinsic-lowered None table a q k x at es basic width h = reference-lowered table a q k x at es basic width
intrinsic-lowered (Some f) table a q k x at es basic width h = function-lowered table a q k f x at es h

applied-lowered : (c : Class) (table : NameFacts) (a : Aspect) (q : low.Purpose) (k : ℕ) (x : Bytes) (at : Attribute) (es : List Expr) →
    at.basic ≡ (fact_in table x).basic → at.width ≡ (fact_in table x).width → applied_lowers x c ≡ true →
    low.lower core.NoPure q k (aspect_term a (applied_read x (record at { class = c; expansion = None }) (map (reading table) es))) ≡ applied_form table a q k x c es
unfolding applied_read applied_lowers applied_form
applied-lowered class.Intrinsic table a q k x at es basic width h =
    intrinsic-lowered (function_named x) table a q k x (record at { class = class.Intrinsic; expansion = None }) es basic width h
applied-lowered class.StatementFunction table a q k x at es basic width h = absurd (cc)
applied-lowered class.Procedure table a q k x at es basic width h = reference-lowered table a q k x (record at { class = class.Procedure; expansion = None }) es basic width
applied-lowered class.DummyProcedure table a q k x at es basic width h =
    reference-lowered table a q k x (record at { class = class.DummyProcedure; expansion = None }) es basic width
applied-lowered class.Result table a q k x at es basic width h = reference-lowered table a q k x (record at { class = class.Result; expansion = None }) es basic width
applied-lowered _ table a q k x at es basic width h = element-lowered table a q k x es

pub lowered-Apply : (table : NameFacts) (a : Aspect) (q : low.Purpose) (k : ℕ) (x : Bytes) (es : List Expr) → is_lowered_value table (tree.Apply x es) ≡ true →
    lowered table a q k (tree.Apply x es) ≡ applied_form table a q k x (fact_in table x).class es
unfolding folds_opened reading read layer_read table_names_opened lowered Rattle.f_tree.specs.declared.expressions.Expr.TheBlock.hidden-the_row-Expr-0
lowered-Apply table a q k x es h =
    ap (λ rs. low.lower core.NoPure q k (aspect_term a (applied_read x (attribute_in table x) rs))) (row-reading table es)
    ∙ applied-lowered (fact_in table x).class table a q k x (attribute_in table x) es refl refl (name-Apply table x es h)

-- OPERATORS
power-lowered : (table : NameFacts) (q : low.Purpose) (k : ℕ) (a b : Expr) →
    low.lower core.NoPure q k (term.Intrinsically Power (More (reading table a).value (More (reading table b).value NoMore))) ≡ power_form table q k a b
unfolding terms_opened expressions_opened aspect_term lowered has_reference power_form two_operands
power-lowered table q k a b =
    ap (λ r. low.shaped (low.AsFunction Power) q k (low.and_then (lowered table Value (low.ahead low.ForReading r) k a) (λ n. low.and_then (lowered table Value low.ForReading n b) low.no_operand)))
    (or-false (refers (reading table b).value))

decided-lowered : (g : Bool) (table : NameFacts) (o : Operator) (q : low.Purpose) (k : ℕ) (a b : Expr) →
    low.lowered_between g (refers (reading table b).value || false) o q k (λ p. low.lower core.NoPure p k (reading table a).value) (λ n. low.lower core.NoPure low.ForUse n (reading table b).value)
    ≡ decided_form g table o q k a b
unfolding low.lowered_between aspect_term lowered has_reference decided_form operated_form guarded_form two_operands
decided-lowered true table o q k a b = refl
decided-lowered false table o q k a b =
    ap (λ r. low.shaped (low.AsBetween o) q k (low.and_then (lowered table Value (low.ahead low.ForUse r) k a) (λ n. low.and_then (lowered table Value low.ForUse n b) low.no_operand)))
    (or-false (refers (reading table b).value))

between-lowered : (table : NameFacts) (o : Operator) (q : low.Purpose) (k : ℕ) (a b : Expr) →
    low.lower core.NoPure q k (Between o (reading table a).value (reading table b).value) ≡ between_form table o q k a b
unfolding low.lower between_form takes_any_step
between-lowered table o q k a b = decided-lowered (low.may_decide o && takes_any_step table b) table o q k a b

binary-lowered : (o : BinaryOp) (table : NameFacts) (asp : Aspect) (q : low.Purpose) (k : ℕ) (a b : Expr) → operator_lowers o ≡ true →
    low.lower core.NoPure q k (aspect_term asp (binary_read o (reading table a) (reading table b))) ≡ binary_form table (form_of o) q k a b
unfolding binary_read valued_only aspect_term operator_lowers form_of binary_form
binary-lowered op.Power table Value q k a b h = power-lowered table q k a b
binary-lowered op.Power table Actual q k a b h = power-lowered table q k a b
binary-lowered op.Concatenate table Value q k a b h = absurd (cc)
binary-lowered op.Concatenate table Actual q k a b h = absurd (cc)
binary-lowered op.Times table Value q k a b h = between-lowered table term.Multiply q k a b
binary-lowered op.Times table Actual q k a b h = between-lowered table term.Multiply q k a b
binary-lowered op.Divide table Value q k a b h = between-lowered table term.Divide q k a b
binary-lowered op.Divide table Actual q k a b h = between-lowered table term.Divide q k a b
binary-lowered op.Plus table Value q k a b h = between-lowered table term.Add q k a b
binary-lowered op.Plus table Actual q k a b h = between-lowered table term.Add q k a b
binary-lowered op.Minus table Value q k a b h = between-lowered table term.Subtract q k a b
binary-lowered op.Minus table Actual q k a b h = between-lowered table term.Subtract q k a b
binary-lowered op.Less table Value q k a b h = between-lowered table term.IsLess q k a b
binary-lowered op.Less table Actual q k a b h = between-lowered table term.IsLess q k a b
binary-lowered op.LessOrEqual table Value q k a b h = between-lowered table term.IsLessOrEqual q k a b
binary-lowered op.LessOrEqual table Actual q k a b h = between-lowered table term.IsLessOrEqual q k a b
binary-lowered op.Equal table Value q k a b h = between-lowered table term.IsEqual q k a b
binary-lowered op.Equal table Actual q k a b h = between-lowered table term.IsEqual q k a b
binary-lowered op.NotEqual table Value q k a b h = between-lowered table term.IsNotEqual q k a b
binary-lowered op.NotEqual table Actual q k a b h = between-lowered table term.IsNotEqual q k a b
binary-lowered op.Greater table Value q k a b h = between-lowered table term.IsGreater q k a b
binary-lowered op.Greater table Actual q k a b h = between-lowered table term.IsGreater q k a b
binary-lowered op.GreaterOrEqual table Value q k a b h = between-lowered table term.IsGreaterOrEqual q k a b
binary-lowered op.GreaterOrEqual table Actual q k a b h = between-lowered table term.IsGreaterOrEqual q k a b
binary-lowered op.And table Value q k a b h = between-lowered table term.Both q k a b
binary-lowered op.And table Actual q k a b h = between-lowered table term.Both q k a b
binary-lowered op.Or table Value q k a b h = between-lowered table term.Either q k a b
binary-lowered op.Or table Actual q k a b h = between-lowered table term.Either q k a b
binary-lowered op.Equivalent table Value q k a b h = between-lowered table term.Same q k a b
binary-lowered op.Equivalent table Actual q k a b h = between-lowered table term.Same q k a b
binary-lowered op.NotEquivalent table Value q k a b h = between-lowered table term.Different q k a b
binary-lowered op.NotEquivalent table Actual q k a b h = between-lowered table term.Different q k a b

pub lowered-Binary : (table : NameFacts) (a : Aspect) (q : low.Purpose) (k : ℕ) (o : BinaryOp) (b c : Expr) → is_lowered_value table (tree.Binary o b c) ≡ true →
    lowered table a q k (tree.Binary o b c) ≡ binary_form table (form_of o) q k b c
unfolding folds_opened reading read layer_read lowered
lowered-Binary table a q k o b c h = binary-lowered o table a q k b c (operator-Binary table o b c h)

pub form-lowers : (o : BinaryOp) → operator_lowers o ≡ is_form (form_of o)
unfolding operator_lowers is_form form_of
form-lowers op.Power = refl
form-lowers op.Concatenate = refl
form-lowers _ = refl

pub form-Binary : (table : NameFacts) (o : BinaryOp) (a b : Expr) → is_lowered_value table (tree.Binary o a b) ≡ true → is_form (form_of o) ≡ true
form-Binary table o a b h = sym (form-lowers o) ∙ operator-Binary table o a b h
