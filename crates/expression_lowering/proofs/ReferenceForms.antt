-- Which forms of an expression have a reference to a function, and which take a step.
use Rattle.std.specs.Prelude.{◌≡◌, ℕ, ℤ, Bool, true, false, ◌||◌, List, [], ◌∷◌, map, Option, Some, None, option_map}
use Rattle.std.proofs.Common.{refl, ap, ◌∙◌}
use Rattle.f_tree.specs.declared.names.Class.{Class}
use Rattle.f_tree.specs.declared.names.Class.TheVariants as class
use Rattle.f_tree.specs.declared.expressions.BinaryOp.{BinaryOp}
use Rattle.f_tree.specs.declared.expressions.BinaryOp.TheVariants as op
use Rattle.f_tree.specs.declared.expressions.Expr.{Expr}
use Rattle.f_tree.specs.declared.expressions.Expr as tree
use Rattle.f_tree.specs.declared.expressions.Expr.TheBlock as block
use Rattle.f_tree.specs.Folds.{fold_exprs, folds_opened}
use Rattle.f_tree.specs.Values.{Bytes, Datum}
use Rattle.f_tree.specs.Facts.{Attribute}
use Rattle.f_tree.specs.Terms.{Terms, Function, TextLength, terms, refers, any_refers, terms_opened}
use Rattle.f_tree.specs.Reading.{Read, function_named, operands_of, name_read, applied_read, intrinsic_read, binary_read, layer_read, reading_opened}
use Rattle.lowering.specs.Expressions as low
use Rattle.lowering.specs.Expressions.{expressions_opened}
use Rattle.name_facts.specs.declared.table.NameFacts.{NameFacts}
use Rattle.name_facts.specs.GivenFacts.{datum_of, fact_in}
use Rattle.expression_lowering.specs.TableNames.{attribute_in, reading, function_lowers, applied_lowers, operator_lowers, is_lowered_value, table_names_opened}
use Rattle.expression_lowering.specs.LoweredForms.{has_reference, any_reference, takes_any_step, any_takes_step, is_unknown, is_reference, function_calls, makes_call, operator_calls, lowered_forms_opened}
use Rattle.expression_lowering.proofs.CoveredForms.{name-Apply, operator-Binary}

pub row-reading : (table : NameFacts) (es : List Expr) → fold_exprs (layer_read (attribute_in table)) (block.hidden-the_row-Expr-0 es) ≡ map (reading table) es
unfolding folds_opened reading Rattle.f_tree.specs.Reading.read Rattle.f_tree.specs.declared.expressions.Expr.TheBlock.hidden-the_row-Expr-0
row-reading table [] = refl
row-reading table (e ∷ es) = ap (λ rs. reading table e ∷ rs) (row-reading table es)

pub operands-of : (f : Function) (rs : List Read) → function_lowers (Some f) ≡ true → operands_of f rs ≡ map (λ r. r.value) rs
unfolding reading_opened function_lowers
operands-of TextLength rs h = absurd (cc)
operands-of _ rs h = refl

-- REFERENCES
pub any-refers : (table : NameFacts) (es : List Expr) → any_refers (terms (map (λ (r : Read). r.value) (map (reading table) es))) ≡ any_reference table es
unfolding terms_opened lowered_forms_opened
any-refers table [] = refl
any-refers table (e ∷ es) = ap (λ b. has_reference table e || b) (any-refers table es)

name-refers : (c : Class) (d : Option Datum) (x : Bytes) (a : Attribute) → refers (name_read x (record a { class = c; constant = d; expansion = None })).value ≡ false
unfolding reading_opened terms_opened
name-refers class.Constant None x a = refl
name-refers class.Constant (Some d) x a = refl
name-refers class.Stored d x a = refl
name-refers class.Dummy d x a = refl
name-refers class.Result d x a = refl
name-refers class.Procedure d x a = refl
name-refers class.DummyProcedure d x a = refl
name-refers class.StatementFunction d x a = refl
name-refers class.Intrinsic d x a = refl
name-refers class.Unit d x a = refl

intrinsic-refers : (o : Option Function) (x : Bytes) (a : Attribute) (rs : List Read) → function_lowers o ≡ true →
    refers (intrinsic_read x a rs o).value ≡ is_unknown o || any_refers (terms (map (λ r. r.value) rs))
unfolding reading_opened terms_opened is_unknown
intrinsic-refers None x a rs h = refl
intrinsic-refers (Some f) x a rs h = ap (λ ts. any_refers (terms ts)) (operands-of f rs h)

applied-refers : (c : Class) (x : Bytes) (a : Attribute) (rs : List Read) → applied_lowers x c ≡ true →
    refers (applied_read x (record a { class = c; expansion = None }) rs).value ≡ is_reference x c || any_refers (terms (map (λ r. r.value) rs))
unfolding reading_opened terms_opened is_reference applied_lowers
applied-refers class.Constant x a rs h = refl
applied-refers class.Stored x a rs h = refl
applied-refers class.Dummy x a rs h = refl
applied-refers class.Result x a rs h = refl
applied-refers class.Procedure x a rs h = refl
applied-refers class.DummyProcedure x a rs h = refl
applied-refers class.StatementFunction x a rs h = refl
applied-refers class.Intrinsic x a rs h = intrinsic-refers (function_named x) x (record a { class = class.Intrinsic; expansion = None }) rs h
applied-refers class.Unit x a rs h = refl

pub or-false : (b : Bool) → b || false ≡ b
or-false true = refl
or-false false = refl

binary-refers : (o : BinaryOp) (a b : Read) → operator_lowers o ≡ true → refers (binary_read o a b).value ≡ refers a.value || refers b.value
unfolding reading_opened terms_opened operator_lowers
binary-refers op.Power a b h = ap (λ c. refers a.value || c) (or-false (refers b.value))
binary-refers op.Concatenate a b h = absurd (cc)
binary-refers _ a b h = refl

pub refers-Int : (table : NameFacts) (z : ℤ) → has_reference table (tree.Int z) ≡ false
unfolding folds_opened reading_opened terms_opened reading has_reference
refers-Int table z = refl

pub refers-Logical : (table : NameFacts) (b : Bool) → has_reference table (tree.Logical b) ≡ false
unfolding folds_opened reading_opened terms_opened reading has_reference
refers-Logical table b = refl

pub refers-Text : (table : NameFacts) (cs : Bytes) → has_reference table (tree.Text cs) ≡ false
unfolding folds_opened reading_opened terms_opened reading has_reference
refers-Text table cs = refl

pub refers-AltReturn : (table : NameFacts) (label : ℕ) → has_reference table (tree.AltReturn label) ≡ false
unfolding folds_opened reading_opened terms_opened reading has_reference
refers-AltReturn table label = refl

pub refers-Name : (table : NameFacts) (x : Bytes) → has_reference table (tree.Name x) ≡ false
unfolding folds_opened reading Rattle.f_tree.specs.Reading.read layer_read table_names_opened has_reference
refers-Name table x = name-refers (fact_in table x).class (option_map datum_of (fact_in table x).constant) x (attribute_in table x)

pub refers-Minus : (table : NameFacts) (e : Expr) → has_reference table (tree.Minus e) ≡ has_reference table e
unfolding folds_opened reading_opened terms_opened reading has_reference
refers-Minus table e = refl

pub refers-Plus : (table : NameFacts) (e : Expr) → has_reference table (tree.Plus e) ≡ has_reference table e
unfolding folds_opened reading_opened terms_opened reading has_reference
refers-Plus table e = refl

pub refers-Not : (table : NameFacts) (e : Expr) → has_reference table (tree.Not e) ≡ has_reference table e
unfolding folds_opened reading_opened terms_opened reading has_reference
refers-Not table e = refl

pub refers-Paren : (table : NameFacts) (e : Expr) → has_reference table (tree.Paren e) ≡ has_reference table e
unfolding folds_opened reading_opened terms_opened reading has_reference
refers-Paren table e = refl

pub refers-Binary : (table : NameFacts) (o : BinaryOp) (a b : Expr) → is_lowered_value table (tree.Binary o a b) ≡ true →
    has_reference table (tree.Binary o a b) ≡ has_reference table a || has_reference table b
unfolding folds_opened reading Rattle.f_tree.specs.Reading.read layer_read has_reference
refers-Binary table o a b h = binary-refers o (reading table a) (reading table b) (operator-Binary table o a b h)

pub refers-Apply : (table : NameFacts) (x : Bytes) (es : List Expr) → is_lowered_value table (tree.Apply x es) ≡ true →
    has_reference table (tree.Apply x es) ≡ is_reference x (fact_in table x).class || any_reference table es
unfolding folds_opened reading Rattle.f_tree.specs.Reading.read layer_read table_names_opened has_reference Rattle.f_tree.specs.declared.expressions.Expr.TheBlock.hidden-the_row-Expr-0
refers-Apply table x es h =
    ap (λ rs. refers (applied_read x (attribute_in table x) rs).value) (row-reading table es)
    ∙ applied-refers (fact_in table x).class x (attribute_in table x) (map (reading table) es) (name-Apply table x es h)
    ∙ ap (λ b. is_reference x (fact_in table x).class || b) (any-refers table es)

pub ruleset reference_forms = (refers-Int, refers-Logical, refers-Text, refers-AltReturn, refers-Name, refers-Minus, refers-Plus, refers-Not, refers-Paren, refers-Binary, refers-Apply)

-- STEPS
or-or : (a b : Bool) → a || b ≡ b || a
or-or true true = refl
or-or true false = refl
or-or false true = refl
or-or false false = refl

pub any-takes : (table : NameFacts) (es : List Expr) → low.any_takes low.ForUse (terms (map (λ (r : Read). r.value) (map (reading table) es))) ≡ any_takes_step table es
unfolding terms_opened expressions_opened lowered_forms_opened
any-takes table [] = refl
any-takes table (e ∷ es) =
    ap (λ b. b || takes_any_step table e) (any-takes table es) ∙ or-or (any_takes_step table es) (takes_any_step table e)

name-takes : (c : Class) (d : Option Datum) (x : Bytes) (a : Attribute) → low.takes_steps low.ForUse (name_read x (record a { class = c; constant = d; expansion = None })).value ≡ false
unfolding reading_opened expressions_opened
name-takes class.Constant None x a = refl
name-takes class.Constant (Some d) x a = refl
name-takes class.Stored d x a = refl
name-takes class.Dummy d x a = refl
name-takes class.Result d x a = refl
name-takes class.Procedure d x a = refl
name-takes class.DummyProcedure d x a = refl
name-takes class.StatementFunction d x a = refl
name-takes class.Intrinsic d x a = refl
name-takes class.Unit d x a = refl

function-takes : (b : Bool) (ts : Terms) → b || (low.is_kept low.ForUse || low.any_takes (low.for_function b) ts) ≡ b || low.any_takes low.ForUse ts
unfolding expressions_opened
function-takes true ts = refl
function-takes false ts = refl

intrinsic-takes : (o : Option Function) (x : Bytes) (a : Attribute) (rs : List Read) → function_lowers o ≡ true →
    low.takes_steps low.ForUse (intrinsic_read x a rs o).value ≡ function_calls o || low.any_takes low.ForUse (terms (map (λ r. r.value) rs))
unfolding reading_opened expressions_opened function_calls
intrinsic-takes None x a rs h = refl
intrinsic-takes (Some f) x a rs h =
    function-takes (low.is_library f) (terms (operands_of f rs))
    ∙ ap (λ ts. low.is_library f || low.any_takes low.ForUse (terms ts)) (operands-of f rs h)

applied-takes : (c : Class) (x : Bytes) (a : Attribute) (rs : List Read) → applied_lowers x c ≡ true →
    low.takes_steps low.ForUse (applied_read x (record a { class = c; expansion = None }) rs).value ≡ makes_call x c || low.any_takes low.ForUse (terms (map (λ r. r.value) rs))
unfolding reading_opened expressions_opened makes_call applied_lowers
applied-takes class.Constant x a rs h = refl
applied-takes class.Stored x a rs h = refl
applied-takes class.Dummy x a rs h = refl
applied-takes class.Result x a rs h = refl
applied-takes class.Procedure x a rs h = refl
applied-takes class.DummyProcedure x a rs h = refl
applied-takes class.StatementFunction x a rs h = refl
applied-takes class.Intrinsic x a rs h = intrinsic-takes (function_named x) x (record a { class = class.Intrinsic; expansion = None }) rs h
applied-takes class.Unit x a rs h = refl

binary-takes : (o : BinaryOp) (a b : Read) → operator_lowers o ≡ true →
    low.takes_steps low.ForUse (binary_read o a b).value ≡ operator_calls o || (low.takes_steps low.ForUse b.value || low.takes_steps low.ForUse a.value)
unfolding reading_opened expressions_opened operator_lowers operator_calls
binary-takes op.Power a b h = refl
binary-takes op.Concatenate a b h = absurd (cc)
binary-takes _ a b h = refl

pub takes-Int : (table : NameFacts) (z : ℤ) → takes_any_step table (tree.Int z) ≡ false
unfolding folds_opened reading_opened expressions_opened reading takes_any_step
takes-Int table z = refl

pub takes-Logical : (table : NameFacts) (b : Bool) → takes_any_step table (tree.Logical b) ≡ false
unfolding folds_opened reading_opened expressions_opened reading takes_any_step
takes-Logical table b = refl

pub takes-Text : (table : NameFacts) (cs : Bytes) → takes_any_step table (tree.Text cs) ≡ false
unfolding folds_opened reading_opened expressions_opened reading takes_any_step
takes-Text table cs = refl

pub takes-AltReturn : (table : NameFacts) (label : ℕ) → takes_any_step table (tree.AltReturn label) ≡ false
unfolding folds_opened reading_opened expressions_opened reading takes_any_step
takes-AltReturn table label = refl

pub takes-Name : (table : NameFacts) (x : Bytes) → takes_any_step table (tree.Name x) ≡ false
unfolding folds_opened reading Rattle.f_tree.specs.Reading.read layer_read table_names_opened takes_any_step
takes-Name table x = name-takes (fact_in table x).class (option_map datum_of (fact_in table x).constant) x (attribute_in table x)

pub takes-Minus : (table : NameFacts) (e : Expr) → takes_any_step table (tree.Minus e) ≡ takes_any_step table e
unfolding folds_opened reading_opened expressions_opened reading takes_any_step
takes-Minus table e = refl

pub takes-Plus : (table : NameFacts) (e : Expr) → takes_any_step table (tree.Plus e) ≡ takes_any_step table e
unfolding folds_opened reading_opened expressions_opened reading takes_any_step
takes-Plus table e = refl

pub takes-Not : (table : NameFacts) (e : Expr) → takes_any_step table (tree.Not e) ≡ takes_any_step table e
unfolding folds_opened reading_opened expressions_opened reading takes_any_step
takes-Not table e = refl

pub takes-Paren : (table : NameFacts) (e : Expr) → takes_any_step table (tree.Paren e) ≡ takes_any_step table e
unfolding folds_opened reading_opened expressions_opened reading takes_any_step
takes-Paren table e = refl

pub takes-Binary : (table : NameFacts) (o : BinaryOp) (a b : Expr) → is_lowered_value table (tree.Binary o a b) ≡ true →
    takes_any_step table (tree.Binary o a b) ≡ operator_calls o || (takes_any_step table b || takes_any_step table a)
unfolding folds_opened reading Rattle.f_tree.specs.Reading.read layer_read takes_any_step
takes-Binary table o a b h = binary-takes o (reading table a) (reading table b) (operator-Binary table o a b h)

pub takes-Apply : (table : NameFacts) (x : Bytes) (es : List Expr) → is_lowered_value table (tree.Apply x es) ≡ true →
    takes_any_step table (tree.Apply x es) ≡ makes_call x (fact_in table x).class || any_takes_step table es
unfolding folds_opened reading Rattle.f_tree.specs.Reading.read layer_read table_names_opened takes_any_step Rattle.f_tree.specs.declared.expressions.Expr.TheBlock.hidden-the_row-Expr-0
takes-Apply table x es h =
    ap (λ rs. low.takes_steps low.ForUse (applied_read x (attribute_in table x) rs).value) (row-reading table es)
    ∙ applied-takes (fact_in table x).class x (attribute_in table x) (map (reading table) es) (name-Apply table x es h)
    ∙ ap (λ b. makes_call x (fact_in table x).class || b) (any-takes table es)

pub ruleset step_forms = (takes-Int, takes-Logical, takes-Text, takes-AltReturn, takes-Name, takes-Minus, takes-Plus, takes-Not, takes-Paren, takes-Binary, takes-Apply)
