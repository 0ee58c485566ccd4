-- Which forms of an expression have a pure value, and which one.
use Rattle.std.specs.Prelude.{◌≡◌, ℕ, ℤ, pos, Bool, true, false, ◌&&◌, List, Option, Some, None, is_some, option_map}
use Rattle.std.proofs.Common.{refl, ap, ◌∙◌}
use Rattle.f_tree.specs.declared.names.Class.{Class}
use Rattle.f_tree.specs.declared.names.Class.TheVariants as class
use Rattle.f_tree.specs.declared.expressions.BinaryOp.{BinaryOp}
use Rattle.f_tree.specs.declared.expressions.BinaryOp.TheVariants as op
use Rattle.f_tree.specs.declared.expressions.Expr.{Expr}
use Rattle.f_tree.specs.declared.expressions.Expr as tree
use Rattle.f_tree.specs.declared.expressions.Expr.TheBlock as block
use Rattle.f_tree.specs.declared.statements.UpperBound.TheVariants as upper
use Rattle.f_tree.specs.Folds.{folds_opened}
use Rattle.f_tree.specs.Values.{Bytes, IsInt}
use Rattle.f_tree.specs.Facts.{Attribute}
use Rattle.f_tree.specs.Terms.{Operator, Function, Negate, Complement}
use Rattle.f_tree.specs.Reading.{Read, function_named, intrinsic_read, name_read, applied_read, binary_read, reading_opened}
use Rattle.f_tree.specs.Attributes.{lower_read, upper_read}
use Rattle.lowered_tree.specs.l_core.Pures.{Pure, Constant, Prefixed}
use Rattle.lowered_tree.specs.l_core.Pures as core
use Rattle.lowered_tree.specs.declared.pures.Literal.{Literal}
use Rattle.lowered_tree.specs.declared.pures.Prefix.{Prefix}
use Rattle.lowered_tree.specs.declared.pures.Operator.{Operator as Operation}
use Rattle.lowered_tree.specs.declared.pures.Function.{Function as Called}
use Rattle.lowered_tree.specs.declared.pures.Pure.{Pure as Value}
use Rattle.lowered_tree.specs.declared.pures.Pure as shape
use Rattle.lowered_tree.specs.Shapes.{datum_of as datum, pure_of, shapes_opened}
use Rattle.lowered_tree.proofs.ShapeForms.{pure-Temporary, pure-Load, pure-Name, pure-AllOf, pure-ElementOf, pure-FirstOf, pure-Substring, pure-Concatenated, pure-Prefixed, pure-Operated, pure-Applied, pure-Chosen}
use Rattle.kept_bounds.specs.KeptBounds.{bound_pure, place_pure, operated_pure, upper_is_pure, is_written}
use Rattle.name_facts.specs.declared.fact.ConstantValue.{ConstantValue}
use Rattle.name_facts.specs.declared.fact.ConstantValue.TheVariants as value
use Rattle.name_facts.specs.declared.table.NameFacts.{NameFacts}
use Rattle.name_facts.specs.GivenFacts.{datum_of, fact_in}
use Rattle.expression_lowering.specs.TableNames.{attribute_of, attribute_in, reading}
use Rattle.bound_values.specs.BoundValues.{pure_bound, is_pure_bound, value_pure, constant_pure, name_pure, operator_in, binary_pure, lower_pure, upper_pure}

-- ## Names

constant-value : (o : Option ConstantValue) (x : Bytes) (a : Attribute) →
    bound_pure (name_read x (record a { class = class.Constant; constant = option_map datum_of o; expansion = None })).value ≡ constant_pure o
unfolding bound_pure reading_opened value_pure constant_pure datum_of
constant-value None x a = refl
constant-value (Some (value.Integer z)) x a = refl
constant-value (Some (value.Logical b)) x a = refl
constant-value (Some (value.Text cs)) x a = refl
constant-value (Some (value.Label l)) x a = refl

name-value : (c : Class) (o : Option ConstantValue) (x : Bytes) (a : Attribute) →
    bound_pure (name_read x (record a { class = c; constant = option_map datum_of o; expansion = None })).value ≡ name_pure x c o
unfolding bound_pure place_pure reading_opened name_pure
name-value class.Constant o x a = constant-value o x a
name-value class.Stored o x a = refl
name-value class.Dummy o x a = refl
name-value class.Result o x a = refl
name-value class.Unit o x a = refl
name-value class.Procedure o x a = refl
name-value class.DummyProcedure o x a = refl
name-value class.StatementFunction o x a = refl
name-value class.Intrinsic o x a = refl

intrinsic-value : (o : Option Function) (x : Bytes) (a : Attribute) (rs : List Read) → bound_pure (intrinsic_read x a rs o).value ≡ None
unfolding bound_pure reading_opened
intrinsic-value None x a rs = refl
intrinsic-value (Some f) x a rs = refl

applied-value : (c : Class) (x : Bytes) (a : Attribute) (rs : List Read) → bound_pure (applied_read x (record a { class = c; expansion = None }) rs).value ≡ None
unfolding bound_pure place_pure reading_opened
applied-value class.Constant x a rs = refl
applied-value class.Stored x a rs = refl
applied-value class.Dummy x a rs = refl
applied-value class.Result x a rs = refl
applied-value class.Unit x a rs = refl
applied-value class.Procedure x a rs = refl
applied-value class.DummyProcedure x a rs = refl
applied-value class.StatementFunction x a rs = refl
applied-value class.Intrinsic x a rs = intrinsic-value (function_named x) x (record a { class = class.Intrinsic; expansion = None }) rs

binary-value : (o : BinaryOp) (a b : Read) → bound_pure (binary_read o a b).value ≡ binary_pure (operator_in o) (bound_pure a.value) (bound_pure b.value)
unfolding bound_pure reading_opened operator_in binary_pure
binary-value op.Power a b = refl
binary-value op.Concatenate a b = refl
binary-value _ a b = refl

-- ## The values of the forms

pub value-Int : (table : NameFacts) (z : ℤ) → pure_bound table (tree.Int z) ≡ Some (Constant (IsInt z))
unfolding folds_opened reading_opened reading pure_bound bound_pure
value-Int table z = refl

pub value-Logical : (table : NameFacts) (b : Bool) → pure_bound table (tree.Logical b) ≡ None
unfolding folds_opened reading_opened reading pure_bound bound_pure
value-Logical table b = refl

pub value-Text : (table : NameFacts) (cs : Bytes) → pure_bound table (tree.Text cs) ≡ None
unfolding folds_opened reading_opened reading pure_bound bound_pure
value-Text table cs = refl

pub value-AltReturn : (table : NameFacts) (label : ℕ) → pure_bound table (tree.AltReturn label) ≡ None
unfolding folds_opened reading_opened reading pure_bound bound_pure
value-AltReturn table label = refl

pub value-Bound : (table : NameFacts) (k : ℕ) → pure_bound table (tree.Bound k) ≡ None
unfolding folds_opened reading_opened reading pure_bound bound_pure
value-Bound table k = refl

pub value-Name : (table : NameFacts) (x : Bytes) → pure_bound table (tree.Name x) ≡ name_pure x (fact_in table x).class (fact_in table x).constant
unfolding folds_opened reading pure_bound attribute_in attribute_of Rattle.f_tree.specs.Reading.read Rattle.f_tree.specs.Reading.layer_read
value-Name table x = name-value (fact_in table x).class (fact_in table x).constant x (attribute_in table x)

pub value-Minus : (table : NameFacts) (e : Expr) → pure_bound table (tree.Minus e) ≡ option_map (Prefixed Negate) (pure_bound table e)
unfolding folds_opened reading_opened reading pure_bound bound_pure
value-Minus table e = refl

pub value-Plus : (table : NameFacts) (e : Expr) → pure_bound table (tree.Plus e) ≡ pure_bound table e
unfolding folds_opened reading_opened reading pure_bound bound_pure
value-Plus table e = refl

pub value-Not : (table : NameFacts) (e : Expr) → pure_bound table (tree.Not e) ≡ option_map (Prefixed Complement) (pure_bound table e)
unfolding folds_opened reading_opened reading pure_bound bound_pure
value-Not table e = refl

pub value-Paren : (table : NameFacts) (e : Expr) → pure_bound table (tree.Paren e) ≡ pure_bound table e
unfolding folds_opened reading_opened reading pure_bound bound_pure
value-Paren table e = refl

pub value-Binary : (table : NameFacts) (o : BinaryOp) (a b : Expr) → pure_bound table (tree.Binary o a b) ≡ binary_pure (operator_in o) (pure_bound table a) (pure_bound table b)
unfolding folds_opened reading pure_bound Rattle.f_tree.specs.Reading.read Rattle.f_tree.specs.Reading.layer_read
value-Binary table o a b = binary-value o (reading table a) (reading table b)

pub value-Apply : (table : NameFacts) (x : Bytes) (es : List Expr) → pure_bound table (tree.Apply x es) ≡ None
unfolding folds_opened reading pure_bound attribute_in attribute_of Rattle.f_tree.specs.Reading.read Rattle.f_tree.specs.Reading.layer_read Rattle.f_tree.specs.declared.expressions.Expr.TheBlock.hidden-the_row-Expr-0
value-Apply table x es = applied-value (fact_in table x).class x (attribute_in table x) _

pub value-Part : (table : NameFacts) (e : Expr) (from to : Option Expr) → pure_bound table (tree.Part e from to) ≡ None
unfolding folds_opened reading_opened reading pure_bound bound_pure place_pure
value-Part table e None None = refl
value-Part table e None (Some b) = refl
value-Part table e (Some a) None = refl
value-Part table e (Some a) (Some b) = refl

pub value-Bind : (table : NameFacts) (es : List Expr) (e : Expr) → pure_bound table (tree.Bind es e) ≡ None
unfolding folds_opened reading_opened reading pure_bound bound_pure Rattle.f_tree.specs.declared.expressions.Expr.TheBlock.hidden-the_row-Expr-0
value-Bind table es e = refl

pub ruleset value_forms = (value-Int, value-Logical, value-Text, value-AltReturn, value-Bound, value-Name, value-Minus, value-Plus, value-Not, value-Paren, value-Binary, value-Apply, value-Part, value-Bind)

-- ## Which forms have one

some-mapped : {A B : Type 0} (f : A → B) (o : Option A) → is_some (option_map f o) ≡ is_some o
some-mapped f None = refl
some-mapped f (Some a) = refl

some-binary : (o : Option Operator) (p q : Option Pure) → is_some (binary_pure o p q) ≡ is_some o && (is_some p && is_some q)
unfolding binary_pure operated_pure
some-binary None p q = refl
some-binary (Some o) None q = refl
some-binary (Some o) (Some p) None = refl
some-binary (Some o) (Some p) (Some q) = refl

pub test-Int : (table : NameFacts) (z : ℤ) → is_pure_bound table (tree.Int z) ≡ true
unfolding is_pure_bound
test-Int table z = ap is_some (value-Int table z)

pub test-Logical : (table : NameFacts) (b : Bool) → is_pure_bound table (tree.Logical b) ≡ false
unfolding is_pure_bound
test-Logical table b = ap is_some (value-Logical table b)

pub test-Text : (table : NameFacts) (cs : Bytes) → is_pure_bound table (tree.Text cs) ≡ false
unfolding is_pure_bound
test-Text table cs = ap is_some (value-Text table cs)

pub test-AltReturn : (table : NameFacts) (label : ℕ) → is_pure_bound table (tree.AltReturn label) ≡ false
unfolding is_pure_bound
test-AltReturn table label = ap is_some (value-AltReturn table label)

pub test-Bound : (table : NameFacts) (k : ℕ) → is_pure_bound table (tree.Bound k) ≡ false
unfolding is_pure_bound
test-Bound table k = ap is_some (value-Bound table k)

pub test-Name : (table : NameFacts) (x : Bytes) → is_pure_bound table (tree.Name x) ≡ is_some (name_pure x (fact_in table x).class (fact_in table x).constant)
unfolding is_pure_bound
test-Name table x = ap is_some (value-Name table x)

pub test-Minus : (table : NameFacts) (e : Expr) → is_pure_bound table (tree.Minus e) ≡ is_pure_bound table e
unfolding is_pure_bound
test-Minus table e = ap is_some (value-Minus table e) ∙ some-mapped (Prefixed Negate) (pure_bound table e)

pub test-Plus : (table : NameFacts) (e : Expr) → is_pure_bound table (tree.Plus e) ≡ is_pure_bound table e
unfolding is_pure_bound
test-Plus table e = ap is_some (value-Plus table e)

pub test-Not : (table : NameFacts) (e : Expr) → is_pure_bound table (tree.Not e) ≡ is_pure_bound table e
unfolding is_pure_bound
test-Not table e = ap is_some (value-Not table e) ∙ some-mapped (Prefixed Complement) (pure_bound table e)

pub test-Paren : (table : NameFacts) (e : Expr) → is_pure_bound table (tree.Paren e) ≡ is_pure_bound table e
unfolding is_pure_bound
test-Paren table e = ap is_some (value-Paren table e)

pub test-Binary : (table : NameFacts) (o : BinaryOp) (a b : Expr) → is_pure_bound table (tree.Binary o a b) ≡ is_some (operator_in o) && (is_pure_bound table a && is_pure_bound table b)
unfolding is_pure_bound
test-Binary table o a b = ap is_some (value-Binary table o a b) ∙ some-binary (operator_in o) (pure_bound table a) (pure_bound table b)

pub test-Apply : (table : NameFacts) (x : Bytes) (es : List Expr) → is_pure_bound table (tree.Apply x es) ≡ false
unfolding is_pure_bound
test-Apply table x es = ap is_some (value-Apply table x es)

pub test-Part : (table : NameFacts) (e : Expr) (from to : Option Expr) → is_pure_bound table (tree.Part e from to) ≡ false
unfolding is_pure_bound
test-Part table e from to = ap is_some (value-Part table e from to)

pub test-Bind : (table : NameFacts) (es : List Expr) (e : Expr) → is_pure_bound table (tree.Bind es e) ≡ false
unfolding is_pure_bound
test-Bind table es e = ap is_some (value-Bind table es e)

pub ruleset test_forms = (test-Int, test-Logical, test-Text, test-AltReturn, test-Bound, test-Name, test-Minus, test-Plus, test-Not, test-Paren, test-Binary, test-Apply, test-Part, test-Bind)

-- ## Bounds

pub lower-none : (table : NameFacts) → lower_pure table None ≡ Some (Constant (IsInt (pos 1)))
unfolding lower_pure lower_read bound_pure
lower-none table = refl

pub lower-some : (table : NameFacts) (e : Expr) → lower_pure table (Some e) ≡ pure_bound table e
unfolding lower_pure lower_read pure_bound reading
lower-some table e = refl

pub lower-is : (table : NameFacts) (e : Expr) → is_some (lower_pure table (Some e)) ≡ is_pure_bound table e
unfolding is_pure_bound
lower-is table e = ap is_some (lower-some table e)

pub upper-star : (table : NameFacts) → upper_pure table upper.Star ≡ None
unfolding upper_pure upper_read
upper-star table = refl

pub upper-value : (table : NameFacts) (e : Expr) → upper_pure table (upper.Value e) ≡ pure_bound table e
unfolding upper_pure upper_read pure_bound reading
upper-value table e = refl

pub star-is : (table : NameFacts) → upper_is_pure (upper_read (attribute_in table) upper.Star) ≡ true
unfolding upper_read upper_is_pure
star-is table = refl

pub value-is : (table : NameFacts) (e : Expr) → upper_is_pure (upper_read (attribute_in table) (upper.Value e)) ≡ is_pure_bound table e
unfolding upper_read upper_is_pure is_pure_bound pure_bound reading
value-is table e = refl

pub ruleset bound_forms = (lower-none, lower-some, lower-is, upper-star, upper-value, star-is, value-is)

-- ## What is written as a number

pub written-Constant : (z : ℤ) (d : Literal) → is_written z (pure_of (shape.Constant d)) ≡ is_written z (core.Constant (datum d))
unfolding shapes_opened
written-Constant z d = refl

pub written-Temporary : (z : ℤ) (k : ℕ) → is_written z (pure_of (shape.Temporary k)) ≡ false
unfolding is_written
written-Temporary z k = ap (is_written z) (pure-Temporary k)

pub written-Load : (z : ℤ) (p : Value) → is_written z (pure_of (shape.Load p)) ≡ false
unfolding is_written
written-Load z p = ap (is_written z) (pure-Load p)

pub written-Name : (z : ℤ) (x : Bytes) → is_written z (pure_of (shape.Name x)) ≡ false
unfolding is_written
written-Name z x = ap (is_written z) (pure-Name x)

pub written-AllOf : (z : ℤ) (x : Bytes) → is_written z (pure_of (shape.AllOf x)) ≡ false
unfolding is_written
written-AllOf z x = ap (is_written z) (pure-AllOf x)

pub written-ElementOf : (z : ℤ) (x : Bytes) (ps : List Value) → is_written z (pure_of (shape.ElementOf x ps)) ≡ false
unfolding is_written
written-ElementOf z x ps = ap (is_written z) (pure-ElementOf x ps)

pub written-FirstOf : (z : ℤ) (p : Value) → is_written z (pure_of (shape.FirstOf p)) ≡ false
unfolding is_written
written-FirstOf z p = ap (is_written z) (pure-FirstOf p)

pub written-Substring : (z : ℤ) (x : Bytes) (p a b : Value) → is_written z (pure_of (shape.Substring x p a b)) ≡ false
unfolding is_written
written-Substring z x p a b = ap (is_written z) (pure-Substring x p a b)

pub written-Concatenated : (z : ℤ) (ps : List Value) → is_written z (pure_of (shape.Concatenated ps)) ≡ false
unfolding is_written
written-Concatenated z ps = ap (is_written z) (pure-Concatenated ps)

pub written-Prefixed : (z : ℤ) (op : Prefix) (p : Value) → is_written z (pure_of (shape.Prefixed op p)) ≡ false
unfolding is_written
written-Prefixed z op p = ap (is_written z) (pure-Prefixed op p)

pub written-Operated : (z : ℤ) (op : Operation) (p q : Value) → is_written z (pure_of (shape.Operated op p q)) ≡ false
unfolding is_written
written-Operated z op p q = ap (is_written z) (pure-Operated op p q)

pub written-Applied : (z : ℤ) (f : Called) (ps : List Value) → is_written z (pure_of (shape.Applied f ps)) ≡ false
unfolding is_written
written-Applied z f ps = ap (is_written z) (pure-Applied f ps)

pub written-Chosen : (z : ℤ) (p a b : Value) → is_written z (pure_of (shape.Chosen p a b)) ≡ false
unfolding is_written
written-Chosen z p a b = ap (is_written z) (pure-Chosen p a b)

pub ruleset written_forms = (written-Constant, written-Temporary, written-Load, written-Name, written-AllOf, written-ElementOf, written-FirstOf, written-Substring, written-Concatenated, written-Prefixed, written-Operated, written-Applied, written-Chosen)
