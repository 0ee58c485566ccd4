-- What the target of an assignment is, by its form.
use Rattle.std.specs.Prelude.{◌≡◌, ℕ, ℤ, Bool, true, false, List, Option, Some, None, option_map}
use Rattle.std.proofs.Common.{refl, ap, sym, ◌∙◌}
use Rattle.f_tree.specs.Values.{Bytes, Datum}
use Rattle.f_tree.specs.Terms.{Function, Term, refers}
use Rattle.f_tree.specs.Facts.{Attribute}
use Rattle.f_tree.specs.Uses.{heading_of, layer_heading, no_heading}
use Rattle.f_tree.specs.declared.names.Class.{Class}
use Rattle.f_tree.specs.declared.names.Class.TheVariants as class
use Rattle.f_tree.specs.declared.expressions.BinaryOp.{BinaryOp}
use Rattle.f_tree.specs.declared.expressions.BinaryOp.TheVariants as op
use Rattle.f_tree.specs.declared.expressions.Expr.{Expr, Int, Logical, Text, Name, Apply', Part', Minus', Plus', Not', Paren', Binary', AltReturn, Bind', Bound, end_of-Expr, more_of-Expr}
use Rattle.f_tree.specs.declared.expressions.Expr as tree
use Rattle.f_tree.specs.Folds.{fold_expr, fold_exprs, folds_opened}
use Rattle.f_tree.specs.Reading.{Read, read, valued_only, placed, function_named, function_read, intrinsic_read, expanded_read, joined_read, name_read, applied_read, binary_read, layer_read}
use Rattle.f_tree.specs.Lines.{Naming, is_text, is_character, is_statement_function}
use Rattle.name_facts.specs.declared.table.NameFacts.{NameFacts}
use Rattle.name_facts.specs.GivenFacts.{datum_of, fact_in}
use Rattle.expression_lowering.specs.TableNames.{attribute_of, attribute_in, reading, AreFactsOf, is_lowered_value}
use Rattle.expression_lowering.proofs.Agreement.{read-agrees}
use Rattle.statement_lowering.specs.LoweredStatements.{is_function_class, names_function, is_definition, variable_is_text, element_is_text, layer_text, is_text_target}

-- THE NAME THAT STANDS WITH A LIST
pub heading-Int : (z : ℤ) → (heading_of (tree.Int z)).applied ≡ None
unfolding heading_of layer_heading no_heading folds_opened
heading-Int z = refl

pub heading-Logical : (b : Bool) → (heading_of (tree.Logical b)).applied ≡ None
unfolding heading_of layer_heading no_heading folds_opened
heading-Logical b = refl

pub heading-Text : (cs : Bytes) → (heading_of (tree.Text cs)).applied ≡ None
unfolding heading_of layer_heading no_heading folds_opened
heading-Text cs = refl

pub heading-Name : (x : Bytes) → (heading_of (tree.Name x)).applied ≡ None
unfolding heading_of layer_heading no_heading folds_opened
heading-Name x = refl

pub heading-Apply : (x : Bytes) (es : List Expr) → (heading_of (tree.Apply x es)).applied ≡ Some x
unfolding heading_of layer_heading no_heading folds_opened
heading-Apply x es = refl

pub heading-Part : (e : Expr) (from to : Option Expr) → (heading_of (tree.Part e from to)).applied ≡ None
unfolding heading_of layer_heading no_heading folds_opened
heading-Part e from to = refl

pub heading-Minus : (e : Expr) → (heading_of (tree.Minus e)).applied ≡ None
unfolding heading_of layer_heading no_heading folds_opened
heading-Minus e = refl

pub heading-Plus : (e : Expr) → (heading_of (tree.Plus e)).applied ≡ None
unfolding heading_of layer_heading no_heading folds_opened
heading-Plus e = refl

pub heading-Not : (e : Expr) → (heading_of (tree.Not e)).applied ≡ None
unfolding heading_of layer_heading no_heading folds_opened
heading-Not e = refl

pub heading-Paren : (e : Expr) → (heading_of (tree.Paren e)).applied ≡ None
unfolding heading_of layer_heading no_heading folds_opened
heading-Paren e = refl

pub heading-Binary : (op : BinaryOp) (a b : Expr) → (heading_of (tree.Binary op a b)).applied ≡ None
unfolding heading_of layer_heading no_heading folds_opened
heading-Binary op a b = refl

pub heading-AltReturn : (label : ℕ) → (heading_of (tree.AltReturn label)).applied ≡ None
unfolding heading_of layer_heading no_heading folds_opened
heading-AltReturn label = refl

pub heading-Bind : (es : List Expr) (e : Expr) → (heading_of (tree.Bind es e)).applied ≡ None
unfolding heading_of layer_heading no_heading folds_opened
heading-Bind es e = refl

pub heading-Bound : (k : ℕ) → (heading_of (tree.Bound k)).applied ≡ None
unfolding heading_of layer_heading no_heading folds_opened
heading-Bound k = refl

pub ruleset heading_forms = (heading-Int, heading-Logical, heading-Text, heading-Name, heading-Apply, heading-Part, heading-Minus, heading-Plus, heading-Not, heading-Paren, heading-Binary, heading-AltReturn, heading-Bind, heading-Bound)

-- WHETHER IT IS A TEXT
pub text-Int : (table : NameFacts) (z : ℤ) → is_text_target table (tree.Int z) ≡ false
unfolding is_text_target layer_text folds_opened
text-Int table z = refl

pub text-Logical : (table : NameFacts) (b : Bool) → is_text_target table (tree.Logical b) ≡ false
unfolding is_text_target layer_text folds_opened
text-Logical table b = refl

pub text-Text : (table : NameFacts) (cs : Bytes) → is_text_target table (tree.Text cs) ≡ false
unfolding is_text_target layer_text folds_opened
text-Text table cs = refl

pub text-Name : (table : NameFacts) (x : Bytes) → is_text_target table (tree.Name x) ≡ variable_is_text (fact_in table x).class (fact_in table x).basic
unfolding is_text_target layer_text folds_opened
text-Name table x = refl

pub text-Apply : (table : NameFacts) (x : Bytes) (es : List Expr) → is_text_target table (tree.Apply x es) ≡ element_is_text (fact_in table x).class (fact_in table x).basic
unfolding is_text_target layer_text folds_opened
text-Apply table x es = refl

pub text-Part : (table : NameFacts) (e : Expr) (from to : Option Expr) → is_text_target table (tree.Part e from to) ≡ is_text_target table e
unfolding is_text_target layer_text folds_opened
text-Part table e None None = refl
text-Part table e None (Some b) = refl
text-Part table e (Some a) None = refl
text-Part table e (Some a) (Some b) = refl

pub text-Minus : (table : NameFacts) (e : Expr) → is_text_target table (tree.Minus e) ≡ false
unfolding is_text_target layer_text folds_opened
text-Minus table e = refl

pub text-Plus : (table : NameFacts) (e : Expr) → is_text_target table (tree.Plus e) ≡ false
unfolding is_text_target layer_text folds_opened
text-Plus table e = refl

pub text-Not : (table : NameFacts) (e : Expr) → is_text_target table (tree.Not e) ≡ false
unfolding is_text_target layer_text folds_opened
text-Not table e = refl

pub text-Paren : (table : NameFacts) (e : Expr) → is_text_target table (tree.Paren e) ≡ false
unfolding is_text_target layer_text folds_opened
text-Paren table e = refl

pub text-Binary : (table : NameFacts) (op : BinaryOp) (a b : Expr) → is_text_target table (tree.Binary op a b) ≡ false
unfolding is_text_target layer_text folds_opened
text-Binary table op a b = refl

pub text-AltReturn : (table : NameFacts) (label : ℕ) → is_text_target table (tree.AltReturn label) ≡ false
unfolding is_text_target layer_text folds_opened
text-AltReturn table label = refl

pub text-Bind : (table : NameFacts) (es : List Expr) (e : Expr) → is_text_target table (tree.Bind es e) ≡ false
unfolding is_text_target layer_text folds_opened
text-Bind table es e = refl

pub text-Bound : (table : NameFacts) (k : ℕ) → is_text_target table (tree.Bound k) ≡ false
unfolding is_text_target layer_text folds_opened
text-Bound table k = refl

pub ruleset text_forms = (text-Int, text-Logical, text-Text, text-Name, text-Apply, text-Part, text-Minus, text-Plus, text-Not, text-Paren, text-Binary, text-AltReturn, text-Bind, text-Bound)

-- A DEFINITION, WHATEVER THE NAMES ARE
function-class : (x : Bytes) (a : Attribute) (c : Class) → is_statement_function (λ y. record a { class = c }) (Some x) ≡ is_function_class c
unfolding is_statement_function is_function_class
function-class x a class.Constant = refl
function-class x a class.Stored = refl
function-class x a class.Dummy = refl
function-class x a class.Result = refl
function-class x a class.Procedure = refl
function-class x a class.DummyProcedure = refl
function-class x a class.StatementFunction = refl
function-class x a class.Intrinsic = refl
function-class x a class.Unit = refl

defined-name : (names : Naming) (x : Bytes) → is_statement_function names (Some x) ≡ is_function_class (names x).class
unfolding is_statement_function
defined-name names x = function-class x (names x) (names x).class

definition-alike : (names : Naming) (table : NameFacts) → AreFactsOf names table → (o : Option Bytes) → is_statement_function names o ≡ names_function table o
unfolding is_statement_function names_function
definition-alike names table told None = refl
definition-alike names table told (Some x) = defined-name names x ∙ ap is_function_class (sym (told.facts x).class)

pub definition-agrees : (names : Naming) (table : NameFacts) → AreFactsOf names table → (target : Expr) →
    is_statement_function names (heading_of target).applied ≡ is_definition table target
unfolding is_definition
definition-agrees names table told target = definition-alike names table told (heading_of target).applied

-- A TEXT, WHATEVER THE NAMES ARE
base-variable : (names : Naming) (x : Bytes) (a : Attribute) (c : Class) (d : Option Datum) (o : Option Term) →
    is_text names (name_read x (record a { class = c; constant = d; expansion = o })).base ≡ variable_is_text c (names x).basic
unfolding is_text name_read variable_is_text valued_only placed
base-variable names x a class.Constant None o = refl
base-variable names x a class.Constant (Some d) o = refl
base-variable names x a class.StatementFunction d None = refl
base-variable names x a class.StatementFunction d (Some t) = refl
base-variable names x a class.Stored d o = refl
base-variable names x a class.Dummy d o = refl
base-variable names x a class.Result d o = refl
base-variable names x a class.Procedure d o = refl
base-variable names x a class.DummyProcedure d o = refl
base-variable names x a class.Intrinsic d o = refl
base-variable names x a class.Unit d o = refl

base-intrinsic : (names : Naming) (x : Bytes) (a : Attribute) (rs : List Read) (f : Option Function) → is_text names (intrinsic_read x a rs f).base ≡ false
unfolding is_text intrinsic_read function_read valued_only
base-intrinsic names x a rs None = refl
base-intrinsic names x a rs (Some f) = refl

base-expanded : (names : Naming) (x : Bytes) (a : Attribute) (rs : List Read) (o : Option Term) → is_text names (expanded_read x a rs o).base ≡ false
unfolding is_text expanded_read function_read valued_only
base-expanded names x a rs None = refl
base-expanded names x a rs (Some t) = refl

base-element : (names : Naming) (x : Bytes) (a : Attribute) (rs : List Read) (c : Class) →
    is_text names (applied_read x (record a { class = c }) rs).base ≡ element_is_text c (names x).basic
unfolding is_text applied_read element_is_text function_read valued_only placed
base-element names x a rs class.Intrinsic = base-intrinsic names x (record a { class = class.Intrinsic }) rs (function_named x)
base-element names x a rs class.StatementFunction = base-expanded names x (record a { class = class.StatementFunction }) rs a.expansion
base-element names x a rs class.Constant = refl
base-element names x a rs class.Stored = refl
base-element names x a rs class.Dummy = refl
base-element names x a rs class.Result = refl
base-element names x a rs class.Procedure = refl
base-element names x a rs class.DummyProcedure = refl
base-element names x a rs class.Unit = refl

base-binary : (names : Naming) (o : BinaryOp) (r s : Read) → is_text names (binary_read o r s).base ≡ false
unfolding is_text binary_read valued_only joined_read
base-binary names op.Power r s = refl
base-binary names op.Times r s = refl
base-binary names op.Divide r s = refl
base-binary names op.Plus r s = refl
base-binary names op.Minus r s = refl
base-binary names op.Concatenate r s = refl
base-binary names op.Less r s = refl
base-binary names op.LessOrEqual r s = refl
base-binary names op.Equal r s = refl
base-binary names op.NotEqual r s = refl
base-binary names op.Greater r s = refl
base-binary names op.GreaterOrEqual r s = refl
base-binary names op.And r s = refl
base-binary names op.Or r s = refl
base-binary names op.Equivalent r s = refl
base-binary names op.NotEquivalent r s = refl

base-tree : (table : NameFacts) (e : Expr) → is_text (attribute_in table) (fold_expr (layer_read (attribute_in table)) e).base ≡ fold_expr (layer_text table) e
unfolding fold_expr layer_read layer_text is_text attribute_in attribute_of valued_only placed
base-tree table (Int z) = refl
base-tree table (Logical b) = refl
base-tree table (Text cs) = refl
base-tree table (Name x) =
    base-variable (attribute_in table) x (attribute_in table x) (fact_in table x).class (option_map datum_of (fact_in table x).constant) None
base-tree table (Apply' x s row) =
    base-element (attribute_in table) x (attribute_in table x) (fold_exprs (layer_read (attribute_in table)) row) (fact_in table x).class
base-tree table (Part' s (more_of-Expr e r) from to) = base-tree table e
base-tree table (Minus' s (more_of-Expr e r)) = refl
base-tree table (Plus' s (more_of-Expr e r)) = refl
base-tree table (Not' s (more_of-Expr e r)) = refl
base-tree table (Paren' s (more_of-Expr e r)) = refl
base-tree table (Binary' o s (more_of-Expr a r) t (more_of-Expr b q)) =
    base-binary (attribute_in table) o (fold_expr (layer_read (attribute_in table)) a) (fold_expr (layer_read (attribute_in table)) b)
base-tree table (AltReturn l) = refl
base-tree table (Bind' s row t (more_of-Expr e q)) = refl
base-tree table (Bound k) = refl

text-alike : (names : Naming) (table : NameFacts) → AreFactsOf names table → (o : Option Bytes) → is_text names o ≡ is_text (attribute_in table) o
unfolding is_text attribute_in attribute_of
text-alike names table told None = refl
text-alike names table told (Some x) = ap is_character (sym (told.facts x).basic)

pub text-agrees : (names : Naming) (table : NameFacts) → AreFactsOf names table → (target : Expr) → is_lowered_value table target ≡ true →
    is_text names (read names target).base ≡ is_text_target table target
unfolding is_text_target reading read
text-agrees names table told target lowers =
    text-alike names table told (read names target).base ∙ ap (λ (r : Read). is_text (attribute_in table) r.base) (read-agrees names table told target lowers)
    ∙ base-tree table target

-- A PLACE HAS A REFERENCE WHERE ITS VALUE HAS ONE
refers-variable : (x : Bytes) (a : Attribute) (c : Class) (d : Option Datum) (o : Option Term) →
    refers (name_read x (record a { class = c; constant = d; expansion = o })).value ≡ refers (name_read x (record a { class = c; constant = d; expansion = o })).actual
unfolding name_read valued_only placed refers
refers-variable x a class.Constant None o = refl
refers-variable x a class.Constant (Some d) o = refl
refers-variable x a class.StatementFunction d None = refl
refers-variable x a class.StatementFunction d (Some t) = refl
refers-variable x a class.Stored d o = refl
refers-variable x a class.Dummy d o = refl
refers-variable x a class.Result d o = refl
refers-variable x a class.Procedure d o = refl
refers-variable x a class.DummyProcedure d o = refl
refers-variable x a class.Intrinsic d o = refl
refers-variable x a class.Unit d o = refl

refers-intrinsic : (x : Bytes) (a : Attribute) (rs : List Read) (f : Option Function) → refers (intrinsic_read x a rs f).value ≡ refers (intrinsic_read x a rs f).actual
unfolding intrinsic_read function_read valued_only
refers-intrinsic x a rs None = refl
refers-intrinsic x a rs (Some f) = refl

refers-expanded : (x : Bytes) (a : Attribute) (rs : List Read) (o : Option Term) → refers (expanded_read x a rs o).value ≡ refers (expanded_read x a rs o).actual
unfolding expanded_read function_read valued_only
refers-expanded x a rs None = refl
refers-expanded x a rs (Some t) = refl

refers-element : (x : Bytes) (a : Attribute) (rs : List Read) (c : Class) →
    refers (applied_read x (record a { class = c }) rs).value ≡ refers (applied_read x (record a { class = c }) rs).actual
unfolding applied_read function_read valued_only placed refers
refers-element x a rs class.Intrinsic = refers-intrinsic x (record a { class = class.Intrinsic }) rs (function_named x)
refers-element x a rs class.StatementFunction = refers-expanded x (record a { class = class.StatementFunction }) rs a.expansion
refers-element x a rs class.Constant = refl
refers-element x a rs class.Stored = refl
refers-element x a rs class.Dummy = refl
refers-element x a rs class.Result = refl
refers-element x a rs class.Procedure = refl
refers-element x a rs class.DummyProcedure = refl
refers-element x a rs class.Unit = refl

refers-binary : (o : BinaryOp) (r s : Read) → refers (binary_read o r s).value ≡ refers (binary_read o r s).actual
unfolding binary_read valued_only joined_read
refers-binary op.Power r s = refl
refers-binary op.Times r s = refl
refers-binary op.Divide r s = refl
refers-binary op.Plus r s = refl
refers-binary op.Minus r s = refl
refers-binary op.Concatenate r s = refl
refers-binary op.Less r s = refl
refers-binary op.LessOrEqual r s = refl
refers-binary op.Equal r s = refl
refers-binary op.NotEqual r s = refl
refers-binary op.Greater r s = refl
refers-binary op.GreaterOrEqual r s = refl
refers-binary op.And r s = refl
refers-binary op.Or r s = refl
refers-binary op.Equivalent r s = refl
refers-binary op.NotEquivalent r s = refl

refers-tree : (names : Naming) (e : Expr) → refers (fold_expr (layer_read names) e).value ≡ refers (fold_expr (layer_read names) e).actual
unfolding fold_expr layer_read valued_only placed refers
refers-tree names (Int z) = refl
refers-tree names (Logical b) = refl
refers-tree names (Text cs) = refl
refers-tree names (Name x) = refers-variable x (names x) (names x).class (names x).constant (names x).expansion
refers-tree names (Apply' x s row) = refers-element x (names x) (fold_exprs (layer_read names) row) (names x).class
refers-tree names (Part' s (more_of-Expr e r) from to) = refl
refers-tree names (Minus' s (more_of-Expr e r)) = refl
refers-tree names (Plus' s (more_of-Expr e r)) = refl
refers-tree names (Not' s (more_of-Expr e r)) = refl
refers-tree names (Paren' s (more_of-Expr e r)) = refl
refers-tree names (Binary' o s (more_of-Expr a r) t (more_of-Expr b q)) = refers-binary o (fold_expr (layer_read names) a) (fold_expr (layer_read names) b)
refers-tree names (AltReturn l) = refl
refers-tree names (Bind' s row t (more_of-Expr e q)) = refl
refers-tree names (Bound k) = refl

pub refers-alike : (names : Naming) (e : Expr) → refers (read names e).value ≡ refers (read names e).actual
unfolding read
refers-alike names e = refers-tree names e
