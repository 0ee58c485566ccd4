-- What the target of an assignment is, by its form.
use Rattle.std.specs.Prelude.{◌≡◌, ℕ, ℤ, Bool, true, false, List, Option, Some, None}
use Rattle.std.proofs.Common.{refl, ap, sym, ◌∙◌}
use Rattle.f_tree.specs.Values.{Bytes, Datum}
use Rattle.f_tree.specs.Terms.{Function, Term}
use Rattle.f_tree.specs.Facts.{Attribute}
use Rattle.f_tree.specs.Uses.{heading_of}
use Rattle.f_tree.specs.declared.names.Class.{Class}
use Rattle.f_tree.specs.declared.names.Class.TheVariants as class
use Rattle.f_tree.specs.declared.expressions.BinaryOp.{BinaryOp}
use Rattle.f_tree.specs.declared.expressions.BinaryOp.TheVariants as op
use Rattle.f_tree.specs.declared.expressions.Expr.{Expr, Int, Logical, Text, Name, Apply', Part', Minus', Plus', Not', Paren', Binary', AltReturn, Bind', Bound, more_of-Expr}
use Rattle.f_tree.specs.declared.expressions.Expr as tree
use Rattle.f_tree.specs.Folds.{fold_expr, fold_exprs, folds_opened}
use Rattle.f_tree.specs.Reading.{Read, read, valued_only, placed, function_named, function_read, intrinsic_read, expanded_read, joined_read, name_read, applied_read, binary_read, layer_read}
use Rattle.f_tree.specs.Lines.{Naming, is_text, is_statement_function}
use Rattle.name_facts.specs.declared.table.NameFacts.{NameFacts}
use Rattle.name_facts.specs.GivenFacts.{IsNameFact, fact_in}
use Rattle.direct_lines.specs.References.{is_function_class}
use Rattle.direct_lines.specs.Assignments.{names_function, is_definition, variable_is_text, element_is_text, layer_text, is_text_target}

-- ## Whether it is a text, by the table
pub text-Int : (table : NameFacts) (z : ℤ) → is_text_target table (tree.Int z) ≡ false
unfolding is_text_target layer_text folds_opened
text-Int table z = refl

pub text-Logical : (table : NameFacts) (b : Bool) → is_text_target table (tree.Logical b) ≡ false
unfolding is_text_target layer_text folds_opened
text-Logical table b = refl

pub text-Text : (table : NameFacts) (cs : Bytes) → is_text_target table (tree.Text cs) ≡ false
unfolding is_text_target layer_text folds_opened
text-Text table cs = refl

pub text-Name : (table : NameFacts) (x : Bytes) → is_text_target table (tree.Name x) ≡ variable_is_text (fact_in table x).class (fact_in table x).basic
unfolding is_text_target layer_text folds_opened
text-Name table x = refl

pub text-Apply : (table : NameFacts) (x : Bytes) (es : List Expr) → is_text_target table (tree.Apply x es) ≡ element_is_text (fact_in table x).class (fact_in table x).basic
unfolding is_text_target layer_text folds_opened
text-Apply table x es = refl

pub text-Part : (table : NameFacts) (e : Expr) (from to : Option Expr) → is_text_target table (tree.Part e from to) ≡ is_text_target table e
unfolding is_text_target layer_text folds_opened
text-Part table e None None = refl
text-Part table e None (Some b) = refl
text-Part table e (Some a) None = refl
text-Part table e (Some a) (Some b) = refl

pub text-Minus : (table : NameFacts) (e : Expr) → is_text_target table (tree.Minus e) ≡ false
unfolding is_text_target layer_text folds_opened
text-Minus table e = refl

pub text-Plus : (table : NameFacts) (e : Expr) → is_text_target table (tree.Plus e) ≡ false
unfolding is_text_target layer_text folds_opened
text-Plus table e = refl

pub text-Not : (table : NameFacts) (e : Expr) → is_text_target table (tree.Not e) ≡ false
unfolding is_text_target layer_text folds_opened
text-Not table e = refl

pub text-Paren : (table : NameFacts) (e : Expr) → is_text_target table (tree.Paren e) ≡ false
unfolding is_text_target layer_text folds_opened
text-Paren table e = refl

pub text-Binary : (table : NameFacts) (op : BinaryOp) (a b : Expr) → is_text_target table (tree.Binary op a b) ≡ false
unfolding is_text_target layer_text folds_opened
text-Binary table op a b = refl

pub text-AltReturn : (table : NameFacts) (label : ℕ) → is_text_target table (tree.AltReturn label) ≡ false
unfolding is_text_target layer_text folds_opened
text-AltReturn table label = refl

pub text-Bind : (table : NameFacts) (es : List Expr) (e : Expr) → is_text_target table (tree.Bind es e) ≡ false
unfolding is_text_target layer_text folds_opened
text-Bind table es e = refl

pub text-Bound : (table : NameFacts) (k : ℕ) → is_text_target table (tree.Bound k) ≡ false
unfolding is_text_target layer_text folds_opened
text-Bound table k = refl

pub ruleset text_forms = (text-Int, text-Logical, text-Text, text-Name, text-Apply, text-Part, text-Minus, text-Plus, text-Not, text-Paren, text-Binary, text-AltReturn, text-Bind, text-Bound)

-- ## A definition of a statement function, by what the names are

function-class : (c : Class) → (elim c [ class.StatementFunction ↦ true | _ ↦ false ]) ≡ is_function_class c
unfolding is_function_class
function-class class.StatementFunction = refl
function-class _ = refl

definition-alike : (names : Naming) (table : NameFacts) → ((x : Bytes) → IsNameFact (names x) (fact_in table x)) → (o : Option Bytes) →
    is_statement_function names o ≡ names_function table o
unfolding is_statement_function names_function
definition-alike names table told None = refl
definition-alike names table told (Some x) = function-class (names x).class ∙ ap is_function_class (sym (told x).class)

pub definition-agrees : (names : Naming) (table : NameFacts) → ((x : Bytes) → IsNameFact (names x) (fact_in table x)) → (target : Expr) →
    is_definition table target ≡ is_statement_function names (heading_of target).applied
unfolding is_definition
definition-agrees names table told target = sym (definition-alike names table told (heading_of target).applied)

-- ## A text, by what the names are

base-variable : (names : Naming) (x : Bytes) (a : Attribute) (c : Class) (d : Option Datum) (o : Option Term) →
    is_text names (name_read x (record a { class = c; constant = d; expansion = o })).base ≡ variable_is_text c (names x).basic
unfolding is_text name_read variable_is_text valued_only placed
base-variable names x a class.Constant None o = refl
base-variable names x a class.Constant (Some d) o = refl
base-variable names x a class.StatementFunction d None = refl
base-variable names x a class.StatementFunction d (Some t) = refl
base-variable names x a class.Stored d o = refl
base-variable names x a class.Dummy d o = refl
base-variable names x a class.Result d o = refl
base-variable names x a class.Procedure d o = refl
base-variable names x a class.DummyProcedure d o = refl
base-variable names x a class.Intrinsic d o = refl
base-variable names x a class.Unit d o = refl

base-intrinsic : (names : Naming) (x : Bytes) (a : Attribute) (rs : List Read) (f : Option Function) → is_text names (intrinsic_read x a rs f).base ≡ false
unfolding is_text intrinsic_read function_read valued_only
base-intrinsic names x a rs None = refl
base-intrinsic names x a rs (Some f) = refl

base-expanded : (names : Naming) (x : Bytes) (a : Attribute) (rs : List Read) (o : Option Term) → is_text names (expanded_read x a rs o).base ≡ false
unfolding is_text expanded_read function_read valued_only
base-expanded names x a rs None = refl
base-expanded names x a rs (Some t) = refl

base-element : (names : Naming) (x : Bytes) (a : Attribute) (rs : List Read) (c : Class) →
    is_text names (applied_read x (record a { class = c }) rs).base ≡ element_is_text c (names x).basic
unfolding is_text applied_read element_is_text function_read valued_only placed
base-element names x a rs class.Intrinsic = base-intrinsic names x (record a { class = class.Intrinsic }) rs (function_named x)
base-element names x a rs class.StatementFunction = base-expanded names x (record a { class = class.StatementFunction }) rs a.expansion
base-element names x a rs class.Constant = refl
base-element names x a rs class.Stored = refl
base-element names x a rs class.Dummy = refl
base-element names x a rs class.Result = refl
base-element names x a rs class.Procedure = refl
base-element names x a rs class.DummyProcedure = refl
base-element names x a rs class.Unit = refl

base-binary : (names : Naming) (o : BinaryOp) (r s : Read) → is_text names (binary_read o r s).base ≡ false
unfolding is_text binary_read valued_only joined_read
base-binary names op.Power r s = refl
base-binary names op.Times r s = refl
base-binary names op.Divide r s = refl
base-binary names op.Plus r s = refl
base-binary names op.Minus r s = refl
base-binary names op.Concatenate r s = refl
base-binary names op.Less r s = refl
base-binary names op.LessOrEqual r s = refl
base-binary names op.Equal r s = refl
base-binary names op.NotEqual r s = refl
base-binary names op.Greater r s = refl
base-binary names op.GreaterOrEqual r s = refl
base-binary names op.And r s = refl
base-binary names op.Or r s = refl
base-binary names op.Equivalent r s = refl
base-binary names op.NotEquivalent r s = refl

text-tree : (names : Naming) (table : NameFacts) → ((x : Bytes) → IsNameFact (names x) (fact_in table x)) → (e : Expr) →
    is_text names (fold_expr (layer_read names) e).base ≡ fold_expr (layer_text table) e
unfolding fold_expr layer_read layer_text is_text valued_only placed
text-tree names table told (Int z) = refl
text-tree names table told (Logical b) = refl
text-tree names table told (Text cs) = refl
text-tree names table told (Name x) =
    base-variable names x (names x) (names x).class (names x).constant (names x).expansion
    ∙ ap (λ c. variable_is_text c (names x).basic) (sym (told x).class) ∙ ap (variable_is_text (fact_in table x).class) (sym (told x).basic)
text-tree names table told (Apply' x s row) =
    base-element names x (names x) (fold_exprs (layer_read names) row) (names x).class
    ∙ ap (λ c. element_is_text c (names x).basic) (sym (told x).class) ∙ ap (element_is_text (fact_in table x).class) (sym (told x).basic)
text-tree names table told (Part' s (more_of-Expr e r) from to) = text-tree names table told e
text-tree names table told (Minus' s (more_of-Expr e r)) = refl
text-tree names table told (Plus' s (more_of-Expr e r)) = refl
text-tree names table told (Not' s (more_of-Expr e r)) = refl
text-tree names table told (Paren' s (more_of-Expr e r)) = refl
text-tree names table told (Binary' o s (more_of-Expr a r) t (more_of-Expr b q)) =
    base-binary names o (fold_expr (layer_read names) a) (fold_expr (layer_read names) b)
text-tree names table told (AltReturn l) = refl
text-tree names table told (Bind' s row t (more_of-Expr e q)) = refl
text-tree names table told (Bound k) = refl

pub text-agrees : (names : Naming) (table : NameFacts) → ((x : Bytes) → IsNameFact (names x) (fact_in table x)) → (target : Expr) →
    is_text_target table target ≡ is_text names (read names target).base
unfolding is_text_target read
text-agrees names table told target = sym (text-tree names table told target)
