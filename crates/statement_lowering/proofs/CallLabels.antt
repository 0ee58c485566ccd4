-- The labels that a CALL passes are those that are written among its operands, and no operand hides another.
use Rattle.std.specs.Prelude.{◌≡◌, ℕ, suc, ◌+◌, ◌<◌, ◌≤◌, true, false, ◌||◌, List, [], ◌∷◌, ◌++◌, length, Option, Some, None, option_map}
use Rattle.std.proofs.Common.{refl, ap, sym, subst, ◌∙◌, drop, get_or, drop-cons, add-one, append_assoc}
use Rattle.std.proofs.lemmas.List.{append-nil, drop_all}
use Rattle.f_tree.specs.declared.names.Class.{Class}
use Rattle.f_tree.specs.declared.names.Class.TheVariants as class
use Rattle.f_tree.specs.declared.expressions.BinaryOp.{BinaryOp}
use Rattle.f_tree.specs.declared.expressions.BinaryOp.TheVariants as op
use Rattle.f_tree.specs.declared.expressions.Expr.{Expr, Int, Logical, Text, Name, Apply', Part', Minus', Plus', Not', Paren', Binary', AltReturn, Bind', Bound, more_of-Expr}
use Rattle.f_tree.specs.Folds.{fold_expr, fold_exprs}
use Rattle.f_tree.specs.Values.{Bytes}
use Rattle.f_tree.specs.Facts.{Attribute}
use Rattle.f_tree.specs.Terms.{Function, Term, Terms, More, terms}
use Rattle.f_tree.specs.Reading.{Read, read, valued_only, placed, function_named, function_read, intrinsic_read, joined_read, name_read, applied_read, binary_read, layer_read}
use Rattle.f_tree.specs.Lines.{Naming, place_of, arguments_of}
use Rattle.lowering.specs.Statements.{wants_no_value, may_be_label, label_written, labels_written, hides_label, hides_labels}
use Rattle.lowering.specs.Units.{label_in}
use Rattle.name_facts.specs.declared.fact.ConstantValue.{ConstantValue}
use Rattle.name_facts.specs.declared.fact.ConstantValue.TheVariants as constant
use Rattle.name_facts.specs.declared.table.NameFacts.{NameFacts}
use Rattle.name_facts.specs.GivenFacts.{datum_of, fact_in}
use Rattle.expression_lowering.specs.TableNames.{attribute_of, attribute_in, reading, AreFactsOf, name_lowers, applied_lowers, all_lower, layer_lowers, is_lowered_value}
use Rattle.expression_lowering.proofs.Agreement.{read-agrees}
use Rattle.expression_lowering.proofs.CoveredForms.{and-left, and-right}
use Rattle.statement_lowering.specs.LoweredTransfers.{call_lowers, label_valued, constant_label, name_label, layer_label, label_passed, labels_passed}

-- a term passes a label where it is one that is written, and none else
pub record IsWritten (t : Term) (o : Option ℕ) : Type 0 where
  pub written : label_written t ≡ label_in o
  pub hides : hides_label t ≡ false

-- as a value, and as an argument
record Reads (r : Read) (o : Option ℕ) : Type 0 where
  value : IsWritten r.value o
  actual : IsWritten r.actual o

pub record AreWritten (ts : Terms) (labels : List ℕ) : Type 0 where
  pub written : labels_written ts ≡ labels
  pub hides : hides_labels ts ≡ false

none-read : (r : Read) → label_written r.value ≡ [] → hides_label r.value ≡ false → label_written r.actual ≡ [] → hides_label r.actual ≡ false → Reads r None
unfolding label_in
none-read r v v' a a' = record { value = record { written = v; hides = v' }; actual = record { written = a; hides = a' } }

-- A NAME ALONE
label-constant : (x : Bytes) (a : Attribute) (o : Option ConstantValue) → Reads (name_read x (record a { class = class.Constant; constant = option_map datum_of o })) (constant_label o)
unfolding label_written hides_label may_be_label label_in name_read valued_only datum_of constant_label label_valued
label-constant x a None = none-read _ refl refl refl refl
label-constant x a (Some (constant.Integer z)) = none-read _ refl refl refl refl
label-constant x a (Some (constant.Logical b)) = none-read _ refl refl refl refl
label-constant x a (Some (constant.Text cs)) = none-read _ refl refl refl refl
label-constant x a (Some (constant.Label l)) = record { value = record { written = refl; hides = refl }; actual = record { written = refl; hides = refl } }

label-name : (x : Bytes) (a : Attribute) (c : Class) (o : Option ConstantValue) → name_lowers c ≡ true → Reads (name_read x (record a { class = c; constant = option_map datum_of o })) (name_label c o)
unfolding label_written hides_label may_be_label name_read valued_only placed name_label name_lowers
label-name x a class.Constant o h = label-constant x a o
label-name x a class.StatementFunction o h = absurd (cc)
label-name x a class.Stored o h = none-read _ refl refl refl refl
label-name x a class.Dummy o h = none-read _ refl refl refl refl
label-name x a class.Result o h = none-read _ refl refl refl refl
label-name x a class.Procedure o h = none-read _ refl refl refl refl
label-name x a class.DummyProcedure o h = none-read _ refl refl refl refl
label-name x a class.Intrinsic o h = none-read _ refl refl refl refl
label-name x a class.Unit o h = none-read _ refl refl refl refl

-- A NAME WITH A LIST
label-intrinsic : (x : Bytes) (a : Attribute) (rs : List Read) (f : Option Function) → Reads (intrinsic_read x a rs f) None
unfolding label_written hides_label may_be_label wants_no_value intrinsic_read function_read valued_only
label-intrinsic x a rs None = none-read _ refl refl refl refl
label-intrinsic x a rs (Some f) = none-read _ refl refl refl refl

label-element : (x : Bytes) (a : Attribute) (rs : List Read) (c : Class) → applied_lowers x c ≡ true → Reads (applied_read x (record a { class = c }) rs) None
unfolding label_written hides_label may_be_label wants_no_value applied_read applied_lowers function_read valued_only placed
label-element x a rs class.Intrinsic h = label-intrinsic x (record a { class = class.Intrinsic }) rs (function_named x)
label-element x a rs class.StatementFunction h = absurd (cc)
label-element x a rs class.Constant h = none-read _ refl refl refl refl
label-element x a rs class.Stored h = none-read _ refl refl refl refl
label-element x a rs class.Dummy h = none-read _ refl refl refl refl
label-element x a rs class.Result h = none-read _ refl refl refl refl
label-element x a rs class.Procedure h = none-read _ refl refl refl refl
label-element x a rs class.DummyProcedure h = none-read _ refl refl refl refl
label-element x a rs class.Unit h = none-read _ refl refl refl refl

-- OPERATORS
label-binary : (o : BinaryOp) (r s : Read) → Reads (binary_read o r s) None
unfolding label_written hides_label may_be_label binary_read valued_only joined_read
label-binary op.Power r s = none-read _ refl refl refl refl
label-binary op.Times r s = none-read _ refl refl refl refl
label-binary op.Divide r s = none-read _ refl refl refl refl
label-binary op.Plus r s = none-read _ refl refl refl refl
label-binary op.Minus r s = none-read _ refl refl refl refl
label-binary op.Concatenate r s = none-read _ refl refl refl refl
label-binary op.Less r s = none-read _ refl refl refl refl
label-binary op.LessOrEqual r s = none-read _ refl refl refl refl
label-binary op.Equal r s = none-read _ refl refl refl refl
label-binary op.NotEqual r s = none-read _ refl refl refl refl
label-binary op.Greater r s = none-read _ refl refl refl refl
label-binary op.GreaterOrEqual r s = none-read _ refl refl refl refl
label-binary op.And r s = none-read _ refl refl refl refl
label-binary op.Or r s = none-read _ refl refl refl refl
label-binary op.Equivalent r s = none-read _ refl refl refl refl
label-binary op.NotEquivalent r s = none-read _ refl refl refl refl

-- EXPRESSIONS
label-tree : (table : NameFacts) (e : Expr) → fold_expr (layer_lowers table) e ≡ true → Reads (fold_expr (layer_read (attribute_in table)) e) (fold_expr (layer_label table) e)
unfolding label_written hides_label may_be_label label_in fold_expr layer_read layer_label layer_lowers attribute_in attribute_of valued_only placed
label-tree table (Int z) h = none-read _ refl refl refl refl
label-tree table (Logical b) h = none-read _ refl refl refl refl
label-tree table (Text cs) h = none-read _ refl refl refl refl
label-tree table (Name x) h = label-name x (attribute_in table x) (fact_in table x).class (fact_in table x).constant h
label-tree table (Apply' x s row) h =
    label-element x (attribute_in table x) (fold_exprs (layer_read (attribute_in table)) row) (fact_in table x).class
    (and-left (applied_lowers x (fact_in table x).class) (all_lower (fold_exprs (layer_lowers table) row)) h)
label-tree table (Part' s (more_of-Expr e r) from to) h = absurd (cc)
label-tree table (Minus' s (more_of-Expr e r)) h = none-read _ refl refl refl refl
label-tree table (Plus' s (more_of-Expr e r)) h = let is = label-tree table e h in record { value = is.value; actual = is.value }
label-tree table (Not' s (more_of-Expr e r)) h = none-read _ refl refl refl refl
label-tree table (Paren' s (more_of-Expr e r)) h = let is = label-tree table e h in record { value = is.value; actual = is.value }
label-tree table (Binary' o s (more_of-Expr a r) t (more_of-Expr b q)) h =
    label-binary o (fold_expr (layer_read (attribute_in table)) a) (fold_expr (layer_read (attribute_in table)) b)
label-tree table (AltReturn l) h = record { value = record { written = refl; hides = refl }; actual = record { written = refl; hides = refl } }
label-tree table (Bind' s row t (more_of-Expr e q)) h = absurd (cc)
label-tree table (Bound k) h = absurd (cc)

label-agrees : (names : Naming) (table : NameFacts) → AreFactsOf names table → (e : Expr) → is_lowered_value table e ≡ true → IsWritten (place_of names e) (label_passed table e)
unfolding is_lowered_value reading read place_of label_passed
label-agrees names table told e h =
    subst (λ (r : Read). IsWritten r.actual (fold_expr (layer_label table) e)) (sym (read-agrees names table told e h)) (label-tree table e h).actual

-- ALL ARGUMENTS
more-written : (t : Term) (ts : Terms) (o : Option ℕ) (labels : List ℕ) → IsWritten t o → AreWritten ts labels → AreWritten (More t ts) (label_in o ++ labels)
unfolding labels_written hides_labels
more-written t ts o labels one rest = record {
  written = ap (λ ls. ls ++ labels_written ts) one.written ∙ ap (λ ls. label_in o ++ ls) rest.written;
  hides = ap (λ b. b || hides_labels ts) one.hides ∙ rest.hides;
}

pub labels-agree : (names : Naming) (table : NameFacts) → AreFactsOf names table → (es : List Expr) → call_lowers table es ≡ true →
    AreWritten (terms (arguments_of names es)) (labels_passed table es)
unfolding call_lowers all_lower labels_written hides_labels terms arguments_of labels_passed
labels-agree names table told [] h = record { written = refl; hides = refl }
labels-agree names table told (e ∷ es) h =
    more-written (place_of names e) (terms (arguments_of names es)) (label_passed table e) (labels_passed table es)
    (label-agrees names table told e (and-left (is_lowered_value table e) (call_lowers table es) h))
    (labels-agree names table told es (and-right (is_lowered_value table e) (call_lowers table es) h))

-- LABEL BY LABEL
split-at : (es : List Expr) (i : ℕ) (e : Expr) → i < length es → e ≡ get_or es i e → drop i es ≡ e ∷ drop (i + 1) es
split-at es i e h is = drop-cons es i e h ∙ ap (λ y. y ∷ drop (suc i) es) (sym is) ∙ ap (λ n. e ∷ drop n es) (sym (add-one i))

pub labels-more : (table : NameFacts) (es : List Expr) (i : ℕ) (e : Expr) (before now after : List ℕ) → i < length es → e ≡ get_or es i e →
    now ++ labels_passed table (drop i es) ≡ before ++ labels_passed table es → after ≡ now ++ label_in (label_passed table e) →
    after ++ labels_passed table (drop (i + 1) es) ≡ before ++ labels_passed table es
unfolding labels_passed
labels-more table es i e before now after h is so_far added =
    let rest = labels_passed table (drop (i + 1) es) in
    ap (λ ls. ls ++ rest) added ∙ append_assoc now (label_in (label_passed table e)) rest ∙ ap (λ es. now ++ labels_passed table es) (sym (split-at es i e h is)) ∙ so_far

pub labels-done : (table : NameFacts) (es : List Expr) (i : ℕ) (before now : List ℕ) → length es ≤ i →
    now ++ labels_passed table (drop i es) ≡ before ++ labels_passed table es → now ≡ before ++ labels_passed table es
unfolding labels_passed
labels-done table es i before now h so_far = sym (append-nil now) ∙ sym (ap (λ es. now ++ labels_passed table es) (drop_all i es h)) ∙ so_far
