-- An expression that is lowered is read alike whatever the names are of which the table tells.
use Rattle.std.specs.Prelude.{◌≡◌, ℕ, true, ◌&&◌, List, ◌∷◌, Option, Some, None, option_map}
use Rattle.std.proofs.Common.{refl, ap, sym, ◌∙◌, subst}
use Rattle.f_tree.specs.declared.names.Basic.{Basic}
use Rattle.f_tree.specs.declared.names.Class.{Class}
use Rattle.f_tree.specs.declared.names.Class.TheVariants as class
use Rattle.f_tree.specs.declared.expressions.Expr.{Expr, Int, Logical, Text, Name, Apply', Part', Minus', Plus', Not', Paren', Binary', AltReturn, Bind', Bound, Row_of-Expr, end_of-Expr, more_of-Expr}
use Rattle.f_tree.specs.Folds.{fold_expr, fold_exprs, fold_held}
use Rattle.f_tree.specs.Values.{Bytes, Datum}
use Rattle.f_tree.specs.Facts.{Attribute}
use Rattle.f_tree.specs.Terms.{Function, Before, Negate, Complement, refers}
use Rattle.f_tree.specs.Reading.{Read, read, valued_only, function_named, function_read, intrinsic_read, name_read, applied_read, binary_read, layer_read}
use Rattle.lowered_tree.specs.l_core.Pures as core
use Rattle.lowering.specs.Expressions as low
use Rattle.lowered_tree.specs.declared.steps.Step.{Step}
use Rattle.name_facts.specs.declared.table.NameFacts.{NameFacts}
use Rattle.name_facts.specs.GivenFacts.{IsNameFact, datum_of, fact_in}
use Rattle.expression_lowering.specs.declared.purpose.Purpose.{Purpose}
use Rattle.expression_lowering.specs.declared.purpose.Aspect.{Aspect}
use Rattle.expression_lowering.specs.declared.answers.Lowered.{Lowered}
use Rattle.expression_lowering.specs.Purposes.{purpose_of, aspect_term}
use Rattle.expression_lowering.specs.TableNames.{attribute_of, attribute_in, reading, name_lowers, applied_lowers, operator_lowers, all_lower, layer_lowers, is_lowered_value, AreFactsOf}
use Rattle.expression_lowering.specs.LoweredForms.{lowered, has_reference}
use Rattle.expression_lowering.specs.Outcomes.{IsLowered, IsLoweredFor}
use Rattle.expression_lowering.proofs.CoveredForms.{and-left, and-right}

name-alike : (c : Class) (d : Option Datum) (x : Bytes) (a b : Attribute) → name_lowers c ≡ true →
    name_read x (record a { class = c; constant = d }) ≡ name_read x (record b { class = c; constant = d })
unfolding name_read name_lowers
name-alike class.StatementFunction d x a b h = absurd (cc)
name-alike class.Constant None x a b h = refl
name-alike class.Constant (Some d) x a b h = refl
name-alike class.Procedure d x a b h = refl
name-alike class.DummyProcedure d x a b h = refl
name-alike class.Intrinsic d x a b h = refl
name-alike _ d x a b h = refl

intrinsic-alike : (o : Option Function) (basic : Basic) (width : Option ℕ) (x : Bytes) (a b : Attribute) (rs : List Read) →
    intrinsic_read x (record a { basic = basic; class = class.Intrinsic; width = width }) rs o ≡ intrinsic_read x (record b { basic = basic; class = class.Intrinsic; width = width }) rs o
unfolding intrinsic_read function_read
intrinsic-alike None basic width x a b rs = refl
intrinsic-alike (Some f) basic width x a b rs = refl

applied-alike : (c : Class) (basic : Basic) (width : Option ℕ) (x : Bytes) (a b : Attribute) (rs : List Read) → applied_lowers x c ≡ true →
    applied_read x (record a { basic = basic; class = c; width = width }) rs ≡ applied_read x (record b { basic = basic; class = c; width = width }) rs
unfolding applied_read applied_lowers function_read
applied-alike class.StatementFunction basic width x a b rs h = absurd (cc)
applied-alike class.Intrinsic basic width x a b rs h = intrinsic-alike (function_named x) basic width x a b rs
applied-alike class.Procedure basic width x a b rs h = refl
applied-alike class.DummyProcedure basic width x a b rs h = refl
applied-alike class.Result basic width x a b rs h = refl
applied-alike _ basic width x a b rs h = refl

with-constant : (a : Attribute) (c : Class) (d : Option Datum) → c ≡ a.class → d ≡ a.constant → record a { class = c; constant = d } ≡ a
with-constant a c d class constant = ap (λ c. record a { class = c; constant = d }) class ∙ ap (λ d. record a { class = a.class; constant = d }) constant

with-type : (a : Attribute) (basic : Basic) (c : Class) (width : Option ℕ) → basic ≡ a.basic → c ≡ a.class → width ≡ a.width →
    record a { basic = basic; class = c; width = width } ≡ a
with-type a basic c width one two three =
    ap (λ b. record a { basic = b; class = c; width = width }) one ∙ ap (λ c. record a { basic = a.basic; class = c; width = width }) two
    ∙ ap (λ w. record a { basic = a.basic; class = a.class; width = w }) three

name-agrees : (table : NameFacts) (a : Attribute) (x : Bytes) → IsNameFact a (fact_in table x) → name_lowers (fact_in table x).class ≡ true →
    name_read x a ≡ name_read x (attribute_in table x)
unfolding attribute_in attribute_of
name-agrees table a x is h =
    ap (name_read x) (sym (with-constant a (fact_in table x).class (option_map datum_of (fact_in table x).constant) is.class is.constant))
    ∙ name-alike (fact_in table x).class (option_map datum_of (fact_in table x).constant) x a (attribute_in table x) h

applied-agrees : (table : NameFacts) (a : Attribute) (x : Bytes) (rs : List Read) → IsNameFact a (fact_in table x) → applied_lowers x (fact_in table x).class ≡ true →
    applied_read x a rs ≡ applied_read x (attribute_in table x) rs
unfolding attribute_in attribute_of
applied-agrees table a x rs is h =
    ap (λ b. applied_read x b rs) (sym (with-type a (fact_in table x).basic (fact_in table x).class (fact_in table x).width is.basic is.class is.width))
    ∙ applied-alike (fact_in table x).class (fact_in table x).basic (fact_in table x).width x a (attribute_in table x) rs h

module _ (names : Bytes → Attribute) (table : NameFacts) (told : AreFactsOf names table) where
  mutual
    unfolding fold_expr fold_exprs fold_held layer_read layer_lowers all_lower

    tree-agrees : (e : Expr) → fold_expr (layer_lowers table) e ≡ true → fold_expr (layer_read names) e ≡ fold_expr (layer_read (attribute_in table)) e
    tree-agrees (Int z) h = refl
    tree-agrees (Logical b) h = refl
    tree-agrees (Text cs) h = refl
    tree-agrees (Name x) h = name-agrees table (names x) x (told.facts x) h
    tree-agrees (Apply' x s row) h =
        ap (applied_read x (names x)) (row-agrees row (and-right (applied_lowers x (fact_in table x).class) (all_lower (fold_exprs (layer_lowers table) row)) h))
        ∙ applied-agrees table (names x) x (fold_exprs (layer_read (attribute_in table)) row) (told.facts x)
        (and-left (applied_lowers x (fact_in table x).class) (all_lower (fold_exprs (layer_lowers table) row)) h)
    tree-agrees (Part' s (more_of-Expr e r) from to) h = absurd (cc)
    tree-agrees (Minus' s (more_of-Expr e r)) h = ap (λ (r : Read). valued_only (Before Negate r.value)) (tree-agrees e h)
    tree-agrees (Plus' s (more_of-Expr e r)) h = ap (λ (r : Read). valued_only r.value) (tree-agrees e h)
    tree-agrees (Not' s (more_of-Expr e r)) h = ap (λ (r : Read). valued_only (Before Complement r.value)) (tree-agrees e h)
    tree-agrees (Paren' s (more_of-Expr e r)) h = ap (λ (r : Read). record (valued_only r.value) { pieces = r.pieces }) (tree-agrees e h)
    tree-agrees (Binary' o s (more_of-Expr a r) t (more_of-Expr b q)) h =
        let both = and-right (operator_lowers o) (fold_expr (layer_lowers table) a && fold_expr (layer_lowers table) b) h in
        ap (λ r. binary_read o r (fold_expr (layer_read names) b)) (tree-agrees a (and-left (fold_expr (layer_lowers table) a) (fold_expr (layer_lowers table) b) both))
        ∙ ap (binary_read o (fold_expr (layer_read (attribute_in table)) a)) (tree-agrees b (and-right (fold_expr (layer_lowers table) a) (fold_expr (layer_lowers table) b) both))
    tree-agrees (AltReturn l) h = refl
    tree-agrees (Bind' s row t (more_of-Expr e q)) h = absurd (cc)
    tree-agrees (Bound k) h = absurd (cc)

    row-agrees : {m : _} (row : Row_of-Expr m) → all_lower (fold_exprs (layer_lowers table) row) ≡ true →
        fold_exprs (layer_read names) row ≡ fold_exprs (layer_read (attribute_in table)) row
    row-agrees end_of-Expr h = refl
    row-agrees (more_of-Expr e row) h =
        ap (λ r. r ∷ fold_exprs (layer_read names) row) (tree-agrees e (and-left (fold_expr (layer_lowers table) e) (all_lower (fold_exprs (layer_lowers table) row)) h))
        ∙ ap (λ rs. fold_expr (layer_read (attribute_in table)) e ∷ rs)
        (row-agrees row (and-right (fold_expr (layer_lowers table) e) (all_lower (fold_exprs (layer_lowers table) row)) h))

-- what is read of an expression that is lowered
pub read-agrees : (names : Bytes → Attribute) (table : NameFacts) → AreFactsOf names table → (e : Expr) → is_lowered_value table e ≡ true → read names e ≡ reading table e
unfolding is_lowered_value reading read
read-agrees names table told e h = tree-agrees names table told e h

pub outcome-lowered : (table : NameFacts) (a : Aspect) (purpose : Purpose) (k : ℕ) (e : Expr) (before after : List Step) (l : Lowered) →
    is_lowered_value table e ≡ true → IsLowered (lowered table a (purpose_of purpose) k e) before after l → IsLoweredFor table a purpose k e before after l
unfolding lowered
outcome-lowered table a purpose k e before after l h is = record {
  built = h;
  meant = λ names told.
      subst (λ (r : Read). IsLowered (low.lower core.NoPure (purpose_of purpose) k (aspect_term a r)) before after l) (sym (read-agrees names table told e h)) is;
}

pub reference-agrees : (names : Bytes → Attribute) (table : NameFacts) → AreFactsOf names table → (e : Expr) → is_lowered_value table e ≡ true →
    has_reference table e ≡ refers (read names e).value
unfolding has_reference
reference-agrees names table told e h = ap (λ (r : Read). refers r.value) (sym (read-agrees names table told e h))
