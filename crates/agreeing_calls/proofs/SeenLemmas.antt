-- What an expression that breaks no row is judged to be does not depend on how its statement functions expand, nor on those that are defined later.
use Rattle.std.specs.Prelude.{◌≡◌, ℕ, suc, Bool, true, false, is_some, List, [], ◌∷◌, ◌++◌, bytes_eq, Option, Some, None, if◌then◌else◌}
use Rattle.std.proofs.Common.{refl, sym, ap, ◌∙◌, subst}
use Rattle.call_shapes.specs.f_tree.declared.names.Basic.{Basic}
use Rattle.call_shapes.specs.f_tree.declared.names.Class.{Class}
use Rattle.call_shapes.specs.f_tree.declared.names.Class.TheVariants as class
use Rattle.call_shapes.specs.f_tree.declared.expressions.BinaryOp.{BinaryOp}
use Rattle.call_shapes.specs.f_tree.declared.expressions.BinaryOp.TheVariants as op
use Rattle.call_shapes.specs.f_tree.declared.expressions.Expr.{Expr, Int, Logical as TruthValue, Text, Name, Apply', Part', Minus', Plus', Not', Paren', Binary', AltReturn, Bind', Bound as BoundValue, more_of-Expr}
use Rattle.call_shapes.specs.f_tree.Folds.{fold_expr, fold_exprs}
use Rattle.call_shapes.specs.f_tree.Values.{Bytes}
use Rattle.call_shapes.specs.f_tree.Terms.{Function, Term}
use Rattle.call_shapes.specs.f_tree.Facts.{Dimension, Attribute}
use Rattle.call_shapes.specs.f_tree.Reading.{function_named}
use Rattle.call_shapes.specs.f_tree.Attributes.{Expansion, bound_term, dummy_among, expanded_as, with_expansions, Definition}
use Rattle.call_shapes.specs.f_tree.Lines.{Naming}
use Rattle.call_shapes.specs.declaration_rows.Judgement.{Judged, Known, a_value, a_place, no_operand, wants_one, variable_judged, function_name, bound_judged, name_judged, intrinsic_judged, expanded_judged, defined_judged, reference_judged, element_judged, applied_judged, part_judged, both_wanted, compared, binary_judged, layer_judged, judge}
use Rattle.call_shapes.specs.declaration_rows.NameRows.{Signature, signature_among, dummy_or, unless_dummy, known_within}
use Rattle.call_shapes.specs.CallsMade.{argument_by, actual_argument}
use Rattle.declaration_laws.proofs.ExpressionFits.{none_of_both}
use Rattle.agreeing_calls.proofs.AgreementLemmas.{argument_of_judged}
use Rattle.agreeing_calls.proofs.TreeLemmas.{IsSeen}

-- what an expression is, with its type
pub data SameJudged : Judged → Judged → Type 0 where
  same_judged : (i j : Judged) → i.what ≡ j.what → i.basic ≡ j.basic → SameJudged i j

-- what is known of a name but for its expansion; and the functions that are known are known there too
pub record IsAlike (known seen : Known) : Type 0 where
  pub expands : Bytes → Option Term
  pub attributes : (x : Bytes) → seen.attribute x ≡ record (known.attribute x) { expansion = expands x }
  pub bound : (x : Bytes) → seen.is_bound x ≡ known.is_bound x
  pub functions : (x : Bytes) (basics : List Basic) → known.dummies x ≡ Some basics → seen.dummies x ≡ Some basics

module _ (known seen : Known) (alike : IsAlike known seen) where
  variable_same : (a : Attribute) (t : Option Term) (ds : List Dimension) → SameJudged (variable_judged (record a { expansion = t }) ds) (variable_judged a ds)
  unfolding variable_judged a_place
  variable_same a t [] = same_judged _ _ refl refl
  variable_same a t (d ∷ ds) = same_judged _ _ refl refl

  bound_same : (a : Attribute) (t : Option Term) (b other : Bool) → b ≡ other → SameJudged (bound_judged (record a { expansion = t }) b) (bound_judged a other)
  unfolding bound_judged a_value function_name
  bound_same a t true true is = same_judged _ _ refl refl
  bound_same a t false false is = same_judged _ _ refl refl
  bound_same a t true false is = absurd (cc)
  bound_same a t false true is = absurd (cc)

  name_by : (k : Class) (x : Bytes) (a : Attribute) (t : Option Term) →
      SameJudged (name_judged seen x (record a { class = k; expansion = t })) (name_judged known x (record a { class = k }))
  unfolding name_judged a_value function_name no_operand
  name_by class.Constant x a t = same_judged _ _ refl refl
  name_by class.Procedure x a t = same_judged _ _ refl refl
  name_by class.DummyProcedure x a t = same_judged _ _ refl refl
  name_by class.Intrinsic x a t = same_judged _ _ refl refl
  name_by class.StatementFunction x a t = bound_same (record a { class = class.StatementFunction }) t (seen.is_bound x) (known.is_bound x) (alike.bound x)
  name_by class.Unit x a t = same_judged _ _ refl refl
  name_by class.Stored x a t = variable_same (record a { class = class.Stored }) t a.dimensions
  name_by class.Dummy x a t = variable_same (record a { class = class.Dummy }) t a.dimensions
  name_by class.Result x a t = variable_same (record a { class = class.Result }) t a.dimensions

  name_same : (x : Bytes) → SameJudged (name_judged seen x (seen.attribute x)) (name_judged known x (known.attribute x))
  name_same x =
      subst (λ a. SameJudged (name_judged seen x a) (name_judged known x (known.attribute x))) (sym (alike.attributes x))
      (name_by (known.attribute x).class x (known.attribute x) (alike.expands x))

  intrinsic_same : (o : Option Function) (is js : List Judged) → (intrinsic_judged o js).faults ≡ [] → SameJudged (intrinsic_judged o is) (intrinsic_judged o js)
  unfolding intrinsic_judged a_value no_operand
  intrinsic_same None is js none = absurd (cc)
  intrinsic_same (Some f) is js none = same_judged _ _ refl refl

  expanded_same : (a : Attribute) (t : Option Term) (o p : Option (List Basic)) (is js : List Judged) → ((basics : List Basic) → p ≡ Some basics → o ≡ Some basics) →
      (expanded_judged a p js).faults ≡ [] → SameJudged (expanded_judged (record a { expansion = t }) o is) (expanded_judged a p js)
  unfolding expanded_judged a_value no_operand
  expanded_same a t o None is js more none = absurd (cc)
  expanded_same a t None (Some basics) is js more none = absurd (let bad : None ≡ Some basics = more basics refl in cc)
  expanded_same a t (Some others) (Some basics) is js more none = same_judged _ _ refl refl

  defined_same : (x : Bytes) (a : Attribute) (t : Option Term) (b other : Bool) (is js : List Judged) → b ≡ other → (defined_judged known x a other js).faults ≡ [] →
      SameJudged (defined_judged seen x (record a { expansion = t }) b is) (defined_judged known x a other js)
  unfolding defined_judged no_operand
  defined_same x a t b true is js same none = absurd (cc)
  defined_same x a t true false is js same none = absurd (cc)
  defined_same x a t false false is js same none = expanded_same a t (seen.dummies x) (known.dummies x) is js (alike.functions x) none

  applied_by : (k : Class) (x : Bytes) (a : Attribute) (t : Option Term) (is js : List Judged) → (applied_judged known x (record a { class = k }) js).faults ≡ [] →
      SameJudged (applied_judged seen x (record a { class = k; expansion = t }) is) (applied_judged known x (record a { class = k }) js)
  unfolding applied_judged a_value a_place no_operand reference_judged element_judged
  applied_by class.Constant x a t is js none = absurd (cc)
  applied_by class.Unit x a t is js none = absurd (cc)
  applied_by class.Intrinsic x a t is js none = intrinsic_same (function_named x) is js none
  applied_by class.StatementFunction x a t is js none =
      defined_same x (record a { class = class.StatementFunction }) t (seen.is_bound x) (known.is_bound x) is js (alike.bound x) none
  applied_by class.Procedure x a t is js none = same_judged _ _ refl refl
  applied_by class.DummyProcedure x a t is js none = same_judged _ _ refl refl
  applied_by class.Result x a t is js none = same_judged _ _ refl refl
  applied_by class.Stored x a t is js none = same_judged _ _ refl refl
  applied_by class.Dummy x a t is js none = same_judged _ _ refl refl

  applied_same : (x : Bytes) (is js : List Judged) → (applied_judged known x (known.attribute x) js).faults ≡ [] →
      SameJudged (applied_judged seen x (seen.attribute x) is) (applied_judged known x (known.attribute x) js)
  applied_same x is js none =
      subst (λ a. SameJudged (applied_judged seen x a is) (applied_judged known x (known.attribute x) js)) (sym (alike.attributes x))
      (applied_by (known.attribute x).class x (known.attribute x) (alike.expands x) is js none)

  binary_same : (o : BinaryOp) (a b p q : Judged) → SameJudged (binary_judged o a b) (binary_judged o p q)
  unfolding binary_judged both_wanted compared a_value
  binary_same op.Power a b p q = same_judged _ _ refl refl
  binary_same op.Times a b p q = same_judged _ _ refl refl
  binary_same op.Divide a b p q = same_judged _ _ refl refl
  binary_same op.Plus a b p q = same_judged _ _ refl refl
  binary_same op.Minus a b p q = same_judged _ _ refl refl
  binary_same op.Concatenate a b p q = same_judged _ _ refl refl
  binary_same op.Less a b p q = same_judged _ _ refl refl
  binary_same op.LessOrEqual a b p q = same_judged _ _ refl refl
  binary_same op.Equal a b p q = same_judged _ _ refl refl
  binary_same op.NotEqual a b p q = same_judged _ _ refl refl
  binary_same op.Greater a b p q = same_judged _ _ refl refl
  binary_same op.GreaterOrEqual a b p q = same_judged _ _ refl refl
  binary_same op.And a b p q = same_judged _ _ refl refl
  binary_same op.Or a b p q = same_judged _ _ refl refl
  binary_same op.Equivalent a b p q = same_judged _ _ refl refl
  binary_same op.NotEquivalent a b p q = same_judged _ _ refl refl

  paren_same : (i j : Judged) → SameJudged i j → SameJudged (a_value i.basic (i.faults ++ wants_one i.what)) (a_value j.basic (j.faults ++ wants_one j.what))
  unfolding a_value
  paren_same i j (same_judged _ _ what basic) = same_judged _ _ refl basic

  tree_same : (e : Expr) → (fold_expr (layer_judged known) e).faults ≡ [] → SameJudged (fold_expr (layer_judged seen) e) (fold_expr (layer_judged known) e)
  unfolding fold_expr layer_judged a_value a_place no_operand part_judged
  tree_same (Int z) none = same_judged _ _ refl refl
  tree_same (TruthValue b) none = same_judged _ _ refl refl
  tree_same (Text cs) none = same_judged _ _ refl refl
  tree_same (Name x) none = name_same x
  tree_same (Apply' x s row) none = applied_same x (fold_exprs (layer_judged seen) row) (fold_exprs (layer_judged known) row) none
  tree_same (Part' s (more_of-Expr e r) from to) none = same_judged _ _ refl refl
  tree_same (Minus' s (more_of-Expr e r)) none = same_judged _ _ refl refl
  tree_same (Plus' s (more_of-Expr e r)) none = same_judged _ _ refl refl
  tree_same (Not' s (more_of-Expr e r)) none = same_judged _ _ refl refl
  tree_same (Paren' s (more_of-Expr e r)) none =
      paren_same (fold_expr (layer_judged seen) e) (fold_expr (layer_judged known) e)
      (tree_same e (none_of_both (fold_expr (layer_judged known) e).faults (wants_one (fold_expr (layer_judged known) e).what) none).0)
  tree_same (Binary' o s (more_of-Expr a r) t (more_of-Expr b q)) none = binary_same o _ _ _ _
  tree_same (AltReturn l) none = same_judged _ _ refl refl
  tree_same (Bind' s row t (more_of-Expr e q)) none = absurd (cc)
  tree_same (BoundValue k) none = absurd (cc)

  argument_same : (i j : Judged) → SameJudged i j → argument_by i.what i.basic ≡ argument_of_judged j
  unfolding argument_of_judged
  argument_same i j (same_judged _ _ what basic) = ap (λ w. argument_by w i.basic) what ∙ ap (λ b. argument_by j.what b) basic

  pub alike_seen : IsSeen known seen
  unfolding actual_argument judge
  alike_seen = record {
    classes = λ x. ap (λ a. a.class) (alike.attributes x);
    basics = λ x. ap (λ a. a.basic) (alike.attributes x);
    judged = λ e none. argument_same (fold_expr (layer_judged seen) e) (fold_expr (layer_judged known) e) (tree_same e none);
  }

-- IN A DEFINITION. The dummy arguments do not depend on the expansions before it
dummy_step : (own : Naming) (es : List Expansion) (k : ℕ) (y : Bytes) (ys : List Bytes) (x : Bytes) (b : Bool) →
    dummy_among (with_expansions own es) (suc k) ys x ≡ dummy_among own (suc k) ys x →
    (if b then Some (bound_term (with_expansions own es y) k) else dummy_among (with_expansions own es) (suc k) ys x) ≡
    (if b then Some (bound_term (own y) k) else dummy_among own (suc k) ys x)
unfolding bound_term with_expansions
dummy_step own es k y ys x true later = refl
dummy_step own es k y ys x false later = later

dummies_alike : (own : Naming) (es : List Expansion) (k : ℕ) (ys : List Bytes) (x : Bytes) → dummy_among (with_expansions own es) k ys x ≡ dummy_among own k ys x
unfolding dummy_among
dummies_alike own es k [] x = refl
dummies_alike own es k (y ∷ ys) x = dummy_step own es k y ys x (bytes_eq y x) (dummies_alike own es (suc k) ys x)

unfoldable expanded_then : Option Term → Option Term → Option Term
expanded_then given None = given
expanded_then given (Some t) = Some t

attribute_alike : (given own : Naming) (es : List Expansion) (x : Bytes) (o : Option Term) → dummy_or (given x) (own x) o ≡
    record (dummy_or (with_expansions given es x) (with_expansions own es x) o) { expansion = expanded_then (given x).expansion o }
unfolding dummy_or with_expansions expanded_as expanded_then
attribute_alike given own es x None = refl
attribute_alike given own es x (Some t) = refl

signature_step : (x : Bytes) (s : Signature) (ss more : List Signature) (basics : List Basic) (b : Bool) →
    (if b then Some s.basics else signature_among x ss) ≡ Some basics → (signature_among x ss ≡ Some basics → signature_among x (ss ++ more) ≡ Some basics) →
    (if b then Some s.basics else signature_among x (ss ++ more)) ≡ Some basics
signature_step x s ss more basics true is later = is
signature_step x s ss more basics false is later = later is

pub signature_more : (x : Bytes) (ss more : List Signature) (basics : List Basic) → signature_among x ss ≡ Some basics → signature_among x (ss ++ more) ≡ Some basics
unfolding signature_among
signature_more x [] more basics is = absurd (cc)
signature_more x (s ∷ ss) more basics is = signature_step x s ss more basics (bytes_eq s.name x) is (λ later. signature_more x ss more basics later)

unless_more : (o p : Option (List Basic)) (t : Option Term) (basics : List Basic) → (o ≡ Some basics → p ≡ Some basics) → unless_dummy o t ≡ Some basics →
    unless_dummy p t ≡ Some basics
unfolding unless_dummy
unless_more o p None basics more is = more is
unless_more o p (Some t) basics more is = absurd (cc)

pub within_alike : (given own : Naming) (es : List Expansion) (ss more all : List Signature) (d : Definition) → ss ++ more ≡ all →
    IsAlike (known_within (with_expansions given es) (with_expansions own es) ss d) (known_within given own all d)
unfolding known_within
within_alike given own es ss more all d is = record {
  expands = λ x. expanded_then (given x).expansion (dummy_among own 0 d.dummies x);
  attributes = λ x.
      attribute_alike given own es x (dummy_among own 0 d.dummies x) ∙
      ap (λ o. record (dummy_or (with_expansions given es x) (with_expansions own es x) o) { expansion = expanded_then (given x).expansion (dummy_among own 0 d.dummies x) })
      (sym (dummies_alike own es 0 d.dummies x));
  bound = λ x. ap is_some (sym (dummies_alike own es 0 d.dummies x));
  functions = λ x basics known.
      subst (λ o. unless_dummy (signature_among x all) o ≡ Some basics) (dummies_alike own es 0 d.dummies x)
      (unless_more (signature_among x ss) (signature_among x all) (dummy_among (with_expansions own es) 0 d.dummies x) basics
      (λ here. subst (λ z. signature_among x z ≡ Some basics) is (signature_more x ss more basics here)) known);
}

pub same_seen : (known : Known) → IsSeen known known
unfolding actual_argument argument_of_judged judge
same_seen known = record { classes = λ x. refl; basics = λ x. refl; judged = λ e none. refl }
