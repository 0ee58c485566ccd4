-- The calls that are seen by a table of the names are those that the unit makes.
use Rattle.std.specs.Prelude.{◌≡◌, Bool, true, false, not, List, [], ◌∷◌, map, Option, Some, None, if◌then◌else◌}
use Rattle.std.proofs.Common.{refl, sym, ap, ◌∙◌}
use Rattle.std.proofs.Math.Path.{fun_ext}
use Rattle.f_tree.specs.declared.names.Basic.{Basic}
use Rattle.f_tree.specs.declared.names.Class.{Class}
use Rattle.f_tree.specs.declared.expressions.Expr.{Expr}
use Rattle.f_tree.specs.declared.statements.Body.{Body, Assign, IfOne', more_of-Body}
use Rattle.f_tree.specs.declared.units.Unit.{Unit as WrittenUnit}
use Rattle.f_tree.specs.Folds.{layer_of}
use Rattle.f_tree.specs.Values.{Bytes}
use Rattle.f_tree.specs.Uses.{is_among, heading_of, defines_function}
use Rattle.f_tree.specs.Attributes.{Definition, definitions_in, definition_by, arrays_of}
use Rattle.call_shapes.specs.declaration_rows.Judgement.{What, AValue, APlace, AnArray, AProcedureName, AFunctionName, AnExit, NoOperand, Known, judge}
use Rattle.call_shapes.specs.declaration_rows.NameRows.{own_attributes, known_in, known_within}
use Rattle.call_shapes.specs.declaration_rows.ReferenceRows.{known_for}
use Rattle.expression_judge.specs.declared.names.Names.{Names}
use Rattle.expression_judge.specs.declared.operand.Found.{Found}
use Rattle.expression_judge.specs.Operands.{operand_of, found}
use Rattle.expression_judge.specs.SeenNames.{unit_fact, function_in, dummy_in, AreSeen}
use Rattle.expression_judge.proofs.FoundLaws.{expression-found}
use Rattle.reference_judge.specs.KnownBindings.{bound_basic, known_with, defined_target}
use Rattle.reference_judge.proofs.BindingLaws.{seen_within, known_by}
use Rattle.call_shapes.specs.declared.shapes.Argument.{Argument}
use Rattle.call_shapes.specs.declared.shapes.NamedShape.{NamedShape}
use Rattle.call_shapes.specs.declared.shapes.ShapeResult.{ShapeResult}
use Rattle.call_shapes.specs.declared.shapes.ShapeResult.TheVariants.{Subroutine, Function}
use Rattle.call_shapes.specs.CallsMade.{argument_by, actual_argument, is_procedure_class, call_as, function_call, subroutine_call, calls_of_body, calls_known, calls_of_statement}
use Rattle.call_check.specs.CallsSeen.{argument_found, seen_argument, shape_seen, seen_as, seen_function, seen_subroutine, seen_calls}

argument_is : (w : What) (basic : Basic) → argument_found (operand_of w) basic ≡ argument_by w basic
unfolding argument_found operand_of argument_by
argument_is AValue basic = refl
argument_is APlace basic = refl
argument_is (AnArray sized) basic = refl
argument_is AProcedureName basic = refl
argument_is AFunctionName basic = refl
argument_is (AnExit label) basic = refl
argument_is NoOperand basic = refl

module _ (known : Known) (names : Names) (agree : AreSeen known names) where
  argument_seen : (e : Expr) → seen_argument names e ≡ actual_argument known e
  unfolding seen_argument actual_argument found
  argument_seen e =
      sym (ap (λ (f : Found). argument_found f.what f.basic) (expression-found known names agree e)) ∙ argument_is (judge known e).what (judge known e).basic

  abbrev as_called : ShapeResult → Class → (Expr → Argument) → Bytes → List Expr → List NamedShape
  as_called result class argument x es =
      if is_procedure_class class then record { name = x; shape = record { result = result; arguments = map argument es } } ∷ [] else []

  seen_called : (result : ShapeResult) (x : Bytes) (es : List Expr) → seen_as result names x es ≡ call_as result known x es
  unfolding seen_as shape_seen call_as
  seen_called result x es =
      ap (λ (c : Class). as_called result c (seen_argument names) x es) (agree.facts x).class
      ∙ ap (λ (f : Expr → Argument). as_called result (known.attribute x).class f x es) (fun_ext argument_seen)

  function_seen : seen_function names ≡ function_call known
  unfolding seen_function function_call
  function_seen = fun_ext λ x. fun_ext λ es.
      ap (λ (b : Basic). seen_as (Function b) names x es) (agree.facts x).basic ∙ seen_called (Function (known.attribute x).basic) x es

  subroutine_seen : seen_subroutine names ≡ subroutine_call known
  unfolding seen_subroutine subroutine_call
  subroutine_seen = fun_ext λ x. fun_ext λ es. seen_called Subroutine x es

  pub statement_seen : (b : Body) → seen_calls names b ≡ calls_known known b
  unfolding seen_calls calls_known
  statement_seen b =
      ap (λ (f : Bytes → List Expr → List NamedShape). calls_of_body f (seen_function names) b) subroutine_seen
      ∙ ap (λ (f : Bytes → List Expr → List NamedShape). calls_of_body (subroutine_call known) f b) function_seen

-- the calls in a definition, by a table of the names with its dummy arguments
pub calls_within_definition : (u : WrittenUnit) (old new : Names) (b : Body) (ds ys : List Bytes) → AreSeen (known_in u) old → ((x : Bytes) → unit_fact new x ≡ unit_fact old x)
    → ((x : Bytes) → function_in new x ≡ function_in old x) → ((x : Bytes) → dummy_in new x ≡ bound_basic (own_attributes u) ds x) → ds ≡ ys
    → seen_calls new b ≡ calls_known (known_with u ys) b
calls_within_definition u old new b ds ys known facts functions bound is =
    statement_seen (known_with u ds) new (seen_within u old new known facts functions ds bound) b ∙ ap (λ (zs : List Bytes). calls_known (known_with u zs) b) is

-- WHAT A STATEMENT DEFINES
abbrev has_definition : Option Bytes → List Bytes → Bool
has_definition o arrays = elim o [ None ↦ false | Some x ↦ not (is_among x arrays) ]

abbrev definition_named : Option Bytes → List Bytes → Expr → List Definition
definition_named o ds e = elim o [ None ↦ [] | Some x ↦ record { name = x; dummies = ds; body = e } ∷ [] ]

known_named : (u : WrittenUnit) (o : Option Bytes) (ds : List Bytes) (e : Expr) (arrays : List Bytes) → has_definition o arrays ≡ true
    → known_for u (definition_named o ds e) ≡ known_with u ds
unfolding known_for known_with known_within
known_named u None ds e arrays h = absurd (cc)
known_named u (Some x) ds e arrays h = refl

known_if : (u : WrittenUnit) (target e : Expr) (arrays : List Bytes) (b : Bool) → b ≡ defines_function arrays (heading_of target)
    → known_for u (if b then definition_by (heading_of target) e else []) ≡ known_by u (if b then Some target else None)
unfolding known_by known_for definition_by defines_function
known_if u target e arrays true is = known_named u (heading_of target).applied (heading_of target).arguments e arrays (sym is)
known_if u target e arrays false is = refl

known_is : (u : WrittenUnit) (b : Body) → known_for u (definitions_in (arrays_of u) b) ≡ known_by u (defined_target (arrays_of u) b)
unfolding definitions_in defined_target layer_of known_for known_by
known_is u (Assign target e) = known_if u target e (arrays_of u) (defines_function (arrays_of u) (heading_of target)) refl
known_is u (IfOne' e s (more_of-Body b r)) = refl
known_is u _ = refl

calls_are : (u : WrittenUnit) (b : Body) → calls_known (known_for u (definitions_in (arrays_of u) b)) b ≡ calls_of_statement u b
unfolding calls_of_statement
calls_are u b = refl

-- the calls of a statement by its target, if it defines a statement function
pub defined_calls : (u : WrittenUnit) (b : Body) (arrays : List Bytes) (o : Option Expr) → arrays ≡ arrays_of u → o ≡ defined_target arrays b
    → calls_known (known_by u o) b ≡ calls_of_statement u b
defined_calls u b arrays o named is =
    ap (λ (p : Option Expr). calls_known (known_by u p) b) (is ∙ ap (λ (xs : List Bytes). defined_target xs b) named)
    ∙ ap (λ (known : Known). calls_known known b) (sym (known_is u b)) ∙ calls_are u b
