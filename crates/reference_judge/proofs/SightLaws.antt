-- What is seen of an expression by a table of the names is what is seen of it by what is known of them.
use Rattle.std.specs.Prelude.{◌≡◌, Bool, true, false, not, ◌&&◌, List, [], ◌∷◌, ◌++◌, map, Option, Some, None, option_map, is_some, if◌then◌else◌}
use Rattle.std.proofs.Common.{refl, sym, ap, ◌∙◌}
use Rattle.std.proofs.lemmas.List.{append-nil}
use Rattle.f_tree.specs.declared.names.Basic.{Basic}
use Rattle.f_tree.specs.declared.names.Class.{Class}
use Rattle.f_tree.specs.declared.names.Class.TheVariants as class
use Rattle.f_tree.specs.declared.refusals.Kind.{Kind}
use Rattle.f_tree.specs.declared.expressions.BinaryOp.{BinaryOp}
use Rattle.f_tree.specs.declared.expressions.BinaryOp.TheVariants as op
use Rattle.f_tree.specs.declared.expressions.Expr.{Expr, Int, Logical, Text, Name, Apply', Part', Minus', Plus', Not', Paren', Binary', AltReturn, Bind', Bound, Row_of-Expr, end_of-Expr, more_of-Expr, None', Some', Held-Expr-Part-1}
use Rattle.f_tree.specs.declared.statements.Body.{Body}
use Rattle.f_tree.specs.Folds.{fold_expr, fold_exprs, fold_held}
use Rattle.f_tree.specs.Values.{Bytes}
use Rattle.f_tree.specs.Facts.{Attribute}
use Rattle.f_tree.specs.Lines.{is_character}
use Rattle.f_tree.specs.Attributes.{option_list}
use Rattle.declaration_rows.specs.Judgement.{What, AValue, APlace, AnArray, AProcedureName, AFunctionName, AnExit, NoOperand, Judged, Known, a_value, a_place, no_operand, part_judged, both_wanted, compared, binary_judged, applied_judged, name_judged, layer_judged}
use Rattle.declaration_rows.specs.ReferenceRows as rows
use Rattle.declaration_rows.specs.ReferenceRows.{Reference, argument_kind_by, argument_kind, Sighted, judged_all, references_all, judged_layer, reference_of, references_of_layer, layer_sighted, sighted, references_in, parts_of, call_of}
use Rattle.expression_judge.specs.declared.names.Fact.{Fact}
use Rattle.expression_judge.specs.declared.names.Names.{Names}
use Rattle.expression_judge.specs.declared.intrinsics.Intrinsic.{Intrinsic}
use Rattle.expression_judge.specs.declared.operand.Found.{Found}
use Rattle.expression_judge.specs.Operands.{operand_of, found}
use Rattle.expression_judge.specs.SeenNames.{fact_in, function_in, is_bound_in, AreSeen}
use Rattle.expression_judge.specs.Intrinsics.{intrinsic_named}
use Rattle.expression_judge.specs.FoundSteps.{value_found, place_found, nothing_found, intrinsic_found, expanded_found, defined_found, reference_found, element_found, applied_found, name_judged_by}
use Rattle.expression_judge.proofs.FoundLaws.{name-found, applied-found}
use Rattle.reference_judge.specs.declared.arguments.Argument.{Argument}
use Rattle.reference_judge.specs.ArgumentsSeen.{kind_in, value_argument, exit_argument, operand_argument, found_argument, intrinsic_text, defined_text, applied_text, list_gives_text, joins_texts, Sight, all_references, option_references, kinds_of, reference_by, is_called_by_list, called_references, part_references, layer_argument, layer_references, layer_sight, sight_by}
use Rattle.reference_judge.specs.KnownBindings.{references_known}
use Rattle.reference_judge.specs.ReferencesSeen.{call_references, references_by}

-- WHAT IS SEEN of what is judged
unfoldable seen_as : Judged → Argument
seen_as j = found_argument (found j)

unfoldable seen : Sighted → Sight
seen s = record { argument = seen_as s.judged; references = s.references }

value_seen : (basic : Basic) (faults : List Kind) → seen_as (a_value basic faults) ≡ value_argument (is_character basic)
unfolding seen_as found_argument found a_value operand_of operand_argument
value_seen basic faults = refl

place_seen : (basic : Basic) (faults : List Kind) → seen_as (a_place basic faults) ≡ value_argument (is_character basic)
unfolding seen_as found_argument found a_place operand_of operand_argument
place_seen basic faults = refl

nothing_seen : (kind : Kind) (faults : List Kind) → seen_as (no_operand kind faults) ≡ value_argument false
unfolding seen_as found_argument found no_operand operand_of operand_argument is_character
nothing_seen kind faults = refl

text_of : (w : What) (b : Bool) → (operand_argument (operand_of w) b).is_text ≡ b
unfolding operand_argument operand_of value_argument
text_of AValue true = refl
text_of AValue false = refl
text_of APlace true = refl
text_of APlace false = refl
text_of (AnArray sized) true = refl
text_of (AnArray sized) false = refl
text_of AProcedureName b = refl
text_of AFunctionName b = refl
text_of (AnExit label) b = refl
text_of NoOperand true = refl
text_of NoOperand false = refl

is_text_seen : (j : Judged) → (seen_as j).is_text ≡ is_character j.basic
unfolding seen_as found_argument found
is_text_seen j = text_of j.what (is_character j.basic)

kind_of : (w : What) (b : Bool) → kind_in (operand_argument (operand_of w) b).kind ≡ argument_kind_by w b
unfolding operand_argument operand_of value_argument kind_in argument_kind_by
kind_of AValue true = refl
kind_of AValue false = refl
kind_of APlace true = refl
kind_of APlace false = refl
kind_of (AnArray sized) true = refl
kind_of (AnArray sized) false = refl
kind_of AProcedureName b = refl
kind_of AFunctionName b = refl
kind_of (AnExit label) b = refl
kind_of NoOperand true = refl
kind_of NoOperand false = refl

kind_seen : (j : Judged) → argument_kind j ≡ kind_in (seen_as j).kind
unfolding seen_as found_argument found argument_kind
kind_seen j = sym (kind_of j.what (is_character j.basic))

-- NAMES WITH A LIST
value_is : (basic : Basic) (o : Option Kind) → found_argument (value_found basic o) ≡ value_argument (is_character basic)
unfolding found_argument value_found operand_argument
value_is basic o = refl

place_is : (basic : Basic) (o : Option Kind) → found_argument (place_found basic o) ≡ value_argument (is_character basic)
unfolding found_argument place_found operand_argument
place_is basic o = refl

nothing_is : (kind : Kind) (o : Option Kind) → found_argument (nothing_found kind o) ≡ value_argument false
unfolding found_argument nothing_found operand_argument is_character
nothing_is kind o = refl

intrinsic_is : (o : Option Intrinsic) (fs : List Found) → found_argument (intrinsic_found o fs) ≡ value_argument (intrinsic_text o)
unfolding intrinsic_found intrinsic_text
intrinsic_is None fs = nothing_is _ _
intrinsic_is (Some i) fs = value_is i.gives _

defined_is : (fact : Fact) (b : Bool) (o : Option (List Basic)) (fs : List Found)
    → found_argument (defined_found fact b o fs) ≡ value_argument (not b && (is_some o && is_character fact.basic))
unfolding defined_found expanded_found
defined_is fact true o fs = nothing_is _ _
defined_is fact false None fs = nothing_is _ _
defined_is fact false (Some basics) fs = value_is fact.basic _

applied_by : (names : Names) (x : Bytes) (c : Class) (fact : Fact) (fs : List Found)
    → found_argument (applied_found names x (record fact { class = c }) fs) ≡ value_argument (applied_text names x c fact.basic)
unfolding applied_found applied_text defined_text reference_found element_found
applied_by names x class.Constant fact fs = nothing_is _ _
applied_by names x class.Unit fact fs = nothing_is _ _
applied_by names x class.Intrinsic fact fs = intrinsic_is (intrinsic_named x) fs
applied_by names x class.StatementFunction fact fs = defined_is (record fact { class = class.StatementFunction }) (is_bound_in names x) (function_in names x) fs
applied_by names x class.Procedure fact fs = value_is fact.basic _
applied_by names x class.DummyProcedure fact fs = value_is fact.basic _
applied_by names x class.Result fact fs = value_is fact.basic _
applied_by names x class.Stored fact fs = place_is fact.basic _
applied_by names x class.Dummy fact fs = place_is fact.basic _

joined_seen : (o : BinaryOp) (a b : Judged) → seen_as (binary_judged o a b) ≡ value_argument (joins_texts o)
unfolding binary_judged joins_texts both_wanted compared a_value seen_as found_argument found operand_of operand_argument is_character
joined_seen op.Power a b = refl
joined_seen op.Times a b = refl
joined_seen op.Divide a b = refl
joined_seen op.Plus a b = refl
joined_seen op.Minus a b = refl
joined_seen op.Concatenate a b = refl
joined_seen op.Less a b = refl
joined_seen op.LessOrEqual a b = refl
joined_seen op.Equal a b = refl
joined_seen op.NotEqual a b = refl
joined_seen op.Greater a b = refl
joined_seen op.GreaterOrEqual a b = refl
joined_seen op.And a b = refl
joined_seen op.Or a b = refl
joined_seen op.Equivalent a b = refl
joined_seen op.NotEquivalent a b = refl

-- REFERENCES
called_class : (c : Class) → is_called_by_list c ≡ elim c [ class.Procedure ↦ true | class.DummyProcedure ↦ true | class.Result ↦ true | _ ↦ false ]
unfolding is_called_by_list
called_class class.Constant = refl
called_class class.Stored = refl
called_class class.Dummy = refl
called_class class.Result = refl
called_class class.Procedure = refl
called_class class.DummyProcedure = refl
called_class class.StatementFunction = refl
called_class class.Intrinsic = refl
called_class class.Unit = refl

called_by : (a : Attribute) → is_called_by_list a.class ≡ rows.is_called_by_list a
unfolding rows.is_called_by_list
called_by a = called_class a.class

all_seen : (ss : List Sighted) → references_all ss ≡ all_references (map seen ss)
unfolding references_all all_references seen
all_seen [] = refl
all_seen (s ∷ ss) = ap (λ (rs : List Reference). s.references ++ rs) (all_seen ss)

kinds_seen : (ss : List Sighted) → map argument_kind (judged_all ss) ≡ kinds_of (map seen ss)
unfolding judged_all kinds_of seen
kinds_seen [] = refl
kinds_seen (s ∷ ss) = ap (λ k. k ∷ map argument_kind (judged_all ss)) (kind_seen s.judged) ∙ ap (λ ks. kind_in (seen_as s.judged).kind ∷ ks) (kinds_seen ss)

reference_seen : (x : Bytes) (ss : List Sighted) → reference_of x ss ≡ reference_by x (map seen ss)
unfolding reference_of reference_by
reference_seen x ss = ap (λ ks. record { name = x; arguments = ks }) (kinds_seen ss)

option_seen : (o : Option Sighted) → references_all (option_list o) ≡ option_references (option_map seen o)
unfolding references_all option_list option_references seen
option_seen None = refl
option_seen (Some s) = append-nil s.references

abbrev sight_of : Argument → List Reference → Sight
sight_of a rs = record { argument = a; references = rs }

same_sight : (a b : Argument) (rs qs : List Reference) → a ≡ b → rs ≡ qs → sight_of a rs ≡ sight_of b qs
same_sight a b rs qs one two = ap (λ c. sight_of c rs) one ∙ ap (sight_of b) two

-- THE WHOLE EXPRESSION, layer by layer
module _ (known : Known) (names : Names) (agree : AreSeen known names) where
  called_seen : (x : Bytes) (ss : List Sighted)
      → (if rows.is_called_by_list (known.attribute x) then reference_of x ss ∷ [] else []) ≡ called_references names x (map seen ss)
  unfolding called_references
  called_seen x ss =
      ap (λ (b : Bool). if b then reference_of x ss ∷ [] else []) (sym (called_by (known.attribute x)) ∙ ap is_called_by_list (sym (agree.facts x).class))
      ∙ ap (λ (r : Reference). if is_called_by_list (fact_in names x).class then r ∷ [] else []) (reference_seen x ss)

  applied_seen : (x : Bytes) (js : List Judged) → seen_as (applied_judged known x (known.attribute x) js) ≡ value_argument (list_gives_text names x)
  unfolding seen_as list_gives_text
  applied_seen x js = ap found_argument (applied-found known names agree x js) ∙ applied_by names x (fact_in names x).class (fact_in names x) (map found js)

  named_seen : (x : Bytes) → seen_as (name_judged known x (known.attribute x)) ≡ found_argument (name_judged_by names x)
  unfolding seen_as
  named_seen x = ap found_argument (name-found known names agree x)

  layer_Apply : (x : Bytes) (ss : List Sighted)
      → sight_of (seen_as (applied_judged known x (known.attribute x) (judged_all ss))) (references_all ss ++ (if rows.is_called_by_list (known.attribute x) then reference_of x ss ∷ [] else []))
      ≡ sight_of (value_argument (list_gives_text names x)) (all_references (map seen ss) ++ called_references names x (map seen ss))
  layer_Apply x ss =
      same_sight _ _ _ _ (applied_seen x (judged_all ss))
      (ap (λ (rs : List Reference). rs ++ (if rows.is_called_by_list (known.attribute x) then reference_of x ss ∷ [] else [])) (all_seen ss)
      ∙ ap (λ (rs : List Reference). all_references (map seen ss) ++ rs) (called_seen x ss))

  mutual
    unfolding fold_expr fold_exprs fold_held layer_sighted judged_layer references_of_layer layer_judged layer_sight layer_argument layer_references part_references seen part_judged seen_as found_argument found a_value a_place no_operand operand_of operand_argument exit_argument is_character

    tree_seen : (e : Expr) → seen (fold_expr (layer_sighted known) e) ≡ fold_expr (layer_sight names) e
    tree_seen (Int z) = refl
    tree_seen (Logical b) = refl
    tree_seen (Text t) = refl
    tree_seen (Name x) = ap (λ a. sight_of a []) (named_seen x)
    tree_seen (Apply' x s row) =
        layer_Apply x (fold_exprs (layer_sighted known) row)
        ∙ ap (λ (ts : List Sight). sight_of (value_argument (list_gives_text names x)) (all_references ts ++ called_references names x ts)) (row_seen row)
    tree_seen (Part' s (more_of-Expr e r) from to) =
        let base = fold_expr (layer_sighted known) e in
        ap (λ (rs : List Reference). sight_of (value_argument true) (base.references ++ rs))
        (ap (λ (rs : List Reference). rs ++ references_all (option_list (fold_held (layer_sighted known) to))) (option_seen (fold_held (layer_sighted known) from))
        ∙ ap (λ (rs : List Reference). option_references (option_map seen (fold_held (layer_sighted known) from)) ++ rs) (option_seen (fold_held (layer_sighted known) to)))
        ∙ ap (λ (t : Sight). sight_of (value_argument true) (t.references ++ (option_references (option_map seen (fold_held (layer_sighted known) from)) ++ option_references (option_map seen (fold_held (layer_sighted known) to))))) (tree_seen e)
        ∙ ap (λ (o : Option Sight). sight_of (value_argument true) ((fold_expr (layer_sight names) e).references ++ (option_references o ++ option_references (option_map seen (fold_held (layer_sighted known) to))))) (held_seen from)
        ∙ ap (λ (o : Option Sight). sight_of (value_argument true) ((fold_expr (layer_sight names) e).references ++ (option_references (fold_held (layer_sight names) from) ++ option_references o))) (held_seen to)
    tree_seen (Minus' s (more_of-Expr e r)) = ap (λ (t : Sight). sight_of (value_argument false) t.references) (tree_seen e)
    tree_seen (Plus' s (more_of-Expr e r)) = ap (λ (t : Sight). sight_of (value_argument false) t.references) (tree_seen e)
    tree_seen (Not' s (more_of-Expr e r)) = ap (λ (t : Sight). sight_of (value_argument false) t.references) (tree_seen e)
    tree_seen (Paren' s (more_of-Expr e r)) =
        ap (λ (b : Bool). sight_of (value_argument b) (fold_expr (layer_sighted known) e).references) (sym (is_text_seen (fold_expr (layer_sighted known) e).judged))
        ∙ ap (λ (t : Sight). sight_of (value_argument t.argument.is_text) t.references) (tree_seen e)
    tree_seen (Binary' o s (more_of-Expr a r) t (more_of-Expr b q)) =
        ap (λ c. sight_of c ((fold_expr (layer_sighted known) a).references ++ (fold_expr (layer_sighted known) b).references))
        (joined_seen o (fold_expr (layer_sighted known) a).judged (fold_expr (layer_sighted known) b).judged)
        ∙ ap (λ (t : Sight). sight_of (value_argument (joins_texts o)) (t.references ++ (fold_expr (layer_sighted known) b).references)) (tree_seen a)
        ∙ ap (λ (t : Sight). sight_of (value_argument (joins_texts o)) ((fold_expr (layer_sight names) a).references ++ t.references)) (tree_seen b)
    tree_seen (AltReturn l) = refl
    tree_seen (Bind' s row t (more_of-Expr e q)) = refl
    tree_seen (Bound k) = refl

    row_seen : {m : _} (row : Row_of-Expr m) → map seen (fold_exprs (layer_sighted known) row) ≡ fold_exprs (layer_sight names) row
    row_seen end_of-Expr = refl
    row_seen (more_of-Expr e row) =
        ap (λ c. c ∷ map seen (fold_exprs (layer_sighted known) row)) (tree_seen e) ∙ ap (λ cs. fold_expr (layer_sight names) e ∷ cs) (row_seen row)

    held_seen : (h : Held-Expr-Part-1) → option_map seen (fold_held (layer_sighted known) h) ≡ fold_held (layer_sight names) h
    held_seen None' = refl
    held_seen (Some' p (more_of-Expr e r)) = ap Some (tree_seen e)

  expression_seen : (e : Expr) → seen (sighted known e) ≡ sight_by names e
  unfolding sighted sight_by
  expression_seen e = tree_seen e

  expressions_seen : (es : List Expr) → map seen (map (sighted known) es) ≡ map (sight_by names) es
  expressions_seen [] = refl
  expressions_seen (e ∷ es) = ap (λ t. t ∷ map seen (map (sighted known) es)) (expression_seen e) ∙ ap (λ ts. sight_by names e ∷ ts) (expressions_seen es)

  call_seen : (o : Option (Bytes × List Expr)) → call_references names o ≡ call_of known o
  unfolding call_references call_of
  call_seen None = refl
  call_seen (Some c) = sym (ap (λ r. r ∷ []) (reference_seen c.0 (map (sighted known) c.1) ∙ ap (reference_by c.0) (expressions_seen c.1)))

  -- the references of a statement
  pub statement_seen : (b : Body) → references_by names b ≡ references_known known b
  unfolding references_by references_known references_in
  statement_seen b =
      ap (λ (rs : List Reference). rs ++ call_references names (parts_of b).call)
      (sym (all_seen (map (sighted known) (parts_of b).expressions) ∙ ap all_references (expressions_seen (parts_of b).expressions)))
      ∙ ap (λ (rs : List Reference). references_all (map (sighted known) (parts_of b).expressions) ++ rs) (call_seen (parts_of b).call)
