-- The table of a unit's names and the names themselves tell alike which statements are lowered.
use mathlib.Core.Path.{fun_ext}
use Rattle.std.specs.List.{list_all}
use Rattle.std.specs.Prelude.{◌≡◌, Bool, not, ◌&&◌, ◌||◌, List, [], ◌∷◌, map, Option, Some, None}
use Rattle.std.proofs.Common.{refl, ap, ◌∙◌}
use Rattle.f_tree.specs.declared.expressions.Expr.{Expr}
use Rattle.f_tree.specs.declared.expressions.Expr.TheOpen as expr
use Rattle.f_tree.specs.declared.names.Basic.{Basic}
use Rattle.f_tree.specs.declared.names.Class.{Class}
use Rattle.f_tree.specs.declared.statements.Body.{Body}
use Rattle.f_tree.specs.declared.statements.Body.TheOpen as body
use Rattle.f_tree.specs.declared.statements.Control.{Control}
use Rattle.f_tree.specs.declared.statements.ControlValue.{ControlValue}
use Rattle.f_tree.specs.declared.statements.ControlValue.TheVariants as value
use Rattle.f_tree.specs.declared.statements.ListItem.{ListItem}
use Rattle.f_tree.specs.declared.statements.ListItem.TheOpen as item
use Rattle.f_tree.specs.declared.statements.LoopControl.{LoopControl}
use Rattle.f_tree.specs.declared.statements.Stmt.{Stmt}
use Rattle.f_tree.specs.Values.{Bytes}
use Rattle.f_tree.specs.Folds.{fold_expr, fold_item, fold_body}
use Rattle.f_tree.specs.Lines.{Naming}
use Rattle.f_tree.specs.Uses.{heading_of}
use Rattle.name_facts.specs.declared.table.NameFacts.{NameFacts}
use Rattle.name_facts.specs.GivenFacts.{fact_in}
use Rattle.expression_lowering.specs.TableNames as told
use Rattle.expression_lowering.specs.TableNames.{AreFactsOf, name_lowers, applied_lowers, all_lower, is_lowered_value, table_names_opened}
use Rattle.unit_lowering.specs.statement_lowering.LoweredTransfers as listed
use Rattle.unit_lowering.specs.statement_lowering.LoweredTransfers.{lowered_transfers_opened}
use Rattle.unit_lowering.specs.statement_lowering.LoweredStatements as stated
use Rattle.unit_lowering.specs.statement_lowering.LoweredStatements.{is_function_class, variable_is_text, element_is_text, lowered_statements_opened}
use Rattle.unit_lowering.specs.statement_places.StatementPlaces as placed
use Rattle.unit_lowering.specs.statement_places.StatementPlaces.{statement_places_opened}
use Rattle.translated_forms.specs.LoweredForms as named
use Rattle.translated_forms.specs.LoweredForms.{lowered_forms_opened}

-- two tests that agree at each element agree at a list
each_same : {A : Type 0} (f g : A → Bool) → ((a : A) → f a ≡ g a) → (xs : List A) → all_lower (map f xs) ≡ list_all g xs
unfolding table_names_opened
each_same f g same [] = refl
each_same f g same (x ∷ xs) = ap (λ b. b && all_lower (map f xs)) (same x) ∙ ap (λ b. g x && b) (each_same f g same xs)

both_same : (a b c d : Bool) → a ≡ c → b ≡ d → (a && b) ≡ (c && d)
both_same a b c d one other = ap (λ e. e && b) one ∙ ap (λ e. c && e) other

module _ (table : NameFacts) (names : Naming) (are : AreFactsOf names table) where
  same_class : (x : Bytes) → (fact_in table x).class ≡ (names x).class
  same_class x = (are.facts x).class

  same_basic : (x : Bytes) → (fact_in table x).basic ≡ (names x).basic
  same_basic x = (are.facts x).basic

  -- ## Expressions

  value_layer : (e : expr.Expr-F Bool) → told.layer_lowers table e ≡ named.layer_lowers names e
  unfolding table_names_opened lowered_forms_opened
  value_layer (expr.Name x) = ap name_lowers (same_class x)
  value_layer (expr.Apply x bs) = ap (λ k. applied_lowers x k && all_lower bs) (same_class x)
  value_layer _ = refl

  same_value : (e : Expr) → is_lowered_value table e ≡ named.value_lowers names e
  unfolding table_names_opened lowered_forms_opened
  same_value e = ap (λ (layer : expr.Expr-F Bool → Bool). fold_expr layer e) (fun_ext value_layer)

  same_optional : (e : Option Expr) → stated.optional_lowers table e ≡ named.optional_lowers names e
  unfolding lowered_statements_opened lowered_forms_opened
  same_optional None = refl
  same_optional (Some e) = same_value e

  -- ## Assignments

  text_of : (f : Class → Basic → Bool) (x : Bytes) → f (fact_in table x).class (fact_in table x).basic ≡ f (names x).class (names x).basic
  text_of f x = ap (λ k. f k (fact_in table x).basic) (same_class x) ∙ ap (f (names x).class) (same_basic x)

  text_layer : (e : expr.Expr-F Bool) → stated.layer_text table e ≡ named.layer_text names e
  unfolding lowered_statements_opened lowered_forms_opened
  text_layer (expr.Name x) = text_of variable_is_text x
  text_layer (expr.Apply x bs) = text_of element_is_text x
  text_layer _ = refl

  same_text : (e : Expr) → stated.is_text_target table e ≡ named.is_text_target names e
  unfolding lowered_statements_opened lowered_forms_opened
  same_text e = ap (λ (layer : expr.Expr-F Bool → Bool). fold_expr layer e) (fun_ext text_layer)

  same_function : (x : Option Bytes) → stated.names_function table x ≡ named.names_function names x
  unfolding lowered_statements_opened lowered_forms_opened
  same_function None = refl
  same_function (Some x) = ap is_function_class (same_class x)

  same_assigned : (target e : Expr) → stated.assigned_lowers table target e ≡ (not (named.is_text_target names target) && (named.value_lowers names e && named.value_lowers names target))
  unfolding lowered_statements_opened
  same_assigned target e =
      both_same (not (stated.is_text_target table target)) (is_lowered_value table e && is_lowered_value table target) _ _ (ap not (same_text target))
      (both_same (is_lowered_value table e) (is_lowered_value table target) _ _ (same_value e) (same_value target))

  same_assignment : (target e : Expr) → stated.assignment_lowers table target e ≡ named.assignment_lowers names target e
  unfolding lowered_statements_opened lowered_forms_opened
  same_assignment target e =
      ap (λ b. b || stated.assigned_lowers table target e) (same_function (heading_of target).applied)
      ∙ ap (λ b. named.names_function names (heading_of target).applied || b) (same_assigned target e)

  -- ## Input and output, and CALL

  same_word : (v : ControlValue) → listed.value_lowers table v ≡ named.word_lowers names v
  unfolding lowered_transfers_opened lowered_forms_opened
  same_word value.Star = refl
  same_word (value.Label l) = refl
  same_word (value.Value e) = same_value e

  same_words : (controls : List Control) → listed.controls_lower table controls ≡ named.words_lower names controls
  unfolding lowered_transfers_opened lowered_forms_opened
  same_words controls =
      each_same (λ (c : Control). listed.value_lowers table c.value) (λ (c : Control). named.word_lowers names c.value) (λ (c : Control). same_word c.value) controls

  item_layer : (i : item.ListItem-F Bool) → listed.layer_item table i ≡ named.layer_item names i
  unfolding lowered_transfers_opened lowered_forms_opened
  item_layer (item.Item e) = same_value e
  item_layer (item.Loop bs control) = refl

  same_item : (i : ListItem) → listed.item_lowers table i ≡ named.item_lowers names i
  unfolding lowered_transfers_opened lowered_forms_opened
  same_item i = ap (λ (layer : item.ListItem-F Bool → Bool). fold_item layer i) (fun_ext item_layer)

  same_items : (items : List ListItem) → listed.items_lower table items ≡ list_all (named.item_lowers names) items
  unfolding lowered_transfers_opened
  same_items items = each_same (listed.item_lowers table) (named.item_lowers names) same_item items

  same_call : (es : List Expr) → listed.call_lowers table es ≡ list_all (named.value_lowers names) es
  unfolding lowered_transfers_opened
  same_call es = each_same (is_lowered_value table) (named.value_lowers names) same_value es

  same_transfer : (controls : List Control) (items : List ListItem) →
      (listed.controls_lower table controls && listed.items_lower table items) ≡ (named.words_lower names controls && list_all (named.item_lowers names) items)
  same_transfer controls items = both_same (listed.controls_lower table controls) (listed.items_lower table items) _ _ (same_words controls) (same_items items)

  -- ## Statements

  same_control : (control : LoopControl) → stated.control_lowers table control ≡ named.control_lowers names control
  unfolding lowered_statements_opened lowered_forms_opened
  same_control control =
      both_same (is_lowered_value table control.first) (is_lowered_value table control.limit && stated.optional_lowers table control.step) _ _ (same_value control.first)
      (both_same (is_lowered_value table control.limit) (stated.optional_lowers table control.step) _ _ (same_value control.limit) (same_optional control.step))

  statement_layer : (b : body.Body-F Bool) → stated.layer_lowers table b ≡ named.layer_statement names b
  unfolding lowered_statements_opened lowered_transfers_opened lowered_forms_opened
  statement_layer (body.Assign target e) = same_assignment target e
  statement_layer (body.GotoList labels e) = same_value e
  statement_layer (body.IfSign e below at above) = same_value e
  statement_layer (body.IfOne e b) = ap (λ c. b && c) (same_value e)
  statement_layer (body.IfThen e) = same_value e
  statement_layer (body.ElseIf e) = same_value e
  statement_layer (body.Do label control) = same_control control
  statement_layer (body.DoWhile label e) = same_value e
  statement_layer (body.Call x es) = same_call es
  statement_layer (body.Return e) = same_optional e
  statement_layer (body.Transfer way controls items) = same_transfer controls items
  statement_layer (body.Auxiliary which controls) = same_words controls
  statement_layer _ = refl

  same_statement : (b : Body) → stated.is_lowered_statement table b ≡ named.statement_lowers names b
  unfolding lowered_statements_opened lowered_forms_opened
  same_statement b = ap (λ (layer : body.Body-F Bool → Bool). fold_body layer b) (fun_ext statement_layer)

  pub same_statements : (ss : List Stmt) → placed.statements_lower table ss ≡ named.statements_lower names ss
  unfolding statement_places_opened lowered_forms_opened
  same_statements [] = refl
  same_statements (s ∷ ss) =
      both_same (stated.is_lowered_statement table s.body) (placed.statements_lower table ss) _ _ (same_statement s.body) (same_statements ss)
