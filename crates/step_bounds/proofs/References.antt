-- Statements that are lowered refer to no statement function.
use Rattle.std.specs.List.{list_all}
use Rattle.std.specs.Prelude.{◌≡◌, Bool, true, false, not, ◌&&◌, ◌||◌, List, [], ◌∷◌, Option, Some, None}
use Rattle.std.proofs.Common.{refl}
use Rattle.std.proofs.lemmas.Bool.{and_from, and_parts}
use Rattle.statement_lowering.specs.expression_lowering.TableNames.{name_lowers, applied_lowers, operator_lowers, all_lower}
use Rattle.statement_lowering.specs.LoweredStatements.{is_function_class}
use Rattle.translated_files.specs.f_tree.declared.names.Class.{Class}
use Rattle.translated_files.specs.f_tree.declared.names.Class.TheVariants as class
use Rattle.translated_files.specs.f_tree.declared.expressions.Expr.{Expr, Int, Logical, Text, Name, Apply', Part', Minus', Plus', Not', Paren', Binary', AltReturn, Bind', Bound, Row_of-Expr, end_of-Expr, more_of-Expr}
use Rattle.translated_files.specs.f_tree.declared.statements.Body as whole
use Rattle.translated_files.specs.f_tree.declared.statements.Body.{Body, IfOne', more_of-Body}
use Rattle.translated_files.specs.f_tree.declared.statements.Control.{Control}
use Rattle.translated_files.specs.f_tree.declared.statements.ControlValue.{ControlValue}
use Rattle.translated_files.specs.f_tree.declared.statements.ControlValue.TheVariants as value
use Rattle.translated_files.specs.f_tree.declared.statements.ListItem.{ListItem, Item, Loop'}
use Rattle.translated_files.specs.f_tree.declared.statements.LoopControl.{LoopControl}
use Rattle.translated_files.specs.f_tree.declared.statements.Stmt.{Stmt}
use Rattle.translated_files.specs.f_tree.Folds.{fold_expr, fold_exprs, fold_item, fold_body}
use Rattle.translated_files.specs.f_tree.Values.{Bytes}
use Rattle.translated_files.specs.f_tree.Uses.{heading_of}
use Rattle.translated_files.specs.f_tree.Lines.{Naming, is_statement_function}
use Rattle.translated_files.specs.translated_forms.LoweredForms as lowers
use Rattle.translated_files.specs.translated_forms.LoweredForms.{value_lowers, optional_lowers, is_text_target, names_function, assignment_lowers, control_lowers, word_lowers, words_lower, item_lowers, statement_lowers, statements_lower}
use Rattle.read_sizes.specs.ReadUnits.{is_other_class, all_lack, layer_lacks, value_lacks, optional_lacks, control_lacks, word_lacks, words_lack, layer_item_lacks, item_lacks, layer_statement_lacks, statement_lacks, statements_lack}

-- ## Expressions

name_lacks : (c : Class) → name_lowers c ≡ true → is_other_class c ≡ true
unfolding name_lowers is_other_class
name_lacks class.StatementFunction h = absurd (cc)
name_lacks c h = refl

applied_lacks : (x : Bytes) (c : Class) → applied_lowers x c ≡ true → is_other_class c ≡ true
unfolding applied_lowers is_other_class
applied_lacks x class.StatementFunction h = absurd (cc)
applied_lacks x c h = refl

module _ (names : Naming) where
  mutual
    unfolding fold_expr fold_exprs lowers.layer_lowers all_lower layer_lacks all_lack

    tree_lacks : (e : Expr) → fold_expr (lowers.layer_lowers names) e ≡ true → fold_expr (layer_lacks names) e ≡ true
    tree_lacks (Int z) h = refl
    tree_lacks (Logical b) h = refl
    tree_lacks (Text cs) h = refl
    tree_lacks (Name x) h = name_lacks (names x).class h
    tree_lacks (Apply' x s row) h =
        let parts = and_parts (applied_lowers x (names x).class) (all_lower (fold_exprs (lowers.layer_lowers names) row)) h in
        and_from (is_other_class (names x).class) (all_lack (fold_exprs (layer_lacks names) row)) (applied_lacks x (names x).class parts.0) (row_lacks row parts.1)
    tree_lacks (Part' s (more_of-Expr e r) from to) h = absurd (cc)
    tree_lacks (Minus' s (more_of-Expr e r)) h = tree_lacks e h
    tree_lacks (Plus' s (more_of-Expr e r)) h = tree_lacks e h
    tree_lacks (Not' s (more_of-Expr e r)) h = tree_lacks e h
    tree_lacks (Paren' s (more_of-Expr e r)) h = tree_lacks e h
    tree_lacks (Binary' o s (more_of-Expr a r) t (more_of-Expr b q)) h =
        let one = and_parts (operator_lowers o) (fold_expr (lowers.layer_lowers names) a && fold_expr (lowers.layer_lowers names) b) h in
        let parts = and_parts (fold_expr (lowers.layer_lowers names) a) (fold_expr (lowers.layer_lowers names) b) one.1 in
        and_from (fold_expr (layer_lacks names) a) (fold_expr (layer_lacks names) b) (tree_lacks a parts.0) (tree_lacks b parts.1)
    tree_lacks (AltReturn l) h = refl
    tree_lacks (Bind' s row t (more_of-Expr e q)) h = absurd (cc)
    tree_lacks (Bound k) h = absurd (cc)

    row_lacks : {m : _} (row : Row_of-Expr m) → all_lower (fold_exprs (lowers.layer_lowers names) row) ≡ true → all_lack (fold_exprs (layer_lacks names) row) ≡ true
    row_lacks end_of-Expr h = refl
    row_lacks (more_of-Expr e row) h =
        let parts = and_parts (fold_expr (lowers.layer_lowers names) e) (all_lower (fold_exprs (lowers.layer_lowers names) row)) h in
        and_from (fold_expr (layer_lacks names) e) (all_lack (fold_exprs (layer_lacks names) row)) (tree_lacks e parts.0) (row_lacks row parts.1)

  lacks : (e : Expr) → value_lowers names e ≡ true → value_lacks names e ≡ true
  unfolding value_lowers value_lacks
  lacks e h = tree_lacks e h

  optional : (e : Option Expr) → optional_lowers names e ≡ true → optional_lacks names e ≡ true
  unfolding optional_lowers optional_lacks
  optional None h = refl
  optional (Some e) h = lacks e h

  all : {A : Type 0} (p q : A → Bool) → ((a : A) → p a ≡ true → q a ≡ true) → (as' : List A) → list_all p as' ≡ true → list_all q as' ≡ true
  all p q each [] h = refl
  all p q each (a ∷ as') h = let parts = and_parts (p a) (list_all p as') h in and_from (q a) (list_all q as') (each a parts.0) (all p q each as' parts.1)

  -- ## Statements

  definition : (found : Option Bytes) → names_function names found ≡ is_statement_function names found
  unfolding names_function is_statement_function is_function_class
  definition None = refl
  definition (Some x) = by (names x).class
    where
      by : (c : Class) → is_function_class c ≡ elim c [ class.StatementFunction ↦ true | _ ↦ false ]
      by class.StatementFunction = refl
      by c = refl

  assigned : (target e : Expr) → assignment_lowers names target e ≡ true → is_statement_function names (heading_of target).applied || (value_lacks names target && value_lacks names e) ≡ true
  unfolding assignment_lowers
  assigned target e h = by (names_function names (heading_of target).applied) (is_statement_function names (heading_of target).applied) (definition (heading_of target).applied) h
    where
      by : (b c : Bool) → b ≡ c → b || (not (is_text_target names target) && (value_lowers names e && value_lowers names target)) ≡ true → c || (value_lacks names target && value_lacks names e) ≡ true
      by b true same g = refl
      by true false same g = absurd (cc)
      by false false same g =
          let one = and_parts (not (is_text_target names target)) (value_lowers names e && value_lowers names target) g in
          let two = and_parts (value_lowers names e) (value_lowers names target) one.1 in
          and_from (value_lacks names target) (value_lacks names e) (lacks target two.1) (lacks e two.0)

  controlled : (c : LoopControl) → control_lowers names c ≡ true → control_lacks names c ≡ true
  unfolding control_lowers control_lacks
  controlled c h =
      let one = and_parts (value_lowers names c.first) (value_lowers names c.limit && optional_lowers names c.step) h in
      let two = and_parts (value_lowers names c.limit) (optional_lowers names c.step) one.1 in
      and_from (value_lacks names c.first) (value_lacks names c.limit && optional_lacks names c.step) (lacks c.first one.0)
      (and_from (value_lacks names c.limit) (optional_lacks names c.step) (lacks c.limit two.0) (optional c.step two.1))

  word : (v : ControlValue) → word_lowers names v ≡ true → word_lacks names v ≡ true
  unfolding word_lowers word_lacks
  word value.Star h = refl
  word (value.Label l) h = refl
  word (value.Value e) h = lacks e h

  words : (cs : List Control) → words_lower names cs ≡ true → words_lack names cs ≡ true
  unfolding words_lower words_lack
  words cs h = all (λ (c : Control). word_lowers names c.value) (λ (c : Control). word_lacks names c.value) (λ c. word c.value) cs h

  item : (i : ListItem) → item_lowers names i ≡ true → item_lacks names i ≡ true
  unfolding item_lowers fold_item lowers.layer_item item_lacks layer_item_lacks
  item (Item e) h = lacks e h
  item (Loop' s row control) h = absurd (cc)

  statement : (b : Body) → statement_lowers names b ≡ true → statement_lacks names b ≡ true
  unfolding statement_lowers fold_body lowers.layer_statement statement_lacks layer_statement_lacks
  statement (whole.Assign target e) h = assigned target e h
  statement (whole.GotoList labels e) h = lacks e h
  statement (whole.IfSign e below even above) h = lacks e h
  statement (IfOne' e s (more_of-Body b r)) h =
      let parts = and_parts (statement_lowers names b) (value_lowers names e) h in
      and_from (value_lacks names e) (statement_lacks names b) (lacks e parts.1) (statement b parts.0)
  statement (whole.IfThen e) h = lacks e h
  statement (whole.ElseIf e) h = lacks e h
  statement (whole.Do label control) h = controlled control h
  statement (whole.DoWhile label e) h = lacks e h
  statement (whole.Call x es) h = all (value_lowers names) (value_lacks names) lacks es h
  statement (whole.Return e) h = optional e h
  statement (whole.Transfer way controls items) h =
      let parts = and_parts (words_lower names controls) (list_all (item_lowers names) items) h in
      and_from (words_lack names controls) (list_all (item_lacks names) items) (words controls parts.0) (all (item_lowers names) (item_lacks names) item items parts.1)
  statement (whole.Auxiliary which controls) h = words controls h
  statement b h = refl

pub statements : (names : Naming) (ss : List Stmt) → statements_lower names ss ≡ true → statements_lack names ss ≡ true
unfolding statements_lower statements_lack
statements names ss h = all names (λ (s : Stmt). statement_lowers names s.body) (λ (s : Stmt). statement_lacks names s.body) (λ s. statement names s.body) ss h
