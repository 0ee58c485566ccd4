-- What is read of a statement has at most four nodes for each of its own.
use Rattle.std.specs.List.{list_all}
use Rattle.std.specs.Prelude.{◌≡◌, ℕ, suc, ◌+◌, ◌*◌, ◌≤◌, Bool, true, false, ◌&&◌, ◌||◌, List, [], ◌∷◌, ◌++◌, Option, Some, None, if◌then◌else◌}
use Rattle.std.proofs.Common.{arith}
use Rattle.std.proofs.lemmas.Bool.{and_parts}
use Rattle.tree_nodes.specs.f_tree.declared.expressions.Expr.{Expr}
use Rattle.tree_nodes.specs.f_tree.declared.statements.Body as whole
use Rattle.tree_nodes.specs.f_tree.declared.statements.Body.{Body, IfOne', more_of-Body}
use Rattle.tree_nodes.specs.f_tree.declared.statements.Control.{Control}
use Rattle.tree_nodes.specs.f_tree.declared.statements.ControlValue.{ControlValue}
use Rattle.tree_nodes.specs.f_tree.declared.statements.ControlValue.TheVariants as value
use Rattle.tree_nodes.specs.f_tree.declared.statements.ControlWord.{ControlWord}
use Rattle.tree_nodes.specs.f_tree.declared.statements.ControlWord.TheVariants as word
use Rattle.tree_nodes.specs.f_tree.declared.statements.ListItem.{ListItem, Item, Loop'}
use Rattle.tree_nodes.specs.f_tree.declared.statements.LoopControl.{LoopControl}
use Rattle.tree_nodes.specs.f_tree.Folds.{fold_item, fold_body}
use Rattle.tree_nodes.specs.f_tree.Values.{Bytes}
use Rattle.tree_nodes.specs.f_tree.Terms.{Term, All, terms, refers, terms_opened}
use Rattle.tree_nodes.specs.f_tree.Facts as head
use Rattle.tree_nodes.specs.f_tree.Facts.{Direction, Input, Output, Layout, Listed, Form, Passes, On}
use Rattle.tree_nodes.specs.f_tree.Reading.{Read, read}
use Rattle.tree_nodes.specs.f_tree.Uses.{heading_of}
use Rattle.tree_nodes.specs.f_tree.Lines.{Naming, value_of, place_of, arguments_of, step_of, control_of, is_array, array_or, if_placed, settled, item_of, layer_job, job_of, jobs_of, is_text, Written, nothing_written, with_operand, control_written, controls_written, layout_written, transfer_form, auxiliary_form, is_statement_function, value_assignment, text_assignment, assignment, assign_form, return_form, layer_form, form_of}
use Rattle.tree_nodes.specs.declaration_rows.ExpansionRows.{Sized}
use Rattle.tree_nodes.specs.TreeNodes.{total_by, if_there, names_one, target_nodes, expression_nodes, expressions_nodes, control_nodes, layer_item_nodes, item_nodes, items_nodes, word_nodes, words_nodes, layer_body_nodes, body_nodes}
use Rattle.lowered_sizes.specs.ReadNodes.{term_nodes, terms_nodes, job_nodes, work_nodes, form_nodes, head_nodes}
use Rattle.read_sizes.specs.ReadUnits.{value_lacks, optional_lacks, control_lacks, word_lacks, words_lack, layer_item_lacks, item_lacks, layer_statement_lacks, statement_lacks}
use Rattle.read_sizes.proofs.Expressions.{Fits, joined_nodes, reads_fit}

-- ## What is settled later

array_fits : (t : Term) (names : Naming) (named : Option Bytes) (n : ℕ) → term_nodes t ≤ suc n → term_nodes (array_or t names named) ≤ suc n
unfolding array_or term_nodes
array_fits t names None n h = h
array_fits t names (Some x) n h = by (is_array (names x))
  where
    by : (b : Bool) → term_nodes (if b then All x else t) ≤ suc n
    by true = omega arith
    by false = h

placed_fits : (n : ℕ) (r : Read) (base : Option Bytes) → Fits n r → term_nodes (if_placed r base) ≤ suc (4 * n)
unfolding if_placed term_nodes
placed_fits n r None one = let h = one.value in omega (arith, h)
placed_fits n r (Some x) one = let h = one.actual in omega (arith, h)

settled_fits : (names : Naming) (n : ℕ) (r : Read) → Fits n r → term_nodes (settled names r) ≤ suc (4 * n)
unfolding settled
settled_fits names n r one = array_fits (if_placed r r.base) names r.named (4 * n) (placed_fits n r r.base one)

-- ## Assignments

either : (b : Bool) (x y : Form) (n : ℕ) → form_nodes x ≤ n → form_nodes y ≤ n → form_nodes (if b then x else y) ≤ n
either true x y n one other = one
either false x y n one other = other

value_set : (m n : ℕ) (target e : Read) → Fits m target → Fits n e → form_nodes (value_assignment target e) ≤ 4 * suc (m + n)
unfolding value_assignment form_nodes head_nodes terms_nodes
value_set m n target e one other = let h = one.actual in let g = other.value in omega (arith, h, g)

pieces_set : (m n : ℕ) (target e : Read) → Fits m target → Fits n e → form_nodes (On head.ToSetText (terms (e.pieces ++ target.actual ∷ []))) ≤ 4 * suc (m + n)
unfolding form_nodes head_nodes terms_opened terms_nodes
pieces_set m n target e one other =
    let h = one.actual in
    let g = other.pieces in
    let both = joined_nodes e.pieces (target.actual ∷ []) in
    omega (arith, h, g, both)

text_set : (m n : ℕ) (target e : Read) → Fits m target → Fits n e → form_nodes (text_assignment target e) ≤ 4 * suc (m + n)
unfolding text_assignment
text_set m n target e one other = either (refers target.actual) (value_assignment target e) (On head.ToSetText (terms (e.pieces ++ target.actual ∷ []))) (4 * suc (m + n)) (value_set m n target e one other) (pieces_set m n target e one other)

is_set : (names : Naming) (m n : ℕ) (target e : Read) → Fits m target → Fits n e → form_nodes (assignment names target e) ≤ 4 * suc (m + n)
unfolding assignment
is_set names m n target e one other =
    either (is_text names target.base) (text_assignment target e) (value_assignment target e) (4 * suc (m + n)) (text_set m n target e one other) (value_set m n target e one other)

module _ (names : Naming) (functions : List Sized) where
  fits : (e : Expr) → value_lacks names e ≡ true → Fits (expression_nodes functions e) (read names e)
  fits e h = reads_fit names functions e h

  value_fits : (e : Expr) → value_lacks names e ≡ true → term_nodes (value_of names e) ≤ 4 * expression_nodes functions e
  unfolding value_of
  value_fits e h = (fits e h).value

  place_fits : (e : Expr) → value_lacks names e ≡ true → term_nodes (place_of names e) ≤ 4 * expression_nodes functions e
  unfolding place_of
  place_fits e h = (fits e h).actual

  target_fits : (target : Expr) → value_lacks names target ≡ true → Fits (target_nodes functions target) (read names target)
  unfolding target_nodes
  target_fits target h = by (names_one functions (heading_of target).applied)
    where
      by : (b : Bool) → Fits (if b then expression_nodes [] target else expression_nodes functions target) (read names target)
      by true = reads_fit names [] target h
      by false = reads_fit names functions target h

  assigned : (target e : Expr) → is_statement_function names (heading_of target).applied || (value_lacks names target && value_lacks names e) ≡ true
      → form_nodes (assign_form names target e) ≤ 4 * suc (target_nodes functions target + expression_nodes functions e)
  unfolding assign_form form_nodes
  assigned target e h = by (is_statement_function names (heading_of target).applied) h
    where
      by : (b : Bool) → b || (value_lacks names target && value_lacks names e) ≡ true
          → form_nodes (if b then Passes else assignment names (read names target) (read names e)) ≤ 4 * suc (target_nodes functions target + expression_nodes functions e)
      by true g = omega arith
      by false g =
          let parts = and_parts (value_lacks names target) (value_lacks names e) g in
          is_set names (target_nodes functions target) (expression_nodes functions e) (read names target) (read names e) (target_fits target parts.0) (fits e parts.1)

  -- ## Operands

  step_fits : (e : Option Expr) → optional_lacks names e ≡ true → term_nodes (step_of names e) ≤ suc (4 * if_there (expression_nodes functions) e)
  unfolding step_of optional_lacks if_there term_nodes
  step_fits None h = omega arith
  step_fits (Some e) h = let one = value_fits e h in omega (arith, one)

  control_fits : (c : LoopControl) → control_lacks names c ≡ true → terms_nodes (control_of names c) + 1 ≤ 4 * control_nodes functions c
  unfolding control_of control_lacks control_nodes term_nodes terms_nodes
  control_fits c h =
      let one = and_parts (value_lacks names c.first) (value_lacks names c.limit && optional_lacks names c.step) h in
      let two = and_parts (value_lacks names c.limit) (optional_lacks names c.step) one.1 in
      let first = value_fits c.first one.0 in
      let limit = value_fits c.limit two.0 in
      let step = step_fits c.step two.1 in
      omega (arith, first, limit, step)

  arguments_fit : (es : List Expr) → list_all (value_lacks names) es ≡ true → terms_nodes (terms (arguments_of names es)) ≤ 4 * expressions_nodes functions es
  unfolding arguments_of terms_opened terms_nodes expressions_nodes total_by
  arguments_fit [] h = omega arith
  arguments_fit (e ∷ es) h =
      let parts = and_parts (value_lacks names e) (list_all (value_lacks names) es) h in
      let one = place_fits e parts.0 in
      let more = arguments_fit es parts.1 in
      omega (arith, one, more)

  -- ## Items

  item_of_fits : (way : Direction) (layout : Layout) (e : Expr) → value_lacks names e ≡ true → term_nodes (item_of way layout names e) ≤ suc (4 * expression_nodes functions e)
  unfolding item_of term_nodes
  item_of_fits Input layout e h = array_fits _ names (read names e).named (4 * expression_nodes functions e) (let one = place_fits e h in omega (arith, one))
  item_of_fits Output Listed e h = array_fits (value_of names e) names (read names e).named (4 * expression_nodes functions e) (let one = value_fits e h in omega (arith, one))
  item_of_fits Output layout e h = settled_fits names (expression_nodes functions e) (read names e) (fits e h)

  job_fits : (way : Direction) (layout : Layout) (i : ListItem) → item_lacks names i ≡ true → job_nodes (job_of way layout names i) ≤ 4 * item_nodes functions i
  unfolding job_of layer_job item_lacks item_nodes fold_item layer_item_lacks layer_item_nodes job_nodes
  job_fits way layout (Item e) h = let one = item_of_fits way layout e h in omega (arith, one)
  job_fits way layout (Loop' s row control) h = omega arith

  jobs_fit : (way : Direction) (layout : Layout) (is : List ListItem) → list_all (item_lacks names) is ≡ true → work_nodes (jobs_of way layout names is) ≤ suc (4 * items_nodes functions is)
  unfolding jobs_of work_nodes items_nodes total_by
  jobs_fit way layout [] h = omega arith
  jobs_fit way layout (i ∷ is) h =
      let parts = and_parts (item_lacks names i) (list_all (item_lacks names) is) h in
      let one = job_fits way layout i parts.0 in
      let more = jobs_fit way layout is parts.1 in
      omega (arith, one, more)

  -- ## Control words

  -- one operand more
  one_more : (t : Term) (operands : List Term) (n : ℕ) → term_nodes t ≤ suc (4 * n) → terms_nodes (terms (t ∷ operands)) ≤ 4 * suc (suc n) + terms_nodes (terms operands)
  unfolding terms_opened terms_nodes
  one_more t operands n h = omega (arith, h)

  unit_fits : (b : Bool) (e : Expr) → value_lacks names e ≡ true → term_nodes (if b then settled names (read names e) else value_of names e) ≤ suc (4 * expression_nodes functions e)
  unit_fits true e h = settled_fits names (expression_nodes functions e) (read names e) (fits e h)
  unit_fits false e h = let one = value_fits e h in omega (arith, one)

  valued : (e : Expr) → value_lacks names e ≡ true → term_nodes (value_of names e) ≤ suc (4 * expression_nodes functions e)
  valued e h = let one = value_fits e h in omega (arith, one)

  placed : (e : Expr) → value_lacks names e ≡ true → term_nodes (place_of names e) ≤ suc (4 * expression_nodes functions e)
  placed e h = let one = place_fits e h in omega (arith, one)

  later_settled : (e : Expr) → value_lacks names e ≡ true → term_nodes (settled names (read names e)) ≤ suc (4 * expression_nodes functions e)
  later_settled e h = settled_fits names (expression_nodes functions e) (read names e) (fits e h)

  word_fits : (way : Direction) (w : ControlWord) (v : ControlValue) (more : Written) → word_lacks names v ≡ true
      → terms_nodes (terms (control_written way names w v more).operands) ≤ 4 * suc (word_nodes functions v) + terms_nodes (terms more.operands)
  unfolding control_written with_operand word_lacks word_nodes term_nodes
  word_fits way word.Unit value.Star more h = one_more _ more.operands 0 (omega arith)
  word_fits way word.Unit (value.Value e) more h = one_more _ more.operands (expression_nodes functions e) (unit_fits (is_text names (read names e).base) e h)
  word_fits way word.Format (value.Value e) more h = one_more _ more.operands (expression_nodes functions e) (later_settled e h)
  word_fits way word.Status (value.Value e) more h = one_more _ more.operands (expression_nodes functions e) (placed e h)
  word_fits way word.File (value.Value e) more h = one_more _ more.operands (expression_nodes functions e) (later_settled e h)
  word_fits way word.FileStatus (value.Value e) more h = one_more _ more.operands (expression_nodes functions e) (valued e h)
  word_fits way word.Access (value.Value e) more h = one_more _ more.operands (expression_nodes functions e) (valued e h)
  word_fits way word.Form (value.Value e) more h = one_more _ more.operands (expression_nodes functions e) (valued e h)
  word_fits way word.Blank (value.Value e) more h = one_more _ more.operands (expression_nodes functions e) (valued e h)
  word_fits way word.Unit (value.Label l) more h = omega arith
  word_fits way word.Format value.Star more h = omega arith
  word_fits way word.Format (value.Label l) more h = omega arith
  word_fits way word.Status value.Star more h = omega arith
  word_fits way word.Status (value.Label l) more h = omega arith
  word_fits way word.OnError value.Star more h = omega arith
  word_fits way word.OnError (value.Label l) more h = omega arith
  word_fits way word.OnError (value.Value e) more h = omega arith
  word_fits way word.OnEnd value.Star more h = omega arith
  word_fits way word.OnEnd (value.Label l) more h = omega arith
  word_fits way word.OnEnd (value.Value e) more h = omega arith
  word_fits way word.File value.Star more h = omega arith
  word_fits way word.File (value.Label l) more h = omega arith
  word_fits way word.FileStatus value.Star more h = omega arith
  word_fits way word.FileStatus (value.Label l) more h = omega arith
  word_fits way word.Access value.Star more h = omega arith
  word_fits way word.Access (value.Label l) more h = omega arith
  word_fits way word.Form value.Star more h = omega arith
  word_fits way word.Form (value.Label l) more h = omega arith
  word_fits way word.Blank value.Star more h = omega arith
  word_fits way word.Blank (value.Label l) more h = omega arith

  words_fit : (way : Direction) (cs : List Control) → words_lack names cs ≡ true → terms_nodes (terms (controls_written way names cs).operands) ≤ 4 * words_nodes functions cs
  unfolding controls_written nothing_written words_lack words_nodes total_by terms_opened terms_nodes
  words_fit way [] h = omega arith
  words_fit way (c ∷ cs) h =
      let parts = and_parts (word_lacks names c.value) (words_lack names cs) h in
      let one = word_fits way c.word c.value (controls_written way names cs) parts.0 in
      let more = words_fit way cs parts.1 in
      omega (arith, one, more)

  -- ## Statements

  returned : (e : Option Expr) → optional_lacks names e ≡ true → form_nodes (return_form names e) ≤ 4 * suc (if_there (expression_nodes functions) e)
  unfolding return_form optional_lacks if_there form_nodes head_nodes terms_nodes
  returned None h = omega arith
  returned (Some e) h = let one = value_fits e h in omega (arith, one)

  begun : (way : Direction) (items : List ListItem) (cs : List Control) → words_lack names cs ≡ true → list_all (item_lacks names) items ≡ true
      → form_nodes (transfer_form way names items (controls_written way names cs)) ≤ 4 * suc (words_nodes functions cs + items_nodes functions items)
  unfolding transfer_form form_nodes head_nodes
  begun way items cs h g =
      let words = words_fit way cs h in
      let jobs = jobs_fit way (layout_written (controls_written way names cs).layout) items g in
      omega (arith, words, jobs)

  acted : (which : _) (cs : List Control) → words_lack names cs ≡ true → form_nodes (auxiliary_form which (controls_written Output names cs)) ≤ 4 * suc (words_nodes functions cs)
  unfolding auxiliary_form form_nodes head_nodes
  acted which cs h = let words = words_fit Output cs h in omega (arith, words)

  one_operand : (e : Expr) → value_lacks names e ≡ true → term_nodes (value_of names e) + 1 ≤ 4 * suc (expression_nodes functions e)
  one_operand e h = let one = value_fits e h in omega (arith, one)

  pub body_fits : (b : Body) → statement_lacks names b ≡ true → form_nodes (form_of names b) ≤ 4 * body_nodes functions b
  unfolding form_of layer_form statement_lacks layer_statement_lacks body_nodes layer_body_nodes fold_body form_nodes head_nodes term_nodes terms_nodes
  body_fits (whole.Assign target e) h = assigned target e h
  body_fits (whole.GotoList labels e) h = let one = value_fits e h in omega (arith, one)
  body_fits (whole.IfSign e below even above) h = let one = value_fits e h in omega (arith, one)
  body_fits (IfOne' e s (more_of-Body b r)) h =
      let parts = and_parts (value_lacks names e) (statement_lacks names b) h in
      let one = value_fits e parts.0 in
      let inner = body_fits b parts.1 in
      omega (arith, one, inner)
  body_fits (whole.IfThen e) h = let one = value_fits e h in omega (arith, one)
  body_fits (whole.ElseIf e) h = let one = value_fits e h in omega (arith, one)
  body_fits (whole.Do label control) h = let one = control_fits control h in omega (arith, one)
  body_fits (whole.DoWhile label e) h = let one = value_fits e h in omega (arith, one)
  body_fits (whole.Call x es) h = let one = arguments_fit es h in omega (arith, one)
  body_fits (whole.Return e) h = returned e h
  body_fits (whole.Transfer way controls items) h = let parts = and_parts (words_lack names controls) (list_all (item_lacks names) items) h in begun _ items controls parts.0 parts.1
  body_fits (whole.Auxiliary which controls) h = acted _ controls h
  body_fits b h = omega arith
