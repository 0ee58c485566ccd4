-- What is read of the statements of a unit has their loops and their labels.
use Rattle.std.specs.List.{list_all}
use Rattle.std.specs.Prelude.{◌≡◌, ℕ, ◌+◌, Bool, true, false, List, [], ◌∷◌, ◌++◌, map, Option, Some, None, if◌then◌else◌}
use Rattle.std.proofs.Common.{refl, subst}
use Rattle.std.proofs.lemmas.Bool.{and_parts}
use Rattle.loop_marks.specs.l_core.f_tree.declared.expressions.Expr.{Expr}
use Rattle.loop_marks.specs.l_core.f_tree.declared.names.Options.{Options}
use Rattle.loop_marks.specs.l_core.f_tree.declared.statements.Body as whole
use Rattle.loop_marks.specs.l_core.f_tree.declared.statements.Body.{Body, IfOne', more_of-Body}
use Rattle.loop_marks.specs.l_core.f_tree.declared.statements.Control.{Control}
use Rattle.loop_marks.specs.l_core.f_tree.declared.statements.ControlValue.{ControlValue}
use Rattle.loop_marks.specs.l_core.f_tree.declared.statements.ControlValue.TheVariants as value
use Rattle.loop_marks.specs.l_core.f_tree.declared.statements.ControlWord.{ControlWord}
use Rattle.loop_marks.specs.l_core.f_tree.declared.statements.ControlWord.TheVariants as word
use Rattle.loop_marks.specs.l_core.f_tree.declared.statements.Stmt.{Stmt}
use Rattle.loop_marks.specs.l_core.f_tree.declared.units.Unit.{Unit as GivenUnit}
use Rattle.loop_marks.specs.l_core.f_tree.Terms.{Terms, terms, refers}
use Rattle.loop_marks.specs.l_core.f_tree.Facts as head
use Rattle.loop_marks.specs.l_core.f_tree.Facts.{Direction, Head, Form, Passes, On, Line}
use Rattle.loop_marks.specs.l_core.f_tree.Folds.{fold_body}
use Rattle.loop_marks.specs.l_core.f_tree.Lines.{Naming, is_text, is_statement_function, Written, nothing_written, with_operand, control_written, controls_written, controls_of, transfer_form, auxiliary_form, value_assignment, text_assignment, assignment, assign_form, return_form, layer_form, form_of, line_of, program_of, with_ties, unit_read}
use Rattle.loop_marks.specs.l_core.f_tree.Reading.{Read, read}
use Rattle.loop_marks.specs.l_core.f_tree.Uses.{heading_of}
use Rattle.loop_marks.specs.l_core.f_tree.Setting.{IsIn, first_in, later_in}
use Rattle.loop_marks.specs.lowering.Units.{label_in, named_by, named_by_head, all_named}
use Rattle.translated_files.specs.declaration_rows.NameRows.{given_names}
use Rattle.translated_files.specs.translated_forms.LoweredForms.{value_lowers, layer_statement, statement_lowers, statements_lower}
use Rattle.kept_loops.specs.SourceLoops.{layer_do, layer_while, count_in, label_after, labels_of_controls, layer_labels, labels_named}
use Rattle.kept_loops.proofs.ArgumentLabels.{arguments_pass}

-- ## Assignments

-- what an assignment is read as
data IsAssignment : Form → Type 0 where
  passes : IsAssignment Passes
  sets : (ts : Terms) → IsAssignment (On head.ToSet ts)
  sets_text : (ts : Terms) → IsAssignment (On head.ToSetText ts)

if_both : (b : Bool) (x y : Form) → IsAssignment x → IsAssignment y → IsAssignment (if b then x else y)
if_both true x y one other = one
if_both false x y one other = other

value_is : (target e : Read) → IsAssignment (value_assignment target e)
unfolding value_assignment
value_is target e = sets _

text_is : (target e : Read) → IsAssignment (text_assignment target e)
unfolding text_assignment
text_is target e = if_both (refers target.actual) (value_assignment target e) (On head.ToSetText (terms (e.pieces ++ target.actual ∷ []))) (value_is target e) (sets_text _)

by_target : (names : Naming) (target e : Read) → IsAssignment (assignment names target e)
unfolding assignment
by_target names target e = if_both (is_text names target.base) (text_assignment target e) (value_assignment target e) (text_is target e) (value_is target e)

assignment_is : (names : Naming) (target e : Expr) → IsAssignment (assign_form names target e)
unfolding assign_form
assignment_is names target e =
    if_both (is_statement_function names (heading_of target).applied) Passes (assignment names (read names target) (read names e)) passes (by_target names (read names target) (read names e))

-- ## Loops

-- the DO statements in a form, and the DO WHILEs
unfoldable mutual
  pub dos_in : Form → ℕ
  dos_in Passes = 0
  dos_in (On h ts) = dos_in_head h

  pub dos_in_head : Head → ℕ
  dos_in_head (head.ToGuard form) = dos_in form
  dos_in_head (head.ToLoop label) = 1
  dos_in_head h = 0

unfoldable mutual
  pub whiles_in : Form → ℕ
  whiles_in Passes = 0
  whiles_in (On h ts) = whiles_in_head h

  pub whiles_in_head : Head → ℕ
  whiles_in_head (head.ToGuard form) = whiles_in form
  whiles_in_head (head.ToTestLoop label) = 1
  whiles_in_head h = 0

-- and those of lines
abbrev pub all_dos : List Line → ℕ
all_dos [] = 0
all_dos (line ∷ lines) = dos_in line.form + all_dos lines

abbrev pub all_whiles : List Line → ℕ
all_whiles [] = 0
all_whiles (line ∷ lines) = whiles_in line.form + all_whiles lines

dos_assigned : (form : Form) → IsAssignment form → dos_in form ≡ 0
unfolding dos_in dos_in_head
dos_assigned _ passes = refl
dos_assigned _ (sets ts) = refl
dos_assigned _ (sets_text ts) = refl

whiles_assigned : (form : Form) → IsAssignment form → whiles_in form ≡ 0
unfolding whiles_in whiles_in_head
whiles_assigned _ passes = refl
whiles_assigned _ (sets ts) = refl
whiles_assigned _ (sets_text ts) = refl

dos_returned : (names : Naming) (e : Option Expr) → dos_in (return_form names e) ≡ 0
unfolding return_form dos_in dos_in_head
dos_returned names None = refl
dos_returned names (Some e) = refl

whiles_returned : (names : Naming) (e : Option Expr) → whiles_in (return_form names e) ≡ 0
unfolding return_form whiles_in whiles_in_head
whiles_returned names None = refl
whiles_returned names (Some e) = refl

dos_read : (names : Naming) (b : Body) → dos_in (form_of names b) ≡ fold_body layer_do b
unfolding form_of fold_body layer_form layer_do dos_in dos_in_head transfer_form auxiliary_form
dos_read names (IfOne' e s (more_of-Body b r)) = dos_read names b
dos_read names (whole.Assign target e) = dos_assigned (assign_form names target e) (assignment_is names target e)
dos_read names (whole.Return e) = dos_returned names e
dos_read names b = refl

whiles_read : (names : Naming) (b : Body) → whiles_in (form_of names b) ≡ fold_body layer_while b
unfolding form_of fold_body layer_form layer_while whiles_in whiles_in_head transfer_form auxiliary_form
whiles_read names (IfOne' e s (more_of-Body b r)) = whiles_read names b
whiles_read names (whole.Assign target e) = whiles_assigned (assign_form names target e) (assignment_is names target e)
whiles_read names (whole.Return e) = whiles_returned names e
whiles_read names b = refl

-- ## Labels

from_two : {A : Type 0} → (x : A) (xs ys zs : List A) → IsIn x (xs ++ ys) → (IsIn x xs → IsIn x zs) → (IsIn x ys → IsIn x zs) → IsIn x zs
from_two x [] ys zs among one other = other among
from_two x (_ ∷ xs) ys zs first_in one other = one first_in
from_two x (y ∷ xs) ys zs (later_in among) one other = from_two x xs ys zs among (λ more. one (later_in more)) other

to_front : {A : Type 0} → (x : A) (xs ys : List A) → IsIn x xs → IsIn x (xs ++ ys)
to_front x [] ys among = elim among [ ]
to_front x (_ ∷ xs) ys first_in = first_in
to_front x (y ∷ xs) ys (later_in among) = later_in (to_front x xs ys among)

to_back : {A : Type 0} → (x : A) (xs ys : List A) → IsIn x ys → IsIn x (xs ++ ys)
to_back x [] ys among = among
to_back x (y ∷ xs) ys among = later_in (to_back x xs ys among)

one_first : (label l : ℕ) (xs labels : List ℕ) → IsIn label (l ∷ xs) → (IsIn label xs → IsIn label labels) → IsIn label (l ∷ labels)
one_first _ l xs labels first_in more = first_in
one_first label l xs labels (later_in among) more = later_in (more among)

none_behind : (label l : ℕ) (labels : List ℕ) → IsIn label (l ∷ []) → IsIn label (l ∷ labels)
none_behind label l labels among = one_first label l [] labels among (λ none. elim none [ ])

controls_label : (way : Direction) (names : Naming) (w : ControlWord) (v : ControlValue) (more : Written) (labels : List ℕ) (label : ℕ) → ((l : ℕ) → IsIn l (label_in more.on_error ++ label_in more.on_end) → IsIn l labels)
    → IsIn label (label_in (control_written way names w v more).on_error ++ label_in (control_written way names w v more).on_end) → IsIn label (label_after w v ++ labels)
unfolding control_written with_operand label_after label_in
controls_label way names word.OnError (value.Label l) more labels label each among =
    one_first label l (label_in more.on_end) labels among (λ among'. each label (to_back label (label_in more.on_error) (label_in more.on_end) among'))
controls_label way names word.OnEnd (value.Label l) more labels label each among =
    from_two label (label_in more.on_error) (l ∷ []) (l ∷ labels) among (λ among'. later_in (each label (to_front label (label_in more.on_error) (label_in more.on_end) among'))) (λ among'. none_behind label l labels among')
controls_label way names word.Unit value.Star more labels label each among = each label among
controls_label way names word.Unit (value.Label l) more labels label each among = each label among
controls_label way names word.Unit (value.Value e) more labels label each among = each label among
controls_label way names word.Format value.Star more labels label each among = each label among
controls_label way names word.Format (value.Label l) more labels label each among = each label among
controls_label way names word.Format (value.Value e) more labels label each among = each label among
controls_label way names word.Status value.Star more labels label each among = each label among
controls_label way names word.Status (value.Label l) more labels label each among = each label among
controls_label way names word.Status (value.Value e) more labels label each among = each label among
controls_label way names word.OnError value.Star more labels label each among = each label among
controls_label way names word.OnError (value.Value e) more labels label each among = each label among
controls_label way names word.OnEnd value.Star more labels label each among = each label among
controls_label way names word.OnEnd (value.Value e) more labels label each among = each label among
controls_label way names word.File value.Star more labels label each among = each label among
controls_label way names word.File (value.Label l) more labels label each among = each label among
controls_label way names word.File (value.Value e) more labels label each among = each label among
controls_label way names word.FileStatus value.Star more labels label each among = each label among
controls_label way names word.FileStatus (value.Label l) more labels label each among = each label among
controls_label way names word.FileStatus (value.Value e) more labels label each among = each label among
controls_label way names word.Access value.Star more labels label each among = each label among
controls_label way names word.Access (value.Label l) more labels label each among = each label among
controls_label way names word.Access (value.Value e) more labels label each among = each label among
controls_label way names word.Form value.Star more labels label each among = each label among
controls_label way names word.Form (value.Label l) more labels label each among = each label among
controls_label way names word.Form (value.Value e) more labels label each among = each label among
controls_label way names word.Blank value.Star more labels label each among = each label among
controls_label way names word.Blank (value.Label l) more labels label each among = each label among
controls_label way names word.Blank (value.Value e) more labels label each among = each label among

controls_named : (way : Direction) (names : Naming) (cs : List Control) (label : ℕ)
    → IsIn label (label_in (controls_written way names cs).on_error ++ label_in (controls_written way names cs).on_end) → IsIn label (labels_of_controls cs)
unfolding controls_written nothing_written labels_of_controls label_in
controls_named way names [] label among = among
controls_named way names (c ∷ cs) label among = controls_label way names c.word c.value (controls_written way names cs) (labels_of_controls cs) label (λ l among'. controls_named way names cs l among') among

named_assigned : (form : Form) → IsAssignment form → named_by form ≡ []
unfolding named_by named_by_head
named_assigned _ passes = refl
named_assigned _ (sets ts) = refl
named_assigned _ (sets_text ts) = refl

named_returned : (names : Naming) (e : Option Expr) → named_by (return_form names e) ≡ []
unfolding return_form named_by named_by_head
named_returned names None = refl
named_returned names (Some e) = refl

nowhere : {A : Type 0} → (x : A) (xs ys : List A) → xs ≡ [] → IsIn x xs → IsIn x ys
nowhere x [] ys none among = elim among [ ]
nowhere x (y ∷ xs) ys none among = absurd (cc)

labels_read : (names : Naming) (b : Body) → statement_lowers names b ≡ true → (label : ℕ) → IsIn label (named_by (form_of names b)) → IsIn label (fold_body (layer_labels names) b)
unfolding form_of fold_body layer_form layer_labels named_by named_by_head transfer_form auxiliary_form controls_of statement_lowers layer_statement
labels_read names (IfOne' e s (more_of-Body b r)) h label among = labels_read names b (and_parts (statement_lowers names b) (value_lowers names e) h).0 label among
labels_read names (whole.Assign target e) h label among = nowhere label (named_by (assign_form names target e)) [] (named_assigned (assign_form names target e) (assignment_is names target e)) among
labels_read names (whole.Return e) h label among = nowhere label (named_by (return_form names e)) [] (named_returned names e) among
labels_read names (whole.Call x es) h label among = subst (IsIn label) (arguments_pass names es h) among
labels_read names (whole.Transfer way controls items) h label among = controls_named _ names controls label among
labels_read names (whole.Auxiliary which controls) h label among = controls_named _ names controls label among
labels_read names b h label among = among

-- ## Statements in their order

pub dos_of_lines : (names : Naming) (labels : List ℕ) (ss : List Stmt) → all_dos (map (line_of names labels) ss) ≡ count_in layer_do ss
unfolding line_of count_in
dos_of_lines names labels [] = refl
dos_of_lines names labels (s ∷ ss) = (λ k. dos_read names s.body k + dos_of_lines names labels ss k)

pub whiles_of_lines : (names : Naming) (labels : List ℕ) (ss : List Stmt) → all_whiles (map (line_of names labels) ss) ≡ count_in layer_while ss
unfolding line_of count_in
whiles_of_lines names labels [] = refl
whiles_of_lines names labels (s ∷ ss) = (λ k. whiles_read names s.body k + whiles_of_lines names labels ss k)

-- where the statements are lowered
pub labels_of_lines : (names : Naming) (labels : List ℕ) (ss : List Stmt) → statements_lower names ss ≡ true → (label : ℕ) → IsIn label (all_named (map (line_of names labels) ss)) → IsIn label (labels_named names ss)
unfolding line_of all_named labels_named statements_lower
labels_of_lines names labels [] h label among = among
labels_of_lines names labels (s ∷ ss) h label among =
    let parts = and_parts (statement_lowers names s.body) (list_all (λ (x : Stmt). statement_lowers names x.body) ss) h in
    from_two label (named_by (form_of names s.body)) (all_named (map (line_of names labels) ss)) (fold_body (layer_labels names) s.body ++ labels_named names ss) among
    (λ one. to_front label (fold_body (layer_labels names) s.body) (labels_named names ss) (labels_read names s.body parts.0 label one))
    (λ other. to_back label (fold_body (layer_labels names) s.body) (labels_named names ss) (labels_of_lines names labels ss parts.1 label other))

-- ## The unit

pub lines_read : (options : Options) (u : GivenUnit) → (labels : List ℕ) × ((unit_read options u).lines ≡ map (line_of (unit_read options u).attribute labels) u.statements)
unfolding unit_read with_ties program_of
lines_read options u = (_, refl)

pub names_read : (options : Options) (u : GivenUnit) → (unit_read options u).attribute ≡ given_names u
unfolding unit_read with_ties program_of given_names
names_read options u = refl

pub once_read : (options : Options) (u : GivenUnit) → (unit_read options u).onetrip ≡ options.onetrip
unfolding unit_read with_ties program_of
once_read options u = refl
