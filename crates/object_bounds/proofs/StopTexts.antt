-- The texts of STOP statements as they are read.
use Rattle.std.specs.Prelude.{◌≡◌, ℕ, ◌≤◌, Bool, true, false, List, [], ◌∷◌, ◌++◌, map, Option, Some, None, if◌then◌else◌}
use Rattle.std.proofs.Common.{refl, sym, subst, arith}
use Rattle.object_bytes.specs.f_tree.declared.names.Options.{Options}
use Rattle.object_bytes.specs.f_tree.declared.expressions.Expr.{Expr}
use Rattle.object_bytes.specs.f_tree.declared.statements.Body as whole
use Rattle.object_bytes.specs.f_tree.declared.statements.Body.{Body, IfOne', more_of-Body}
use Rattle.object_bytes.specs.f_tree.declared.statements.Stmt.{Stmt}
use Rattle.object_bytes.specs.f_tree.declared.units.Unit.{Unit as GivenUnit}
use Rattle.object_bytes.specs.f_tree.Folds.{fold_body}
use Rattle.object_bytes.specs.f_tree.Terms.{refers, terms}
use Rattle.object_bytes.specs.f_tree.Facts as head
use Rattle.object_bytes.specs.f_tree.Facts.{Form, Passes, On, Line}
use Rattle.object_bytes.specs.f_tree.Reading.{Read, read}
use Rattle.object_bytes.specs.f_tree.Uses.{heading_of}
use Rattle.object_bytes.specs.f_tree.Lines.{Naming, is_text, transfer_form, auxiliary_form, is_statement_function, value_assignment, text_assignment, assignment, assign_form, return_form, layer_form, form_of, line_of, program_of, with_ties, unit_read}
use Rattle.object_bytes.specs.declaration_rows.NameRows.{given_names}
use Rattle.object_bytes.specs.tree_nodes.TreeNodes.{total_by}
use Rattle.object_bytes.specs.ObjectBytes.{layer_stop, stop_length, unit_stops}
use Rattle.lowered_objects.specs.FewObjects.{form_text, head_text, lines_text}

either : (b : Bool) (x y : Form) → form_text x ≤ 0 → form_text y ≤ 0 → form_text (if b then x else y) ≤ 0
either true x y one other = one
either false x y one other = other

value_none : (target e : Read) → form_text (value_assignment target e) ≤ 0
unfolding value_assignment form_text head_text
value_none target e = omega arith

text_none : (target e : Read) → form_text (text_assignment target e) ≤ 0
unfolding text_assignment form_text head_text
text_none target e = either (refers target.actual) (value_assignment target e) (On head.ToSetText (terms (e.pieces ++ target.actual ∷ []))) (value_none target e) (omega arith)

set_none : (names : Naming) (target e : Read) → form_text (assignment names target e) ≤ 0
unfolding assignment
set_none names target e = either (is_text names target.base) (text_assignment target e) (value_assignment target e) (text_none target e) (value_none target e)

assigned : (names : Naming) (target e : Expr) → form_text (assign_form names target e) ≤ 0
unfolding assign_form form_text
assigned names target e = either (is_statement_function names (heading_of target).applied) Passes (assignment names (read names target) (read names e)) (omega arith) (set_none names (read names target) (read names e))

returned : (names : Naming) (e : Option Expr) → form_text (return_form names e) ≤ 0
unfolding return_form form_text head_text
returned names None = omega arith
returned names (Some e) = omega arith

body_text : (names : Naming) (b : Body) → form_text (form_of names b) ≤ stop_length b
unfolding form_of layer_form fold_body form_text head_text stop_length layer_stop transfer_form auxiliary_form
body_text names (whole.Assign target e) = assigned names target e
body_text names (IfOne' e s (more_of-Body b r)) = body_text names b
body_text names (whole.Return e) = returned names e
body_text names (whole.Stop text) = omega arith
body_text names b = omega arith

lines_stop : (names : Naming) (labels : List ℕ) (ss : List Stmt) → lines_text (map (line_of names labels) ss) ≤ total_by (λ (s : Stmt). stop_length s.body) ss
unfolding line_of lines_text total_by
lines_stop names labels [] = omega arith
lines_stop names labels (s ∷ ss) =
    let one = body_text names s.body in
    let more = lines_stop names labels ss in
    omega (arith, one, more)

lines_read : (options : Options) (u : GivenUnit) → (labels : List ℕ) × ((unit_read options u).lines ≡ map (line_of (given_names u) labels) u.statements)
unfolding unit_read with_ties program_of given_names
lines_read options u = (_, refl)

-- no more than is written
pub unit_text : (options : Options) (u : GivenUnit) → lines_text (unit_read options u).lines ≤ unit_stops u
unfolding unit_stops
unit_text options u =
    let is = lines_read options u in
    subst (λ (lines : List Line). lines_text lines ≤ total_by (λ (s : Stmt). stop_length s.body) u.statements) (sym is.1) (lines_stop (given_names u) is.0 u.statements)
