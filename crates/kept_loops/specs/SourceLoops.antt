-- The loops and the transfers of a program unit, and the labels where its statements may lead; a statement that a logical IF guards counts as any other.
-- ANSI X3.9-1978, sections 3.4, 10.3, 11.1 to 11.4, 11.10, 12.7, 12.8 and 15.6.2.3; MIL-STD-1753 for DO WHILE.
use Rattle.std.specs.List.{sum, list_any, flat_map}
use Rattle.std.specs.Prelude.{ℕ, zero, suc, ◌+◌, Bool, List, [], ◌∷◌, ◌++◌, map, filter, Option, Some}
use Rattle.loop_marks.specs.l_core.f_tree.declared.expressions.Expr.TheOpen as expr
use Rattle.loop_marks.specs.l_core.f_tree.declared.names.Class.{Class}
use Rattle.loop_marks.specs.l_core.f_tree.declared.names.Class.TheVariants as class
use Rattle.loop_marks.specs.l_core.f_tree.declared.statements.Body.TheOpen as body
use Rattle.loop_marks.specs.l_core.f_tree.declared.statements.Control.{Control}
use Rattle.loop_marks.specs.l_core.f_tree.declared.statements.ControlValue.{ControlValue}
use Rattle.loop_marks.specs.l_core.f_tree.declared.statements.ControlValue.TheVariants as value
use Rattle.loop_marks.specs.l_core.f_tree.declared.statements.ControlWord.{ControlWord}
use Rattle.loop_marks.specs.l_core.f_tree.declared.statements.ControlWord.TheVariants as word
use Rattle.loop_marks.specs.l_core.f_tree.declared.statements.ListItem.TheOpen as item
use Rattle.loop_marks.specs.l_core.f_tree.declared.statements.Stmt.{Stmt}
use Rattle.loop_marks.specs.l_core.f_tree.declared.units.Unit.{Unit as GivenUnit}
use Rattle.loop_marks.specs.l_core.f_tree.Values.{Datum, IsLabel}
use Rattle.loop_marks.specs.l_core.f_tree.CNames.{made_name, StatementLabel, EntryLabel, MadeLabel}
use Rattle.loop_marks.specs.l_core.f_tree.Attributes.{own_names}
use Rattle.loop_marks.specs.l_core.f_tree.Folds.{fold_body, fold_expr, fold_item}
use Rattle.loop_marks.specs.l_core.f_tree.Lines.{Naming}
use Rattle.loop_marks.specs.l_core.f_tree.Places.{has_label}
use Rattle.translated_files.specs.declaration_rows.NameRows.{given_names}

-- ## Loops and transfers

-- one layer of a statement, given how many the statement of a logical IF has: a DO statement (11.10)
unfoldable pub layer_do : body.Body-F ℕ → ℕ
layer_do (body.IfOne e n) = n
layer_do (body.Do label control) = 1
layer_do b = 0

-- a DO WHILE
unfoldable pub layer_while : body.Body-F ℕ → ℕ
layer_while (body.IfOne e n) = n
layer_while (body.DoWhile label e) = 1
layer_while b = 0

-- a READ, WRITE or PRINT (12.8)
unfoldable pub layer_transfer : body.Body-F ℕ → ℕ
layer_transfer (body.IfOne e n) = n
layer_transfer (body.Transfer way controls items) = 1
layer_transfer b = 0

-- the implied DOs of an item (12.8.2.3)
unfoldable pub layer_item : item.ListItem-F ℕ → ℕ
layer_item (item.Item e) = 0
layer_item (item.Loop ns control) = suc (sum ns)

-- and of a transfer
unfoldable pub layer_implied : body.Body-F ℕ → ℕ
layer_implied (body.IfOne e n) = n
layer_implied (body.Transfer way controls items) = sum (map (fold_item layer_item) items)
layer_implied b = 0

-- how many there are in statements
unfoldable pub count_in : (body.Body-F ℕ → ℕ) → List Stmt → ℕ
count_in layer [] = 0
count_in layer (s ∷ ss) = fold_body layer s.body + count_in layer ss

abbrev pub do_statements : GivenUnit → ℕ
do_statements u = count_in layer_do u.statements

abbrev pub do_whiles : GivenUnit → ℕ
do_whiles u = count_in layer_while u.statements

abbrev pub transfers : GivenUnit → ℕ
transfers u = count_in layer_transfer u.statements

abbrev pub implied_dos : GivenUnit → ℕ
implied_dos u = count_in layer_implied u.statements

-- ## Labels that are named

-- the label that a constant is, if it is one
unfoldable pub constant_label : Class → Option Datum → List ℕ
constant_label class.Constant (Some (IsLabel label)) = label ∷ []
constant_label other datum = []

-- the label that an argument passes: that of an alternate return (15.6.2.3), which a constant, a sign or parentheses would only hand on
unfoldable pub layer_argument : Naming → expr.Expr-F (List ℕ) → List ℕ
layer_argument names (expr.Name x) = constant_label (names x).class (names x).constant
layer_argument names (expr.Plus labels) = labels
layer_argument names (expr.Paren labels) = labels
layer_argument names (expr.AltReturn label) = label ∷ []
layer_argument names e = []

-- the labels of ERR= and END= (12.7.1 and 12.7.2)
unfoldable pub label_after : ControlWord → ControlValue → List ℕ
label_after word.OnError (value.Label label) = label ∷ []
label_after word.OnEnd (value.Label label) = label ∷ []
label_after other v = []

unfoldable pub labels_of_controls : List Control → List ℕ
labels_of_controls [] = []
labels_of_controls (c ∷ cs) = label_after c.word c.value ++ labels_of_controls cs

-- one layer of a statement, given the labels that the statement of a logical IF names: ASSIGN (10.3), GO TO (11.1 to 11.3), the arithmetic IF (11.4), CALL,
-- and input and output
unfoldable pub layer_labels : Naming → body.Body-F (List ℕ) → List ℕ
layer_labels names (body.AssignLabel label x) = label ∷ []
layer_labels names (body.Goto label) = label ∷ []
layer_labels names (body.GotoList labels e) = labels
layer_labels names (body.GotoName x labels) = labels
layer_labels names (body.IfSign e below at above) = below ∷ at ∷ above ∷ []
layer_labels names (body.IfOne e labels) = labels
layer_labels names (body.Call x es) = flat_map (fold_expr (layer_argument names)) es
layer_labels names (body.Transfer way controls items) = labels_of_controls controls
layer_labels names (body.Auxiliary which controls) = labels_of_controls controls
layer_labels names b = []

unfoldable pub labels_named : Naming → List Stmt → List ℕ
labels_named names [] = []
labels_named names (s ∷ ss) = fold_body (layer_labels names) s.body ++ labels_named names ss

-- one of some statements has a label (3.4)
unfoldable pub is_label_of : List Stmt → ℕ → Bool
is_label_of ss label = list_any (λ (s : Stmt). has_label s.label label) ss

-- ## Their names in C

-- of the labels of a unit that its statements name
unfoldable pub statement_labels : GivenUnit → List (List ℕ)
statement_labels u = map (λ label. made_name (StatementLabel label)) (filter (is_label_of u.statements) (labels_named (given_names u) u.statements))

-- so many made labels
unfoldable pub made_labels : ℕ → List (List ℕ)
made_labels zero = []
made_labels (suc n) = made_name (MadeLabel (suc n)) ∷ made_labels n

-- the labels that the function of a unit may name: those of its statements that are named, those of its entries, and a made one for each transfer and each
-- DO WHILE
unfoldable pub labels_allowed : GivenUnit → List (List ℕ)
labels_allowed u = statement_labels u ++ (map (λ x. made_name (EntryLabel x)) (own_names u) ++ made_labels (transfers u + do_whiles u))

unfoldable pub source_loops_opened : Unit {0}
unfolding layer_do layer_while layer_transfer layer_item layer_implied count_in constant_label layer_argument label_after labels_of_controls layer_labels labels_named is_label_of statement_labels made_labels labels_allowed
source_loops_opened = tt
