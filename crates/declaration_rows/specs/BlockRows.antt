-- Which branches go into a block from outside (F28), and which ENTRY statements stand where none may (F41).
-- ANSI X3.9-1978, sections 11.6 to 11.8 (IF blocks), 11.10.8 (DO ranges) and 15.7 (ENTRY).
use Rattle.std.specs.Prelude.{ℕ, suc, nat_eq, nat_lt, nat_le, Bool, true, false, not, ◌&&◌, ◌||◌, List, [], ◌∷◌, ◌++◌, Option, Some, None, if◌then◌else◌}
use Rattle.std.specs.List.{list_any}
use Rattle.fortran_text.specs.f_tree.declared.expressions.Expr.{Expr}
use Rattle.fortran_text.specs.f_tree.declared.expressions.Expr.TheOpen as expr
use Rattle.fortran_text.specs.f_tree.declared.refusals.Kind.{Kind}
use Rattle.fortran_text.specs.f_tree.declared.refusals.Kind.TheVariants.{BranchIntoBlock, BadEntry}
use Rattle.fortran_text.specs.f_tree.declared.refusals.Refusal.{Refusal}
use Rattle.fortran_text.specs.f_tree.declared.statements.Body.{Body}
use Rattle.fortran_text.specs.f_tree.declared.statements.Body.TheOpen as body
use Rattle.fortran_text.specs.f_tree.declared.statements.Control.{Control}
use Rattle.fortran_text.specs.f_tree.declared.statements.ControlValue.{ControlValue}
use Rattle.fortran_text.specs.f_tree.declared.statements.ControlValue.TheVariants as value
use Rattle.fortran_text.specs.f_tree.declared.statements.ControlWord.{ControlWord}
use Rattle.fortran_text.specs.f_tree.declared.statements.ControlWord.TheVariants as word
use Rattle.fortran_text.specs.f_tree.declared.statements.UnitKind.{UnitKind}
use Rattle.fortran_text.specs.f_tree.declared.statements.UnitKind.TheVariants as kind
use Rattle.fortran_text.specs.f_tree.declared.statements.Stmt.{Stmt}
use Rattle.fortran_text.specs.f_tree.declared.units.Unit.{Unit as WrittenUnit}
use Rattle.fortran_text.specs.f_tree.Values.{Bytes}
use Rattle.fortran_text.specs.f_tree.Folds.{fold_expr, fold_body, layer_of}
use Rattle.fortran_text.specs.f_tree.Facts.{Mark, Plain, Opens, Arm, Closes, Attribute, ProgramUnit}
use Rattle.fortran_text.specs.f_tree.Places.{place_of_label}
use Rattle.fortran_text.specs.f_tree.Lines.{Naming, is_character, mark_of}
use Rattle.declaration_rows.specs.Judgement.{unless}
use Rattle.declaration_rows.specs.NameRows.{given_names, stood}
use Rattle.declaration_rows.specs.UnitRows.{Range, ranges_from}

-- THE ARMS OF IF BLOCKS that a statement stands in, the innermost first; an arm is told by the place of the IF, ELSE IF or ELSE before it.
-- The statement that begins an arm stands outside it, and so does the END IF
unfoldable pub arms_at : Mark → List ℕ → List ℕ
arms_at Plain around = around
arms_at Opens around = around
arms_at Arm [] = []
arms_at Arm (arm ∷ around) = around
arms_at Closes [] = []
arms_at Closes (arm ∷ around) = around

unfoldable pub arms_behind : Mark → ℕ → List ℕ → List ℕ
arms_behind Opens i around = i ∷ around
arms_behind Arm i [] = []
arms_behind Arm i (arm ∷ around) = i ∷ around
arms_behind mark i around = arms_at mark around

-- those of the statement so many behind, from a place on
unfoldable pub arms_from : ℕ → ℕ → List ℕ → List Stmt → List ℕ
arms_from place i around [] = []
arms_from place i around (s ∷ ss) =
    if nat_eq place i then arms_at (mark_of s.body) around else arms_from place (suc i) (arms_behind (mark_of s.body) i around) ss

unfoldable pub arms_of : WrittenUnit → ℕ → List ℕ
arms_of u place = arms_from place 0 [] u.statements

-- a branch from one statement to another enters an arm that the first is not in
unfoldable pub enters_arm : WrittenUnit → ℕ → ℕ → Bool
enters_arm u from to = list_any (λ arm. not (list_any (nat_eq arm) (arms_of u from))) (arms_of u to)

-- a DO range is what follows the DO statement, up to and with the terminal statement (11.10.2)
unfoldable pub is_in_range : ℕ → Range → Bool
is_in_range i r = nat_lt r.first i && nat_le i r.last

unfoldable pub enters_range_of : List Range → ℕ → ℕ → Bool
enters_range_of ranges from to = list_any (λ r. is_in_range to r && not (is_in_range from r)) ranges

unfoldable pub enters_block : WrittenUnit → ProgramUnit → ℕ → Option ℕ → Bool
enters_block u p from None = false
enters_block u p from (Some to) = enters_arm u from to || enters_range_of (ranges_from p 0 u.statements) from to

-- THE LABELS that a statement may branch to
unfoldable pub layer_exits : expr.Expr-F (List ℕ) → List ℕ
layer_exits (expr.AltReturn label) = label ∷ []
layer_exits _ = []

unfoldable pub exits_of : List Expr → List ℕ
exits_of [] = []
exits_of (e ∷ es) = fold_expr layer_exits e ++ exits_of es

unfoldable pub label_of_word : ControlWord → ControlValue → List ℕ
label_of_word word.OnError (value.Label label) = label ∷ []
label_of_word word.OnEnd (value.Label label) = label ∷ []
label_of_word _ _ = []

unfoldable pub labels_of_controls : List Control → List ℕ
labels_of_controls [] = []
labels_of_controls (c ∷ cs) = label_of_word c.word c.value ++ labels_of_controls cs

unfoldable pub layer_branches : body.Body-F (List ℕ) → List ℕ
layer_branches (body.Goto label) = label ∷ []
layer_branches (body.GotoList labels e) = labels
layer_branches (body.GotoName x labels) = labels
layer_branches (body.IfSign e below at above) = below ∷ at ∷ above ∷ []
layer_branches (body.IfOne e labels) = labels
layer_branches (body.Call x es) = exits_of es
layer_branches (body.Transfer way controls items) = labels_of_controls controls
layer_branches (body.Auxiliary which controls) = labels_of_controls controls
layer_branches _ = []

unfoldable pub branches_of : Body → List ℕ
branches_of b = fold_body layer_branches b

unfoldable pub branch_rows : WrittenUnit → ProgramUnit → ℕ → Body → List Kind
branch_rows u p from b = unless (not (list_any (λ label. enters_block u p from (place_of_label p label)) (branches_of b))) BranchIntoBlock

-- ENTRY stands in a subroutine or function, outside blocks and DO ranges; entries of a function share its result, so all are numeric, or
-- all CHARACTER of one length (15.7.3, 15.7.4)
unfoldable pub has_entries : UnitKind → Bool
has_entries kind.Subroutine = true
has_entries (kind.Function spec) = true
has_entries _ = false

unfoldable pub is_outside_arms : List ℕ → Bool
is_outside_arms [] = true
is_outside_arms (arm ∷ around) = false

unfoldable pub is_outside_blocks : WrittenUnit → ProgramUnit → ℕ → Bool
is_outside_blocks u p i = is_outside_arms (arms_of u i) && not (list_any (is_in_range i) (ranges_from p 0 u.statements))

unfoldable pub same_length : Option ℕ → Option ℕ → Bool
same_length None None = true
same_length (Some n) (Some m) = nat_eq n m
same_length _ _ = false

unfoldable pub share_result : Attribute → Attribute → Bool
share_result own entry =
    if is_character own.basic then is_character entry.basic && same_length own.width entry.width else not (is_character entry.basic)

unfoldable pub shares_result : WrittenUnit → Naming → UnitKind → Option Bytes → Bytes → Bool
shares_result u names (kind.Function spec) (Some own) x = share_result (names own) (names x)
shares_result u names _ own x = true

unfoldable pub entry_rows : WrittenUnit → ProgramUnit → ℕ → Body → List Kind
entry_rows u p i b = elim (layer_of b) [
  | body.Entry x dummies ↦
      unless (has_entries u.kind && is_outside_blocks u p i) BadEntry ++ unless (shares_result u (given_names u) u.kind u.name x) BadEntry
  | _ ↦ []
]

unfoldable pub block_rows_from : WrittenUnit → ProgramUnit → ℕ → List Stmt → List Refusal
block_rows_from u p i [] = []
block_rows_from u p i (s ∷ ss) = stood s (branch_rows u p i s.body ++ entry_rows u p i s.body) ++ block_rows_from u p (suc i) ss

unfoldable pub unit_block_rows : WrittenUnit → ProgramUnit → List Refusal
unit_block_rows u p = block_rows_from u p 0 u.statements

unfoldable pub block_rows_opened : Unit {0}
unfolding arms_at arms_behind arms_from arms_of enters_arm is_in_range enters_range_of enters_block layer_exits exits_of label_of_word labels_of_controls layer_branches branches_of branch_rows has_entries is_outside_arms is_outside_blocks same_length share_result shares_result entry_rows block_rows_from unit_block_rows
block_rows_opened = tt
