-- Whether the range of a DO or DO WHILE ends, by how the statement stands to loops. ANSI X3.9-1978, section 11.10, and MIL-STD-1753.
use Rattle.std.specs.Prelude.{ℕ, Bool, true, ◌&&◌, List, Option, length, slice_get}
use Rattle.f_tree.specs.declared.statements.Stmt.{Stmt}
use Rattle.declaration_rows.specs.UnitRows.{may_end_loop, such_statement, such_at, is_behind}
use Rattle.loop_ranges.specs.declared.forms.LoopForm.{LoopForm}
use Rattle.loop_ranges.specs.declared.forms.LoopForm.TheVariants as form

-- may the statement at a place end a DO with a label
unfoldable pub may_end_at : List Stmt → ℕ → Bool
may_end_at ss k = such_statement may_end_loop (slice_get ss k)

-- a DO with a label ends at a statement that may end it, another one at its END DO
unfoldable pub may_end_form : LoopForm → List Stmt → Option ℕ → Bool
may_end_form (form.ToLabel label) ss at = such_at may_end_loop ss at
may_end_form _ ss at = true

-- the terminal statement stands behind the DO and before the last statement
unfoldable pub range_ends : List Stmt → LoopForm → ℕ → Option ℕ → Bool
range_ends ss f i at = is_behind i (length ss) at && may_end_form f ss at
