-- The temporaries that the loops around a statement keep, as the code finds them. ANSI X3.9-1978, section 11.10.
use Rattle.std.specs.Prelude.{◌≡◌, ℕ, List, [], ◌∷◌, Option, Some, None, slice_get}
use Rattle.f_tree.specs.declared.statements.Body.{Body}
use Rattle.f_tree.specs.declared.statements.Body.TheOpen as body
use Rattle.f_tree.specs.declared.statements.Stmt.{Stmt}
use Rattle.f_tree.specs.Folds.{layer_of}
use Rattle.f_tree.specs.Lines.{Naming, control_of}
use Rattle.f_tree.specs.Nests.{Range}
use Rattle.expression_lowering.specs.lowering.Statements.{loop_operands}
use Rattle.name_facts.specs.declared.table.NameFacts.{NameFacts}
use Rattle.expression_lowering.specs.TableNames.{AreFactsOf}

-- the first temporary that is free in the range of the loop that a statement begins, given the first that is free at the statement
unfoldable pub free_inside : Naming → ℕ → Body → ℕ
free_inside names k b = elim (layer_of b) [ body.Do label control ↦ (loop_operands k (control_of names control)).free | _ ↦ k ]

unfoldable pub free_at_loop : Naming → ℕ → Option Stmt → ℕ
free_at_loop names k None = k
free_at_loop names k (Some s) = free_inside names k s.body

-- the first temporary that none of some loops keeps, the innermost of which stands first
unfoldable pub free_among : Naming → List Stmt → List Range → ℕ
free_among names ss [] = 0
free_among names ss (r ∷ outer) = free_at_loop names (free_among names ss outer) (slice_get ss r.first)

-- the same, whatever the names are of which the table tells
pub record IsFreeInside (table : NameFacts) (k : ℕ) (b : Body) (free : ℕ) : Type 0 where
  pub meant : (names : Naming) → AreFactsOf names table → free ≡ free_inside names k b

pub record IsFreeAtLoop (table : NameFacts) (k : ℕ) (s : Option Stmt) (free : ℕ) : Type 0 where
  pub meant : (names : Naming) → AreFactsOf names table → free ≡ free_at_loop names k s

pub record IsFreeAmong (table : NameFacts) (ss : List Stmt) (rs : List Range) (free : ℕ) : Type 0 where
  pub meant : (names : Naming) → AreFactsOf names table → free ≡ free_among names ss rs
