-- The rows of one statement by the blocks of its unit.
use Rattle.std.specs.Prelude.{◌≡◌, ℕ, Bool, true, false, not, ◌&&◌, List, [], ◌++◌, length, slice_get, Some, if◌then◌else◌}
use Rattle.std.specs.List.{list_any}
use Rattle.f_tree.specs.Values.{Bytes}
use Rattle.f_tree.specs.Folds.{layer_of}
use Rattle.f_tree.specs.declared.refusals.Kind.{Kind}
use Rattle.f_tree.specs.declared.refusals.Kind.TheVariants.{BranchIntoBlock, BadEntry}
use Rattle.f_tree.specs.declared.refusals.Refusal.{Refusal}
use Rattle.f_tree.specs.declared.statements.Body.{Body}
use Rattle.f_tree.specs.declared.statements.Body.TheOpen as body
use Rattle.f_tree.specs.declared.statements.Body.TheVariants as whole
use Rattle.f_tree.specs.declared.statements.DummyArgument.{DummyArgument}
use Rattle.f_tree.specs.declared.statements.Stmt.{Stmt}
use Rattle.f_tree.specs.declared.statements.UnitKind.{UnitKind}
use Rattle.f_tree.specs.declared.units.Unit.{Unit as WrittenUnit}
use Rattle.declaration_rows.specs.Judgement.{unless}
use Rattle.declaration_rows.specs.NameRows.{given_names, stood}
use Rattle.declaration_rows.specs.BlockRows.{branches_of, has_entries, shares_result}
use Rattle.loop_ranges.specs.LoopEnds.{labelled_at}
use Rattle.block_judge.specs.Blocks.{enters_in, is_outside_in}

unfoldable pub branch_rows_in : List Stmt → ℕ → Body → List Kind
branch_rows_in ss place b = unless (not (list_any (λ label. enters_in ss place (labelled_at 0 ss label)) (branches_of b))) BranchIntoBlock

unfoldable pub is_entry : Body → Bool
is_entry b = elim (layer_of b) [ body.Entry x dummies ↦ true | _ ↦ false ]

unfoldable pub entry_rows_in : List Stmt → UnitKind → Bool → ℕ → Body → List Kind
entry_rows_in ss kind shares place b =
    if is_entry b then unless (has_entries kind && is_outside_in ss place) BadEntry ++ unless shares BadEntry else []

unfoldable pub rows_in : List Stmt → UnitKind → Bool → ℕ → Stmt → List Refusal
rows_in ss kind shares place s = stood s (branch_rows_in ss place s.body ++ entry_rows_in ss kind shares place s.body)

-- of each statement of a unit that is an ENTRY it is told whether it shares the result of its function
pub record TellsSharing (u : WrittenUnit) (shares : List Bool) : Type 0 where
  pub count : length shares ≡ length u.statements
  pub tells : (place : ℕ) (s : Stmt) → slice_get u.statements place ≡ Some s → (x : Bytes) (dummies : List DummyArgument) → s.body ≡ whole.Entry x dummies →
      slice_get shares place ≡ Some (shares_result u (given_names u) u.kind u.name x)
