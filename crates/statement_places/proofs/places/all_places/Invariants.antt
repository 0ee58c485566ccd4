use Rattle.std.proofs.Common.{◌≡◌, ℕ, length, Some}
use Rattle.std.specs.Prelude.{slice_get}
use Rattle.f_tree.specs.declared.statements.Stmt.{Stmt}
use Rattle.statement_places.specs.declared.places.StatementPlace.{StatementPlace}
use Rattle.statement_places.specs.StepWays.{IsPlaceIn}
use Rattle.statement_places.proofs.places.all_places.Given as goal

abbrev pub invariant-loop-place : goal.invariant-loop-place
invariant-loop-place l = record {
  count : length l.places.items ≡ l.place;
  each : (i : ℕ) (place : StatementPlace) → slice_get l.places.items i ≡ Some place → (s : Stmt) → slice_get l.statements i ≡ Some s → IsPlaceIn l.statements l.layout i s place;
}
