use Rattle.std.proofs.Common.{◌≡◌, ℕ, List, length, Some}
use Rattle.std.specs.Prelude.{slice_get}
use Rattle.f_tree.specs.declared.statements.Stmt.{Stmt}
use Rattle.lowering.specs.Units.{is_named}
use Rattle.statement_places.specs.declared.sizes.Size.{Size}
use Rattle.statement_places.specs.NamedLabels.{IsLabelSet}
use Rattle.statement_places.specs.StatementSizes.{free_in, ended_in, IsSize}
use Rattle.statement_places.proofs.sizes.statement_sizes.Given as goal

abbrev pub invariant-loop-place : goal.invariant-loop-place
invariant-loop-place l = record {
  count : length l.sizes.items ≡ l.place;
  each : (labels : List ℕ) → IsLabelSet labels l.named → (i : ℕ) (size : Size) → slice_get l.sizes.items i ≡ Some size → (s : Stmt) → slice_get l.statements i ≡ Some s
      → IsSize l.table l.once l.assigned l.statements (free_in l.loops i) (ended_in l.loops i) (is_named labels s.label) s.body size;
}
