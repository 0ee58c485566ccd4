use Rattle.std.proofs.Common.{◌≡◌, ℕ, length, Some}
use Rattle.std.specs.Prelude.{slice_get}
use Rattle.statement_places.specs.declared.positions.Position.{Position}
use Rattle.statement_places.specs.declared.sizes.Size.{Size}
use Rattle.statement_places.specs.StepPositions.{start_in, position_from}
use Rattle.statement_places.proofs.positions.positions_of.Given as goal

abbrev pub invariant-loop-size : goal.invariant-loop-size
invariant-loop-size l = record {
  count : length l.places.items ≡ l.size-index;
  each : (i : ℕ) (position : Position) → slice_get l.places.items i ≡ Some position → (size : Size) → slice_get l.sizes i ≡ Some size → position ≡ position_from (start_in l.sizes i) size;
  end : l.end ≡ start_in l.sizes l.size-index;
}
