-- Where the steps of statements stand, by how many each takes. Positions are counted from 0.
use Rattle.std.specs.Prelude.{◌≡◌, ℕ, zero, suc, ◌+◌, List, [], ◌∷◌, length, Option, Some, None, slice_get}
use Rattle.statement_places.specs.declared.sizes.Size.{Size}
use Rattle.statement_places.specs.declared.positions.Position.{Position}
use Rattle.statement_places.specs.declared.positions.Positions.{Positions}

-- with those of the loops that end with it
unfoldable pub whole_size : Size → ℕ
whole_size size = size.skip + size.form + size.turns

-- where the steps of a statement begin
unfoldable pub start_in : List Size → ℕ → ℕ
start_in [] i = 0
start_in (size ∷ sizes) zero = 0
start_in (size ∷ sizes) (suc i) = whole_size size + start_in sizes i

unfoldable pub position_from : ℕ → Size → Position
position_from start size = record { start = start; own_start = start + size.skip; own_end = start + size.skip + size.form }

pub record ArePositions (sizes : List Size) (positions : Positions) : Type 0 where
  pub count : length positions.places.items ≡ length sizes
  pub each : (i : ℕ) (position : Position) → slice_get positions.places.items i ≡ Some position → (size : Size) → slice_get sizes i ≡ Some size → position ≡ position_from (start_in sizes i) size
  pub end : positions.end ≡ start_in sizes (length sizes)

-- behind the last statement all positions are that of the end
unfoldable pub position_or : ℕ → Option Position → Position
position_or end None = record { start = end; own_start = end; own_end = end }
position_or end (Some position) = position

unfoldable pub position_in : Positions → ℕ → Position
position_in positions i = position_or positions.end (slice_get positions.places.items i)

unfoldable pub step_positions_opened : Unit {0}
unfolding whole_size start_in position_from position_or position_in
step_positions_opened = tt
