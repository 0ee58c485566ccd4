-- What a call passes in C: for a place a pointer to it, for a value a pointer to an object that holds it, a temporary or a constant.
-- ANSI X3.9-1978, section 15.9; C89, 3.3.2.2.
use Rattle.std.specs.Prelude.{◌≡◌, ℕ, List, [], ◌∷◌, Option, Some, None}
use Rattle.faithful.specs.f_tree.Values.{Datum}
use Rattle.faithful.specs.f_tree.Store.{Sequence}
use Rattle.faithful.specs.f_tree.Association.{sequence_of}
use Rattle.faithful.specs.c_tree.Objects.{Object}
use Rattle.c_image.specs.World.{World, with_sequence}
use Rattle.c_image.specs.Held.{Holds}

-- an actual argument, and the object that holds it where it is a value
pub record Argument : Type 0 where
  pub datum : Datum
  pub object : ℕ

abbrev pub grown_by : World → ℕ → Option Sequence → World
grown_by μ object None = μ
grown_by μ object (Some q) = with_sequence μ (Some object) q

-- the world with the sequences of the values that are passed
abbrev pub with_arguments : World → List Argument → World
with_arguments μ [] = μ
with_arguments μ (argument ∷ later) = with_arguments (grown_by μ argument.object (sequence_of argument.datum)) later

-- each value is held by its object
pub data AreHeld (held : ℕ → Option Object) : List Argument → Type 0 where
  none_held : AreHeld held []
  value_held : (argument : Argument) (later : List Argument) → Holds (held argument.object) argument.datum → AreHeld held later → AreHeld held (argument ∷ later)
  no_value : (argument : Argument) (later : List Argument) → sequence_of argument.datum ≡ None → AreHeld held later → AreHeld held (argument ∷ later)
