-- A store of two sequences, an integer that is 2 and a text of which two characters are defined, and the objects of a C run in
-- which it stands, with a constant behind them.
use Rattle.std.specs.Prelude.{ℕ, zero, suc, pos, false, List, [], ◌∷◌, Option, Some, None, slice_get}
use Rattle.c_image.specs.f_tree.Store.{Store, Undefined, Chr, Part, Number}
use Rattle.c_laws.specs.c_tree.Objects.{Object, Bytes}
use Rattle.c_image.specs.World.{World}
use Rattle.c_image.specs.Held.{number_object}

abbrev pub two_sequences : Store
two_sequences =
    record { cells = Part (Number (pos 2)) 0 ∷ Part (Number (pos 2)) 1 ∷ Part (Number (pos 2)) 2 ∷ Part (Number (pos 2)) 3 ∷ []; read_only = false }
    ∷ record { cells = Chr 65 ∷ Chr 66 ∷ Undefined ∷ []; read_only = false }
    ∷ []

abbrev pub three_objects : List Object
three_objects = number_object (pos 2) ∷ Bytes (Some 65 ∷ Some 66 ∷ None ∷ []) ∷ number_object (pos 5) ∷ []

abbrev pub sizes : ℕ → ℕ
sizes zero = 4
sizes (suc zero) = 3
sizes (suc (suc n)) = 0

abbrev pub constants : ℕ → Option Object
constants zero = None
constants (suc zero) = None
constants (suc (suc zero)) = Some (number_object (pos 5))
constants (suc (suc (suc k))) = None

abbrev pub two_homes : World
two_homes = record {
  homes = slice_get (0 ∷ 1 ∷ []);
  size = sizes;
  fixed = λ n. false;
  height = 2;
  frozen = constants;
}
