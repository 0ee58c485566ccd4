-- Bytes and the marks that tell which of them are set, as the bytes of an object.
use Rattle.std.specs.Prelude.{◌≡◌, ℕ, Bool, true, false, List, [], ◌∷◌, Option, Some, None, Result, Ok, Err}
use Rattle.c_tree.specs.declared.outcome.CFault.{CFault}
use Rattle.c_tree.specs.Faults.{Or, failing}
use Rattle.c_tree.specs.Objects.{Object, Bytes}

abbrev pub cell : ℕ → Bool → Option ℕ
cell byte true = Some byte
cell byte false = None

-- each byte that is set, and nothing for one that is not
abbrev pub marked : List ℕ → List Bool → List (Option ℕ)
marked [] marks = []
marked (byte ∷ later) [] = []
marked (byte ∷ later) (mark ∷ marks) = cell byte mark ∷ marked later marks

-- bytes are changed as a store says, or stay as they were at its fault
abbrev pub Changes : (List (Option ℕ) → Or Object) → List ℕ → List Bool → List ℕ → List Bool → Result (Unit {0}) CFault → Type 0
Changes store bytes marks bytes' marks' (Ok done) = store (marked bytes marks) ≡ Ok (Bytes (marked bytes' marks'))
Changes store bytes marks bytes' marks' (Err fault) = (store (marked bytes marks) ≡ failing fault) × (bytes' ≡ bytes) × (marks' ≡ marks)
