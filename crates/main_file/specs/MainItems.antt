-- The flat items of a lowered text, one for each of its steps, and the steps that pass a string. ANSI X3.9-1978, section 11.12; C89, 3.6.
use Rattle.std.specs.Prelude.{ℕ, suc, List, [], ◌∷◌, Option, Some, None}
use Rattle.c_emit.specs.l_core.Steps.{Step, Halt}
use Rattle.c_structure.specs.c_tree.Flat.{Flat}
use Rattle.c_emit.specs.Numbers.{Writing}
use Rattle.c_emit.specs.Flats.{flat_of}

-- the items of steps from a position on
unfoldable pub item_before : Option Flat → Option (List Flat) → Option (List Flat)
item_before (Some item) (Some later) = Some (item ∷ later)
item_before _ _ = None

unfoldable pub flats_from : Writing → (ℕ → Option ℕ) → ℕ → List Step → Option (List Flat)
flats_from w label n [] = Some []
flats_from w label n (st ∷ later) = item_before (flat_of w (λ m. m) label n st) (flats_from w label (suc n) later)

-- the steps that pass a string
unfoldable pub stops_from : ℕ → List Step → List ℕ
stops_from n [] = []
stops_from n (Halt text ∷ later) = n ∷ stops_from (suc n) later
stops_from n (st ∷ later) = stops_from (suc n) later
