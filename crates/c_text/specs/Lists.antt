-- Lists in a C text: a comma and a blank between each two items.
use Rattle.std.specs.Prelude.{ℕ, List, [], ◌∷◌, ◌++◌, codes}
use Rattle.std.specs.List.{flat_map}

-- the items behind the first one
abbrev pub after_commas : {A : Type 0} → (A → List ℕ) → List A → List ℕ
after_commas text items = flat_map (λ item. codes ", " ++ text item) items

-- the texts of a list with a comma between each two
abbrev pub between_commas : {A : Type 0} → (A → List ℕ) → List A → List ℕ
between_commas text [] = []
between_commas text (first ∷ later) = text first ++ after_commas text later

-- a list in braces
unfoldable pub braced : {A : Type 0} → (A → List ℕ) → List A → List ℕ
braced text items = codes "{ " ++ (between_commas text items ++ codes " }")
