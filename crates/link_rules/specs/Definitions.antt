-- External objects that files give images, and names that stand twice (C89, 3.7 and 3.7.2).
use Rattle.std.specs.Prelude.{ℕ, ◌||◌, Bool, false, List, [], ◌∷◌, Option, Some, None, is_some, bytes_eq, if◌then◌else◌}
use Rattle.c_tree.specs.declared.file.CObject.{CObject}
use Rattle.c_tree.specs.Linking.{external}

-- the name of an object that is given an image
abbrev pub imaged_name : CObject → Option (List ℕ)
imaged_name object = if is_some (external object).image then Some (external object).name else None

-- whether a name stands twice, or was seen before
abbrev pub repeats_from : (List ℕ → Bool) → List (List ℕ) → Bool
repeats_from seen [] = false
repeats_from seen (name ∷ later) = seen name || repeats_from (λ q. seen q || bytes_eq q name) later
