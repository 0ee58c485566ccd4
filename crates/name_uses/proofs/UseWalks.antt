-- Loops over lists whose elements have names.
use Rattle.std.proofs.Common.{◌≡◌, ℕ, ◌+◌, ◌<◌, ◌≤◌, List, [], ◌∷◌, ◌++◌, drop, get_or, length, refl}
use Rattle.found_rows.proofs.Walks.{each_more, each_end}
use Rattle.f_tree.specs.Uses.{Use, all_of}

module _ {X : Type 0} (f : X → List Use) where
  step : (x : X) (xs : List X) → all_of f (x ∷ xs) ≡ f x ++ all_of f xs
  unfolding all_of
  step x xs = refl

  none : all_of f [] ≡ []
  unfolding all_of
  none = refl

  pub all_more : (xs : List X) (i : ℕ) (x d : X) (whole done now : List Use) → i < length xs → x ≡ get_or xs i d → whole ≡ done ++ all_of f (drop i xs)
      → now ≡ done ++ f x → whole ≡ now ++ all_of f (drop (i + 1) xs)
  all_more = each_more (all_of f) f step

  pub all_end : (xs : List X) (i : ℕ) (whole done : List Use) → length xs ≤ i → whole ≡ done ++ all_of f (drop i xs) → done ≡ whole
  all_end = each_end (all_of f) f none
