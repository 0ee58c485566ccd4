-- The pieces as the list that contracts see.
use Rattle.std.proofs.Common.{◌≡◌, ℕ, ◌<◌, List, length, map, get_or, refl, sym, ap, ◌∙◌, arith, Some}
use Rattle.std.specs.Prelude.{slice_get, option_map}
use Rattle.std.proofs.lemmas.List.{length-map}
use Rattle.std.proofs.lemmas.Option.{slice_get-map, slice_get_read}

-- what is at a place of a list, seen twice
pub at_place : {X Y Z : Type 0} (f : X → Y) (g : Y → Z) (xs : List X) (ys : List Y) (i : ℕ) (x : X) → map f xs ≡ ys → i < length ys → x ≡ get_or xs i x
    → slice_get (map g ys) i ≡ Some (g (f x))
at_place f g xs ys i x is within at =
    let low : i < length xs = omega (arith, length-map xs f, ap length is) in
    ap (λ l. slice_get (map g l) i) (sym is) ∙ slice_get-map g (map f xs) i
    ∙ ap (λ o. option_map g o) (slice_get-map f xs i ∙ ap (λ o. option_map f o) (slice_get_read xs (length xs) i x refl low at))
