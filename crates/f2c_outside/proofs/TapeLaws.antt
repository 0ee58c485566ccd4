-- Lemmas on the records of a device in memory.
use Rattle.std.proofs.Common.{◌≡◌, ℕ, ◌+◌, ◌<◌, List, [], ◌∷◌, ◌++◌, length, map, take, set, ap, sym, ◌∙◌}
use Rattle.std.proofs.lemmas.List.{map-append, take-map, take_more_set}
use Rattle.f2c_outside.specs.Device.{written_at}

-- the records that stay are the first of those that were there
pub cut-records :
    {X : Type 0} (shown : X → List ℕ) (before after : List X) (position : ℕ)
    → after ≡ take position before
    → map shown after ≡ take position (map shown before)
cut-records shown before after position is = ap (map shown) is ∙ sym (take-map shown position before)

-- a record was put in the place of another, and those behind it were cut off
pub replaced-records :
    {X : Type 0} (shown : X → List ℕ) (before stored after : List X) (line : X) (position : ℕ) (bytes : List ℕ)
    → position < length before
    → stored ≡ set before position line
    → after ≡ take (position + 1) stored
    → shown line ≡ bytes
    → map shown after ≡ written_at position bytes (map shown before)
replaced-records shown before stored after line position bytes within put is same =
    ap (map shown) (is ∙ ap (take (position + 1)) put ∙ take_more_set before position line within)
    ∙ map-append shown (take position before) (line ∷ [])
    ∙ ap (λ (front : List (List ℕ)). front ++ shown line ∷ []) (sym (take-map shown position before))
    ∙ ap (λ (last : List ℕ). take position (map shown before) ++ last ∷ []) same
