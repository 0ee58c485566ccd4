-- Records that are known from outside, computed.
use Rattle.std.proofs.Common.{◌≡◌, pos, negsuc, true, false, [], ◌∷◌, refl, replicate}
use Rattle.edit_meaning.specs.Listed.{Int, Logical, Text, listed, in_making, listed_whole}

five : listed (Int (pos 5) ∷ []) true ≡ (32 ∷ 32 ∷ 53 ∷ []) ∷ []
unfolding listed_whole
five = refl

-- the end writes a record that holds its blank alone
nothing : listed [] true ≡ (32 ∷ []) ∷ []
unfolding listed_whole
nothing = refl

kinds : in_making (Int (negsuc 11) ∷ Logical true ∷ Text (65 ∷ 66 ∷ []) ∷ Logical false ∷ []) ≡ 32 ∷ 32 ∷ 45 ∷ 49 ∷ 50 ∷ 32 ∷ 84 ∷ 65 ∷ 66 ∷ 32 ∷ 70 ∷ []
unfolding listed_whole
kinds = refl

-- 160 characters behind an integer: pieces of 79, 79 and 2
long_text : listed (Int (pos 7) ∷ Text (replicate 160 65) ∷ Int (pos 8) ∷ []) true
    ≡ (32 ∷ 32 ∷ 55 ∷ []) ∷ (32 ∷ replicate 79 65) ∷ (32 ∷ replicate 79 65) ∷ (32 ∷ 65 ∷ 65 ∷ 32 ∷ 56 ∷ []) ∷ []
unfolding listed_whole
long_text = refl
