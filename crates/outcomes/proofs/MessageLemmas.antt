-- The line of a refusal in its two parts.
use Rattle.std.proofs.Common.{◌≡◌, ℕ, List, [], ◌++◌, ap, ◌∙◌, append_assoc}

-- the line of a refusal in its two parts
pub refusal_parts : (a b c : List ℕ) (rest : List ℕ) → (a ++ (b ++ (c ++ []))) ++ rest ≡ a ++ (b ++ (c ++ rest))
refusal_parts a b c rest = append_assoc a (b ++ (c ++ [])) rest ∙ ap (λ z. a ++ z) (append_assoc b (c ++ []) rest ∙ ap (λ z. b ++ z) (append_assoc c [] rest))
