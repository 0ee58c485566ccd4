-- The reader of lists at numbers of items that code counts down.
use Rattle.std.proofs.Common.{◌≡◌, refl, ℕ, zero, suc, ◌-◌, ◌<◌, Bool, true, false, List, [], ◌∷◌, ◌++◌, arith}
use Rattle.c_tree.specs.Tokens.{Word, Digits, Quoted, Sign, Including, Bad}
use Rattle.c_readers.specs.Readers.{Tokens, Reader, found, ◌>>=◌}
use Rattle.c_readers.specs.ListReader.{Separator, Closes, Goes, Neither, by_separator, separator, behind_item, separated}
use Rattle.c_expression_reader.specs.Lists.{closing_by, is_closed}

-- the rest of a list, where it is closed or not
abbrev pub closed_or : {A : Type 0} → Reader A → A → Bool → Reader A
closed_or again items true = found items
closed_or again items false = again

by-closing : {A : Type 0} (again : Reader (List A)) (items : List A) (text : List ℕ) (more : Tokens) (of : Separator)
    → by_separator again items text more of ≡ (closing_by text more of >>= closed_or again items)
unfolding closing_by
by-closing again items text more Closes = refl
by-closing again items text more Goes = refl
by-closing again items text more Neither = refl

pub behind-closing : {A : Type 0} (again : Reader (List A)) (closing : List ℕ) (items : List A) (tokens : Tokens)
    → behind_item again closing items tokens ≡ (is_closed closing tokens >>= closed_or again items)
unfolding behind_item is_closed
behind-closing again closing items [] = refl
behind-closing again closing items (Sign text ∷ more) = by-closing again items text more (separator closing text)
behind-closing again closing items (Word text ∷ more) = refl
behind-closing again closing items (Digits n ∷ more) = refl
behind-closing again closing items (Quoted bytes ∷ more) = refl
behind-closing again closing items (Including ∷ more) = refl
behind-closing again closing items (Bad ∷ more) = refl

pub separated-step : {A : Type 0} (item : Reader A) (closing : List ℕ) (count : ℕ) (items : List A) (tokens : Tokens) → 0 < count
    → separated item closing count items tokens
    ≡ (item tokens >>= (λ one. behind_item (separated item closing (count - 1) (items ++ (one ∷ []))) closing (items ++ (one ∷ []))))
unfolding separated
separated-step item closing zero items tokens h = absurd (omega arith)
separated-step item closing (suc count) items tokens h = let e : suc count - 1 ≡ count = omega arith in rw e refl

pub ruleset list_steps = (separated-step, behind-closing)
