-- A text that is written into a line.
use Rattle.std.proofs.Common.{◌≡◌, ℕ, ◌+◌, ◌≤◌, ◌<◌, List, [], ◌∷◌, ◌++◌, length, take, drop, max, ap, ◌∙◌, rules, arith}
use Rattle.std.proofs.lemmas.List.{same_lists, places}
use Rattle.edit_rules.specs.edit_meaning.EditedRecords.{written_at}

-- a text from within the columns in use on
pub written-within :
    (line text : List ℕ) (used before size : ℕ) → 0 < length text → before ≤ used → used ≤ length line → before + length text ≤ length line →
    size ≡ max used (before + length text) →
    take size (take before line ++ text ++ drop (before + length text) line) ≡ written_at before text (take used line)
written-within line [] used before size some a b c is = absurd (omega arith)
written-within line (first ∷ text) used before size some a b c is =
    same_lists _ _ (search (rules, places)) (λ k d h. grind (arith, places))

pub is-longer :
    (line line' text : List ℕ) (used before size : ℕ) → 0 < length text → before ≤ used → used ≤ length line → before + length text ≤ length line →
    size ≡ max used (before + length text) → line' ≡ take before line ++ text ++ drop (before + length text) line →
    take size line' ≡ written_at before text (take used line)
is-longer line line' text used before size some a b c is made = ap (take size) made ∙ written-within line text used before size some a b c is
