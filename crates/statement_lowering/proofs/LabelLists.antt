-- The labels of a list, each once, label by label.
use Rattle.std.proofs.Common.{◌≡◌, ℕ, ◌+◌, ◌-◌, ◌<◌, ◌≤◌, Bool, true, false, List, [], ◌∷◌, ◌++◌, length, take, drop, get_or, refl, ap, sym, ◌∙◌, append_assoc, arith}
use Rattle.std.specs.Prelude.{nat_eq, ◌||◌, if◌then◌else◌}
use Rattle.std.specs.List.{list_any}
use Rattle.std.proofs.lemmas.List.{append-nil, drop_all, drop_more, length-drop, take_all}
use Rattle.f_tree.specs.Step.{contains}
use Rattle.lowering.specs.Statements.{each_once}
use Rattle.statement_lowering.specs.ListedLabels.{unless_again}

one_among : (labels : List ℕ) (label : ℕ) → list_any (λ other. nat_eq other label) labels ≡ contains labels label
unfolding contains
one_among [] label = refl
one_among (k ∷ ks) label = ap (λ b. nat_eq k label || b) (one_among ks label)

pub none_behind : (labels : List ℕ) → labels ++ [] ≡ labels
none_behind labels = append-nil labels

pub ruleset list_forms = (none_behind)

-- a slice from a place up to the end
up_to_end : (labels : List ℕ) (n : ℕ) → take (length labels - n) (drop n labels) ≡ drop n labels
up_to_end labels n = take_all (length labels - n) (drop n labels) (let long = length-drop n labels in omega (arith, long))

first_once : (label : ℕ) (later : List ℕ) (again : Bool) → (if again then each_once later else label ∷ each_once later) ≡ (if again then [] else label ∷ []) ++ each_once later
first_once label later true = refl
first_once label later false = refl

once_next : (labels : List ℕ) (i label : ℕ) → i < length labels → label ≡ get_or labels i 0 → each_once (drop i labels) ≡ unless_again label (drop (i + 1) labels) ++ each_once (drop (i + 1) labels)
unfolding each_once unless_again
once_next labels i label within is =
    ap each_once (drop_more labels i 0 within ∙ ap (λ l. l ∷ drop (i + 1) labels) (sym is))
    ∙ ap (λ b. if b then each_once (drop (i + 1) labels) else label ∷ each_once (drop (i + 1) labels)) (sym (one_among (drop (i + 1) labels) label))
    ∙ first_once label (drop (i + 1) labels) (list_any (λ other. nat_eq other label) (drop (i + 1) labels))

pub once_begins : (labels once : List ℕ) → once ≡ [] → once ++ each_once labels ≡ each_once labels
once_begins labels once none = ap (λ ls. ls ++ each_once labels) none

pub once_more : (labels : List ℕ) (i label : ℕ) (once more : List ℕ) → i < length labels → label ≡ get_or labels i 0 → more ≡ once ++ unless_again label (take (length labels - (i + 1)) (drop (i + 1) labels))
    → once ++ each_once (drop i labels) ≡ each_once labels → more ++ each_once (drop (i + 1) labels) ≡ each_once labels
once_more labels i label once more within is added so_far =
    let rest = each_once (drop (i + 1) labels) in
    ap (λ ls. ls ++ rest) (added ∙ ap (λ ls. once ++ unless_again label ls) (up_to_end labels (i + 1))) ∙ append_assoc once (unless_again label (drop (i + 1) labels)) rest
    ∙ ap (λ ls. once ++ ls) (sym (once_next labels i label within is)) ∙ so_far

pub once_done : (labels : List ℕ) (i : ℕ) (once : List ℕ) → length labels ≤ i → once ++ each_once (drop i labels) ≡ each_once labels → once ≡ each_once labels
unfolding each_once
once_done labels i once past so_far = sym (append-nil once) ∙ sym (ap (λ ls. once ++ each_once ls) (drop_all i labels past)) ∙ so_far
