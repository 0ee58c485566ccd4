-- The cases of a `switch`, one after the other.
use Rattle.std.proofs.Common.{◌≡◌, ℕ, zero, suc, ◌+◌, ◌-◌, ◌<◌, ◌≤◌, List, [], ◌∷◌, ◌++◌, length, drop, get_or, refl, ap, sym, ◌∙◌, arith, append_assoc, append-nil}
use Rattle.std.proofs.lemmas.List.{drop_all, drop_more}
use Rattle.named_items.specs.declared.item.Case.{Case}
use Rattle.item_emission.specs.NamedEmission.{case_to, cases_from, label_cases}

cases-none : (number position count : ℕ) → count ≡ zero → cases_from number position count ≡ []
unfolding cases_from
cases-none number position zero is = refl
cases-none number position (suc count) is = absurd (cc)

cases-first : (number position count left : ℕ) → count ≡ suc left → cases_from number position count ≡ case_to number position ∷ cases_from (suc number) (suc position) left
unfolding cases_from
cases-first number position count left is = ap (cases_from number position) is

-- the cases behind the first ones, of which there are so many
abbrev pub cases_behind : ℕ → ℕ → ℕ → List Case
cases_behind position count passed = cases_from (suc passed) (suc position + passed) (count - passed)

cases-next : (position count passed : ℕ) → passed < count → cases_behind position count passed ≡ case_to (suc passed) (suc position + passed) ∷ cases_behind position count (passed + 1)
cases-next position count passed within =
    let fewer : count - passed ≡ suc (count - (passed + 1)) = omega arith in
    let number : suc (suc passed) ≡ suc (passed + 1) = omega arith in
    let place : suc (suc position + passed) ≡ suc position + (passed + 1) = omega arith in
    cases-first (suc passed) (suc position + passed) (count - passed) (count - (passed + 1)) fewer
    ∙ (λ i. case_to (suc passed) (suc position + passed) ∷ cases_from (number i) (place i) (count - (passed + 1)))

pub cases-more : (position count passed number place : ℕ) (case : Case) (whole done : List Case) → passed < count → number ≡ suc passed → place ≡ suc position + passed → case ≡ case_to number place
    → whole ≡ done ++ cases_behind position count passed → whole ≡ (done ++ case ∷ []) ++ cases_behind position count (passed + 1)
cases-more position count passed number place case whole done within number_is place_is case_is so_far =
    let rest = cases_behind position count (passed + 1) in
    so_far ∙ ap (λ cases. done ++ cases) (cases-next position count passed within)
    ∙ sym (λ i. done ++ (case_is ∙ (λ j. case_to (number_is j) (place_is j))) i ∷ rest)
    ∙ sym (append_assoc done (case ∷ []) rest)

pub cases-end : (position count passed : ℕ) (whole done : List Case) → count ≤ passed → whole ≡ done ++ cases_behind position count passed → done ≡ whole
cases-end position count passed whole done past so_far =
    let none : count - passed ≡ zero = omega arith in
    sym (so_far ∙ ap (λ cases. done ++ cases) (cases-none (suc passed) (suc position + passed) (count - passed) none) ∙ append-nil done)

-- the cases of the labels from one on
abbrev pub labels_behind : ℕ → List ℕ → ℕ → List Case
labels_behind position labels passed = label_cases (suc position + passed) (drop passed labels)

labels-next : (position : ℕ) (labels : List ℕ) (passed : ℕ) → passed < length labels
    → labels_behind position labels passed ≡ case_to (get_or labels passed 0) (suc position + passed) ∷ labels_behind position labels (passed + 1)
unfolding label_cases
labels-next position labels passed within =
    let place : suc (suc position + passed) ≡ suc position + (passed + 1) = omega arith in
    ap (label_cases (suc position + passed)) (drop_more labels passed 0 within) ∙ ap (λ m. case_to (get_or labels passed 0) (suc position + passed) ∷ label_cases m (drop (passed + 1) labels)) place

pub labels-begin : (position : ℕ) (labels : List ℕ) (row : List Case) → row ≡ [] → label_cases (suc position) labels ≡ row ++ labels_behind position labels 0
labels-begin position labels row none =
    let same : suc position ≡ suc position + 0 = omega arith in
    ap (λ m. label_cases m labels) same ∙ ap (λ cases. cases ++ labels_behind position labels 0) (sym none)

pub labels-more : (position : ℕ) (labels : List ℕ) (passed label place : ℕ) (case : Case) (whole before after : List Case) → passed < length labels → label ≡ get_or labels passed 0 → place ≡ suc position + passed
    → case ≡ case_to label place → after ≡ before ++ case ∷ [] → whole ≡ before ++ labels_behind position labels passed → whole ≡ after ++ labels_behind position labels (passed + 1)
labels-more position labels passed label place case whole before after within label_is place_is case_is pushed so_far =
    let rest = labels_behind position labels (passed + 1) in
    so_far ∙ ap (λ cases. before ++ cases) (labels-next position labels passed within)
    ∙ sym (λ i. before ++ (case_is ∙ (λ j. case_to (label_is j) (place_is j))) i ∷ rest)
    ∙ sym (append_assoc before (case ∷ []) rest) ∙ ap (λ cases. cases ++ rest) (sym pushed)

pub labels-end : (position : ℕ) (labels : List ℕ) (passed : ℕ) (whole row : List Case) → length labels ≤ passed → whole ≡ row ++ labels_behind position labels passed → row ≡ whole
unfolding label_cases
labels-end position labels passed whole row past so_far =
    sym (so_far ∙ ap (λ ls. row ++ label_cases (suc position + passed) ls) (drop_all passed labels past) ∙ append-nil row)
