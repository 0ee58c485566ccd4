-- How often a label is in a list of labels (C89, 3.1.2.1).
use Rattle.std.specs.Prelude.{ℕ, zero, suc, Bool, true, false, List, [], map, filter, length, Option, Some, None, bytes_eq}
use Rattle.std.specs.Map.{lookup}
use Rattle.std.specs.Borrow.{Bor}
use Rattle.c_tree.specs.declared.statement.CCase.{CCase}
use Rattle.c_tree.specs.CLabels.{LabelsOf}

-- the texts that references point to
abbrev pub texts : List (Bor (List ℕ)) → List (List ℕ)
texts references = map (λ reference. reference.now) references

abbrev pub times : List ℕ → List (List ℕ) → ℕ
times label labels = length (filter (bytes_eq label) labels)

-- whether what is there so often is there more than once, if it is there
abbrev pub again : ℕ → Option Bool
again zero = None
again (suc zero) = Some false
again (suc (suc more)) = Some true

-- what a table has at a label
abbrev pub found_at : List ℕ → List (Bor (List ℕ) × Bool) → Option Bool
found_at label entries = lookup (λ key. bytes_eq label key.now) entries

-- labels that are named, and those that cases name
abbrev pub naming : List (List ℕ) → LabelsOf
naming names = record { stand = []; named = names }

abbrev pub case_labels : List CCase → List (List ℕ)
case_labels cases = map (λ (case : CCase). case.label) cases
