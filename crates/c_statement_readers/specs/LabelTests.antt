-- What may still be done with the labels of a function (C89, 3.1.2.1 and 3.6.1), given those that stand and those that are named so far. In the
-- whole function each label that is named stands once.
use Rattle.std.specs.Prelude.{ℕ, nat_le, Bool, not, ◌&&◌, List, length, filter, bytes_eq}
use Rattle.std.specs.List.{list_all}
use Rattle.c_readers.specs.c_tree.CWords.{is_among, is_name}
use Rattle.c_readers.specs.c_tree.CLabels.{LabelsOf, no_label, both, standing, stands_once}

-- A label may be named: it is a name, and stands once at most.
abbrev pub may_be_named : List (List ℕ) → List ℕ → Bool
may_be_named stand label = is_name label && nat_le (length (filter (bytes_eq label) stand)) 1

-- With more statements each label that is named can be made to stand once.
abbrev pub can_meet : LabelsOf → Bool
can_meet labels = list_all (may_be_named labels.stand) labels.named

-- Each label that is named stands once.
abbrev pub meet : LabelsOf → Bool
meet labels = list_all (stands_once labels.stand) labels.named

-- A label may stand: it is a name, and does not stand already where it is named.
abbrev pub may_stand : LabelsOf → List ℕ → Bool
may_stand before label = is_name label && not (is_among label before.named && is_among label before.stand)

-- The labels, with one that stands behind them.
abbrev pub with_label : LabelsOf → List ℕ → LabelsOf
with_label before label = both before (standing label no_label)
