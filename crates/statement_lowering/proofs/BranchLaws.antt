-- A step to each of some labels, label by label: the jumps of a computed GO TO, and the ways of a CALL.
use Rattle.std.proofs.Common.{◌≡◌, ℕ, ◌+◌, ◌<◌, ◌≤◌, List, [], ◌∷◌, ◌++◌, map, length, drop, get_or, ap, sym, ◌∙◌, append_assoc}
use Rattle.std.proofs.lemmas.List.{append-nil, drop_all, at_drop_more}
use Rattle.lowered_tree.specs.l_core.Steps as act
use Rattle.lowered_tree.specs.declared.steps.Step.{Step}
use Rattle.lowered_tree.specs.Shapes.{steps_of}

pub jumps-more : (to : ℕ → act.Step) (labels : List ℕ) (i label : ℕ) (before after : List Step) (whole : List act.Step) → i < length labels → label ≡ get_or labels i 0 →
    steps_of before ++ map to (drop i labels) ≡ whole → steps_of after ≡ steps_of before ++ to label ∷ [] →
    steps_of after ++ map to (drop (i + 1) labels) ≡ whole
jumps-more to labels i label before after whole within is so_far appended =
    let rest = map to (drop (i + 1) labels) in
    ap (λ ss. ss ++ rest) appended ∙ append_assoc (steps_of before) (to label ∷ []) rest ∙ ap (λ l. steps_of before ++ to l ∷ rest) is
    ∙ sym (at_drop_more (λ ls. steps_of before ++ map to ls) labels i 0 within) ∙ so_far

pub jumps-done : (to : ℕ → act.Step) (labels : List ℕ) (i : ℕ) (after : List Step) (whole : List act.Step) → length labels ≤ i →
    steps_of after ++ map to (drop i labels) ≡ whole → steps_of after ≡ whole
jumps-done to labels i after whole past so_far =
    sym (append-nil (steps_of after)) ∙ sym (ap (λ ls. steps_of after ++ map to ls) (drop_all i labels past)) ∙ so_far
