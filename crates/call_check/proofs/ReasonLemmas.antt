-- Arguments and shapes, one after the other.
use Rattle.std.specs.Prelude.{◌≡◌, ℕ, ◌+◌, ◌<◌, ◌≤◌, Bool, true, false, List, [], ◌∷◌, ◌++◌, length, bytes_eq, Option, Some, None, if◌then◌else◌}
use Rattle.std.proofs.Common.{drop, get_or, refl, sym, ap, ◌∙◌, arith}
use Rattle.std.proofs.lemmas.List.{drop_all, nil_from_length}
use Rattle.definition_judge.proofs.TableLemmas.{rest_is}
use Rattle.f_tree.specs.Values.{Bytes}
use Rattle.call_shapes.specs.declared.findings.Reason.{Reason}
use Rattle.call_shapes.specs.declared.shapes.Argument.{Argument}
use Rattle.call_shapes.specs.declared.shapes.Argument.TheVariants.{Integer, Logical, Text, Procedure, Label}
use Rattle.call_shapes.specs.declared.shapes.NamedShape.{NamedShape}
use Rattle.call_shapes.specs.declared.shapes.Shape.{Shape}
use Rattle.call_shapes.specs.Disagreements.{argument_differs, shape_among, without_labels}

-- THE FIRST ARGUMENT that differs, where no dummy arguments are left
differs_short : (k : ℕ) (as' : List Argument) → argument_differs k as' [] ≡ None
unfolding argument_differs
differs_short k [] = refl
differs_short k (a ∷ as') = refl

pub differs_none_left : (as' : List Argument) (k : ℕ) (later : List Argument) (whole : Option Reason) → length later < 1 → whole ≡ argument_differs k as' later → None ≡ whole
differs_none_left as' k later whole h so_far = sym (so_far ∙ ap (argument_differs k as') (nil_from_length later (omega arith)) ∙ differs_short k as')

-- ARGUMENTS WITHOUT LABELS
pub labels_step : (a : Argument) (as' : List Argument) → without_labels (a ∷ as') ≡ without_labels (a ∷ []) ++ without_labels as'
unfolding without_labels
labels_step Integer as' = refl
labels_step Logical as' = refl
labels_step Text as' = refl
labels_step Procedure as' = refl
labels_step Label as' = refl

pub labels_none : without_labels [] ≡ []
unfolding without_labels
labels_none = refl

-- THE FIRST SHAPE with a name
among_step : (x : Bytes) (p : NamedShape) (ps : List NamedShape) → shape_among x (p ∷ ps) ≡ (if bytes_eq p.name x then Some p.shape else shape_among x ps)
unfolding shape_among
among_step x p ps = refl

among_none : (x : Bytes) → shape_among x [] ≡ None
unfolding shape_among
among_none x = refl

pub among_on : (x : Bytes) (ps : List NamedShape) (i : ℕ) (p d : NamedShape) (whole : Option Shape) → i < length ps → p ≡ get_or ps i d → bytes_eq p.name x ≡ false
    → whole ≡ shape_among x (drop i ps) → whole ≡ shape_among x (drop (i + 1) ps)
among_on x ps i p d whole h is other so_far =
    so_far ∙ ap (shape_among x) (rest_is ps i p d h is) ∙ among_step x p (drop (i + 1) ps) ∙ ap (λ (b : Bool). if b then Some p.shape else shape_among x (drop (i + 1) ps)) other

pub among_here : (x : Bytes) (ps : List NamedShape) (i : ℕ) (p d : NamedShape) (whole : Option Shape) → i < length ps → p ≡ get_or ps i d → bytes_eq p.name x ≡ true
    → whole ≡ shape_among x (drop i ps) → Some p.shape ≡ whole
among_here x ps i p d whole h is same so_far =
    sym (so_far ∙ ap (shape_among x) (rest_is ps i p d h is) ∙ among_step x p (drop (i + 1) ps) ∙ ap (λ (b : Bool). if b then Some p.shape else shape_among x (drop (i + 1) ps)) same)

pub among_end : (x : Bytes) (ps : List NamedShape) (i : ℕ) (whole : Option Shape) → length ps ≤ i → whole ≡ shape_among x (drop i ps) → None ≡ whole
among_end x ps i whole h so_far = sym (so_far ∙ ap (shape_among x) (drop_all i ps h) ∙ among_none x)
