-- Which of the steps behind it a number picks: those of a computed GO TO, and the ways behind a CALL.
use Rattle.std.specs.Prelude.{◌≡◌, ℕ, ℤ, pos, negsuc, zero, suc, nat_lt, ◌+◌, ◌<◌, ◌≤◌, true, List, [], ◌∷◌, length, map, Option, Some, None, slice_get}
use Rattle.std.proofs.Common.{refl, sym, ap, ◌∙◌, subst, arith}
use Rattle.std.proofs.lemmas.Bool.{lt-ltb, le-ltb}
use Rattle.fortran_laws.specs.f_tree.Values.{Datum, IsLabel, Nothing}
use Rattle.fortran_laws.specs.f_tree.Association.{alternate_of}
use Rattle.fortran_laws.specs.f_tree.Step.{contains, nth_label}
use Rattle.lowering.specs.l_core.Steps.{Step, Text}
use Rattle.lowering.specs.l_core.Machine.{passed_by}
use Rattle.lowering_laws.specs.Walks.{Spans}
use Rattle.lowering_laws.proofs.WalkLemmas.{spans_first, choose_true, choose_false}
use Rattle.lowering_laws.proofs.LabelLemmas.{contains_nth}

-- the label that a number picks is one of the list
pub nth_contained : (labels : List ℕ) (z : ℤ) (label : ℕ) → nth_label labels z ≡ Some label → contains labels label ≡ true
unfolding nth_label
nth_contained labels (pos zero) label e = absurd (cc)
nth_contained labels (pos (suc n)) label e = contains_nth labels n label e
nth_contained labels (negsuc n) label e = absurd (cc)

-- the steps stand in the order of their labels
pub step_stands : (u : Text) (make : ℕ → Step) {p q : ℕ} (labels : List ℕ) (n label : ℕ) → Spans u p (map make labels) q → slice_get labels n ≡ Some label → slice_get u.steps (p + n) ≡ Some (make label)
step_stands u make [] n label spans e = absurd (cc)
step_stands u make {p = p} (l ∷ ls) zero label spans e =
    let at : p ≡ p + 0 = omega arith in
    let same : l ≡ label = cc in
    subst (λ z. slice_get u.steps z ≡ Some (make label)) at ((spans_first u spans).0 ∙ ap (λ l. Some (make l)) same)
step_stands u make {p = p} (l ∷ ls) (suc n) label spans e =
    let at : suc p + n ≡ p + suc n = omega arith in
    subst (λ z. slice_get u.steps z ≡ Some (make label)) at (step_stands u make ls n label (spans_first u spans).1 e)

is_one_of : (labels : List ℕ) (n label : ℕ) → slice_get labels n ≡ Some label → n < length labels
is_one_of [] n label e = absurd (cc)
is_one_of (l ∷ ls) zero label e = omega arith
is_one_of (l ∷ ls) (suc n) label e = let less : n < length ls = is_one_of ls n label e in omega (arith, less)

is_none_of : (labels : List ℕ) (n : ℕ) → slice_get labels n ≡ None → length labels ≤ n
is_none_of [] n e = omega arith
is_none_of (l ∷ ls) zero e = absurd (cc)
is_none_of (l ∷ ls) (suc n) e = let less : length ls ≤ n = is_none_of ls n e in omega (arith, less)

-- as many are passed as stand before that of the label that a number picks
pub passes_to : (labels : List ℕ) (z : ℤ) (label : ℕ) → nth_label labels z ≡ Some label → slice_get labels (passed_by (length labels) z) ≡ Some label
unfolding nth_label passed_by
passes_to labels (pos zero) label e = absurd (cc)
passes_to labels (pos (suc n)) label e = subst (λ k. slice_get labels k ≡ Some label) (sym (choose_true (nat_lt n (length labels)) n (length labels) (lt-ltb n (length labels) (is_one_of labels n label e)))) e
passes_to labels (negsuc n) label e = absurd (cc)

-- all are passed where it picks none
pub passes_all : (labels : List ℕ) (z : ℤ) → nth_label labels z ≡ None → passed_by (length labels) z ≡ length labels
unfolding nth_label passed_by
passes_all labels (pos zero) e = refl
passes_all labels (pos (suc n)) e = choose_false (nat_lt n (length labels)) n (length labels) (le-ltb n (length labels) (is_none_of labels n e))
passes_all labels (negsuc n) e = refl

-- ## The label that a subroutine answers

abbrev pub answered_label : Option ℕ → Datum
answered_label None = Nothing
answered_label (Some label) = IsLabel label

answered_by : (x : Option ℕ) → elim x [ None ↦ Nothing | Some l ↦ IsLabel l ] ≡ answered_label x
answered_by None = refl
answered_by (Some l) = refl

-- it is the one that the number picks
pub alternate_is : (labels : List ℕ) (z : ℤ) → alternate_of labels z ≡ answered_label (nth_label labels z)
unfolding alternate_of nth_label
alternate_is labels (pos zero) = refl
alternate_is labels (pos (suc n)) = answered_by (slice_get labels n)
alternate_is labels (negsuc n) = refl

-- where no labels are passed, none is answered
pub none_answered : (z : ℤ) → alternate_of [] z ≡ Nothing
unfolding alternate_of
none_answered (pos zero) = refl
none_answered (pos (suc n)) = refl
none_answered (negsuc n) = refl
