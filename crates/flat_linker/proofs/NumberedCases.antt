-- Cases of a `switch` whose numbers grow by one (C89, 3.6.4.2).
use Rattle.std.proofs.Common.{◌≡◌, ℕ, ◌+◌, ℤ, pos, ◌+ℤ◌, Bool, true, false, ◌&&◌, List, [], ◌∷◌, length, refl, sym, ap, ◌∙◌}
use Rattle.std.specs.Ordering.{int_eq}
use Rattle.std.proofs.lemmas.Bool.Decides.{Decides-int_eq}
use Rattle.c_tree.specs.declared.statement.CCase.{CCase}
use Rattle.c_tree.specs.Flat.{CaseAt}
use Rattle.c_tree.specs.FlatForm.{cases_from}
use Rattle.linked_terms.specs.LinkedItems.{cases_on}
use Rattle.flat_linker.specs.CaseNumbers.{numbered_from}

both-true : (a b : Bool) → a && b ≡ true → (a ≡ true) × (b ≡ true)
both-true true b h = (refl, h)
both-true false b h = absurd (cc)

abbrev case_at : ℤ → ℕ → CaseAt
case_at number position = record { number = number; position = position }

numbered : (cases : List CCase) (first : ℤ) (position : ℕ) → numbered_from first cases ≡ true → cases_on first position (length cases) ≡ cases_from position cases
unfolding cases_on
numbered [] first position grow = refl
numbered (case ∷ later) first position grow =
    let both = both-true (int_eq case.number first) (numbered_from (first +ℤ pos 1) later) grow in
    let here : case.number ≡ first = (Decides-int_eq case.number first).0 both.0 in
    ap (λ z. case_at z position ∷ cases_on (first +ℤ pos 1) (position + 1) (length later)) (sym here)
    ∙ ap (λ z. case_at case.number position ∷ z) (numbered later (first +ℤ pos 1) (position + 1) both.1)

-- the same where the parts are told by other terms
pub numbered-as : (cases : List CCase) (first kept : ℤ) (position place count : ℕ) → numbered_from first cases ≡ true → kept ≡ first → place ≡ position → count ≡ length cases →
    cases_on kept place count ≡ cases_from position cases
numbered-as cases first kept position place count grow same there many =
    (λ i. cases_on (same i) (there i) (many i)) ∙ numbered cases first position grow

pub ruleset numbered_laws = (numbered-as)
