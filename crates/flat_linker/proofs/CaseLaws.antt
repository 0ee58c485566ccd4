-- Cases of a `switch`, one behind the other.
use Rattle.std.proofs.Common.{◌≡◌, sym, ap, ◌∙◌, ℕ, ◌+◌, ◌<◌, ◌≤◌, List, [], ◌∷◌, ◌++◌, append_assoc, length, drop, get_or, map, ℤ, SFits}
use Rattle.std.proofs.lemmas.List.{append-nil, map-append, at_drop_more, at_drop_all}
use Rattle.std.specs.Int.{w32, cast_unsigned, cast_signed}
use Rattle.std.proofs.lemmas.Int.{to_z-of_z}
use Rattle.c_tree.specs.declared.statement.CCase.{CCase}
use Rattle.c_tree.specs.Flat.{CaseAt}
use Rattle.c_tree.specs.FlatForm.{cases_from}
use Rattle.linked_terms.specs.declared.items.LinkedCase.{LinkedCase}
use Rattle.linked_terms.specs.LinkedItems.{case_of}

-- a number that is kept as its bits reads as it was
pub case-as : (number : ℤ) (position : ℕ) → SFits w32 number → case_of (record { number = cast_signed w32 (cast_unsigned w32 number); position = position }) ≡ record { number = number; position = position }
case-as number position fits = ap (λ z. case_of (record { number = z; position = position })) (to_z-of_z w32 number fits)

pub places-more : (list : List CCase) (i : ℕ) (a : CCase) (whole : List CaseAt) (made now : List LinkedCase) (new : LinkedCase) (p q : ℕ) → i < length list → a ≡ get_or list i a →
    whole ≡ map case_of made ++ cases_from p (drop i list) → now ≡ made ++ new ∷ [] → case_of new ≡ record { number = a.number; position = p } → q ≡ p + 1 →
    whole ≡ map case_of now ++ cases_from q (drop (i + 1) list)
places-more list i a whole made now new p q inside is before pushed same next =
    let rest : drop i list ≡ a ∷ drop (i + 1) list = at_drop_more (λ z. z) list i a inside ∙ ap (λ z. z ∷ drop (i + 1) list) (sym is) in
    before
    ∙ ap (λ z. map case_of made ++ cases_from p z) rest
    ∙ ap (λ z. map case_of made ++ z ∷ cases_from (p + 1) (drop (i + 1) list)) (sym same)
    ∙ ap (λ z. map case_of made ++ case_of new ∷ cases_from z (drop (i + 1) list)) (sym next)
    ∙ sym (append_assoc (map case_of made) (case_of new ∷ []) (cases_from q (drop (i + 1) list)))
    ∙ ap (λ z. z ++ cases_from q (drop (i + 1) list)) (sym (map-append case_of made (new ∷ [])) ∙ sym (ap (map case_of) pushed))

pub places-end : (list : List CCase) (i : ℕ) (whole : List CaseAt) (made : List LinkedCase) (p : ℕ) → length list ≤ i → whole ≡ map case_of made ++ cases_from p (drop i list) → map case_of made ≡ whole
places-end list i whole made p past before =
    sym (before ∙ ap (λ z. map case_of made ++ cases_from p z) (at_drop_all (λ z. z) list i past) ∙ append-nil (map case_of made))
