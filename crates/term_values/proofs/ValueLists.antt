-- Values from the left, as a loop finds them (C89, 3.3.2.2).
use Rattle.std.specs.Prelude.{◌≡◌, List, [], ◌∷◌, ◌++◌, Ok, Err}
use Rattle.std.proofs.Common.{refl, ap, sym, ◌∙◌, append_assoc}
use Rattle.c_tree.specs.declared.outcome.CValue.{CValue}
use Rattle.c_tree.specs.Faults.{Or, after, failing}
use Rattle.c_tree.specs.Objects.{Object}
use Rattle.c_tree.specs.Values as values
use Rattle.linked_terms.specs.declared.terms.LinkedTerm.{LinkedTerm}
use Rattle.linked_terms.specs.LinkedTerms.{term_of, terms_of}

-- the values of the expressions that are left, behind those that were found
abbrev pub found_first : List Object → List CValue → List LinkedTerm → Or (List CValue)
found_first objects found left = after (values.values_of objects (terms_of left)) λ later. Ok (found ++ later)

nothing_before : (x : Or (List CValue)) → x ≡ after x (λ later. Ok ([] ++ later))
nothing_before (Ok later) = refl
nothing_before (Err reason) = refl

pub first-none : (objects : List Object) (terms : List LinkedTerm) → values.values_of objects (terms_of terms) ≡ found_first objects [] terms
first-none objects terms = nothing_before (values.values_of objects (terms_of terms))

one_before : (found : List CValue) (value : CValue) (x : Or (List CValue)) →
    after (after x λ values. Ok (value ∷ values)) (λ later. Ok (found ++ later)) ≡ after x (λ later. Ok ((found ++ value ∷ []) ++ later))
one_before found value (Ok later) = ap Ok (sym (append_assoc found (value ∷ []) later))
one_before found value (Err reason) = refl

-- one value more is found
pub first-one : (objects : List Object) (found : List CValue) (value : CValue) (term : LinkedTerm) (left : List LinkedTerm) →
    Ok value ≡ values.value_of objects (term_of term) → found_first objects found (term ∷ left) ≡ found_first objects (found ++ value ∷ []) left
first-one objects found value term left is =
    ap (λ one. after (after one λ value. after (values.values_of objects (terms_of left)) λ values. Ok (value ∷ values)) (λ later. Ok (found ++ later))) (sym is)
    ∙ one_before found value (values.values_of objects (terms_of left))

-- a value is a fault
pub first-fault : (objects : List Object) (found : List CValue) (fault : _) (term : LinkedTerm) (left : List LinkedTerm) →
    failing fault ≡ values.value_of objects (term_of term) → found_first objects found (term ∷ left) ≡ failing fault
first-fault objects found fault term left is =
    ap (λ one. after (after one λ value. after (values.values_of objects (terms_of left)) λ values. Ok (value ∷ values)) (λ later. Ok (found ++ later))) (sym is)

pub ruleset list_laws = (first-none, first-one, first-fault)
