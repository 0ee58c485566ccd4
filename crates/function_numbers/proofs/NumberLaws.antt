-- The places of names, as a loop gives them.
use Rattle.std.proofs.Common.{◌≡◌, refl, ap, sym, ◌∙◌, ℕ, suc, ◌+◌, Bool, true, false, List, [], ◌∷◌, ◌++◌, length, Option, Some, None, position, bytes_eq, if◌then◌else◌, ◌<◌, ◌≤◌, drop, get_or, arith}
use Rattle.std.proofs.Math.Seq.{drop-cons}
use Rattle.std.proofs.lemmas.List.{at_drop_all}
use Rattle.std.proofs.lemmas.Iterator.Adapters.{position_from-zero}
use Rattle.std.specs.List.{position_from}
use Rattle.std.specs.Borrow.{Bor}
use Rattle.first_names.specs.FirstNames.{or_later}
use Rattle.expression_linker.specs.StringsSeen.{texts}

-- what a name has once names are given numbers from this one on
abbrev pub given : Option ℕ → ℕ → List (List ℕ) → List ℕ → Option ℕ
given found number [] q = found
given found number (name ∷ later) q = given (or_later found (if bytes_eq q name then Some number else None)) (number + 1) later q

kept : (value number : ℕ) (names : List (List ℕ)) (q : List ℕ) → given (Some value) number names q ≡ Some value
kept value number [] q = refl
kept value number (name ∷ later) q = kept value (number + 1) later q

first_given : (test : Bool) (number : ℕ) (later : List (List ℕ)) (q : List ℕ) →
    (if test then Some number else given None (number + 1) later q) ≡ given (if test then Some number else None) (number + 1) later q
first_given true number later q = sym (kept number (number + 1) later q)
first_given false number later q = refl

given-from : (number : ℕ) (names : List (List ℕ)) (q : List ℕ) → position_from (bytes_eq q) number names ≡ given None number names q
given-from number [] q = refl
given-from number (name ∷ later) q =
    ap (λ rest. if bytes_eq q name then Some number else rest) (given-from (number + 1) later q) ∙ first_given (bytes_eq q name) number later q

-- all names, before any has a number
pub given-all : (found : Option ℕ) (names : List (List ℕ)) (q : List ℕ) → found ≡ None → position (bytes_eq q) names ≡ given found 0 names q
given-all found names q none = position_from-zero (bytes_eq q) names ∙ given-from 0 names q ∙ ap (λ start. given start 0 names q) (sym none)

-- one of them is given its number
pub given-step : (found now : Option ℕ) (number : ℕ) (d : Bor (List ℕ)) (names : List (Bor (List ℕ))) (q : List ℕ) → number < length names →
    now ≡ or_later found (if bytes_eq q (get_or names number d).now then Some number else None) →
    given found number (texts (drop number names)) q ≡ given now (number + 1) (texts (drop (number + 1) names)) q
given-step found now number d names q h is =
    ap (λ list. given found number (texts list) q) (drop-cons names number d h)
    ∙ ap (λ start. given start (number + 1) (texts (drop (suc number) names)) q) (sym is)
    ∙ ap (λ n. given now (number + 1) (texts (drop n names)) q) (let e : suc number ≡ number + 1 = omega arith in e)

pub given-last : (found : Option ℕ) (number : ℕ) (names : List (Bor (List ℕ))) (q : List ℕ) → length names ≤ number → given found number (texts (drop number names)) q ≡ found
given-last found number names q h = at_drop_all (λ list. given found number (texts list) q) names number h

pub texts-both : (xs ys : List (Bor (List ℕ))) → texts (xs ++ ys) ≡ texts xs ++ texts ys
texts-both [] ys = refl
texts-both (x ∷ xs) ys = ap (λ rest. x.now ∷ rest) (texts-both xs ys)

pub ruleset number_laws = (texts-both)
