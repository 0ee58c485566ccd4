-- The text of a constant, character by character.
use Rattle.std.proofs.Common.{◌≡◌, refl, sym, ap, ◌∙◌, ℕ, Bool, true, false, ◌&&◌, ◌==◌, not, List, [], ◌∷◌, ◌++◌, append_assoc, append-nil, length, take, drop, get_or, ◌-◌, if◌then◌else◌, ◌<◌, ◌≤◌, eqb-true, arith}
use Rattle.std.proofs.lemmas.Bool.{and_parts}
use Rattle.std.proofs.lemmas.List.{take_all}
use Rattle.fortran_text.specs.declared.characters.Character.{Character}
use Rattle.fortran_lexemes.specs.PiecesOfText.{is_mark, undoubled}
use Rattle.expression_parse.specs.Readings.{behind_doubled}

by_test : (c d : Character) (rest : List Character) (test : Bool) → (is_mark 39 c && is_mark 39 d) ≡ test
    → (if test then 39 ∷ undoubled rest else c.code ∷ undoubled (d ∷ rest)) ≡ c.code ∷ undoubled (if test then rest else d ∷ rest)
by_test c d rest true t = ap (λ (n : ℕ). n ∷ undoubled rest) (sym (eqb-true c.code 39 (and_parts (not c.quoted) (c.code == 39) (and_parts (is_mark 39 c) (is_mark 39 d) t).0).1))
by_test c d rest false t = refl

pub undoubled-more : (c : Character) (more : List Character) → undoubled (c ∷ more) ≡ c.code ∷ undoubled (behind_doubled c more)
unfolding undoubled behind_doubled
undoubled-more c [] = refl
undoubled-more c (d ∷ rest) = by_test c d rest (is_mark 39 c && is_mark 39 d) refl

pub undoubled-nil : undoubled [] ≡ []
unfolding undoubled
undoubled-nil = refl

-- Where all characters were taken, and where one more is.
pub once_done : (text : List Character) (found : List ℕ) (rest : List Character) → undoubled text ≡ found ++ undoubled rest → length rest < 1 → found ≡ undoubled text
unfolding undoubled
once_done text found [] h short = sym (h ∙ append-nil found)
once_done text found (c ∷ rest) h short = absurd (omega arith)

pub once_more : (text : List Character) (found new : List ℕ) (rest behind : List Character) (other : Character) → undoubled text ≡ found ++ undoubled rest → 1 ≤ length rest
    → new ≡ found ++ ((get_or rest 0 other).code ∷ []) → behind ≡ behind_doubled (get_or rest 0 other) (take (length rest - 1) (drop 1 rest)) → undoubled text ≡ new ++ undoubled behind
once_more text found new [] behind other h some taken left = absurd (omega arith)
once_more text found new (c ∷ more) behind other h some taken left =
    let whole : take (length (c ∷ more) - 1) more ≡ more = take_all (length (c ∷ more) - 1) more (omega arith) in
    let left' : behind ≡ behind_doubled c more = left ∙ ap (λ r. behind_doubled c r) whole in
    h ∙ ap (λ z. found ++ z) (undoubled-more c more) ∙ sym (append_assoc found (c.code ∷ []) (undoubled (behind_doubled c more)))
    ∙ ap (λ n. n ++ undoubled (behind_doubled c more)) (sym taken) ∙ ap (λ b. new ++ undoubled b) (sym left')

pub ruleset undoubled_steps = (undoubled-more, undoubled-nil)
