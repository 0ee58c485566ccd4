-- The text of a statement: what stands outside constants, and what follows FUNCTION.
use Rattle.std.proofs.Common.{◌≡◌, ℕ, ◌+◌, ◌<◌, ◌≤◌, true, false, List, [], ◌∷◌, ◌++◌, length, drop, get_or, append_assoc, refl, sym, ap, ◌∙◌, arith}
use Rattle.std.specs.Prelude.{◌==◌, ◌&&◌, nat_eq, codes, if◌then◌else◌}
use Rattle.std.specs.List.{starts_with}
use Rattle.std.proofs.lemmas.List.{append-nil, drop_more, drop_all}
use Rattle.fortran_text.specs.declared.characters.Character.{Character}
use Rattle.fortran_lexemes.specs.KindsOfStatements.{outside_constants, nesting_behind}
use Rattle.stmt_lex.proofs.KindLemmas.{outside-cons}
use Rattle.split_pieces.specs.WantedNames.{behind_function}

pub outside_on : (text : List Character) (i : ℕ) (d : Character) (found next : List ℕ) → i < length text
    → outside_constants text ≡ found ++ outside_constants (drop i text)
    → next ≡ found ++ (if (get_or text i d).quoted then [] else (get_or text i d).code ∷ [])
    → outside_constants text ≡ next ++ outside_constants (drop (i + 1) text)
outside_on text i d found next low before next_is =
    let c = get_or text i d in
    before ∙ ap (λ l. found ++ outside_constants l) (drop_more text i d low) ∙ ap (λ l. found ++ l) (outside-cons c (drop (i + 1) text))
    ∙ sym (append_assoc found (if c.quoted then [] else c.code ∷ []) (outside_constants (drop (i + 1) text)))
    ∙ ap (λ l. l ++ outside_constants (drop (i + 1) text)) (sym next_is)

outside_nil : outside_constants [] ≡ []
unfolding outside_constants
outside_nil = refl

pub outside_end : (text : List Character) (i : ℕ) (found : List ℕ) → length text ≤ i → outside_constants text ≡ found ++ outside_constants (drop i text)
    → found ≡ outside_constants text
outside_end text i found high before =
    sym (before ∙ ap (λ l. found ++ l) (ap outside_constants (drop_all i text high) ∙ outside_nil) ∙ append-nil found)

-- what follows FUNCTION
pub function_none : (depth : ℕ) (rest : List ℕ) → length rest < 1 → behind_function depth rest ≡ rest
unfolding behind_function
function_none depth [] low = refl
function_none depth (c ∷ rest) low = absurd (omega arith)

function_step : (depth c : ℕ) (rest : List ℕ) → behind_function depth (c ∷ rest)
    ≡ (if depth == 0 && starts_with nat_eq (c ∷ rest) (codes "function") then drop 7 rest else behind_function (nesting_behind depth c) rest)
unfolding behind_function
function_step depth c rest = refl

pub function_found : (depth : ℕ) (rest : List ℕ) → 1 ≤ length rest → (depth == 0 && starts_with nat_eq rest (codes "function")) ≡ true
    → behind_function depth rest ≡ drop 8 rest
function_found depth [] low begins = absurd (omega arith)
function_found depth (c ∷ rest) low begins =
    function_step depth c rest ∙ ap (λ b. if b then drop 7 rest else behind_function (nesting_behind depth c) rest) begins

pub function_past : (depth next : ℕ) (rest behind : List ℕ) (d : ℕ) → 1 ≤ length rest → (depth == 0 && starts_with nat_eq rest (codes "function")) ≡ false
    → next ≡ nesting_behind depth (get_or rest 0 d) → behind ≡ drop 1 rest → behind_function depth rest ≡ behind_function next behind
function_past depth next [] behind d low other next_is behind_is = absurd (omega arith)
function_past depth next (c ∷ rest) behind d low other next_is behind_is =
    function_step depth c rest ∙ ap (λ b. if b then drop 7 rest else behind_function (nesting_behind depth c) rest) other
    ∙ ap (λ n. behind_function n rest) (sym next_is) ∙ ap (λ l. behind_function next l) (sym behind_is)
