-- Scans of a text for its kind.
use Rattle.std.proofs.Common.{◌≡◌, ℕ, zero, suc, ◌+◌, ◌-◌, ◌<◌, ◌≤◌, Bool, true, false, List, [], ◌∷◌, ◌++◌, drop, refl, sym, ap, ◌∙◌, Some, None, arith}
use Rattle.std.specs.Prelude.{◌==◌, ◌&&◌, not, cond, if◌then◌else◌}
use Rattle.std.specs.List.{prefix_len}
use Rattle.std.proofs.Math.Dec.{eqb-suc-zero}
use Rattle.fortran_text.specs.declared.characters.Character.{Character}
use Rattle.fortran_lexemes.specs.KindsOfStatements.{nesting_behind, after_parentheses, outside_constants, outside_parentheses}

pub closed_none : (depth : ℕ) (rest : List ℕ) → 0 < depth → [] ≡ rest → None ≡ after_parentheses depth rest
unfolding after_parentheses
closed_none zero rest h is = absurd (omega arith)
closed_none (suc depth) [] h is = refl
closed_none (suc depth) (c ∷ rest) h is = absurd (cc)

pub closed_on : (depth c : ℕ) (rest whole : List ℕ) → 0 < depth → c ∷ rest ≡ whole → after_parentheses depth whole ≡ after_parentheses (nesting_behind depth c) rest
unfolding after_parentheses
closed_on zero c rest whole h is = absurd (omega arith)
closed_on (suc depth) c rest whole h is = ap (λ l. after_parentheses (suc depth) l) (sym is)

pub closed_found : (depth : ℕ) (rest : List ℕ) → depth ≤ 0 → Some rest ≡ after_parentheses depth rest
unfolding after_parentheses
closed_found zero rest h = refl
closed_found (suc depth) rest h = absurd (omega arith)

pub outside-cons : (c : Character) (rest : List Character) → outside_constants (c ∷ rest) ≡ (if c.quoted then [] else c.code ∷ []) ++ outside_constants rest
unfolding outside_constants
outside-cons c rest = by_quoted c.code c.quoted rest
  where
    by_quoted : (code : ℕ) (q : Bool) (rest : List Character) → outside_constants (record { code = code; quoted = q } ∷ rest) ≡ (if q then [] else code ∷ []) ++ outside_constants rest
    by_quoted code true rest = refl
    by_quoted code false rest = refl

pub marks-cons : (depth c : ℕ) (rest : List ℕ) → outside_parentheses depth (c ∷ rest) ≡ (if depth == 0 && not (c == 40) then c ∷ [] else []) ++ outside_parentheses (nesting_behind depth c) rest
unfolding outside_parentheses
marks-cons depth c rest = by_test (depth == 0 && not (c == 40)) (outside_parentheses (nesting_behind depth c) rest)
  where
    by_test : (t : Bool) (more : List ℕ) → (if t then c ∷ more else more) ≡ (if t then c ∷ [] else []) ++ more
    by_test true more = refl
    by_test false more = refl

-- no character more
pub marks_none : (depth : ℕ) (rest : List ℕ) → [] ≡ rest → [] ≡ outside_parentheses depth rest
unfolding outside_parentheses
marks_none depth [] is = refl
marks_none depth (c ∷ rest) is = absurd (cc)

-- a character that stands in parentheses, or opens them
pub marks_past : (depth next c : ℕ) (rest whole : List ℕ) → c ∷ rest ≡ whole → (depth == 0 && not (c == 40)) ≡ false → next ≡ nesting_behind depth c
    → outside_parentheses depth whole ≡ outside_parentheses next rest
marks_past depth next c rest whole is inside behind =
    ap (λ l. outside_parentheses depth l) (sym is) ∙ marks-cons depth c rest
    ∙ ap (λ b. (if b then c ∷ [] else []) ++ outside_parentheses (nesting_behind depth c) rest) inside ∙ ap (λ d. outside_parentheses d rest) (sym behind)

nesting_outside : (depth c : ℕ) → (depth == 0 && not (c == 40)) ≡ true → nesting_behind depth c ≡ 0
unfolding nesting_behind
nesting_outside zero c h = by_test (c == 40) (c == 41) h
  where
    by_test : (a b : Bool) → not a ≡ true → (if a then 0 + 1 else if b then 0 - 1 else 0) ≡ 0
    by_test true b h = absurd (cc)
    by_test false true h = refl
    by_test false false h = refl
nesting_outside (suc depth) c h = let never : false ≡ true = sym (ap (λ b. b && not (c == 40)) (eqb-suc-zero depth)) ∙ h in absurd (cc)

-- a character outside them
pub marks_found : (depth c : ℕ) (rest whole : List ℕ) → c ∷ rest ≡ whole → (depth == 0 && not (c == 40)) ≡ true
    → c ∷ outside_parentheses 0 rest ≡ outside_parentheses depth whole
marks_found depth c rest whole is outside =
    ap (λ d. c ∷ outside_parentheses d rest) (sym (nesting_outside depth c outside))
    ∙ ap (λ b. (if b then c ∷ [] else []) ++ outside_parentheses (nesting_behind depth c) rest) (sym outside) ∙ sym (marks-cons depth c rest)
    ∙ ap (λ l. outside_parentheses depth l) is

-- a character that is passed
pub passed_on : (p : ℕ → Bool) (c : ℕ) (rest whole : List ℕ) → c ∷ rest ≡ whole → p c ≡ true → drop (prefix_len p whole) whole ≡ drop (prefix_len p rest) rest
passed_on p c rest whole is passes =
    let more : 1 + prefix_len p rest ≡ suc (prefix_len p rest) = omega arith in
    ap (λ l. drop (prefix_len p l) l) (sym is) ∙ ap (λ b. drop (cond b (1 + prefix_len p rest) 0) (c ∷ rest)) passes ∙ ap (λ n. drop n (c ∷ rest)) more
