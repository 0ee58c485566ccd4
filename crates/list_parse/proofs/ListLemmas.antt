-- The readers of lists and controls, by what was taken.
use Rattle.std.proofs.Common.{◌≡◌, refl, ℕ, zero, suc, ◌-◌, ◌<◌, Bool, true, false, List, [], ◌∷◌, ◌++◌, Option, Some, None, if◌then◌else◌, arith}
use Rattle.fortran_lexemes.specs.Lexemes.{Lexemes}
use Rattle.fortran_grammar.specs.Forms.{Sort, sort, behind, Comma}
use Rattle.grammar_laws.specs.Exactness.{Reader}
use Rattle.grammar_laws.specs.FormReading.{same, going_on, otherwise, either, meant, enclosed, after, up_to, up_to_piece, items, looped, looped_items, rounds, rounds_on}
use Rattle.grammar_laws.specs.ListReading.{deep_item}
use Rattle.grammar_laws.specs.StatementReading.{loop_form}
use Rattle.f_tree.specs.declared.expressions.Expr.{Expr}
use Rattle.f_tree.specs.declared.statements.ListItem as item
use Rattle.expression_parse.specs.WantedPieces.{taken}
use Rattle.list_parse.specs.ListSteps.{behind_taken, closed, items_by, items_on, looped_step, looped_on}

after_if : {A : Type 0} (b : Bool) (read : Reader A) (rest : Lexemes) → (if b then read rest else None) ≡ behind_taken read (if b then Some rest else None)
unfolding behind_taken
after_if true read rest = refl
after_if false read rest = refl

pub after-taken : {A : Type 0} (k : Sort) (read : Reader A) (pieces : Lexemes) → after k read pieces ≡ behind_taken read (taken k pieces)
unfolding after taken
after-taken k read pieces = after_if (same k (sort pieces)) read (behind pieces)

closed_if : {A : Type 0} (b : Bool) (x : A) (rest : Lexemes) → (if b then Some (x, rest) else None) ≡ closed x (if b then Some rest else None)
unfolding closed
closed_if true x rest = refl
closed_if false x rest = refl

pub up-to-taken : {A : Type 0} (k : Sort) (x : A) (pieces : Lexemes) → up_to_piece k x pieces ≡ closed x (taken k pieces)
unfolding up_to_piece taken
up-to-taken k x pieces = closed_if (same k (sort pieces)) x (behind pieces)

pub ruleset taken_steps = (after-taken, up-to-taken)

items_if : {A : Type 0} (b : Bool) (fuel : ℕ) (read : Reader A) (found : List A) (pieces rest : Lexemes)
    → (if b then items fuel read found rest else Some (found, pieces)) ≡ items_by fuel read found pieces (if b then Some rest else None)
unfolding items_by
items_if true fuel read found pieces rest = refl
items_if false fuel read found pieces rest = refl

items_given : {A : Type 0} (fuel : ℕ) (read : Reader A) (found : List A) (given : Option (A × Lexemes))
    → going_on given (λ x rest. if same Comma (sort rest) then items fuel read (found ++ x ∷ []) (behind rest) else Some (found ++ x ∷ [], rest))
    ≡ going_on given (λ x rest. items_on fuel read (found ++ x ∷ []) rest)
unfolding going_on items_on taken
items_given fuel read found None = refl
items_given fuel read found (Some (x, rest)) = items_if (same Comma (sort rest)) fuel read (found ++ x ∷ []) rest (behind rest)

pub items-zero : {A : Type 0} (fuel : ℕ) (read : Reader A) (found : List A) (pieces : Lexemes) → fuel ≡ 0 → items fuel read found pieces ≡ None
unfolding items
items-zero zero read found pieces h = refl
items-zero (suc fuel) read found pieces h = absurd (omega arith)

pub items-step : {A : Type 0} (fuel : ℕ) (read : Reader A) (found : List A) (pieces : Lexemes) → 0 < fuel
    → items fuel read found pieces ≡ going_on (read pieces) (λ x rest. items_on (fuel - 1) read (found ++ x ∷ []) rest)
unfolding items
items-step zero read found pieces h = absurd (omega arith)
items-step (suc fuel) read found pieces h =
    let e : suc fuel - 1 ≡ fuel = omega arith in
    rw e (items_given fuel read found (read pieces))

pub ruleset items_steps = (items-zero, items-step)

step_if : {A B : Type 0} (b : Bool) (fuel : ℕ) (first : Reader A) (second : Reader B) (found : List A) (x : A) (rest : Lexemes)
    → (if b then looped_on fuel first second (found ++ x ∷ []) rest else None)
    ≡ going_on (going_on (if b then Some (x, rest) else None) (λ y more. Some (found ++ y ∷ [], more))) (λ more behind. looped_on fuel first second more behind)
unfolding going_on
step_if true fuel first second found x rest = refl
step_if false fuel first second found x rest = refl

looped_given : {A B : Type 0} (fuel : ℕ) (first : Reader A) (second : Reader B) (found : List A) (given : Option (A × Lexemes))
    → going_on given (λ x rest. if same Comma (sort rest) then looped_on fuel first second (found ++ x ∷ []) (behind rest) else None)
    ≡ going_on (going_on (going_on given (up_to_piece Comma)) (λ y more. Some (found ++ y ∷ [], more))) (λ more behind. looped_on fuel first second more behind)
unfolding going_on up_to_piece
looped_given fuel first second found None = refl
looped_given fuel first second found (Some (x, rest)) = step_if (same Comma (sort rest)) fuel first second found x (behind rest)

pub looped-zero : {A B : Type 0} (fuel : ℕ) (first : Reader A) (second : Reader B) (found : List A) (pieces : Lexemes) → fuel ≡ 0
    → looped_items fuel first second found pieces ≡ None
unfolding looped_items
looped-zero zero first second found pieces h = refl
looped-zero (suc fuel) first second found pieces h = absurd (omega arith)

pub looped-step : {A B : Type 0} (fuel : ℕ) (first : Reader A) (second : Reader B) (found : List A) (pieces : Lexemes) → 0 < fuel
    → looped_items fuel first second found pieces ≡ going_on (looped_step first found pieces) (λ more rest. looped_on (fuel - 1) first second more rest)
unfolding looped_items looped_step looped_on up_to
looped-step zero first second found pieces h = absurd (omega arith)
looped-step (suc fuel) first second found pieces h =
    let e : suc fuel - 1 ≡ fuel = omega arith in
    rw e (looped_given fuel first second found (first pieces))

pub ruleset looped_steps = (looped-zero, looped-step)

pub deep-zero : (depth : ℕ) (read : Reader Expr) (pieces : Lexemes) → depth ≡ 0 → deep_item depth read pieces ≡ meant item.Item read pieces
unfolding deep_item
deep-zero zero read pieces h = refl
deep-zero (suc depth) read pieces h = absurd (omega arith)

pub deep-step : (depth : ℕ) (read : Reader Expr) (pieces : Lexemes) → 0 < depth
    → deep_item depth read pieces ≡ otherwise (meant item.Item read pieces)
    (meant (λ p. item.Loop p.0 p.1) (enclosed (looped (deep_item (depth - 1) read) loop_form)) pieces)
unfolding deep_item either
deep-step zero read pieces h = absurd (omega arith)
deep-step (suc depth) read pieces h = let e : suc depth - 1 ≡ depth = omega arith in rw e refl

pub ruleset deep_steps = (deep-zero, deep-step)

pub rounds-zero : {A : Type 0} (fuel : ℕ) (read : Reader A) (found : List A) (pieces : Lexemes) → fuel ≡ 0 → rounds fuel read found pieces ≡ None
unfolding rounds
rounds-zero zero read found pieces h = refl
rounds-zero (suc fuel) read found pieces h = absurd (omega arith)

pub rounds-step : {A : Type 0} (fuel : ℕ) (read : Reader A) (found : List A) (pieces : Lexemes) → 0 < fuel
    → rounds fuel read found pieces ≡ rounds_on found pieces (λ x rest. rounds (fuel - 1) read (found ++ x ∷ []) rest) (read pieces)
unfolding rounds
rounds-step zero read found pieces h = absurd (omega arith)
rounds-step (suc fuel) read found pieces h = let e : suc fuel - 1 ≡ fuel = omega arith in rw e refl

pub ruleset rounds_steps = (rounds-zero, rounds-step)
