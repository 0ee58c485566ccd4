-- The readers of statements at numbers that code counts down.
use Rattle.std.proofs.Common.{◌≡◌, refl, sym, ap, ◌∙◌, ℕ, zero, suc, ◌-◌, ◌<◌, Bool, true, false, codes, bytes_eq, List, [], ◌∷◌, ◌++◌, Option, Some, None, Ok, Err, if◌then◌else◌, arith}
use Rattle.c_tree.specs.declared.expression.CExpr.{CExpr}
use Rattle.c_tree.specs.declared.statement.CStmt.{CStmt}
use Rattle.c_tree.specs.declared.statement.CStmt.TheVariants as form
use Rattle.c_tree.specs.Tokens.{Word, Digits, Quoted, Sign, Including, Bad}
use Rattle.c_tree.specs.CLabels.{LabelsOf, both, labels_of}
use Rattle.c_tree.specs.CExpressionText.{Scope}
use Rattle.c_readers.specs.Readers.{Tokens, Outcome, Reader, found, refused, ◌>>=◌}
use Rattle.c_statement_readers.specs.StatementReader.{Inner, closing, first_and_more, by_brace, statements, braced, else_by, otherwise, a_statement, statement}
use Rattle.c_statement_reader.specs.Endings.{ending_by, ending}
use Rattle.c_statement_reader.specs.Seconds.{second_by, second_block}

-- the rest of the statements, where they end there or not
abbrev pub ended_or : Inner → (CStmt → Reader (List CStmt)) → LabelsOf → List CStmt → Bool → Reader (List CStmt)
ended_or inner again before items true = found items
ended_or inner again before items false = λ tokens. inner before tokens >>= again

by-test : (inner : Inner) (again : CStmt → Reader (List CStmt)) (closes : LabelsOf → Bool) (before : LabelsOf) (items : List CStmt) (text : List ℕ) (more : Tokens) (ends : Bool)
    → closing before closes items text more ends ≡ ((if ends then found true more else refused (Sign text ∷ more)) >>= ended_or inner again before items)
unfolding closing
by-test inner again closes before items text more true = refl
by-test inner again closes before items text more false = refl

brace-by : (inner : Inner) (again : CStmt → Reader (List CStmt)) (closes : LabelsOf → Bool) (before : LabelsOf) (items : List CStmt) (text : List ℕ) (more : Tokens) (is : Bool)
    → by_brace inner again closes before items text more is ≡ (ending_by closes before text more is >>= ended_or inner again before items)
unfolding by_brace ending_by first_and_more
brace-by inner again closes before items text more true = by-test inner again closes before items text more (closes before)
brace-by inner again closes before items text more false = refl

step : (inner : Inner) (closes : LabelsOf → Bool) (count : ℕ) (before : LabelsOf) (items : List CStmt) (tokens : Tokens)
    → statements inner closes (suc count) before items tokens
    ≡ (ending closes before tokens >>= ended_or inner (λ one. statements inner closes count (both before (labels_of one)) (items ++ (one ∷ []))) before items)
unfolding statements ending first_and_more
step inner closes count before items [] = refl
step inner closes count before items (Sign text ∷ more) =
    brace-by inner (λ one. statements inner closes count (both before (labels_of one)) (items ++ (one ∷ []))) closes before items text more (bytes_eq text (codes "}"))
step inner closes count before items (Word text ∷ more) = refl
step inner closes count before items (Digits n ∷ more) = refl
step inner closes count before items (Quoted bytes ∷ more) = refl
step inner closes count before items (Including ∷ more) = refl
step inner closes count before items (Bad ∷ more) = refl

pub statements-step : (inner : Inner) (closes : LabelsOf → Bool) (count : ℕ) (before : LabelsOf) (items : List CStmt) (tokens : Tokens) → 0 < count
    → statements inner closes count before items tokens
    ≡ (ending closes before tokens >>= ended_or inner (λ one. statements inner closes (count - 1) (both before (labels_of one)) (items ++ (one ∷ []))) before items)
statements-step inner closes zero before items tokens h = absurd (omega arith)
statements-step inner closes (suc count) before items tokens h = let e : suc count - 1 ≡ count = omega arith in rw e (step inner closes count before items tokens)

-- a statement more, with its labels
pub statements-onward : (inner : Inner) (closes : LabelsOf → Bool) (count left : ℕ) (start before now : LabelsOf) (items more : List CStmt) (one : CStmt)
    (tokens rest behind last : Tokens) → 0 < left
    → statements inner closes count start [] tokens ≡ statements inner closes left before items rest → ending closes before rest ≡ Some (Ok (false, behind))
    → inner before behind ≡ Some (Ok (one, last)) → now ≡ both before (labels_of one) → more ≡ items ++ one ∷ []
    → statements inner closes count start [] tokens ≡ statements inner closes (left - 1) now more last
statements-onward inner closes count left start before now items more one tokens rest behind last h so goes read labels is =
    so ∙ (statements-step inner closes left before items rest h
    ∙ (ap (λ z. z >>= ended_or inner (λ one. statements inner closes (left - 1) (both before (labels_of one)) (items ++ (one ∷ []))) before items) goes
    ∙ (ap (λ z. z >>= (λ one. statements inner closes (left - 1) (both before (labels_of one)) (items ++ (one ∷ [])))) read
    ∙ (λ i. statements inner closes (left - 1) (sym labels i) (sym is i) last))))

pub statement-step : (scope : Scope) (count nests : ℕ) (before : LabelsOf) (tokens : Tokens) → 0 < nests
    → statement scope count nests before tokens ≡ a_statement scope count (statement scope count (nests - 1)) before tokens
unfolding statement
statement-step scope count zero before tokens h = absurd (omega arith)
statement-step scope count (suc nests) before tokens h = let e : suc nests - 1 ≡ nests = omega arith in rw e refl

-- ## The second block of an `if`

second-by : (inner : Inner) (count : ℕ) (before : LabelsOf) (e : CExpr) (first : List CStmt) (text : List ℕ) (more : Tokens) (is : Bool)
    → else_by inner count before e first text more is ≡ (second_by inner count before text more is >>= (λ second. found (form.If e first second)))
unfolding else_by second_by
second-by inner count before e first text more true = read-second (braced inner count before more)
  where
    read-second : (given : Option (Outcome (List CStmt)))
        → (given >>= (λ second. found (form.If e first (Some second)))) ≡ ((given >>= (λ second. found (Some second))) >>= (λ second. found (form.If e first second)))
    read-second None = refl
    read-second (Some (Err rest)) = refl
    read-second (Some (Ok p)) = refl
second-by inner count before e first text more false = refl

pub otherwise-is : (inner : Inner) (count : ℕ) (before : LabelsOf) (e : CExpr) (first : List CStmt) (tokens : Tokens)
    → otherwise inner count before e first tokens ≡ (second_block inner count before tokens >>= (λ second. found (form.If e first second)))
unfolding otherwise second_block
otherwise-is inner count before e first [] = refl
otherwise-is inner count before e first (Word text ∷ more) = second-by inner count before e first text more (bytes_eq text (codes "else"))
otherwise-is inner count before e first (Sign text ∷ more) = refl
otherwise-is inner count before e first (Digits n ∷ more) = refl
otherwise-is inner count before e first (Quoted bytes ∷ more) = refl
otherwise-is inner count before e first (Including ∷ more) = refl
otherwise-is inner count before e first (Bad ∷ more) = refl

pub ruleset statement_steps = (statements-step, statement-step)

pub ruleset second_blocks = otherwise-is
