-- What the readers of statements give where few statements may be open at once, they give where more may be.
use Rattle.std.proofs.Common.{◌≡◌, refl, ℕ, zero, suc, ◌≤◌, Bool, true, false, ◌&&◌, codes, bytes_eq, List, [], ◌∷◌, ◌++◌, Option, Some, None, Result, Ok, Err, arith}
use Rattle.c_tree.specs.declared.expression.CExpr.{CExpr}
use Rattle.c_tree.specs.declared.statement.CStmt.{CStmt}
use Rattle.c_tree.specs.Tokens.{Word, Digits, Quoted, Sign, Including, Bad}
use Rattle.c_tree.specs.CLabels.{LabelsOf, no_label, both, labels_of, labels_of_all}
use Rattle.c_tree.specs.CExpressionText.{Scope}
use Rattle.c_file_readers.specs.c_readers.Readers.{Tokens, Outcome, Reader, ◌>>=◌, lookup, a_sign, a_word}
use Rattle.c_file_readers.specs.c_statement_readers.LabelTests.{meet, with_label}
use Rattle.c_file_readers.specs.c_statement_readers.PartReader.{tested, for_head}
use Rattle.c_file_readers.specs.c_statement_readers.StatementReader.{Inner, first_and_more, by_brace, statements, closes_anywhere, block, braced, else_by, otherwise, conditional, counted, repeated, StatementLead, Jumps, Returns, Tests, Switches, Counts, Repeats, statement_words, led, labelled, is_label, by_label, by_word, SignLead, Nothing, Opening, statement_signs, by_sign, a_statement, statement, body}
use Rattle.c_statement_reader.proofs.WithinSteps.{Lasts, none-lasts, same-lasts, then-lasts, first-lasts, both-last, gives-lasts}
use Rattle.c_expression_reader.specs.declared.failure.Failure.{Failure}
use Rattle.c_expression_reader.specs.Readings.{Gives}

-- a reader of statements, and one that gives what it gives
abbrev InnerLasts : Inner → Inner → Type 0
InnerLasts few more = (before : LabelsOf) (tokens : Tokens) → Lasts (few before tokens) (more before tokens)

-- ## Statements up to a brace

abbrev AgainLasts : {A : Type 0} → (CStmt → Reader A) → (CStmt → Reader A) → Type 0
AgainLasts few more = (one : CStmt) (tokens : Tokens) → Lasts (few one tokens) (more one tokens)

more-lasts : {few more : Inner} {again further : CStmt → Reader (List CStmt)} (before : LabelsOf) (tokens : Tokens) → InnerLasts few more → AgainLasts again further
    → Lasts (first_and_more few again before tokens) (first_and_more more further before tokens)
unfolding first_and_more
more-lasts {few = few} {more = more} before tokens inner again = both-last (few before tokens) (more before tokens) _ _ (inner before tokens) again

brace-lasts : {few more : Inner} {again further : CStmt → Reader (List CStmt)} (closes : LabelsOf → Bool) (before : LabelsOf) (items : List CStmt) (text : List ℕ) (rest : Tokens) (is : Bool)
    → InnerLasts few more → AgainLasts again further
    → Lasts (by_brace few again closes before items text rest is) (by_brace more further closes before items text rest is)
unfolding by_brace
brace-lasts closes before items text rest true inner again = same-lasts _
brace-lasts closes before items text rest false inner again = more-lasts before (Sign text ∷ rest) inner again

statements-last : {few more : Inner} (closes : LabelsOf → Bool) (count : ℕ) (before : LabelsOf) (items : List CStmt) (tokens : Tokens) → InnerLasts few more
    → Lasts (statements few closes count before items tokens) (statements more closes count before items tokens)
unfolding statements
statements-last closes zero before items tokens inner = same-lasts None
statements-last closes (suc count) before items [] inner =
    more-lasts before [] inner (λ one rest. statements-last closes count (both before (labels_of one)) (items ++ (one ∷ [])) rest inner)
statements-last closes (suc count) before items (Sign text ∷ later) inner =
    brace-lasts closes before items text later (bytes_eq text (codes "}")) inner
    (λ one rest. statements-last closes count (both before (labels_of one)) (items ++ (one ∷ [])) rest inner)
statements-last closes (suc count) before items (Word text ∷ later) inner =
    more-lasts before (Word text ∷ later) inner (λ one rest. statements-last closes count (both before (labels_of one)) (items ++ (one ∷ [])) rest inner)
statements-last closes (suc count) before items (Digits n ∷ later) inner =
    more-lasts before (Digits n ∷ later) inner (λ one rest. statements-last closes count (both before (labels_of one)) (items ++ (one ∷ [])) rest inner)
statements-last closes (suc count) before items (Quoted bytes ∷ later) inner =
    more-lasts before (Quoted bytes ∷ later) inner (λ one rest. statements-last closes count (both before (labels_of one)) (items ++ (one ∷ [])) rest inner)
statements-last closes (suc count) before items (Including ∷ later) inner =
    more-lasts before (Including ∷ later) inner (λ one rest. statements-last closes count (both before (labels_of one)) (items ++ (one ∷ [])) rest inner)
statements-last closes (suc count) before items (Bad ∷ later) inner =
    more-lasts before (Bad ∷ later) inner (λ one rest. statements-last closes count (both before (labels_of one)) (items ++ (one ∷ [])) rest inner)

block-lasts : {few more : Inner} (count : ℕ) (before : LabelsOf) (tokens : Tokens) → InnerLasts few more → Lasts (block few count before tokens) (block more count before tokens)
unfolding block
block-lasts count before tokens inner = statements-last closes_anywhere count before [] tokens inner

braced-lasts : {few more : Inner} (count : ℕ) (before : LabelsOf) (tokens : Tokens) → InnerLasts few more → Lasts (braced few count before tokens) (braced more count before tokens)
unfolding braced
braced-lasts count before tokens inner = then-lasts (a_sign (codes "{") tokens) _ _ (λ u p. block-lasts count before p inner)

-- ## By the first word

else-lasts : {few more : Inner} (count : ℕ) (before : LabelsOf) (e : CExpr) (first : List CStmt) (text : List ℕ) (later : Tokens) (is : Bool) → InnerLasts few more
    → Lasts (else_by few count before e first text later is) (else_by more count before e first text later is)
unfolding else_by
else-lasts {few = few} {more = more} count before e first text later true inner =
    first-lasts (braced few count before later) (braced more count before later) _ (braced-lasts count before later inner)
else-lasts count before e first text later false inner = same-lasts _

otherwise-lasts : {few more : Inner} (count : ℕ) (before : LabelsOf) (e : CExpr) (first : List CStmt) (tokens : Tokens) → InnerLasts few more
    → Lasts (otherwise few count before e first tokens) (otherwise more count before e first tokens)
unfolding otherwise
otherwise-lasts count before e first [] inner = same-lasts _
otherwise-lasts count before e first (Word text ∷ later) inner = else-lasts count before e first text later (bytes_eq text (codes "else")) inner
otherwise-lasts count before e first (Sign text ∷ later) inner = same-lasts _
otherwise-lasts count before e first (Digits n ∷ later) inner = same-lasts _
otherwise-lasts count before e first (Quoted bytes ∷ later) inner = same-lasts _
otherwise-lasts count before e first (Including ∷ later) inner = same-lasts _
otherwise-lasts count before e first (Bad ∷ later) inner = same-lasts _

conditional-lasts : {few more : Inner} (scope : Scope) (count : ℕ) (before : LabelsOf) (tokens : Tokens) → InnerLasts few more
    → Lasts (conditional scope count few before tokens) (conditional scope count more before tokens)
unfolding conditional
conditional-lasts {few = few} {more = more} scope count before tokens inner =
    then-lasts (tested scope count tokens) _ _
    (λ e p. both-last (braced few count before p) (braced more count before p) _ _ (braced-lasts count before p inner)
    (λ first q. otherwise-lasts count (both before (labels_of_all first)) e first q inner))

counted-lasts : {few more : Inner} (scope : Scope) (count : ℕ) (before : LabelsOf) (tokens : Tokens) → InnerLasts few more
    → Lasts (counted scope count few before tokens) (counted scope count more before tokens)
unfolding counted
counted-lasts {few = few} {more = more} scope count before tokens inner =
    then-lasts (for_head scope count tokens) _ _
    (λ head p. first-lasts (braced few count before p) (braced more count before p) _ (braced-lasts count before p inner))

repeated-lasts : {few more : Inner} (scope : Scope) (count : ℕ) (before : LabelsOf) (tokens : Tokens) → InnerLasts few more
    → Lasts (repeated scope count few before tokens) (repeated scope count more before tokens)
unfolding repeated
repeated-lasts {few = few} {more = more} scope count before tokens inner =
    first-lasts (braced few count before tokens) (braced more count before tokens) _ (braced-lasts count before tokens inner)

led-lasts : {few more : Inner} (scope : Scope) (count : ℕ) (before : LabelsOf) (later : Tokens) (lead : StatementLead) → InnerLasts few more
    → Lasts (led scope count few before later lead) (led scope count more before later lead)
unfolding led
led-lasts scope count before later Jumps inner = same-lasts _
led-lasts scope count before later Returns inner = same-lasts _
led-lasts scope count before later Tests inner = conditional-lasts scope count before later inner
led-lasts scope count before later Switches inner = same-lasts _
led-lasts scope count before later Counts inner = counted-lasts scope count before later inner
led-lasts scope count before later Repeats inner = repeated-lasts scope count before later inner

-- ## Statements

labelled-lasts : {few more : Inner} (before : LabelsOf) (label : List ℕ) (tokens : Tokens) → InnerLasts few more
    → Lasts (labelled few before label tokens) (labelled more before label tokens)
unfolding labelled
labelled-lasts {few = few} {more = more} before label tokens inner =
    then-lasts (a_sign (codes ":") tokens) _ _
    (λ u p. first-lasts (few (with_label before label) p) (more (with_label before label) p) _ (inner (with_label before label) p))

label-lasts : {few more : Inner} (scope : Scope) (count : ℕ) (before : LabelsOf) (text : List ℕ) (later : Tokens) (is : Bool) → InnerLasts few more
    → Lasts (by_label scope count few before text later is) (by_label scope count more before text later is)
unfolding by_label
label-lasts scope count before text later true inner = labelled-lasts before text later inner
label-lasts scope count before text later false inner = same-lasts _

word-lasts : {few more : Inner} (scope : Scope) (count : ℕ) (before : LabelsOf) (text : List ℕ) (later : Tokens) (lead : Option StatementLead) → InnerLasts few more
    → Lasts (by_word scope count few before text later lead) (by_word scope count more before text later lead)
unfolding by_word
word-lasts scope count before text later (Some lead) inner = led-lasts scope count before later lead inner
word-lasts scope count before text later None inner = label-lasts scope count before text later (is_label scope before text later) inner

sign-lasts : {few more : Inner} (scope : Scope) (count : ℕ) (before : LabelsOf) (text : List ℕ) (later : Tokens) (lead : Option SignLead) → InnerLasts few more
    → Lasts (by_sign scope count few before text later lead) (by_sign scope count more before text later lead)
unfolding by_sign
sign-lasts scope count before text later (Some Nothing) inner = same-lasts _
sign-lasts {few = few} {more = more} scope count before text later (Some Opening) inner =
    first-lasts (block few count before later) (block more count before later) _ (block-lasts count before later inner)
sign-lasts scope count before text later None inner = same-lasts _

one-lasts : {few more : Inner} (scope : Scope) (count : ℕ) (before : LabelsOf) (tokens : Tokens) → InnerLasts few more
    → Lasts (a_statement scope count few before tokens) (a_statement scope count more before tokens)
unfolding a_statement
one-lasts scope count before [] inner = same-lasts _
one-lasts scope count before (Word text ∷ later) inner = word-lasts scope count before text later (lookup text statement_words) inner
one-lasts scope count before (Sign text ∷ later) inner = sign-lasts scope count before text later (lookup text statement_signs) inner
one-lasts scope count before (Digits n ∷ later) inner = same-lasts _
one-lasts scope count before (Quoted bytes ∷ later) inner = same-lasts _
one-lasts scope count before (Including ∷ later) inner = same-lasts _
one-lasts scope count before (Bad ∷ later) inner = same-lasts _

statement-lasts : (scope : Scope) (count few more : ℕ) → few ≤ more → InnerLasts (statement scope count few) (statement scope count more)
unfolding statement
statement-lasts scope count zero more least before tokens = none-lasts _
statement-lasts scope count (suc few) zero least before tokens = absurd (omega arith)
statement-lasts scope count (suc few) (suc more) least before tokens =
    let less : few ≤ more = omega arith in one-lasts scope count before tokens (statement-lasts scope count few more less)

body-lasts : (scope : Scope) (count few more : ℕ) (tokens : Tokens) → few ≤ more → Lasts (body scope count few tokens) (body scope count more tokens)
unfolding body
body-lasts scope count few more tokens least = statements-last meet count no_label [] tokens (statement-lasts scope count few more least)

pub body_lasts : {A : Type 0} (found : A → List CStmt × Tokens) (scope : Scope) (count few more : ℕ) (tokens : Tokens) (result : Result A Failure) → few ≤ more
    → Gives found result (body scope count few tokens) → Gives found result (body scope count more tokens)
body_lasts found scope count few more tokens result least h = gives-lasts found result (body scope count few tokens) (body scope count more tokens) (body-lasts scope count few more tokens least) h
