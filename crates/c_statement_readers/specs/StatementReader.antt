-- The reader of statements (C89, 3.6). It goes by the labels that stand and are named so far in the function, so that each label that is named
-- can still stand once; at the closing brace of the function each does.
use Rattle.std.specs.Prelude.{ℕ, zero, suc, Bool, true, false, ◌&&◌, ◌||◌, List, [], ◌∷◌, ◌++◌, codes, bytes_eq, Option, Some, None, if◌then◌else◌}
use Rattle.c_readers.specs.c_tree.declared.expression.CExpr.{CExpr}
use Rattle.c_readers.specs.c_tree.declared.statement.CStmt.{CStmt}
use Rattle.c_readers.specs.c_tree.declared.statement.CStmt.TheVariants as stmt
use Rattle.c_readers.specs.c_tree.Tokens.{Word, Sign}
use Rattle.c_readers.specs.c_tree.CLabels.{LabelsOf, no_label, both, labels_of, labels_of_all}
use Rattle.c_readers.specs.c_tree.CExpressionText.{Scope}
use Rattle.c_readers.specs.Readers.{Tokens, Outcome, Reader, found, refused, ◌>>=◌, lookup, a_sign, a_word, a_name}
use Rattle.c_readers.specs.ExpressionReader.{WordLead, word_lead}
use Rattle.c_statement_readers.specs.LabelTests.{may_be_named, may_stand, with_label, meet}
use Rattle.c_statement_readers.specs.PartReader.{starts_with, simple, returned, tested, for_head}
use Rattle.c_statement_readers.specs.CaseReader.{cases}

-- A reader of statements, given the labels so far.
abbrev pub Inner : Type 0
Inner = LabelsOf → Reader CStmt

-- ## Statements up to a brace

-- The closing brace, where it may stand.
unfoldable pub closing : LabelsOf → (LabelsOf → Bool) → List CStmt → List ℕ → Tokens → Bool → Option (Outcome (List CStmt))
closing before closes items text more ends = if ends then found items more else refused (Sign text ∷ more)

-- A statement, and those behind it.
unfoldable pub first_and_more : Inner → (CStmt → Reader (List CStmt)) → LabelsOf → Reader (List CStmt)
first_and_more inner again before tokens = inner before tokens >>= again

unfoldable pub by_brace : Inner → (CStmt → Reader (List CStmt)) → (LabelsOf → Bool) → LabelsOf → List CStmt → List ℕ → Tokens → Bool → Option (Outcome (List CStmt))
by_brace inner again closes before items text more true = closing before closes items text more (closes before)
by_brace inner again closes before items text more false = first_and_more inner again before (Sign text ∷ more)

-- Statements up to a closing brace, which stands where the labels pass a test: so many at most, where these ones were read before.
unfoldable pub statements : Inner → (LabelsOf → Bool) → ℕ → LabelsOf → List CStmt → Reader (List CStmt)
statements inner closes zero before items tokens = None
statements inner closes (suc count) before items [] =
    first_and_more inner (λ one. statements inner closes count (both before (labels_of one)) (items ++ (one ∷ []))) before []
statements inner closes (suc count) before items (Sign text ∷ more) =
    by_brace inner (λ one. statements inner closes count (both before (labels_of one)) (items ++ (one ∷ []))) closes before items text more (bytes_eq text (codes "}"))
statements inner closes (suc count) before items (token ∷ more) =
    first_and_more inner (λ one. statements inner closes count (both before (labels_of one)) (items ++ (one ∷ []))) before (token ∷ more)

-- An inner block may close where any labels stand.
abbrev pub closes_anywhere : LabelsOf → Bool
closes_anywhere labels = true

-- Behind an opening brace (C89, 3.6.2).
unfoldable pub block : Inner → ℕ → LabelsOf → Reader (List CStmt)
block inner count before tokens = statements inner closes_anywhere count before [] tokens

-- A block with its opening brace.
unfoldable pub braced : Inner → ℕ → LabelsOf → Reader (List CStmt)
braced inner count before tokens = a_sign (codes "{") tokens >>= (λ u. block inner count before)

-- ## By the first word

-- Behind `goto` (C89, 3.6.6.1), where these labels stand.
unfoldable pub jump : List (List ℕ) → Reader CStmt
jump stand tokens = a_name (may_be_named stand) tokens >>= (λ label. λ p. a_sign (codes ";") p >>= (λ u. found (stmt.Goto label)))

unfoldable pub else_by : Inner → ℕ → LabelsOf → CExpr → List CStmt → List ℕ → Tokens → Bool → Option (Outcome CStmt)
else_by inner count before e first text more true = braced inner count before more >>= (λ second. found (stmt.If e first (Some second)))
else_by inner count before e first text more false = found (stmt.If e first None) (Word text ∷ more)

-- Behind the first block of an `if` (C89, 3.6.4.1): `else` and another block, where it stands.
unfoldable pub otherwise : Inner → ℕ → LabelsOf → CExpr → List CStmt → Reader CStmt
otherwise inner count before e first [] = found (stmt.If e first None) []
otherwise inner count before e first (Word text ∷ more) = else_by inner count before e first text more (bytes_eq text (codes "else"))
otherwise inner count before e first (token ∷ more) = found (stmt.If e first None) (token ∷ more)

-- Behind `if`.
unfoldable pub conditional : Scope → ℕ → Inner → LabelsOf → Reader CStmt
conditional scope count inner before tokens =
    tested scope count tokens
    >>= (λ e. λ p. braced inner count before p >>= (λ first. otherwise inner count (both before (labels_of_all first)) e first))

-- Behind `switch` (C89, 3.6.4.2).
unfoldable pub switched : Scope → ℕ → LabelsOf → Reader CStmt
switched scope count before tokens =
    tested scope count tokens
    >>= (λ e. λ p. a_sign (codes "{") p >>= (λ u. λ q. cases count before.stand [] q >>= (λ all. found (stmt.Switch e all))))

-- Behind `for` (C89, 3.6.5.3).
unfoldable pub counted : Scope → ℕ → Inner → LabelsOf → Reader CStmt
counted scope count inner before tokens =
    for_head scope count tokens
    >>= (λ head. λ p. braced inner count before p >>= (λ body. found (stmt.For head.target head.first head.test head.turn body)))

-- Behind `do` (C89, 3.6.5.2).
unfoldable pub repeated : Scope → ℕ → Inner → LabelsOf → Reader CStmt
repeated scope count inner before tokens =
    braced inner count before tokens
    >>= (λ body. λ p. a_word (codes "while") p
    >>= (λ u. λ q. tested scope count q >>= (λ e. λ r. a_sign (codes ";") r >>= (λ v. found (stmt.DoWhile body e)))))

-- What a word begins.
pub data StatementLead : Type 0 where
  Jumps : StatementLead
  Returns : StatementLead
  Tests : StatementLead
  Switches : StatementLead
  Counts : StatementLead
  Repeats : StatementLead

abbrev pub statement_words : List (List ℕ × StatementLead)
statement_words =
    (codes "goto", Jumps) ∷ (codes "return", Returns) ∷ (codes "if", Tests) ∷ (codes "switch", Switches) ∷ (codes "for", Counts)
    ∷ (codes "do", Repeats) ∷ []

-- Behind a word that begins a statement.
unfoldable pub led : Scope → ℕ → Inner → LabelsOf → Tokens → StatementLead → Option (Outcome CStmt)
led scope count inner before more Jumps = jump before.stand more
led scope count inner before more Returns = returned scope count more
led scope count inner before more Tests = conditional scope count inner before more
led scope count inner before more Switches = switched scope count before more
led scope count inner before more Counts = counted scope count inner before more
led scope count inner before more Repeats = repeated scope count inner before more

-- ## Labels

-- Behind a label (C89, 3.6.1): the colon, and the statement that it stands before.
unfoldable pub labelled : Inner → LabelsOf → List ℕ → Reader CStmt
labelled inner before label tokens =
    a_sign (codes ":") tokens >>= (λ u. λ p. inner (with_label before label) p >>= (λ one. found (stmt.Label label one)))

abbrev pub is_no_lead : Option WordLead → Bool
is_no_lead None = true
is_no_lead (Some lead) = false

-- A word with these tokens behind it is a label: one may stand here, and a colon stands behind it or no expression begins with it.
abbrev pub is_label : Scope → LabelsOf → List ℕ → Tokens → Bool
is_label scope before text more = may_stand before text && (starts_with (codes ":") more || is_no_lead (word_lead scope text))

-- A word that is in no table, as a label or as the first one of a call or an assignment.
unfoldable pub by_label : Scope → ℕ → Inner → LabelsOf → List ℕ → Tokens → Bool → Option (Outcome CStmt)
by_label scope count inner before text more true = labelled inner before text more
by_label scope count inner before text more false = simple scope count (Word text ∷ more)

unfoldable pub by_word : Scope → ℕ → Inner → LabelsOf → List ℕ → Tokens → Option StatementLead → Option (Outcome CStmt)
by_word scope count inner before text more (Some lead) = led scope count inner before more lead
by_word scope count inner before text more None = by_label scope count inner before text more (is_label scope before text more)

-- ## Statements

-- What a sign begins: the empty statement or a block.
pub data SignLead : Type 0 where
  Nothing : SignLead
  Opening : SignLead

abbrev pub statement_signs : List (List ℕ × SignLead)
statement_signs = (codes ";", Nothing) ∷ (codes "{", Opening) ∷ []

unfoldable pub by_sign : Scope → ℕ → Inner → LabelsOf → List ℕ → Tokens → Option SignLead → Option (Outcome CStmt)
by_sign scope count inner before text more (Some Nothing) = found stmt.Empty more
by_sign scope count inner before text more (Some Opening) = block inner count before more >>= (λ body. found (stmt.Block body))
by_sign scope count inner before text more None = simple scope count (Sign text ∷ more)

-- A statement, where those in it are read by a reader.
unfoldable pub a_statement : Scope → ℕ → Inner → LabelsOf → Reader CStmt
a_statement scope count inner before [] = simple scope count []
a_statement scope count inner before (Word text ∷ more) = by_word scope count inner before text more (lookup text statement_words)
a_statement scope count inner before (Sign text ∷ more) = by_sign scope count inner before text more (lookup text statement_signs)
a_statement scope count inner before (token ∷ more) = simple scope count (token ∷ more)

-- A statement, where these labels stand and are named before it: so many nests, and so many statements, cases and nests of expressions at most.
unfoldable pub statement : Scope → ℕ → ℕ → Inner
statement scope count zero before tokens = None
statement scope count (suc nests) before tokens = a_statement scope count (statement scope count nests) before tokens

-- The statements of a function, up to its closing brace: each label that is named stands once.
unfoldable pub body : Scope → ℕ → ℕ → Reader (List CStmt)
body scope count nests tokens = statements (statement scope count nests) meet count no_label [] tokens
