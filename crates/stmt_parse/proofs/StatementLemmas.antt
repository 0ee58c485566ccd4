-- The reader of statements, by the steps that code takes.
use Rattle.std.proofs.Common.{◌≡◌, refl, sym, ap, subst, ◌∙◌, ◌<◌, ◌≤◌, Bool, true, false, List, [], ◌∷◌, length, Option, Some, None, Result, Ok, Err, if◌then◌else◌, arith}
use Rattle.f_tree.specs.declared.expressions.Expr.{Expr}
use Rattle.f_tree.specs.declared.statements.Body.{Body}
use Rattle.f_tree.specs.declared.statements.Body as body
use Rattle.f_tree.specs.declared.expressions.BinaryOp.TheVariants as op
use Rattle.fortran_lexemes.specs.declared.signs.Sign.TheVariants as sign
use Rattle.fortran_lexemes.specs.Lexemes.{Lexemes, Name, LongName, Number, TooLarge, Quoted, BadQuote, Infix, Negation, Truth, Mark, Word, To, Then, FormatText, Other}
use Rattle.fortran_lexemes.specs.declared.kinds.StmtKind.{StmtKind}
use Rattle.fortran_lexemes.specs.declared.kinds.StmtKind.TheVariants as kind
use Rattle.fortran_grammar.specs.Forms.{sort, behind, NumberPiece, ThenWord}
use Rattle.fortran_grammar.specs.StatementSpelling.{SpellsBody}
use Rattle.grammar_laws.specs.Exactness.{Reader}
use Rattle.grammar_laws.specs.FormReading.{same, going_on}
use Rattle.grammar_laws.specs.StatementReader.{ended, whole, read_by, read_other, action_by_word, read_by_word, behind_condition, read_statement}
use Rattle.grammar_laws.proofs.StatementLaws.{statement_sound, statement_complete}
use Rattle.stmt_lex.specs.SeenTokens.{seen, lexeme_of}
use Rattle.expression_parse.specs.Readings.{Gives, IsExact}
use Rattle.fortran_text.specs.declared.characters.Character.{Character}
use Rattle.expression_parse.specs.WantedPieces.{taken}
use Rattle.stmt_parse.specs.StatementSteps.{reader_of, form_by, worded, branched, signed, logical, number_first}
use Rattle.stmt_lex.specs.declared.token.Token.{Token}
use Rattle.stmt_lex.specs.declared.token.Token.TheVariants as token
use Rattle.expression_parse.specs.declared.failure.Failure.{Failure}
use Rattle.expression_parse.specs.declared.failure.Failure.TheVariants.{NoMemory, Syntax}

-- Tokens are all read, or some are left.
pub ended-all : {A : Type 0} (text : List Character) (x : A) (rest : List Token) → length rest < 1 → ended x (seen text rest) ≡ Some x
unfolding ended seen
ended-all text x [] h = refl
ended-all text x (t ∷ rest) h = absurd (omega arith)

pub ended-more : {A : Type 0} (text : List Character) (x : A) (rest : List Token) → 1 ≤ length rest → ended x (seen text rest) ≡ None
unfolding ended seen
ended-more text x [] h = absurd (omega arith)
ended-more text x (t ∷ rest) h = refl

pub ruleset statement_ends = (ended-all, ended-more)

-- A reader that there may be, up to the last piece.
pub by-reader : (o : Option (Reader Body)) (pieces : Lexemes) → read_by o pieces ≡ whole (reader_of o) pieces
unfolding read_by whole reader_of going_on
by-reader None pieces = refl
by-reader (Some read) pieces = refl

pub other-form : (k : StmtKind) (o : Option (Reader Body)) (pieces : Lexemes) → read_other k o pieces ≡ whole (form_by k o) pieces
unfolding read_other form_by
other-form k None pieces = by-reader (action_by_word k) pieces
other-form k (Some read) pieces = refl

pub ruleset word_steps = (by-reader, other-form)

pub ruleset action_steps = (by-reader)

-- The statement that a word begins.
pub by-word : (k : StmtKind) (more : Lexemes) → read_by_word k more ≡ worded k (Word k ∷ more) more
unfolding read_by_word worded
by-word kind.Assignment more = refl
by-word kind.Do more = refl
by-word kind.DoWhile more = refl
by-word kind.Assign more = refl
by-word kind.Backspace more = refl
by-word kind.BlockData more = refl
by-word kind.Call more = refl
by-word kind.Character more = refl
by-word kind.Close more = refl
by-word kind.Common more = refl
by-word kind.Complex more = refl
by-word kind.Continue more = refl
by-word kind.Init more = refl
by-word kind.Dimension more = refl
by-word kind.DoublePrecision more = refl
by-word kind.Else more = refl
by-word kind.ElseIf more = refl
by-word kind.End more = refl
by-word kind.EndDo more = refl
by-word kind.EndFile more = refl
by-word kind.EndIf more = refl
by-word kind.Entry more = refl
by-word kind.Equivalence more = refl
by-word kind.External more = refl
by-word kind.Format more = refl
by-word kind.Function more = refl
by-word kind.Goto more = refl
by-word kind.If more = refl
by-word kind.Implicit more = refl
by-word kind.Include more = refl
by-word kind.Inquire more = refl
by-word kind.Integer more = refl
by-word kind.Intrinsic more = refl
by-word kind.Logical more = refl
by-word kind.Namelist more = refl
by-word kind.OpenUnit more = refl
by-word kind.Parameter more = refl
by-word kind.Pause more = refl
by-word kind.Print more = refl
by-word kind.Program more = refl
by-word kind.Read more = refl
by-word kind.Real more = refl
by-word kind.Return more = refl
by-word kind.Rewind more = refl
by-word kind.Save more = refl
by-word kind.Stop more = refl
by-word kind.Subroutine more = refl
by-word kind.Write more = refl

pub begun-word : (text : List Character) (tokens rest : List Token) (k : StmtKind) → tokens ≡ token.Word k ∷ rest
    → read_statement (seen text tokens) ≡ worded k (seen text tokens) (seen text rest)
unfolding read_statement seen lexeme_of
begun-word text tokens rest k h =
    subst (λ t. read_statement (seen text t) ≡ worded k (seen text t) (seen text rest)) (sym h) (by-word k (seen text rest))

-- A number stands first, or another piece.
number : (pieces : Lexemes) → same NumberPiece (sort pieces) ≡ number_first pieces
unfolding sort number_first
number [] = refl
number (Name text ∷ more) = refl
number (LongName ∷ more) = refl
number (Number digits value ∷ more) = refl
number (TooLarge ∷ more) = refl
number (Quoted text ∷ more) = refl
number (BadQuote ∷ more) = refl
number (Infix op.Times ∷ more) = refl
number (Infix op.Divide ∷ more) = refl
number (Infix op.Concatenate ∷ more) = refl
number (Infix op.Plus ∷ more) = refl
number (Infix op.Minus ∷ more) = refl
number (Infix op.Power ∷ more) = refl
number (Infix op.Less ∷ more) = refl
number (Infix op.LessOrEqual ∷ more) = refl
number (Infix op.Equal ∷ more) = refl
number (Infix op.NotEqual ∷ more) = refl
number (Infix op.Greater ∷ more) = refl
number (Infix op.GreaterOrEqual ∷ more) = refl
number (Infix op.And ∷ more) = refl
number (Infix op.Or ∷ more) = refl
number (Infix op.Equivalent ∷ more) = refl
number (Infix op.NotEquivalent ∷ more) = refl
number (Negation ∷ more) = refl
number (Truth value ∷ more) = refl
number (Mark sign.Open ∷ more) = refl
number (Mark sign.Close ∷ more) = refl
number (Mark sign.Comma ∷ more) = refl
number (Mark sign.Equals ∷ more) = refl
number (Mark sign.Colon ∷ more) = refl
number (Mark sign.Point ∷ more) = refl
number (Word k ∷ more) = refl
number (To ∷ more) = refl
number (Then ∷ more) = refl
number (FormatText text ∷ more) = refl
number (Other code ∷ more) = refl

chosen : {A : Type 0} (b : Bool) (pieces : Lexemes) (o : Option Lexemes) (f : Lexemes → A) (d : A)
    → (if b then Some pieces else None) ≡ o → (if b then f pieces else d) ≡ elim o [ None ↦ d | Some q ↦ f q ]
chosen true pieces o f d h = subst (λ o. f pieces ≡ elim o [ None ↦ d | Some q ↦ f q ]) h refl
chosen false pieces o f d h = subst (λ o. d ≡ elim o [ None ↦ d | Some q ↦ f q ]) h refl

abbrev labels_or_action : Expr → Lexemes → Bool → Option Body
labels_or_action e pieces b = if b then signed e pieces else logical e pieces

abbrev is_branched : Expr → Lexemes → Option Body
is_branched e pieces = labels_or_action e pieces (same NumberPiece (sort pieces))

-- What stands behind a condition.
pub then-some : (e : Expr) (pieces rest : Lexemes) → Some rest ≡ taken ThenWord pieces → behind_condition e pieces ≡ ended (body.IfThen e) rest
unfolding behind_condition taken
then-some e pieces rest h =
    chosen (same ThenWord (sort pieces)) (behind pieces) (Some rest) (λ q. ended (body.IfThen e) q) _ (sym h)

pub then-none : (e : Expr) (pieces : Lexemes) → None ≡ taken ThenWord pieces → behind_condition e pieces ≡ branched e pieces
unfolding behind_condition taken branched signed logical
then-none e pieces h =
    chosen (same ThenWord (sort pieces)) (behind pieces) None (λ q. ended (body.IfThen e) q) (is_branched e pieces) (sym h)
    ∙ ap (labels_or_action e pieces) (number pieces)

pub ruleset condition_steps = (then-some, then-none)

-- A reading of all tokens is exact.
some_is_none : {A : Type 0} (x : A) (o : Option A) → o ≡ Some x → o ≡ None → ⊥
some_is_none x o is none = let e : Some x ≡ None = sym is ∙ none in absurd (cc)

inside : {A : Type 0} {x y : A} → Some x ≡ Some y → x ≡ y
inside e = cc

pub whole_statement_exact : (pieces : Lexemes) (result : Result Body Failure) → Gives (λ found. found) result (read_statement pieces)
    → IsExact (λ found. SpellsBody pieces found) result
whole_statement_exact pieces (Ok x) h =
    (statement_sound x pieces h, λ other spelled. inside (sym (statement_complete other pieces spelled) ∙ h))
whole_statement_exact pieces (Err Syntax) h =
    λ other spelled. some_is_none other (read_statement pieces) (statement_complete other pieces spelled) h
whole_statement_exact pieces (Err NoMemory) h = tt
