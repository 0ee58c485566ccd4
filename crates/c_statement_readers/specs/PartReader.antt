-- The readers of what statements are made of (C89, 3.6): what is assigned and returned, what is tested, and the head of a `for`.
use Rattle.std.specs.Prelude.{ℕ, Bool, true, false, ◌&&◌, List, [], ◌∷◌, codes, bytes_eq, Option, Some, None}
use Rattle.c_readers.specs.c_tree.declared.expression.CExpr.{CExpr}
use Rattle.c_readers.specs.c_tree.declared.expression.CCall.{CCall}
use Rattle.c_readers.specs.c_tree.declared.statement.CNext.{CNext}
use Rattle.c_readers.specs.c_tree.declared.statement.CNext.TheVariants as next
use Rattle.c_readers.specs.c_tree.declared.statement.CStmt.{CStmt}
use Rattle.c_readers.specs.c_tree.declared.statement.CStmt.TheVariants as stmt
use Rattle.c_readers.specs.c_tree.Tokens.{Word, Sign}
use Rattle.c_readers.specs.c_tree.CWords.{is_among}
use Rattle.c_readers.specs.c_tree.CExpressionText.{Scope}
use Rattle.c_readers.specs.Readers.{Tokens, Outcome, Reader, found, ◌>>=◌, lookup, a_sign}
use Rattle.c_readers.specs.ExpressionReader.{expression}
use Rattle.c_readers.specs.CallReader.{call}

-- ## Calls and expressions

-- This sign stands first.
abbrev pub starts_with : List ℕ → Tokens → Bool
starts_with text (Sign other ∷ more) = bytes_eq other text
starts_with text other = false

-- A parameter that points to a function, a closing parenthesis and an opening one stand first.
abbrev pub points_and_opens : Scope → Tokens → Bool
points_and_opens scope (Word name ∷ Sign text ∷ more) = is_among name scope.pointers && (bytes_eq text (codes ")") && starts_with (codes "(") more)
points_and_opens scope other = false

-- A star stands first, and so does such a parameter behind it.
abbrev pub starred_and_opens : Scope → Tokens → Bool
starred_and_opens scope (Sign text ∷ more) = bytes_eq text (codes "*") && points_and_opens scope more
starred_and_opens scope other = false

-- A call begins (C89, 3.3.2.2): the name of a function with an opening parenthesis behind it, or `(*p)(` where p is a parameter that points to
-- one.
abbrev pub begins_call : Scope → Tokens → Bool
begins_call scope (Word name ∷ more) = is_among name scope.functions && starts_with (codes "(") more
begins_call scope (Sign text ∷ more) = bytes_eq text (codes "(") && starred_and_opens scope more
begins_call scope other = false

-- ## What is assigned and returned

-- What stands behind the equals sign of an assignment, or behind `return`.
pub data Right : Type 0 where
  Value : CExpr → Right
  Called : CCall → Right

unfoldable pub right_by : Scope → ℕ → Bool → Reader Right
right_by scope count true tokens = call scope count count tokens >>= (λ one. found (Called one))
right_by scope count false tokens = expression scope count 0 tokens >>= (λ e. found (Value e))

-- A call where one begins, and else an expression.
unfoldable pub right : Scope → ℕ → Reader Right
right scope count tokens = right_by scope count (begins_call scope tokens) tokens

abbrev pub set_to : CExpr → Right → CStmt
set_to target (Value e) = stmt.Set target e
set_to target (Called one) = stmt.SetCall target one

-- Behind what is assigned to.
unfoldable pub assigned : Scope → ℕ → CExpr → Reader CStmt
assigned scope count target tokens =
    a_sign (codes "=") tokens
    >>= (λ u. λ p. right scope count p >>= (λ r. λ q. a_sign (codes ";") q >>= (λ v. found (set_to target r))))

-- An assignment (C89, 3.3.16).
unfoldable pub assignment : Scope → ℕ → Reader CStmt
assignment scope count tokens = expression scope count 7 tokens >>= assigned scope count

-- A call that stands alone (C89, 3.6.3).
unfoldable pub call_statement : Scope → ℕ → Reader CStmt
call_statement scope count tokens = call scope count count tokens >>= (λ one. λ p. a_sign (codes ";") p >>= (λ u. found (stmt.Call one)))

unfoldable pub simple_by : Scope → ℕ → Bool → Reader CStmt
simple_by scope count true tokens = call_statement scope count tokens
simple_by scope count false tokens = assignment scope count tokens

-- A statement that is a call or an assignment (C89, 3.6.3).
unfoldable pub simple : Scope → ℕ → Reader CStmt
simple scope count tokens = simple_by scope count (begins_call scope tokens) tokens

abbrev pub return_of : Right → CStmt
return_of (Value e) = stmt.Return (Some e)
return_of (Called one) = stmt.ReturnCall one

-- Behind `return`, where a value stands there.
unfoldable pub returned_value : Scope → ℕ → Reader CStmt
returned_value scope count tokens = right scope count tokens >>= (λ r. λ p. a_sign (codes ";") p >>= (λ u. found (return_of r)))

unfoldable pub returned_by : Scope → ℕ → List ℕ → Tokens → Bool → Option (Outcome CStmt)
returned_by scope count text more true = found (stmt.Return None) more
returned_by scope count text more false = returned_value scope count (Sign text ∷ more)

-- Behind `return` (C89, 3.6.6.4).
unfoldable pub returned : Scope → ℕ → Reader CStmt
returned scope count [] = returned_value scope count []
returned scope count (Sign text ∷ more) = returned_by scope count text more (bytes_eq text (codes ";"))
returned scope count (token ∷ more) = returned_value scope count (token ∷ more)

-- ## What is tested, and the head of a `for`

-- An expression in parentheses.
unfoldable pub tested : Scope → ℕ → Reader CExpr
tested scope count tokens =
    a_sign (codes "(") tokens >>= (λ u. λ p. expression scope count 0 p >>= (λ e. λ q. a_sign (codes ")") q >>= (λ v. found e)))

-- What a sign begins that stands first in what a `for` does after each turn.
pub data Step : Type 0 where
  Upward : Step
  Downward : Step

abbrev pub steps : List (List ℕ × Step)
steps = (codes "++", Upward) ∷ (codes "--", Downward) ∷ []

-- What is added to, `+=`, and what is added.
unfoldable pub added : Scope → ℕ → Reader CNext
added scope count tokens =
    expression scope count 7 tokens
    >>= (λ target. λ p. a_sign (codes "+=") p >>= (λ u. λ q. expression scope count 0 q >>= (λ e. found (next.Add target e))))

unfoldable pub turn_by : Scope → ℕ → List ℕ → Tokens → Option Step → Option (Outcome CNext)
turn_by scope count text more (Some Upward) = expression scope count 7 more >>= (λ target. found (next.Up target))
turn_by scope count text more (Some Downward) = expression scope count 7 more >>= (λ target. found (next.Down target))
turn_by scope count text more None = added scope count (Sign text ∷ more)

-- What a `for` does after each turn.
unfoldable pub turn : Scope → ℕ → Reader CNext
turn scope count [] = added scope count []
turn scope count (Sign text ∷ more) = turn_by scope count text more (lookup text steps)
turn scope count (token ∷ more) = added scope count (token ∷ more)

-- The head of a `for`.
pub record ForHead : Type 0 where
  pub target : CExpr
  pub first : CExpr
  pub test : CExpr
  pub turn : CNext

-- Behind the first semicolon: the test, and what is done after each turn.
unfoldable pub for_rest : Scope → ℕ → CExpr → CExpr → Reader ForHead
for_rest scope count target first tokens =
    expression scope count 0 tokens
    >>= (λ test. λ p. a_sign (codes ";") p
    >>= (λ u. λ q. turn scope count q
    >>= (λ step. λ r. a_sign (codes ")") r >>= (λ v. found (record { target = target; first = first; test = test; turn = step })))))

-- Behind `for` (C89, 3.6.5.3), up to its block.
unfoldable pub for_head : Scope → ℕ → Reader ForHead
for_head scope count tokens =
    a_sign (codes "(") tokens
    >>= (λ u. λ p. expression scope count 7 p
    >>= (λ target. λ q. a_sign (codes "=") q
    >>= (λ v. λ r. expression scope count 0 r
    >>= (λ first. λ s. a_sign (codes ";") s >>= (λ w. for_rest scope count target first)))))
