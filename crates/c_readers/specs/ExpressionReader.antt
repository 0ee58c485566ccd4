-- The reader of expressions (C89, 3.3): it takes an operand, and goes on while an operator follows that the place takes. Names are those that
-- are declared.
use Rattle.std.specs.Prelude.{ℕ, zero, suc, nat_le, Bool, ◌&&◌, ◌||◌, pos, List, [], ◌∷◌, codes, drop, Option, Some, None, if◌then◌else◌}
use Rattle.c_tree.specs.declared.types.CastType.{CastType}
use Rattle.c_tree.specs.declared.types.CastType.TheVariants as cast
use Rattle.c_tree.specs.declared.types.FunctionType.TheVariants as pointer
use Rattle.c_tree.specs.declared.expression.UnaryOp.{UnaryOp}
use Rattle.c_tree.specs.declared.expression.UnaryOp.TheVariants as prefix
use Rattle.c_tree.specs.declared.expression.BinaryOp.{BinaryOp}
use Rattle.c_tree.specs.declared.expression.BinaryOp.TheVariants as op
use Rattle.c_tree.specs.declared.expression.Extreme.{Extreme}
use Rattle.c_tree.specs.declared.expression.Extreme.TheVariants as extreme
use Rattle.c_tree.specs.declared.expression.CExpr.{CExpr}
use Rattle.c_tree.specs.declared.expression.CExpr.TheVariants as expr
use Rattle.c_tree.specs.Tokens.{Word, Digits, Quoted, Sign, Including, Bad}
use Rattle.c_tree.specs.CWords.{is_among, is_name, infix_level, cast_tokens}
use Rattle.c_tree.specs.CExpressionText.{Scope}
use Rattle.c_readers.specs.Readers.{Tokens, Outcome, Reader, found, refused, ◌>>=◌, lookup, a_sign, a_name, all_stand}

-- A reader of expressions at a place, and one that goes on behind an operand of a level.
abbrev pub Places : Type 0
Places = ℕ → Reader CExpr

abbrev pub Going : Type 0
Going = ℕ → CExpr → Reader CExpr

-- An operand, with its level.
pub record Operand : Type 0 where
  pub level : ℕ
  pub tree : CExpr

abbrev pub operand_of : ℕ → CExpr → Operand
operand_of level tree = record { level = level; tree = tree }

-- What goes on behind an operand.
pub data Operator : Type 0 where
  Infix : BinaryOp → Operator
  Subscript : Operator
  Member : Operator
  Choice : Operator

abbrev pub operators : List (List ℕ × Operator)
operators =
    (codes "[", Subscript) ∷ (codes ".", Member) ∷ (codes "?", Choice) ∷ (codes "||", Infix op.Or) ∷ (codes "&&", Infix op.And)
    ∷ (codes "==", Infix op.Equal) ∷ (codes "!=", Infix op.Unequal) ∷ (codes "<", Infix op.Less) ∷ (codes "<=", Infix op.LessOrEqual)
    ∷ (codes ">", Infix op.Greater) ∷ (codes ">=", Infix op.GreaterOrEqual) ∷ (codes "+", Infix op.Add) ∷ (codes "-", Infix op.Subtract)
    ∷ (codes "*", Infix op.Multiply) ∷ (codes "/", Infix op.Divide) ∷ (codes "%", Infix op.Remainder) ∷ []

-- Whether a place takes an operator behind an operand of a level. A choice goes on behind all but another choice.
abbrev pub takes : ℕ → ℕ → Operator → Bool
takes place level (Infix o) = nat_le place (infix_level o) && nat_le (infix_level o) level
takes place level Subscript = nat_le place 8 && nat_le 8 level
takes place level Member = nat_le place 8 && nat_le 8 level
takes place level Choice = nat_le place 0 && nat_le 1 level

abbrev pub taken : ℕ → ℕ → Option Operator → Option Operator
taken place level None = None
taken place level (Some o) = if takes place level o then Some o else None

-- The operator that a sign is, where the place takes it.
unfoldable pub operator_of : ℕ → ℕ → List ℕ → Option Operator
operator_of place level text = taken place level (lookup text operators)

-- A right operand, and what goes on behind it (C89, 3.3.5 to 3.3.14).
unfoldable pub between : Places → Going → CExpr → BinaryOp → Reader CExpr
between read again e o tokens = read (suc (infix_level o)) tokens >>= (λ b. again (infix_level o) (expr.Binary o e b))

-- An index, and what goes on behind it (C89, 3.3.2.1).
unfoldable pub indexed : Places → Going → CExpr → Reader CExpr
indexed read again e tokens = read 0 tokens >>= (λ i. λ more. a_sign (codes "]") more >>= (λ u. again 8 (expr.Index e i)))

-- A field's name, and what goes on behind it (C89, 3.3.2.3).
unfoldable pub a_field : Going → CExpr → Reader CExpr
a_field again e tokens = a_name is_name tokens >>= (λ name. again 8 (expr.Field e name))

-- The second arm of a choice (C89, 3.3.15).
unfoldable pub otherwise : Places → Going → CExpr → CExpr → Reader CExpr
otherwise read again e a tokens = a_sign (codes ":") tokens >>= (λ u. λ more. read 0 more >>= (λ b. again 0 (expr.Choose e a b)))

unfoldable pub chosen : Places → Going → CExpr → Reader CExpr
chosen read again e tokens = read 0 tokens >>= (λ a. otherwise read again e a)

unfoldable pub by_operator : Places → Going → CExpr → List ℕ → Tokens → Option Operator → Option (Outcome CExpr)
by_operator read again e text more (Some (Infix o)) = between read again e o more
by_operator read again e text more (Some Subscript) = indexed read again e more
by_operator read again e text more (Some Member) = a_field again e more
by_operator read again e text more (Some Choice) = chosen read again e more
by_operator read again e text more None = found e (Sign text ∷ more)

-- What goes on behind an operand of a level, at a place.
unfoldable pub onward : Places → Going → ℕ → ℕ → CExpr → Reader CExpr
onward read again place level e [] = found e []
onward read again place level e (Sign text ∷ more) = by_operator read again e text more (operator_of place level text)
onward read again place level e (token ∷ more) = found e (token ∷ more)

-- The types of casts, by the words that they begin with (C89, 3.3.4).
abbrev pub casts : List (List ℕ × CastType)
casts =
    (codes "char", cast.Chars) ∷ (codes "unsigned", cast.UnsignedChars) ∷ (codes "integer", cast.Integers) ∷ (codes "logical", cast.Logicals)
    ∷ (codes "ftnlen", cast.Length) ∷ (codes "ftnint", cast.Number) ∷ (codes "S_fp", cast.Function pointer.Subroutine)
    ∷ (codes "I_fp", cast.Function pointer.Integer) ∷ (codes "L_fp", cast.Function pointer.Logical)
    ∷ (codes "U_fp", cast.Function pointer.Unknown) ∷ []

-- The cast that a word begins, where the place takes one.
unfoldable pub cast_of : ℕ → List ℕ → Option CastType
cast_of place text = if nat_le place 7 then lookup text casts else None

-- Behind a cast: the operand.
unfoldable pub cast_operand : Places → CastType → Reader Operand
cast_operand read of tokens = read 7 tokens >>= (λ e. found (operand_of 7 (expr.Cast of e)))

-- Behind the first word of a cast: the rest of its type, the closing parenthesis and the operand.
unfoldable pub casted : Places → CastType → Reader Operand
casted read of tokens = all_stand (drop 1 (cast_tokens of)) tokens >>= (λ u. λ more. a_sign (codes ")") more >>= (λ v. cast_operand read of))

-- Behind an opening parenthesis: an expression and the closing parenthesis.
unfoldable pub parenthesised : Places → Reader Operand
parenthesised read tokens = read 0 tokens >>= (λ e. λ more. a_sign (codes ")") more >>= (λ u. found (operand_of 9 e)))

unfoldable pub by_cast : Places → List ℕ → Tokens → Option CastType → Option (Outcome Operand)
by_cast read text more (Some of) = casted read of more
by_cast read text more None = parenthesised read (Word text ∷ more)

-- Behind an opening parenthesis: a cast or an expression.
unfoldable pub opened : Places → ℕ → Reader Operand
opened read place [] = parenthesised read []
opened read place (Word text ∷ more) = by_cast read text more (cast_of place text)
opened read place (token ∷ more) = parenthesised read (token ∷ more)

-- What a sign begins, where an operand is wanted.
pub data SignLead : Type 0 where
  Opening : SignLead
  Before : UnaryOp → SignLead

abbrev pub leading_signs : List (List ℕ × SignLead)
leading_signs =
    (codes "(", Opening) ∷ (codes "-", Before prefix.Minus) ∷ (codes "!", Before prefix.Not) ∷ (codes "*", Before prefix.Deref)
    ∷ (codes "&", Before prefix.Address) ∷ []

abbrev pub leads : ℕ → Option SignLead → Option SignLead
leads place None = None
leads place (Some Opening) = Some Opening
leads place (Some (Before o)) = if nat_le place 7 then Some (Before o) else None

-- What a sign begins at a place.
unfoldable pub sign_lead : ℕ → List ℕ → Option SignLead
sign_lead place text = leads place (lookup text leading_signs)

-- Behind a sign that stands before an operand: the operand (C89, 3.3.3).
unfoldable pub prefixed : Places → UnaryOp → Reader Operand
prefixed read o tokens = read 7 tokens >>= (λ e. found (operand_of 7 (expr.Unary o e)))

unfoldable pub by_sign : Places → ℕ → List ℕ → Tokens → Option SignLead → Option (Outcome Operand)
by_sign read place text more (Some Opening) = opened read place more
by_sign read place text more (Some (Before o)) = prefixed read o more
by_sign read place text more None = refused (Sign text ∷ more)

-- What a word begins, where an operand is wanted.
pub data WordLead : Type 0 where
  Sized : WordLead
  Extremal : Extreme → WordLead
  Absolute : WordLead
  Named : WordLead

abbrev pub leading_words : List (List ℕ × WordLead)
leading_words =
    (codes "sizeof", Sized) ∷ (codes "max", Extremal extreme.Max) ∷ (codes "min", Extremal extreme.Min) ∷ (codes "abs", Absolute) ∷ []

-- Whether an expression may use a name: one that is declared, or one of the include line's two.
abbrev pub is_known : Scope → List ℕ → Bool
is_known scope name =
    is_among name scope.objects || (is_among name scope.functions || is_among name (codes "TRUE_" ∷ codes "FALSE_" ∷ []))

abbrev pub or_name : Scope → List ℕ → Option WordLead → Option WordLead
or_name scope text (Some lead) = Some lead
or_name scope text None = if is_known scope text then Some Named else None

unfoldable pub word_lead : Scope → List ℕ → Option WordLead
word_lead scope text = or_name scope text (lookup text leading_words)

-- Behind `sizeof` (C89, 3.3.3.4).
unfoldable pub sized : Reader Operand
sized tokens = all_stand (Sign (codes "(") ∷ Word (codes "integer") ∷ Sign (codes ")") ∷ []) tokens >>= (λ u. found (operand_of 9 expr.SizeInt))

-- The second of two values, behind the comma.
unfoldable pub second : Places → Extreme → CExpr → Reader Operand
second read which a tokens = read 0 tokens >>= (λ b. λ more. a_sign (codes ")") more >>= (λ u. found (operand_of 9 (expr.MaxMin which a b))))

-- Both, behind the opening parenthesis.
unfoldable pub both : Places → Extreme → Reader Operand
both read which tokens = read 0 tokens >>= (λ a. λ more. a_sign (codes ",") more >>= (λ u. second read which a))

-- Behind `max` or `min`.
unfoldable pub extremal : Places → Extreme → Reader Operand
extremal read which tokens = a_sign (codes "(") tokens >>= (λ u. both read which)

unfoldable pub one_value : Places → Reader Operand
one_value read tokens = read 0 tokens >>= (λ e. λ more. a_sign (codes ")") more >>= (λ u. found (operand_of 9 (expr.Abs e))))

-- Behind `abs`.
unfoldable pub absolute : Places → Reader Operand
absolute read tokens = a_sign (codes "(") tokens >>= (λ u. one_value read)

unfoldable pub by_word : Places → List ℕ → Tokens → Option WordLead → Option (Outcome Operand)
by_word read text more (Some Sized) = sized more
by_word read text more (Some (Extremal which)) = extremal read which more
by_word read text more (Some Absolute) = absolute read more
by_word read text more (Some Named) = found (operand_of 9 (expr.Name text)) more
by_word read text more None = refused (Word text ∷ more)

-- A number of the subset (C89, 3.1.3.2).
unfoldable pub number : ℕ → Tokens → Option (Outcome Operand)
number n more = if nat_le n 2147483647 then found (operand_of 9 (expr.Number (pos n))) more else refused (Digits n ∷ more)

-- An operand at a place.
unfoldable pub operand : Scope → Places → ℕ → Reader Operand
operand scope read place [] = refused []
operand scope read place (Word text ∷ more) = by_word read text more (word_lead scope text)
operand scope read place (Digits n ∷ more) = number n more
operand scope read place (Quoted bytes ∷ more) = found (operand_of 9 (expr.Str bytes)) more
operand scope read place (Sign text ∷ more) = by_sign read place text more (sign_lead place text)
operand scope read place (Including ∷ more) = refused (Including ∷ more)
operand scope read place (Bad ∷ more) = refused (Bad ∷ more)

unfoldable mutual
  -- An expression at a place, with so many nests at most.
  pub expression : Scope → ℕ → Places
  expression scope zero place tokens = None
  expression scope (suc nests) place tokens =
      operand scope (expression scope nests) place tokens >>= (λ first. expression_behind scope nests place first.level first.tree)

  -- What goes on behind an operand of a level, at a place.
  pub expression_behind : Scope → ℕ → ℕ → Going
  expression_behind scope zero place level e tokens = None
  expression_behind scope (suc nests) place level e tokens = onward (expression scope nests) (expression_behind scope nests place) place level e tokens

-- How closely the operator binds that stands first in tokens, if one does (C89, 3.3): what reads at a place is not gone on with where it binds
-- less closely than the place asks.
abbrev pub binding : Option Operator → ℕ
binding None = 0
binding (Some (Infix o)) = infix_level o
binding (Some Subscript) = 8
binding (Some Member) = 8
binding (Some Choice) = 1

abbrev pub follow : Tokens → ℕ
follow [] = 0
follow (Sign text ∷ more) = binding (lookup text operators)
follow (token ∷ more) = 0
