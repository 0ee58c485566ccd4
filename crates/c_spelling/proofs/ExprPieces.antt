-- The text of each form of an expression reads as the form, given that the texts of its operands do (C89, 3.3).
use Rattle.std.specs.Prelude.{◌≡◌, ℕ, suc, ◌≤◌, Bool, true, false, List, [], ◌∷◌, ◌++◌, codes, drop}
use Rattle.std.proofs.Common.{refl, ap, subst}
use native.Mathlib.Omega.{arith}
use Rattle.c_laws.specs.c_tree.declared.types.CastType.{CastType}
use Rattle.c_laws.specs.c_tree.declared.types.CastType.TheVariants as cast
use Rattle.c_laws.specs.c_tree.declared.types.FunctionType.TheVariants as pointer
use Rattle.c_laws.specs.c_tree.declared.expression.UnaryOp.{UnaryOp}
use Rattle.c_laws.specs.c_tree.declared.expression.BinaryOp.{BinaryOp}
use Rattle.c_laws.specs.c_tree.declared.expression.BinaryOp.TheVariants as op
use Rattle.c_laws.specs.c_tree.declared.expression.Extreme.{Extreme}
use Rattle.c_laws.specs.c_tree.declared.expression.Extreme.TheVariants.{Max, Min}
use Rattle.c_laws.specs.c_tree.declared.expression.CExpr.{CExpr}
use Rattle.c_laws.specs.c_tree.declared.expression.CExpr.TheVariants as expr
use Rattle.c_laws.specs.c_tree.Tokens.{Token, Word, Sign, is_word_byte}
use Rattle.c_laws.specs.c_tree.CWords.{is_name, prefix_sign, infix_sign, infix_level, cast_tokens, extreme_word}
use Rattle.c_laws.specs.c_tree.CExpressionText.{Scope, ReadsExpr, parenthesised, prefixed, casted, between, chosen, indexed, a_field, extreme_of, magnitude}
use Rattle.c_text.specs.Operators as printed
use Rattle.c_text.specs.Operators.{rank, op_word, op_level, right_level, prefix_word}
use Rattle.c_text.specs.Types.{cast_word}
use Rattle.c_text.specs.Expressions.{own_level, reads_as_one, sign_blank, bare, printed_at}
use Rattle.c_spelling.proofs.Tokens.{ReadsAs, inside, Piece, piece_before, word, IsWord, blank, opening, closing, left_bracket, right_bracket, star, comma, dot, colon, question, infix_reads}
use Rattle.c_spelling.proofs.ExprFronts.{Apart, Plain, plain_apart, plain_parentheses, blank_apart, prefix_reads, in_place_by}

-- an expression whose text reads, at each place that takes its level
pub record Printing (scope : Scope) (e : CExpr) : Type 0 where
  pub piece : (place : ℕ) → place ≤ rank (own_level e) → Piece (bare e) (ReadsExpr scope place e)
  pub plain : 8 ≤ rank (own_level e) → Plain (bare e)
  pub apart : (o : UnaryOp) → 7 ≤ rank (own_level e) → reads_as_one o e ≡ false → Apart o (bare e)

-- without parentheses, at a place that takes every expression
pub whole_piece : {scope : Scope} {e : CExpr} → Printing scope e → Piece (bare e) (ReadsExpr scope 0 e)
whole_piece p = p.piece 0 (omega arith)

in_parentheses : {scope : Scope} {e : CExpr} (place : ℕ) (text : List ℕ) → Piece text (ReadsExpr scope 0 e) → Piece (40 ∷ (text ++ 41 ∷ [])) (ReadsExpr scope place e)
in_parentheses place text p = record {
  tokens = λ more. Sign (codes "(") ∷ p.tokens (Sign (codes ")") ∷ more);
  reads = λ first rest more clear r. opening (inside text (41 ∷ []) (first ∷ rest) (p.reads 41 (first ∷ rest) (Sign (codes ")") ∷ more) refl (closing r)));
  spells = λ more. parenthesised place refl (p.spells (Sign (codes ")") ∷ more)) refl;
}

-- at a place of a level, in parentheses where it binds less closely
placed_as : {scope : Scope} {e : CExpr} (l : _) → Printing scope e → Piece (printed_at l e) (ReadsExpr scope (rank l) e)
unfolding printed_at
placed_as {scope = scope} {e = e} l p =
    in_place_by (λ text. Piece text (ReadsExpr scope (rank l) e)) l (own_level e) (bare e) (λ fits. p.piece (rank l) fits) (in_parentheses (rank l) (bare e) (whole_piece p))

pub placed : {scope : Scope} {e : CExpr} (l : _) (n : ℕ) → rank l ≡ n → Printing scope e → Piece (printed_at l e) (ReadsExpr scope n e)
placed {scope = scope} {e = e} l n same p = subst (λ k. Piece (printed_at l e) (ReadsExpr scope k e)) same (placed_as l p)

pub placed_plain : {scope : Scope} {e : CExpr} (l : _) → rank l ≡ 8 → Printing scope e → Plain (printed_at l e)
unfolding printed_at
placed_plain {e = e} l same p =
    in_place_by Plain l (own_level e) (bare e) (λ fits. p.plain (subst (λ k. k ≤ rank (own_level e)) same fits)) (plain_parentheses (bare e))

placed_apart : {scope : Scope} {e : CExpr} (l : _) (o : UnaryOp) → rank l ≡ 7 → Printing scope e → reads_as_one o e ≡ false → Apart o (printed_at l e)
unfolding printed_at
placed_apart {e = e} l o same p clear =
    in_place_by (Apart o) l (own_level e) (bare e) (λ fits. p.apart o (subst (λ k. k ≤ rank (own_level e)) same fits) clear)
    (plain_apart o (40 ∷ (bare e ++ 41 ∷ [])) (plain_parentheses (bare e)))

-- a sign and its operand, with a blank where the two would read as one sign
operand_apart : {scope : Scope} {e : CExpr} (l : _) (o : UnaryOp) → rank l ≡ 7 → Printing scope e → (b : Bool) → reads_as_one o e ≡ b → Apart o (sign_blank b ++ printed_at l e)
operand_apart {e = e} l o same p true h = blank_apart o (printed_at l e)
operand_apart l o same p false h = placed_apart l o same p h

operand_reads : {scope : Scope} {e : CExpr} {text : List ℕ} (p : Piece text (ReadsExpr scope 7 e)) (b : Bool) (first : ℕ) (rest : List ℕ) (more : List Token) → is_word_byte first ≡ false →
    ReadsAs (first ∷ rest) more → ReadsAs ((sign_blank b ++ text) ++ first ∷ rest) (p.tokens more)
operand_reads p true first rest more clear r = blank (p.reads first rest more clear r)
operand_reads p false first rest more clear r = p.reads first rest more clear r

pub unary_piece : {scope : Scope} {e : CExpr} (l : _) (place : ℕ) (o : UnaryOp) → rank l ≡ 7 → place ≤ 7 → Printing scope e →
    Piece (prefix_word o ++ (sign_blank (reads_as_one o e) ++ printed_at l e)) (ReadsExpr scope place (expr.Unary o e))
unary_piece {scope = scope} {e = e} l place o same fits p =
    let operand : Piece (printed_at l e) (ReadsExpr scope 7 e) = placed l 7 same p in
    record {
      tokens = λ more. Sign (prefix_sign o) ∷ operand.tokens more;
      reads = λ first rest more clear r.
          inside (prefix_word o) (sign_blank (reads_as_one o e) ++ printed_at l e) (first ∷ rest)
          (prefix_reads o (sign_blank (reads_as_one o e) ++ printed_at l e) (first ∷ rest) (operand_apart l o same p (reads_as_one o e) refl)
          (operand_reads operand (reads_as_one o e) first rest more clear r));
      spells = λ more. prefixed place o fits refl (operand.spells more);
    }

-- a cast and its operand
pub cast_reads : (of : CastType) {rest : List ℕ} {tokens : List Token} → ReadsAs (41 ∷ rest) tokens → ReadsAs (cast_word of ++ 41 ∷ rest) (cast_tokens of ++ tokens)
cast_reads cast.Chars r = word (codes "char") refl refl refl (blank (star r))
cast_reads cast.UnsignedChars r = word (codes "unsigned") refl refl refl (blank (word (codes "char") refl refl refl (blank (star r))))
cast_reads cast.Integers r = word (codes "integer") refl refl refl (blank (star r))
cast_reads cast.Logicals r = word (codes "logical") refl refl refl (blank (star r))
cast_reads cast.Length r = word (codes "ftnlen") refl refl refl r
cast_reads cast.Number r = word (codes "ftnint") refl refl refl r
cast_reads (cast.Function pointer.Subroutine) r = word (codes "S_fp") refl refl refl r
cast_reads (cast.Function pointer.Integer) r = word (codes "I_fp") refl refl refl r
cast_reads (cast.Function pointer.Logical) r = word (codes "L_fp") refl refl refl r
cast_reads (cast.Function pointer.Unknown) r = word (codes "U_fp") refl refl refl r

pub cast_piece : {scope : Scope} {e : CExpr} (l : _) (place : ℕ) (of : CastType) → rank l ≡ 7 → place ≤ 7 → Printing scope e →
    Piece (40 ∷ (cast_word of ++ 41 ∷ printed_at l e)) (ReadsExpr scope place (expr.Cast of e))
cast_piece {scope = scope} {e = e} l place of same fits p =
    let operand : Piece (printed_at l e) (ReadsExpr scope 7 e) = placed l 7 same p in
    record {
      tokens = λ more. Sign (codes "(") ∷ (cast_tokens of ++ (Sign (codes ")") ∷ operand.tokens more));
      reads = λ first rest more clear r.
          opening (inside (cast_word of) (41 ∷ printed_at l e) (first ∷ rest) (cast_reads of (closing (operand.reads first rest more clear r))));
      spells = λ more. casted place of fits refl refl refl (operand.spells more);
    }

-- two operands with an operator between them
op_rank : (o : BinaryOp) → rank (op_level o) ≡ infix_level o
unfolding op_level
op_rank op.Or = refl
op_rank op.And = refl
op_rank op.Equal = refl
op_rank op.Unequal = refl
op_rank op.Less = refl
op_rank op.LessOrEqual = refl
op_rank op.Greater = refl
op_rank op.GreaterOrEqual = refl
op_rank op.Add = refl
op_rank op.Subtract = refl
op_rank op.Multiply = refl
op_rank op.Divide = refl
op_rank op.Remainder = refl

right_rank : (o : BinaryOp) → rank (right_level o) ≡ suc (infix_level o)
unfolding right_level
right_rank op.Or = refl
right_rank op.And = refl
right_rank op.Equal = refl
right_rank op.Unequal = refl
right_rank op.Less = refl
right_rank op.LessOrEqual = refl
right_rank op.Greater = refl
right_rank op.GreaterOrEqual = refl
right_rank op.Add = refl
right_rank op.Subtract = refl
right_rank op.Multiply = refl
right_rank op.Divide = refl
right_rank op.Remainder = refl

op_begins : (o : BinaryOp) → op_word o ≡ 32 ∷ drop 1 (op_word o)
unfolding op_word
op_begins op.Or = refl
op_begins op.And = refl
op_begins op.Equal = refl
op_begins op.Unequal = refl
op_begins op.Less = refl
op_begins op.LessOrEqual = refl
op_begins op.Greater = refl
op_begins op.GreaterOrEqual = refl
op_begins op.Add = refl
op_begins op.Subtract = refl
op_begins op.Multiply = refl
op_begins op.Divide = refl
op_begins op.Remainder = refl

pub low_level : (o : BinaryOp) → rank (op_level o) ≤ 6
unfolding op_level
low_level op.Or = omega arith
low_level op.And = omega arith
low_level op.Equal = omega arith
low_level op.Unequal = omega arith
low_level op.Less = omega arith
low_level op.LessOrEqual = omega arith
low_level op.Greater = omega arith
low_level op.GreaterOrEqual = omega arith
low_level op.Add = omega arith
low_level op.Subtract = omega arith
low_level op.Multiply = omega arith
low_level op.Divide = omega arith
low_level op.Remainder = omega arith

joined : {scope : Scope} {a b : CExpr} (place : ℕ) (o : BinaryOp) (left right : List ℕ) → place ≤ infix_level o → Piece left (ReadsExpr scope (infix_level o) a) →
    Piece right (ReadsExpr scope (suc (infix_level o)) b) → Piece (left ++ (op_word o ++ right)) (ReadsExpr scope place (expr.Binary o a b))
joined place o left right fits p q = record {
  tokens = λ more. p.tokens (Sign (infix_sign o) ∷ q.tokens more);
  reads = λ first rest more clear r.
      inside left (op_word o ++ right) (first ∷ rest)
      (piece_before p ((op_word o ++ right) ++ first ∷ rest) 32 ((drop 1 (op_word o) ++ right) ++ first ∷ rest) (Sign (infix_sign o) ∷ q.tokens more)
      (ap (λ z. (z ++ right) ++ first ∷ rest) (op_begins o)) refl
      (inside (op_word o) right (first ∷ rest) (infix_reads o (q.reads first rest more clear r))));
  spells = λ more. between place o fits (p.spells (Sign (infix_sign o) ∷ q.tokens more)) refl (q.spells more);
}

pub binary_piece : {scope : Scope} {a b : CExpr} (place : ℕ) (o : BinaryOp) → place ≤ rank (op_level o) → Printing scope a → Printing scope b →
    Piece (printed_at (op_level o) a ++ (op_word o ++ printed_at (right_level o) b)) (ReadsExpr scope place (expr.Binary o a b))
binary_piece {scope = scope} {a = a} {b = b} place o fits p q =
    joined place o (printed_at (op_level o) a) (printed_at (right_level o) b) (subst (λ n. place ≤ n) (op_rank o) fits)
    (placed (op_level o) (infix_level o) (op_rank o) p)
    (placed (right_level o) (suc (infix_level o)) (right_rank o) q)

-- a choice
pub choice_piece : {scope : Scope} {e a b : CExpr} (l : _) (place : ℕ) → rank l ≡ 1 → place ≤ 0 → Printing scope e → Printing scope a → Printing scope b →
    Piece (printed_at l e ++ (codes " ? " ++ (bare a ++ (codes " : " ++ bare b)))) (ReadsExpr scope place (expr.Choose e a b))
choice_piece {scope = scope} {e = e} {a = a} {b = b} l place same fits p q s =
    let test : Piece (printed_at l e) (ReadsExpr scope 1 e) = placed l 1 same p in
    let one : Piece (bare a) (ReadsExpr scope 0 a) = whole_piece q in
    let other : Piece (bare b) (ReadsExpr scope 0 b) = whole_piece s in
    record {
      tokens = λ more. test.tokens (Sign (codes "?") ∷ one.tokens (Sign (codes ":") ∷ other.tokens more));
      reads = λ first rest more clear r.
          inside (printed_at l e) (codes " ? " ++ (bare a ++ (codes " : " ++ bare b))) (first ∷ rest)
          (test.reads 32 (63 ∷ 32 ∷ ((bare a ++ (codes " : " ++ bare b)) ++ first ∷ rest)) (Sign (codes "?") ∷ one.tokens (Sign (codes ":") ∷ other.tokens more)) refl
          (blank (question (blank (inside (bare a) (codes " : " ++ bare b) (first ∷ rest)
          (one.reads 32 (58 ∷ 32 ∷ (bare b ++ first ∷ rest)) (Sign (codes ":") ∷ other.tokens more) refl
          (blank (colon (blank (other.reads first rest more clear r))))))))));
      spells = λ more. chosen place fits (test.spells (Sign (codes "?") ∷ one.tokens (Sign (codes ":") ∷ other.tokens more))) refl (one.spells (Sign (codes ":") ∷ other.tokens more)) refl (other.spells more);
    }

-- an element, and a field
pub element_piece : {scope : Scope} {e i : CExpr} (l : _) (place : ℕ) → rank l ≡ 8 → place ≤ 8 → Printing scope e → Printing scope i →
    Piece (printed_at l e ++ (91 ∷ (bare i ++ 93 ∷ []))) (ReadsExpr scope place (expr.Index e i))
element_piece {scope = scope} {e = e} {i = i} l place same fits p q =
    let array : Piece (printed_at l e) (ReadsExpr scope 8 e) = placed l 8 same p in
    let index : Piece (bare i) (ReadsExpr scope 0 i) = whole_piece q in
    record {
      tokens = λ more. array.tokens (Sign (codes "[") ∷ index.tokens (Sign (codes "]") ∷ more));
      reads = λ first rest more clear r.
          inside (printed_at l e) (91 ∷ (bare i ++ 93 ∷ [])) (first ∷ rest)
          (array.reads 91 ((bare i ++ 93 ∷ []) ++ first ∷ rest) (Sign (codes "[") ∷ index.tokens (Sign (codes "]") ∷ more)) refl
          (left_bracket (inside (bare i) (93 ∷ []) (first ∷ rest) (index.reads 93 (first ∷ rest) (Sign (codes "]") ∷ more) refl (right_bracket r)))));
      spells = λ more. indexed place fits (array.spells (Sign (codes "[") ∷ index.tokens (Sign (codes "]") ∷ more))) refl (index.spells (Sign (codes "]") ∷ more)) refl;
    }

pub field_piece : {scope : Scope} {e : CExpr} (l : _) (place : ℕ) (name : List ℕ) → rank l ≡ 8 → place ≤ 8 → is_name name ≡ true → IsWord name → Printing scope e →
    Piece (printed_at l e ++ 46 ∷ name) (ReadsExpr scope place (expr.Field e name))
field_piece {scope = scope} {e = e} l place name same fits is w p =
    let list : Piece (printed_at l e) (ReadsExpr scope 8 e) = placed l 8 same p in
    record {
      tokens = λ more. list.tokens (Sign (codes ".") ∷ Word name ∷ more);
      reads = λ first rest more clear r.
          inside (printed_at l e) (46 ∷ name) (first ∷ rest)
          (list.reads 46 (name ++ first ∷ rest) (Sign (codes ".") ∷ Word name ∷ more) refl (dot (word name w.letter w.bytes clear r)));
      spells = λ more. a_field place name fits is (list.spells (Sign (codes ".") ∷ Word name ∷ more)) refl refl;
    }

-- the greater or the smaller of two, and an absolute value
extreme_reads : (which : Extreme) {rest : List ℕ} {tokens : List Token} → ReadsAs rest tokens → ReadsAs (printed.extreme_word which ++ rest) (Word (extreme_word which) ∷ Sign (codes "(") ∷ tokens)
extreme_reads Max r = word (codes "max") refl refl refl (opening r)
extreme_reads Min r = word (codes "min") refl refl refl (opening r)

pub extreme_plain : (which : Extreme) (text : List ℕ) → Plain (printed.extreme_word which ++ text)
extreme_plain Max text = record { first = 109; later = codes "ax(" ++ text; is = refl; plain = refl }
extreme_plain Min text = record { first = 109; later = codes "in(" ++ text; is = refl; plain = refl }

pub extreme_piece : {scope : Scope} {a b : CExpr} (place : ℕ) (which : Extreme) → Printing scope a → Printing scope b →
    Piece (printed.extreme_word which ++ (bare a ++ (codes ", " ++ (bare b ++ 41 ∷ [])))) (ReadsExpr scope place (expr.MaxMin which a b))
extreme_piece {scope = scope} {a = a} {b = b} place which p q =
    let one : Piece (bare a) (ReadsExpr scope 0 a) = whole_piece p in
    let other : Piece (bare b) (ReadsExpr scope 0 b) = whole_piece q in
    record {
      tokens = λ more. Word (extreme_word which) ∷ Sign (codes "(") ∷ one.tokens (Sign (codes ",") ∷ other.tokens (Sign (codes ")") ∷ more));
      reads = λ first rest more clear r.
          inside (printed.extreme_word which) (bare a ++ (codes ", " ++ (bare b ++ 41 ∷ []))) (first ∷ rest)
          (extreme_reads which (inside (bare a) (codes ", " ++ (bare b ++ 41 ∷ [])) (first ∷ rest)
          (one.reads 44 (32 ∷ ((bare b ++ 41 ∷ []) ++ first ∷ rest)) (Sign (codes ",") ∷ other.tokens (Sign (codes ")") ∷ more)) refl
          (comma (blank (inside (bare b) (41 ∷ []) (first ∷ rest) (other.reads 41 (first ∷ rest) (Sign (codes ")") ∷ more) refl (closing r))))))));
      spells = λ more. extreme_of place which refl refl (one.spells (Sign (codes ",") ∷ other.tokens (Sign (codes ")") ∷ more))) refl (other.spells (Sign (codes ")") ∷ more)) refl;
    }

pub magnitude_piece : {scope : Scope} {e : CExpr} (place : ℕ) → Printing scope e → Piece (codes "abs(" ++ (bare e ++ 41 ∷ [])) (ReadsExpr scope place (expr.Abs e))
magnitude_piece {scope = scope} {e = e} place p =
    let one : Piece (bare e) (ReadsExpr scope 0 e) = whole_piece p in
    record {
      tokens = λ more. Word (codes "abs") ∷ Sign (codes "(") ∷ one.tokens (Sign (codes ")") ∷ more);
      reads = λ first rest more clear r.
          word (codes "abs") refl refl refl (opening (inside (bare e) (41 ∷ []) (first ∷ rest) (one.reads 41 (first ∷ rest) (Sign (codes ")") ∷ more) refl (closing r))));
      spells = λ more. magnitude place refl refl (one.spells (Sign (codes ")") ∷ more)) refl;
    }
