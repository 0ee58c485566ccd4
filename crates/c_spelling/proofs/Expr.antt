-- The text of each expression that some tokens spell reads as the expression (C89, 3.3).
use Rattle.std.specs.Prelude.{◌≡◌, ℕ, ◌≤◌, pos, true, false, ◌&&◌, List, [], ◌∷◌, codes, decimal}
use Rattle.std.specs.List.{list_all}
use Rattle.std.proofs.Common.{refl, sym, ◌∙◌, subst}
use native.Mathlib.Omega.{arith}
use Rattle.c_laws.specs.c_tree.declared.types.CastType.{CastType}
use Rattle.c_laws.specs.c_tree.declared.expression.UnaryOp.{UnaryOp}
use Rattle.c_laws.specs.c_tree.declared.expression.BinaryOp.{BinaryOp}
use Rattle.c_laws.specs.c_tree.declared.expression.Extreme.{Extreme}
use Rattle.c_laws.specs.c_tree.declared.expression.CExpr.{CExpr}
use Rattle.c_laws.specs.c_tree.declared.expression.CExpr.TheVariants as expr
use Rattle.c_laws.specs.c_tree.Opened.{trees_opened}
use Rattle.c_laws.specs.c_tree.Tokens.{Token, Word, Digits, Quoted, Sign, begins_with, is_letter, is_word_byte}
use Rattle.c_laws.specs.c_tree.CWords.{is_name, is_among}
use Rattle.c_laws.specs.c_tree.CExpressionText.{Scope, an_object, a_function, IsKnown, declared_before, a_truth, ReadsExpr, a_number, a_string, a_name, parenthesised, prefixed, casted, between, chosen, indexed, a_field, size, extreme_of, magnitude}
use Rattle.c_text.specs.Operators.{rank, op_level}
use Rattle.c_text.specs.Strings.{quoted}
use Rattle.c_text.specs.Expressions.{own_level, reads_as_one, bare}
use Rattle.c_text.proofs.Equations.{bare-Number, own_level-Number, bare-Str, own_level-Str, bare-Name, own_level-Name, bare-Unary, own_level-Unary, bare-Cast, own_level-Cast, bare-Binary, own_level-Binary, bare-Choose, own_level-Choose, bare-Index, own_level-Index, bare-Field, own_level-Field, bare-SizeInt, own_level-SizeInt, bare-MaxMin, own_level-MaxMin, bare-Abs, own_level-Abs, reads_as_one-Unary}
use Rattle.c_laws.proofs.TokenSpellings.{and-first, and-second}
use Rattle.c_spelling.specs.Spelled.{of_bytes, expression_of_bytes}
use Rattle.c_spelling.proofs.Tokens.{Piece, IsWord, name_word, word, opening, closing, number}
use Rattle.c_spelling.proofs.TokensScope.{NamedScope, passed_by, named_among}
use Rattle.c_spelling.proofs.DeclaredStrings.{quoted_reads}
use Rattle.c_spelling.proofs.ExprFronts.{Apart, Plain, plain_apart, plain_append, plain_word, plain_number, prefixed_apart}
use Rattle.c_spelling.proofs.ExprPieces.{Printing, placed_plain, unary_piece, cast_piece, low_level, binary_piece, choice_piece, element_piece, field_piece, extreme_plain, extreme_piece, magnitude_piece}

-- ## A printing from the equations of a form

-- of a form that binds closely, whose text begins plainly
close_printing : {scope : Scope} {e : CExpr} (l : _) (text : List ℕ) → bare e ≡ text → own_level e ≡ l → Plain text →
    ((place : ℕ) → place ≤ rank l → Piece text (ReadsExpr scope place e)) → Printing scope e
close_printing {scope = scope} {e = e} l text same closeness plain piece = record {
  piece = λ place fits. subst (λ t. Piece t (ReadsExpr scope place e)) (sym same) (piece place (subst (λ c. place ≤ rank c) closeness fits));
  plain = λ h. subst Plain (sym same) plain;
  apart = λ o h clear. subst (Apart o) (sym same) (plain_apart o text plain);
}

-- of a form with a sign or a cast before its operand
signed_printing : {scope : Scope} {e : CExpr} (l : _) (text : List ℕ) → bare e ≡ text → own_level e ≡ l → rank l ≤ 7 → ((o : UnaryOp) → reads_as_one o e ≡ false → Apart o text) →
    ((place : ℕ) → place ≤ rank l → Piece text (ReadsExpr scope place e)) → Printing scope e
signed_printing {scope = scope} {e = e} l text same closeness loose apart piece = record {
  piece = λ place fits. subst (λ t. Piece t (ReadsExpr scope place e)) (sym same) (piece place (subst (λ c. place ≤ rank c) closeness fits));
  plain = λ h. let k : 8 ≤ rank l = subst (λ c. 8 ≤ rank c) closeness h in absurd (omega (arith, k, loose));
  apart = λ o h clear. subst (Apart o) (sym same) (apart o clear);
}

-- of a form that binds loosely
loose_printing : {scope : Scope} {e : CExpr} (l : _) (text : List ℕ) → bare e ≡ text → own_level e ≡ l → rank l ≤ 6 →
    ((place : ℕ) → place ≤ rank l → Piece text (ReadsExpr scope place e)) → Printing scope e
loose_printing {scope = scope} {e = e} l text same closeness loose piece = record {
  piece = λ place fits. subst (λ t. Piece t (ReadsExpr scope place e)) (sym same) (piece place (subst (λ c. place ≤ rank c) closeness fits));
  plain = λ h. let k : 8 ≤ rank l = subst (λ c. 8 ≤ rank c) closeness h in absurd (omega (arith, k, loose));
  apart = λ o h clear. let k : 7 ≤ rank l = subst (λ c. 7 ≤ rank c) closeness h in absurd (omega (arith, k, loose));
}

-- ## Each form

number_printing : (scope : Scope) (n : ℕ) → n ≤ 2147483647 → Printing scope (expr.Number (pos n))
number_printing scope n small =
    close_printing _ (decimal n) (bare-Number (pos n)) (own_level-Number (pos n)) (plain_number n small) (λ place fits. record {
      tokens = λ more. Digits n ∷ more;
      reads = λ first rest more clear r. number n small clear r;
      spells = λ more. a_number place n small refl;
    })

string_printing : (scope : Scope) (bytes : List ℕ) → of_bytes bytes ≡ true → Printing scope (expr.Str bytes)
string_printing scope bytes fit =
    close_printing _ (quoted bytes) (bare-Str bytes) (own_level-Str bytes) (record { first = 34; later = _; is = refl; plain = refl }) (λ place fits. record {
      tokens = λ more. Quoted bytes ∷ more;
      reads = λ first rest more clear r. quoted_reads bytes fit r;
      spells = λ more. a_string place bytes refl;
    })

name_printing : (scope : Scope) (name : List ℕ) → IsWord name → IsKnown scope name → Printing scope (expr.Name name)
name_printing scope name w known =
    close_printing _ name (bare-Name name) (own_level-Name name) (plain_word name w.letter) (λ place fits. record {
      tokens = λ more. Word name ∷ more;
      reads = λ first rest more clear r. word name w.letter w.bytes clear r;
      spells = λ more. a_name place name known refl;
    })

unary_printing : {scope : Scope} {e : CExpr} (o : UnaryOp) → Printing scope e → Printing scope (expr.Unary o e)
unary_printing {scope = scope} {e = e} o p =
    signed_printing _ _ (bare-Unary o e) (own_level-Unary o e) (omega arith)
    (λ other clear. prefixed_apart other o _ (sym (reads_as_one-Unary other o e) ∙ clear))
    (λ place fits. unary_piece _ place o refl fits p)

cast_printing : {scope : Scope} {e : CExpr} (of : CastType) → Printing scope e → Printing scope (expr.Cast of e)
cast_printing {scope = scope} {e = e} of p =
    signed_printing _ _ (bare-Cast of e) (own_level-Cast of e) (omega arith)
    (λ other clear. plain_apart other _ (record { first = 40; later = _; is = refl; plain = refl }))
    (λ place fits. cast_piece _ place of refl fits p)

binary_printing : {scope : Scope} {a b : CExpr} (o : BinaryOp) → Printing scope a → Printing scope b → Printing scope (expr.Binary o a b)
binary_printing {a = a} {b = b} o p q =
    loose_printing (op_level o) _ (bare-Binary o a b) (own_level-Binary o a b) (low_level o) (λ place fits. binary_piece place o fits p q)

choice_printing : {scope : Scope} {e a b : CExpr} → Printing scope e → Printing scope a → Printing scope b → Printing scope (expr.Choose e a b)
choice_printing {e = e} {a = a} {b = b} p q s =
    loose_printing _ _ (bare-Choose e a b) (own_level-Choose e a b) (omega arith) (λ place fits. choice_piece _ place refl fits p q s)

element_printing : {scope : Scope} {e i : CExpr} → Printing scope e → Printing scope i → Printing scope (expr.Index e i)
element_printing {e = e} {i = i} p q =
    close_printing _ _ (bare-Index e i) (own_level-Index e i) (plain_append _ _ (placed_plain _ refl p)) (λ place fits. element_piece _ place refl fits p q)

field_printing : {scope : Scope} {e : CExpr} (name : List ℕ) → is_name name ≡ true → Printing scope e → Printing scope (expr.Field e name)
field_printing {e = e} name is p =
    close_printing _ _ (bare-Field e name) (own_level-Field e name) (plain_append _ _ (placed_plain _ refl p)) (λ place fits. field_piece _ place name refl fits is (name_word name is) p)

size_printing : (scope : Scope) → Printing scope expr.SizeInt
size_printing scope =
    close_printing _ (codes "sizeof(integer)") bare-SizeInt own_level-SizeInt (record { first = 115; later = codes "izeof(integer)"; is = refl; plain = refl }) (λ place fits. record {
      tokens = λ more. Word (codes "sizeof") ∷ Sign (codes "(") ∷ Word (codes "integer") ∷ Sign (codes ")") ∷ more;
      reads = λ first rest more clear r. word (codes "sizeof") refl refl refl (opening (word (codes "integer") refl refl refl (closing r)));
      spells = λ more. size place refl refl refl refl;
    })

extreme_printing : {scope : Scope} {a b : CExpr} (which : Extreme) → Printing scope a → Printing scope b → Printing scope (expr.MaxMin which a b)
extreme_printing {a = a} {b = b} which p q =
    close_printing _ _ (bare-MaxMin which a b) (own_level-MaxMin which a b) (extreme_plain which _) (λ place fits. extreme_piece place which p q)

magnitude_printing : {scope : Scope} {e : CExpr} → Printing scope e → Printing scope (expr.Abs e)
magnitude_printing {e = e} p =
    close_printing _ _ (bare-Abs e) (own_level-Abs e) (record { first = 97; later = _; is = refl; plain = refl }) (λ place fits. magnitude_piece place p)

-- ## Each expression

-- a known name is a word
truth_word : (name : List ℕ) → is_among name (codes "TRUE_" ∷ codes "FALSE_" ∷ []) ≡ true → IsWord name
truth_word name is = record {
  letter = passed_by (begins_with is_letter) (codes "TRUE_" ∷ codes "FALSE_" ∷ []) name refl is;
  bytes = passed_by (list_all is_word_byte) (codes "TRUE_" ∷ codes "FALSE_" ∷ []) name refl is;
}

known_word : (scope : Scope) (name : List ℕ) → NamedScope scope → IsKnown scope name → IsWord name
known_word scope name s (declared_before (an_object is)) = name_word name (named_among name scope.objects s.objects is)
known_word scope name s (declared_before (a_function is)) = name_word name (named_among name scope.functions s.functions is)
known_word scope name s (a_truth is) = truth_word name is

pub expression_printing : {scope : Scope} {place : ℕ} {e : CExpr} {p q : List Token} → ReadsExpr scope place e p q → NamedScope scope → expression_of_bytes e ≡ true → Printing scope e
unfolding trees_opened
expression_printing {scope = scope} (a_number place n h x) s fit = number_printing scope n h
expression_printing {scope = scope} (a_string place bytes x) s fit = string_printing scope bytes fit
expression_printing {scope = scope} (a_name place name h x) s fit = name_printing scope name (known_word scope name s h) h
expression_printing (parenthesised place x y z) s fit = expression_printing y s fit
expression_printing (prefixed place o h x y) s fit = unary_printing o (expression_printing y s fit)
expression_printing (casted place of h x y z w) s fit = cast_printing of (expression_printing w s fit)
expression_printing (between place o {a = a} {b = b} h x y z) s fit =
    binary_printing o (expression_printing x s (and-first (expression_of_bytes a) (expression_of_bytes b) fit))
    (expression_printing z s (and-second (expression_of_bytes a) (expression_of_bytes b) fit))
expression_printing (chosen place {e = e} {a = a} {b = b} h x y z w v) s fit =
    let later : (expression_of_bytes a && expression_of_bytes b) ≡ true = and-second (expression_of_bytes e) (expression_of_bytes a && expression_of_bytes b) fit in
    choice_printing (expression_printing x s (and-first (expression_of_bytes e) (expression_of_bytes a && expression_of_bytes b) fit))
    (expression_printing z s (and-first (expression_of_bytes a) (expression_of_bytes b) later)) (expression_printing v s (and-second (expression_of_bytes a) (expression_of_bytes b) later))
expression_printing (indexed place {e = e} {i = i} h x y z w) s fit =
    element_printing (expression_printing x s (and-first (expression_of_bytes e) (expression_of_bytes i) fit))
    (expression_printing z s (and-second (expression_of_bytes e) (expression_of_bytes i) fit))
expression_printing (a_field place name h n x y z) s fit = field_printing name n (expression_printing x s fit)
expression_printing {scope = scope} (size place x y z w) s fit = size_printing scope
expression_printing (extreme_of place which {a = a} {b = b} x y z w v t) s fit =
    extreme_printing which (expression_printing z s (and-first (expression_of_bytes a) (expression_of_bytes b) fit))
    (expression_printing v s (and-second (expression_of_bytes a) (expression_of_bytes b) fit))
expression_printing (magnitude place x y z w) s fit = magnitude_printing (expression_printing z s fit)
