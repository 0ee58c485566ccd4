-- What stands in the tables of the readers of expressions, and how long what is spelled is.
use Rattle.std.proofs.Common.{◌≡◌, refl, sym, ap, ◌∙◌, subst, ℕ, suc, ◌+◌, ◌≤◌, nat_le, leb-true, Bool, true, false, ◌&&◌, ◌||◌, List, [], ◌∷◌, ◌++◌, length, codes, bytes_eq, drop, if◌then◌else◌, Option, Some, None, arith}
use Rattle.c_readers.specs.c_tree.declared.types.CastType.{CastType}
use Rattle.c_readers.specs.c_tree.declared.types.CastType.TheVariants as cast
use Rattle.c_readers.specs.c_tree.declared.types.FunctionType.TheVariants as pointer
use Rattle.c_readers.specs.c_tree.declared.expression.UnaryOp.{UnaryOp}
use Rattle.c_readers.specs.c_tree.declared.expression.BinaryOp.{BinaryOp}
use Rattle.c_readers.specs.c_tree.declared.expression.BinaryOp.TheVariants as op
use Rattle.c_readers.specs.c_tree.declared.expression.CExpr.{CExpr}
use Rattle.c_readers.specs.c_tree.Tokens.{Token, Word}
use Rattle.c_readers.specs.c_tree.CWords.{is_among, prefix_sign, infix_sign, infix_level, cast_tokens, extreme_word}
use Rattle.c_readers.specs.c_tree.CExpressionText as text
use Rattle.c_readers.specs.c_tree.CExpressionText.{Scope, IsKnown, ReadsExpr}
use Rattle.c_readers.specs.Readers.{Tokens, lookup}
use Rattle.c_readers.specs.ExpressionReader.{Operator, Infix, Subscript, Member, Choice, operators, takes, taken, operator_of, casts, cast_of, SignLead, Opening, Before, leading_signs, leads, sign_lead, WordLead, Sized, Extremal, Absolute, Named, leading_words, is_known, or_name, word_lead}
use Rattle.c_readers.proofs.grammar.Judging.{length-front}
use Rattle.c_grammar_laws.proofs.TokenGood.{equal-texts, plain}

-- ## Tables

-- what holds of each row of a table holds of what is found in it
abbrev pub AllRows : {A : Type 0} → (List ℕ → A → Type 0) → List (List ℕ × A) → Type 0
AllRows P [] = Unit {0}
AllRows P (row ∷ more) = P row.0 row.1 × AllRows P more

pub row-found : {A : Type 0} (P : List ℕ → A → Type 0) (word : List ℕ) (x : A) (table : List (List ℕ × A)) → AllRows P table → lookup word table ≡ Some x → P word x
row-found P word x [] all h = absurd (let e : None ≡ Some x = h in cc)
row-found {A = A} P word x (row ∷ more) all h = by (bytes_eq word row.0) refl h (row-found P word x more all.1)
  where
    by : (same : Bool) → bytes_eq word row.0 ≡ same → (if same then Some row.1 else lookup word more) ≡ Some x → (lookup word more ≡ Some x → P word x) → P word x
    by true s e later =
        let same : row.1 ≡ x = (let f : Some row.1 ≡ Some x = e in cc) in
        subst (λ z. P z x) (sym (equal-texts word row.0 s)) (subst (λ z. P row.0 z) same all.0)
    by false s e later = later e

and-left : (a b : Bool) → (a && b) ≡ true → a ≡ true
and-left true b h = refl
and-left false b h = h

and-right : (a b : Bool) → (a && b) ≡ true → b ≡ true
and-right true b h = h
and-right false b h = absurd (let e : false ≡ true = h in cc)

-- ## What the tables say

-- the text of an operator, and the places and levels that take it
abbrev pub IsText : List ℕ → Operator → Type 0
IsText word (Infix o) = word ≡ infix_sign o
IsText word Subscript = word ≡ codes "["
IsText word Member = word ≡ codes "."
IsText word Choice = word ≡ codes "?"

pub record Within (place least most level : ℕ) : Type 0 where
  pub low : place ≤ least
  pub high : most ≤ level

abbrev pub Allowed : ℕ → ℕ → Operator → Type 0
Allowed place level (Infix o) = Within place (infix_level o) (infix_level o) level
Allowed place level Subscript = Within place 8 8 level
Allowed place level Member = Within place 8 8 level
Allowed place level Choice = Within place 0 1 level

within : (place least most level : ℕ) → (nat_le place least && nat_le most level) ≡ true → Within place least most level
within place least most level h = record {
  low = leb-true place least (and-left (nat_le place least) (nat_le most level) h);
  high = leb-true most level (and-right (nat_le place least) (nat_le most level) h);
}

allowed : (place level : ℕ) (o : Operator) → takes place level o ≡ true → Allowed place level o
allowed place level (Infix o) h = within place (infix_level o) (infix_level o) level h
allowed place level Subscript h = within place 8 8 level h
allowed place level Member h = within place 8 8 level h
allowed place level Choice h = within place 0 1 level h

operator-rows : AllRows IsText operators
operator-rows = (refl, (refl, (refl, (refl, (refl, (refl, (refl, (refl, (refl, (refl, (refl, (refl, (refl, (refl, (refl, (refl, tt))))))))))))))))

pub record TakenAs (place level : ℕ) (word : List ℕ) (o : Operator) : Type 0 where
  pub is : IsText word o
  pub takes_it : Allowed place level o

taken-by : (place level : ℕ) (word : List ℕ) (o other : Operator) → lookup word operators ≡ Some other → (takes_it : Bool) → takes place level other ≡ takes_it
    → (if takes_it then Some other else None) ≡ Some o → TakenAs place level word o
taken-by place level word o other row true h e =
    let same : other ≡ o = (let f : Some other ≡ Some o = e in cc) in
    record {
      is = subst (λ z. IsText word z) same (row-found IsText word other operators operator-rows row);
      takes_it = subst (λ z. Allowed place level z) same (allowed place level other h);
    }
taken-by place level word o other row false h e = absurd (let f : None ≡ Some o = e in cc)

taken-found : (place level : ℕ) (word : List ℕ) (o : Operator) (row : Option Operator) → lookup word operators ≡ row → taken place level row ≡ Some o
    → TakenAs place level word o
taken-found place level word o None row e = absurd (let f : None ≡ Some o = e in cc)
taken-found place level word o (Some other) row e = taken-by place level word o other row (takes place level other) refl e

pub operator-taken : (place level : ℕ) (word : List ℕ) (o : Operator) → operator_of place level word ≡ Some o → TakenAs place level word o
unfolding operator_of
operator-taken place level word o h = taken-found place level word o (lookup word operators) refl h

-- the first word of a cast, and the other tokens of its type
pub record BeginsCast (word : List ℕ) (of : CastType) : Type 0 where
  pub tokens : cast_tokens of ≡ Word word ∷ drop 1 (cast_tokens of)
  pub fit : plain (drop 1 (cast_tokens of))

cast-row : (word : List ℕ) (of : CastType) → cast_tokens of ≡ Word word ∷ drop 1 (cast_tokens of) → plain (drop 1 (cast_tokens of)) → BeginsCast word of
cast-row word of h k = record { tokens = h; fit = k }

cast-rows : AllRows BeginsCast casts
cast-rows = (
  cast-row (codes "char") cast.Chars refl tt,
  (
    cast-row (codes "unsigned") cast.UnsignedChars refl tt,
    (
      cast-row (codes "integer") cast.Integers refl tt,
      (
        cast-row (codes "logical") cast.Logicals refl tt,
        (
          cast-row (codes "ftnlen") cast.Length refl tt,
          (
            cast-row (codes "ftnint") cast.Number refl tt,
            (
              cast-row (codes "S_fp") (cast.Function pointer.Subroutine) refl tt,
              (
                cast-row (codes "I_fp") (cast.Function pointer.Integer) refl tt,
                (
                  cast-row (codes "L_fp") (cast.Function pointer.Logical) refl tt,
                  (cast-row (codes "U_fp") (cast.Function pointer.Unknown) refl tt, tt),
                ),
              ),
            ),
          ),
        ),
      ),
    ),
  ),
)

pub record CastAt (place : ℕ) (word : List ℕ) (of : CastType) : Type 0 where
  pub low : place ≤ 7
  pub begins : BeginsCast word of

cast-by : (place : ℕ) (word : List ℕ) (of : CastType) (low : Bool) → nat_le place 7 ≡ low → (if low then lookup word casts else None) ≡ Some of → CastAt place word of
cast-by place word of true h e = record { low = leb-true place 7 h; begins = row-found BeginsCast word of casts cast-rows e }
cast-by place word of false h e = absurd (let f : None ≡ Some of = e in cc)

pub cast-taken : (place : ℕ) (word : List ℕ) (of : CastType) → cast_of place word ≡ Some of → CastAt place word of
unfolding cast_of
cast-taken place word of h = cast-by place word of (nat_le place 7) refl h

-- the signs that lead an operand
abbrev pub IsLead : List ℕ → SignLead → Type 0
IsLead word Opening = word ≡ codes "("
IsLead word (Before o) = word ≡ prefix_sign o

lead-rows : AllRows IsLead leading_signs
lead-rows = (refl, (refl, (refl, (refl, (refl, tt)))))

abbrev pub LeadsAt : ℕ → SignLead → Type 0
LeadsAt place Opening = Unit {0}
LeadsAt place (Before o) = place ≤ 7

pub record SignAt (place : ℕ) (word : List ℕ) (lead : SignLead) : Type 0 where
  pub is : IsLead word lead
  pub leads_it : LeadsAt place lead

before-by : (place : ℕ) (word : List ℕ) (o : UnaryOp) (lead : SignLead) → word ≡ prefix_sign o → (low : Bool) → nat_le place 7 ≡ low
    → (if low then Some (Before o) else None) ≡ Some lead → SignAt place word lead
before-by place word o lead is true h e =
    let same : Before o ≡ lead = (let f : Some (Before o) ≡ Some lead = e in cc) in
    subst (λ z. SignAt place word z) same (record { is = is; leads_it = leb-true place 7 h })
before-by place word o lead is false h e = absurd (let f : None ≡ Some lead = e in cc)

leads-found : (place : ℕ) (word : List ℕ) (lead : SignLead) (row : Option SignLead) → lookup word leading_signs ≡ row → leads place row ≡ Some lead
    → SignAt place word lead
leads-found place word lead None row e = absurd (let f : None ≡ Some lead = e in cc)
leads-found place word lead (Some Opening) row e =
    let same : Opening ≡ lead = (let f : Some Opening ≡ Some lead = e in cc) in
    subst (λ z. SignAt place word z) same
    (record { is = row-found IsLead word Opening leading_signs lead-rows row; leads_it = tt })
leads-found place word lead (Some (Before o)) row e =
    before-by place word o lead (row-found IsLead word (Before o) leading_signs lead-rows row) (nat_le place 7) refl e

pub sign-taken : (place : ℕ) (word : List ℕ) (lead : SignLead) → sign_lead place word ≡ Some lead → SignAt place word lead
unfolding sign_lead
sign-taken place word lead h = leads-found place word lead (lookup word leading_signs) refl h

-- names that are known
or-known : (scope : Scope) (name : List ℕ) (objects functions truths : Bool) → is_among name scope.objects ≡ objects → is_among name scope.functions ≡ functions
    → is_among name (codes "TRUE_" ∷ codes "FALSE_" ∷ []) ≡ truths → (objects || (functions || truths)) ≡ true → IsKnown scope name
or-known scope name true functions truths a b c h = text.declared_before (text.an_object a)
or-known scope name false true truths a b c h = text.declared_before (text.a_function b)
or-known scope name false false true a b c h = text.a_truth c
or-known scope name false false false a b c h = absurd (let e : false ≡ true = h in cc)

pub known : (scope : Scope) (name : List ℕ) → is_known scope name ≡ true → IsKnown scope name
known scope name h =
    or-known scope name (is_among name scope.objects) (is_among name scope.functions) (is_among name (codes "TRUE_" ∷ codes "FALSE_" ∷ [])) refl refl refl h

-- the words that lead an operand
abbrev pub IsWord : Scope → List ℕ → WordLead → Type 0
IsWord scope word Sized = word ≡ codes "sizeof"
IsWord scope word (Extremal which) = word ≡ extreme_word which
IsWord scope word Absolute = word ≡ codes "abs"
IsWord scope word Named = IsKnown scope word

word-rows : (scope : Scope) → AllRows (IsWord scope) leading_words
word-rows scope = (refl, (refl, (refl, (refl, tt))))

named-by : (scope : Scope) (word : List ℕ) (lead : WordLead) (is : Bool) → is_known scope word ≡ is → (if is then Some Named else None) ≡ Some lead → IsWord scope word lead
named-by scope word lead true h e =
    let same : Named ≡ lead = (let f : Some Named ≡ Some lead = e in cc) in subst (λ z. IsWord scope word z) same (known scope word h)
named-by scope word lead false h e = absurd (let f : None ≡ Some lead = e in cc)

word-found : (scope : Scope) (word : List ℕ) (lead : WordLead) (row : Option WordLead) → lookup word leading_words ≡ row → or_name scope word row ≡ Some lead
    → IsWord scope word lead
word-found scope word lead None row e = named-by scope word lead (is_known scope word) refl e
word-found scope word lead (Some other) row e = row-found (IsWord scope) word lead leading_words (word-rows scope) (row ∙ e)

pub word-taken : (scope : Scope) (word : List ℕ) (lead : WordLead) → word_lead scope word ≡ Some lead → IsWord scope word lead
unfolding word_lead
word-taken scope word lead h = word-found scope word lead (lookup word leading_words) refl h

-- ## What is spelled is one token long at least

next-length : {token : Token} {p q : Tokens} → p ≡ token ∷ q → length p ≡ suc (length q)
next-length h = ap length h

stand-length : (wanted p q : Tokens) → p ≡ wanted ++ q → length q ≤ length p
stand-length wanted p q h = length-front wanted q p h

pub expression-shorter : {scope : Scope} {place : ℕ} {e : CExpr} {p q : Tokens} → ReadsExpr scope place e p q → suc (length q) ≤ length p
expression-shorter (text.a_number place n h a) = omega (arith, next-length a)
expression-shorter (text.a_string place bytes a) = omega (arith, next-length a)
expression-shorter (text.a_name place name h a) = omega (arith, next-length a)
expression-shorter (text.parenthesised place a e b) = omega (arith, next-length a, expression-shorter e, next-length b)
expression-shorter (text.prefixed place o h a e) = omega (arith, next-length a, expression-shorter e)
expression-shorter (text.casted place of {q = q} {r = r} h a t b e) =
    omega (arith, next-length a, stand-length (cast_tokens of) q r t, next-length b, expression-shorter e)
expression-shorter (text.between place o h e a f) = omega (arith, expression-shorter e, next-length a, expression-shorter f)
expression-shorter (text.chosen place h e a f b g) = omega (arith, expression-shorter e, next-length a, expression-shorter f, next-length b, expression-shorter g)
expression-shorter (text.indexed place h e a i b) = omega (arith, expression-shorter e, next-length a, expression-shorter i, next-length b)
expression-shorter (text.a_field place name h n e a b) = omega (arith, expression-shorter e, next-length a, next-length b)
expression-shorter (text.size place a b c d) = omega (arith, next-length a, next-length b, next-length c, next-length d)
expression-shorter (text.extreme_of place which a b e c f d) =
    omega (arith, next-length a, next-length b, expression-shorter e, next-length c, expression-shorter f, next-length d)
expression-shorter (text.magnitude place a b e c) = omega (arith, next-length a, next-length b, expression-shorter e, next-length c)

pub level-most : (o : BinaryOp) → infix_level o ≤ 6
level-most op.Or = omega arith
level-most op.And = omega arith
level-most op.Equal = omega arith
level-most op.Unequal = omega arith
level-most op.Less = omega arith
level-most op.LessOrEqual = omega arith
level-most op.Greater = omega arith
level-most op.GreaterOrEqual = omega arith
level-most op.Add = omega arith
level-most op.Subtract = omega arith
level-most op.Multiply = omega arith
level-most op.Divide = omega arith
level-most op.Remainder = omega arith
