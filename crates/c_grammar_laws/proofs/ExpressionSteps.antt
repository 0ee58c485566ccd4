-- Each step of the readers of expressions, where what they meet is spelled.
use Rattle.std.proofs.Common.{◌≡◌, refl, sym, ap, ap₂, ◌∙◌, subst, ℕ, zero, suc, pred, ◌+◌, ◌≤◌, ◌<◌, nat_le, le-leb, pos, Bool, true, false, not, ◌&&◌, ◌||◌, List, [], ◌∷◌, ◌++◌, codes, bytes_eq, drop, if◌then◌else◌, Option, Some, None, arith}
use Rattle.std.proofs.lemmas.Bool.{lt-leb}
use Rattle.std.specs.List.{list_all}
use Rattle.c_readers.specs.c_tree.declared.types.CastType.{CastType}
use Rattle.c_readers.specs.c_tree.declared.types.CastType.TheVariants as cast
use Rattle.c_readers.specs.c_tree.declared.types.FunctionType.TheVariants as pointer
use Rattle.c_readers.specs.c_tree.declared.expression.UnaryOp.{UnaryOp}
use Rattle.c_readers.specs.c_tree.declared.expression.UnaryOp.TheVariants as prefix
use Rattle.c_readers.specs.c_tree.declared.expression.BinaryOp.{BinaryOp}
use Rattle.c_readers.specs.c_tree.declared.expression.BinaryOp.TheVariants as op
use Rattle.c_readers.specs.c_tree.declared.expression.Extreme.{Extreme}
use Rattle.c_readers.specs.c_tree.declared.expression.Extreme.TheVariants as extreme
use Rattle.c_readers.specs.c_tree.declared.expression.CExpr.{CExpr}
use Rattle.c_readers.specs.c_tree.declared.expression.CExpr.TheVariants as expr
use Rattle.c_readers.specs.c_tree.Tokens.{Word, Digits, Quoted, Sign, Including, Bad, begins_with, is_letter, is_word_byte}
use Rattle.c_readers.specs.c_tree.CWords.{is_among, is_name, words, prefix_sign, infix_sign, infix_level, cast_tokens, extreme_word}
use Rattle.c_readers.specs.c_tree.CExpressionText as text
use Rattle.c_readers.specs.c_tree.CExpressionText.{Scope, IsKnown, ReadsExpr}
use Rattle.c_readers.specs.Readers.{Tokens, found, refused, ◌>>=◌, lookup, a_sign, a_word, a_name, all_stand}
use Rattle.c_readers.specs.ExpressionReader as reader
use Rattle.c_readers.specs.ExpressionReader.{Places, Going, operand_of, Operator, Infix, Subscript, Member, Choice, operators, taken, operator_of, casts, cast_of, Before, leading_signs, leads, sign_lead, Extremal, Named, leading_words, is_known, or_name, word_lead, binding, follow}
use Rattle.c_grammar_laws.specs.ExpressionLaws.{OfNames}
use Rattle.c_grammar_laws.proofs.TokenGood.{equal-texts}

-- ## Words that are no names

abbrev pub row_words : {A : Type 0} → List (List ℕ) → List (List ℕ × A) → Bool
row_words many [] = true
row_words many (row ∷ more) = is_among row.0 many && row_words many more

and-left : (a b : Bool) → (a && b) ≡ true → a ≡ true
and-left true b h = refl
and-left false b h = h

and-right : (a b : Bool) → (a && b) ≡ true → b ≡ true
and-right true b h = h
and-right false b h = absurd (let e : false ≡ true = h in cc)

-- what is not among some words is in no table of such words
pub not-found : {A : Type 0} (word : List ℕ) (many : List (List ℕ)) (table : List (List ℕ × A)) → row_words many table ≡ true → is_among word many ≡ false
    → lookup word table ≡ None
not-found word many [] h k = refl
not-found {A = A} word many (row ∷ more) h k =
    by (bytes_eq word row.0) refl (and-left (is_among row.0 many) (row_words many more) h)
    (not-found word many more (and-right (is_among row.0 many) (row_words many more) h) k)
  where
    by : (same : Bool) → bytes_eq word row.0 ≡ same → is_among row.0 many ≡ true → lookup word more ≡ None → (if same then Some row.1 else lookup word more) ≡ None
    by true s first later = absurd (let e : true ≡ false = sym first ∙ (ap (λ z. is_among z many) (sym (equal-texts word row.0 s)) ∙ k) in cc)
    by false s first later = later

-- a word that is a name in an expression
pub record IsFree (word : List ℕ) : Type 0 where
  pub leads_none : lookup word leading_words ≡ None
  pub casts_none : lookup word casts ≡ None

pub word-free : (word : List ℕ) → is_among word words ≡ false → IsFree word
word-free word h = record { leads_none = not-found word words leading_words refl h; casts_none = not-found word words casts refl h }

not-false : (a : Bool) → not a ≡ true → a ≡ false
not-false true h = sym h
not-false false h = refl

pub name-free : (name : List ℕ) → is_name name ≡ true → IsFree name
name-free name h =
    word-free name
    (not-false (is_among name words)
    (and-right (list_all is_word_byte name) (not (is_among name words)) (and-right (begins_with is_letter name) (list_all is_word_byte name && not (is_among name words)) h)))

pub among-names : (name : List ℕ) (names : List (List ℕ)) → list_all is_name names ≡ true → is_among name names ≡ true → is_name name ≡ true
among-names name [] h k = absurd (let e : false ≡ true = k in cc)
among-names name (one ∷ names) h k =
    by (bytes_eq name one) refl (and-left (is_name one) (list_all is_name names) h) k (among-names name names (and-right (is_name one) (list_all is_name names) h))
  where
    by : (same : Bool) → bytes_eq name one ≡ same → is_name one ≡ true → (same || is_among name names) ≡ true → (is_among name names ≡ true → is_name name ≡ true)
        → is_name name ≡ true
    by true s first h later = ap is_name (equal-texts name one s) ∙ first
    by false s first h later = later h

pub known-free : {scope : Scope} {name : List ℕ} → OfNames scope → IsKnown scope name → IsFree name
known-free {scope = scope} {name = name} of (text.declared_before (text.an_object h)) = name-free name (among-names name scope.objects of.objects h)
known-free {scope = scope} {name = name} of (text.declared_before (text.a_function h)) = name-free name (among-names name scope.functions of.functions h)
known-free {name = name} of (text.a_truth h) = by (bytes_eq name (codes "TRUE_")) (bytes_eq name (codes "FALSE_")) refl refl h
  where
    by : (one other : Bool) → bytes_eq name (codes "TRUE_") ≡ one → bytes_eq name (codes "FALSE_") ≡ other → (one || (other || false)) ≡ true → IsFree name
    by true other s t h = subst (λ z. IsFree z) (sym (equal-texts name (codes "TRUE_") s)) (record { leads_none = refl; casts_none = refl })
    by false true s t h = subst (λ z. IsFree z) (sym (equal-texts name (codes "FALSE_") t)) (record { leads_none = refl; casts_none = refl })
    by false false s t h = absurd (let e : false ≡ true = h in cc)

or-left : (a b : Bool) → a ≡ true → (a || b) ≡ true
or-left true b h = refl
or-left false b h = absurd (let e : false ≡ true = h in cc)

or-right : (a b : Bool) → b ≡ true → (a || b) ≡ true
or-right true b h = refl
or-right false b h = h

pub is-known : {scope : Scope} {name : List ℕ} → IsKnown scope name → is_known scope name ≡ true
is-known {scope = scope} {name = name} (text.declared_before (text.an_object h)) =
    or-left (is_among name scope.objects) (is_among name scope.functions || is_among name (codes "TRUE_" ∷ codes "FALSE_" ∷ [])) h
is-known {scope = scope} {name = name} (text.declared_before (text.a_function h)) =
    or-right (is_among name scope.objects) (is_among name scope.functions || is_among name (codes "TRUE_" ∷ codes "FALSE_" ∷ []))
    (or-left (is_among name scope.functions) (is_among name (codes "TRUE_" ∷ codes "FALSE_" ∷ [])) h)
is-known {scope = scope} {name = name} (text.a_truth h) =
    or-right (is_among name scope.objects) (is_among name scope.functions || is_among name (codes "TRUE_" ∷ codes "FALSE_" ∷ []))
    (or-right (is_among name scope.functions) (is_among name (codes "TRUE_" ∷ codes "FALSE_" ∷ [])) h)

pub name-lead : (scope : Scope) (name : List ℕ) → IsFree name → IsKnown scope name → word_lead scope name ≡ Some Named
unfolding word_lead
name-lead scope name free known =
    ap (λ z. or_name scope name z) free.leads_none ∙ ap (λ (z : Bool). if z then Some Named else None) (is-known known)

-- ## An expression begins with no type of a cast

abbrev pub first_cast : Tokens → Option CastType
first_cast (Word word ∷ more) = lookup word casts
first_cast other = None

pub expression-opens : {scope : Scope} {place : ℕ} {e : CExpr} {p q : Tokens} → OfNames scope → ReadsExpr scope place e p q → first_cast p ≡ None
expression-opens of (text.a_number place n h a) = ap first_cast a
expression-opens of (text.a_string place bytes a) = ap first_cast a
expression-opens of (text.a_name place name h a) = ap first_cast a ∙ (known-free of h).casts_none
expression-opens of (text.parenthesised place a e b) = ap first_cast a
expression-opens of (text.prefixed place o h a e) = ap first_cast a
expression-opens of (text.casted place to h a t b e) = ap first_cast a
expression-opens of (text.between place o h e a f) = expression-opens of e
expression-opens of (text.chosen place h e a f b g) = expression-opens of e
expression-opens of (text.indexed place h e a i b) = expression-opens of e
expression-opens of (text.a_field place name h n e a b) = expression-opens of e
expression-opens of (text.size place a b c d) = ap first_cast a
expression-opens of (text.extreme_of place extreme.Max a b e c f d) = ap first_cast a
expression-opens of (text.extreme_of place extreme.Min a b e c f d) = ap first_cast a
expression-opens of (text.magnitude place a b e c) = ap first_cast a

no-cast : (test : Bool) (row : Option CastType) → row ≡ None → (if test then row else None) ≡ None
no-cast true row h = h
no-cast false row h = refl

pub opens-alone : (read : Places) (place : ℕ) (p : Tokens) → first_cast p ≡ None → reader.opened read place p ≡ reader.parenthesised read p
unfolding reader.opened reader.by_cast cast_of
opens-alone read place [] h = refl
opens-alone read place (Word word ∷ p) h =
    ap (λ z. reader.by_cast read word p z) (no-cast (nat_le place 7) (lookup word casts) h)
opens-alone read place (Digits n ∷ p) h = refl
opens-alone read place (Quoted bytes ∷ p) h = refl
opens-alone read place (Sign word ∷ p) h = refl
opens-alone read place (Including ∷ p) h = refl
opens-alone read place (Bad ∷ p) h = refl

pub record CastWord (of : CastType) : Type 0 where
  pub word : List ℕ
  pub is : lookup word casts ≡ Some of
  pub tokens : cast_tokens of ≡ Word word ∷ drop 1 (cast_tokens of)
  pub stands : (p : Tokens) → all_stand (drop 1 (cast_tokens of)) (drop 1 (cast_tokens of) ++ p) ≡ found tt p

cast-word : (of : CastType) → CastWord of
unfolding all_stand a_word a_sign
cast-word cast.Chars = record { word = codes "char"; is = refl; tokens = refl; stands = λ p. refl }
cast-word cast.UnsignedChars = record { word = codes "unsigned"; is = refl; tokens = refl; stands = λ p. refl }
cast-word cast.Integers = record { word = codes "integer"; is = refl; tokens = refl; stands = λ p. refl }
cast-word cast.Logicals = record { word = codes "logical"; is = refl; tokens = refl; stands = λ p. refl }
cast-word cast.Length = record { word = codes "ftnlen"; is = refl; tokens = refl; stands = λ p. refl }
cast-word cast.Number = record { word = codes "ftnint"; is = refl; tokens = refl; stands = λ p. refl }
cast-word (cast.Function pointer.Subroutine) = record { word = codes "S_fp"; is = refl; tokens = refl; stands = λ p. refl }
cast-word (cast.Function pointer.Integer) = record { word = codes "I_fp"; is = refl; tokens = refl; stands = λ p. refl }
cast-word (cast.Function pointer.Logical) = record { word = codes "L_fp"; is = refl; tokens = refl; stands = λ p. refl }
cast-word (cast.Function pointer.Unknown) = record { word = codes "U_fp"; is = refl; tokens = refl; stands = λ p. refl }

opens-cast : (read : Places) (place : ℕ) (of : CastType) (w : CastWord of) (s : Tokens) → place ≤ 7
    → reader.opened read place (Word w.word ∷ (drop 1 (cast_tokens of) ++ (Sign (codes ")") ∷ s))) ≡ reader.cast_operand read of s
unfolding reader.opened reader.by_cast cast_of reader.casted a_sign
opens-cast read place of w s low =
    ap (λ z. reader.by_cast read w.word (drop 1 (cast_tokens of) ++ (Sign (codes ")") ∷ s)) z)
    (ap (λ (z : Bool). if z then lookup w.word casts else None) (le-leb place 7 low) ∙ w.is)
    ∙ ap (λ z. z >>= (λ u. λ more. a_sign (codes ")") more >>= (λ v. reader.cast_operand read of))) (w.stands (Sign (codes ")") ∷ s))

pub casts-open : (read : Places) (place : ℕ) (of : CastType) (s : Tokens) → place ≤ 7
    → reader.opened read place (cast_tokens of ++ (Sign (codes ")") ∷ s)) ≡ reader.cast_operand read of s
casts-open read place of s low =
    let w = cast-word of in
    ap (λ z. reader.opened read place (z ++ (Sign (codes ")") ∷ s))) w.tokens ∙ opens-cast read place of w s low

-- ## Operators that a place takes, and those that it does not

pub level-least : (o : BinaryOp) → 1 ≤ infix_level o
level-least op.Or = omega arith
level-least op.And = omega arith
level-least op.Equal = omega arith
level-least op.Unequal = omega arith
level-least op.Less = omega arith
level-least op.LessOrEqual = omega arith
level-least op.Greater = omega arith
level-least op.GreaterOrEqual = omega arith
level-least op.Add = omega arith
level-least op.Subtract = omega arith
level-least op.Multiply = omega arith
level-least op.Divide = omega arith
level-least op.Remainder = omega arith

below-place : (x m : ℕ) → 1 ≤ x → x ≤ pred m → x < m
below-place x zero h k = absurd (let j : x ≤ 0 = k in omega (arith, h, j))
below-place x (suc m) h k = omega (arith, k)

not-low : (m x l : ℕ) (b : Bool) → x < m → (nat_le m x && b) ≡ false
not-low m x l b h = ap (λ z. z && b) (lt-leb m x h)

pub not-taken : (m l : ℕ) (row : Option Operator) → binding row ≤ pred m → taken m l row ≡ None
not-taken m l None h = refl
not-taken m l (Some (Infix o)) h =
    ap (λ (z : Bool). if z then Some (Infix o) else None) (not-low m (infix_level o) l (nat_le (infix_level o) l) (below-place (infix_level o) m (level-least o) h))
not-taken m l (Some Subscript) h = ap (λ (z : Bool). if z then Some Subscript else None) (not-low m 8 l (nat_le 8 l) (below-place 8 m (omega arith) h))
not-taken m l (Some Member) h = ap (λ (z : Bool). if z then Some Member else None) (not-low m 8 l (nat_le 8 l) (below-place 8 m (omega arith) h))
not-taken m l (Some Choice) h =
    ap (λ (z : Bool). if z then Some Choice else None)
    (not-low m 0 l (nat_le 1 l) (let k : 1 < m = below-place 1 m (omega arith) h in omega (arith, k)))

pub stays : (read : Places) (again : Going) (m l : ℕ) (e : CExpr) (q : Tokens) → follow q ≤ pred m → reader.onward read again m l e q ≡ found e q
unfolding reader.onward reader.by_operator operator_of
stays read again m l e [] h = refl
stays read again m l e (Including ∷ p) h = refl
stays read again m l e (Bad ∷ p) h = refl
stays read again m l e (Digits v ∷ p) h = refl
stays read again m l e (Quoted bytes ∷ p) h = refl
stays read again m l e (Word word ∷ p) h = refl
stays read again m l e (Sign word ∷ p) h = ap (λ z. reader.by_operator read again e word p z) (not-taken m l (lookup word operators) h)

infix-row : (o : BinaryOp) → lookup (infix_sign o) operators ≡ Some (Infix o)
infix-row op.Or = refl
infix-row op.And = refl
infix-row op.Equal = refl
infix-row op.Unequal = refl
infix-row op.Less = refl
infix-row op.LessOrEqual = refl
infix-row op.Greater = refl
infix-row op.GreaterOrEqual = refl
infix-row op.Add = refl
infix-row op.Subtract = refl
infix-row op.Multiply = refl
infix-row op.Divide = refl
infix-row op.Remainder = refl

pub follow-infix : (o : BinaryOp) (p : Tokens) → follow (Sign (infix_sign o) ∷ p) ≡ infix_level o
follow-infix o p = ap binding (infix-row o)

both-low : (m x y l : ℕ) → m ≤ x → y ≤ l → (nat_le m x && nat_le y l) ≡ true
both-low m x y l h k = ap₂ (λ z w. z && w) (le-leb m x h) (le-leb y l k)

if-taken : (o : Operator) (test : Bool) → test ≡ true → (if test then Some o else None) ≡ Some o
if-taken o test h = ap (λ (z : Bool). if z then Some o else None) h

module _ (read : Places) (again : Going) (m l : ℕ) (e : CExpr) where
  pub infix-read : (o : BinaryOp) (b : CExpr) (p s : Tokens) → m ≤ infix_level o → infix_level o ≤ l → read (suc (infix_level o)) p ≡ found b s
      → reader.onward read again m l e (Sign (infix_sign o) ∷ p) ≡ again (infix_level o) (expr.Binary o e b) s
  unfolding reader.onward reader.by_operator operator_of reader.between
  infix-read o b p s h k r =
      ap (λ z. reader.by_operator read again e (infix_sign o) p z)
      (ap (λ z. taken m l z) (infix-row o) ∙ if-taken (Infix o) (nat_le m (infix_level o) && nat_le (infix_level o) l) (both-low m (infix_level o) (infix_level o) l h k))
      ∙ ap (λ z. z >>= (λ x. again (infix_level o) (expr.Binary o e x))) r

  pub index-read : (i : CExpr) (p s : Tokens) → m ≤ 8 → 8 ≤ l → read 0 p ≡ found i (Sign (codes "]") ∷ s)
      → reader.onward read again m l e (Sign (codes "[") ∷ p) ≡ again 8 (expr.Index e i) s
  unfolding reader.onward reader.by_operator operator_of reader.indexed a_sign
  index-read i p s h k r =
      ap (λ z. reader.by_operator read again e (codes "[") p z) (if-taken Subscript (nat_le m 8 && nat_le 8 l) (both-low m 8 8 l h k))
      ∙ ap (λ z. z >>= (λ x. λ more. a_sign (codes "]") more >>= (λ u. again 8 (expr.Index e x)))) r

  pub field-read : (name : List ℕ) (s : Tokens) → m ≤ 8 → 8 ≤ l → is_name name ≡ true
      → reader.onward read again m l e (Sign (codes ".") ∷ Word name ∷ s) ≡ again 8 (expr.Field e name) s
  unfolding reader.onward reader.by_operator operator_of reader.a_field a_name
  field-read name s h k n =
      ap (λ z. reader.by_operator read again e (codes ".") (Word name ∷ s) z) (if-taken Member (nat_le m 8 && nat_le 8 l) (both-low m 8 8 l h k))
      ∙ ap (λ (z : Bool). (if z then found name s else refused (Word name ∷ s)) >>= (λ x. again 8 (expr.Field e x))) n

  pub choice-read : (a b : CExpr) (p q s : Tokens) → m ≤ 0 → 1 ≤ l → read 0 p ≡ found a (Sign (codes ":") ∷ q) → read 0 q ≡ found b s
      → reader.onward read again m l e (Sign (codes "?") ∷ p) ≡ again 0 (expr.Choose e a b) s
  unfolding reader.onward reader.by_operator operator_of reader.chosen reader.otherwise a_sign
  choice-read a b p q s h k r t =
      ap (λ z. reader.by_operator read again e (codes "?") p z) (if-taken Choice (nat_le m 0 && nat_le 1 l) (both-low m 0 1 l h k))
      ∙ (ap (λ z. z >>= (λ x. λ more. a_sign (codes ":") more >>= (λ u. λ behind. read 0 behind >>= (λ y. again 0 (expr.Choose e x y))))) r
      ∙ ap (λ z. z >>= (λ y. again 0 (expr.Choose e a y))) t)

-- ## Operands

module _ (scope : Scope) (read : Places) (m : ℕ) where
  pub number-read : (n : ℕ) (p : Tokens) → n ≤ 2147483647 → reader.operand scope read m (Digits n ∷ p) ≡ found (operand_of 9 (expr.Number (pos n))) p
  unfolding reader.operand reader.number
  number-read n p h = ap (λ (z : Bool). if z then found (operand_of 9 (expr.Number (pos n))) p else refused (Digits n ∷ p)) (le-leb n 2147483647 h)

  pub string-read : (bytes : List ℕ) (p : Tokens) → reader.operand scope read m (Quoted bytes ∷ p) ≡ found (operand_of 9 (expr.Str bytes)) p
  unfolding reader.operand
  string-read bytes p = refl

  pub name-read : (name : List ℕ) (p : Tokens) → IsFree name → IsKnown scope name → reader.operand scope read m (Word name ∷ p) ≡ found (operand_of 9 (expr.Name name)) p
  unfolding reader.operand reader.by_word
  name-read name p free known = ap (λ z. reader.by_word read name p z) (name-lead scope name free known)

  pub paren-read : (e : CExpr) (q s : Tokens) → first_cast q ≡ None → read 0 q ≡ found e (Sign (codes ")") ∷ s)
      → reader.operand scope read m (Sign (codes "(") ∷ q) ≡ found (operand_of 9 e) s
  unfolding reader.operand reader.by_sign sign_lead reader.parenthesised a_sign
  paren-read e q s opens r =
      opens-alone read m q opens ∙ ap (λ z. z >>= (λ x. λ more. a_sign (codes ")") more >>= (λ u. found (operand_of 9 x)))) r

  prefix-row : (o : UnaryOp) → lookup (prefix_sign o) leading_signs ≡ Some (Before o)
  prefix-row prefix.Minus = refl
  prefix-row prefix.Not = refl
  prefix-row prefix.Deref = refl
  prefix-row prefix.Address = refl

  pub prefix-read : (o : UnaryOp) (e : CExpr) (q r : Tokens) → m ≤ 7 → read 7 q ≡ found e r
      → reader.operand scope read m (Sign (prefix_sign o) ∷ q) ≡ found (operand_of 7 (expr.Unary o e)) r
  unfolding reader.operand reader.by_sign sign_lead reader.prefixed
  prefix-read o e q r low k =
      ap (λ z. reader.by_sign read m (prefix_sign o) q z)
      (ap (λ z. leads m z) (prefix-row o) ∙ ap (λ (z : Bool). if z then Some (Before o) else None) (le-leb m 7 low))
      ∙ ap (λ z. z >>= (λ x. found (operand_of 7 (expr.Unary o x)))) k

  pub cast-read : (of : CastType) (e : CExpr) (s t : Tokens) → m ≤ 7 → read 7 s ≡ found e t
      → reader.operand scope read m (Sign (codes "(") ∷ (cast_tokens of ++ (Sign (codes ")") ∷ s))) ≡ found (operand_of 7 (expr.Cast of e)) t
  unfolding reader.operand reader.by_sign sign_lead reader.cast_operand
  cast-read of e s t low k = casts-open read m of s low ∙ ap (λ z. z >>= (λ x. found (operand_of 7 (expr.Cast of x)))) k

  pub size-read : (t : Tokens) → reader.operand scope read m (Word (codes "sizeof") ∷ Sign (codes "(") ∷ Word (codes "integer") ∷ Sign (codes ")") ∷ t) ≡ found (operand_of 9 expr.SizeInt) t
  unfolding reader.operand reader.by_word word_lead reader.sized all_stand a_word a_sign
  size-read t = refl

  extreme-row : (which : Extreme) → lookup (extreme_word which) leading_words ≡ Some (Extremal which)
  extreme-row extreme.Max = refl
  extreme-row extreme.Min = refl

  pub extreme-read : (which : Extreme) (a b : CExpr) (p q r : Tokens) → read 0 p ≡ found a (Sign (codes ",") ∷ q) → read 0 q ≡ found b (Sign (codes ")") ∷ r)
      → reader.operand scope read m (Word (extreme_word which) ∷ Sign (codes "(") ∷ p) ≡ found (operand_of 9 (expr.MaxMin which a b)) r
  unfolding reader.operand reader.by_word word_lead reader.extremal reader.both reader.second a_sign
  extreme-read which a b p q r h k =
      ap (λ z. reader.by_word read (extreme_word which) (Sign (codes "(") ∷ p) (or_name scope (extreme_word which) z)) (extreme-row which)
      ∙ (ap (λ z. z >>= (λ x. λ more. a_sign (codes ",") more >>= (λ u. λ behind. read 0 behind >>= (λ y. λ last. a_sign (codes ")") last >>= (λ v. found (operand_of 9 (expr.MaxMin which x y))))))) h
      ∙ ap (λ z. z >>= (λ y. λ last. a_sign (codes ")") last >>= (λ v. found (operand_of 9 (expr.MaxMin which a y))))) k)

  pub absolute-read : (e : CExpr) (p r : Tokens) → read 0 p ≡ found e (Sign (codes ")") ∷ r)
      → reader.operand scope read m (Word (codes "abs") ∷ Sign (codes "(") ∷ p) ≡ found (operand_of 9 (expr.Abs e)) r
  unfolding reader.operand reader.by_word word_lead reader.absolute reader.one_value a_sign
  absolute-read e p r h = ap (λ z. z >>= (λ x. λ more. a_sign (codes ")") more >>= (λ v. found (operand_of 9 (expr.Abs x))))) h
