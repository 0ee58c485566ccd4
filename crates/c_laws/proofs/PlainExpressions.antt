-- A reader of expressions that keeps no derivation, and that reads each expression as the tree that it spells: so some
-- tokens spell one tree at most. Fuel is as great as is needed.
use Rattle.std.specs.Prelude.{◌≡◌, ℕ, zero, suc, pred, ◌+◌, ◌||◌, ◌≤◌, ◌<◌, nat_le, Bool, true, false, not, ◌&&◌, List, [], ◌∷◌, ◌++◌, codes, bytes_eq, pos, Option, Some, None}
use Rattle.std.specs.List.{list_all}
use Rattle.std.proofs.Common.{refl, ap, ap₂, sym, ◌∙◌, subst, ⊎_elim, true≢false, le_trans, le_refl, lt_of_lt_of_le, lt_irrefl}
use Rattle.std.proofs.lemmas.Bool.Decides.{leb_tells}
use Rattle.std.proofs.lemmas.Slice.Eq.{bytes_eq-Decides}
use native.Mathlib.Omega.{arith}
use Rattle.c_tree.specs.declared.types.CastType.{CastType}
use Rattle.c_tree.specs.declared.types.CastType.TheVariants as cast
use Rattle.c_tree.specs.declared.types.FunctionType.TheVariants as pointer
use Rattle.c_tree.specs.declared.expression.UnaryOp.{UnaryOp}
use Rattle.c_tree.specs.declared.expression.UnaryOp.TheVariants as prefix
use Rattle.c_tree.specs.declared.expression.BinaryOp.{BinaryOp}
use Rattle.c_tree.specs.declared.expression.BinaryOp.TheVariants as op
use Rattle.c_tree.specs.declared.expression.Extreme.{Extreme}
use Rattle.c_tree.specs.declared.expression.Extreme.TheVariants as extreme
use Rattle.c_tree.specs.declared.expression.CExpr.{CExpr}
use Rattle.c_tree.specs.declared.expression.CExpr.TheVariants as expr
use Rattle.c_tree.specs.Tokens.{Token, Including, Word, Digits, Quoted, Sign, Bad}
use Rattle.c_tree.specs.CWords.{is_among, words, prefix_sign, infix_sign, infix_level, cast_tokens, extreme_word}
use Rattle.c_tree.specs.CExpressionText.{Scope, an_object, a_function, IsKnown, declared_before, a_truth, ReadsExpr, a_number, a_string, a_name, parenthesised, prefixed, casted, between, chosen, indexed, a_field, size, extreme_of, magnitude}
use Rattle.c_laws.proofs.ExpressionReading.{◌>>=◌}

-- what holds from some fuel on
pub record Eventually (P : ℕ → Type 0) : Type 0 where
  pub first : ℕ
  pub holds : (n : ℕ) → first ≤ n → P n

pub later : {P Q : ℕ → Type 0} → ((n : ℕ) → P n → Q (suc n)) → Eventually P → Eventually Q
later {P} {Q} step e = record { first = suc e.first; holds = by }
  where
    by : (n : ℕ) → suc e.first ≤ n → Q n
    by zero h = absurd (lt_irrefl zero (omega (arith, h)))
    by (suc n) h = step n (e.holds n (omega (arith, h)))

pub always : {P : ℕ → Type 0} → ((n : ℕ) → P n) → Eventually P
always all = record { first = 0; holds = λ n h. all n }

pub both : {P Q : ℕ → Type 0} → Eventually P → Eventually Q → Eventually (λ n. P n × Q n)
both x y = record { first = x.first + y.first; holds = λ n h. (x.holds n (omega (arith, h)), y.holds n (omega (arith, h))) }

-- a tree with the tokens behind it
pub record Got (A : Type 0) : Type 0 where
  pub tree : A
  pub rest : List Token

abbrev pub got : {A : Type 0} → A → List Token → Option (Got A)
got tree rest = Some (record { tree = tree; rest = rest })

abbrev pub when : {A : Type 0} → Bool → A → A → A
when true one other = one
when false one other = other

-- the tokens behind a sign, and behind any token
abbrev pub past_sign : List ℕ → List Token → Option (List Token)
past_sign text (Sign other ∷ p) = when (bytes_eq text other) (Some p) None
past_sign text other = None

abbrev pub past : List Token → Option (List Token)
past [] = None
past (token ∷ p) = Some p

abbrev pub a_word : List Token → Option (Got (List ℕ))
a_word (Word text ∷ p) = got text p
a_word other = None

-- the words that begin no expression
abbrev pub closed_words : List (List ℕ)
closed_words =
    codes "integer" ∷ codes "logical" ∷ codes "char" ∷ codes "unsigned" ∷ codes "int" ∷ codes "VOID" ∷ codes "void" ∷ codes "static"
    ∷ codes "extern" ∷ codes "ftnlen" ∷ codes "ftnint" ∷ codes "address" ∷ codes "S_fp" ∷ codes "I_fp" ∷ codes "L_fp" ∷ codes "U_fp"
    ∷ codes "cilist" ∷ codes "icilist" ∷ codes "olist" ∷ codes "cllist" ∷ codes "alist" ∷ codes "goto" ∷ codes "return" ∷ codes "if"
    ∷ codes "else" ∷ codes "switch" ∷ codes "case" ∷ codes "for" ∷ codes "do" ∷ codes "while" ∷ []

abbrev pub built_in : List (List ℕ)
built_in = codes "sizeof" ∷ codes "max" ∷ codes "min" ∷ codes "abs" ∷ []

-- whether an expression may begin here
abbrev pub opens : List Token → Bool
opens [] = false
opens (Word text ∷ p) = not (is_among text closed_words)
opens (Digits n ∷ p) = true
opens (Quoted bytes ∷ p) = true
opens (Sign text ∷ p) = is_among text (codes "(" ∷ codes "-" ∷ codes "!" ∷ codes "*" ∷ codes "&" ∷ [])
opens (Including ∷ p) = false
opens (Bad ∷ p) = false

-- what goes on behind an operand
pub data Operator : Type 0 where
  Infix : BinaryOp → Operator
  Subscript : Operator
  Member : Operator
  Choice : Operator
  Nothing : Operator

abbrev pub operator_of : List ℕ → Operator
operator_of text =
    when (bytes_eq text (codes "[")) Subscript
    (when (bytes_eq text (codes ".")) Member
    (when (bytes_eq text (codes "?")) Choice
    (when (bytes_eq text (codes "||")) (Infix op.Or)
    (when (bytes_eq text (codes "&&")) (Infix op.And)
    (when (bytes_eq text (codes "==")) (Infix op.Equal)
    (when (bytes_eq text (codes "!=")) (Infix op.Unequal)
    (when (bytes_eq text (codes "<")) (Infix op.Less)
    (when (bytes_eq text (codes "<=")) (Infix op.LessOrEqual)
    (when (bytes_eq text (codes ">")) (Infix op.Greater)
    (when (bytes_eq text (codes ">=")) (Infix op.GreaterOrEqual)
    (when (bytes_eq text (codes "+")) (Infix op.Add)
    (when (bytes_eq text (codes "-")) (Infix op.Subtract)
    (when (bytes_eq text (codes "*")) (Infix op.Multiply)
    (when (bytes_eq text (codes "/")) (Infix op.Divide)
    (when (bytes_eq text (codes "%")) (Infix op.Remainder) Nothing)))))))))))))))

-- how closely it binds; a choice goes on behind all but another choice
abbrev pub level_of : Operator → ℕ
level_of (Infix o) = infix_level o
level_of Subscript = 8
level_of Member = 8
level_of Choice = 1
level_of Nothing = 0

abbrev pub follow : List Token → ℕ
follow (Sign text ∷ p) = level_of (operator_of text)
follow other = 0

abbrev pub Reader : Type 0
Reader = ℕ → List Token → Option (Got CExpr)

abbrev pub Loop : Type 0
Loop = ℕ → CExpr → List Token → Option (Got CExpr)

-- what stands behind an operand, where the place and the operand allow it
abbrev pub by_operator : Reader → Loop → ℕ → ℕ → CExpr → List Token → List Token → Operator → Option (Got CExpr)
by_operator read again place level e whole p (Infix o) =
    when
    (nat_le place (infix_level o) && nat_le (infix_level o) level)
    (read (suc (infix_level o)) p >>= (λ b. again (infix_level o) (expr.Binary o e b.tree) b.rest))
    (got e whole)
by_operator read again place level e whole p Subscript =
    when
    (nat_le place 8 && nat_le 8 level)
    (read 0 p >>= (λ i. past_sign (codes "]") i.rest >>= (λ r. again 8 (expr.Index e i.tree) r)))
    (got e whole)
by_operator read again place level e whole p Member =
    when (nat_le place 8 && nat_le 8 level) (a_word p >>= (λ w. again 8 (expr.Field e w.tree) w.rest)) (got e whole)
by_operator read again place level e whole p Choice =
    when
    (nat_le place 0 && nat_le 1 level)
    (read 0 p >>= (λ a. past_sign (codes ":") a.rest >>= (λ r. read 0 r >>= (λ b. again 0 (expr.Choose e a.tree b.tree) b.rest))))
    (got e whole)
by_operator read again place level e whole p Nothing = got e whole

abbrev pub behind : Reader → Loop → ℕ → ℕ → CExpr → List Token → Option (Got CExpr)
behind read again place level e (Sign text ∷ p) = by_operator read again place level e (Sign text ∷ p) p (operator_of text)
behind read again place level e other = got e other

-- an operand with its level
pub record Begun : Type 0 where
  pub level : ℕ
  pub tree : CExpr
  pub rest : List Token

abbrev pub begun_at : ℕ → CExpr → List Token → Option Begun
begun_at level tree rest = Some (record { level = level; tree = tree; rest = rest })

pub data WordKind : Type 0 where
  Sized : WordKind
  Extremal : Extreme → WordKind
  Absolute : WordKind
  Named : WordKind

abbrev pub word_kind : List ℕ → WordKind
word_kind text =
    when (is_among text built_in)
    (when (bytes_eq text (codes "sizeof")) Sized
    (when (bytes_eq text (codes "max")) (Extremal extreme.Max)
    (when (bytes_eq text (codes "min")) (Extremal extreme.Min) Absolute)))
    Named

abbrev pub by_word : Reader → List ℕ → List Token → WordKind → Option Begun
by_word read text p Named = begun_at 9 (expr.Name text) p
by_word read text p Sized =
    past_sign (codes "(") p >>= (λ a. past a >>= (λ b. past_sign (codes ")") b >>= (λ r. begun_at 9 expr.SizeInt r)))
by_word read text p (Extremal which) =
    past_sign (codes "(") p >>= (λ a. read 0 a >>= (λ x. past_sign (codes ",") x.rest >>= (λ b. read 0 b >>= (λ y. past_sign (codes ")") y.rest >>= (λ r.
    begun_at 9 (expr.MaxMin which x.tree y.tree) r)))))
by_word read text p Absolute =
    past_sign (codes "(") p >>= (λ a. read 0 a >>= (λ x. past_sign (codes ")") x.rest >>= (λ r. begun_at 9 (expr.Abs x.tree) r)))

pub data SignKind : Type 0 where
  Before : UnaryOp → SignKind
  Opening : SignKind
  NoOperand : SignKind

abbrev pub sign_kind : List ℕ → SignKind
sign_kind text =
    when (bytes_eq text (codes "(")) Opening
    (when (bytes_eq text (codes "-")) (Before prefix.Minus)
    (when (bytes_eq text (codes "!")) (Before prefix.Not)
    (when (bytes_eq text (codes "*")) (Before prefix.Deref)
    (when (bytes_eq text (codes "&")) (Before prefix.Address) NoOperand))))

-- the tokens behind these ones
abbrev pub same_token : Token → Token → Bool
same_token (Word one) (Word other) = bytes_eq one other
same_token (Sign one) (Sign other) = bytes_eq one other
same_token one other = false

abbrev pub stripped : List Token → List Token → Option (List Token)
stripped [] p = Some p
stripped (token ∷ front) [] = None
stripped (token ∷ front) (other ∷ p) = when (same_token token other) (stripped front p) None

abbrev pub or_next : {A : Type 0} → A → Option (List Token) → Option (Got A) → Option (Got A)
or_next of (Some rest) next = got of rest
or_next of None next = next

-- the first of these whose tokens stand here
abbrev pub among : {A : Type 0} → (A → List Token) → List A → List Token → Option (Got A)
among spelling [] p = None
among spelling (of ∷ more) p = or_next of (stripped (spelling of) p) (among spelling more p)

abbrev pub casts : List CastType
casts =
    cast.Chars ∷ cast.UnsignedChars ∷ cast.Integers ∷ cast.Logicals ∷ cast.Length ∷ cast.Number ∷ cast.Function pointer.Subroutine
    ∷ cast.Function pointer.Integer ∷ cast.Function pointer.Logical ∷ cast.Function pointer.Unknown ∷ []

abbrev pub cast_at : List Token → Option (Got CastType)
cast_at p = among cast_tokens casts p

-- behind an opening parenthesis: an expression, or a cast
abbrev pub opened : Bool → Reader → List Token → Option Begun
opened true read p = read 0 p >>= (λ e. past_sign (codes ")") e.rest >>= (λ r. begun_at 9 e.tree r))
opened false read p =
    cast_at p >>= (λ of. past_sign (codes ")") of.rest >>= (λ r. read 7 r >>= (λ e. begun_at 7 (expr.Cast of.tree e.tree) e.rest)))

abbrev pub by_sign : Reader → List Token → SignKind → Option Begun
by_sign read p (Before o) = read 7 p >>= (λ e. begun_at 7 (expr.Unary o e.tree) e.rest)
by_sign read p Opening = opened (opens p) read p
by_sign read p NoOperand = None

abbrev pub begun : Reader → List Token → Option Begun
begun read [] = None
begun read (Including ∷ p) = None
begun read (Bad ∷ p) = None
begun read (Digits n ∷ p) = begun_at 9 (expr.Number (pos n)) p
begun read (Quoted bytes ∷ p) = begun_at 9 (expr.Str bytes) p
begun read (Word text ∷ p) = by_word read text p (word_kind text)
begun read (Sign text ∷ p) = by_sign read p (sign_kind text)

abbrev mutual
  -- an expression at a place
  pub read : ℕ → Reader
  read zero place p = None
  read (suc n) place p = begun (read n) p >>= (λ s. loop n place s.level s.tree s.rest)

  pub loop : ℕ → ℕ → ℕ → CExpr → List Token → Option (Got CExpr)
  loop zero place level e p = None
  loop (suc n) place level e p = behind (read n) (loop n place) place level e p

-- ## The loop stops where nothing binds closely enough

pub le-false : (m n : ℕ) → n < m → nat_le m n ≡ false
le-false m n h = ⊎_elim (λ t. absurd (lt_irrefl n (lt_of_lt_of_le h t.1))) (λ t. t.0) (leb_tells m n)

pub le-true : (m n : ℕ) → m ≤ n → nat_le m n ≡ true
le-true m n h = ⊎_elim (λ t. t.0) (λ t. absurd (lt_irrefl n (lt_of_lt_of_le t.1 h))) (leb_tells m n)

pub level-least : (o : BinaryOp) → 1 ≤ infix_level o
level-least op.Or = omega arith
level-least op.And = omega arith
level-least op.Equal = omega arith
level-least op.Unequal = omega arith
level-least op.Less = omega arith
level-least op.LessOrEqual = omega arith
level-least op.Greater = omega arith
level-least op.GreaterOrEqual = omega arith
level-least op.Add = omega arith
level-least op.Subtract = omega arith
level-least op.Multiply = omega arith
level-least op.Divide = omega arith
level-least op.Remainder = omega arith

pub level-greatest : (o : BinaryOp) → infix_level o ≤ 6
level-greatest op.Or = omega arith
level-greatest op.And = omega arith
level-greatest op.Equal = omega arith
level-greatest op.Unequal = omega arith
level-greatest op.Less = omega arith
level-greatest op.LessOrEqual = omega arith
level-greatest op.Greater = omega arith
level-greatest op.GreaterOrEqual = omega arith
level-greatest op.Add = omega arith
level-greatest op.Subtract = omega arith
level-greatest op.Multiply = omega arith
level-greatest op.Divide = omega arith
level-greatest op.Remainder = omega arith

pub below-place : (x m : ℕ) → 1 ≤ x → x ≤ pred m → x < m
below-place x zero h k = absurd (lt_irrefl zero (lt_of_lt_of_le h k))
below-place x (suc m) h k = omega (arith, k)

pub not-allowed : (m x l : ℕ) → x < m → (nat_le m x && nat_le x l) ≡ false
not-allowed m x l h = ap (λ z. z && nat_le x l) (le-false m x h)

pub allowed : (m x l : ℕ) → m ≤ x → x ≤ l → (nat_le m x && nat_le x l) ≡ true
allowed m x l h k = ap₂ (λ z w. z && w) (le-true m x h) (le-true x l k)

pub stops-by : (r : Reader) (again : Loop) (m l : ℕ) (e : CExpr) (whole p : List Token) (x : Operator) → level_of x ≤ pred m
    → by_operator r again m l e whole p x ≡ got e whole
stops-by r again m l e whole p (Infix o) h =
    ap
    (λ z. when z (r (suc (infix_level o)) p >>= (λ b. again (infix_level o) (expr.Binary o e b.tree) b.rest)) (got e whole))
    (not-allowed m (infix_level o) l (below-place (infix_level o) m (level-least o) h))
stops-by r again m l e whole p Subscript h =
    ap
    (λ z. when z (r 0 p >>= (λ i. past_sign (codes "]") i.rest >>= (λ t. again 8 (expr.Index e i.tree) t))) (got e whole))
    (not-allowed m 8 l (below-place 8 m (omega arith) h))
stops-by r again m l e whole p Member h =
    ap
    (λ z. when z (a_word p >>= (λ w. again 8 (expr.Field e w.tree) w.rest)) (got e whole))
    (not-allowed m 8 l (below-place 8 m (omega arith) h))
stops-by r again m l e whole p Choice h =
    ap
    (λ z.
    when z
    (r 0 p >>= (λ a. past_sign (codes ":") a.rest >>= (λ t. r 0 t >>= (λ b. again 0 (expr.Choose e a.tree b.tree) b.rest))))
    (got e whole))
    (ap (λ z. z && nat_le 1 l) (le-false m 0 (let k = below-place 1 m (omega arith) h in omega (arith, k))))
stops-by r again m l e whole p Nothing h = refl

pub stops : (n m l : ℕ) (e : CExpr) (q : List Token) → follow q ≤ pred m → loop (suc n) m l e q ≡ got e q
stops n m l e [] h = refl
stops n m l e (Including ∷ p) h = refl
stops n m l e (Bad ∷ p) h = refl
stops n m l e (Digits v ∷ p) h = refl
stops n m l e (Quoted bytes ∷ p) h = refl
stops n m l e (Word text ∷ p) h = refl
stops n m l e (Sign text ∷ p) h = stops-by (read n) (loop n m) m l e (Sign text ∷ p) p (operator_of text) h

pub stopped : (m l : ℕ) (e : CExpr) (q : List Token) → follow q ≤ pred m → Eventually (λ n. loop n m l e q ≡ got e q)
stopped m l e q h = later {P = λ n. ℕ} (λ n x. stops n m l e q h) (always (λ n. n))

-- ## Names are no words of the grammar

pub equal-texts : (one other : List ℕ) → bytes_eq one other ≡ true → one ≡ other
equal-texts one other h = (bytes_eq-Decides one other).0 h

-- what is not among some words is not among fewer
pub not-among-fewer : (text : List ℕ) (few many : List (List ℕ)) → list_all (λ one. is_among one many) few ≡ true → is_among text many ≡ false
    → is_among text few ≡ false
not-among-fewer text [] many h k = refl
not-among-fewer text (one ∷ few) many h k =
    by
    (bytes_eq text one)
    refl
    (and-left (is_among one many) (list_all (λ one. is_among one many) few) h)
    (not-among-fewer text few many (and-right (is_among one many) (list_all (λ one. is_among one many) few) h) k)
  where
    and-left : (a b : Bool) → (a && b) ≡ true → a ≡ true
    and-left true b h = refl
    and-left false b h = h

    and-right : (a b : Bool) → (a && b) ≡ true → b ≡ true
    and-right true b h = h
    and-right false b h = absurd (true≢false (sym h))

    by : (same : Bool) → bytes_eq text one ≡ same → is_among one many ≡ true → is_among text few ≡ false → is_among text (one ∷ few) ≡ false
    by true s first rest = absurd (true≢false (sym first ∙ (ap (λ z. is_among z many) (sym (equal-texts text one s)) ∙ k)))
    by false s first rest = ap (λ z. z || is_among text few) s ∙ rest

-- a word that may stand as a name in an expression
pub record IsFree (text : List ℕ) : Type 0 where
  pub no_function : is_among text built_in ≡ false
  pub no_opening : is_among text closed_words ≡ false

pub word-free : (text : List ℕ) → is_among text words ≡ false → IsFree text
word-free text h = record {
  no_function = not-among-fewer text built_in words refl h;
  no_opening = not-among-fewer text closed_words words refl h;
}

abbrev pub is_plain : List ℕ → Bool
is_plain name = not (is_among name words)

pub not-true : (a : Bool) → not a ≡ true → a ≡ false
not-true true h = sym h
not-true false h = refl

-- the names in scope are no words of the grammar
pub record IsClean (scope : Scope) : Type 0 where
  pub objects : list_all is_plain scope.objects ≡ true
  pub functions : list_all is_plain scope.functions ≡ true
  pub pointers : list_all is_plain scope.pointers ≡ true

pub plain-among : (name : List ℕ) (names : List (List ℕ)) → list_all is_plain names ≡ true → is_among name names ≡ true → is_among name words ≡ false
plain-among name [] h k = absurd (true≢false (sym k))
plain-among name (one ∷ names) h k = by (bytes_eq name one) (is_plain one) refl refl h k (λ h k. plain-among name names h k)
  where
    by : (same plain : Bool) → bytes_eq name one ≡ same → is_plain one ≡ plain → (plain && list_all is_plain names) ≡ true → (same || is_among name names) ≡ true
        → (list_all is_plain names ≡ true → is_among name names ≡ true → is_among name words ≡ false) → is_among name words ≡ false
    by true true s p h k rest = ap (λ z. is_among z words) (equal-texts name one s) ∙ not-true (is_among one words) p
    by same false s p h k rest = absurd (true≢false (sym h))
    by false true s p h k rest = rest h k

pub known-free : {scope : Scope} {name : List ℕ} → IsClean scope → IsKnown scope name → IsFree name
known-free {scope = scope} {name = name} clean (declared_before (an_object h)) = word-free name (plain-among name scope.objects clean.objects h)
known-free {scope = scope} {name = name} clean (declared_before (a_function h)) = word-free name (plain-among name scope.functions clean.functions h)
known-free {name = name} clean (a_truth h) = by (bytes_eq name (codes "TRUE_")) (bytes_eq name (codes "FALSE_")) refl refl h
  where
    by : (one other : Bool) → bytes_eq name (codes "TRUE_") ≡ one → bytes_eq name (codes "FALSE_") ≡ other → (one || (other || false)) ≡ true → IsFree name
    by true other s t h = subst (λ z. IsFree z) (sym (equal-texts name (codes "TRUE_") s)) (record { no_function = refl; no_opening = refl })
    by false true s t h = subst (λ z. IsFree z) (sym (equal-texts name (codes "FALSE_") t)) (record { no_function = refl; no_opening = refl })
    by false false s t h = absurd (true≢false (sym h))

pub free-opens : (text : List ℕ) (p : List Token) → IsFree text → opens (Word text ∷ p) ≡ true
free-opens text p free = ap (λ z. not z) free.no_opening

-- an expression begins with a token that may begin one
pub expression-opens : {scope : Scope} {place : ℕ} {e : CExpr} {p q : List Token} → IsClean scope → ReadsExpr scope place e p q → opens p ≡ true
expression-opens clean (a_number place n h a) = ap opens a
expression-opens clean (a_string place bytes a) = ap opens a
expression-opens clean (a_name place name {q = q} h a) = ap opens a ∙ free-opens name q (known-free clean h)
expression-opens clean (parenthesised place a e b) = ap opens a
expression-opens clean (prefixed place prefix.Minus h a e) = ap opens a
expression-opens clean (prefixed place prefix.Not h a e) = ap opens a
expression-opens clean (prefixed place prefix.Deref h a e) = ap opens a
expression-opens clean (prefixed place prefix.Address h a e) = ap opens a
expression-opens clean (casted place of h a t b e) = ap opens a
expression-opens clean (between place o h e a f) = expression-opens clean e
expression-opens clean (chosen place h e a f b g) = expression-opens clean e
expression-opens clean (indexed place h e a i b) = expression-opens clean e
expression-opens clean (a_field place name h n e a b) = expression-opens clean e
expression-opens clean (size place a b c d) = ap opens a
expression-opens clean (extreme_of place extreme.Max a b e c f d) = ap opens a
expression-opens clean (extreme_of place extreme.Min a b e c f d) = ap opens a
expression-opens clean (magnitude place a b e c) = ap opens a

-- ## Each step of the reader

pub operator-of-infix : (o : BinaryOp) → operator_of (infix_sign o) ≡ Infix o
operator-of-infix op.Or = refl
operator-of-infix op.And = refl
operator-of-infix op.Equal = refl
operator-of-infix op.Unequal = refl
operator-of-infix op.Less = refl
operator-of-infix op.LessOrEqual = refl
operator-of-infix op.Greater = refl
operator-of-infix op.GreaterOrEqual = refl
operator-of-infix op.Add = refl
operator-of-infix op.Subtract = refl
operator-of-infix op.Multiply = refl
operator-of-infix op.Divide = refl
operator-of-infix op.Remainder = refl

pub kind-of-prefix : (o : UnaryOp) → sign_kind (prefix_sign o) ≡ Before o
kind-of-prefix prefix.Minus = refl
kind-of-prefix prefix.Not = refl
kind-of-prefix prefix.Deref = refl
kind-of-prefix prefix.Address = refl

pub kind-of-extreme : (which : Extreme) → word_kind (extreme_word which) ≡ Extremal which
kind-of-extreme extreme.Max = refl
kind-of-extreme extreme.Min = refl

pub cast-read : (of : CastType) (r : List Token) → cast_at (cast_tokens of ++ r) ≡ got of r
cast-read cast.Chars r = refl
cast-read cast.UnsignedChars r = refl
cast-read cast.Integers r = refl
cast-read cast.Logicals r = refl
cast-read cast.Length r = refl
cast-read cast.Number r = refl
cast-read (cast.Function pointer.Subroutine) r = refl
cast-read (cast.Function pointer.Integer) r = refl
cast-read (cast.Function pointer.Logical) r = refl
cast-read (cast.Function pointer.Unknown) r = refl

pub cast-closed : (of : CastType) (r : List Token) → opens (cast_tokens of ++ r) ≡ false
cast-closed cast.Chars r = refl
cast-closed cast.UnsignedChars r = refl
cast-closed cast.Integers r = refl
cast-closed cast.Logicals r = refl
cast-closed cast.Length r = refl
cast-closed cast.Number r = refl
cast-closed (cast.Function pointer.Subroutine) r = refl
cast-closed (cast.Function pointer.Integer) r = refl
cast-closed (cast.Function pointer.Logical) r = refl
cast-closed (cast.Function pointer.Unknown) r = refl

abbrev pub on : ℕ → ℕ → Option Begun → Option (Got CExpr)
on n m first = first >>= (λ s. loop n m s.level s.tree s.rest)

pub name-step : (n m : ℕ) (name : List ℕ) (p : List Token) → IsFree name → read (suc n) m (Word name ∷ p) ≡ loop n m 9 (expr.Name name) p
name-step n m name p free = ap (λ z. on n m (by_word (read n) name p (when z (when (bytes_eq name (codes "sizeof")) Sized
    (when (bytes_eq name (codes "max")) (Extremal extreme.Max)
    (when (bytes_eq name (codes "min")) (Extremal extreme.Min) Absolute))) Named))) free.no_function

pub paren-step : (n m : ℕ) (e : CExpr) (q s : List Token) → opens q ≡ true → read n 0 q ≡ got e (Sign (codes ")") ∷ s)
    → read (suc n) m (Sign (codes "(") ∷ q) ≡ loop n m 9 e s
paren-step n m e q s h k =
    ap (λ z. on n m (opened z (read n) q)) h
    ∙ ap (λ t. on n m (t >>= (λ (x : Got CExpr). past_sign (codes ")") x.rest >>= (λ r. begun_at 9 x.tree r)))) k

pub prefix-step : (n m : ℕ) (o : UnaryOp) (e : CExpr) (q r : List Token) → read n 7 q ≡ got e r
    → read (suc n) m (Sign (prefix_sign o) ∷ q) ≡ loop n m 7 (expr.Unary o e) r
prefix-step n m o e q r k =
    ap (λ z. on n m (by_sign (read n) q z)) (kind-of-prefix o)
    ∙ ap (λ t. on n m (t >>= (λ (x : Got CExpr). begun_at 7 (expr.Unary o x.tree) x.rest))) k

pub cast-step : (n m : ℕ) (of : CastType) (e : CExpr) (s t : List Token) → read n 7 s ≡ got e t
    → read (suc n) m (Sign (codes "(") ∷ (cast_tokens of ++ (Sign (codes ")") ∷ s))) ≡ loop n m 7 (expr.Cast of e) t
cast-step n m of e s t k =
    ap (λ z. on n m (opened z (read n) (cast_tokens of ++ (Sign (codes ")") ∷ s)))) (cast-closed of (Sign (codes ")") ∷ s))
    ∙ (ap
    (λ z.
    on n m
    (z >>= (λ (x : Got CastType). past_sign (codes ")") x.rest >>= (λ r. read n 7 r >>= (λ y. begun_at 7 (expr.Cast x.tree y.tree) y.rest)))))
    (cast-read of (Sign (codes ")") ∷ s))
    ∙ ap (λ z. on n m (z >>= (λ (y : Got CExpr). begun_at 7 (expr.Cast of y.tree) y.rest))) k)

pub extreme-step : (n m : ℕ) (which : Extreme) (a b : CExpr) (p q r : List Token) → read n 0 p ≡ got a (Sign (codes ",") ∷ q)
    → read n 0 q ≡ got b (Sign (codes ")") ∷ r)
    → read (suc n) m (Word (extreme_word which) ∷ Sign (codes "(") ∷ p) ≡ loop n m 9 (expr.MaxMin which a b) r
extreme-step n m which a b p q r h k =
    ap (λ z. on n m (by_word (read n) (extreme_word which) (Sign (codes "(") ∷ p) z)) (kind-of-extreme which)
    ∙ (ap
    (λ z.
    on n m
    (z >>= (λ (x : Got CExpr). past_sign (codes ",") x.rest >>= (λ t. read n 0 t >>= (λ y. past_sign (codes ")") y.rest >>= (λ u.
    begun_at 9 (expr.MaxMin which x.tree y.tree) u))))))
    h
    ∙ ap (λ z. on n m (z >>= (λ (y : Got CExpr). past_sign (codes ")") y.rest >>= (λ u. begun_at 9 (expr.MaxMin which a y.tree) u)))) k)

pub absolute-step : (n m : ℕ) (e : CExpr) (p r : List Token) → read n 0 p ≡ got e (Sign (codes ")") ∷ r)
    → read (suc n) m (Word (codes "abs") ∷ Sign (codes "(") ∷ p) ≡ loop n m 9 (expr.Abs e) r
absolute-step n m e p r h =
    ap (λ z. on n m (z >>= (λ (x : Got CExpr). past_sign (codes ")") x.rest >>= (λ t. begun_at 9 (expr.Abs x.tree) t)))) h

pub infix-step : (n m l : ℕ) (o : BinaryOp) (e b : CExpr) (p s : List Token) → m ≤ infix_level o → infix_level o ≤ l → read n (suc (infix_level o)) p ≡ got b s
    → loop (suc n) m l e (Sign (infix_sign o) ∷ p) ≡ loop n m (infix_level o) (expr.Binary o e b) s
infix-step n m l o e b p s h k r =
    ap (λ z. by_operator (read n) (loop n m) m l e (Sign (infix_sign o) ∷ p) p z) (operator-of-infix o)
    ∙ (ap
    (λ z.
    when z (read n (suc (infix_level o)) p >>= (λ x. loop n m (infix_level o) (expr.Binary o e x.tree) x.rest)) (got e (Sign (infix_sign o) ∷ p)))
    (allowed m (infix_level o) l h k)
    ∙ ap (λ z. z >>= (λ (x : Got CExpr). loop n m (infix_level o) (expr.Binary o e x.tree) x.rest)) r)

pub subscript-step : (n m l : ℕ) (e i : CExpr) (p s : List Token) → m ≤ 8 → 8 ≤ l → read n 0 p ≡ got i (Sign (codes "]") ∷ s)
    → loop (suc n) m l e (Sign (codes "[") ∷ p) ≡ loop n m 8 (expr.Index e i) s
subscript-step n m l e i p s h k r =
    ap
    (λ z. when z (read n 0 p >>= (λ x. past_sign (codes "]") x.rest >>= (λ t. loop n m 8 (expr.Index e x.tree) t))) (got e (Sign (codes "[") ∷ p)))
    (allowed m 8 l h k)
    ∙ ap (λ z. z >>= (λ (x : Got CExpr). past_sign (codes "]") x.rest >>= (λ t. loop n m 8 (expr.Index e x.tree) t))) r

pub field-step : (n m l : ℕ) (e : CExpr) (name : List ℕ) (s : List Token) → m ≤ 8 → 8 ≤ l
    → loop (suc n) m l e (Sign (codes ".") ∷ Word name ∷ s) ≡ loop n m 8 (expr.Field e name) s
field-step n m l e name s h k =
    ap (λ z. when z (loop n m 8 (expr.Field e name) s) (got e (Sign (codes ".") ∷ Word name ∷ s))) (allowed m 8 l h k)

pub choice-step : (n l : ℕ) (e a b : CExpr) (p q s : List Token) → 1 ≤ l → read n 0 p ≡ got a (Sign (codes ":") ∷ q) → read n 0 q ≡ got b s
    → loop (suc n) 0 l e (Sign (codes "?") ∷ p) ≡ loop n 0 0 (expr.Choose e a b) s
choice-step n l e a b p q s k r t =
    ap
    (λ z.
    when z
    (read n 0 p >>= (λ x. past_sign (codes ":") x.rest >>= (λ u. read n 0 u >>= (λ y. loop n 0 0 (expr.Choose e x.tree y.tree) y.rest))))
    (got e (Sign (codes "?") ∷ p)))
    (le-true 1 l k)
    ∙ (ap
    (λ z. z >>= (λ (x : Got CExpr). past_sign (codes ":") x.rest >>= (λ u. read n 0 u >>= (λ y. loop n 0 0 (expr.Choose e x.tree y.tree) y.rest))))
    r
    ∙ ap (λ z. z >>= (λ (y : Got CExpr). loop n 0 0 (expr.Choose e a y.tree) y.rest)) t)

-- ## The reader reads each expression as the tree that it spells

pub at-once : {p q : List Token} {m : ℕ} {R : Option (Got CExpr)} → p ≡ q → Eventually (λ n. read n m q ≡ R) → Eventually (λ n. read n m p ≡ R)
at-once {m = m} {R = R} h e = subst (λ z. Eventually (λ n. read n m z ≡ R)) (sym h) e

abbrev pub Reads : ℕ → List Token → CExpr → List Token → Type 0
Reads place p e q = Eventually (λ n. read n place p ≡ got e q)

pub with-rest : {place : ℕ} {p q r : List Token} {e : CExpr} → q ≡ r → Reads place p e q → Reads place p e r
with-rest {place = place} {p = p} {e = e} h x = subst (λ z. Reads place p e z) h x

pub follow-infix : (o : BinaryOp) (p : List Token) → follow (Sign (infix_sign o) ∷ p) ≡ infix_level o
follow-infix o p = ap level_of (operator-of-infix o)

pub follow-at-most : {f x y : ℕ} → f ≡ x → x ≤ y → f ≤ y
follow-at-most {y = y} h k = subst (λ z. z ≤ y) (sym h) k

-- nothing binds as closely as signs and casts and more loosely than what stands behind an operand
pub no-seven : (q : List Token) → follow q ≤ 7 → follow q ≤ 6
no-seven [] h = omega arith
no-seven (Including ∷ p) h = omega arith
no-seven (Bad ∷ p) h = omega arith
no-seven (Digits v ∷ p) h = omega arith
no-seven (Quoted bytes ∷ p) h = omega arith
no-seven (Word text ∷ p) h = omega arith
no-seven (Sign text ∷ p) h = by (operator_of text) h
  where
    by : (x : Operator) → level_of x ≤ 7 → level_of x ≤ 6
    by (Infix o) k = level-greatest o
    by Subscript k = absurd (lt_irrefl 7 (omega (arith, k)))
    by Member k = absurd (lt_irrefl 7 (omega (arith, k)))
    by Choice k = omega arith
    by Nothing k = omega arith

pub complete : {scope : Scope} {place : ℕ} {e : CExpr} {p q : List Token} → IsClean scope → ReadsExpr scope place e p q → place ≤ 8 → follow q ≤ place
    → (m : ℕ) → m ≤ place → (R : Option (Got CExpr)) → ((l : ℕ) → place ≤ l → Eventually (λ n. loop n m l e q ≡ R)) → Eventually (λ n. read n m p ≡ R)
complete clean (a_number place v h x) top quiet m close R go = at-once x (later (λ n z. z) (go 9 (omega (arith, top))))
complete clean (a_string place bytes x) top quiet m close R go = at-once x (later (λ n z. z) (go 9 (omega (arith, top))))
complete clean (a_name place name {q = q} h x) top quiet m close R go =
    at-once x (later (λ n z. name-step n m name q (known-free clean h) ∙ z) (go 9 (omega (arith, top))))
complete clean (parenthesised place {e = e} {q = q} {r = r} {s = s} x d y) top quiet m close R go =
    let inner : Reads 0 q e (Sign (codes ")") ∷ s) =
    with-rest y (complete clean d (omega arith) (follow-at-most (ap follow y) (omega arith)) 0 (omega arith) (got e r)
    (λ l h. stopped 0 l e r (follow-at-most (ap follow y) (omega arith)))) in
    at-once x (later (λ n z. paren-step n m e q s (expression-opens clean d) z.0 ∙ z.1) (both inner (go 9 (omega (arith, top)))))
complete clean (prefixed place o {e = e} {q = q} {r = r} h x d) top quiet m close R go =
    let inner : Reads 7 q e r =
    complete clean d (omega arith) (le_trans quiet h) 7 (omega arith) (got e r) (λ l k. stopped 7 l e r (no-seven r (le_trans quiet h))) in
    at-once x (later (λ n z. prefix-step n m o e q r z.0 ∙ z.1) (both inner (go 7 h)))
complete clean (casted place of {e = e} {p = p} {q = q} {r = r} {s = s} {t = t} h x y w d) top quiet m close R go =
    let inner : Reads 7 s e t =
    complete clean d (omega arith) (le_trans quiet h) 7 (omega arith) (got e t) (λ l k. stopped 7 l e t (no-seven t (le_trans quiet h))) in
    let whole : p ≡ Sign (codes "(") ∷ (cast_tokens of ++ (Sign (codes ")") ∷ s)) =
    x ∙ ap (λ z. Sign (codes "(") ∷ z) (y ∙ ap (λ z. cast_tokens of ++ z) w) in
    at-once whole (later (λ n z. cast-step n m of e s t z.0 ∙ z.1) (both inner (go 7 h)))
complete clean (between place o {a = a} {b = b} {p = p} {q = q} {r = r} {s = s} h d x f) top quiet m close R go =
    let right : Reads (suc (infix_level o)) r b s =
    complete clean f (let k = level-greatest o in omega (arith, k)) (le_trans quiet (le_trans h (omega arith))) (suc (infix_level o)) (le_refl (suc (infix_level o))) (got b s)
    (λ l k. stopped (suc (infix_level o)) l b s (le_trans quiet h)) in
    complete clean d (let k = level-greatest o in omega (arith, k)) (follow-at-most (ap follow x ∙ follow-infix o r) (le_refl (infix_level o))) m (le_trans close h) R
    (λ l k.
    subst (λ z. Eventually (λ n. loop n m l a z ≡ R)) (sym x)
    (later (λ n z. infix-step n m l o a b r s (le_trans close h) k z.0 ∙ z.1) (both right (go (infix_level o) h))))
complete clean (chosen place {e = e} {a = a} {b = b} {p = p} {q = q} {r = r} {s = s} {t = t} {u = u} h d x f y g) top quiet m close R go =
    let first : Reads 0 r a (Sign (codes ":") ∷ t) =
    with-rest y (complete clean f (omega arith) (follow-at-most (ap follow y) (omega arith)) 0 (omega arith) (got a s)
    (λ l k. stopped 0 l a s (follow-at-most (ap follow y) (omega arith)))) in
    let second : Reads 0 t b u =
    complete clean g (omega arith) (le_trans quiet h) 0 (omega arith) (got b u) (λ l k. stopped 0 l b u (le_trans quiet h)) in
    let zero-place : m ≡ 0 = omega (arith, close, h) in
    subst (λ z. Eventually (λ n. read n z p ≡ R)) (sym zero-place)
    (complete clean d (omega arith) (follow-at-most (ap follow x) (omega arith)) 0 (omega arith) R
    (λ l k.
    subst (λ z. Eventually (λ n. loop n 0 l e z ≡ R)) (sym x)
    (later (λ n z. choice-step n l e a b r t u k z.0.0 z.0.1 ∙ z.1)
    (both (both first second) (subst (λ z. Eventually (λ n. loop n z 0 (expr.Choose e a b) u ≡ R)) zero-place (go 0 h))))))
complete clean (indexed place {e = e} {i = i} {q = q} {r = r} {s = s} {t = t} h d x f y) top quiet m close R go =
    let inner : Reads 0 r i (Sign (codes "]") ∷ t) =
    with-rest y (complete clean f (omega arith) (follow-at-most (ap follow y) (omega arith)) 0 (omega arith) (got i s)
    (λ l k. stopped 0 l i s (follow-at-most (ap follow y) (omega arith)))) in
    complete clean d (le_refl 8) (follow-at-most (ap follow x) (le_refl 8)) m (le_trans close h) R
    (λ l k.
    subst (λ z. Eventually (λ n. loop n m l e z ≡ R)) (sym x)
    (later (λ n z. subscript-step n m l e i r t (le_trans close h) k z.0 ∙ z.1) (both inner (go 8 h))))
complete clean (a_field place {e = e} name {q = q} {r = r} {s = s} h n d x y) top quiet m close R go =
    complete clean d (le_refl 8) (follow-at-most (ap follow x) (le_refl 8)) m (le_trans close h) R
    (λ l k.
    subst (λ z. Eventually (λ n. loop n m l e z ≡ R)) (sym (x ∙ ap (λ z. Sign (codes ".") ∷ z) y))
    (later (λ n z. field-step n m l e name s (le_trans close h) k ∙ z) (go 8 h)))
complete clean (size place {q = q} {r = r} {s = s} {t = t} x y z w) top quiet m close R go =
    at-once
    (x ∙ ap (λ v. Word (codes "sizeof") ∷ v) (y ∙ ap (λ v. Sign (codes "(") ∷ v) (z ∙ ap (λ v. Word (codes "integer") ∷ v) w)))
    (later (λ n v. v) (go 9 (omega (arith, top))))
complete clean (extreme_of place which {a = a} {b = b} {q = q} {r = r} {s = s} {t = t} {u = u} {v = v} x y d z f w) top quiet m close R go =
    let first : Reads 0 r a (Sign (codes ",") ∷ t) =
    with-rest z (complete clean d (omega arith) (follow-at-most (ap follow z) (omega arith)) 0 (omega arith) (got a s)
    (λ l k. stopped 0 l a s (follow-at-most (ap follow z) (omega arith)))) in
    let second : Reads 0 t b (Sign (codes ")") ∷ v) =
    with-rest w (complete clean f (omega arith) (follow-at-most (ap follow w) (omega arith)) 0 (omega arith) (got b u)
    (λ l k. stopped 0 l b u (follow-at-most (ap follow w) (omega arith)))) in
    at-once
    (x ∙ ap (λ g. Word (extreme_word which) ∷ g) y)
    (later (λ n g. extreme-step n m which a b r t v g.0.0 g.0.1 ∙ g.1) (both (both first second) (go 9 (omega (arith, top)))))
complete clean (magnitude place {e = e} {q = q} {r = r} {s = s} {t = t} x y d z) top quiet m close R go =
    let inner : Reads 0 r e (Sign (codes ")") ∷ t) =
    with-rest z (complete clean d (omega arith) (follow-at-most (ap follow z) (omega arith)) 0 (omega arith) (got e s)
    (λ l k. stopped 0 l e s (follow-at-most (ap follow z) (omega arith)))) in
    at-once
    (x ∙ ap (λ g. Word (codes "abs") ∷ g) y)
    (later (λ n g. absolute-step n m e r t g.0 ∙ g.1) (both inner (go 9 (omega (arith, top)))))

-- an expression is read whole where nothing behind it binds as closely as its place asks
pub reads-whole : {scope : Scope} {place : ℕ} {e : CExpr} {p q : List Token} → IsClean scope → ReadsExpr scope place e p q → place ≤ 8 → follow q ≤ place
    → follow q ≤ pred place → Reads place p e q
reads-whole {place = place} {e = e} {q = q} clean d top quiet still =
    complete clean d top quiet place (le_refl place) (got e q) (λ l h. stopped place l e q still)

-- an expression that a sign or a word follows which is no operator
pub expression-reads : {scope : Scope} {e : CExpr} {p q : List Token} → IsClean scope → ReadsExpr scope 0 e p q → follow q ≡ 0 → Reads 0 p e q
expression-reads {q = q} clean d h = reads-whole clean d (omega arith) (follow-at-most h (le_refl 0)) (follow-at-most h (le_refl 0))

pub target-reads : {scope : Scope} {e : CExpr} {p q : List Token} → IsClean scope → ReadsExpr scope 7 e p q → follow q ≡ 0 → Reads 7 p e q
target-reads {q = q} clean d h = reads-whole clean d (omega arith) (follow-at-most h (omega arith)) (follow-at-most h (omega arith))
