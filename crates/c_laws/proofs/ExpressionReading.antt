-- Searches for the derivation that a text is of the subset: each finds a tree with the derivation of its tokens, or
-- nothing. Tokens, expressions and calls.
use Rattle.std.specs.Prelude.{◌≡◌, ℕ, zero, suc, ◌+◌, ◌≤◌, nat_le, nat_eq, Bool, true, false, List, [], ◌∷◌, codes, bytes_eq, pos, Option, Some, None}
use Rattle.std.proofs.Common.{refl, ap, sym, ◌∙◌, ⊎_elim, true≢false, le_trans, le_refl}
use Rattle.std.proofs.lemmas.Bool.{eqb-true}
use Rattle.std.proofs.lemmas.Bool.Decides.{leb_tells}
use Rattle.std.proofs.lemmas.Slice.Eq.{bytes_eq-Decides}
use Rattle.c_tree.specs.declared.types.CastType.{CastType}
use Rattle.c_tree.specs.declared.types.CastType.TheVariants as cast
use Rattle.c_tree.specs.declared.types.FunctionType.TheVariants as pointer
use Rattle.c_tree.specs.declared.expression.UnaryOp.{UnaryOp}
use Rattle.c_tree.specs.declared.expression.UnaryOp.TheVariants as prefix
use Rattle.c_tree.specs.declared.expression.BinaryOp.{BinaryOp}
use Rattle.c_tree.specs.declared.expression.BinaryOp.TheVariants as op
use Rattle.c_tree.specs.declared.expression.Extreme.{Extreme}
use Rattle.c_tree.specs.declared.expression.Extreme.TheVariants as extreme
use Rattle.c_tree.specs.declared.expression.CExpr.{CExpr}
use Rattle.c_tree.specs.declared.expression.CExpr.TheVariants as expr
use Rattle.c_tree.specs.Tokens.{Token, Word, Digits, Quoted, Sign, Head, AtEnd, Gap, Lexeme, head_of, line_feeds, still_alone, Placed, AreTokens, no_more, behind_a_gap, one_more}
use Rattle.c_tree.specs.CWords.{is_among, is_name, Next, AWord, ASign, Stand, Separated, last_item, one_item, prefix_sign, infix_sign, infix_level, cast_tokens, extreme_word}
use Rattle.c_tree.specs.CExpressionText.{Scope, IsDeclared, an_object, a_function, IsKnown, declared_before, a_truth, ReadsExpr, a_number, a_string, a_name, parenthesised, prefixed, casted, between, chosen, indexed, a_field, size, extreme_of, magnitude, ReadsArguments, no_argument, some_arguments, ReadsCall, by_name, through_a_parameter}

infixl 1 ◌>>=◌
-- what is found from what was found
abbrev pub ◌>>=◌ : {A B : Type 0} → Option A → (A → Option B) → Option B
None >>= next = None
Some found >>= next = next found

-- the first thing that is found
abbrev pub otherwise : {A : Type 0} → Option A → (Unit {0} → Option A) → Option A
otherwise None other = other tt
otherwise (Some found) other = Some found

abbrev pub first_found : {A : Type 0} → List (Unit {0} → Option A) → Option A
first_found [] = None
first_found (one ∷ later) = otherwise (one tt) (λ u. first_found later)

abbrev pub holds : (test : Bool) → Option (test ≡ true)
holds true = Some refl
holds false = None

abbrev pub fails : (test : Bool) → Option (test ≡ false)
fails true = None
fails false = Some refl

pub le-of-test : (m n : ℕ) → nat_le m n ≡ true → m ≤ n
le-of-test m n h = ⊎_elim (λ t. t.1) (λ t. absurd (true≢false (sym h ∙ t.0))) (leb_tells m n)

abbrev pub at_most : (m n : ℕ) → Option (m ≤ n)
at_most m n = holds (nat_le m n) >>= (λ h. Some (le-of-test m n h))

abbrev pub same : (text other : List ℕ) → Option (text ≡ other)
same text other = holds (bytes_eq text other) >>= (λ h. Some ((bytes_eq-Decides text other).0 h))

-- the tokens of a text from here on
pub record Lexed (line : ℕ) (alone : Bool) (text : List ℕ) : Type 0 where
  pub tokens : List Placed
  pub are : AreTokens line alone text tokens

abbrev pub lexed_by : ((line : ℕ) (alone : Bool) (text : List ℕ) → Option (Lexed line alone text)) → (line : ℕ) (alone : Bool) (text : List ℕ)
    → (head : Head) → head_of alone text ≡ head → Option (Lexed line alone text)
lexed_by next line alone text AtEnd is = Some (record { tokens = []; are = no_more line alone text is })
lexed_by next line alone text (Gap gap rest) is =
    next (line + line_feeds gap) (still_alone alone gap) rest >>= (λ more.
    Some (record { tokens = more.tokens; are = behind_a_gap line alone text gap rest more.tokens is more.are }))
lexed_by next line alone text (Lexeme token rest) is =
    next line false rest >>= (λ more.
    Some (record { tokens = record { token = token; line = line } ∷ more.tokens; are = one_more line alone text token rest more.tokens is more.are }))

abbrev pub lex : ℕ → (line : ℕ) (alone : Bool) (text : List ℕ) → Option (Lexed line alone text)
lex zero line alone text = None
lex (suc fuel) line alone text = lexed_by (lex fuel) line alone text (head_of alone text) refl

-- a tree with the tokens behind it
pub record Found {T : Type 0} (R : T → List Token → List Token → Type 0) (tokens : List Token) : Type 0 where
  pub tree : T
  pub rest : List Token
  pub reads : R tree tokens rest

pub record Popped (token : Token) (tokens : List Token) : Type 0 where
  pub rest : List Token
  pub is : Next token tokens rest

abbrev pub pop_word : (text : List ℕ) (tokens : List Token) → Option (Popped (Word text) tokens)
pop_word text (Word other ∷ rest) = same other text >>= (λ h. Some (record { rest = rest; is = ap (λ z. Word z ∷ rest) h }))
pop_word text other = None

abbrev pub pop_sign : (text : List ℕ) (tokens : List Token) → Option (Popped (Sign text) tokens)
pop_sign text (Sign other ∷ rest) = same other text >>= (λ h. Some (record { rest = rest; is = ap (λ z. Sign z ∷ rest) h }))
pop_sign text other = None

pub record SomeWord (tokens : List Token) : Type 0 where
  pub text : List ℕ
  pub rest : List Token
  pub is : AWord text tokens rest

abbrev pub any_word : (tokens : List Token) → Option (SomeWord tokens)
any_word (Word text ∷ rest) = Some (record { text = text; rest = rest; is = refl })
any_word other = None

pub record SomeNumber (tokens : List Token) : Type 0 where
  pub value : ℕ
  pub rest : List Token
  pub is : Next (Digits value) tokens rest

abbrev pub any_number : (tokens : List Token) → Option (SomeNumber tokens)
any_number (Digits value ∷ rest) = Some (record { value = value; rest = rest; is = refl })
any_number other = None

abbrev pub pop_number : (value : ℕ) (tokens : List Token) → Option (Popped (Digits value) tokens)
pop_number value (Digits other ∷ rest) =
    holds (nat_eq other value) >>= (λ h. Some (record { rest = rest; is = ap (λ z. Digits z ∷ rest) (eqb-true other value h) }))
pop_number value other = None

pub record SomeString (tokens : List Token) : Type 0 where
  pub bytes : List ℕ
  pub rest : List Token
  pub is : Next (Quoted bytes) tokens rest

abbrev pub any_string : (tokens : List Token) → Option (SomeString tokens)
any_string (Quoted bytes ∷ rest) = Some (record { bytes = bytes; rest = rest; is = refl })
any_string other = None

pub record Stood (front tokens : List Token) : Type 0 where
  pub rest : List Token
  pub is : Stand front tokens rest

pub stood-none : (tokens : List Token) → Stand [] tokens tokens
stood-none tokens = refl

pub stood-more : (token : Token) (front tokens behind rest : List Token) → Next token tokens behind → Stand front behind rest → Stand (token ∷ front) tokens rest
stood-more token front tokens behind rest first later = first ∙ ap (λ z. token ∷ z) later

abbrev pub stood : (front tokens : List Token) → Option (Stood front tokens)
stood [] tokens = Some (record { rest = tokens; is = stood-none tokens })
stood (Word text ∷ front) tokens =
    pop_word text tokens >>= (λ first. stood front first.rest >>= (λ later.
    Some (record { rest = later.rest; is = stood-more (Word text) front tokens first.rest later.rest first.is later.is })))
stood (Sign text ∷ front) tokens =
    pop_sign text tokens >>= (λ first. stood front first.rest >>= (λ later.
    Some (record { rest = later.rest; is = stood-more (Sign text) front tokens first.rest later.rest first.is later.is })))
stood other tokens = None

-- items up to what closes them
abbrev pub separated : {T : Type 0} (Item : T → List Token → List Token → Type 0) (closing : List ℕ)
    → ((tokens : List Token) → Option (Found Item tokens)) → ℕ → (tokens : List Token) → Option (Found (Separated Item closing) tokens)
separated Item closing read zero tokens = None
separated Item closing read (suc fuel) tokens =
    read tokens >>= (λ one. otherwise
    (pop_sign closing one.rest >>= (λ c. Some (record { tree = one.tree ∷ []; rest = c.rest; reads = last_item one.reads c.is })))
    (λ u. pop_sign (codes ",") one.rest >>= (λ comma. separated Item closing read fuel comma.rest >>= (λ later.
    Some (record { tree = one.tree ∷ later.tree; rest = later.rest; reads = one_item one.reads comma.is later.reads })))))

module _ (scope : Scope) where
  abbrev pub declared : (name : List ℕ) → Option (IsDeclared scope name)
  declared name =
      otherwise (holds (is_among name scope.objects) >>= (λ h. Some (an_object h))) (λ u. holds (is_among name scope.functions) >>= (λ h. Some (a_function h)))

  abbrev pub known : (name : List ℕ) → Option (IsKnown scope name)
  known name =
      otherwise (declared name >>= (λ d. Some (declared_before d)))
      (λ u. holds (is_among name (codes "TRUE_" ∷ codes "FALSE_" ∷ [])) >>= (λ h. Some (a_truth h)))

  -- what reads an expression at a place
  abbrev pub Reader : Type 0
  Reader = (place : ℕ) (tokens : List Token) → Option (Found (ReadsExpr scope place) tokens)

  abbrev pub sized : (place : ℕ) (tokens : List Token) → Option (Found (ReadsExpr scope place) tokens)
  sized place tokens =
      pop_word (codes "sizeof") tokens >>= (λ a. pop_sign (codes "(") a.rest >>= (λ b. pop_word (codes "integer") b.rest >>= (λ c. pop_sign (codes ")") c.rest >>= (λ d.
      Some (record { tree = expr.SizeInt; rest = d.rest; reads = size place a.is b.is c.is d.is })))))

  abbrev pub most : Reader → Extreme → (place : ℕ) (tokens : List Token) → Option (Found (ReadsExpr scope place) tokens)
  most read which place tokens =
      pop_word (extreme_word which) tokens >>= (λ a. pop_sign (codes "(") a.rest >>= (λ b. read 0 b.rest >>= (λ first. pop_sign (codes ",") first.rest >>= (λ c.
      read 0 c.rest >>= (λ second. pop_sign (codes ")") second.rest >>= (λ d.
      Some (record { tree = expr.MaxMin which first.tree second.tree; rest = d.rest; reads = extreme_of place which a.is b.is first.reads c.is second.reads d.is })))))))

  abbrev pub absolute : Reader → (place : ℕ) (tokens : List Token) → Option (Found (ReadsExpr scope place) tokens)
  absolute read place tokens =
      pop_word (codes "abs") tokens >>= (λ a. pop_sign (codes "(") a.rest >>= (λ b. read 0 b.rest >>= (λ e. pop_sign (codes ")") e.rest >>= (λ d.
      Some (record { tree = expr.Abs e.tree; rest = d.rest; reads = magnitude place a.is b.is e.reads d.is })))))

  abbrev pub named : (place : ℕ) (tokens : List Token) → Option (Found (ReadsExpr scope place) tokens)
  named place tokens =
      any_word tokens >>= (λ w. known w.text >>= (λ k. Some (record { tree = expr.Name w.text; rest = w.rest; reads = a_name place w.text k w.is })))

  abbrev pub numbered : (place : ℕ) (tokens : List Token) → Option (Found (ReadsExpr scope place) tokens)
  numbered place tokens =
      any_number tokens >>= (λ n. at_most n.value 2147483647 >>= (λ h.
      Some (record { tree = expr.Number (pos n.value); rest = n.rest; reads = a_number place n.value h n.is })))

  abbrev pub quoted : (place : ℕ) (tokens : List Token) → Option (Found (ReadsExpr scope place) tokens)
  quoted place tokens = any_string tokens >>= (λ s. Some (record { tree = expr.Str s.bytes; rest = s.rest; reads = a_string place s.bytes s.is }))

  abbrev pub in_parentheses : Reader → (place : ℕ) (tokens : List Token) → Option (Found (ReadsExpr scope place) tokens)
  in_parentheses read place tokens =
      pop_sign (codes "(") tokens >>= (λ a. read 0 a.rest >>= (λ e. pop_sign (codes ")") e.rest >>= (λ b.
      Some (record { tree = e.tree; rest = b.rest; reads = parenthesised place a.is e.reads b.is }))))

  -- what stands alone
  abbrev pub primary : Reader → Reader
  primary read place tokens =
      first_found
      ((λ u. numbered place tokens)
      ∷ (λ u. quoted place tokens)
      ∷ (λ u. in_parentheses read place tokens)
      ∷ (λ u. sized place tokens)
      ∷ (λ u. most read extreme.Max place tokens)
      ∷ (λ u. most read extreme.Min place tokens)
      ∷ (λ u. absolute read place tokens)
      ∷ (λ u. named place tokens)
      ∷ [])

  -- an operand with what stands behind it
  abbrev pub postfix : Reader → ℕ → {tokens : List Token} → Found (ReadsExpr scope 8) tokens → Option (Found (ReadsExpr scope 8) tokens)
  postfix read zero e = None
  postfix read (suc fuel) e =
      first_found
      ((λ u. pop_sign (codes "[") e.rest >>= (λ a. read 0 a.rest >>= (λ i. pop_sign (codes "]") i.rest >>= (λ b.
      postfix read fuel (record { tree = expr.Index e.tree i.tree; rest = b.rest; reads = indexed 8 (le_refl 8) e.reads a.is i.reads b.is })))))
      ∷ (λ u. pop_sign (codes ".") e.rest >>= (λ a. any_word a.rest >>= (λ w. holds (is_name w.text) >>= (λ h.
      postfix read fuel (record { tree = expr.Field e.tree w.text; rest = w.rest; reads = a_field 8 w.text (le_refl 8) h e.reads a.is w.is })))))
      ∷ (λ u. Some e)
      ∷ [])

  abbrev pub signed : Reader → UnaryOp → (tokens : List Token) → Option (Found (ReadsExpr scope 7) tokens)
  signed read o tokens =
      pop_sign (prefix_sign o) tokens >>= (λ a. read 7 a.rest >>= (λ e.
      Some (record { tree = expr.Unary o e.tree; rest = e.rest; reads = prefixed 7 o (le_refl 7) a.is e.reads })))

  abbrev pub cast_to : Reader → CastType → (tokens : List Token) → Option (Found (ReadsExpr scope 7) tokens)
  cast_to read of tokens =
      pop_sign (codes "(") tokens >>= (λ a. stood (cast_tokens of) a.rest >>= (λ b. pop_sign (codes ")") b.rest >>= (λ c. read 7 c.rest >>= (λ e.
      Some (record { tree = expr.Cast of e.tree; rest = e.rest; reads = casted 7 of (le_refl 7) a.is b.is c.is e.reads })))))

  abbrev pub signed_or_cast : Reader → (tokens : List Token) → Option (Found (ReadsExpr scope 7) tokens)
  signed_or_cast read tokens =
      first_found
      ((λ u. signed read prefix.Minus tokens)
      ∷ (λ u. signed read prefix.Not tokens)
      ∷ (λ u. signed read prefix.Deref tokens)
      ∷ (λ u. signed read prefix.Address tokens)
      ∷ (λ u. cast_to read cast.Chars tokens)
      ∷ (λ u. cast_to read cast.UnsignedChars tokens)
      ∷ (λ u. cast_to read cast.Integers tokens)
      ∷ (λ u. cast_to read cast.Logicals tokens)
      ∷ (λ u. cast_to read cast.Length tokens)
      ∷ (λ u. cast_to read cast.Number tokens)
      ∷ (λ u. cast_to read (cast.Function pointer.Subroutine) tokens)
      ∷ (λ u. cast_to read (cast.Function pointer.Integer) tokens)
      ∷ (λ u. cast_to read (cast.Function pointer.Logical) tokens)
      ∷ (λ u. cast_to read (cast.Function pointer.Unknown) tokens)
      ∷ [])

  -- an expression that binds at least as closely as a place asks
  pub record Left (place : ℕ) (tokens : List Token) : Type 0 where
    pub level : ℕ
    pub close : place ≤ level
    pub tree : CExpr
    pub rest : List Token
    pub reads : ReadsExpr scope level tree tokens rest

  abbrev pub operand : Reader → ℕ → (place : ℕ) (tokens : List Token) → Option (Left place tokens)
  operand read fuel place tokens =
      otherwise
      (signed_or_cast read tokens >>= (λ e. at_most place 7 >>= (λ h. Some (record { level = 7; close = h; tree = e.tree; rest = e.rest; reads = e.reads }))))
      (λ u. primary read 8 tokens >>= (λ p. postfix read fuel p >>= (λ e. at_most place 8 >>= (λ h.
      Some (record { level = 8; close = h; tree = e.tree; rest = e.rest; reads = e.reads })))))

  -- an operator between two operands, which the place and the left operand allow
  pub record Taken (place level : ℕ) (tokens : List Token) : Type 0 where
    pub of : BinaryOp
    pub allowed : place ≤ infix_level of
    pub closer : infix_level of ≤ level
    pub rest : List Token
    pub is : ASign (infix_sign of) tokens rest

  abbrev pub taken_among : List BinaryOp → (place level : ℕ) (tokens : List Token) → Option (Taken place level tokens)
  taken_among [] place level tokens = None
  taken_among (of ∷ later) place level tokens =
      otherwise
      (pop_sign (infix_sign of) tokens >>= (λ s. at_most place (infix_level of) >>= (λ h. at_most (infix_level of) level >>= (λ k.
      Some (record { of = of; allowed = h; closer = k; rest = s.rest; is = s.is })))))
      (λ u. taken_among later place level tokens)

  abbrev pub taken : (place level : ℕ) (tokens : List Token) → Option (Taken place level tokens)
  taken =
      taken_among
      (op.Or ∷ op.And ∷ op.Equal ∷ op.Unequal ∷ op.Less ∷ op.LessOrEqual ∷ op.Greater ∷ op.GreaterOrEqual ∷ op.Add ∷ op.Subtract
      ∷ op.Multiply ∷ op.Divide ∷ op.Remainder ∷ [])

  -- an expression at a place fits a place that asks for less
  pub lowered : {p q : ℕ} {e : CExpr} {a b : List Token} → ReadsExpr scope p e a b → q ≤ p → ReadsExpr scope q e a b
  lowered (a_number place n h x) k = a_number _ n h x
  lowered (a_string place bytes x) k = a_string _ bytes x
  lowered (a_name place name h x) k = a_name _ name h x
  lowered (parenthesised place x y z) k = parenthesised _ x y z
  lowered (prefixed place o h x y) k = prefixed _ o (le_trans k h) x y
  lowered (casted place of h x y z w) k = casted _ of (le_trans k h) x y z w
  lowered (between place o h x y z) k = between _ o (le_trans k h) x y z
  lowered (chosen place h x y z w v) k = chosen _ (le_trans k h) x y z w v
  lowered (indexed place h x y z w) k = indexed _ (le_trans k h) x y z w
  lowered (a_field place name h n x y z) k = a_field _ name (le_trans k h) n x y z
  lowered (size place x y z w) k = size _ x y z w
  lowered (extreme_of place which x y z w v t) k = extreme_of _ which x y z w v t
  lowered (magnitude place x y z w) k = magnitude _ x y z w

  abbrev pub climbed : Reader → (place : ℕ) → ℕ → {tokens : List Token} → Left place tokens → Option (Left place tokens)
  climbed read place zero left = None
  climbed read place (suc fuel) left =
      elim (taken place left.level left.rest) [
        | None ↦ Some left
        | Some t ↦ read (suc (infix_level t.of)) t.rest >>= (λ right.
            climbed read place fuel (record {
              level = infix_level t.of;
              close = t.allowed;
              tree = expr.Binary t.of left.tree right.tree;
              rest = right.rest;
              reads = between (infix_level t.of) t.of (le_refl (infix_level t.of)) (lowered left.reads t.closer) t.is right.reads;
            }))
      ]

  abbrev pub choice : Reader → (place : ℕ) → {tokens : List Token} → Left place tokens → Option (Found (ReadsExpr scope place) tokens)
  choice read place left =
      otherwise
      (at_most place 0 >>= (λ h. at_most 1 left.level >>= (λ k. pop_sign (codes "?") left.rest >>= (λ a. read 0 a.rest >>= (λ first. pop_sign (codes ":") first.rest >>= (λ b.
      read 0 b.rest >>= (λ second.
      Some (record { tree = expr.Choose left.tree first.tree second.tree; rest = second.rest; reads = chosen place h (lowered left.reads k) a.is first.reads b.is second.reads }))))))))
      (λ u. Some (record { tree = left.tree; rest = left.rest; reads = lowered left.reads left.close }))

  -- an expression at a place
  abbrev pub read_expression : ℕ → Reader
  read_expression zero place tokens = None
  read_expression (suc fuel) place tokens =
      operand (read_expression fuel) fuel place tokens >>= (λ first. climbed (read_expression fuel) place fuel first >>= (λ left.
      choice (read_expression fuel) place left))

  abbrev pub read_arguments : ℕ → (tokens : List Token) → Option (Found (ReadsArguments scope) tokens)
  read_arguments fuel tokens =
      otherwise
      (pop_sign (codes ")") tokens >>= (λ a. Some (record { tree = []; rest = a.rest; reads = no_argument a.is })))
      (λ u. separated (ReadsExpr scope 0) (codes ")") (read_expression fuel 0) fuel tokens >>= (λ some.
      Some (record { tree = some.tree; rest = some.rest; reads = some_arguments some.reads })))

  abbrev pub read_call : ℕ → (tokens : List Token) → Option (Found (ReadsCall scope) tokens)
  read_call fuel tokens =
      otherwise
      (any_word tokens >>= (λ w. holds (is_among w.text scope.functions) >>= (λ h. pop_sign (codes "(") w.rest >>= (λ a. read_arguments fuel a.rest >>= (λ all.
      Some (record {
        tree = record { through = false; name = w.text; arguments = all.tree };
        rest = all.rest;
        reads = by_name w.text h w.is a.is all.reads;
      }))))))
      (λ u. pop_sign (codes "(") tokens >>= (λ a. pop_sign (codes "*") a.rest >>= (λ b. any_word b.rest >>= (λ w. holds (is_among w.text scope.pointers) >>= (λ h.
      pop_sign (codes ")") w.rest >>= (λ c. pop_sign (codes "(") c.rest >>= (λ d. read_arguments fuel d.rest >>= (λ all.
      Some (record {
        tree = record { through = true; name = w.text; arguments = all.tree };
        rest = all.rest;
        reads = through_a_parameter w.text h a.is b.is w.is c.is d.is all.reads;
      })))))))))
