-- Tokens, values and types that are spelled are read.
use Rattle.std.proofs.Common.{◌≡◌, refl, sym, ap, ◌∙◌, subst, ℕ, zero, suc, ◌+◌, ◌≤◌, nat_le, nat_eq, le-leb, ℤ, pos, negsuc, Bool, true, false, ◌&&◌, List, [], ◌∷◌, ◌++◌, append_assoc, length, codes, bytes_eq, drop, if◌then◌else◌, Option, Some, None, arith}
use Rattle.c_readers.specs.c_tree.declared.types.FunctionType.TheVariants as pointer
use Rattle.c_readers.specs.c_tree.declared.types.ListType.TheVariants as list
use Rattle.c_readers.specs.c_tree.declared.types.ParameterType.{ParameterType}
use Rattle.c_readers.specs.c_tree.declared.types.ParameterType.TheVariants as parameter
use Rattle.c_readers.specs.c_tree.declared.types.ArgumentType.{ArgumentType}
use Rattle.c_readers.specs.c_tree.declared.types.ArgumentType.TheVariants as argument
use Rattle.c_readers.specs.c_tree.Tokens.{Word, Digits, Quoted, Sign, Including, Bad}
use Rattle.c_readers.specs.c_tree.CWords.{AWord, ASign, Next, Stand, Separated, last_item, one_item, function_word, list_word, parameter_tokens, argument_tokens}
use Rattle.c_readers.specs.c_tree.CDeclarationText as text
use Rattle.c_readers.specs.c_tree.CDeclarationText.{IsLength, ReadsValue, ReadsType, ReadsTypes}
use Rattle.c_readers.specs.Readers.{Tokens, Reader, found, refused, ◌>>=◌, lookup, a_sign, a_word, a_name, all_stand}
use Rattle.c_readers.specs.ListReader.{Closes, Goes, Neither, by_separator, separated}
use Rattle.c_readers.specs.ValueReader as reader
use Rattle.c_readers.specs.ValueReader.{by_row, a_number, a_word_of, a_sign_of, is_within, is_length, negative, value, bounded_separator, behind_bounded, bounded}
use Rattle.c_readers.specs.TypeReader.{parameter_words, parameter_type, argument_words, argument_type, argument_types, by_void}
use Rattle.c_readers.specs.grammar.Exactness.{Eventually}
use Rattle.c_grammar_laws.proofs.TokenGood.{equal-self, plain}
use Rattle.c_grammar_laws.proofs.ValueGood.{number-read}
use Rattle.c_grammar_laws.proofs.CallComplete.{Soon, end, items-read}
use Rattle.c_grammar_laws.proofs.ExpressionComplete.{always}

-- ## Tokens

pub sign-read : (sign : List ℕ) (p q : Tokens) → ASign sign p q → a_sign sign p ≡ found tt q
unfolding a_sign
sign-read sign p q is = ap (a_sign sign) is ∙ ap (λ (z : Bool). if z then found tt q else refused (Sign sign ∷ q)) (equal-self sign)

pub word-read : (word : List ℕ) (p q : Tokens) → AWord word p q → a_word word p ≡ found tt q
unfolding a_word
word-read word p q is = ap (a_word word) is ∙ ap (λ (z : Bool). if z then found tt q else refused (Word word ∷ q)) (equal-self word)

pub name-read : (passes : List ℕ → Bool) (name : List ℕ) (p q : Tokens) → passes name ≡ true → AWord name p q → a_name passes p ≡ found name q
unfolding a_name
name-read passes name p q h is = ap (a_name passes) is ∙ ap (λ (z : Bool). if z then found name q else refused (Word name ∷ q)) h

pub stand-read : (wanted p q : Tokens) → plain wanted → Stand wanted p q → all_stand wanted p ≡ found tt q
unfolding all_stand
stand-read [] p q fit is = ap (found tt) is
stand-read (Word word ∷ wanted) p q fit is = rw (word-read word p (wanted ++ q) is) (stand-read wanted (wanted ++ q) q fit refl)
stand-read (Sign sign ∷ wanted) p q fit is = rw (sign-read sign p (wanted ++ q) is) (stand-read wanted (wanted ++ q) q fit refl)
stand-read (Digits n ∷ wanted) p q fit is = absurd fit
stand-read (Quoted bytes ∷ wanted) p q fit is = absurd fit
stand-read (Including ∷ wanted) p q fit is = absurd fit
stand-read (Bad ∷ wanted) p q fit is = absurd fit

pub row-word-read : {A : Type 0} (table : List (List ℕ × A)) (word : List ℕ) (x : A) (p q : Tokens) → lookup word table ≡ Some x → AWord word p q → a_word_of table p ≡ found x q
unfolding a_word_of
row-word-read table word x p q row is = ap (a_word_of table) is ∙ ap (by_row (Word word ∷ q) q) row

pub row-sign-read : {A : Type 0} (table : List (List ℕ × A)) (sign : List ℕ) (x : A) (p q : Tokens) → lookup sign table ≡ Some x → ASign sign p q → a_sign_of table p ≡ found x q
unfolding a_sign_of
row-sign-read table sign x p q row is = ap (a_sign_of table) is ∙ ap (by_row (Sign sign ∷ q) q) row

-- ## Values

pub passes-length : (n : ℕ) → IsLength n → is_length n ≡ true
passes-length n l = ap (λ z. z && is_within n) (le-leb 1 n l.some) ∙ le-leb n 2147483647 l.fits

negated-read : (n : ℕ) (q r : Tokens) → n ≤ 2147483647 → Next (Digits n) q r → reader.negated q ≡ found (negative n) r
unfolding reader.negated
negated-read n q r h is = rw (number-read is_within n q r (le-leb n 2147483647 h) is) refl

least-read : (q r s t u v : Tokens) → ASign (codes "-") q r → Next (Digits 2147483647) r s → ASign (codes "-") s t → Next (Digits 1) t u → ASign (codes ")") u v
    → reader.least q ≡ found (negsuc 2147483647) v
unfolding reader.least
least-read q r s t u v a b c d e =
    rw (sign-read (codes "-") q r a, number-read (nat_eq 2147483647) 2147483647 r s refl b, sign-read (codes "-") s t c, number-read (nat_eq 1) 1 t u refl d, sign-read (codes ")") u v e) refl

pub value-read : (v : ℤ) (p q : Tokens) → ReadsValue v p q → value p ≡ found v q
unfolding value reader.by_value_sign
value-read _ _ _ (text.plain n {p = p} {q = q} h is) = ap value is ∙ ap (λ (z : Bool). if z then found (pos n) q else refused (Digits n ∷ q)) (le-leb n 2147483647 h)
value-read _ _ _ (text.negative n {p = p} {q = q} {r = r} h a is) = ap value a ∙ negated-read (suc n) q r h is
value-read _ _ _ (text.negative_zero {p = p} {q = q} {r = r} a is) = ap value a ∙ negated-read zero q r (omega arith) is
value-read _ _ _ (text.least {p = p} {q = q} {r = r} {s = s} {t = t} {u = u} {v = v} o a b c d e) = ap value o ∙ least-read q r s t u v a b c d e

-- ## Items of which there are so many at most

some-items : {T : Type 0} {Item : T → Tokens → Tokens → Type 0} {closing : List ℕ} {all : List T} {p q : Tokens} → Separated Item closing all p q → 1 ≤ length all
some-items (last_item item closes) = omega arith
some-items (one_item item comma rest) = omega arith

closing-read : {T : Type 0} (again : Reader (List T)) (most : ℕ) (closing : List ℕ) (items : List T) (r : Tokens)
    → behind_bounded again most closing items (Sign closing ∷ r) ≡ found items r
unfolding behind_bounded
closing-read again zero closing items r = ap (λ z. by_separator again items closing r z) (ap (λ (z : Bool). if z then Closes else Neither) (equal-self closing))
closing-read again (suc most) closing items r =
    ap (λ z. by_separator again items closing r z) (ap (λ (z : Bool). if z then Closes else (if bytes_eq closing (codes ",") then Goes else Neither)) (equal-self closing))

comma-read : {T : Type 0} (again : Reader (List T)) (most : ℕ) (closing : List ℕ) (items : List T) (r : Tokens) → bytes_eq (codes ",") closing ≡ false
    → behind_bounded again (suc most) closing items (Sign (codes ",") ∷ r) ≡ again r
unfolding behind_bounded
comma-read again most closing items r apart =
    ap (λ z. by_separator again items (codes ",") r z) (ap (λ (z : Bool). if z then Closes else (if bytes_eq (codes ",") (codes ",") then Goes else Neither)) apart)

module _ {T : Type 0} (Item : T → Tokens → Tokens → Type 0) (closing : List ℕ) (apart : bytes_eq (codes ",") closing ≡ false) (read : Reader T)
    (reads : (one : T) (p q : Tokens) → Item one p q → read p ≡ found one q) where
  pub bounded-read : (most : ℕ) (before all : List T) (p q : Tokens) → Separated Item closing all p q → length all ≤ most → bounded read closing most before p ≡ found (before ++ all) q
  unfolding bounded
  bounded-read zero before _ _ _ (last_item item closes) fits = absurd (let k : 1 ≤ 0 = fits in omega (arith, k))
  bounded-read zero before _ _ _ (one_item {later = later} item comma rest) fits = absurd (let k : suc (length later) ≤ 0 = fits in omega (arith, k))
  bounded-read (suc most) before _ _ _ (last_item {one = one} {p = p} {q = q} {r = r} item closes) fits =
      ap (λ z. z >>= (λ x. behind_bounded (bounded read closing most (before ++ (x ∷ []))) most closing (before ++ (x ∷ [])))) (reads one p q item)
      ∙ (ap (behind_bounded (bounded read closing most (before ++ (one ∷ []))) most closing (before ++ (one ∷ []))) closes
      ∙ closing-read (bounded read closing most (before ++ (one ∷ []))) most closing (before ++ (one ∷ [])) r)
  bounded-read (suc zero) before _ _ _ (one_item {later = later} item comma rest) fits =
      absurd (let k : 1 ≤ length later = some-items rest in let f : suc (length later) ≤ 1 = fits in omega (arith, k, f))
  bounded-read (suc (suc most)) before _ _ _ (one_item {one = one} {later = later} {p = p} {q = q} {r = r} {s = s} item comma rest) fits =
      ap (λ z. z >>= (λ x. behind_bounded (bounded read closing (suc most) (before ++ (x ∷ []))) (suc most) closing (before ++ (x ∷ [])))) (reads one p q item)
      ∙ (ap (behind_bounded (bounded read closing (suc most) (before ++ (one ∷ []))) (suc most) closing (before ++ (one ∷ []))) comma
      ∙ (comma-read (bounded read closing (suc most) (before ++ (one ∷ []))) most closing (before ++ (one ∷ [])) r apart
      ∙ (bounded-read (suc most) (before ++ (one ∷ [])) later r s rest (let f : suc (length later) ≤ suc (suc most) = fits in omega (arith, f))
      ∙ ap (λ z. found z s) (append_assoc before (one ∷ []) later))))

-- ## Types

abbrev parameter_word : ParameterType → List ℕ
parameter_word parameter.Integers = codes "integer"
parameter_word parameter.Logicals = codes "logical"
parameter_word parameter.Chars = codes "char"
parameter_word parameter.Length = codes "ftnlen"
parameter_word parameter.Int = codes "int"
parameter_word (parameter.Function of) = function_word of

abbrev argument_word : ArgumentType → List ℕ
argument_word (argument.Parameter of) = parameter_word of
argument_word (argument.List of) = list_word of
argument_word argument.Addresses = codes "address"

-- a type's first word is in its table, and words and signs stand behind it
record Typed {A : Type 0} (table : List (List ℕ × A)) (of : A) (word : List ℕ) (tokens : Tokens) : Type 0 where
  row : lookup word table ≡ Some of
  whole : tokens ≡ Word word ∷ drop 1 tokens
  fit : plain (drop 1 tokens)

parameter-typed : (of : ParameterType) → Typed parameter_words of (parameter_word of) (parameter_tokens of)
parameter-typed parameter.Integers = record { row = refl; whole = refl; fit = tt }
parameter-typed parameter.Logicals = record { row = refl; whole = refl; fit = tt }
parameter-typed parameter.Chars = record { row = refl; whole = refl; fit = tt }
parameter-typed parameter.Length = record { row = refl; whole = refl; fit = tt }
parameter-typed parameter.Int = record { row = refl; whole = refl; fit = tt }
parameter-typed (parameter.Function pointer.Subroutine) = record { row = refl; whole = refl; fit = tt }
parameter-typed (parameter.Function pointer.Integer) = record { row = refl; whole = refl; fit = tt }
parameter-typed (parameter.Function pointer.Logical) = record { row = refl; whole = refl; fit = tt }
parameter-typed (parameter.Function pointer.Unknown) = record { row = refl; whole = refl; fit = tt }

argument-typed : (of : ArgumentType) → Typed argument_words of (argument_word of) (argument_tokens of)
argument-typed (argument.Parameter parameter.Integers) = record { row = refl; whole = refl; fit = tt }
argument-typed (argument.Parameter parameter.Logicals) = record { row = refl; whole = refl; fit = tt }
argument-typed (argument.Parameter parameter.Chars) = record { row = refl; whole = refl; fit = tt }
argument-typed (argument.Parameter parameter.Length) = record { row = refl; whole = refl; fit = tt }
argument-typed (argument.Parameter parameter.Int) = record { row = refl; whole = refl; fit = tt }
argument-typed (argument.Parameter (parameter.Function pointer.Subroutine)) = record { row = refl; whole = refl; fit = tt }
argument-typed (argument.Parameter (parameter.Function pointer.Integer)) = record { row = refl; whole = refl; fit = tt }
argument-typed (argument.Parameter (parameter.Function pointer.Logical)) = record { row = refl; whole = refl; fit = tt }
argument-typed (argument.Parameter (parameter.Function pointer.Unknown)) = record { row = refl; whole = refl; fit = tt }
argument-typed (argument.List list.Transfer) = record { row = refl; whole = refl; fit = tt }
argument-typed (argument.List list.Internal) = record { row = refl; whole = refl; fit = tt }
argument-typed (argument.List list.Open) = record { row = refl; whole = refl; fit = tt }
argument-typed (argument.List list.Close) = record { row = refl; whole = refl; fit = tt }
argument-typed (argument.List list.Position) = record { row = refl; whole = refl; fit = tt }
argument-typed argument.Addresses = record { row = refl; whole = refl; fit = tt }

-- the first word, and the tokens behind it
first-stands : {A : Type 0} {table : List (List ℕ × A)} {of : A} {word : List ℕ} {tokens : Tokens} (p q : Tokens) → Typed table of word tokens → Stand tokens p q
    → AWord word p (drop 1 tokens ++ q)
first-stands p q t is = is ∙ ap (λ z. z ++ q) t.whole

pub parameter-type-read : (of : ParameterType) (p q : Tokens) → Stand (parameter_tokens of) p q → parameter_type p ≡ found of q
unfolding parameter_type
parameter-type-read of p q is =
    let t = parameter-typed of in
    rw (row-word-read parameter_words (parameter_word of) of p (drop 1 (parameter_tokens of) ++ q) t.row (first-stands p q t is), stand-read (drop 1 (parameter_tokens of)) (drop 1 (parameter_tokens of) ++ q) q t.fit refl) refl

pub argument-type-read : (of : ArgumentType) (p q : Tokens) → ReadsType of p q → argument_type p ≡ found of q
unfolding argument_type
argument-type-read of p q is =
    let t = argument-typed of in
    rw (row-word-read argument_words (argument_word of) of p (drop 1 (argument_tokens of) ++ q) t.row (first-stands p q t is), stand-read (drop 1 (argument_tokens of)) (drop 1 (argument_tokens of) ++ q) q t.fit refl) refl

-- no type begins with `void`
abbrev pub begins_void : Tokens → Bool
begins_void (Word word ∷ more) = bytes_eq word (codes "void")
begins_void other = false

parameter-not-void : (of : ParameterType) → bytes_eq (parameter_word of) (codes "void") ≡ false
parameter-not-void parameter.Integers = refl
parameter-not-void parameter.Logicals = refl
parameter-not-void parameter.Chars = refl
parameter-not-void parameter.Length = refl
parameter-not-void parameter.Int = refl
parameter-not-void (parameter.Function pointer.Subroutine) = refl
parameter-not-void (parameter.Function pointer.Integer) = refl
parameter-not-void (parameter.Function pointer.Logical) = refl
parameter-not-void (parameter.Function pointer.Unknown) = refl

argument-not-void : (of : ArgumentType) → bytes_eq (argument_word of) (codes "void") ≡ false
argument-not-void (argument.Parameter of) = parameter-not-void of
argument-not-void (argument.List list.Transfer) = refl
argument-not-void (argument.List list.Internal) = refl
argument-not-void (argument.List list.Open) = refl
argument-not-void (argument.List list.Close) = refl
argument-not-void (argument.List list.Position) = refl
argument-not-void argument.Addresses = refl

pub parameter-no-void : (of : ParameterType) (p q : Tokens) → Stand (parameter_tokens of) p q → begins_void p ≡ false
parameter-no-void of p q is = ap begins_void (first-stands p q (parameter-typed of) is) ∙ parameter-not-void of

argument-no-void : (of : ArgumentType) (p q : Tokens) → ReadsType of p q → begins_void p ≡ false
argument-no-void of p q is = ap begins_void (first-stands p q (argument-typed of) is) ∙ argument-not-void of

types-no-void : {types : List ArgumentType} {p q : Tokens} → Separated ReadsType (codes ")") types p q → begins_void p ≡ false
types-no-void (last_item {one = one} {p = p} {q = q} item closes) = argument-no-void one p q item
types-no-void (one_item {one = one} {p = p} {q = q} item comma rest) = argument-no-void one p q item

some-argument-types : (count : ℕ) (p : Tokens) → begins_void p ≡ false → argument_types count p ≡ separated argument_type (codes ")") count [] p
unfolding argument_types by_void
some-argument-types count [] h = refl
some-argument-types count (Word word ∷ more) h = ap (λ z. by_void count word more z) h
some-argument-types count (Sign sign ∷ more) h = refl
some-argument-types count (Digits n ∷ more) h = refl
some-argument-types count (Quoted bytes ∷ more) h = refl
some-argument-types count (Including ∷ more) h = refl
some-argument-types count (Bad ∷ more) h = refl

void-read : (count : ℕ) (p q r : Tokens) → AWord (codes "void") p q → ASign (codes ")") q r → argument_types count p ≡ found [] r
unfolding argument_types by_void
void-read count p q r void closes = ap (argument_types count) void ∙ rw (sign-read (codes ")") q r closes) refl

type-item-read : (last : Bool) (one : ArgumentType) (p q : Tokens) → ReadsType one p (Sign (end ReadsType (codes ")") refl (λ nests. argument_type) last) ∷ q)
    → Eventually (λ nests. argument_type p ≡ found one (Sign (end ReadsType (codes ")") refl (λ nests. argument_type) last) ∷ q))
type-item-read last one p q item = always (λ nests. argument-type-read one p (Sign (end ReadsType (codes ")") refl (λ nests. argument_type) last) ∷ q) item)

pub argument-types-read : (types : List ArgumentType) (p q : Tokens) → ReadsTypes types p q → Eventually (λ count. argument_types count p ≡ found types q)
argument-types-read _ _ _ (text.no_type {p = p} {q = q} {r = r} void closes) = always (λ count. void-read count p q r void closes)
argument-types-read _ _ _ (text.some_types {types = types} {p = p} {q = q} items) =
    let s = items-read ReadsType (codes ")") refl (λ nests. argument_type) type-item-read [] types p q items in
    record { first = s.first; holds = λ count h. some-argument-types count p (types-no-void items) ∙ s.holds count count h h }
