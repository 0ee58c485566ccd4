-- The name of what is read is new.
use Rattle.std.proofs.Common.{◌≡◌, refl, subst, ℕ, Bool, true, false, not, ◌&&◌, if◌then◌else◌, codes, bytes_eq, List, [], ◌∷◌, length, Option, Some, None, Result, Ok, Err, IfOk}
use Rattle.c_tree.specs.declared.types.NumberType.{NumberType}
use Rattle.c_tree.specs.declared.types.ListType.{ListType}
use Rattle.c_tree.specs.declared.declaration.CLocal.{CLocal}
use Rattle.c_tree.specs.declared.declaration.CLocal.TheVariants as local
use Rattle.c_tree.specs.Tokens.{Word, Digits, Quoted, Sign, Including, Bad}
use Rattle.c_tree.specs.CWords.{is_among, is_name}
use Rattle.c_tree.specs.Access.{fields_of}
use Rattle.c_tree.specs.CExpressionText.{Scope}
use Rattle.c_readers.specs.Readers.{Tokens, Outcome, Reader, found, refused, ◌>>=◌, a_sign, a_name}
use Rattle.c_readers.specs.ValueReader.{a_number, a_quoted, a_word_of, a_sign_of, is_length, value, bounded}
use Rattle.c_readers.specs.TypeReader.{result_words, argument_types}
use Rattle.c_readers.specs.DeclarationReader as reader
use Rattle.c_expression_reader.specs.declared.failure.Failure.{Failure}
use Rattle.c_expression_reader.specs.Readings.{Gives}
use Rattle.c_readers.specs.DeclarationReader.{is_new, bracketed, NumberEnd, Bare, Valued, Many, StaticLead, OfNumbers, OfChars, OfList, PlainEnd, Alone, Several, LocalLead, External, Lasting, Numbers, Chars, Addresses}

-- what is read, if something is, passes
abbrev pub Passes : {A : Type 0} → (A → Type 0) → Option (Outcome A) → Type 0
Passes P None = Unit {0}
Passes P (Some (Err rest)) = Unit {0}
Passes P (Some (Ok p)) = P p.0

-- where the last reader's answers pass, so do the whole's
passes-behind : {A B : Type 0} (P : B → Type 0) (first : Option (Outcome A)) (next : A → Reader B) → ((x : A) (rest : Tokens) → Passes P (next x rest)) → Passes P (first >>= next)
passes-behind P None next h = tt
passes-behind P (Some (Err rest)) next h = tt
passes-behind P (Some (Ok p)) next h = h p.0 p.1

-- a name that was read passes the test
passes-name : {B : Type 0} (P : B → Type 0) (new : List ℕ → Bool) (tokens : Tokens) (next : List ℕ → Reader B)
    → ((name : List ℕ) (rest : Tokens) → new name ≡ true → Passes P (next name rest)) → Passes P (a_name new tokens >>= next)
unfolding a_name
passes-name P new [] next h = tt
passes-name P new (Word text ∷ more) next h = by (new text) refl
  where
    by : (does : Bool) → new text ≡ does → Passes P ((if does then found text more else refused (Word text ∷ more)) >>= next)
    by true e = h text more e
    by false e = tt
passes-name P new (Digits n ∷ more) next h = tt
passes-name P new (Quoted bytes ∷ more) next h = tt
passes-name P new (Sign text ∷ more) next h = tt
passes-name P new (Including ∷ more) next h = tt
passes-name P new (Bad ∷ more) next h = tt

-- ## Declarations of one name

-- what holds of all declarations of a name
abbrev OfName : (reader.Declared → Type 0) → List ℕ → Type 0
OfName P name = (one : CLocal) → P (one, name)

static-value : (P : reader.Declared → Type 0) (of : NumberType) (name : List ℕ) → OfName P name → (tokens : Tokens) → Passes P (reader.static_value of name tokens)
unfolding reader.static_value
static-value P of name h tokens = passes-behind P (value tokens) _ (λ v p. passes-behind P (a_sign (codes ";") p) _ (λ u q. h _))

static-numbers : (P : reader.Declared → Type 0) (of : NumberType) (name : List ℕ) → OfName P name → (tokens : Tokens) → Passes P (reader.static_numbers of name tokens)
unfolding reader.static_numbers
static-numbers P of name h tokens =
    passes-behind P (a_number is_length tokens) _
    (λ n p. passes-behind P (a_sign (codes "]") p) _ (λ u q. passes-behind P (reader.numbers n q) _ (λ values r. h _)))

static-number-by : (P : reader.Declared → Type 0) (of : NumberType) (name : List ℕ) → OfName P name → (tokens : Tokens) (end : NumberEnd)
    → Passes P (reader.static_number_by of name tokens end)
unfolding reader.static_number_by
static-number-by P of name h tokens Bare = h _
static-number-by P of name h tokens Valued = static-value P of name h tokens
static-number-by P of name h tokens Many = static-numbers P of name h tokens

static-text : (P : reader.Declared → Type 0) (name : List ℕ) (n : ℕ) → OfName P name → (tokens : Tokens) → Passes P (reader.static_text name n tokens)
unfolding reader.static_text
static-text P name n h tokens = passes-behind P (a_sign (codes "]") tokens) _ (λ u p. passes-behind P (reader.text n p) _ (λ bytes q. h _))

own-length : (P : reader.Declared → Type 0) (name : List ℕ) → OfName P name → (tokens : Tokens) → Passes P (reader.own_length name tokens)
unfolding reader.own_length
own-length P name h tokens =
    passes-behind P (a_sign (codes "=") tokens) _
    (λ u p. passes-behind P (a_quoted (λ bytes. true) p) _ (λ bytes q. passes-behind P (a_sign (codes ";") q) _ (λ v r. h _)))

static-chars-behind : (P : reader.Declared → Type 0) (name : List ℕ) → OfName P name → (tokens : Tokens) → Passes P (reader.static_chars_behind name tokens)
unfolding reader.static_chars_behind
static-chars-behind P name h [] = tt
static-chars-behind P name h (Digits n ∷ more) = by (is_length n)
  where
    by : (does : Bool) → Passes P (if does then reader.static_text name n more else refused (Digits n ∷ more))
    by true = static-text P name n h more
    by false = tt
static-chars-behind P name h (Sign word ∷ more) = by (bytes_eq word (codes "]"))
  where
    by : (does : Bool) → Passes P (if does then reader.own_length name more else refused (Sign word ∷ more))
    by true = own-length P name h more
    by false = tt
static-chars-behind P name h (Word text ∷ more) = tt
static-chars-behind P name h (Quoted bytes ∷ more) = tt
static-chars-behind P name h (Including ∷ more) = tt
static-chars-behind P name h (Bad ∷ more) = tt

plain-number-by : (P : reader.Declared → Type 0) (of : NumberType) (name : List ℕ) → OfName P name → (tokens : Tokens) (end : PlainEnd)
    → Passes P (reader.plain_number_by of name tokens end)
unfolding reader.plain_number_by reader.plain_numbers
plain-number-by P of name h tokens Alone = h _
plain-number-by P of name h tokens Several =
    passes-behind P (a_number is_length tokens) _
    (λ n p. passes-behind P (a_sign (codes "]") p) _ (λ u q. passes-behind P (a_sign (codes ";") q) _ (λ v r. h _)))

-- ## Declarations of a new name

-- the name of a declaration passes a test
abbrev pub Named : (List ℕ → Bool) → reader.Declared → Type 0
Named new d = new d.1 ≡ true

static-list : (scope : Scope) (new : List ℕ → Bool) (of : ListType) (tokens : Tokens) → Passes (Named new) (reader.static_list scope new of tokens)
unfolding reader.static_list
static-list scope new of tokens =
    passes-name (Named new) new tokens _
    (λ name p e. passes-behind (Named new) (a_sign (codes "=") p) _
    (λ u q. passes-behind (Named new) (a_sign (codes "{") q) _
    (λ v r. passes-behind (Named new) (bounded (reader.a_field scope) (codes "}") (length (fields_of of)) [] r) _
    (λ fields s. passes-behind (Named new) (a_sign (codes ";") s) _ (λ w t. e)))))

static-by : (scope : Scope) (new : List ℕ → Bool) (tokens : Tokens) (lead : StaticLead) → Passes (Named new) (reader.static_by scope new tokens lead)
unfolding reader.static_by reader.static_number reader.static_chars
static-by scope new tokens (OfNumbers of) =
    passes-name (Named new) new tokens _
    (λ name p e. passes-behind (Named new) (a_sign_of reader.number_ends p) _ (λ end q. static-number-by (Named new) of name (λ one. e) q end))
static-by scope new tokens OfChars =
    passes-name (Named new) new tokens _
    (λ name p e. passes-behind (Named new) (a_sign (codes "[") p) _ (λ u q. static-chars-behind (Named new) name (λ one. e) q))
static-by scope new tokens (OfList of) = static-list scope new of tokens

an-array : (new : List ℕ → Bool) (made : List ℕ → ℕ → CLocal) (tokens : Tokens) → Passes (Named new) (reader.an_array new made tokens)
unfolding reader.an_array
an-array new made tokens =
    passes-name (Named new) new tokens _
    (λ name p e. passes-behind (Named new) (bracketed p) _ (λ n q. passes-behind (Named new) (a_sign (codes ";") q) _ (λ u r. e)))

extern-named : (new : List ℕ → Bool) (most : ℕ) (tokens : Tokens) → Passes (Named new) (reader.extern new most tokens)
unfolding reader.extern
extern-named new most tokens =
    passes-behind (Named new) (a_word_of result_words tokens) _
    (λ of p. passes-name (Named new) new p _
    (λ name q e. passes-behind (Named new) (a_sign (codes "(") q) _
    (λ u r. passes-behind (Named new) (argument_types most r) _ (λ types s. passes-behind (Named new) (a_sign (codes ";") s) _ (λ v t. e)))))

pub local-named : (scope : Scope) (new : List ℕ → Bool) (most : ℕ) (tokens : Tokens) (lead : LocalLead) → Passes (Named new) (reader.local_by scope new most tokens lead)
unfolding reader.local_by reader.static reader.plain_number
local-named scope new most tokens External = extern-named new most tokens
local-named scope new most tokens Lasting = passes-behind (Named new) (a_word_of reader.static_words tokens) _ (λ lead p. static-by scope new p lead)
local-named scope new most tokens (Numbers of) =
    passes-name (Named new) new tokens _
    (λ name p e. passes-behind (Named new) (a_sign_of reader.plain_ends p) _ (λ end q. plain-number-by (Named new) of name (λ one. e) q end))
local-named scope new most tokens Chars = an-array new local.Chars tokens
local-named scope new most tokens Addresses = an-array new local.Addresses tokens

-- ## What the code gives

both-new : (is listed : Bool) → (is && not listed) ≡ true → listed ≡ false
both-new true true h = absurd (let e : false ≡ true = h in cc)
both-new true false h = refl
both-new false listed h = absurd (let e : false ≡ true = h in cc)

-- a new name is not declared
pub not-declared : (here : List (List ℕ)) (name : List ℕ) → is_new here name ≡ true → is_among name here ≡ false
not-declared here name h = both-new (is_name name) (is_among name here) h

-- the name of a declaration that code reads is not declared
pub fresh-read : {A : Type 0} (here : List (List ℕ)) (seen : A → reader.Declared × Tokens) (result : Result A Failure) (given : Option (Outcome reader.Declared))
    → Gives seen result given → Passes (Named (is_new here)) given → IfOk result (λ x. is_among (seen x).0.1 here ≡ false)
fresh-read here seen (Ok x) given h passes = not-declared here (seen x).0.1 (subst (λ z. Passes (Named (is_new here)) z) h passes)
fresh-read here seen (Err e) given h passes = tt
