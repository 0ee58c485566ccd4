-- Numbers, strings, rows of tables and values are read as they stand.
use Rattle.std.proofs.Common.{◌≡◌, refl, sym, ap, ◌∙◌, subst, ℕ, zero, suc, ◌≤◌, nat_le, nat_eq, leb-true, ℤ, pos, negsuc, Bool, true, false, ◌&&◌, List, [], ◌∷◌, codes, if◌then◌else◌, Option, Some, None, arith}
use Rattle.std.proofs.lemmas.Bool.Decides.{nat_tests}
use Rattle.c_readers.specs.c_tree.Tokens.{Word, Digits, Quoted, Sign}
use Rattle.c_readers.specs.c_tree.CWords.{Next, AWord, ASign}
use Rattle.c_readers.specs.c_tree.CDeclarationText as text
use Rattle.c_readers.specs.c_tree.CDeclarationText.{ReadsValue}
use Rattle.c_readers.specs.Readers.{Tokens, found, refused, lookup}
use Rattle.c_readers.specs.ValueReader as reader
use Rattle.c_readers.specs.ValueReader.{a_number, a_quoted, by_row, a_word_of, a_sign_of, is_within, negative, ValueLead, Negation, Least, value_leads, value}
use Rattle.c_readers.specs.grammar.Exactness.{Filled, Judged, Good}
use Rattle.c_readers.proofs.grammar.Judging.{in_turn, refuses, refuses-end, takes-one, good-found, good-as, behind-token, judged-fewer}
use Rattle.c_grammar_laws.proofs.TokenGood.{OneSign, good-sign}
use Rattle.c_grammar_laws.proofs.ExpressionTables.{AllRows, row-found}

-- ## A number that passes a test that some number passes

pub record OneNumber (passes : ℕ → Bool) (n : ℕ) (p q : Tokens) : Type 0 where
  pub passed : passes n ≡ true
  pub is : Next (Digits n) p q

number-able : (passes : ℕ → Bool) (some : ℕ) → passes some ≡ true → Filled (OneNumber passes) []
number-able passes some h = record { later = Digits some ∷ []; tree = some; spelled = λ behind. record { passed = h; is = refl } }

number-judged : (nests : ℕ) (passes : ℕ → Bool) (some : ℕ) → passes some ≡ true → (tokens : Tokens) → Judged nests (OneNumber passes) (a_number passes) tokens (a_number passes tokens)
unfolding a_number
number-judged nests passes some able [] = refuses-end nests (number-able passes some able) refl
number-judged nests passes some able (Digits n ∷ more) = by (passes n) refl
  where
    by : (does : Bool) → passes n ≡ does → Judged nests (OneNumber passes) (a_number passes) (Digits n ∷ more) (if does then found n more else refused (Digits n ∷ more))
    by true h = takes-one nests n (Digits n) more (λ p. record { passed = h; is = refl }) (λ p. ap (λ (z : Bool). if z then found n p else refused (Digits n ∷ p)) h)
    by false h = refuses nests (Digits n) more (number-able passes some able) (λ p. ap (λ (z : Bool). if z then found n p else refused (Digits n ∷ p)) h)
number-judged nests passes some able (token ∷ more) = refuses nests token more (number-able passes some able) (λ p. refl)

pub good-number : {nests : ℕ} (passes : ℕ → Bool) (some : ℕ) → passes some ≡ true → Good nests (OneNumber passes) (a_number passes) (a_number passes)
good-number {nests = nests} passes some able = record { able = number-able passes some able; judged = number-judged nests passes some able }

pub number-read : (passes : ℕ → Bool) (n : ℕ) (p q : Tokens) → passes n ≡ true → Next (Digits n) p q → a_number passes p ≡ found n q
unfolding a_number
number-read passes n p q h is = ap (a_number passes) is ∙ ap (λ (z : Bool). if z then found n q else refused (Digits n ∷ q)) h

-- ## A string that passes a test that some string passes

pub record OneQuoted (passes : List ℕ → Bool) (bytes : List ℕ) (p q : Tokens) : Type 0 where
  pub passed : passes bytes ≡ true
  pub is : Next (Quoted bytes) p q

quoted-able : (passes : List ℕ → Bool) (some : List ℕ) → passes some ≡ true → Filled (OneQuoted passes) []
quoted-able passes some h = record { later = Quoted some ∷ []; tree = some; spelled = λ behind. record { passed = h; is = refl } }

quoted-judged : (nests : ℕ) (passes : List ℕ → Bool) (some : List ℕ) → passes some ≡ true → (tokens : Tokens)
    → Judged nests (OneQuoted passes) (a_quoted passes) tokens (a_quoted passes tokens)
unfolding a_quoted
quoted-judged nests passes some able [] = refuses-end nests (quoted-able passes some able) refl
quoted-judged nests passes some able (Quoted bytes ∷ more) = by (passes bytes) refl
  where
    by : (does : Bool) → passes bytes ≡ does
        → Judged nests (OneQuoted passes) (a_quoted passes) (Quoted bytes ∷ more) (if does then found bytes more else refused (Quoted bytes ∷ more))
    by true h = takes-one nests bytes (Quoted bytes) more (λ p. record { passed = h; is = refl }) (λ p. ap (λ (z : Bool). if z then found bytes p else refused (Quoted bytes ∷ p)) h)
    by false h = refuses nests (Quoted bytes) more (quoted-able passes some able) (λ p. ap (λ (z : Bool). if z then found bytes p else refused (Quoted bytes ∷ p)) h)
quoted-judged nests passes some able (token ∷ more) = refuses nests token more (quoted-able passes some able) (λ p. refl)

pub good-quoted : {nests : ℕ} (passes : List ℕ → Bool) (some : List ℕ) → passes some ≡ true → Good nests (OneQuoted passes) (a_quoted passes) (a_quoted passes)
good-quoted {nests = nests} passes some able = record { able = quoted-able passes some able; judged = quoted-judged nests passes some able }

pub quoted-read : (passes : List ℕ → Bool) (bytes : List ℕ) (p q : Tokens) → passes bytes ≡ true → Next (Quoted bytes) p q → a_quoted passes p ≡ found bytes q
unfolding a_quoted
quoted-read passes bytes p q h is = ap (a_quoted passes) is ∙ ap (λ (z : Bool). if z then found bytes q else refused (Quoted bytes ∷ q)) h

-- ## A word or a sign of a table

module _ {A : Type 0} (table : List (List ℕ × A)) where
  pub record RowWord (x : A) (p q : Tokens) : Type 0 where
    pub word : List ℕ
    pub row : lookup word table ≡ Some x
    pub is : AWord word p q

  pub record RowSign (x : A) (p q : Tokens) : Type 0 where
    pub sign : List ℕ
    pub row : lookup sign table ≡ Some x
    pub is : ASign sign p q

  module _ (some : List ℕ) (first : A) (there : lookup some table ≡ Some first) where
    row-word-able : Filled RowWord []
    row-word-able = record { later = Word some ∷ []; tree = first; spelled = λ behind. record { word = some; row = there; is = refl } }

    row-sign-able : Filled RowSign []
    row-sign-able = record { later = Sign some ∷ []; tree = first; spelled = λ behind. record { sign = some; row = there; is = refl } }

    by-word : (nests : ℕ) (word : List ℕ) (more : Tokens) (o : Option A) → lookup word table ≡ o
        → Judged nests RowWord (a_word_of table) (Word word ∷ more) (by_row (Word word ∷ more) more o)
    unfolding a_word_of
    by-word nests word more (Some x) h = takes-one nests x (Word word) more (λ p. record { word = word; row = h; is = refl }) (λ p. ap (by_row (Word word ∷ p) p) h)
    by-word nests word more None h = refuses nests (Word word) more row-word-able (λ p. ap (by_row (Word word ∷ p) p) h)

    row-word-judged : (nests : ℕ) (tokens : Tokens) → Judged nests RowWord (a_word_of table) tokens (a_word_of table tokens)
    unfolding a_word_of
    row-word-judged nests [] = refuses-end nests row-word-able refl
    row-word-judged nests (Word word ∷ more) = by-word nests word more (lookup word table) refl
    row-word-judged nests (token ∷ more) = refuses nests token more row-word-able (λ p. refl)

    pub good-word-of : {nests : ℕ} → Good nests RowWord (a_word_of table) (a_word_of table)
    good-word-of {nests = nests} = record { able = row-word-able; judged = row-word-judged nests }

    by-sign : (nests : ℕ) (sign : List ℕ) (more : Tokens) (o : Option A) → lookup sign table ≡ o
        → Judged nests RowSign (a_sign_of table) (Sign sign ∷ more) (by_row (Sign sign ∷ more) more o)
    unfolding a_sign_of
    by-sign nests sign more (Some x) h = takes-one nests x (Sign sign) more (λ p. record { sign = sign; row = h; is = refl }) (λ p. ap (by_row (Sign sign ∷ p) p) h)
    by-sign nests sign more None h = refuses nests (Sign sign) more row-sign-able (λ p. ap (by_row (Sign sign ∷ p) p) h)

    row-sign-judged : (nests : ℕ) (tokens : Tokens) → Judged nests RowSign (a_sign_of table) tokens (a_sign_of table tokens)
    unfolding a_sign_of
    row-sign-judged nests [] = refuses-end nests row-sign-able refl
    row-sign-judged nests (Sign sign ∷ more) = by-sign nests sign more (lookup sign table) refl
    row-sign-judged nests (token ∷ more) = refuses nests token more row-sign-able (λ p. refl)

    pub good-sign-of : {nests : ℕ} → Good nests RowSign (a_sign_of table) (a_sign_of table)
    good-sign-of {nests = nests} = record { able = row-sign-able; judged = row-sign-judged nests }

-- ## Values

both-true : (a b : Bool) → (a && b) ≡ true → (a ≡ true) × (b ≡ true)
both-true true b h = (refl, h)
both-true false b h = absurd (let e : false ≡ true = h in cc)

pub is-within : (n : ℕ) → is_within n ≡ true → n ≤ 2147483647
is-within n h = leb-true n 2147483647 h

same-number : (m n : ℕ) → nat_eq m n ≡ true → n ≡ m
same-number m n h = grind (arith, nat_tests, h)

negative-spelled : (n : ℕ) (q r : Tokens) → is_within n ≡ true → Next (Digits n) q r → ReadsValue (negative n) (Sign (codes "-") ∷ q) r
negative-spelled zero q r h is = text.negative_zero refl is
negative-spelled (suc n) q r h is = text.negative n (is-within (suc n) h) refl is

-- a value behind its first sign
abbrev LedValue : List ℕ → ℤ → Tokens → Tokens → Type 0
LedValue sign v p q = ReadsValue v (Sign sign ∷ p) q

good-negated : {nests : ℕ} → Good nests (LedValue (codes "-")) reader.negated reader.negated
unfolding reader.negated
good-negated =
    in_turn {First = OneNumber is_within} (good-number is_within 0 refl)
    (λ n. good-found (negative n) (λ q p number. negative-spelled n p q number.passed number.is))

good-least : {nests : ℕ} → Good nests (LedValue (codes "(")) reader.least reader.least
unfolding reader.least
good-least =
    in_turn {First = OneSign (codes "-")} (good-sign (codes "-"))
    (λ u. in_turn {First = OneNumber (nat_eq 2147483647)} (good-number (nat_eq 2147483647) 2147483647 refl)
    (λ m. in_turn {First = OneSign (codes "-")} (good-sign (codes "-"))
    (λ v. in_turn {First = OneNumber (nat_eq 1)} (good-number (nat_eq 1) 1 refl)
    (λ n. in_turn {First = OneSign (codes ")")} (good-sign (codes ")"))
    (λ w. good-found (negsuc 2147483647) (λ p6 p5 closes p4 second p3 minus p2 first p1 sign.
    text.least refl sign (first.is ∙ ap (λ z. Digits z ∷ p3) (same-number 2147483647 m first.passed)) minus
    (second.is ∙ ap (λ z. Digits z ∷ p5) (same-number 1 n second.passed)) closes))))))

value-able : Filled ReadsValue []
value-able = record { later = Digits 0 ∷ []; tree = pos 0; spelled = λ behind. text.plain 0 (omega arith) refl }

-- which sign a value begins with
abbrev IsLead : List ℕ → ValueLead → Type 0
IsLead sign Negation = sign ≡ codes "-"
IsLead sign Least = sign ≡ codes "("

leads-are : AllRows IsLead value_leads
leads-are = (refl, (refl, tt))

by-value-sign : (nests : ℕ) (sign : List ℕ) (more : Tokens) (o : Option ValueLead) → lookup sign value_leads ≡ o
    → Judged nests ReadsValue value (Sign sign ∷ more) (reader.by_value_sign sign more o)
unfolding value reader.by_value_sign
by-value-sign nests sign more (Some Negation) h =
    let is = row-found IsLead sign Negation value_leads leads-are h in
    judged-fewer ReadsValue value nests (suc nests) (Sign sign ∷ more) (omega arith) (reader.negated more)
    (behind-token (LedValue (codes "-")) ReadsValue reader.negated value nests (Sign sign) more (λ v p q spelled. subst (λ z. ReadsValue v (Sign z ∷ p) q) (sym is) spelled)
    (λ p. ap (reader.by_value_sign sign p) h) (reader.negated more) (good-negated.judged more))
by-value-sign nests sign more (Some Least) h =
    let is = row-found IsLead sign Least value_leads leads-are h in
    judged-fewer ReadsValue value nests (suc nests) (Sign sign ∷ more) (omega arith) (reader.least more)
    (behind-token (LedValue (codes "(")) ReadsValue reader.least value nests (Sign sign) more (λ v p q spelled. subst (λ z. ReadsValue v (Sign z ∷ p) q) (sym is) spelled)
    (λ p. ap (reader.by_value_sign sign p) h) (reader.least more) (good-least.judged more))
by-value-sign nests sign more None h = refuses nests (Sign sign) more value-able (λ p. ap (reader.by_value_sign sign p) h)

value-judged : (nests : ℕ) (tokens : Tokens) → Judged nests ReadsValue value tokens (value tokens)
unfolding value
value-judged nests [] = refuses-end nests value-able refl
value-judged nests (Digits n ∷ more) = by (is_within n) refl
  where
    by : (does : Bool) → is_within n ≡ does → Judged nests ReadsValue value (Digits n ∷ more) (if does then found (pos n) more else refused (Digits n ∷ more))
    by true h = takes-one nests (pos n) (Digits n) more (λ p. text.plain n (is-within n h) refl) (λ p. ap (λ (z : Bool). if z then found (pos n) p else refused (Digits n ∷ p)) h)
    by false h = refuses nests (Digits n) more value-able (λ p. ap (λ (z : Bool). if z then found (pos n) p else refused (Digits n ∷ p)) h)
value-judged nests (Sign sign ∷ more) = by-value-sign nests sign more (lookup sign value_leads) refl
value-judged nests (token ∷ more) = refuses nests token more value-able (λ p. refl)

pub good-value : {nests : ℕ} → Good nests ReadsValue value value
good-value {nests = nests} = record { able = value-able; judged = value-judged nests }
