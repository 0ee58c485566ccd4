-- Words, signs and names are read as they stand.
use Rattle.std.proofs.Common.{◌≡◌, refl, ap, ◌∙◌, ℕ, Bool, true, false, List, [], ◌∷◌, bytes_eq, if◌then◌else◌}
use Rattle.std.proofs.lemmas.Slice.Eq.{bytes_eq-Decides}
use Rattle.c_readers.specs.c_tree.Tokens.{Word, Digits, Quoted, Sign, Including, Bad}
use Rattle.c_readers.specs.c_tree.CWords.{AWord, ASign, Stand}
use Rattle.c_readers.specs.Readers.{Tokens, found, refused, a_sign, a_word, a_name, all_stand}
use Rattle.c_readers.specs.grammar.Exactness.{Filled, Judged, Good}
use Rattle.c_readers.proofs.grammar.Judging.{in_turn, refuses, refuses-end, takes-one, good-found, good-as}

pub equal-texts : (one other : List ℕ) → bytes_eq one other ≡ true → one ≡ other
equal-texts one other h = (bytes_eq-Decides one other).0 h

-- ## A sign

abbrev pub OneSign : List ℕ → Unit {0} → Tokens → Tokens → Type 0
OneSign text u p q = ASign text p q

sign-able : (text : List ℕ) → Filled (OneSign text) []
sign-able text = record { later = Sign text ∷ []; tree = tt; spelled = λ behind. refl }

sign-judged : (nests : ℕ) (text : List ℕ) (tokens : Tokens) → Judged nests (OneSign text) (a_sign text) tokens (a_sign text tokens)
unfolding a_sign
sign-judged nests text [] = refuses-end nests (sign-able text) refl
sign-judged nests text (Sign other ∷ more) = by (bytes_eq other text) refl
  where
    by : (same : Bool) → bytes_eq other text ≡ same → Judged nests (OneSign text) (a_sign text) (Sign other ∷ more) (if same then found tt more else refused (Sign other ∷ more))
    by true h = takes-one nests tt (Sign other) more (λ p. ap (λ z. Sign z ∷ p) (equal-texts other text h)) (λ p. ap (λ (z : Bool). if z then found tt p else refused (Sign other ∷ p)) h)
    by false h = refuses nests (Sign other) more (sign-able text) (λ p. ap (λ (z : Bool). if z then found tt p else refused (Sign other ∷ p)) h)
sign-judged nests text (token ∷ more) = refuses nests token more (sign-able text) (λ p. refl)

pub good-sign : {nests : ℕ} (text : List ℕ) → Good nests (OneSign text) (a_sign text) (a_sign text)
good-sign {nests = nests} text = record { able = sign-able text; judged = sign-judged nests text }

-- ## A word

abbrev pub OneWord : List ℕ → Unit {0} → Tokens → Tokens → Type 0
OneWord text u p q = AWord text p q

word-able : (text : List ℕ) → Filled (OneWord text) []
word-able text = record { later = Word text ∷ []; tree = tt; spelled = λ behind. refl }

word-judged : (nests : ℕ) (text : List ℕ) (tokens : Tokens) → Judged nests (OneWord text) (a_word text) tokens (a_word text tokens)
unfolding a_word
word-judged nests text [] = refuses-end nests (word-able text) refl
word-judged nests text (Word other ∷ more) = by (bytes_eq other text) refl
  where
    by : (same : Bool) → bytes_eq other text ≡ same → Judged nests (OneWord text) (a_word text) (Word other ∷ more) (if same then found tt more else refused (Word other ∷ more))
    by true h = takes-one nests tt (Word other) more (λ p. ap (λ z. Word z ∷ p) (equal-texts other text h)) (λ p. ap (λ (z : Bool). if z then found tt p else refused (Word other ∷ p)) h)
    by false h = refuses nests (Word other) more (word-able text) (λ p. ap (λ (z : Bool). if z then found tt p else refused (Word other ∷ p)) h)
word-judged nests text (token ∷ more) = refuses nests token more (word-able text) (λ p. refl)

pub good-word : {nests : ℕ} (text : List ℕ) → Good nests (OneWord text) (a_word text) (a_word text)
good-word {nests = nests} text = record { able = word-able text; judged = word-judged nests text }

-- ## A name that passes a test that some name passes

pub record OneName (passes : List ℕ → Bool) (text : List ℕ) (p q : Tokens) : Type 0 where
  pub passed : passes text ≡ true
  pub is : AWord text p q

name-able : (passes : List ℕ → Bool) (some : List ℕ) → passes some ≡ true → Filled (OneName passes) []
name-able passes some h = record { later = Word some ∷ []; tree = some; spelled = λ behind. record { passed = h; is = refl } }

name-judged : (nests : ℕ) (passes : List ℕ → Bool) (some : List ℕ) → passes some ≡ true → (tokens : Tokens) → Judged nests (OneName passes) (a_name passes) tokens (a_name passes tokens)
unfolding a_name
name-judged nests passes some able [] = refuses-end nests (name-able passes some able) refl
name-judged nests passes some able (Word text ∷ more) = by (passes text) refl
  where
    by : (does : Bool) → passes text ≡ does → Judged nests (OneName passes) (a_name passes) (Word text ∷ more) (if does then found text more else refused (Word text ∷ more))
    by true h = takes-one nests text (Word text) more (λ p. record { passed = h; is = refl }) (λ p. ap (λ (z : Bool). if z then found text p else refused (Word text ∷ p)) h)
    by false h = refuses nests (Word text) more (name-able passes some able) (λ p. ap (λ (z : Bool). if z then found text p else refused (Word text ∷ p)) h)
name-judged nests passes some able (token ∷ more) = refuses nests token more (name-able passes some able) (λ p. refl)

pub good-name : {nests : ℕ} (passes : List ℕ → Bool) (some : List ℕ) → passes some ≡ true → Good nests (OneName passes) (a_name passes) (a_name passes)
good-name {nests = nests} passes some able = record { able = name-able passes some able; judged = name-judged nests passes some able }

-- ## Words and signs, one behind the other

abbrev pub AllStand : Tokens → Unit {0} → Tokens → Tokens → Type 0
AllStand wanted u p q = Stand wanted p q

-- words and signs alone
abbrev pub plain : Tokens → Type 0
plain [] = Unit {0}
plain (Word text ∷ more) = plain more
plain (Sign text ∷ more) = plain more
plain (token ∷ more) = ⊥

pub good-stand : {nests : ℕ} (wanted : Tokens) → plain wanted → Good nests (AllStand wanted) (all_stand wanted) (all_stand wanted)
unfolding all_stand
good-stand [] fit = good-found tt (λ p. refl)
good-stand (Word text ∷ wanted) fit =
    in_turn {First = OneWord text} {Whole = AllStand (Word text ∷ wanted)} (good-word text) (λ u. good-as (λ x p q stand front first. first ∙ ap (λ z. Word text ∷ z) stand) (good-stand wanted fit))
good-stand (Sign text ∷ wanted) fit =
    in_turn {First = OneSign text} {Whole = AllStand (Sign text ∷ wanted)} (good-sign text) (λ u. good-as (λ x p q stand front first. first ∙ ap (λ z. Sign text ∷ z) stand) (good-stand wanted fit))
good-stand (Digits n ∷ wanted) fit = absurd fit
good-stand (Quoted bytes ∷ wanted) fit = absurd fit
good-stand (Including ∷ wanted) fit = absurd fit
good-stand (Bad ∷ wanted) fit = absurd fit

pub equal-self : (text : List ℕ) → bytes_eq text text ≡ true
equal-self text = (bytes_eq-Decides text text).1 refl
