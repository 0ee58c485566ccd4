-- Words of a command line, one after the other.
use Rattle.std.specs.Prelude.{◌≡◌, ℕ, zero, suc, ◌+◌, ◌<◌, ◌≤◌, Bool, true, false, ◌||◌, bytes_eq, List, [], ◌∷◌, ◌++◌, length, take, drop, slice_get, Option, Some, None, if◌then◌else◌}
use Rattle.std.specs.List.{list_any}
use Rattle.std.proofs.Common.{refl, sym, ap, ◌∙◌, arith}
use Rattle.std.proofs.lemmas.List.{drop_all, take_all}
use Rattle.f2c_outside.specs.Texts.{word_at}
use Rattle.output_names.specs.OutputNames.{have_one_output}
use Rattle.command_words.specs.CommandWords.{is_the_word, has_word, gives_its_output, goes_on_with, first_other}

pub plus_one : (n : ℕ) → n + 1 ≡ suc n
plus_one n = omega arith

pub there : (words : List (List ℕ)) (k : ℕ) (word : List ℕ) → slice_get words k ≡ Some word → drop k words ≡ word ∷ drop (suc k) words
there [] k word is = absurd (cc)
there (w ∷ words) zero word is = let same : w ≡ word = cc in ap (λ z. z ∷ words) same
there (w ∷ words) (suc k) word is = there words k word is

taken : (words : List (List ℕ)) (k : ℕ) (word : List ℕ) → slice_get words k ≡ Some word → take k words ++ word ∷ [] ≡ take (suc k) words
taken [] k word is = absurd (cc)
taken (w ∷ words) zero word is = let same : w ≡ word = cc in ap (λ z. z ∷ []) (sym same)
taken (w ∷ words) (suc k) word is = ap (λ ws. w ∷ ws) (taken words k word is)

-- the word with a number is there
never : (ws : List (List ℕ)) (k : ℕ) → k < length ws → slice_get ws k ≡ None → ⊥
never [] k less at = absurd (omega (arith, less))
never (w ∷ ws) zero less at = absurd (cc)
never (w ∷ ws) (suc k) less at = never ws k (omega (arith, less)) at

pub record IsWordAt (words : List (List ℕ)) (passed : ℕ) : Type 0 where
  pub word : List ℕ
  pub at : slice_get words passed ≡ Some word
  pub numbered : word_at (passed + 1) words ≡ Some word

pub the_word : (words : List (List ℕ)) (passed : ℕ) → passed < length words → IsWordAt words passed
the_word words passed within = by (slice_get words passed) refl
  where
    by : (found : Option (List ℕ)) → slice_get words passed ≡ found → IsWordAt words passed
    by (Some word) at = record { word = word; at = at; numbered = ap (λ n. word_at n words) (plus_one passed) ∙ at }
    by None at = absurd (never words passed within at)

step : (words : List (List ℕ)) (passed : ℕ) (b : Bool) → passed < length words → goes_on_with (take passed words) (word_at (passed + 1) words) ≡ b →
    first_other (passed + 1) (take passed words) (drop passed words)
    ≡ (if b then first_other (suc (passed + 1)) (take (suc passed) words) (drop (suc passed) words) else Some (passed + 1))
unfolding first_other
step words passed b within is =
    let w = the_word words passed within in
    ap (first_other (passed + 1) (take passed words)) (there words passed w.word w.at)
    ∙ ap (λ t. if t then first_other (suc (passed + 1)) (take passed words ++ w.word ∷ []) (drop (suc passed) words) else Some (passed + 1))
    (sym (ap (goes_on_with (take passed words)) w.numbered) ∙ is)
    ∙ ap (λ before. if b then first_other (suc (passed + 1)) before (drop (suc passed) words) else Some (passed + 1)) (taken words passed w.word w.at)

pub goes_on : (words : List (List ℕ)) (passed : ℕ) (all : Option ℕ) → passed < length words → goes_on_with (take passed words) (word_at (passed + 1) words) ≡ true →
    all ≡ first_other (passed + 1) (take passed words) (drop passed words) →
    (passed + 1 ≤ length words) × (all ≡ first_other (passed + 1 + 1) (take (passed + 1) words) (drop (passed + 1) words))
goes_on words passed all within on is = (
  omega (arith, within),
  is ∙ step words passed true within on ∙ ap (λ n. first_other n (take (suc passed) words) (drop (suc passed) words)) (sym (plus_one (passed + 1)))
      ∙ ap (λ n. first_other (passed + 1 + 1) (take n words) (drop n words)) (sym (plus_one passed)),
)

pub stops : (words : List (List ℕ)) (passed : ℕ) (all : Option ℕ) → passed < length words → goes_on_with (take passed words) (word_at (passed + 1) words) ≡ false →
    all ≡ first_other (passed + 1) (take passed words) (drop passed words) → Some (passed + 1) ≡ all
stops words passed all within on is = sym (is ∙ step words passed false within on)

pub ends : (words : List (List ℕ)) (passed : ℕ) (all : Option ℕ) → length words ≤ passed → all ≡ first_other (passed + 1) (take passed words) (drop passed words) → None ≡ all
unfolding first_other
ends words passed all past is = sym (is ∙ ap (first_other (passed + 1) (take passed words)) (drop_all passed words past))

-- A TEST of each word

any_more : (P : List ℕ → Bool) (words : List (List ℕ)) (k : ℕ) (word : List ℕ) → slice_get words k ≡ Some word → list_any P (take k words) ≡ false → P word ≡ false →
    list_any P (take (suc k) words) ≡ false
any_more P [] k word at none is = absurd (cc)
any_more P (w ∷ words) zero word at none is = let same : w ≡ word = cc in ap (λ b. b || false) (ap P same ∙ is)
any_more P (w ∷ words) (suc k) word at none is = by (P w) refl none (λ rest. any_more P words k word at rest is)
  where
    by : (b : Bool) → P w ≡ b → (P w || list_any P (take k words)) ≡ false → (list_any P (take k words) ≡ false → list_any P (take (suc k) words) ≡ false) →
        (P w || list_any P (take (suc k) words)) ≡ false
    by true its none rest = absurd (cc)
    by false its none rest = ap (λ c. c || list_any P (take (suc k) words)) its ∙ rest (sym (ap (λ c. c || list_any P (take k words)) its) ∙ none)

any_found : (P : List ℕ → Bool) (words : List (List ℕ)) (count k : ℕ) (word : List ℕ) → k < count → slice_get words k ≡ Some word → P word ≡ true →
    list_any P (take count words) ≡ true
any_found P words zero k word within at is = absurd (omega (arith, within))
any_found P [] (suc count) k word within at is = absurd (cc)
any_found P (w ∷ words) (suc count) zero word within at is =
    let same : w ≡ word = cc in ap (λ b. b || list_any P (take count words)) (ap P same ∙ is)
any_found P (w ∷ words) (suc count) (suc k) word within at is = by (P w) (any_found P words count k word (omega (arith, within)) at is)
  where
    by : (b : Bool) → list_any P (take count words) ≡ true → (b || list_any P (take count words)) ≡ true
    by true rest = refl
    by false rest = rest

pub found_by : (P : List ℕ → Bool) (test : Option (List ℕ) → Bool) (words : List (List ℕ)) (count passed : ℕ) → ((word : List ℕ) → test (Some word) ≡ P word) → passed < count →
    count ≤ length words → test (word_at (passed + 1) words) ≡ true → list_any P (take count words) ≡ true
found_by P test words count passed same within low is =
    let w = the_word words passed (omega (arith, within, low)) in
    any_found P words count passed w.word within w.at (sym (same w.word) ∙ (sym (ap test w.numbered) ∙ is))

pub passed_by : (P : List ℕ → Bool) (test : Option (List ℕ) → Bool) (words : List (List ℕ)) (passed : ℕ) → ((word : List ℕ) → test (Some word) ≡ P word) → passed < length words →
    test (word_at (passed + 1) words) ≡ false → list_any P (take passed words) ≡ false → list_any P (take (passed + 1) words) ≡ false
passed_by P test words passed same within is none =
    let w = the_word words passed within in
    ap (λ n. list_any P (take n words)) (plus_one passed) ∙ any_more P words passed w.word w.at none (sym (same w.word) ∙ (sym (ap test w.numbered) ∙ is))

-- one of the words is this one
pub word_found : (word : List ℕ) (words : List (List ℕ)) (passed : ℕ) → passed < length words → is_the_word word (word_at (passed + 1) words) ≡ true →
    has_word word words ≡ true
word_found word words passed within is =
    sym (ap (list_any (bytes_eq word)) (take_all (length words) words (omega arith)))
    ∙ found_by (bytes_eq word) (is_the_word word) words (length words) passed (λ other. refl) within (omega arith) is

pub word_passed : (word : List ℕ) (words : List (List ℕ)) (passed : ℕ) → passed < length words → is_the_word word (word_at (passed + 1) words) ≡ false →
    list_any (bytes_eq word) (take passed words) ≡ false → list_any (bytes_eq word) (take (passed + 1) words) ≡ false
word_passed word words passed within is none = passed_by (bytes_eq word) (is_the_word word) words passed (λ other. refl) within is none

pub word_nowhere : (word : List ℕ) (words : List (List ℕ)) (passed : ℕ) → length words ≤ passed → list_any (bytes_eq word) (take passed words) ≡ false →
    has_word word words ≡ false
word_nowhere word words passed past none = sym (ap (list_any (bytes_eq word)) (take_all passed words past)) ∙ none

-- one of the first words has the output name of this one
pub name_found : (word : List ℕ) (words : List (List ℕ)) (count passed : ℕ) → passed < count → count ≤ length words →
    gives_its_output word (word_at (passed + 1) words) ≡ true → list_any (have_one_output word) (take count words) ≡ true
name_found word words count passed within low is = found_by (have_one_output word) (gives_its_output word) words count passed (λ other. refl) within low is

pub name_passed : (word : List ℕ) (words : List (List ℕ)) (count passed : ℕ) → passed < count → count ≤ length words →
    gives_its_output word (word_at (passed + 1) words) ≡ false → list_any (have_one_output word) (take passed words) ≡ false →
    list_any (have_one_output word) (take (passed + 1) words) ≡ false
name_passed word words count passed within low is none =
    passed_by (have_one_output word) (gives_its_output word) words passed (λ other. refl) (omega (arith, within, low)) is none

pub name_nowhere : (word : List ℕ) (words : List (List ℕ)) (count passed : ℕ) → passed ≤ count → count ≤ passed →
    list_any (have_one_output word) (take passed words) ≡ false → list_any (have_one_output word) (take count words) ≡ false
name_nowhere word words count passed low past none =
    let same : count ≡ passed = omega (arith, low, past) in ap (λ n. list_any (have_one_output word) (take n words)) same ∙ none
