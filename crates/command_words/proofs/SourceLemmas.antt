-- Words of a translation that ask for prototypes, or name a FORTRAN file, one after the other.
use Rattle.std.specs.Prelude.{◌≡◌, ℕ, ◌+◌, ◌<◌, ◌≤◌, true, false, List, length, take}
use Rattle.std.specs.List.{list_any}
use Rattle.std.proofs.Common.{refl, sym, ap, ◌∙◌, arith}
use Rattle.std.proofs.lemmas.List.{take_all}
use Rattle.f2c_outside.specs.Texts.{word_at}
use Rattle.output_names.specs.OutputNames.{is_file_word}
use Rattle.command_words.specs.CommandWords.{is_prototype_option, is_some_asking, is_some_source}
use Rattle.command_words.proofs.WordLemmas.{found_by, passed_by}

pub asking_found : (words : List (List ℕ)) (passed : ℕ) → passed < length words → is_some_asking (word_at (passed + 1) words) ≡ true → list_any is_prototype_option words ≡ true
asking_found words passed within is =
    sym (ap (list_any is_prototype_option) (take_all (length words) words (omega arith)))
    ∙ found_by is_prototype_option is_some_asking words (length words) passed (λ other. refl) within (omega arith) is

pub asking_passed : (words : List (List ℕ)) (passed : ℕ) → passed < length words → is_some_asking (word_at (passed + 1) words) ≡ false →
    list_any is_prototype_option (take passed words) ≡ false → list_any is_prototype_option (take (passed + 1) words) ≡ false
asking_passed words passed within is none = passed_by is_prototype_option is_some_asking words passed (λ other. refl) within is none

pub asking_nowhere : (words : List (List ℕ)) (passed : ℕ) → length words ≤ passed → list_any is_prototype_option (take passed words) ≡ false → list_any is_prototype_option words ≡ false
asking_nowhere words passed past none = sym (ap (list_any is_prototype_option) (take_all passed words past)) ∙ none

pub source_found : (words : List (List ℕ)) (passed : ℕ) → passed < length words → is_some_source (word_at (passed + 1) words) ≡ true → list_any is_file_word words ≡ true
source_found words passed within is =
    sym (ap (list_any is_file_word) (take_all (length words) words (omega arith)))
    ∙ found_by is_file_word is_some_source words (length words) passed (λ other. refl) within (omega arith) is

pub source_passed : (words : List (List ℕ)) (passed : ℕ) → passed < length words → is_some_source (word_at (passed + 1) words) ≡ false →
    list_any is_file_word (take passed words) ≡ false → list_any is_file_word (take (passed + 1) words) ≡ false
source_passed words passed within is none = passed_by is_file_word is_some_source words passed (λ other. refl) within is none

pub source_nowhere : (words : List (List ℕ)) (passed : ℕ) → length words ≤ passed → list_any is_file_word (take passed words) ≡ false → list_any is_file_word words ≡ false
source_nowhere words passed past none = sym (ap (list_any is_file_word) (take_all passed words past)) ∙ none
