-- Words of a run, one after the other.
use Rattle.std.specs.Prelude.{◌≡◌, ℕ, zero, suc, ◌+◌, ◌≤◌, Bool, true, false, List, [], ◌∷◌, length, drop, slice_get, Option, Some, None, if◌then◌else◌}
use Rattle.std.proofs.Common.{sym, ap, ◌∙◌, arith}
use Rattle.std.proofs.lemmas.List.{drop_all}
use Rattle.f2c_outside.specs.Texts.{word_at}
use Rattle.run_words.specs.declared.request.RunRequest.{RunRequest}
use Rattle.run_words.specs.RunWords.{asked_by, first_other, with_word}
use Rattle.run_words.specs.RunWords as words_of

plus_one : (n : ℕ) → n + 1 ≡ suc n
plus_one n = omega arith

there : (words : List (List ℕ)) (k : ℕ) (word : List ℕ) → slice_get words k ≡ Some word → drop k words ≡ word ∷ drop (suc k) words
there [] k word is = absurd (cc)
there (w ∷ words) zero word is = let same : w ≡ word = cc in ap (λ z. z ∷ words) same
there (w ∷ words) (suc k) word is = there words k word is

standing : (words : List (List ℕ)) (passed : ℕ) (word : List ℕ) → word_at (passed + 1) words ≡ Some word → drop passed words ≡ word ∷ drop (suc passed) words
standing words passed word is = there words passed word (ap (λ n. word_at n words) (sym (plus_one passed)) ∙ is)

asked_step : (request : RunRequest) (word : List ℕ) (later : List (List ℕ)) (b : Bool) → words_of.goes_on request word ≡ b →
    asked_by request (word ∷ later) ≡ (if b then asked_by (with_word request word) later else request)
unfolding asked_by
asked_step request word later b is = ap (λ t. if t then asked_by (with_word request word) later else request) is

other_step : (number : ℕ) (request : RunRequest) (word : List ℕ) (later : List (List ℕ)) (b : Bool) → words_of.goes_on request word ≡ b →
    first_other number request (word ∷ later) ≡ (if b then first_other (suc number) (with_word request word) later else Some number)
unfolding first_other
other_step number request word later b is = ap (λ t. if t then first_other (suc number) (with_word request word) later else Some number) is

-- with a word more
pub goes_on : (words : List (List ℕ)) (passed : ℕ) (word : List ℕ) (request more all : RunRequest) (other : Option ℕ) → word_at (passed + 1) words ≡ Some word →
    words_of.goes_on request word ≡ true → more ≡ with_word request word →
    all ≡ asked_by request (drop passed words) → other ≡ first_other (passed + 1) request (drop passed words) →
    (all ≡ asked_by more (drop (passed + 1) words)) × (other ≡ first_other (passed + 1 + 1) more (drop (passed + 1) words))
goes_on words passed word request more all other at on made is others = (
  is ∙ (ap (asked_by request) (standing words passed word at) ∙ (asked_step request word (drop (suc passed) words) true on
      ∙ (ap (λ n. asked_by (with_word request word) (drop n words)) (sym (plus_one passed)) ∙ ap (λ r. asked_by r (drop (passed + 1) words)) (sym made)))),
  others ∙ (ap (first_other (passed + 1) request) (standing words passed word at) ∙ (other_step (passed + 1) request word (drop (suc passed) words) true on
      ∙ (ap (λ n. first_other (suc (passed + 1)) (with_word request word) (drop n words)) (sym (plus_one passed))
      ∙ (ap (λ n. first_other n (with_word request word) (drop (passed + 1) words)) (sym (plus_one (passed + 1))) ∙ ap (λ r. first_other (passed + 1 + 1) r (drop (passed + 1) words)) (sym made))))),
)

-- at a word with which no run goes on
pub stops : (words : List (List ℕ)) (passed : ℕ) (word : List ℕ) (request all : RunRequest) (other : Option ℕ) → word_at (passed + 1) words ≡ Some word →
    words_of.goes_on request word ≡ false →
    all ≡ asked_by request (drop passed words) → other ≡ first_other (passed + 1) request (drop passed words) →
    (request ≡ all) × (Some (passed + 1) ≡ other)
stops words passed word request all other at off is others = (
  sym (is ∙ (ap (asked_by request) (standing words passed word at) ∙ asked_step request word (drop (suc passed) words) false off)),
  sym (others ∙ (ap (first_other (passed + 1) request) (standing words passed word at) ∙ other_step (passed + 1) request word (drop (suc passed) words) false off)),
)

-- behind the last
pub ends : (words : List (List ℕ)) (passed : ℕ) (request all : RunRequest) (other : Option ℕ) → length words ≤ passed →
    all ≡ asked_by request (drop passed words) → other ≡ first_other (passed + 1) request (drop passed words) →
    (request ≡ all) × (None ≡ other)
unfolding asked_by first_other
ends words passed request all other past is others = (
  sym (is ∙ ap (asked_by request) (drop_all passed words past)),
  sym (others ∙ ap (first_other (passed + 1) request) (drop_all passed words past)),
)
