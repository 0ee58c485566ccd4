-- Words of a check, one after the other.
use Rattle.std.specs.Prelude.{◌≡◌, ℕ, suc, ◌+◌, ◌<◌, ◌≤◌, Bool, true, false, List, length, drop, Option, Some, None, if◌then◌else◌}
use Rattle.std.proofs.Common.{sym, ap, ◌∙◌}
use Rattle.std.proofs.lemmas.List.{drop_all}
use Rattle.f2c_outside.specs.Texts.{word_at}
use Rattle.command_words.specs.CommandWords.{is_some_file, first_unchecked}
use Rattle.command_words.proofs.WordLemmas.{plus_one, there, the_word}

-- a check goes on with a word
step : (words : List (List ℕ)) (passed : ℕ) (b : Bool) → passed < length words → is_some_file (word_at (passed + 1) words) ≡ b →
    first_unchecked (passed + 1) (drop passed words) ≡ (if b then first_unchecked (suc (passed + 1)) (drop (suc passed) words) else Some (passed + 1))
unfolding first_unchecked
step words passed b within is =
    let w = the_word words passed within in
    ap (first_unchecked (passed + 1)) (there words passed w.word w.at)
    ∙ ap (λ t. if t then first_unchecked (suc (passed + 1)) (drop (suc passed) words) else Some (passed + 1)) (sym (ap is_some_file w.numbered) ∙ is)

pub goes_on : (words : List (List ℕ)) (passed : ℕ) (all : Option ℕ) → passed < length words → is_some_file (word_at (passed + 1) words) ≡ true →
    all ≡ first_unchecked (passed + 1) (drop passed words) → all ≡ first_unchecked (passed + 1 + 1) (drop (passed + 1) words)
goes_on words passed all within on is =
    is ∙ step words passed true within on ∙ ap (λ n. first_unchecked n (drop (suc passed) words)) (sym (plus_one (passed + 1)))
    ∙ ap (λ n. first_unchecked (passed + 1 + 1) (drop n words)) (sym (plus_one passed))

pub stops : (words : List (List ℕ)) (passed : ℕ) (all : Option ℕ) → passed < length words → is_some_file (word_at (passed + 1) words) ≡ false →
    all ≡ first_unchecked (passed + 1) (drop passed words) → Some (passed + 1) ≡ all
stops words passed all within on is = sym (is ∙ step words passed false within on)

pub ends : (words : List (List ℕ)) (passed : ℕ) (all : Option ℕ) → length words ≤ passed → all ≡ first_unchecked (passed + 1) (drop passed words) → None ≡ all
unfolding first_unchecked
ends words passed all past is = sym (is ∙ ap (first_unchecked (passed + 1)) (drop_all passed words past))
