-- The words of a text by its first byte.
use Rattle.std.proofs.Common.{◌≡◌, ℕ, suc, ◌+◌, Bool, true, false, List, [], ◌∷◌, take, drop, refl, sym, ap, subst, ◌∙◌, arith}
use Rattle.std.specs.Prelude.{if◌then◌else◌}
use Rattle.std.specs.List.{list_all, prefix_len}
use Rattle.std.proofs.lemmas.Bool.{and_from}
use Rattle.std.proofs.lemmas.List.{take-append-drop}
use Rattle.c_tree.specs.Tokens.{begins_with, is_word_byte}
use Rattle.prototype_laws.specs.Reading.{words}
use Rattle.prototype_laws.proofs.WordLemmas.{words-sign, words-word}

-- the longest run of bytes of words that begins a text has so many of them
record IsRun (text : List ℕ) (n : ℕ) : Type 0 where
  each : list_all is_word_byte (take n text) ≡ true
  ends : begins_with is_word_byte (drop n text) ≡ false

longer : (x : ℕ) (xs : List ℕ) (m : ℕ) (t : Bool) → is_word_byte x ≡ t → IsRun xs m → IsRun (x ∷ xs) (if t then 1 + m else 0)
longer x xs m true h r =
    let e : suc m ≡ 1 + m = omega arith in
    subst (IsRun (x ∷ xs)) e (record { each = and_from (is_word_byte x) (list_all is_word_byte (take m xs)) h r.each; ends = r.ends })
longer x xs m false h r = record { each = refl; ends = h }

run : (text : List ℕ) → IsRun text (prefix_len is_word_byte text)
run [] = record { each = refl; ends = refl }
run (x ∷ xs) = longer x xs (prefix_len is_word_byte xs) (is_word_byte x) refl (run xs)

first : (b : ℕ) (behind : List ℕ) (m : ℕ) → is_word_byte b ≡ true → IsRun behind m → words (b ∷ behind) ≡ (b ∷ take m behind) ∷ words (drop m behind)
first b behind m h r =
    ap (λ t. words (b ∷ t)) (sym (take-append-drop m behind)) ∙ words-word b (take m behind) (drop m behind) h r.each r.ends

-- a word at the front of a text
pub words-first : (b : ℕ) (behind : List ℕ) (n : ℕ) → is_word_byte b ≡ true → n ≡ prefix_len is_word_byte (b ∷ behind)
    → words (b ∷ behind) ≡ take n (b ∷ behind) ∷ words (drop n (b ∷ behind))
words-first b behind n h is =
    let m = prefix_len is_word_byte behind in
    let e : n ≡ 1 + m = is ∙ ap (λ t. if t then 1 + m else 0) h in
    let d : suc m ≡ n = omega arith in
    subst (λ k. words (b ∷ behind) ≡ take k (b ∷ behind) ∷ words (drop k (b ∷ behind))) d (first b behind m h (run behind))

pub words-none : words [] ≡ []
unfolding words
words-none = refl

pub ruleset word_steps = (words-first, words-sign, words-none)
