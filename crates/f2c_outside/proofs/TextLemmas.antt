-- Lemmas on words that are counted from 1.
use Rattle.std.proofs.Common.{◌≡◌, ℕ, zero, suc, ◌-◌, ◌<◌, ◌≤◌, List, length, map, get_or, Some, None, option_map, refl, ap, ◌∙◌, arith, sub-one}
use Rattle.std.proofs.lemmas.Option.{slice_get-map, slice_get_read, slice_get_past}
use Rattle.f2c_outside.specs.Texts.{word_at}

pub word_at-found :
    {X : Type 0} (f : X → List ℕ) (words : List X) (n : ℕ) (word : X)
    → 0 < n
    → n ≤ length words
    → word ≡ get_or words (n - 1) word
    → word_at n (map f words) ≡ Some (f word)
word_at-found f words zero word some within is = absurd (omega arith)
word_at-found f words (suc k) word some within is =
    slice_get-map f words k
    ∙ ap (option_map f) (slice_get_read words (length words) k word refl (omega arith) (rw sub-one at is))

pub word_at-past : (words : List (List ℕ)) (n : ℕ) → length words < n → word_at n words ≡ None
word_at-past words zero past = absurd (omega arith)
word_at-past words (suc k) past = slice_get_past words k (omega arith)
