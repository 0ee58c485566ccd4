-- Texts without their blanks, and END.
use Rattle.std.proofs.Common.{◌≡◌, ℕ, ◌+◌, ◌*◌, Bool, true, false, List, [], ◌∷◌, map, refl, sym, ap, subst, ◌∙◌, Option, Some, None, inl, inr}
use Rattle.std.specs.Prelude.{◌==◌, ◌⊎◌, ◌&&◌, not, codes}
use Rattle.std.specs.Char.{is_ascii_digit, digit_value, to_ascii_lowercase}
use Rattle.std.specs.List.{list_all}
use Rattle.std.specs.Str.{bytes_eq}
use Rattle.std.proofs.lemmas.Bool.{cases_Bool, eqb-true, ne_eqb, not-true, and_parts}
use Rattle.fortran_text.specs.CharactersOfText.{after, shown, behind, characters_from, characters, text_without_blanks, has_counted, is_end}
use Rattle.fortran_text.specs.declared.characters.Character.{Character}
use Rattle.fortran_text.specs.declared.characters.Standing.TheVariants.{Outside}
use Rattle.cards.specs.Squeezed.{squeezed}

-- texts without blanks, one clause each
squeezed-blank : (c : ℕ) (rest : List ℕ) → c == 32 ≡ true → squeezed (c ∷ rest) ≡ squeezed rest
squeezed-blank c rest h = rw h

squeezed-other : (c : ℕ) (rest : List ℕ) → c == 32 ≡ false → squeezed (c ∷ rest) ≡ to_ascii_lowercase c ∷ squeezed rest
squeezed-other c rest h = rw h

-- the codes of the characters of a text, outside constants
codes_from : Option ℕ → List ℕ → List ℕ
codes_from digits text = map (λ (c : Character). c.code) (characters_from false (Outside digits) text)

codes-nil : (digits : Option ℕ) → codes_from digits [] ≡ []
unfolding codes_from characters_from
codes-nil digits = refl

codes-blank : (digits : Option ℕ) (c : ℕ) (rest : List ℕ) → c == 32 ≡ true → codes_from digits (c ∷ rest) ≡ codes_from digits rest
unfolding codes_from characters_from shown after
codes-blank digits c rest h = rw h

codes_begin : Option ℕ → ℕ → List ℕ → List ℕ
codes_begin digits c rest = map (λ (c : Character). c.code) (characters_from false (after false (Outside digits) c) rest)

codes-other : (digits : Option ℕ) (c : ℕ) (rest : List ℕ) → c == 32 ≡ false → codes_from digits (c ∷ rest) ≡ to_ascii_lowercase c ∷ codes_begin digits c rest
unfolding codes_from codes_begin characters_from shown
codes-other digits c rest h = rw h

behind-some : (digits : Option ℕ) (c : ℕ) → (d : Option ℕ) × (behind false digits c ≡ Outside d)
unfolding behind
behind-some None c = either (cases_Bool (is_ascii_digit c))
  where
    either : (is_ascii_digit c ≡ true) ⊎ (is_ascii_digit c ≡ false) → (d : Option ℕ) × (behind false None c ≡ Outside d)
    either (inl h) = (Some (digit_value c), rw h)
    either (inr h) = (None, rw h)
behind-some (Some n) c = either (cases_Bool (is_ascii_digit c))
  where
    either : (is_ascii_digit c ≡ true) ⊎ (is_ascii_digit c ≡ false) → (d : Option ℕ) × (behind false (Some n) c ≡ Outside d)
    either (inl h) = (Some (n * 10 + digit_value c), rw h)
    either (inr h) = (None, rw h)

codes_behind : (digits : Option ℕ) (c : ℕ) (rest : List ℕ) → c == 32 ≡ false → c == 39 ≡ false → (d : Option ℕ) × (codes_begin digits c rest ≡ codes_from d rest)
unfolding codes_begin codes_from after
codes_behind digits c rest h k =
    let found = behind-some digits c in
    let goes : after false (Outside digits) c ≡ Outside found.0 = rw (h, k) found.1 in
    (found.0, ap (λ s. map (λ (c : Character). c.code) (characters_from false s rest)) goes)

-- A word without an apostrophe is the text without its constants' blanks exactly where it is the text without any blanks.
is_plain : ℕ → Bool
is_plain c = not (c == 39)

apart : (x c : ℕ) (xs ys : List ℕ) → x == c ≡ false → bytes_eq (x ∷ xs) (c ∷ ys) ≡ false
apart x c xs ys h = rw h

word_step : (digits : Option ℕ) (c : ℕ) (rest word : List ℕ)
    → ((d : Option ℕ) (w : List ℕ) → list_all is_plain w ≡ true → bytes_eq (codes_from d rest) w ≡ bytes_eq (squeezed rest) w)
    → list_all is_plain word ≡ true → (c == 32 ≡ true) ⊎ (c == 32 ≡ false) → (c == 39 ≡ true) ⊎ (c == 39 ≡ false)
    → bytes_eq (codes_from digits (c ∷ rest)) word ≡ bytes_eq (squeezed (c ∷ rest)) word
unfolding is_plain
word_step digits c rest word later plain (inl h) k =
    ap (λ l. bytes_eq l word) (codes-blank digits c rest h) ∙ later digits word plain ∙ sym (ap (λ l. bytes_eq l word) (squeezed-blank c rest h))
word_step digits c rest [] later plain (inr h) k =
    ap (λ l. bytes_eq l []) (codes-other digits c rest h) ∙ sym (ap (λ l. bytes_eq l []) (squeezed-other c rest h))
word_step digits c rest (x ∷ word) later plain (inr h) (inl k) =
    let parts = and_parts (is_plain x) (list_all is_plain word) plain in
    let is : c ≡ 39 = eqb-true c 39 k in
    let low : to_ascii_lowercase c ≡ 39 = ap to_ascii_lowercase is in
    let other : to_ascii_lowercase c == x ≡ false = ne_eqb (to_ascii_lowercase c) x (λ e. absurd (plain_is x (not-true (x == 39) parts.0) (sym e ∙ low))) in
    ap (λ l. bytes_eq l (x ∷ word)) (codes-other digits c rest h) ∙ apart (to_ascii_lowercase c) x (codes_begin digits c rest) word other
    ∙ sym (ap (λ l. bytes_eq l (x ∷ word)) (squeezed-other c rest h) ∙ apart (to_ascii_lowercase c) x (squeezed rest) word other)
  where
    plain_is : (x : ℕ) → x == 39 ≡ false → x ≡ 39 → ⊥
    plain_is x no_mark e = let h : 39 == 39 ≡ false = subst (λ w. w == 39 ≡ false) e no_mark in absurd (cc h)
word_step digits c rest (x ∷ word) later plain (inr h) (inr k) =
    let parts = and_parts (is_plain x) (list_all is_plain word) plain in
    let found = codes_behind digits c rest h k in
    ap (λ l. bytes_eq l (x ∷ word)) (codes-other digits c rest h)
    ∙ ap (λ l. bytes_eq (to_ascii_lowercase c ∷ l) (x ∷ word)) found.1
    ∙ ap (λ b. to_ascii_lowercase c == x && b) (later found.0 word parts.1)
    ∙ sym (ap (λ l. bytes_eq l (x ∷ word)) (squeezed-other c rest h))

plain_word : (text : List ℕ) (digits : Option ℕ) (word : List ℕ) → list_all is_plain word ≡ true → bytes_eq (codes_from digits text) word ≡ bytes_eq (squeezed text) word
plain_word [] digits word plain = ap (λ l. bytes_eq l word) (codes-nil digits)
plain_word (c ∷ rest) digits word plain = word_step digits c rest word (λ d w h. plain_word rest d w h) plain (cases_Bool (c == 32)) (cases_Bool (c == 39))

pub end_by_blanks : (text : List ℕ) → is_end text ≡ bytes_eq (squeezed text) (codes "end")
unfolding is_end text_without_blanks characters has_counted codes_from is_plain
end_by_blanks text = plain_word text None (codes "end") refl
