-- A part of a file that is not too long is not too long.
use Rattle.std.proofs.Common.{◌≡◌, ℕ, zero, suc, ◌≤◌, ◌<◌, Bool, true, false, List, [], ◌∷◌, length, take, drop, sym, ap, subst, ◌∙◌, arith, Some, None, inl, inr}
use Rattle.std.specs.Prelude.{◌==◌, ◌⊎◌, nat_lt, if◌then◌else◌}
use Rattle.std.proofs.lemmas.Bool.{cases_Bool, cases_lt, lt-ltb, le-ltb}
use Rattle.std.proofs.lemmas.List.{take-append-drop, length-take, length-drop}
use Rattle.fortran_text.specs.FirstFault.{most_bytes, most_cards, card_of_byte, lesser, too_long}
use Rattle.fortran_text.specs.Lines.{before_lines, lines}
use Rattle.cards.proofs.LineLemmas.{lines-end, lines-inner}
use Rattle.cards.proofs.LimitLemmas.{lines_grow}

-- how many bytes and cards a file has that is not too long
pub record IsShort (xs : List ℕ) : Type 0 where
  pub bytes : length xs ≤ most_bytes
  pub cards : length (lines xs) ≤ most_cards

pub short_of_limit : (xs : List ℕ) → too_long xs ≡ None → IsShort xs
unfolding too_long lesser
short_of_limit xs h = by_tests (cases_lt most_cards (length (lines xs))) (cases_lt most_bytes (length xs))
  where
    by_tests : (most_cards < length (lines xs)) ⊎ (length (lines xs) ≤ most_cards) → (most_bytes < length xs) ⊎ (length xs ≤ most_bytes) → IsShort xs
    by_tests (inl many) long =
        let some : lesser (Some (suc most_cards)) (if nat_lt most_bytes (length xs) then Some (card_of_byte (suc most_bytes) xs) else None) ≡ None =
        ap (λ b. lesser (if b then Some (suc most_cards) else None) (if nat_lt most_bytes (length xs) then Some (card_of_byte (suc most_bytes) xs) else None))
        (sym (lt-ltb most_cards (length (lines xs)) many)) ∙ h in
        absurd (never (suc most_cards) (nat_lt most_bytes (length xs)) some)
      where
        never : (n : ℕ) (b : Bool) → lesser (Some n) (if b then Some (card_of_byte (suc most_bytes) xs) else None) ≡ None → ⊥
        never n true e = cc e
        never n false e = cc e
    by_tests (inr few) (inl long) =
        let some : lesser None (Some (card_of_byte (suc most_bytes) xs)) ≡ None =
        ap (λ b. lesser (if b then Some (suc most_cards) else None) (Some (card_of_byte (suc most_bytes) xs))) (sym (le-ltb most_cards (length (lines xs)) few))
        ∙ ap (λ b. lesser (if nat_lt most_cards (length (lines xs)) then Some (suc most_cards) else None) (if b then Some (card_of_byte (suc most_bytes) xs) else None))
        (sym (lt-ltb most_bytes (length xs) long)) ∙ h in
        absurd (cc some)
    by_tests (inr few) (inr short) = record { bytes = short; cards = few }

pub limit_of_short : (xs : List ℕ) → IsShort xs → too_long xs ≡ None
unfolding too_long lesser
limit_of_short xs h =
    ap (λ b. lesser (if b then Some (suc most_cards) else None) (if nat_lt most_bytes (length xs) then Some (card_of_byte (suc most_bytes) xs) else None))
    (le-ltb most_cards (length (lines xs)) h.cards)
    ∙ ap (λ b. lesser None (if b then Some (card_of_byte (suc most_bytes) xs) else None)) (le-ltb most_bytes (length xs) h.bytes)

-- how many lines a part of a text has
before_more : (b : ℕ) (ls : List (List ℕ)) → length ls ≤ length (before_lines b ls)
unfolding before_lines
before_more b [] = omega arith
before_more b (l ∷ ls) = omega arith

lines_less : (b : ℕ) (rest : List ℕ) → (b == 10 ≡ true) ⊎ (b == 10 ≡ false) → length (lines rest) ≤ length (lines (b ∷ rest))
lines_less b rest (inl e) = omega (arith, ap length (lines-end b rest e))
lines_less b rest (inr e) = omega (arith, ap length (lines-inner b rest e), before_more b (lines rest))

lines_drop : (n : ℕ) (xs : List ℕ) → length (lines (drop n xs)) ≤ length (lines xs)
lines_drop zero xs = omega arith
lines_drop (suc n) [] = omega arith
lines_drop (suc n) (b ∷ rest) = omega (arith, lines_drop n rest, lines_less b rest (cases_Bool (b == 10)))

pub lines_take : (n : ℕ) (xs : List ℕ) → length (lines (take n xs)) ≤ length (lines xs)
lines_take n xs = subst (λ l. length (lines (take n xs)) ≤ length (lines l)) (take-append-drop n xs) (lines_grow (take n xs) (drop n xs))

pub short_front : (n : ℕ) (xs : List ℕ) → too_long xs ≡ None → too_long (take n xs) ≡ None
short_front n xs h =
    let short = short_of_limit xs h in
    limit_of_short (take n xs) (record { bytes = omega (arith, short.bytes, length-take n xs); cards = omega (arith, short.cards, lines_take n xs) })

pub short_rest : (n : ℕ) (xs : List ℕ) → too_long xs ≡ None → too_long (drop n xs) ≡ None
short_rest n xs h =
    let short = short_of_limit xs h in
    limit_of_short (drop n xs) (record { bytes = omega (arith, short.bytes, length-drop n xs); cards = omega (arith, short.cards, lines_drop n xs) })
