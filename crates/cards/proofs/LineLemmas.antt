-- The lines of a text: the first of them, and how many there are.
use Rattle.std.proofs.Common.{◌≡◌, ℕ, zero, suc, ◌+◌, ◌-◌, ◌<◌, Bool, true, false, List, [], ◌∷◌, ◌++◌, length, take, drop, get_or, refl, sym, ap, subst, ◌∙◌, add-one, arith, Some, None, inl, inr}
use Rattle.std.specs.Prelude.{◌==◌, ◌&&◌, ◌||◌, not, slice_index, ◌⊎◌}
use Rattle.std.specs.List.{list_all}
use Rattle.std.specs.Str.{bytes_eq}
use Rattle.std.proofs.lemmas.Bool.{and_parts, cases_Bool, eqb-true, not-true}
use Rattle.std.proofs.lemmas.List.{get_or-take, take-append-drop, drop_more, length-take, take_all}
use Rattle.memchr.specs.Find.{IsFirstByte, is_byte}
use Rattle.fortran_text.specs.Lines.{before_lines, lines, is_line_end, without_end}
use Rattle.cards.specs.Passes.{ends_with}

is_other : ℕ → Bool
is_other b = not (b == 10)

-- lines, one clause each
pub lines-nil : lines [] ≡ []
unfolding lines
lines-nil = refl

pub lines-end : (b : ℕ) (rest : List ℕ) → b == 10 ≡ true → lines (b ∷ rest) ≡ (b ∷ []) ∷ lines rest
unfolding lines
lines-end b rest h = rw h

pub lines-inner : (b : ℕ) (rest : List ℕ) → b == 10 ≡ false → lines (b ∷ rest) ≡ before_lines b (lines rest)
unfolding lines
lines-inner b rest h = rw h

joined : (b : ℕ) (line : List ℕ) (more : List (List ℕ)) → before_lines b (line ∷ more) ≡ (b ∷ line) ∷ more
unfolding before_lines
joined b line more = refl

begun_alone : (b : ℕ) → before_lines b [] ≡ (b ∷ []) ∷ []
unfolding before_lines
begun_alone b = refl

begun : (b : ℕ) (ls : List (List ℕ)) → 0 < length (before_lines b ls)
unfolding before_lines
begun b [] = omega arith
begun b (l ∷ ls) = omega arith

lines_begin : (b : ℕ) (rest : List ℕ) → (b == 10 ≡ true) ⊎ (b == 10 ≡ false) → 0 < length (lines (b ∷ rest))
lines_begin b rest (inl ended) = omega (arith, ap length (lines-end b rest ended))
lines_begin b rest (inr other) = omega (arith, ap length (lines-inner b rest other), begun b (lines rest))

pub some_line : (b : ℕ) (rest : List ℕ) → 0 < length (lines (b ∷ rest))
some_line b rest = lines_begin b rest (cases_Bool (b == 10))

-- the first line, where a line feed ends it, and where it is the last
lines_line : (line rest : List ℕ) → list_all is_other line ≡ true → lines (line ++ 10 ∷ rest) ≡ (line ++ 10 ∷ []) ∷ lines rest
unfolding is_other
lines_line [] rest h = lines-end 10 rest refl
lines_line (b ∷ line) rest h =
    let parts = and_parts (is_other b) (list_all is_other line) h in
    lines-inner b (line ++ 10 ∷ rest) (not-true (b == 10) parts.0) ∙ ap (λ w. before_lines b w) (lines_line line rest parts.1) ∙ joined b (line ++ 10 ∷ []) (lines rest)

lines_last : (line : List ℕ) → list_all is_other line ≡ true → 0 < length line → lines line ≡ line ∷ []
unfolding is_other
lines_last [] h some = absurd (omega arith)
lines_last (b ∷ []) h some =
    let parts = and_parts (is_other b) true h in
    lines-inner b [] (not-true (b == 10) parts.0) ∙ ap (λ w. before_lines b w) lines-nil ∙ begun_alone b
lines_last (b ∷ c ∷ line) h some =
    let parts = and_parts (is_other b) (list_all is_other (c ∷ line)) h in
    lines-inner b (c ∷ line) (not-true (b == 10) parts.0) ∙ ap (λ w. before_lines b w) (lines_last (c ∷ line) parts.1 (omega arith)) ∙ joined b (c ∷ line) []

-- a byte that stands at no place
all_other : (xs : List ℕ) → ((j : ℕ) → j < length xs → slice_index xs j == 10 ≡ true → ⊥) → list_all is_other xs ≡ true
unfolding is_other
all_other [] h = refl
all_other (x ∷ xs) h = both (cases_Bool (x == 10)) (all_other xs (λ j low at. h (suc j) (omega arith) at))
  where
    both : (x == 10 ≡ true) ⊎ (x == 10 ≡ false) → list_all is_other xs ≡ true → list_all is_other (x ∷ xs) ≡ true
    both (inl same) rest = absurd (h 0 (omega arith) same)
    both (inr other) rest = rw other rest

whole_at : (xs : List ℕ) (k : ℕ) → k < length xs → slice_index xs k == 10 ≡ true → xs ≡ take k xs ++ 10 ∷ drop (k + 1) xs
whole_at xs k low at =
    let here : get_or xs k 0 ≡ 10 = eqb-true (get_or xs k 0) 10 at in
    sym (take-append-drop k xs) ∙ ap (λ w. take k xs ++ w) (drop_more xs k 0 low) ∙ ap (λ w. take k xs ++ w ∷ drop (k + 1) xs) here

front_end : (xs : List ℕ) (k : ℕ) → k < length xs → slice_index xs k == 10 ≡ true → take (suc k) xs ≡ take k xs ++ 10 ∷ []
front_end [] k low at = absurd (omega arith)
front_end (x ∷ xs) zero low at = let here : x ≡ 10 = eqb-true x 10 at in ap (λ w. w ∷ []) here
front_end (x ∷ xs) (suc k) low at = ap (λ w. x ∷ w) (front_end xs k (omega arith) at)

-- the first line by a search
pub line_found : (xs : List ℕ) (k : ℕ) → IsFirstByte (is_byte 10) xs (Some k) → lines xs ≡ take (k + 1) xs ∷ lines (drop (k + 1) xs)
line_found xs k h =
    let before = all_other (take k xs) (λ j low at. h.0.before j (omega (arith, length-take k xs)) (omega (arith, length-take k xs)) (subst (λ w. w == 10 ≡ true)
    (get_or-take k xs j 0 (omega (arith, length-take k xs))) at)) in
    ap lines (whole_at xs k h.0.high h.1) ∙ lines_line (take k xs) (drop (k + 1) xs) before
    ∙ ap (λ w. w ∷ lines (drop (k + 1) xs)) (sym (ap (λ w. take w xs) (add-one k) ∙ front_end xs k h.0.high h.1))

drop_whole : (xs : List ℕ) → drop (length xs) xs ≡ []
drop_whole [] = refl
drop_whole (x ∷ xs) = drop_whole xs

pub line_alone : (xs : List ℕ) → 0 < length xs → IsFirstByte (is_byte 10) xs None → lines xs ≡ take (length xs) xs ∷ lines (drop (length xs) xs)
line_alone xs some h =
    lines_last xs (all_other xs (λ j low at. h j (omega arith) low at)) some
    ∙ ap (λ w. w ∷ []) (sym (take_all (length xs) xs (omega arith)))
    ∙ ap (λ w. take (length xs) xs ∷ w) (sym (ap lines (drop_whole xs) ∙ lines-nil))

-- the byte that ends a text
pub ends_with-last : (c : ℕ) (xs : List ℕ) → 0 < length xs → ends_with c xs ≡ (get_or xs (length xs - 1) 0 == c)
unfolding ends_with
ends_with-last c [] some = absurd (omega arith)
ends_with-last c (b ∷ []) some = refl
ends_with-last c (b ∷ d ∷ more) some =
    let e : (length (b ∷ d ∷ more) - 1) ≡ suc (length (d ∷ more) - 1) = omega arith in
    ends_with-last c (d ∷ more) (omega arith) ∙ ap (λ w. get_or (b ∷ d ∷ more) w 0 == c) (sym e)

pub ends_with-nil : (c : ℕ) → ends_with c [] ≡ false
unfolding ends_with
ends_with-nil c = refl

pub ends_with-some : (c : ℕ) (xs : List ℕ) → ends_with c xs ≡ true → 0 < length xs
unfolding ends_with
ends_with-some c [] h = absurd (cc)
ends_with-some c (b ∷ more) h = omega arith

-- a text without its last byte
front : List ℕ → List ℕ
front [] = []
front (b ∷ []) = []
front (b ∷ c ∷ more) = b ∷ front (c ∷ more)

front-is : (xs : List ℕ) → take (length xs - 1) xs ≡ front xs
unfolding front
front-is [] = refl
front-is (b ∷ []) = refl
front-is (b ∷ c ∷ more) =
    let e : (length (b ∷ c ∷ more) - 1) ≡ suc (length (c ∷ more) - 1) = omega arith in
    ap (λ w. take w (b ∷ c ∷ more)) e ∙ ap (λ w. b ∷ w) (front-is (c ∷ more))

-- the end of a line
trimmed : Bool → Bool → List ℕ → List ℕ
trimmed false back xs = xs
trimmed true true xs = front (front xs)
trimmed true false xs = front xs

end_one : (b : ℕ) → is_line_end (b ∷ []) ≡ (b == 10)
unfolding is_line_end
end_one b = either (cases_Bool (b == 10)) (cases_Bool (b == 13))
  where
    either : (b == 10 ≡ true) ⊎ (b == 10 ≡ false) → (b == 13 ≡ true) ⊎ (b == 13 ≡ false) → (bytes_eq (b ∷ []) (10 ∷ []) || bytes_eq (b ∷ []) (13 ∷ 10 ∷ [])) ≡ (b == 10)
    either (inl h) k = rw h
    either (inr h) (inl k) = rw (h, k)
    either (inr h) (inr k) = rw (h, k)

end_two : (b c : ℕ) → is_line_end (b ∷ c ∷ []) ≡ (b == 13 && c == 10)
unfolding is_line_end
end_two b c = either (cases_Bool (b == 10)) (cases_Bool (b == 13)) (cases_Bool (c == 10))
  where
    either : (b == 10 ≡ true) ⊎ (b == 10 ≡ false) → (b == 13 ≡ true) ⊎ (b == 13 ≡ false) → (c == 10 ≡ true) ⊎ (c == 10 ≡ false)
        → (bytes_eq (b ∷ c ∷ []) (10 ∷ []) || bytes_eq (b ∷ c ∷ []) (13 ∷ 10 ∷ [])) ≡ (b == 13 && c == 10)
    either (inl h) (inl k) (inl m) = rw (h, k, m)
    either (inl h) (inl k) (inr m) = rw (h, k, m)
    either (inl h) (inr k) m = rw (h, k)
    either (inr h) (inl k) (inl m) = rw (h, k, m)
    either (inr h) (inl k) (inr m) = rw (h, k, m)
    either (inr h) (inr k) m = rw (h, k)

end_more : (b c d : ℕ) (more : List ℕ) → is_line_end (b ∷ c ∷ d ∷ more) ≡ false
unfolding is_line_end
end_more b c d more = either (cases_Bool (b == 10)) (cases_Bool (b == 13)) (cases_Bool (c == 10))
  where
    either : (b == 10 ≡ true) ⊎ (b == 10 ≡ false) → (b == 13 ≡ true) ⊎ (b == 13 ≡ false) → (c == 10 ≡ true) ⊎ (c == 10 ≡ false)
        → (bytes_eq (b ∷ c ∷ d ∷ more) (10 ∷ []) || bytes_eq (b ∷ c ∷ d ∷ more) (13 ∷ 10 ∷ [])) ≡ false
    either (inl h) (inl k) (inl m) = rw (h, k, m)
    either (inl h) (inl k) (inr m) = rw (h, k, m)
    either (inl h) (inr k) m = rw (h, k)
    either (inr h) (inl k) (inl m) = rw (h, k, m)
    either (inr h) (inl k) (inr m) = rw (h, k, m)
    either (inr h) (inr k) m = rw (h, k)

end-true : (b : ℕ) (rest : List ℕ) → is_line_end (b ∷ rest) ≡ true → without_end (b ∷ rest) ≡ []
unfolding without_end
end-true b rest h = rw h

end-false : (b : ℕ) (rest : List ℕ) → is_line_end (b ∷ rest) ≡ false → without_end (b ∷ rest) ≡ b ∷ without_end rest
unfolding without_end
end-false b rest h = rw h

end-nil : without_end [] ≡ []
unfolding without_end
end-nil = refl

trims : (xs : List ℕ) → without_end xs ≡ trimmed (ends_with 10 xs) (ends_with 13 (front xs)) xs
unfolding ends_with front trimmed
trims [] = end-nil
trims (b ∷ []) = either (cases_Bool (b == 10))
  where
    either : (b == 10 ≡ true) ⊎ (b == 10 ≡ false) → without_end (b ∷ []) ≡ trimmed (b == 10) false (b ∷ [])
    either (inl h) = end-true b [] (end_one b ∙ h) ∙ sym (ap (λ w. trimmed w false (b ∷ [])) h)
    either (inr h) = end-false b [] (end_one b ∙ h) ∙ ap (λ w. b ∷ w) end-nil ∙ sym (ap (λ w. trimmed w false (b ∷ [])) h)
trims (b ∷ c ∷ []) = either (cases_Bool (b == 13)) (cases_Bool (c == 10))
  where
    last : (c == 10 ≡ true) ⊎ (c == 10 ≡ false) → without_end (c ∷ []) ≡ trimmed (c == 10) false (c ∷ [])
    last (inl h) = end-true c [] (end_one c ∙ h) ∙ sym (ap (λ w. trimmed w false (c ∷ [])) h)
    last (inr h) = end-false c [] (end_one c ∙ h) ∙ ap (λ w. c ∷ w) end-nil ∙ sym (ap (λ w. trimmed w false (c ∷ [])) h)

    either : (b == 13 ≡ true) ⊎ (b == 13 ≡ false) → (c == 10 ≡ true) ⊎ (c == 10 ≡ false) → without_end (b ∷ c ∷ []) ≡ trimmed (c == 10) (b == 13) (b ∷ c ∷ [])
    either (inl h) (inl k) = end-true b (c ∷ []) (end_two b c ∙ ap (λ w. w && c == 10) h ∙ k) ∙ sym (ap (λ w. trimmed w (b == 13) (b ∷ c ∷ [])) k
        ∙ ap (λ w. trimmed true w (b ∷ c ∷ [])) h)
    either (inl h) (inr k) =
        end-false b (c ∷ []) (end_two b c ∙ ap (λ w. w && c == 10) h ∙ k) ∙ ap (λ w. b ∷ w) (last (inr k) ∙ ap (λ w. trimmed w false (c ∷ [])) k)
        ∙ sym (ap (λ w. trimmed w (b == 13) (b ∷ c ∷ [])) k)
    either (inr h) (inl k) =
        end-false b (c ∷ []) (end_two b c ∙ ap (λ w. w && c == 10) h) ∙ ap (λ w. b ∷ w) (last (inl k) ∙ ap (λ w. trimmed w false (c ∷ [])) k)
        ∙ sym (ap (λ w. trimmed w (b == 13) (b ∷ c ∷ [])) k ∙ ap (λ w. trimmed true w (b ∷ c ∷ [])) h)
    either (inr h) (inr k) =
        end-false b (c ∷ []) (end_two b c ∙ ap (λ w. w && c == 10) h) ∙ ap (λ w. b ∷ w) (last (inr k) ∙ ap (λ w. trimmed w false (c ∷ [])) k)
        ∙ sym (ap (λ w. trimmed w (b == 13) (b ∷ c ∷ [])) k)
trims (b ∷ c ∷ d ∷ more) =
    end-false b (c ∷ d ∷ more) (end_more b c d more) ∙ ap (λ w. b ∷ w) (trims (c ∷ d ∷ more)) ∙ moved (ends_with 10 (d ∷ more)) (ends_with 13 (c ∷ front (d ∷ more)))
  where
    moved : (x y : Bool) → b ∷ trimmed x y (c ∷ d ∷ more) ≡ trimmed x y (b ∷ c ∷ d ∷ more)
    moved false y = refl
    moved true true = refl
    moved true false = refl

-- the answers of `without_end`
pub end_missing : (xs : List ℕ) → ends_with 10 xs ≡ false → xs ≡ without_end xs
unfolding trimmed
end_missing xs h = sym (trims xs ∙ ap (λ w. trimmed w (ends_with 13 (front xs)) xs) h)

pub end_feed : (xs line : List ℕ) → ends_with 10 xs ≡ true → line ≡ take (length xs - 1) xs → ends_with 13 line ≡ false → line ≡ without_end xs
unfolding trimmed
end_feed xs line h is k =
    let same : line ≡ front xs = is ∙ front-is xs in
    same ∙ sym (trims xs ∙ ap (λ w. trimmed w (ends_with 13 (front xs)) xs) h ∙ ap (λ w. trimmed true w xs) (sym (ap (ends_with 13) same) ∙ k))

pub end_both : (xs line result : List ℕ) → ends_with 10 xs ≡ true → line ≡ take (length xs - 1) xs → ends_with 13 line ≡ true → result ≡ take (length line - 1) line
    → result ≡ without_end xs
unfolding trimmed
end_both xs line result h is k is' =
    let same : line ≡ front xs = is ∙ front-is xs in
    is' ∙ front-is line ∙ ap front same ∙ sym (trims xs ∙ ap (λ w. trimmed w (ends_with 13 (front xs)) xs) h
    ∙ ap (λ w. trimmed true w xs) (sym (ap (ends_with 13) same) ∙ k))
