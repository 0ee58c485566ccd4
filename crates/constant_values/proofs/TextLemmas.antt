-- Texts, as the code compares and fills them.
use Rattle.std.proofs.Common.{◌≡◌, ℕ, suc, ◌+◌, ◌-◌, ◌≤◌, ◌<◌, ◌≢◌, Bool, true, false, ◌&&◌, ◌||◌, [], ◌∷◌, ◌++◌, length, take, drop, replicate, refl, ap, sym, ◌∙◌, arith, append-nil}
use Rattle.std.specs.Prelude.{nat_eq, nat_lt, ◌==◌}
use Rattle.std.specs.List.{starts_with}
use Rattle.std.proofs.Common.{drop-cons, length-drop, get_or, if◌then◌else◌}
use Rattle.std.proofs.lemmas.List.{take_all, drop_all}
use Rattle.std.proofs.lemmas.Bool.Decides.{nat_tests}
use Rattle.f_tree.specs.Values.{Bytes}
use Rattle.f_tree.specs.Store.{fitted}
use Rattle.f_tree.specs.Valuing.{is_before, begins_with, index_from, first_character}
use Rattle.constant_values.specs.TextSteps.{later}

same-flip : (a b : ℕ) → nat_eq a b ≡ nat_eq b a
same-flip a b = grind (arith, nat_tests)

pub begins-is : (text part : Bytes) → starts_with nat_eq text part ≡ begins_with text part
unfolding begins_with
begins-is text [] = refl
begins-is [] (b ∷ bs) = refl
begins-is (a ∷ text) (b ∷ bs) = ap (λ c. c && starts_with nat_eq text bs) (same-flip b a) ∙ ap (λ c. nat_eq a b && c) (begins-is text bs)

pub ruleset begins_laws = (begins-is)

pub cut-is : (n : ℕ) (text : Bytes) → n ≤ length text → take n text ≡ fitted n text
unfolding fitted
cut-is n text h = sym (ap (λ k. take n text ++ replicate k 32) (let e : n - length text ≡ 0 = omega arith in e) ∙ append-nil (take n text))

pub filled-is : (n : ℕ) (text : Bytes) → length text < n → text ++ replicate (n - length text) 32 ≡ fitted n text
unfolding fitted
filled-is n text h = ap (λ cs. cs ++ replicate (n - length text) 32) (sym (take_all n text (omega arith)))

pub ruleset fitted_laws = (cut-is, filled-is)

-- THE ORDER OF TEXTS
less-itself : (a b : ℕ) → a ≡ b → nat_lt a b ≡ false
less-itself a b h = grind (arith, nat_tests)

same-itself : (a b : ℕ) → a ≡ b → nat_eq a b ≡ true
same-itself a b h = grind (arith, nat_tests)

same-other : (a b : ℕ) → a ≢ b → nat_eq a b ≡ false
same-other a b h = grind (arith, nat_tests)

or-none : (b : Bool) → (b || false) ≡ b
or-none true = refl
or-none false = refl

same-step : (a b : ℕ) (r : Bool) → a ≡ b → (nat_lt a b || (nat_eq a b && r)) ≡ r
same-step a b r h = ap (λ c. c || (nat_eq a b && r)) (less-itself a b h) ∙ ap (λ c. c && r) (same-itself a b h)

other-step : (a b : ℕ) (r : Bool) → a ≢ b → (nat_lt a b || (nat_eq a b && r)) ≡ nat_lt a b
other-step a b r h = ap (λ c. nat_lt a b || (c && r)) (same-other a b h) ∙ or-none (nat_lt a b)

pub before-same : (xs ys : Bytes) → first_character xs ≡ first_character ys → is_before xs ys ≡ is_before (later xs) (later ys)
unfolding is_before first_character later
before-same [] [] h = refl
before-same [] (b ∷ bs) h = same-step 32 b (is_before [] bs) h
before-same (a ∷ as') [] h = same-step a 32 (is_before as' []) h
before-same (a ∷ as') (b ∷ bs) h = same-step a b (is_before as' bs) h

pub before-other : (xs ys : Bytes) → first_character xs ≢ first_character ys → is_before xs ys ≡ nat_lt (first_character xs) (first_character ys)
unfolding is_before first_character
before-other [] [] h = absurd (h refl)
before-other [] (b ∷ bs) h = other-step 32 b (is_before [] bs) h
before-other (a ∷ as') [] h = other-step a 32 (is_before as' []) h
before-other (a ∷ as') (b ∷ bs) h = other-step a b (is_before as' bs) h

pub before-none : (xs ys : Bytes) → length xs ≡ 0 → length ys ≡ 0 → is_before xs ys ≡ false
unfolding is_before
before-none [] [] h k = refl
before-none (a ∷ as') ys h k = absurd (omega arith)
before-none [] (b ∷ bs) h k = absurd (omega arith)

pub before-empty : (xs ys : Bytes) → (length xs == 0) ≡ true → (length ys == 0) ≡ true → false ≡ is_before xs ys
before-empty xs ys h k = sym (before-none xs ys (grind (arith, nat_tests)) (grind (arith, nat_tests)))

pub later-less : (xs : Bytes) → length (later xs) ≡ length xs - 1
unfolding later
later-less [] = refl
later-less (x ∷ xs) = let e : suc (length xs) - 1 ≡ length xs = omega arith in sym e

pub ruleset before_laws = (before-same, before-other, before-none, later-less)

-- THE PLACE OF A TEXT
pub rest-all : (text : Bytes) (at n : ℕ) → n ≡ length text - at → take n (drop at text) ≡ drop at text
rest-all text at n h = take_all n (drop at text) (omega (arith, length-drop at text))

pub ruleset rest_laws = (rest-all)

index-by : (k : ℕ) (a : ℕ) (rest part : Bytes) (b : Bool) → begins_with (a ∷ rest) part ≡ b →
    index_from k (a ∷ rest) part ≡ (if b then k else index_from (suc k) rest part)
unfolding index_from
index-by k a rest part b h = ap (λ c. if c then k else index_from (suc k) rest part) h

open-at : (text : Bytes) (at : ℕ) → at < length text → drop at text ≡ get_or text at 0 ∷ drop (suc at) text
open-at text at h = drop-cons text at 0 h

pub index-here : (text part : Bytes) (at whole : ℕ) → at < length text → index_from (suc at) (drop at text) part ≡ whole → begins_with (drop at text) part ≡ true → at + 1 ≡ whole
index-here text part at whole h so_far is =
    let here : index_from (suc at) (get_or text at 0 ∷ drop (suc at) text) part ≡ suc at =
    index-by (suc at) (get_or text at 0) (drop (suc at) text) part true (sym (ap (λ cs. begins_with cs part) (open-at text at h)) ∙ is) in
    (let e : at + 1 ≡ suc at = omega arith in e) ∙ sym here ∙ sym (ap (λ cs. index_from (suc at) cs part) (open-at text at h)) ∙ so_far

pub index-later : (text part : Bytes) (at whole : ℕ) → at < length text → index_from (suc at) (drop at text) part ≡ whole → begins_with (drop at text) part ≡ false →
    index_from (suc (at + 1)) (drop (at + 1) text) part ≡ whole
index-later text part at whole h so_far is =
    let here : index_from (suc at) (get_or text at 0 ∷ drop (suc at) text) part ≡ index_from (suc (suc at)) (drop (suc at) text) part =
    index-by (suc at) (get_or text at 0) (drop (suc at) text) part false (sym (ap (λ cs. begins_with cs part) (open-at text at h)) ∙ is) in
    ap (λ n. index_from (suc n) (drop n text) part) (let e : at + 1 ≡ suc at = omega arith in e)
    ∙ sym here ∙ sym (ap (λ cs. index_from (suc at) cs part) (open-at text at h)) ∙ so_far

end-by : (k : ℕ) (part : Bytes) → length part ≡ 0 → index_from k [] part ≡ k
unfolding index_from begins_with
end-by k [] h = refl
end-by k (b ∷ bs) h = absurd (omega arith)

end-not : (k : ℕ) (part : Bytes) → 0 < length part → index_from k [] part ≡ 0
unfolding index_from begins_with
end-not k [] h = absurd (omega arith)
end-not k (b ∷ bs) h = refl

pub index-empty : (text part : Bytes) (at whole : ℕ) → length text ≤ at → length part ≡ 0 → index_from (suc at) (drop at text) part ≡ whole → suc at ≡ whole
index-empty text part at whole h k so_far = sym (end-by (suc at) part k) ∙ sym (ap (λ cs. index_from (suc at) cs part) (drop_all at text h)) ∙ so_far

pub index-none : (text part : Bytes) (at whole : ℕ) → length text ≤ at → 0 < length part → index_from (suc at) (drop at text) part ≡ whole → 0 ≡ whole
index-none text part at whole h k so_far = sym (end-not (suc at) part k) ∙ sym (ap (λ cs. index_from (suc at) cs part) (drop_all at text h)) ∙ so_far

pub ruleset index_laws = (index-here, index-later, index-empty, index-none)
