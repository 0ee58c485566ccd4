-- The names, one line after the other.
use Rattle.std.proofs.Common.{◌≡◌, ℕ, zero, suc, ◌+◌, ◌<◌, ◌≤◌, List, [], ◌∷◌, ◌++◌, length, drop, get_or, append_assoc, refl, sym, ap, ◌∙◌, arith}
use Rattle.std.proofs.lemmas.List.{append-nil}
use Rattle.split_command.specs.Listing.{listing}

next_line : (names : List (List ℕ)) (i : ℕ) (d : List ℕ) → i < length names → listing (drop i names) ≡ get_or names i d ++ 10 ∷ listing (drop (i + 1) names)
unfolding listing
next_line [] i d within = absurd (omega arith)
next_line (name ∷ names) zero d within = refl
next_line (name ∷ names) (suc i) d within =
    let one : suc (i + 1) ≡ suc i + 1 = omega arith in
    next_line names i d (omega arith) ∙ ap (λ k. get_or names i d ++ 10 ∷ listing (drop k (name ∷ names))) one

pub listing_on : (names : List (List ℕ)) (i : ℕ) (name bytes before middle after : List ℕ) → i < length names → name ≡ get_or names i name → bytes ≡ name
    → middle ≡ before ++ bytes → after ≡ middle ++ 10 ∷ [] → listing names ≡ before ++ listing (drop i names) → listing names ≡ after ++ listing (drop (i + 1) names)
listing_on names i name bytes before middle after within name_is bytes_is middle_is after_is so_far =
    let rest = listing (drop (i + 1) names) in
    let line : bytes ≡ get_or names i name = bytes_is ∙ name_is in
    so_far
    ∙ ap (λ l. before ++ l) (next_line names i name within ∙ ap (λ l. l ++ 10 ∷ rest) (sym line))
    ∙ sym (append_assoc before bytes (10 ∷ rest))
    ∙ ap (λ l. l ++ 10 ∷ rest) (sym middle_is)
    ∙ sym (append_assoc middle (10 ∷ []) rest)
    ∙ ap (λ l. l ++ rest) (sym after_is)

drop_all : (names : List (List ℕ)) (i : ℕ) → length names ≤ i → drop i names ≡ []
drop_all [] zero h = refl
drop_all [] (suc i) h = refl
drop_all (name ∷ names) zero h = absurd (omega arith)
drop_all (name ∷ names) (suc i) h = drop_all names i (omega arith)

pub listing_ends : (names : List (List ℕ)) (i : ℕ) (text : List ℕ) → length names ≤ i → listing names ≡ text ++ listing (drop i names) → text ≡ listing names
unfolding listing
listing_ends names i text whole so_far = sym (so_far ∙ ap (λ l. text ++ listing l) (drop_all names i whole) ∙ append-nil text)
