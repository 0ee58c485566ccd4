-- The line feeds of a text are the places of that byte.
use Rattle.std.proofs.Common.{◌≡◌, refl, ap, ◌∙◌, subst, ℕ, suc, ◌+◌, Bool, true, false, List, [], ◌∷◌, ◌++◌, append_assoc, length, length-append, if◌then◌else◌, arith}
use Rattle.std.proofs.Math.Seq.{get_or-append_seam}
use Rattle.memchr.specs.Find.{is_byte, places_from, places}
use Rattle.c_tree.specs.Tokens.{is_line_feed, line_feeds}

-- the places of line feeds in a text, from a place on
abbrev feeds_of : List ℕ → ℕ → ℕ → ℕ
feeds_of text from count = length (places_from (is_byte 10) text from count)

next_feeds : (front : List ℕ) (first : ℕ) (later : List ℕ)
    → feeds_of ((front ++ (first ∷ [])) ++ later) (length (front ++ (first ∷ []))) (length later) ≡ line_feeds later
    → feeds_of (front ++ (first ∷ later)) (length front + 1) (length later) ≡ line_feeds later
next_feeds front first later h =
    subst (λ place. feeds_of (front ++ (first ∷ later)) place (length later) ≡ line_feeds later) (length-append front (first ∷ []))
    (subst (λ text. feeds_of text (length (front ++ (first ∷ []))) (length later) ≡ line_feeds later) (append_assoc front (first ∷ []) later) h)

feeds_from : (front rest : List ℕ) → feeds_of (front ++ rest) (length front) (length rest) ≡ line_feeds rest
unfolding places_from
feeds_from front [] = refl
feeds_from front (first ∷ later) =
    ap (λ place. counted (is_line_feed place)) (get_or-append_seam front first later 0)
    ∙ by (is_line_feed first) (next_feeds front first later (feeds_from (front ++ (first ∷ [])) later))
  where
    behind : List ℕ
    behind = places_from (is_byte 10) (front ++ (first ∷ later)) (length front + 1) (length later)

    counted : Bool → ℕ
    counted feed = length (if feed then length front ∷ behind else behind)

    by : (feed : Bool) → length behind ≡ line_feeds later → counted feed ≡ (if feed then suc (line_feeds later) else line_feeds later)
    by true h = ap suc h
    by false h = h

pub places_are_feeds : (text : List ℕ) → length (places (is_byte 10) text) ≡ line_feeds text
places_are_feeds text = ap (λ n. feeds_of text 0 n) (omega arith) ∙ feeds_from [] text
