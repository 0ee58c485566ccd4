-- What is known of the pieces of every file: joined they are the file, and each but the last ends with its one END card.
use Rattle.std.proofs.Common.{◌≡◌, ℕ, suc, ◌+◌, ◌<◌, Bool, true, false, List, [], ◌∷◌, ◌++◌, length, map, append_assoc, refl, sym, ap, subst, ◌∙◌, arith, inl, inr}
use Rattle.std.specs.Prelude.{◌==◌, ◌&&◌, ◌⊎◌, not, if◌then◌else◌}
use Rattle.std.specs.List.{list_any, concat}
use Rattle.std.proofs.lemmas.List.{append-nil}
use Rattle.std.proofs.lemmas.Bool.{and_parts, cases_Bool, not-true}
use Rattle.fortran_text.specs.Lines.{before_lines, lines}
use Rattle.cards.proofs.LineLemmas.{lines-nil, lines-end, lines-inner}
use Rattle.split_pieces.specs.Pieces.{Piece, pieces_of, is_initial, is_end_card, before_pieces, pieces_of_lines, texts_of, EndsWithEnd, AllButLastEnd}
use Rattle.fsplit.proofs.PieceLemmas.{concat-lines, texts-pieces_of}

concat-before_pieces : (line : List ℕ) (pieces : List (List ℕ)) → concat (before_pieces line pieces) ≡ line ++ concat pieces
unfolding before_pieces
concat-before_pieces line [] = refl
concat-before_pieces line (piece ∷ more) = append_assoc line piece (concat more)

concat-pieces_of_lines : (ls : List (List ℕ)) → concat (pieces_of_lines ls) ≡ concat ls
unfolding pieces_of_lines
concat-pieces_of_lines [] = refl
concat-pieces_of_lines (line ∷ more) = by_tests (is_end_card line) (list_any is_initial more) (concat-pieces_of_lines more)
  where
    by_tests : (ends begins : Bool) → concat (pieces_of_lines more) ≡ concat more
        → concat (if ends then (if begins then line ∷ pieces_of_lines more else (line ++ concat more) ∷ []) else before_pieces line (pieces_of_lines more)) ≡ line ++ concat more
    by_tests true true h = ap (λ w. line ++ w) h
    by_tests true false h = append-nil (line ++ concat more)
    by_tests false begins h = concat-before_pieces line (pieces_of_lines more) ∙ ap (λ w. line ++ w) h

pub concat-texts_of : (xs : List ℕ) → concat (texts_of xs) ≡ xs
unfolding texts_of
concat-texts_of xs = concat-pieces_of_lines (lines xs) ∙ concat-lines xs

-- a line with its line feed
closes : List ℕ → Bool
closes [] = false
closes (b ∷ []) = b == 10
closes (b ∷ c ∷ rest) = not (b == 10) && closes (c ∷ rest)

before_lines-cons : (b : ℕ) (line : List ℕ) (more : List (List ℕ)) → before_lines b (line ∷ more) ≡ (b ∷ line) ∷ more
unfolding before_lines
before_lines-cons b line more = refl

lines_closed : (line rest : List ℕ) → closes line ≡ true → lines (line ++ rest) ≡ line ∷ lines rest
unfolding closes
lines_closed [] rest h = absurd (cc h)
lines_closed (b ∷ []) rest h = lines-end b rest h
lines_closed (b ∷ c ∷ line) rest h =
    let parts = and_parts (not (b == 10)) (closes (c ∷ line)) h in
    lines-inner b (c ∷ line ++ rest) (not-true (b == 10) parts.0) ∙ ap (λ w. before_lines b w) (lines_closed (c ∷ line) rest parts.1)
    ∙ before_lines-cons b (c ∷ line) (lines rest)

-- each line of a file but the last has its line feed
AllButLastClose : List (List ℕ) → Type 0
AllButLastClose [] = Unit {0}
AllButLastClose (line ∷ []) = Unit {0}
AllButLastClose (line ∷ next ∷ more) = (closes line ≡ true) × AllButLastClose (next ∷ more)

close_more : (b : ℕ) (line : List ℕ) → b == 10 ≡ false → closes line ≡ true → closes (b ∷ line) ≡ true
unfolding closes
close_more b [] other h = absurd (cc h)
close_more b (c ∷ line) other h = ap (λ t. not t && closes (c ∷ line)) other ∙ h

end_before : (b : ℕ) (ls : List (List ℕ)) → b == 10 ≡ true → AllButLastClose ls → AllButLastClose ((b ∷ []) ∷ ls)
unfolding AllButLastClose closes
end_before b [] e h = tt
end_before b (line ∷ more) e h = (e, h)

inner_before : (b : ℕ) (ls : List (List ℕ)) → b == 10 ≡ false → AllButLastClose ls → AllButLastClose (before_lines b ls)
unfolding AllButLastClose before_lines
inner_before b [] e h = tt
inner_before b (line ∷ []) e h = tt
inner_before b (line ∷ next ∷ more) e h = (close_more b line e h.0, h.1)

close_step : (b : ℕ) (rest : List ℕ) → AllButLastClose (lines rest) → (b == 10 ≡ true) ⊎ (b == 10 ≡ false) → AllButLastClose (lines (b ∷ rest))
close_step b rest h (inl e) = subst AllButLastClose (sym (lines-end b rest e)) (end_before b (lines rest) e h)
close_step b rest h (inr e) = subst AllButLastClose (sym (lines-inner b rest e)) (inner_before b (lines rest) e h)

lines_close : (xs : List ℕ) → AllButLastClose (lines xs)
unfolding AllButLastClose
lines_close [] = subst AllButLastClose (sym lines-nil) tt
lines_close (b ∷ rest) = close_step b rest (lines_close rest) (cases_Bool (b == 10))

-- the pieces of such lines
end_alone : (line : List ℕ) → closes line ≡ true → is_end_card line ≡ true → EndsWithEnd line
end_alone line closed ends = record {
  before = 0;
  one_end =
      ap (λ l. map is_end_card (lines l)) (sym (append-nil line)) ∙ ap (λ l. map is_end_card l) (lines_closed line [] closed)
      ∙ ap (λ l. is_end_card line ∷ map is_end_card l) lines-nil ∙ ap (λ b. b ∷ []) ends;
}

end_later : (line text : List ℕ) → closes line ≡ true → is_end_card line ≡ false → EndsWithEnd text → EndsWithEnd (line ++ text)
end_later line text closed other h = record {
  before = suc h.before;
  one_end =
      ap (λ l. map is_end_card l) (lines_closed line text closed) ∙ ap (λ b. b ∷ map is_end_card (lines text)) other ∙ ap (λ l. false ∷ l) h.one_end;
}

ends_before : (line : List ℕ) (pieces : List (List ℕ)) → (0 < length pieces → closes line ≡ true) → is_end_card line ≡ false → AllButLastEnd pieces
    → AllButLastEnd (before_pieces line pieces)
unfolding before_pieces
ends_before line [] closed other h = tt
ends_before line (piece ∷ []) closed other h = tt
ends_before line (piece ∷ next ∷ more) closed other h = (end_later line piece (closed (omega arith)) other h.0, h.1)

ends_first : (line : List ℕ) (pieces : List (List ℕ)) → (0 < length pieces → closes line ≡ true) → is_end_card line ≡ true → AllButLastEnd pieces
    → AllButLastEnd (line ∷ pieces)
ends_first line [] closed ends h = tt
ends_first line (piece ∷ more) closed ends h = (end_alone line (closed (omega arith)) ends, h)

close_first : (line : List ℕ) (more : List (List ℕ)) → AllButLastClose (line ∷ more) → 0 < length (pieces_of_lines more) → closes line ≡ true
unfolding AllButLastClose pieces_of_lines
close_first line [] h some = absurd (omega arith)
close_first line (next ∷ more) h some = h.0

close_rest : (line : List ℕ) (more : List (List ℕ)) → AllButLastClose (line ∷ more) → AllButLastClose more
unfolding AllButLastClose
close_rest line [] h = tt
close_rest line (next ∷ more) h = h.1

ends_of_lines : (ls : List (List ℕ)) → AllButLastClose ls → AllButLastEnd (pieces_of_lines ls)
unfolding pieces_of_lines
ends_of_lines [] h = tt
ends_of_lines (line ∷ more) h =
    by_tests (is_end_card line) (list_any is_initial more) refl (close_first line more h) (ends_of_lines more (close_rest line more h))
  where
    by_tests : (ends begins : Bool) → is_end_card line ≡ ends → (0 < length (pieces_of_lines more) → closes line ≡ true) → AllButLastEnd (pieces_of_lines more)
        → AllButLastEnd (if ends then (if begins then line ∷ pieces_of_lines more else (line ++ concat more) ∷ []) else before_pieces line (pieces_of_lines more))
    by_tests true true is closed later = ends_first line (pieces_of_lines more) closed is later
    by_tests true false is closed later = tt
    by_tests false begins is closed later = ends_before line (pieces_of_lines more) closed is later

pub ends-texts_of : (xs : List ℕ) → AllButLastEnd (texts_of xs)
unfolding texts_of
ends-texts_of xs = ends_of_lines (lines xs) (lines_close xs)

-- the pieces of a file
pub joined : (xs : List ℕ) (pieces : List Piece) → pieces ≡ pieces_of xs → concat (map (λ (p : Piece). p.text) pieces) ≡ xs
joined xs pieces is = ap (λ l. concat (map (λ (p : Piece). p.text) l)) is ∙ ap concat (texts-pieces_of xs) ∙ concat-texts_of xs

pub ended : (xs : List ℕ) (pieces : List Piece) → pieces ≡ pieces_of xs → AllButLastEnd (map (λ (p : Piece). p.text) pieces)
ended xs pieces is = subst AllButLastEnd (sym (ap (map (λ (p : Piece). p.text)) is ∙ texts-pieces_of xs)) (ends-texts_of xs)
