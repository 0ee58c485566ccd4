-- Pieces: where the first of a text ends, and what follows it.
use Rattle.std.proofs.Common.{◌≡◌, ℕ, zero, suc, ◌+◌, ◌<◌, ◌≤◌, Bool, true, false, List, [], ◌∷◌, ◌++◌, length, map, take, drop, append_assoc, refl, sym, ap, ◌∙◌, arith, inl, inr}
use Rattle.std.specs.Prelude.{◌==◌, ◌||◌, ◌⊎◌, if◌then◌else◌}
use Rattle.std.specs.List.{list_any, concat}
use Rattle.std.proofs.lemmas.Bool.{cases_Bool, eqb-true}
use Rattle.std.proofs.lemmas.List.{take-append-drop, take_all, drop_all, drop-drop, append-nil}
use Rattle.fortran_text.specs.Lines.{before_lines, lines}
use Rattle.cards.proofs.LineLemmas.{lines-nil, lines-end, lines-inner, some_line}
use Rattle.split_pieces.specs.WantedNames.{wanted_of}
use Rattle.split_pieces.specs.declared.wanted.WantedName.{WantedName}
use Rattle.split_pieces.specs.Pieces.{Piece, is_initial, is_end_card, before_pieces, pieces_of_lines, texts_of, piece_of, pieces_of}

-- the lines of a text, joined, are the text
concat-before_lines : (b : ℕ) (ls : List (List ℕ)) → concat (before_lines b ls) ≡ b ∷ concat ls
unfolding before_lines
concat-before_lines b [] = refl
concat-before_lines b (line ∷ more) = refl

concat_step : (b : ℕ) (rest : List ℕ) → concat (lines rest) ≡ rest → (b == 10 ≡ true) ⊎ (b == 10 ≡ false) → concat (lines (b ∷ rest)) ≡ b ∷ rest
concat_step b rest h (inl e) = ap concat (lines-end b rest e) ∙ ap (λ w. b ∷ w) h
concat_step b rest h (inr e) = ap concat (lines-inner b rest e) ∙ concat-before_lines b (lines rest) ∙ ap (λ w. b ∷ w) h

pub concat-lines : (xs : List ℕ) → concat (lines xs) ≡ xs
concat-lines [] = ap concat lines-nil
concat-lines (b ∷ rest) = concat_step b rest (concat-lines rest) (cases_Bool (b == 10))

-- a line and the pieces behind it
pub before_pieces-twice : (a b : List ℕ) (pieces : List (List ℕ)) → before_pieces a (before_pieces b pieces) ≡ before_pieces (a ++ b) pieces
unfolding before_pieces
before_pieces-twice a b [] = refl
before_pieces-twice a b (piece ∷ more) = ap (λ w. w ∷ more) (sym (append_assoc a b piece))

pub before_pieces-cons : (a piece : List ℕ) (more : List (List ℕ)) → before_pieces a (piece ∷ more) ≡ (a ++ piece) ∷ more
unfolding before_pieces
before_pieces-cons a piece more = refl

pub before_pieces-alone : (a : List ℕ) → before_pieces a [] ≡ a ∷ []
unfolding before_pieces
before_pieces-alone a = refl

some_piece : (line : List ℕ) (pieces : List (List ℕ)) → 0 < length (before_pieces line pieces)
unfolding before_pieces
some_piece line [] = omega arith
some_piece line (piece ∷ more) = omega arith

nothing_before : (pieces : List (List ℕ)) → 0 < length pieces → before_pieces [] pieces ≡ pieces
unfolding before_pieces
nothing_before [] some = absurd (omega arith)
nothing_before (piece ∷ more) some = refl

pub some_pieces : (ls : List (List ℕ)) → 0 < length ls → 0 < length (pieces_of_lines ls)
unfolding pieces_of_lines
some_pieces [] some = absurd (omega arith)
some_pieces (line ∷ more) some = by_tests (is_end_card line) (list_any is_initial more)
  where
    by_tests : (ends begins : Bool)
        → 0 < length (if ends then (if begins then line ∷ pieces_of_lines more else (line ++ concat more) ∷ []) else before_pieces line (pieces_of_lines more))
    by_tests true true = omega arith
    by_tests true false = omega arith
    by_tests false begins = some_piece line (pieces_of_lines more)

lines_some : (xs : List ℕ) → 0 < length xs → 0 < length (lines xs)
lines_some [] some = absurd (omega arith)
lines_some (b ∷ rest) some = some_line b rest

pub texts_of-nil : texts_of [] ≡ []
unfolding texts_of pieces_of_lines
texts_of-nil = ap pieces_of_lines lines-nil

-- at the beginning of a piece
pub piece_begins : (xs : List ℕ) → 0 < length xs → texts_of xs ≡ before_pieces [] (texts_of xs)
unfolding texts_of
piece_begins xs some = sym (nothing_before (pieces_of_lines (lines xs)) (some_pieces (lines xs) (lines_some xs some)))

-- by the first line
by_line : Bool → Bool → List ℕ → List (List ℕ) → List (List ℕ)
by_line ends begins line more =
    if ends then (if begins then line ∷ pieces_of_lines more else (line ++ concat more) ∷ []) else before_pieces line (pieces_of_lines more)

texts_of-line : (xs line behind : List ℕ) → lines xs ≡ line ∷ lines behind
    → texts_of xs ≡ by_line (is_end_card line) (list_any is_initial (lines behind)) line (lines behind)
unfolding texts_of pieces_of_lines by_line
texts_of-line xs line behind is = ap pieces_of_lines is

pub cut_on : (xs line behind : List ℕ) → lines xs ≡ line ∷ lines behind → is_end_card line ≡ false → texts_of xs ≡ before_pieces line (texts_of behind)
unfolding texts_of by_line
cut_on xs line behind is other = texts_of-line xs line behind is ∙ ap (λ b. by_line b (list_any is_initial (lines behind)) line (lines behind)) other

pub cut_behind : (xs line behind : List ℕ) → lines xs ≡ line ∷ lines behind → is_end_card line ≡ true → list_any is_initial (lines behind) ≡ true
    → texts_of xs ≡ line ∷ texts_of behind
unfolding texts_of by_line
cut_behind xs line behind is ends begins =
    texts_of-line xs line behind is ∙ ap (λ b. by_line b (list_any is_initial (lines behind)) line (lines behind)) ends
    ∙ ap (λ b. by_line true b line (lines behind)) begins

pub cut_last : (xs line behind : List ℕ) → lines xs ≡ line ∷ lines behind → is_end_card line ≡ true → list_any is_initial (lines behind) ≡ false
    → texts_of xs ≡ (line ++ behind) ∷ []
unfolding texts_of by_line
cut_last xs line behind is ends none =
    texts_of-line xs line behind is ∙ ap (λ b. by_line b (list_any is_initial (lines behind)) line (lines behind)) ends
    ∙ ap (λ b. by_line true b line (lines behind)) none ∙ ap (λ w. (line ++ w) ∷ []) (concat-lines behind)

-- one piece and those behind it
pub pieces_of-first : (xs text behind : List ℕ) → texts_of xs ≡ text ∷ texts_of behind → pieces_of xs ≡ piece_of text ∷ pieces_of behind
unfolding pieces_of
pieces_of-first xs text behind is = ap (λ l. map piece_of l) is

pub pieces_of-nil : pieces_of [] ≡ []
unfolding pieces_of
pieces_of-nil = ap (λ l. map piece_of l) texts_of-nil

text_of_pieces : (texts : List (List ℕ)) → map (λ (p : Piece). p.text) (map piece_of texts) ≡ texts
text_of_pieces [] = refl
text_of_pieces (text ∷ more) = ap (λ l. text ∷ l) (text_of_pieces more)

pub texts-pieces_of : (xs : List ℕ) → map (λ (p : Piece). p.text) (pieces_of xs) ≡ texts_of xs
unfolding pieces_of
texts-pieces_of xs = text_of_pieces (texts_of xs)

-- the front of a text, in two parts
take_nil : (n : ℕ) → take {A = ℕ} n [] ≡ []
take_nil zero = refl
take_nil (suc n) = refl

take-more : (p n : ℕ) (xs : List ℕ) → take p xs ++ take n (drop p xs) ≡ take (p + n) xs
take-more zero n xs = let same : n ≡ 0 + n = omega arith in ap (λ m. take m xs) same
take-more (suc p) n [] = take_nil n ∙ sym (take_nil (suc p + n))
take-more (suc p) n (x ∷ xs) =
    let one : suc (p + n) ≡ suc p + n = omega arith in ap (λ l. x ∷ l) (take-more p n xs) ∙ ap (λ m. take m (x ∷ xs)) one

-- What is known when so many bytes of a text are passed, and no END card among them.
abbrev pub Begun : List ℕ → ℕ → Type 0
Begun text p = texts_of text ≡ before_pieces (take p text) (texts_of (drop p text))

-- a line that is no END card
pub begun_on : (text : List ℕ) (p n : ℕ) → Begun text p → lines (drop p text) ≡ take n (drop p text) ∷ lines (drop n (drop p text))
    → is_end_card (take n (drop p text)) ≡ false → Begun text (p + n)
begun_on text p n begun line other =
    let rest = drop p text in
    begun ∙ ap (λ l. before_pieces (take p text) l) (cut_on rest (take n rest) (drop n rest) line other)
    ∙ before_pieces-twice (take p text) (take n rest) (texts_of (drop n rest)) ∙ ap (λ w. before_pieces w (texts_of (drop n rest))) (take-more p n text)
    ∙ ap (λ w. before_pieces (take (p + n) text) (texts_of w)) (drop-drop n p text)

-- an END card, with a statement behind it and with none
pub piece_ended : (text : List ℕ) (p n : ℕ) → Begun text p → lines (drop p text) ≡ take n (drop p text) ∷ lines (drop n (drop p text))
    → is_end_card (take n (drop p text)) ≡ true → list_any is_initial (lines (drop (p + n) text)) ≡ true
    → texts_of text ≡ take (p + n) text ∷ texts_of (drop (p + n) text)
piece_ended text p n begun line ends begins =
    let rest = drop p text in
    let begins' : list_any is_initial (lines (drop n rest)) ≡ true = ap (λ w. list_any is_initial (lines w)) (drop-drop n p text) ∙ begins in
    begun ∙ ap (λ l. before_pieces (take p text) l) (cut_behind rest (take n rest) (drop n rest) line ends begins')
    ∙ before_pieces-cons (take p text) (take n rest) (texts_of (drop n rest)) ∙ ap (λ w. w ∷ texts_of (drop n rest)) (take-more p n text)
    ∙ ap (λ w. take (p + n) text ∷ texts_of w) (drop-drop n p text)

alone : (text : List ℕ) (n : ℕ) → length text ≤ n → text ∷ [] ≡ take n text ∷ texts_of (drop n text)
alone text n high =
    ap (λ w. w ∷ []) (sym (take_all n text high)) ∙ ap (λ l. take n text ∷ l) (sym (ap texts_of (drop_all n text high) ∙ texts_of-nil))

pub piece_last : (text : List ℕ) (p n : ℕ) → Begun text p → lines (drop p text) ≡ take n (drop p text) ∷ lines (drop n (drop p text))
    → is_end_card (take n (drop p text)) ≡ true → list_any is_initial (lines (drop (p + n) text)) ≡ false
    → texts_of text ≡ take (length text) text ∷ texts_of (drop (length text) text)
piece_last text p n begun line ends none =
    let rest = drop p text in
    let none' : list_any is_initial (lines (drop n rest)) ≡ false = ap (λ w. list_any is_initial (lines w)) (drop-drop n p text) ∙ none in
    begun ∙ ap (λ l. before_pieces (take p text) l) (cut_last rest (take n rest) (drop n rest) line ends none')
    ∙ before_pieces-cons (take p text) (take n rest ++ drop n rest) [] ∙ ap (λ w. (take p text ++ w) ∷ []) (take-append-drop n rest)
    ∙ ap (λ w. w ∷ []) (take-append-drop p text) ∙ alone text (length text) (omega arith)

-- no END card
pub piece_whole : (text : List ℕ) (p : ℕ) → Begun text p → length text ≤ p → texts_of text ≡ take p text ∷ texts_of (drop p text)
piece_whole text p begun high =
    begun ∙ ap (λ w. before_pieces (take p text) (texts_of w)) (drop_all p text high) ∙ ap (λ l. before_pieces (take p text) l) texts_of-nil
    ∙ before_pieces-alone (take p text) ∙ ap (λ w. w ∷ []) (take_all p text high) ∙ alone text p high

-- one piece found, and none left
pub pieces_on : (whole rest : List ℕ) (n : ℕ) (found next : List Piece) (wanted : WantedName) → pieces_of whole ≡ found ++ pieces_of rest
    → texts_of rest ≡ take n rest ∷ texts_of (drop n rest) → wanted ≡ wanted_of (take n rest)
    → next ≡ found ++ record { text = take n rest; wanted = wanted } ∷ [] → pieces_of whole ≡ next ++ pieces_of (drop n rest)
pieces_on whole rest n found next wanted before first wanted_is next_is =
    let here : Piece = record { text = take n rest; wanted = wanted } in
    let same : piece_of (take n rest) ≡ here = λ i. record { text = take n rest; wanted = sym wanted_is i } in
    before ∙ ap (λ l. found ++ l) (pieces_of-first rest (take n rest) (drop n rest) first) ∙ ap (λ p. found ++ p ∷ pieces_of (drop n rest)) same
    ∙ sym (append_assoc found (here ∷ []) (pieces_of (drop n rest))) ∙ ap (λ l. l ++ pieces_of (drop n rest)) (sym next_is)

pub pieces_end : (whole rest : List ℕ) (found : List Piece) → pieces_of whole ≡ found ++ pieces_of rest → length rest ≤ 0 → found ≡ pieces_of whole
pieces_end whole rest found before none =
    sym (before ∙ ap (λ l. found ++ l) (ap pieces_of (drop_all 0 rest none) ∙ pieces_of-nil) ∙ append-nil found)

-- whether a card begins a statement
pub begins_here : (rest line behind : List ℕ) → lines rest ≡ line ∷ lines behind → is_initial line ≡ true → list_any is_initial (lines rest) ≡ true
begins_here rest line behind is begins = ap (list_any is_initial) is ∙ ap (λ b. b || list_any is_initial (lines behind)) begins

pub begins_later : (rest line behind : List ℕ) → lines rest ≡ line ∷ lines behind → is_initial line ≡ false
    → list_any is_initial (lines rest) ≡ list_any is_initial (lines behind)
begins_later rest line behind is other = ap (list_any is_initial) is ∙ ap (λ b. b || list_any is_initial (lines behind)) other

pub begins_nowhere : (rest : List ℕ) → length rest ≤ 0 → list_any is_initial (lines rest) ≡ false
begins_nowhere [] none = ap (list_any is_initial) lines-nil
begins_nowhere (b ∷ rest) none = absurd (omega arith)

-- an empty text
pub is_none : (test : Bool) (xs : List ℕ) → test ≡ (length xs == 0) → test ≡ true → length xs ≤ 0
is_none test xs is none = let same : length xs ≡ 0 = eqb-true (length xs) 0 (sym is ∙ none) in omega arith
