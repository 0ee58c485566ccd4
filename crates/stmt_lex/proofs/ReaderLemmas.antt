-- Tokens of a text, one step after another.
use Rattle.std.proofs.Common.{◌≡◌, ℕ, zero, suc, ◌+◌, ◌-◌, ◌<◌, ◌≤◌, List, [], ◌∷◌, ◌++◌, length, take, drop, map, get_or, refl, sym, ap, ◌∙◌, Option, Some, None, arith, append_assoc, inl, inr}
use Rattle.std.specs.Prelude.{min, option_map, ◌⊎◌}
use Rattle.std.specs.Option.{option_to_list}
use Rattle.std.proofs.lemmas.Bool.{cases_lt}
use Rattle.std.proofs.lemmas.List.{drop-drop, drop_all, length-drop, map-append, append-nil}
use Rattle.fortran_text.specs.declared.characters.Character.{Character}
use Rattle.fortran_lexemes.specs.Lexemes.{Lexemes, Name, Number, Quoted, FormatText}
use Rattle.fortran_lexemes.specs.PiecesOfText.{codes_of, undoubled}
use Rattle.fortran_lexemes.specs.PiecesOfStatements as statement_pieces
use Rattle.fortran_lexemes.specs.PiecesOfStatements.{step_past_blank, pieces_from, pieces}
use Rattle.fortran_lexemes.specs.declared.kinds.StmtKind.{StmtKind}
use Rattle.fortran_lexemes.specs.declared.modes.Mode.{Mode}
use Rattle.fortran_lexemes.specs.declared.modes.Mode.TheVariants.{Begins}
use Rattle.stmt_lex.specs.SeenTokens.{lexeme_of, seen, seen_step, spanned, shifted, shifted_span, IsStep}
use Rattle.f_tree.specs.declared.refusals.Kind.{Kind}
use Rattle.fortran_lexemes.specs.LexicalRows.{first_lexical_row}
use Rattle.stmt_lex.specs.TokensOfTexts.{IsTokenList}
use Rattle.stmt_lex.specs.declared.token.TokenList.{TokenList}
use Rattle.stmt_lex.specs.declared.token.Span.{Span}
use Rattle.stmt_lex.specs.declared.token.Step.{Step}
use Rattle.stmt_lex.specs.declared.token.Token.{Token}
use Rattle.stmt_lex.specs.declared.token.Token.TheVariants as token

span_at : (text : List Character) (at from len most : ℕ) → length text ≤ most → (at + from < most) ⊎ (most ≤ at + from)
    → take len (drop (min (at + from) most) text) ≡ take len (drop from (drop at text))
span_at text at from len most short (inl below) =
    let same : min (at + from) most ≡ at + from = omega arith in
    ap (λ n. take len (drop n text)) same ∙ ap (λ l. take len l) (sym (drop-drop from at text))
span_at text at from len most short (inr above) =
    let same : min (at + from) most ≡ most = omega arith in
    ap (λ n. take len (drop n text)) same
    ∙ ap (λ l. take len l) (drop_all most text short ∙ sym (drop_all (at + from) text (omega arith)) ∙ sym (drop-drop from at text))

span_same : (text : List Character) (at : ℕ) (span : Span) → length text ≤ 18446744073709551615 → spanned text (shifted_span at span) ≡ spanned (drop at text) span
span_same text at span short = span_at text at span.from span.len 18446744073709551615 short (cases_lt (at + span.from) 18446744073709551615)

shift_same : (text : List Character) (at : ℕ) (t : Token) → length text ≤ 18446744073709551615 → lexeme_of text (shifted at t) ≡ lexeme_of (drop at text) t
unfolding lexeme_of
shift_same text at (token.Name span) short = ap (λ l. Name (codes_of l)) (span_same text at span short)
shift_same text at token.LongName short = refl
shift_same text at (token.Number span value) short = ap (λ l. Number (codes_of l) value) (span_same text at span short)
shift_same text at token.TooLarge short = refl
shift_same text at (token.Quoted span) short = ap (λ l. Quoted (undoubled l)) (span_same text at span short)
shift_same text at token.BadQuote short = refl
shift_same text at (token.Infix op) short = refl
shift_same text at token.Negation short = refl
shift_same text at (token.Truth value) short = refl
shift_same text at (token.Mark sign) short = refl
shift_same text at (token.Word kind) short = refl
shift_same text at token.To short = refl
shift_same text at token.Then short = refl
shift_same text at (token.FormatText span) short = ap (λ l. FormatText (codes_of l)) (span_same text at span short)
shift_same text at (token.Other code) short = refl

-- the tokens with one more
seen_more : (text : List Character) (at : ℕ) (found : List Token) (t : Option Token) → length text ≤ 18446744073709551615
    → seen text (found ++ option_to_list (option_map (shifted at) t)) ≡ seen text found ++ option_to_list (option_map (lexeme_of (drop at text)) t)
unfolding seen
seen_more text at found None short = ap (λ l. map (lexeme_of text) l) (append-nil found) ∙ sym (append-nil (map (lexeme_of text) found))
seen_more text at found (Some t) short =
    map-append (lexeme_of text) found (shifted at t ∷ []) ∙ ap (λ x. map (lexeme_of text) found ++ x ∷ []) (shift_same text at t short)

-- one step of the pieces
pieces_step : (fuel : ℕ) (m : Mode) (c : Character) (rest : List Character) (s : Step) → 0 < fuel → IsStep c rest (step_past_blank m c rest) s
    → pieces_from fuel m (c ∷ rest) ≡ option_to_list (option_map (lexeme_of (c ∷ rest)) s.token) ++ pieces_from (fuel - 1) s.next (drop s.len (c ∷ rest))
unfolding pieces_from seen_step
pieces_step zero m c rest s some is = absurd (omega arith)
pieces_step (suc fuel) m c rest s some is =
    let same : fuel ≡ suc fuel - 1 = omega arith in
    sym (ap (λ (p : statement_pieces.Step). option_to_list p.piece ++ pieces_from fuel p.next p.rest) is.value)
    ∙ ap (λ n. option_to_list (option_map (lexeme_of (c ∷ rest)) s.token) ++ pieces_from n s.next (drop s.len (c ∷ rest))) same

pub token_on : (whole : Lexemes) (text : List Character) (fuel next_fuel : ℕ) (m : Mode) (at : ℕ) (c : Character) (rest : List Character) (s : Step) (found longer : List Token)
    → whole ≡ seen text found ++ pieces_from fuel m (drop at text) → 0 < fuel → next_fuel ≡ fuel - 1 → drop at text ≡ c ∷ rest
    → IsStep c rest (step_past_blank m c rest) s → longer ≡ found ++ option_to_list (option_map (shifted at) s.token) → length text ≤ 18446744073709551615
    → whole ≡ seen text longer ++ pieces_from next_fuel s.next (drop (at + s.len) text)
token_on whole text fuel next_fuel m at c rest s found longer start some less there is more short =
    let one = option_to_list (option_map (lexeme_of (drop at text)) s.token) in
    let after : pieces_from fuel m (drop at text) ≡ one ++ pieces_from next_fuel s.next (drop (at + s.len) text) =
    ap (λ l. pieces_from fuel m l) there ∙ pieces_step fuel m c rest s some is
    ∙ ap (λ l. option_to_list (option_map (lexeme_of l) s.token) ++ pieces_from (fuel - 1) s.next (drop s.len l)) (sym there)
    ∙ ap (λ l. one ++ pieces_from (fuel - 1) s.next l) (drop-drop s.len at text)
    ∙ ap (λ n. one ++ pieces_from n s.next (drop (at + s.len) text)) (sym less) in
    start ∙ ap (λ l. seen text found ++ l) after ∙ sym (append_assoc (seen text found) one (pieces_from next_fuel s.next (drop (at + s.len) text)))
    ∙ ap (λ l. l ++ pieces_from next_fuel s.next (drop (at + s.len) text)) (sym (ap (λ l. seen text l) more ∙ seen_more text at found s.token short))

pub front : (slice : List Character) (e : Character) → 1 ≤ length slice → slice ≡ get_or slice 0 e ∷ drop 1 slice
front [] e some = absurd (omega arith)
front (c ∷ rest) e some = refl

no_pieces : (fuel : ℕ) (m : Mode) → pieces_from fuel m [] ≡ []
unfolding pieces_from
no_pieces zero m = refl
no_pieces (suc fuel) m = refl

no_fuel : (fuel : ℕ) (m : Mode) (text : List Character) → fuel ≤ 0 → pieces_from fuel m text ≡ []
unfolding pieces_from
no_fuel zero m text h = refl
no_fuel (suc fuel) m text h = absurd (omega arith)

pub empty : (slice : List Character) → length slice < 1 → slice ≡ []
empty [] h = refl
empty (c ∷ rest) h = absurd (omega arith)

pub tokens_end : (whole : Lexemes) (text : List Character) (fuel : ℕ) (m : Mode) (slice : List Character) (found : List Token)
    → whole ≡ seen text found ++ pieces_from fuel m slice → (length slice < 1) ⊎ (fuel ≤ 0) → seen text found ≡ whole
tokens_end whole text fuel m slice found start (inl short) =
    sym (start ∙ ap (λ l. seen text found ++ pieces_from fuel m l) (empty slice short) ∙ ap (λ l. seen text found ++ l) (no_pieces fuel m) ∙ append-nil (seen text found))
tokens_end whole text fuel m slice found start (inr none) =
    sym (start ∙ ap (λ l. seen text found ++ l) (no_fuel fuel m slice none) ∙ append-nil (seen text found))

pub pieces-is : (kind : StmtKind) (text : List Character) → pieces_from (length text) (Begins kind) text ≡ pieces kind text
unfolding pieces
pieces-is kind text = refl

pub tokens_begin : (kind : StmtKind) (text : List Character) (found : List Token) → found ≡ []
    → pieces_from (length text) (Begins kind) text
    ≡ seen text found ++ pieces_from (length text - 0) (Begins kind) text
unfolding seen
tokens_begin kind text found none =
    let same : length text ≡ length text - 0 = omega arith in
    ap (λ n. pieces_from n (Begins kind) text) same
    ∙ ap (λ l. map (lexeme_of text) l ++ pieces_from (length text - 0) (Begins kind) text) (sym none)

pub token_at : (whole : Lexemes) (text slice behind : List Character) (e : Character) (fuel next_fuel : ℕ) (m : Mode) (at : ℕ) (s : Step) (found longer : List Token)
    → slice ≡ drop at text → 1 ≤ length slice → behind ≡ drop 1 slice → IsStep (get_or slice 0 e) behind (step_past_blank m (get_or slice 0 e) behind) s
    → whole ≡ seen text found ++ pieces_from fuel m (drop at text) → 0 < fuel → next_fuel ≡ fuel - 1
    → longer ≡ found ++ option_to_list (option_map (shifted at) s.token) → length text ≤ 18446744073709551615
    → whole ≡ seen text longer ++ pieces_from next_fuel s.next (drop (at + s.len) text)
token_at whole text slice behind e fuel next_fuel m at s found longer slice_is full behind_is is start some less more short =
    let there : drop at text ≡ get_or slice 0 e ∷ behind = sym slice_is ∙ front slice e full ∙ ap (λ l. get_or slice 0 e ∷ l) (sym behind_is) in
    token_on whole text fuel next_fuel m at (get_or slice 0 e) behind s found longer start some less there is more short

pub token_within : (text slice behind : List Character) (at len : ℕ) → slice ≡ drop at text → 1 ≤ length slice → behind ≡ drop 1 slice
    → len ≤ suc (length behind) → at ≤ length text → at + len ≤ length text
token_within text slice behind at len slice_is full behind_is fits low =
    omega (arith, ap length slice_is, length-drop at text, ap length behind_is, length-drop 1 slice)

pub tokens_short : (whole : Lexemes) (text slice : List Character) (at fuel : ℕ) (m : Mode) (found : List Token) → slice ≡ drop at text
    → whole ≡ seen text found ++ pieces_from fuel m (drop at text) → length slice < 1 → seen text found ≡ whole
tokens_short whole text slice at fuel m found is start short =
    tokens_end whole text fuel m slice found (start ∙ ap (λ l. seen text found ++ pieces_from fuel m l) (sym is)) (inl short)

pub accepted : (kind : StmtKind) (text : List Character) (found : TokenList) → found.text ≡ text → seen found.text found.tokens ≡ pieces kind text
    → None ≡ first_lexical_row kind (seen found.text found.tokens) → IsTokenList kind text found
accepted kind text found is same none = record {
  characters = is;
  tokens = ap (λ t. seen t found.tokens) (sym is) ∙ same;
  accepted = ap (λ l. first_lexical_row kind l) (sym same) ∙ sym none;
}

pub refused : (kind : StmtKind) (text : List Character) (found : TokenList) (row : Kind) → seen found.text found.tokens ≡ pieces kind text
    → Some row ≡ first_lexical_row kind (seen found.text found.tokens) → first_lexical_row kind (pieces kind text) ≡ Some row
refused kind text found row same some = ap (λ l. first_lexical_row kind l) (sym same) ∙ sym some
