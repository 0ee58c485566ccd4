-- The name in an INCLUDE statement, by its tokens.
use Rattle.std.specs.Prelude.{◌≡◌, ℕ, Bool, List, [], ◌∷◌, Option, Some, None}
use Rattle.std.proofs.Common.{refl, sym, ap, ◌∙◌, subst}
use Rattle.f_tree.specs.declared.refusals.Kind.{Kind}
use Rattle.fortran_text.specs.CharactersOfText.{characters}
use Rattle.fortran_text.specs.declared.characters.Character.{Character}
use Rattle.fortran_text.specs.declared.source.Statement.{Statement}
use Rattle.fortran_lexemes.specs.Lexemes.{Lexemes, Word, Quoted}
use Rattle.fortran_lexemes.specs.LexicalRows.{first_lexical_row, has_too_large, is_too_large, has_long_name, is_long_name, has_bad_quote, is_bad_quote, has_other_type, begins_other_type, is_other_type, is_number, is_point, is_sized_type, first_is, has_other_statement, is_other_statement, begins_other_control, has_other_controls, takes_controls, is_too_deep, is_deeper, depth_after}
use Rattle.fortran_lexemes.specs.PiecesOfStatements.{pieces}
use Rattle.fortran_lexemes.specs.PiecesOfText.{undoubled}
use Rattle.fortran_lexemes.specs.declared.kinds.StmtKind.TheVariants as kind
use Rattle.fortran_grammar.specs.UnitsOfFile.{is_labelled, pieces_of}
use Rattle.stmt_lex.specs.SeenTokens.{seen, lexeme_of, spanned}
use Rattle.stmt_lex.specs.TokensOfTexts.{IsTokenList, IsLexFail}
use Rattle.stmt_lex.specs.declared.token.LexFail.{LexFail}
use Rattle.stmt_lex.specs.declared.token.LexFail.TheVariants.{Refused}
use Rattle.stmt_lex.specs.declared.token.Span.{Span}
use Rattle.stmt_lex.specs.declared.token.Token.{Token}
use Rattle.stmt_lex.specs.declared.token.Token.TheVariants as token
use Rattle.stmt_lex.specs.declared.token.TokenList.{TokenList}
use Rattle.source_acceptance.specs.SourceFiles.{quoted_name}
use Rattle.source_reader.specs.Mentions.{quoted_span}

-- no row of the pieces of such a statement holds
no_row : (name : List ℕ) → first_lexical_row kind.Include (Word kind.Include ∷ Quoted name ∷ []) ≡ None
unfolding first_lexical_row has_too_large is_too_large has_long_name is_long_name has_bad_quote is_bad_quote has_other_type begins_other_type is_other_type is_number is_point is_sized_type first_is has_other_statement is_other_statement begins_other_control has_other_controls takes_controls is_too_deep is_deeper depth_after
no_row name = refl

-- so what has a row has no name
pub refused_name : (found : Lexemes) (row : Kind) → first_lexical_row kind.Include found ≡ Some row → None ≡ quoted_name found
unfolding quoted_name
refused_name (Word kind.Include ∷ Quoted name ∷ []) row is = absurd (let e : None ≡ Some row = sym (no_row name) ∙ is in cc)
refused_name found row is = refl

none_some : {A : Type 0} (a : A) → None ≡ Some a → ⊥
none_some a same = absurd (cc)

-- the name by the tokens
pub name_in_span : (text : List Character) (tokens : List Token) (span : Span) → quoted_span tokens ≡ Some span →
    Some (undoubled (spanned text span)) ≡ quoted_name (seen text tokens)
unfolding quoted_name seen lexeme_of
name_in_span text (token.Word kind.Include ∷ token.Quoted found ∷ []) span is = ap (λ s. Some (undoubled (spanned text s))) (let e : span ≡ found = cc in e)
name_in_span text [] span is = absurd (none_some span is)
name_in_span text (first ∷ []) span is = absurd (none_some span is)
name_in_span text (first ∷ second ∷ third ∷ rest) span is = absurd (none_some span is)
name_in_span text (first ∷ second ∷ []) span is = absurd (none_some span is)

pub no_name_in_span : (text : List Character) (tokens : List Token) → quoted_span tokens ≡ None → None ≡ quoted_name (seen text tokens)
unfolding quoted_name seen lexeme_of
no_name_in_span text (token.Word kind.Include ∷ token.Quoted found ∷ []) is = absurd (none_some found (sym is))
no_name_in_span text tokens is = refl

pieces_are : (s : Statement) → pieces kind.Include (characters (is_labelled s) s.text) ≡ pieces_of kind.Include s
unfolding pieces_of
pieces_are s = refl

pieces_by : (s : Statement) (labelled : Bool) (bytes : List ℕ) → labelled ≡ is_labelled s → bytes ≡ s.text →
    pieces kind.Include (characters labelled bytes) ≡ pieces_of kind.Include s
pieces_by s labelled bytes same bytes_are =
    ap (λ b. pieces kind.Include (characters b bytes)) same ∙ (ap (λ t. pieces kind.Include (characters (is_labelled s) t)) bytes_are ∙ pieces_are s)

-- the name in a statement by the tokens of its text
pub name_in_list : (s : Statement) (labelled : Bool) (bytes : List ℕ) (found : TokenList) (text : List Character) (tokens : List Token) (name : Option (List ℕ)) →
    labelled ≡ is_labelled s → bytes ≡ s.text → IsTokenList kind.Include (characters labelled bytes) found → text ≡ found.text → tokens ≡ found.tokens →
    name ≡ quoted_name (seen text tokens) → name ≡ quoted_name (pieces_of kind.Include s)
name_in_list s labelled bytes found text tokens name same bytes_are list text_is tokens_are name_is =
    name_is ∙ (ap (λ t. quoted_name (seen t tokens)) (text_is ∙ list.characters)
    ∙ (ap (λ l. quoted_name (seen (characters labelled bytes) l)) tokens_are
    ∙ (ap quoted_name list.tokens ∙ ap quoted_name (pieces_by s labelled bytes same bytes_are))))

pub name_of_refused : (s : Statement) (labelled : Bool) (bytes : List ℕ) (f : LexFail) (row : Kind) → labelled ≡ is_labelled s → bytes ≡ s.text → f ≡ Refused row →
    IsLexFail kind.Include (characters labelled bytes) f → None ≡ quoted_name (pieces_of kind.Include s)
name_of_refused s labelled bytes f row same bytes_are is failed =
    refused_name (pieces kind.Include (characters labelled bytes)) row (subst (λ g. IsLexFail kind.Include (characters labelled bytes) g) is failed)
    ∙ ap quoted_name (pieces_by s labelled bytes same bytes_are)
