-- Which written formats are none (F44), which ask for an edit descriptor that is not supported (F45), and what is no format identifier
-- (F44). ANSI X3.9-1978, sections 12.4 (format identifiers), 13.1 (formats) and 13.5 (edit descriptors).
use Rattle.std.specs.Prelude.{ℕ, Bool, true, false, not, ◌&&◌, ◌||◌, ◌==◌, List, [], ◌∷◌, ◌++◌, Option, Some, None, is_some, if◌then◌else◌}
use Rattle.std.specs.List.{list_any}
use Rattle.fortran_text.specs.f_tree.declared.names.Class.TheVariants as class
use Rattle.fortran_text.specs.f_tree.declared.expressions.Expr.{Expr}
use Rattle.fortran_text.specs.f_tree.declared.expressions.Expr.TheOpen as expr
use Rattle.fortran_text.specs.f_tree.declared.refusals.Kind.{Kind}
use Rattle.fortran_text.specs.f_tree.declared.refusals.Kind.TheVariants.{BadFormat, EditDescriptorNotSupported}
use Rattle.fortran_text.specs.f_tree.declared.refusals.Refusal.{Refusal}
use Rattle.fortran_text.specs.f_tree.declared.statements.Body.TheOpen as body
use Rattle.fortran_text.specs.f_tree.declared.statements.Control.{Control}
use Rattle.fortran_text.specs.f_tree.declared.statements.ControlValue.{ControlValue}
use Rattle.fortran_text.specs.f_tree.declared.statements.ControlValue.TheVariants as value
use Rattle.fortran_text.specs.f_tree.declared.statements.ControlWord.{ControlWord}
use Rattle.fortran_text.specs.f_tree.declared.statements.ControlWord.TheVariants as word
use Rattle.fortran_text.specs.f_tree.declared.statements.Stmt.{Stmt}
use Rattle.fortran_text.specs.f_tree.declared.units.Unit.{Unit as WrittenUnit}
use Rattle.fortran_text.specs.f_tree.Values.{Bytes}
use Rattle.fortran_text.specs.f_tree.Folds.{fold_expr, fold_body}
use Rattle.fortran_text.specs.f_tree.Uses.{heading_of}
use Rattle.fortran_text.specs.edit_meaning.FormatTexts.{format_of}
use Rattle.fortran_text.specs.CharactersOfText.{counting, behind, after, shown, characters_from}
use Rattle.fortran_text.specs.declared.characters.Character.{Character}
use Rattle.fortran_text.specs.declared.characters.Standing.TheVariants.{Outside}
use Rattle.declaration_rows.specs.Judgement.{What, APlace, AnArray, NoOperand, Known, unless, judge}
use Rattle.declaration_rows.specs.NameRows.{known_in, stood}

-- F, E, D or G, outside the texts of a format
unfoldable pub is_real_letter : Character → Bool
is_real_letter c = not c.quoted && (c.code == 102 || (c.code == 101 || (c.code == 100 || c.code == 103)))

unfoldable pub has_real_letter : List ℕ → Bool
has_real_letter text = list_any is_real_letter (characters_from true (Outside None) text)

-- the text of a written format
unfoldable pub format_text_rows : List ℕ → List Kind
format_text_rows text =
    if has_real_letter text then EditDescriptorNotSupported ∷ [] else unless (is_some (format_of text)) BadFormat

-- a format identifier that is an expression: a character constant, a variable, an array, an element or a substring
unfoldable pub layer_literal : expr.Expr-F (Option Bytes) → Option Bytes
layer_literal (expr.Text cs) = Some cs
layer_literal _ = None

unfoldable pub literal_of : Expr → Option Bytes
literal_of e = fold_expr layer_literal e

unfoldable pub is_constant_name : Known → Option Bytes → Bool
is_constant_name known None = false
is_constant_name known (Some x) = elim (known.attribute x).class [ class.Constant ↦ true | _ ↦ false ]

unfoldable pub is_identifier : What → Bool
is_identifier APlace = true
is_identifier (AnArray sized) = true
is_identifier NoOperand = true
is_identifier _ = false

unfoldable pub identifier_rows : Known → Expr → Option Bytes → List Kind
identifier_rows known e (Some text) = format_text_rows text
identifier_rows known e None = unless (is_constant_name known (heading_of e).alone || is_identifier (judge known e).what) BadFormat

unfoldable pub format_word_rows : Known → ControlWord → ControlValue → List Kind
format_word_rows known word.Format (value.Value e) = identifier_rows known e (literal_of e)
format_word_rows known _ _ = []

unfoldable pub format_words_rows : Known → List Control → List Kind
format_words_rows known [] = []
format_words_rows known (c ∷ cs) = format_word_rows known c.word c.value ++ format_words_rows known cs

unfoldable pub layer_format_rows : Known → body.Body-F (List Kind) → List Kind
layer_format_rows known (body.Format text) = format_text_rows text
layer_format_rows known (body.Transfer way controls items) = format_words_rows known controls
layer_format_rows known (body.IfOne e rows) = rows
layer_format_rows known _ = []

unfoldable pub format_rows_from : Known → List Stmt → List Refusal
format_rows_from known [] = []
format_rows_from known (s ∷ ss) = stood s (fold_body (layer_format_rows known) s.body) ++ format_rows_from known ss

unfoldable pub unit_format_rows : WrittenUnit → List Refusal
unit_format_rows u = format_rows_from (known_in u) u.statements

unfoldable pub format_rows_opened : Unit {0}
unfolding counting behind after shown characters_from format_of is_real_letter has_real_letter format_text_rows layer_literal literal_of is_constant_name is_identifier identifier_rows format_word_rows format_words_rows layer_format_rows format_rows_from unit_format_rows
format_rows_opened = tt
