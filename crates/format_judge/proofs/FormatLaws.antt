-- The rows by a table of the names are the rows by what is known of them.
use Rattle.std.specs.Prelude.{◌≡◌, true, false, ◌||◌, List, [], ◌∷◌, ◌++◌, Option, Some, None}
use Rattle.std.proofs.Common.{refl, sym, ap, ◌∙◌}
use Rattle.f_tree.specs.Values.{Bytes}
use Rattle.f_tree.specs.Folds.{fold_body, folds_opened}
use Rattle.f_tree.specs.Uses.{heading_of}
use Rattle.f_tree.specs.declared.names.Class.{Class}
use Rattle.f_tree.specs.declared.names.Class.TheVariants as class
use Rattle.f_tree.specs.declared.expressions.Expr.{Expr}
use Rattle.f_tree.specs.declared.refusals.Kind.TheVariants.{BadFormat}
use Rattle.f_tree.specs.declared.statements.Body.{Body, Format, Transfer, IfOne', more_of-Body}
use Rattle.f_tree.specs.declared.statements.Control.{Control}
use Rattle.f_tree.specs.declared.statements.ControlValue.{ControlValue}
use Rattle.f_tree.specs.declared.statements.ControlValue.TheVariants as value
use Rattle.f_tree.specs.declared.statements.ControlWord.{ControlWord}
use Rattle.f_tree.specs.declared.statements.ControlWord.TheVariants as word
use Rattle.f_tree.specs.declared.statements.Stmt.{Stmt}
use Rattle.declaration_rows.specs.Judgement.{What, AValue, APlace, AnArray, AProcedureName, AFunctionName, AnExit, NoOperand, Known, unless, judge}
use Rattle.declaration_rows.specs.NameRows.{stood}
use Rattle.declaration_rows.specs.FormatRows as rows
use Rattle.declaration_rows.specs.FormatRows.{literal_of, format_word_rows, format_words_rows, layer_format_rows, format_rows_from}
use Rattle.expression_judge.specs.declared.names.Names.{Names}
use Rattle.expression_judge.specs.declared.operand.Found.{Found}
use Rattle.expression_judge.specs.SeenNames.{AreSeen}
use Rattle.expression_judge.specs.FoundSteps.{judged_by}
use Rattle.expression_judge.specs.Operands.{operand_of, found}
use Rattle.expression_judge.proofs.FoundLaws.{expression-found}
use Rattle.format_judge.specs.FormatsFound.{is_constant_class, is_constant_name, is_identifier, identifies, identifier_found, value_found, word_found, words_found, layer_found, body_found, rows_found}

constant_class : (c : Class) → is_constant_class c ≡ elim c [ class.Constant ↦ true | _ ↦ false ]
unfolding is_constant_class
constant_class class.Constant = refl
constant_class class.Stored = refl
constant_class class.Dummy = refl
constant_class class.Result = refl
constant_class class.Procedure = refl
constant_class class.DummyProcedure = refl
constant_class class.StatementFunction = refl
constant_class class.Intrinsic = refl
constant_class class.Unit = refl

identifier_operand : (w : What) → is_identifier (operand_of w) ≡ rows.is_identifier w
unfolding is_identifier operand_of rows.is_identifier
identifier_operand AValue = refl
identifier_operand APlace = refl
identifier_operand (AnArray sized) = refl
identifier_operand AProcedureName = refl
identifier_operand AFunctionName = refl
identifier_operand (AnExit label) = refl
identifier_operand NoOperand = refl

module _ (known : Known) (names : Names) (agree : AreSeen known names) where
  constant_name : (o : Option Bytes) → is_constant_name names o ≡ rows.is_constant_name known o
  unfolding is_constant_name rows.is_constant_name
  constant_name None = refl
  constant_name (Some x) = ap is_constant_class (agree.facts x).class ∙ constant_class (known.attribute x).class

  judged_what : (e : Expr) → is_identifier (judged_by names e).what ≡ rows.is_identifier (judge known e).what
  unfolding found
  judged_what e = ap (λ (f : Found). is_identifier f.what) (sym (expression-found known names agree e)) ∙ identifier_operand (judge known e).what

  identifies_alike : (e : Expr) → identifies names e ≡ (rows.is_constant_name known (heading_of e).alone || rows.is_identifier (judge known e).what)
  unfolding identifies
  identifies_alike e =
      ap (λ b. b || is_identifier (judged_by names e).what) (constant_name (heading_of e).alone)
      ∙ ap (λ b. rows.is_constant_name known (heading_of e).alone || b) (judged_what e)

  identifier_alike : (e : Expr) (o : Option Bytes) → identifier_found names e o ≡ rows.identifier_rows known e o
  unfolding identifier_found rows.identifier_rows
  identifier_alike e (Some text) = refl
  identifier_alike e None = ap (λ b. unless b BadFormat) (identifies_alike e)

  word_alike : (w : ControlWord) (v : ControlValue) → word_found names w v ≡ format_word_rows known w v
  unfolding word_found value_found format_word_rows
  word_alike word.Format (value.Value e) = identifier_alike e (literal_of e)
  word_alike word.Format value.Star = refl
  word_alike word.Format (value.Label label) = refl
  word_alike word.Unit v = refl
  word_alike word.Status v = refl
  word_alike word.OnError v = refl
  word_alike word.OnEnd v = refl
  word_alike word.File v = refl
  word_alike word.FileStatus v = refl
  word_alike word.Access v = refl
  word_alike word.Form v = refl
  word_alike word.Blank v = refl

  words_alike : (cs : List Control) → words_found names cs ≡ format_words_rows known cs
  unfolding words_found format_words_rows
  words_alike [] = refl
  words_alike (c ∷ cs) = ap (λ ks. ks ++ words_found names cs) (word_alike c.word c.value) ∙ ap (λ ks. format_word_rows known c.word c.value ++ ks) (words_alike cs)

  body_alike : (b : Body) → body_found names b ≡ fold_body (layer_format_rows known) b
  unfolding folds_opened body_found layer_found layer_format_rows
  body_alike (Format text) = refl
  body_alike (Transfer way controls items) = words_alike controls
  body_alike (IfOne' e s (more_of-Body b r)) = body_alike b
  body_alike _ = refl

  pub rows_alike : (ss : List Stmt) → rows_found names ss ≡ format_rows_from known ss
  unfolding rows_found format_rows_from
  rows_alike [] = refl
  rows_alike (s ∷ ss) = ap (λ ks. stood s ks ++ rows_found names ss) (body_alike s.body) ∙ ap (λ rs. stood s (fold_body (layer_format_rows known) s.body) ++ rs) (rows_alike ss)
