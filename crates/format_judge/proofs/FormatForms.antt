-- The rows of each form of a statement and of lists, and texts that are formats.
use Rattle.std.specs.Prelude.{◌≡◌, ℕ, true, false, List, [], ◌∷◌, ◌++◌, Option, Some, None, is_some}
use Rattle.std.proofs.Common.{take, drop, length, subst, refl, sym, ap, ◌∙◌}
use Rattle.std.proofs.lemmas.List.{map-append, take_at}
use Rattle.f_tree.specs.Values.{Bytes}
use Rattle.f_tree.specs.Folds.{folds_opened}
use Rattle.f_tree.specs.declared.expressions.Expr.{Expr}
use Rattle.f_tree.specs.declared.refusals.Kind.{Kind}
use Rattle.f_tree.specs.declared.statements.Body.{Body, Format, Transfer, IfOne', more_of-Body, end_of-Body}
use Rattle.f_tree.specs.declared.statements.Body.TheVariants as body
use Rattle.f_tree.specs.declared.statements.Control.{Control}
use Rattle.f_tree.specs.declared.statements.Direction.{Direction}
use Rattle.f_tree.specs.declared.statements.ListItem.{ListItem}
use Rattle.f_tree.specs.declared.statements.Stmt.{Stmt}
use Rattle.edit_rules.specs.edit_meaning.Formats as formats
use Rattle.edit_rules.specs.declared.format_check.BadFormat.{BadFormat}
use Rattle.std.proofs.Common.{Result, Ok, Err, MatchResult}
use Rattle.std.specs.Result.{is_ok}
use Rattle.edit_rules.specs.edit_meaning.FormatGrammar.{IsFormat}
use Rattle.edit_rules.specs.edit_meaning.FormatTexts.{format_of}
use Rattle.edit_rules.specs.FormatChecks.{IsFront, IsRefusedAt}
use Rattle.edit_rules.proofs.FormatLaws.{format_of_is, fronts, spelled_front}
use Rattle.declaration_rows.specs.FormatRows.{format_text_rows}
use Rattle.declaration_rows.specs.NameRows.{stood}
use Rattle.expression_judge.specs.declared.names.Names.{Names}
use Rattle.format_judge.specs.FormatsFound.{word_found, words_found, layer_found, body_found, rows_found}

pub found-Format : (names : Names) (text : Bytes) → body_found names (body.Format text) ≡ format_text_rows text
unfolding folds_opened body_found layer_found
found-Format names text = refl

pub found-Transfer : (names : Names) (way : Direction) (controls : List Control) (items : List ListItem) → body_found names (body.Transfer way controls items) ≡ words_found names controls
unfolding folds_opened body_found layer_found
found-Transfer names way controls items = refl

pub found-IfOne : (names : Names) (e : Expr) (b : Body) → body_found names (body.IfOne e b) ≡ body_found names b
unfolding folds_opened body_found layer_found
found-IfOne names e b = refl

pub found_other : (names : Names) (b : Body) → ((text : Bytes) → b ≡ body.Format text → ⊥) → ((way : Direction) (controls : List Control) (items : List ListItem) → b ≡ body.Transfer way controls items → ⊥)
    → ((e : Expr) (c : Body) → b ≡ body.IfOne e c → ⊥) → body_found names b ≡ []
unfolding folds_opened body_found layer_found
found_other names (Format text) one two three = absurd (one text refl)
found_other names (Transfer way controls items) one two three = absurd (two way controls items refl)
found_other names (IfOne' e s (more_of-Body b end_of-Body)) one two three = absurd (three e b refl)
found_other names _ one two three = refl

stood_append : (s : Stmt) (ks ls : List Kind) → stood s (ks ++ ls) ≡ stood s ks ++ stood s ls
unfolding stood
stood_append s ks ls = map-append (λ (k : Kind). record { file = s.file; card = s.card; kind = k }) ks ls

pub words_step : (names : Names) (s : Stmt) (c : Control) (cs : List Control) → stood s (words_found names (c ∷ cs)) ≡ stood s (word_found names c.word c.value) ++ stood s (words_found names cs)
unfolding words_found
words_step names s c cs = stood_append s (word_found names c.word c.value) (words_found names cs)

pub words_end : (names : Names) (s : Stmt) → stood s (words_found names []) ≡ []
unfolding words_found stood
words_end names s = refl

pub rows_step : (names : Names) (s : Stmt) (ss : List Stmt) → rows_found names (s ∷ ss) ≡ stood s (body_found names s.body) ++ rows_found names ss
unfolding rows_found
rows_step names s ss = refl

pub rows_end : (names : Names) → rows_found names [] ≡ []
unfolding rows_found
rows_end names = refl

-- a text begins with a format where a front of it is one
pub front_is_format : (text : List ℕ) (size : ℕ) → IsFront text size → true ≡ is_some (format_of text)
front_is_format text size front =
    sym (ap is_some ((format_of_is text front.format).1 (drop size text, spelled_front text size front.format front.spelled)))

none_by : (o : Option formats.Format) → ((f : formats.Format) → o ≡ Some f → ⊥) → false ≡ is_some o
none_by None h = refl
none_by (Some f) h = absurd (h f refl)

-- the front as it is taken from the text
front_at : (text front after : List ℕ) (f : formats.Format) → text ≡ front ++ after → IsFormat f front → IsFormat f (take (length front) text)
front_at text front after f is spelled =
    let P : List ℕ → Type 0 = λ z. IsFormat f z in
    subst P (sym (ap (take (length front)) is ∙ take_at front after (length front) refl)) spelled

pub refused_is_none : (text : List ℕ) (place : ℕ) → IsRefusedAt text place → false ≡ is_some (format_of text)
refused_is_none text place refused = none_by (format_of text) (λ f is.
    let spelled = (format_of_is text f).0 is in
    let front = (fronts text spelled.0 f).0 spelled.1 in
    refused.none (length front.0) f (front_at text front.0 spelled.0 f front.1 front.2))

pub format_by : (text : List ℕ) (r : Result ℕ BadFormat) → MatchResult r (λ (size : ℕ). IsFront text size) (λ (bad : BadFormat). IsRefusedAt text bad.place)
    → is_ok r ≡ is_some (format_of text)
format_by text (Ok size) front = front_is_format text size front
format_by text (Err bad) refused = refused_is_none text bad.place refused
