-- The readers of the statements that assign, branch, loop, call and end are exact.
use Rattle.std.proofs.Common.{◌≡◌, ℕ, true, List, [], ◌∷◌, Option, Some, None, refl, subst}
use Rattle.std.specs.Prelude.{ℕ, List, [], ◌∷◌, Option, Some, None}
use Rattle.fortran_grammar.specs.f_tree.declared.expressions.Expr.{Expr}
use Rattle.fortran_grammar.specs.f_tree.declared.expressions.Expr as expr
use Rattle.fortran_grammar.specs.f_tree.declared.statements.Body.{Body}
use Rattle.fortran_grammar.specs.f_tree.declared.statements.Body as body
use Rattle.fortran_grammar.specs.f_tree.declared.statements.DummyArgument.TheVariants as dummy
use Rattle.fortran_grammar.specs.fortran_lexemes.Lexemes.{Lexeme, Number, Quoted, FormatText}
use Rattle.fortran_grammar.specs.fortran_lexemes.Lexemes.{Lexemes}
use Rattle.fortran_grammar.specs.ExpressionSpelling as spell
use Rattle.fortran_grammar.specs.ExpressionSpelling.{SpellsExpression, SpellsPlace, SpellsArguments, SpellsBounds}
use Rattle.fortran_grammar.specs.Forms.{sort, behind, Piece, Meant, UpTo, AName, listed, NumberPiece, QuotedPiece, FormatPiece, Open, Close, Comma, Equals, Star, ToWord, ThenWord}
use Rattle.fortran_grammar.specs.StatementForms.{if_sign, loop_of, arguments_of, stop_text, format_text, SignLabelsForm, TargetForm, AssignmentForm, AssignForm, LabelsForm, PlainGotoForm, ComputedGotoForm, AssignedGotoForm, GotoForm, TestForm, ArithmeticIfForm, BlockIfForm, ElseIfForm, LoopForm, DoForm, DoWhileForm, ArgumentForm, CallForm, ReturnForm, StopForm, DummyForm, EntryForm, FormatForm, IncludeForm}
use Rattle.grammar_laws.specs.FormReading.{piece, up_to, meant, a_name}
use Rattle.grammar_laws.specs.StatementReading.{sign_labels_form, target_form, assignment_form, assign_form, labels_form, plain_goto_form, computed_goto_form, assigned_goto_form, goto_form, test_form, arithmetic_if_form, block_if_form, else_if_form, loop_form, do_form, do_while_form, argument_form, call_form, return_form, stop_form, dummy_form, entry_form, format_form, include_form}
use Rattle.grammar_laws.proofs.FormTests.{or_else, is}
use Rattle.grammar_laws.proofs.FormKnown.{Known, known_after, known_up_to, known_enclosed, known_with_comma, known_maybe, known_separated, known_meant, known_both, known_either, known_either_first, known_said, known_piece, known_name, known_label, known_quoted, known_expression, known_place, beginning, not_open, expression_told}

-- the pieces that are read alone
pub stop_first : (p : Lexeme) (more : Lexemes) (x : List ℕ) → stop_text p ≡ Some x
    → or_else (is NumberPiece) (is QuotedPiece) (sort (p ∷ more)) ≡ true
unfolding stop_text sort
stop_first (Number digits value) more x h = refl
stop_first (Quoted text) more x h = refl
stop_first other more x h = absurd (cc)

abbrev pub stop_text_known : Known (piece stop_text) (Piece stop_text)
stop_text_known = known_piece stop_text (or_else (is NumberPiece) (is QuotedPiece)) stop_first

pub format_first : (p : Lexeme) (more : Lexemes) (x : List ℕ) → format_text p ≡ Some x → is FormatPiece (sort (p ∷ more)) ≡ true
unfolding format_text sort
format_first (FormatText text) more x h = refl
format_first other more x h = absurd (cc)

abbrev pub format_text_known : Known (piece format_text) (Piece format_text)
format_text_known = known_piece format_text (is FormatPiece) format_first

-- a name with `()` is no place
arguments_begin : (es : List Expr) (inner after : Lexemes) → SpellsArguments es inner after → beginning (sort inner) ≡ true
arguments_begin _ _ _ (spell.last_argument e inner after s) = expression_told.begins e inner _ s
arguments_begin _ _ _ (spell.one_argument e es inner behind' after s more) = expression_told.begins e inner _ s

no_end : (inner : Lexemes) → beginning (sort inner) ≡ true → sort inner ≡ Close → ⊥
no_end inner begins h = let e = subst (λ s. beginning s ≡ true) h begins in absurd (cc)

bounds_begin : (first last : Option Expr) (inner after : Lexemes) → SpellsBounds first last inner after → sort inner ≡ Close → ⊥
unfolding sort
bounds_begin _ _ _ _ (spell.from_first last inner after s) h = absurd (cc)
bounds_begin _ _ _ _ (spell.from_place e last inner middle after s more) h = no_end inner (expression_told.begins e inner _ s) h

no_call : (e : Expr) (before after : Lexemes) → SpellsPlace e before after → not_open (sort after) ≡ true → sort (behind before) ≡ Open
    → sort (behind (behind before)) ≡ Close → ⊥
unfolding behind
no_call _ _ _ (spell.name x after) ok opened closed = let e = subst (λ s. not_open s ≡ true) opened ok in absurd (cc)
no_call _ _ _ (spell.element x es inner after s) ok opened closed = no_end inner (arguments_begin es inner after s) closed
no_call _ _ _ (spell.part_of_variable x f l inner after s) ok opened closed = bounds_begin f l inner after s closed
no_call _ _ _ (spell.part_of_element x es f l inner middle after s t) ok opened closed = no_end inner (arguments_begin es inner _ s)
    closed

abbrev called : List ℕ → Expr
called name = expr.Apply name []

abbrev pub call_known : Known (meant called (up_to (up_to a_name Open) Close)) (Meant called (UpTo (UpTo AName Open) Close))
call_known = known_meant called (known_up_to (known_up_to known_name Open refl) Close refl)

pub place_refuses_call : (e : Expr) (before after : Lexemes) → SpellsPlace e before after → not_open (sort after) ≡ true
    → meant called (up_to (up_to a_name Open) Close) before ≡ None
unfolding Meant UpTo Piece
place_refuses_call e before after h ok = from (meant called (up_to (up_to a_name Open) Close) before) refl
  where
    from : (o : Option (Expr × Lexemes)) → meant called (up_to (up_to a_name Open) Close) before ≡ o → o ≡ None
    from None found = refl
    from (Some r) found =
        let s = call_known.told.exact.sound r.0 before r.1 found in
        let inner = s.2 in
        let name = inner.1 in
        absurd (no_call e before after h ok (subst (λ m. sort m ≡ Open) name.1.1 name.2)
        (subst (λ m. sort (behind m) ≡ Close) name.1.1 (subst (λ m. sort m ≡ Close) name.3 inner.2)))

abbrev pub target_form_known : Known target_form TargetForm
target_form_known = known_either_first call_known known_place place_refuses_call

abbrev pub assignment_form_known : Known assignment_form AssignmentForm
assignment_form_known = known_meant (λ p. body.Assign p.0 p.1) (known_both target_form_known (known_after known_expression Equals) refl)

abbrev pub assign_form_known : Known assign_form AssignForm
assign_form_known = known_meant (λ p. body.AssignLabel p.0 p.1) (known_both known_label (known_after known_name ToWord) refl)

abbrev pub labels_form_known : Known labels_form LabelsForm
labels_form_known = known_enclosed (known_separated known_label refl) refl

abbrev pub plain_goto_form_known : Known plain_goto_form PlainGotoForm
plain_goto_form_known = known_meant body.Goto known_label

abbrev pub computed_goto_form_known : Known computed_goto_form ComputedGotoForm
computed_goto_form_known = known_meant (λ p. body.GotoList p.0 p.1)
    (known_both labels_form_known (known_with_comma known_expression refl) refl)

abbrev pub assigned_goto_form_known : Known assigned_goto_form AssignedGotoForm
assigned_goto_form_known = known_meant (λ p. body.GotoName p.0 (listed p.1))
    (known_both known_name (known_maybe (known_with_comma labels_form_known refl)) refl)

abbrev pub goto_form_known : Known goto_form GotoForm
goto_form_known = known_either plain_goto_form_known (known_either computed_goto_form_known assigned_goto_form_known refl) refl

abbrev pub test_form_known : Known test_form TestForm
test_form_known = known_enclosed known_expression refl

abbrev pub sign_labels_form_known : Known sign_labels_form SignLabelsForm
sign_labels_form_known = known_both known_label (known_after (known_both known_label (known_after known_label Comma) refl) Comma) refl

abbrev pub arithmetic_if_form_known : Known arithmetic_if_form ArithmeticIfForm
arithmetic_if_form_known = known_meant if_sign (known_both test_form_known sign_labels_form_known refl)

abbrev pub block_if_form_known : Known block_if_form BlockIfForm
block_if_form_known = known_meant body.IfThen (known_up_to test_form_known ThenWord refl)

abbrev pub else_if_form_known : Known else_if_form ElseIfForm
else_if_form_known = known_meant body.ElseIf (known_up_to test_form_known ThenWord refl)

abbrev pub loop_form_known : Known loop_form LoopForm
loop_form_known = known_meant loop_of (known_both known_name
    (known_after (known_both known_expression (known_after (known_both known_expression (known_maybe (known_after known_expression Comma))
    refl) Comma) refl) Equals) refl)

abbrev pub do_form_known : Known do_form DoForm
do_form_known = known_either (known_meant (λ p. body.Do (Some p.0) p.1)
    (known_both known_label (known_with_comma loop_form_known refl) refl)) (known_meant (body.Do None) loop_form_known) refl

abbrev pub do_while_form_known : Known do_while_form DoWhileForm
do_while_form_known = known_either (known_meant (λ p. body.DoWhile (Some p.0) p.1)
    (known_both known_label (known_with_comma test_form_known refl) refl)) (known_meant (body.DoWhile None) test_form_known) refl

abbrev pub argument_form_known : Known argument_form ArgumentForm
argument_form_known = known_either known_expression (known_meant expr.AltReturn (known_after known_label Star)) refl

abbrev pub call_form_known : Known call_form CallForm
call_form_known = known_meant (λ p. body.Call p.0 (arguments_of p.1))
    (known_both known_name (known_maybe (known_enclosed (known_maybe (known_separated argument_form_known refl)) refl)) refl)

abbrev pub return_form_known : Known return_form ReturnForm
return_form_known = known_meant body.Return (known_maybe known_expression)

abbrev pub stop_form_known : Known stop_form StopForm
stop_form_known = known_meant (λ text. body.Stop (listed text)) (known_maybe stop_text_known)

abbrev pub dummy_form_known : Known dummy_form DummyForm
dummy_form_known = known_either (known_meant dummy.Named known_name) (known_after (known_said dummy.AlternateReturn) Star) refl

abbrev pub entry_form_known : Known entry_form EntryForm
entry_form_known = known_meant (λ p. body.Entry p.0 (arguments_of p.1))
    (known_both known_name (known_maybe (known_enclosed (known_maybe (known_separated dummy_form_known refl)) refl)) refl)

abbrev pub format_form_known : Known format_form FormatForm
format_form_known = known_meant body.Format format_text_known

abbrev pub include_form_known : Known include_form IncludeForm
include_form_known = known_meant body.Include known_quoted
