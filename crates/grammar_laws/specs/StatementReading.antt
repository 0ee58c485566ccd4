-- The readers of the statements that assign, branch, loop, call and end: one for each form.
use Rattle.std.specs.Prelude.{ℕ, List, [], Some, None}
use Rattle.fortran_grammar.specs.f_tree.declared.expressions.Expr.{Expr}
use Rattle.fortran_grammar.specs.f_tree.declared.expressions.Expr as expr
use Rattle.fortran_grammar.specs.f_tree.declared.statements.Body.{Body}
use Rattle.fortran_grammar.specs.f_tree.declared.statements.Body as body
use Rattle.fortran_grammar.specs.f_tree.declared.statements.DummyArgument.{DummyArgument}
use Rattle.fortran_grammar.specs.f_tree.declared.statements.DummyArgument.TheVariants as dummy
use Rattle.fortran_grammar.specs.f_tree.declared.statements.LoopControl.{LoopControl}
use Rattle.fortran_grammar.specs.Forms.{listed, Open, Close, Comma, Equals, Star, ToWord, ThenWord}
use Rattle.fortran_grammar.specs.StatementForms.{if_sign, loop_of, arguments_of, stop_text, format_text}
use Rattle.grammar_laws.specs.Exactness.{Reader}
use Rattle.grammar_laws.specs.ExpressionReading.{read_expression, read_place}
use Rattle.grammar_laws.specs.FormReading.{said, piece, after, up_to, both, either, maybe, meant, separated, enclosed, with_comma, a_name, a_label, a_quoted}

abbrev pub target_form : Reader Expr
target_form = either (meant (λ name. expr.Apply name []) (up_to (up_to a_name Open) Close)) read_place

abbrev pub assignment_form : Reader Body
assignment_form = meant (λ p. body.Assign p.0 p.1) (both target_form (after Equals read_expression))

abbrev pub assign_form : Reader Body
assign_form = meant (λ p. body.AssignLabel p.0 p.1) (both a_label (after ToWord a_name))

abbrev pub labels_form : Reader (List ℕ)
labels_form = enclosed (separated a_label)

abbrev pub plain_goto_form : Reader Body
plain_goto_form = meant body.Goto a_label

abbrev pub computed_goto_form : Reader Body
computed_goto_form = meant (λ p. body.GotoList p.0 p.1) (both labels_form (with_comma read_expression))

abbrev pub assigned_goto_form : Reader Body
assigned_goto_form = meant (λ p. body.GotoName p.0 (listed p.1)) (both a_name (maybe (with_comma labels_form)))

abbrev pub goto_form : Reader Body
goto_form = either plain_goto_form (either computed_goto_form assigned_goto_form)

abbrev pub test_form : Reader Expr
test_form = enclosed read_expression

abbrev pub sign_labels_form : Reader (ℕ × (ℕ × ℕ))
sign_labels_form = both a_label (after Comma (both a_label (after Comma a_label)))

abbrev pub arithmetic_if_form : Reader Body
arithmetic_if_form = meant if_sign (both test_form sign_labels_form)

abbrev pub block_if_form : Reader Body
block_if_form = meant body.IfThen (up_to test_form ThenWord)

abbrev pub else_if_form : Reader Body
else_if_form = meant body.ElseIf (up_to test_form ThenWord)

abbrev pub loop_form : Reader LoopControl
loop_form =
    meant loop_of
    (both a_name (after Equals (both read_expression (after Comma (both read_expression (maybe (after Comma read_expression)))))))

abbrev pub do_form : Reader Body
do_form = either (meant (λ p. body.Do (Some p.0) p.1) (both a_label (with_comma loop_form))) (meant (body.Do None) loop_form)

abbrev pub do_while_form : Reader Body
do_while_form = either (meant (λ p. body.DoWhile (Some p.0) p.1) (both a_label (with_comma test_form)))
    (meant (body.DoWhile None) test_form)

abbrev pub argument_form : Reader Expr
argument_form = either read_expression (meant expr.AltReturn (after Star a_label))

abbrev pub call_form : Reader Body
call_form = meant (λ p. body.Call p.0 (arguments_of p.1)) (both a_name (maybe (enclosed (maybe (separated argument_form)))))

abbrev pub return_form : Reader Body
return_form = meant body.Return (maybe read_expression)

abbrev pub stop_form : Reader Body
stop_form = meant (λ text. body.Stop (listed text)) (maybe (piece stop_text))

abbrev pub dummy_form : Reader DummyArgument
dummy_form = either (meant dummy.Named a_name) (after Star (said dummy.AlternateReturn))

abbrev pub entry_form : Reader Body
entry_form = meant (λ p. body.Entry p.0 (arguments_of p.1)) (both a_name (maybe (enclosed (maybe (separated dummy_form)))))

abbrev pub format_form : Reader Body
format_form = meant body.Format (piece format_text)

abbrev pub include_form : Reader Body
include_form = meant body.Include a_quoted
