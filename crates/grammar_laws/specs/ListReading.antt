-- The readers of the lists of READ, WRITE, PRINT and DATA. An item that is no expression is read as an implied DO.
use Rattle.std.specs.Prelude.{ℕ, zero, suc, pos, List, length}
use Rattle.fortran_grammar.specs.f_tree.declared.expressions.Expr.{Expr}
use Rattle.fortran_grammar.specs.f_tree.declared.expressions.Expr as expr
use Rattle.fortran_grammar.specs.f_tree.declared.statements.Body.{Body}
use Rattle.fortran_grammar.specs.f_tree.declared.statements.Body as body
use Rattle.fortran_grammar.specs.f_tree.declared.statements.DataGroup.{DataGroup}
use Rattle.fortran_grammar.specs.f_tree.declared.statements.DataValue.{DataValue}
use Rattle.fortran_grammar.specs.f_tree.declared.statements.ListItem.{ListItem}
use Rattle.fortran_grammar.specs.f_tree.declared.statements.ListItem as item
use Rattle.fortran_grammar.specs.Forms.{Star, Slash, Plus, Minus}
use Rattle.fortran_grammar.specs.ListForms.{truth_of, value_of, single, data_group, chained}
use Rattle.grammar_laws.specs.Exactness.{Reader}
use Rattle.grammar_laws.specs.ExpressionReading.{read_expression, read_place}
use Rattle.grammar_laws.specs.FormReading.{piece, after, up_to, both, either, maybe, meant, separated, many, looped, enclosed, with_comma, a_name, a_number, a_quoted}
use Rattle.grammar_laws.specs.StatementReading.{loop_form}

-- An item, or an implied DO with so many loops in one another at most.
unfoldable pub deep_item : ℕ → Reader Expr → Reader ListItem
deep_item zero read = meant item.Item read
deep_item (suc n) read = either (meant item.Item read) (meant (λ p. item.Loop p.0 p.1) (enclosed (looped (deep_item n read) loop_form)))

-- No more loops stand in one another than there are pieces.
unfoldable pub implied_do : Reader Expr → Reader ListItem
implied_do read pieces = meant (λ p. item.Loop p.0 p.1) (enclosed (looped (deep_item (length pieces) read) loop_form)) pieces

abbrev pub item_form : Reader ListItem
item_form = either (meant item.Item read_expression) (implied_do read_expression)

abbrev pub items_form : Reader (List ListItem)
items_form = separated item_form

abbrev pub element_form : Reader Expr
element_form = meant (λ p. expr.Apply p.0 p.1) (both a_name (enclosed (separated read_expression)))

abbrev pub data_place_form : Reader ListItem
data_place_form = either (meant item.Item read_place) (implied_do element_form)

abbrev pub integer_form : Reader Expr
integer_form = meant (λ n. expr.Int (pos n)) a_number

abbrev pub other_constant_form : Reader Expr
other_constant_form =
    either (meant expr.Minus (after Minus integer_form))
    (either (meant expr.Plus (after Plus integer_form)) (either (meant expr.Text a_quoted) (meant expr.Logical (piece truth_of))))

abbrev pub count_form : Reader Expr
count_form = either integer_form (meant expr.Name a_name)

abbrev pub data_value_form : Reader DataValue
data_value_form =
    either (meant value_of (both count_form (maybe (after Star (either count_form other_constant_form)))))
    (meant single other_constant_form)

abbrev pub data_group_form : Reader DataGroup
data_group_form = meant data_group (both (separated data_place_form) (after Slash (up_to (separated data_value_form) Slash)))

abbrev pub data_form : Reader Body
data_form = meant (λ p. body.Init (chained p)) (both data_group_form (many (with_comma data_group_form)))
