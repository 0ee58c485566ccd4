-- Each call is for fewer loops in one another, or for as many and nearer to an item.
use Rattle.std.proofs.Common.{◌≡◌, ◌+◌, ◌*◌}
use Rattle.grammar_laws.specs.ExpressionReading as reading
use Rattle.grammar_laws.specs.FormReading as form
use Rattle.grammar_laws.specs.ListReading as list
use Rattle.grammar_laws.specs.StatementReading as statement
use Rattle.stmt_lex.specs.SeenTokens.{seen}
use Rattle.list_parse.proofs.lists.+implied_do.Given as goal

abbrev pub decreases-deep_item : goal.decreases-deep_item
decreases-deep_item l = 8 * l.depth + 0

abbrev pub decreases-item_and_comma : goal.decreases-item_and_comma
decreases-item_and_comma l = 8 * l.depth + 1

abbrev pub decreases-further_item : goal.decreases-further_item
decreases-further_item l = 8 * l.depth + 2

abbrev pub decreases-looped : goal.decreases-looped
decreases-looped l = 8 * l.depth + 3

abbrev pub decreases-closed_loop : goal.decreases-closed_loop
decreases-closed_loop l = 8 * l.depth + 4

abbrev pub decreases-enclosed_loop : goal.decreases-enclosed_loop
decreases-enclosed_loop l = 8 * l.depth + 5

abbrev pub decreases-loop_item : goal.decreases-loop_item
decreases-loop_item l = 8 * l.depth + 6

abbrev pub invariant-looped-loop-fuel : goal.invariant-looped-loop-fuel
invariant-looped-loop-fuel l = record {
  same : form.looped (list.deep_item l.fn.depth reading.read_expression) statement.loop_form (seen l.fn.text l.fn.tokens)
      ≡ form.looped_items l.fuel (list.deep_item l.fn.depth reading.read_expression) statement.loop_form l.found (seen l.fn.text l.rest);
}

abbrev pub decreases-looped-loop-fuel : goal.decreases-looped-loop-fuel
decreases-looped-loop-fuel l = l.fuel
