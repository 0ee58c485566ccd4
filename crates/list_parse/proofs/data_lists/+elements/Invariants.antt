-- Each call is for fewer loops in one another, or for as many and nearer to an element.
use Rattle.std.proofs.Common.{◌≡◌, ◌+◌, ◌*◌}
use Rattle.grammar_laws.specs.FormReading as form
use Rattle.grammar_laws.specs.ListReading as list
use Rattle.grammar_laws.specs.StatementReading as statement
use Rattle.stmt_lex.specs.SeenTokens.{seen}
use Rattle.list_parse.proofs.data_lists.+elements.Given as goal

abbrev pub decreases-deep_element : goal.decreases-deep_element
decreases-deep_element l = 8 * l.depth + 0

abbrev pub decreases-element_and_comma : goal.decreases-element_and_comma
decreases-element_and_comma l = 8 * l.depth + 1

abbrev pub decreases-further_element : goal.decreases-further_element
decreases-further_element l = 8 * l.depth + 2

abbrev pub decreases-looped_elements : goal.decreases-looped_elements
decreases-looped_elements l = 8 * l.depth + 3

abbrev pub decreases-closed_elements : goal.decreases-closed_elements
decreases-closed_elements l = 8 * l.depth + 4

abbrev pub decreases-enclosed_elements : goal.decreases-enclosed_elements
decreases-enclosed_elements l = 8 * l.depth + 5

abbrev pub decreases-element_loop : goal.decreases-element_loop
decreases-element_loop l = 8 * l.depth + 6

abbrev pub invariant-looped_elements-loop-fuel : goal.invariant-looped_elements-loop-fuel
invariant-looped_elements-loop-fuel l = record {
  same : form.looped (list.deep_item l.fn.depth list.element_form) statement.loop_form (seen l.fn.text l.fn.tokens)
      ≡ form.looped_items l.fuel (list.deep_item l.fn.depth list.element_form) statement.loop_form l.found (seen l.fn.text l.rest);
}

abbrev pub decreases-looped_elements-loop-fuel : goal.decreases-looped_elements-loop-fuel
decreases-looped_elements-loop-fuel l = l.fuel
