-- Each call takes less fuel, or as much and is nearer to a reading of an expression.
use Rattle.std.proofs.Common.{◌+◌, ◌*◌}
use Rattle.expression_parse.proofs.expressions.+expression.Given as goal

abbrev pub decreases-read : goal.decreases-read
decreases-read l = 12 * l.fuel + 0

abbrev pub decreases-onwards : goal.decreases-onwards
decreases-onwards l = 12 * l.fuel + 0

abbrev pub decreases-arguments : goal.decreases-arguments
decreases-arguments l = 12 * l.fuel + 0

abbrev pub decreases-last_place : goal.decreases-last_place
decreases-last_place l = 12 * l.fuel + 1

abbrev pub decreases-further : goal.decreases-further
decreases-further l = 12 * l.fuel + 1

abbrev pub decreases-joined : goal.decreases-joined
decreases-joined l = 12 * l.fuel + 1

abbrev pub decreases-signed : goal.decreases-signed
decreases-signed l = 12 * l.fuel + 1

abbrev pub decreases-negated : goal.decreases-negated
decreases-negated l = 12 * l.fuel + 1

abbrev pub decreases-part : goal.decreases-part
decreases-part l = 12 * l.fuel + 2

abbrev pub decreases-parenthesised : goal.decreases-parenthesised
decreases-parenthesised l = 12 * l.fuel + 2

abbrev pub decreases-part_from : goal.decreases-part_from
decreases-part_from l = 12 * l.fuel + 3

abbrev pub decreases-part_of : goal.decreases-part_of
decreases-part_of l = 12 * l.fuel + 4

abbrev pub decreases-element : goal.decreases-element
decreases-element l = 12 * l.fuel + 5

abbrev pub decreases-applied : goal.decreases-applied
decreases-applied l = 12 * l.fuel + 6

abbrev pub decreases-subscripted : goal.decreases-subscripted
decreases-subscripted l = 12 * l.fuel + 7

abbrev pub decreases-named : goal.decreases-named
decreases-named l = 12 * l.fuel + 8

abbrev pub decreases-called : goal.decreases-called
decreases-called l = 12 * l.fuel + 9

abbrev pub decreases-primary : goal.decreases-primary
decreases-primary l = 12 * l.fuel + 10

abbrev pub decreases-operand : goal.decreases-operand
decreases-operand l = 12 * l.fuel + 11
