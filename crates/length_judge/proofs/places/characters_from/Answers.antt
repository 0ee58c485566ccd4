use Rattle.std.proofs.Common.{w64}
use Rattle.std.proofs.lemmas.Int.{to_z-of_z}
use Rattle.length_judge.proofs.SpanLaws.{order_is, span_none, span_as}
use Rattle.length_judge.proofs.places.characters_from.Goals as goal

pub returns-then-last-first : goal.returns-then-last-first
returns-then-last-first c = span_none c.args.first c.args.last (order_is c.args.first c.args.last _ c.ranges.first c.ranges.last c.if-last-first.true)

pub returns-else-last-first : goal.returns-else-last-first
returns-else-last-first c =
    span_as c.characters_between.result c.args.first c.args.last _ _ (to_z-of_z w64 c.args.first c.ranges.first) (to_z-of_z w64 c.args.last c.ranges.last)
    (order_is c.args.first c.args.last _ c.ranges.first c.ranges.last c.if-last-first.false) c.characters_between.ensures
