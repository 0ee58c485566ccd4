use Rattle.std.proofs.Common.{◌&&◌, not, sym, ap, ◌∙◌}
use Rattle.block_judge.proofs.RangeChains.{goes_by}
use Rattle.block_judge.proofs.ranges.goes_into.Goals as goal

pub returns-then-ends_in : goal.returns-then-ends_in
returns-then-ends_in c =
    ap (λ b. b && not c.stands_in_range-begins_in.result) (sym c.if-ends_in.true)
    ∙ goes_by c.stands_in_range-ends_in.result c.stands_in_range-begins_in.result c.args.first c.args.end c.args.from c.args.to c.stands_in_range-ends_in.ensures
    c.stands_in_range-begins_in.ensures

pub returns-else-ends_in : goal.returns-else-ends_in
returns-else-ends_in c =
    c.if-ends_in.false ∙ ap (λ b. b && not c.stands_in_range-begins_in.result) (sym c.if-ends_in.false)
    ∙ goes_by c.stands_in_range-ends_in.result c.stands_in_range-begins_in.result c.args.first c.args.end c.args.from c.args.to c.stands_in_range-ends_in.ensures
    c.stands_in_range-begins_in.ensures
