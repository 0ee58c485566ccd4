use Rattle.std.proofs.Common.{rules, take, drop, length, ◌-◌, ◌∙◌, FitsSigned}
use Rattle.std.specs.Int.{w32}
use Rattle.std.proofs.lemmas.Int.{to_z-of_z}
use Rattle.library_texts.proofs.OrderLemmas.{before, behind, longer, shorter, minus-fits, minus-is}
use Rattle.library_texts.proofs.comparison.compare_texts.Goals as goal

pub overflow_sub-result : goal.overflow_sub-result
overflow_sub-result c = minus-fits (take (length c.args.right.now - c.min-common.result) (drop c.min-common.result c.args.right.now)) c.order_to_blanks-in-Equal-2.result (search rules) c.order_to_blanks-in-Equal-2.ensures

pub returns-in-Less : goal.returns-in-Less
returns-in-Less c = before c.min-common.result c.args.left.now c.args.right.now c.min-common.ensures (c.in-Less.ensures)

pub returns-in-Greater : goal.returns-in-Greater
returns-in-Greater c = behind c.min-common.result c.args.left.now c.args.right.now c.min-common.ensures (c.in-Greater.ensures)

pub returns-in-Equal : goal.returns-in-Equal
returns-in-Equal c =
    let fits : FitsSigned w32 c.order_to_blanks.result = search rules in
    to_z-of_z w32 c.order_to_blanks.result fits ∙ c.order_to_blanks.ensures
    ∙ longer c.min-common.result c.args.left.now c.args.right.now c.min-common.ensures (c.in-Equal.ensures) c.if-common-left.true

pub returns-in-Equal-2 : goal.returns-in-Equal-2
returns-in-Equal-2 c =
    let fits : FitsSigned w32 c.order_to_blanks-in-Equal-2.result = search rules in
    minus-is (take (length c.args.right.now - c.min-common.result) (drop c.min-common.result c.args.right.now)) c.order_to_blanks-in-Equal-2.result fits c.order_to_blanks-in-Equal-2.ensures
    ∙ shorter c.min-common.result c.args.left.now c.args.right.now c.min-common.ensures (c.in-Equal-2.ensures) c.if-common-left.false
