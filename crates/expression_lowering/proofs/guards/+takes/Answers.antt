use Rattle.std.proofs.Common.{rules}
use Rattle.f_tree.specs.declared.expressions.Expr as tree
use Rattle.expression_lowering.proofs.CoveredForms.{covered-Minus, covered-Plus, covered-Not, covered-Paren, operand-either, operands-read, left-read, right-read}
use Rattle.expression_lowering.proofs.guards.+takes.Goals as goal

pub takes_step-takes_step-requires-in-Minus : goal.takes_step-takes_step-requires-in-Minus
takes_step-takes_step-requires-in-Minus t c = (
  search (rules, tree.the_lemmas),
  operand-either c.args.table.now tree.Minus tree.Plus (covered-Minus c.args.table.now) (covered-Plus c.args.table.now) c.args.e.now c.in-Minus.operand
      c.get-in-Minus.result.now c.in-Minus.is c.get-in-Minus.ensures c.requires,
)

pub takes_step-takes_step-requires-in-Not : goal.takes_step-takes_step-requires-in-Not
takes_step-takes_step-requires-in-Not t c = (
  search (rules, tree.the_lemmas),
  operand-either c.args.table.now tree.Not tree.Paren (covered-Not c.args.table.now) (covered-Paren c.args.table.now) c.args.e.now c.in-Not.operand
      c.get-in-Not.result.now c.in-Not.is c.get-in-Not.ensures c.requires,
)

pub takes_step-any_takes_step-requires : goal.takes_step-any_takes_step-requires
takes_step-any_takes_step-requires t c = (
  search (rules, tree.the_lemmas),
  operands-read c.args.table.now c.args.e.now c.in-Apply.name c.in-Apply.es c.as_slice-else-makes_call.result.now c.in-Apply.is c.as_slice-else-makes_call.ensures c.requires,
)

pub takes_step-takes_step-requires : goal.takes_step-takes_step-requires
takes_step-takes_step-requires t c = (
  search (rules, tree.the_lemmas),
  right-read c.args.table.now c.args.e.now c.in-Binary.op c.in-Binary.left c.in-Binary.right c.get.result.now c.in-Binary.is c.get.ensures c.requires,
)

pub takes_step-takes_step-requires-else-takes_step : goal.takes_step-takes_step-requires-else-takes_step
takes_step-takes_step-requires-else-takes_step t c = (
  search (rules, tree.the_lemmas),
  left-read c.args.table.now c.args.e.now c.in-Binary.op c.in-Binary.left c.in-Binary.right c.get-else-takes_step.result.now c.in-Binary.is
      c.get-else-takes_step.ensures c.requires,
)
