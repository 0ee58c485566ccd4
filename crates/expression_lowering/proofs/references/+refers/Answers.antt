use Rattle.std.proofs.Common.{rules}
use Rattle.f_tree.specs.declared.expressions.Expr as tree
use Rattle.expression_lowering.proofs.CoveredForms.{covered-Minus, covered-Plus, covered-Not, covered-Paren, operand-either, operands-read, left-read, right-read}
use Rattle.expression_lowering.proofs.references.+refers.Goals as goal

pub refers-refers-requires-in-Minus : goal.refers-refers-requires-in-Minus
refers-refers-requires-in-Minus t c = (
  search (rules, tree.the_lemmas),
  operand-either c.args.table.now tree.Minus tree.Plus (covered-Minus c.args.table.now) (covered-Plus c.args.table.now) c.args.e.now c.in-Minus.operand
      c.get-in-Minus.result.now c.in-Minus.is c.get-in-Minus.ensures c.requires,
)

pub refers-refers-requires-in-Not : goal.refers-refers-requires-in-Not
refers-refers-requires-in-Not t c = (
  search (rules, tree.the_lemmas),
  operand-either c.args.table.now tree.Not tree.Paren (covered-Not c.args.table.now) (covered-Paren c.args.table.now) c.args.e.now c.in-Not.operand
      c.get-in-Not.result.now c.in-Not.is c.get-in-Not.ensures c.requires,
)

pub refers-any_refers-requires : goal.refers-any_refers-requires
refers-any_refers-requires t c = (
  search (rules, tree.the_lemmas),
  operands-read c.args.table.now c.args.e.now c.in-Apply.name c.in-Apply.es c.as_slice-else-is_reference.result.now c.in-Apply.is c.as_slice-else-is_reference.ensures c.requires,
)

pub refers-refers-requires : goal.refers-refers-requires
refers-refers-requires t c = (
  search (rules, tree.the_lemmas),
  left-read c.args.table.now c.args.e.now c.in-Binary.field-0 c.in-Binary.left c.in-Binary.right c.get.result.now c.in-Binary.is c.get.ensures c.requires,
)

pub refers-refers-requires-else-refers : goal.refers-refers-requires-else-refers
refers-refers-requires-else-refers t c = (
  search (rules, tree.the_lemmas),
  right-read c.args.table.now c.args.e.now c.in-Binary.field-0 c.in-Binary.left c.in-Binary.right c.get-else-refers.result.now c.in-Binary.is
      c.get-else-refers.ensures c.requires,
)
