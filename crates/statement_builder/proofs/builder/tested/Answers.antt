use Rattle.std.proofs.Common.{Some, ap, ◌∙◌}
use Rattle.named_items.specs.Structured as spec
use Rattle.statement_builder.proofs.Building.{head_got, if_ok}
use Rattle.statement_builder.proofs.builder.tested.Goals as goal

pub returns-clause-built : goal.returns-clause-built
returns-clause-built c =
    if_ok _ _ c.do_by.result
    (λ p made. made ∙ ap (spec.do_by c.args.variable c.args.first c.args.size (Some c.args.turn))
    (c.test_in-test.ensures ∙ ap spec.test_in (head_got c.pop_front.result c.args.items.now.items c.pop_front.new.self.items c.pop_front.ensures.items c.pop_front.ensures.rest)))
    c.do_by.ensures
