use Rattle.std.proofs.Common.{Some, ap, ◌∙◌}
use Rattle.named_items.specs.Structured as spec
use Rattle.statement_builder.proofs.Building.{head_got, dropped_two}
use Rattle.statement_builder.proofs.builder.closed.Goals as goal

pub returns-clause-built : goal.returns-clause-built
returns-clause-built c =
    c.for_by.ensures
    ∙ ap (λ next. spec.for_by c.args.head c.args.size next (Some c.args.turn))
    (c.next_for-next.ensures ∙ ap (spec.next_for c.args.head.variable) (head_got c.pop_front.result c.args.items.now.items c.pop_front.new.self.items c.pop_front.ensures.items c.pop_front.ensures.rest))

pub returns-clause-rest : goal.returns-clause-rest
returns-clause-rest c = dropped_two c.args.items.now.items c.pop_front.new.self.items _ c.pop_front.ensures.rest c.pop_front-2.ensures.rest
