use Rattle.std.proofs.Common.{List, ◌++◌, ap, ◌∙◌}
use Rattle.call_shapes.specs.declared.shapes.NamedShape.{NamedShape}
use Rattle.call_shapes.specs.CallsMade.{calls_of_statement}
use Rattle.call_check.proofs.statements.statement_calls.Goals as goal

pub returns-clause-calls : goal.returns-clause-calls
returns-clause-calls c =
    c.in_ok-add_statement.ensures.calls
    ∙ ap (λ (cs : List NamedShape). cs ++ calls_of_statement c.args.unit.now c.args.body.now) c.new-calls.ensures.items
