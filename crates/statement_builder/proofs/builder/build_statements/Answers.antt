use Rattle.std.proofs.Common.{ap, length}
use Rattle.named_items.specs.Layouts.{layout_of}
use Rattle.statement_builder.proofs.Building.{if_ok, whole_built}
use Rattle.statement_builder.proofs.builder.build_statements.Goals as goal

pub returns : goal.returns
returns c =
    if_ok _ _ c.statements.result
    (λ r is. whole_built (layout_of c.args.layout.now) _ c.args.items.items c.from_vec-ahead.result.items r (ap length c.as_slice-count.ensures.value) c.from_vec-ahead.ensures.items is)
    c.statements.ensures.written
