use Rattle.std.proofs.Common.{◌≤◌, ◌∙◌, arith}
use Rattle.std.proofs.lemmas.Bool.{le-ltb}
use Rattle.named_items.specs.Layouts.{layout_of}
use Rattle.statement_builder.proofs.PlannedItems.{tested_past}
use Rattle.statement_builder.proofs.loop_tests.is_tested_behind.Goals as goal

pub returns-else-size-span : goal.returns-else-size-span
returns-else-size-span c =
    let past : c.args.span.count ≤ c.args.size = omega (arith, c.if-size-span.false) in
    le-ltb c.args.size c.args.span.count past ∙ tested_past (layout_of c.args.layout.now) c.args.span.position c.args.size c.args.span.count c.args.items.now.items past
