use Rattle.std.proofs.Common.{◌∙◌, take}
use Rattle.named_items.specs.Layouts.{layout_of}
use Rattle.statement_builder.proofs.BuiltCases.{switch_past, switch_elsewhere, switch_otherwise, switch_built}
use Rattle.statement_builder.proofs.cases.switch_for.Goals.{then-cases-span-via-then-cases-span, then-cases-span-via-else-cases-span+then-otherwise-span, then-cases-span-via-else-cases-span+else-otherwise-span+then-not-are_case_numbers}
use Rattle.statement_builder.proofs.cases.switch_for.Goals as goal

pub returns-then-cases-span : goal.returns-then-cases-span
returns-then-cases-span c =
    c.nothing.ensures
    ∙ (elim c.then-cases-span.branch [
      | then-cases-span-via-then-cases-span w ↦
          switch_past (layout_of c.args.layout.now) c.args.span.position c.args.otherwise c.args.value c.args.cases.now c.args.span.count c.args.items.now.items c.requires.within w.if-cases-span.true
      | then-cases-span-via-else-cases-span+then-otherwise-span w ↦
          switch_elsewhere (layout_of c.args.layout.now) c.args.span.position c.args.otherwise c.args.value c.args.cases.now (take c.args.span.count c.args.items.now.items) w.if-otherwise-span.true
      | then-cases-span-via-else-cases-span+else-otherwise-span+then-not-are_case_numbers w ↦
          switch_otherwise (layout_of c.args.layout.now) c.args.span.position c.args.otherwise c.args.value c.args.cases.now (take c.args.span.count c.args.items.now.items) w.if-not-are_case_numbers.ensures
    ])

pub returns : goal.returns
returns c =
    switch_built (layout_of c.args.layout.now) c.args.span.position c.args.otherwise c.args.value c.args.cases.now (take c.args.span.count c.args.items.now.items) c.in_ok-found.found c.switch_by.result c.if-otherwise-span.false c.if-not-are_case_numbers.ensures
    c.in_ok-found.ensures c.switch_by.ensures
