-- Each case is one of those that the definition reads, and its label is named.
use Rattle.std.proofs.Common.{Some, Ok, ap, ◌∙◌, append-nil}
use Rattle.c_tree.specs.CLabels.{LabelsOf}
use Rattle.c_expression_reader.specs.Readings.{shown}
use Rattle.c_statement_reader.specs.CaseLists.{cases_in}
use Rattle.c_statement_reader.specs.LabelLists.{labels_seen}
use Rattle.c_statement_reader.proofs.CaseSteps.{cases-onward}
use Rattle.c_statement_reader.proofs.LabelSums as sums
use Rattle.c_statement_reader.proofs.cases.read_cases.Goals as goal

pub loop-left-preserved : goal.loop-left-preserved
loop-left-preserved c =
    let start = labels_seen c.args.labels.now in
    let before = labels_seen c.loop-left.labels in
    let now = labels_seen c.name.new.self in
    let stays = ap (λ (z : LabelsOf). z.stand) c.in_ok-name.ensures ∙ append-nil before.stand in
    let goes = c.in_ok-ends.ensures ∙ ap (λ ends. Some (Ok (ends, shown c.in_ok-ends.behind.now))) c.if-ends.false in (
      cases-onward c.args.count c.loop-left.left c.in_ok-number.number c.in_ok-number.label.now start.stand before.stand now.stand (cases_in c.loop-left.found)
          (cases_in c.in_ok-found.found) (shown c.args.tokens.now) (shown c.loop-left.rest.now) (shown c.in_ok-ends.behind.now) (shown c.in_ok-number.behind.now)
          c.loop-left-test.true c.loop-left.invariant.0 goes c.in_ok-number.ensures.read stays c.in_ok-found.ensures,
      sums.cases-onward start before now (cases_in c.loop-left.found) (cases_in c.in_ok-found.found) c.in_ok-number.number c.in_ok-number.label.now c.loop-left.invariant.1
          c.in_ok-name.ensures c.in_ok-found.ensures,
    )
