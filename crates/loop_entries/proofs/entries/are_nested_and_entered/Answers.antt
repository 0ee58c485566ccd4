use Rattle.std.proofs.Common.{length, sym, ap, ◌∙◌}
use Rattle.std.proofs.lemmas.Result.{IfOk-weaker}
use Rattle.f_tree.specs.Lines.{unit_read}
use Rattle.name_facts.specs.declaration_rows.NameRows.{given_names}
use Rattle.loop_entries.proofs.FitLemmas.{reads_as, both_not, both_well}
use Rattle.loop_entries.proofs.entries.are_nested_and_entered.Goals as goal

pub are_nested-requires : goal.are_nested-requires
are_nested-requires c = ap length c.as_slice-2.ensures.value ∙ c.in_ok-ends.ensures.count ∙ sym (ap length c.as_slice.ensures)

pub returns-then-not-branch : goal.returns-then-not-branch
returns-then-not-branch c = λ options.
    let u = c.args.unit.now in
    both_not (unit_read options u) c.in_ok-are_nested.field-0
    (c.in_ok-are_nested.ensures (unit_read options u) (given_names u) (reads_as options u c.as_slice.result.now c.as_slice.ensures) (c.as_slice-2.ensures.value ∙ c.in_ok-ends.ensures.ends options))
    c.if-not-branch.true

pub returns : goal.returns
returns c =
    let u = c.args.unit.now in
    IfOk-weaker c.are_entered_well.result _ _
    (λ well told options.
    both_well (unit_read options u) c.in_ok-are_nested.field-0 well
    (c.in_ok-are_nested.ensures (unit_read options u) (given_names u) (reads_as options u c.as_slice.result.now c.as_slice.ensures) (c.as_slice-2.ensures.value ∙ c.in_ok-ends.ensures.ends options))
    c.if-not-branch.false (told options))
    c.are_entered_well.ensures
