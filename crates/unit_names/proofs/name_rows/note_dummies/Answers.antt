use Rattle.std.proofs.Common.{List, ◌<◌, ◌≤◌, length, get_or, ap, subst, ◌∙◌}
use Rattle.f_tree.specs.declared.statements.DummyArgument.{DummyArgument}
use Rattle.name_table.specs.Named.{names_in}
use Rattle.name_classes.specs.StatedNames.{dummy_name}
use Rattle.unit_names.specs.Undeclared.{head_row}
use Rattle.unit_names.proofs.RowLemmas.{rows_more, rows_end, has_more, has_end, dummies_rest, dummies_over}
use Rattle.unit_names.proofs.name_rows.note_dummies.Goals as goal

pub loop-dummy-preserved : goal.loop-dummy-preserved
loop-dummy-preserved c =
    let u = c.args.unit.now in
    let ds = u.dummies in
    let i = c.loop-dummy.dummy-index in
    let d = c.dummy-item.result in
    let known = c.loop-dummy.invariant in
    let noted = c.in_ok-note_dummy.ensures in
    let h = subst (λ (es : List DummyArgument). i < length es) c.as_slice-dummy-items.ensures c.loop-dummy-test.true in
    let is = c.dummy-item.is ∙ ap (λ (es : List DummyArgument). get_or es i d) c.as_slice-dummy-items.ensures in
    let rest = dummies_rest ds i d d h is in
    record {
      is_set = noted.seen.is_set;
      rows = rows_more (head_row u) _ _ (dummy_name d) _ _ _ _ _ noted.seen rest known.rows noted.rows;
      has = λ q. has_more _ _ q (dummy_name d) _ _ _ noted.seen rest (known.has q);
    }

pub returns-clause-rows : goal.returns-clause-rows
returns-clause-rows c =
    let h = subst (λ (es : List DummyArgument). length es ≤ c.loop-dummy.dummy-index) c.as_slice-dummy-items.ensures c.loop-dummy-test.false in
    rows_end (head_row c.args.unit.now) (names_in c.loop-dummy.seen) _ _ _ (dummies_over c.args.unit.now.dummies c.loop-dummy.dummy-index h) c.loop-dummy.invariant.rows

pub returns-clause-seen : goal.returns-clause-seen
returns-clause-seen c =
    let h = subst (λ (es : List DummyArgument). length es ≤ c.loop-dummy.dummy-index) c.as_slice-dummy-items.ensures c.loop-dummy-test.false in
    record {
      has = λ q. has_end q _ _ _ (dummies_over c.args.unit.now.dummies c.loop-dummy.dummy-index h) (c.loop-dummy.invariant.has q);
      is_set = c.loop-dummy.invariant.is_set;
    }
