use Rattle.std.proofs.Common.{◌∷◌, [], get_or, arith}
use Rattle.name_table.specs.Named.{names_in}
use Rattle.name_uses.proofs.ItemForms.{no_use}
use Rattle.unit_names.specs.Undeclared.{row_at}
use Rattle.unit_names.proofs.RowLemmas.{rows_more, rows_end, has_more, has_end, uses_rest, uses_over}
use Rattle.unit_names.proofs.name_rows.note_uses.Goals as goal

pub loop-one-preserved : goal.loop-one-preserved
loop-one-preserved c =
    let vs = c.args.uses.now in
    let i = c.loop-one.one-index in
    let known = c.loop-one.invariant in
    let noted = c.in_ok-note_name.ensures in
    let rest = uses_rest vs i c.loop-one-test.true in
    record {
      is_set = noted.seen.is_set;
      rows = rows_more (row_at c.args.unit.now c.args.statement.now) _ _ ((get_or vs i no_use).name.now ∷ []) _ _ _ _ _ noted.seen rest known.rows noted.rows;
      has = λ q. has_more _ _ q ((get_or vs i no_use).name.now ∷ []) _ _ _ noted.seen rest (known.has q);
    }

pub returns-clause-rows : goal.returns-clause-rows
returns-clause-rows c =
    rows_end (row_at c.args.unit.now c.args.statement.now) (names_in c.loop-one.seen) _ _ _ (uses_over c.args.uses.now c.loop-one.one-index (omega arith)) c.loop-one.invariant.rows

pub returns-clause-seen : goal.returns-clause-seen
returns-clause-seen c = record {
  has = λ q. has_end q _ _ _ (uses_over c.args.uses.now c.loop-one.one-index (omega arith)) (c.loop-one.invariant.has q);
  is_set = c.loop-one.invariant.is_set;
}
