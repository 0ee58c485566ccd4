use Rattle.std.proofs.Common.{sym, ◌∙◌}
use Rattle.unit_names.proofs.RowLemmas.{head_none, head_one}
use Rattle.unit_names.proofs.name_rows.add_head_row.Goals as goal

pub returns-then-stands : goal.returns-then-stands
returns-then-stands c = head_none c.args.unit.now c.args.name.now _ (sym c.stands.ensures ∙ c.if-stands.true)

pub returns : goal.returns
returns c = head_one c.args.unit.now c.args.name.now _ _ (sym c.stands.ensures ∙ c.if-stands.false) c.in_ok-push.ensures.items
