use Rattle.std.proofs.Common.{sym, ap, ◌∙◌}
use Rattle.declaration_rows.specs.BlockRows.{shares_result}
use Rattle.declaration_rows.specs.NameRows.{given_names}
use Rattle.block_judge.specs.Sharing.{shares_at}
use Rattle.block_judge.proofs.SharingLemmas.{shares-Entry, shares-other}
use Rattle.block_judge.proofs.sharing.shares_at.Goals as goal

pub returns-in-Entry : goal.returns-in-Entry
returns-in-Entry c =
    let u = c.args.unit.now in
    c.shares_result.ensures ∙ ap (shares_result u (given_names u) u.kind u.name) c.as_slice.ensures
    ∙ sym (ap (shares_at u) c.in-Entry.is ∙ shares-Entry u c.in-Entry.name c.in-Entry.field-1)

pub returns-in_default : goal.returns-in_default
returns-in_default c = shares-other c.args.unit.now c.args.body.now c.in_default.not-Entry
