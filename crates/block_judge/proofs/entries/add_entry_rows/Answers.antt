use Rattle.std.proofs.Common.{sym, ◌∙◌}
use Rattle.found_rows.proofs.Walks.{then_ok}
use Rattle.block_judge.proofs.EntryForms.{no_entry_rows, entry_rows_put}
use Rattle.block_judge.proofs.entries.add_entry_rows.Goals as goal

pub returns-then-not-is_entry : goal.returns-then-not-is_entry
returns-then-not-is_entry c = λ ss known. no_entry_rows ss c.args.kind.now c.args.shares c.args.place c.args.statement.now c.args.found.now.items (sym c.is_entry.ensures ∙ c.if-not-is_entry.true)

pub returns : goal.returns
returns c =
    then_ok _ _ c.add_unless-2.result
    (λ put ss known.
    entry_rows_put ss c.args.kind.now c.args.shares _ c.args.place c.args.statement.now c.args.found.now.items _ _ (sym c.is_entry.ensures ∙ c.if-not-is_entry.false)
    (c.has_its_place-stands_well.ensures ss known) c.in_ok-add_unless.ensures put)
    c.add_unless-2.ensures
