use Rattle.std.proofs.Common.{sym, ap, ◌∙◌}
use Rattle.found_rows.proofs.Walks.{put_as}
use Rattle.f_tree.specs.Lines.{common_in}
use Rattle.declaration_rows.specs.GlobalRows.{block_names}
use Rattle.given_judge.proofs.RowForms.{common_is, common_other, nothing_put}
use Rattle.given_judge.proofs.block_rows.add_block_names.Goals as goal

pub returns-in-Common : goal.returns-in-Common
returns-in-Common c =
    put_as c.add_group_names.result _ _ _ _ (ap block_names (c.as_slice.ensures ∙ sym (common_is c.in-Common.groups) ∙ ap common_in (sym c.in-Common.is))) c.add_group_names.ensures

pub returns-in_default : goal.returns-in_default
returns-in_default c = nothing_put _ _ (common_other c.args.body.now c.in_default.not-Common)
