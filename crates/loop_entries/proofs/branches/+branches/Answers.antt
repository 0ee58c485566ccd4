use Rattle.std.proofs.Common.{sym, ap, ◌∙◌}
use Rattle.loop_ranges.proofs.found_rows.Walks.{put_as}
use Rattle.loop_entries.specs.PassedLabels.{told_by}
use Rattle.loop_entries.specs.Branches.{branches_of}
use Rattle.loop_entries.proofs.BranchForms as form
use Rattle.loop_entries.proofs.branches.+branches.Goals as goal

pub returns-in-Goto : goal.returns-in-Goto
returns-in-Goto t c =
    put_as c.add_label.result _ _ _ _ (sym (ap (branches_of (told_by c.args.scope.now)) c.in-Goto.is ∙ form.branch-Goto (told_by c.args.scope.now) c.in-Goto.label)) c.add_label.ensures

pub returns-in-IfOne : goal.returns-in-IfOne
returns-in-IfOne t c =
    let told = told_by c.args.scope.now in
    put_as c.add_branches.result _ _ _ _ (ap (branches_of told) c.get.ensures ∙ sym (ap (branches_of told) c.in-IfOne.is ∙ form.branch-IfOne told c.in-IfOne.field-0 c.in-IfOne.body)) c.add_branches.ensures

pub returns-in_default : goal.returns-in_default
returns-in_default t c =
    form.nothing_added _ _
    (form.branch-other (told_by c.args.scope.now) c.args.body.now c.in_default.not-Goto c.in_default.not-GotoList c.in_default.not-IfSign c.in_default.not-IfOne c.in_default.not-Call
    c.in_default.not-Transfer c.in_default.not-Auxiliary)
