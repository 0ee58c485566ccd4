use Rattle.std.proofs.Common.{sym, ◌∙◌}
use Rattle.loop_ranges.proofs.found_rows.Walks.{put_as}
use Rattle.loop_entries.specs.PassedLabels.{told_by}
use Rattle.loop_entries.proofs.LabelForms.{nothing_added}
use Rattle.loop_entries.proofs.TellsLemmas.{name_free, name_bound}
use Rattle.loop_entries.proofs.labels.add_name.Goals as goal

pub returns-then-is_among : goal.returns-then-is_among
returns-then-is_among c = nothing_added _ _ (sym (name_bound (told_by c.args.scope.now) c.args.name.now (sym c.is_among.ensures ∙ c.if-is_among.true)))

pub returns : goal.returns
returns c =
    put_as c.add_of_class.result _ _ _ _ (name_free (told_by c.args.scope.now) c.args.name.now (sym c.is_among.ensures ∙ c.if-is_among.false)) c.add_of_class.ensures
