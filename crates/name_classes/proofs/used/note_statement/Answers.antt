use Rattle.std.proofs.Common.{[], ◌++◌, map, ap, ◌∙◌}
use Rattle.f_tree.specs.Uses.{uses_of_body}
use Rattle.name_table.specs.Named.{names_in}
use Rattle.name_uses.specs.declared.uses.Use.{Use}
use Rattle.name_uses.specs.UsesSeen.{used_in}
use Rattle.std.proofs.Common.{List}
use Rattle.name_classes.proofs.UsedForms.{uses_names}
use Rattle.name_classes.proofs.used.note_statement.Goals as goal

pub returns : goal.returns
returns c =
    uses_names c.add_assigned_in.result (names_in c.args.arrays.now) c.args.names.now c.add_assigned_in.new.names c.note_uses.new.with_list c.note_uses.new.called c.args.body.now _
    (ap used_in c.as_slice.ensures.value ∙ c.in_ok-add_statement_uses.ensures
    ∙ ap (λ (us : List Use). used_in us ++ uses_of_body (names_in c.args.arrays.now) c.args.body.now) c.new-uses.ensures.items)
    c.in_ok-note_uses.ensures.with_list c.in_ok-note_uses.ensures.called c.add_assigned_in.ensures
