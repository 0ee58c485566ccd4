use Rattle.std.proofs.Common.{◌++◌, ap, ◌∙◌}
use Rattle.found_rows.proofs.Walks.{then_ok}
use Rattle.f_tree.specs.Uses.{uses_of_body}
use Rattle.name_table.specs.Named.{names_in}
use Rattle.name_uses.specs.UsesSeen.{used_in}
use Rattle.statement_order.proofs.UseSets.{uses_same}
use Rattle.statement_order.proofs.before.note_statement_uses.Goals as goal

pub returns : goal.returns
returns c =
    then_ok _ _ c.note_uses.result
    (λ noted.
    uses_same c.args.used.now c.note_uses.new.used _ _
    (ap used_in c.as_slice.ensures.value ∙ c.in_ok-add_statement_uses.ensures
    ∙ ap (λ us. used_in us ++ uses_of_body (names_in c.args.arrays.now) c.args.body.now) c.new-uses.ensures.items)
    noted)
    c.note_uses.ensures
