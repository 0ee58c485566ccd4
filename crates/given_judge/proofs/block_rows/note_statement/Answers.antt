use Rattle.std.proofs.Common.{◌++◌, ap, ◌∙◌}
use Rattle.f_tree.specs.Lines.{common_in}
use Rattle.name_table.specs.Named.{texts}
use Rattle.declaration_rows.specs.GlobalRows.{block_names}
use Rattle.name_places.proofs.NoteLemmas.{then_as}
use Rattle.given_judge.proofs.block_rows.note_statement.Goals as goal

pub returns : goal.returns
returns c =
    then_as c.note_blocks.result c.args.at _ _ _ (block_names (common_in c.args.body.now))
    (ap texts c.as_slice.ensures.value ∙ c.in_ok-add_block_names.ensures ∙ ap (λ xs. texts xs ++ block_names (common_in c.args.body.now)) c.new-names.ensures.items) c.note_blocks.ensures
