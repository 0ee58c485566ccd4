use Rattle.std.proofs.Common.{List, ap, ◌∙◌}
use Rattle.found_rows.proofs.Walks.{put_as}
use Rattle.f_tree.specs.declared.statements.Stmt.{Stmt}
use Rattle.declaration_rows.specs.GivenRows.{all_block_names, block_name_rows, is_block_in}
use Rattle.name_table.specs.Named.{texts}
use Rattle.name_places.specs.FirstPlaces.{first_at}
use Rattle.given_judge.proofs.block_rows.add_block_rows.Goals as goal

pub add_rows-requires-clause-blocks : goal.add_rows-requires-clause-blocks
add_rows-requires-clause-blocks c = record { first = λ x. c.in_ok-blocks.ensures x ∙ ap (λ (ss : List Stmt). first_at (is_block_in x) ss) c.as_slice.ensures }

pub returns : goal.returns
returns c =
    put_as c.add_rows.result _ _ _ _
    (ap (block_name_rows c.args.unit.now) (ap texts c.as_slice-3.ensures.value ∙ c.in_ok-block_names.ensures ∙ ap (λ (ss : List Stmt). all_block_names ss) c.as_slice-2.ensures))
    c.add_rows.ensures
