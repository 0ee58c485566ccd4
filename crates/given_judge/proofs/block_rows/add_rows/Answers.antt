use Rattle.std.proofs.Common.{◌∷◌, [], List, get_or, refl, arith}
use Rattle.std.specs.Borrow.{Bor}
use Rattle.found_rows.proofs.Walks.{each_more, each_end}
use Rattle.f_tree.specs.Values.{Bytes}
use Rattle.declaration_rows.specs.GivenRows.{block_name_rows}
use Rattle.name_table.specs.Named.{texts}
use Rattle.given_judge.proofs.RowForms.{no_text, block_rows_step, block_rows_end}
use Rattle.given_judge.proofs.block_rows.add_rows.Goals as goal

pub loop-name-preserved : goal.loop-name-preserved
loop-name-preserved c =
    let u = c.args.unit.now in
    each_more (λ (xs : List (Bor Bytes)). block_name_rows u (texts xs)) (λ (x : Bor Bytes). block_name_rows u (x.now ∷ [])) (λ x xs. block_rows_step u x.now (texts xs))
    c.args.block_names.now c.loop-name.name-index (get_or c.args.block_names.now c.loop-name.name-index no_text) no_text _ _ _ c.loop-name-test.true refl c.loop-name.invariant
    c.in_ok-add_block_row.ensures

pub returns : goal.returns
returns c =
    let u = c.args.unit.now in
    each_end (λ (xs : List (Bor Bytes)). block_name_rows u (texts xs)) (λ (x : Bor Bytes). block_name_rows u (x.now ∷ [])) (block_rows_end u) c.args.block_names.now
    c.loop-name.name-index _ _ (omega arith) c.loop-name.invariant
