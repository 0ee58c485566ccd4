use Rattle.std.proofs.Common.{ap, ◌∙◌}
use Rattle.found_rows.proofs.Walks.{put_as}
use Rattle.f_tree.specs.Uses.{heading_of}
use Rattle.name_table.specs.Named.{names_in, texts}
use Rattle.unit_names.proofs.RowLemmas.{rows_undefined, rows_defined}
use Rattle.unit_names.proofs.definition_rows.add_definition_rows.Goals as goal

pub returns-then-not-defines_function : goal.returns-then-not-defines_function
returns-then-not-defines_function c =
    rows_undefined c.args.unit.now c.args.statement.now (names_in c.args.signs.now.arrays) (heading_of c.args.target.now) c.defines_function.result _ c.requires.arrays.names
    c.defines_function.ensures c.if-not-defines_function.true

pub returns : goal.returns
returns c =
    put_as c.add_dummies_rows.result _ _ _ _
    (rows_defined c.args.unit.now c.args.statement.now (names_in c.args.signs.now.arrays) (heading_of c.args.target.now) c.defines_function.result (texts c.as_slice.result.now)
    c.requires.arrays.names c.defines_function.ensures c.if-not-defines_function.false (ap texts c.as_slice.ensures.value ∙ c.in_ok-dummies.ensures))
    c.add_dummies_rows.ensures
