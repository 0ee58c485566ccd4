use Rattle.found_rows.proofs.Walks.{put_as}
use Rattle.f_tree.specs.Uses.{heading_of}
use Rattle.name_table.specs.Named.{names_in}
use Rattle.given_judge.specs.GiftsSeen.{gift_in}
use Rattle.given_judge.proofs.GivenForms.{definition_none, definition_made, definition_unnamed}
use Rattle.given_judge.proofs.statements.add_definition.Goals as goal

pub returns-then-not-defines_function : goal.returns-then-not-defines_function
returns-then-not-defines_function c =
    definition_none (names_in c.args.arrays.now) (heading_of c.args.target.now) c.defines_function.result _ c.defines_function.ensures c.if-not-defines_function.true

pub returns-in-Some : goal.returns-in-Some
unfolding gift_in
returns-in-Some c =
    put_as c.add_given.result _ _ _ _
    (definition_made (names_in c.args.arrays.now) (heading_of c.args.target.now) c.defines_function.result c.in-Some.name.now c.defines_function.ensures c.if-not-defines_function.false
    c.in-Some.ensures) c.add_given.ensures

pub returns-in-None : goal.returns-in-None
returns-in-None c =
    definition_unnamed (names_in c.args.arrays.now) (heading_of c.args.target.now) c.defines_function.result _ c.defines_function.ensures c.if-not-defines_function.false c.in-None.ensures
