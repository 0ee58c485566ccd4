use Rattle.std.proofs.Common.{◌∷◌, [], sym, ◌∙◌}
use Rattle.f_tree.specs.Attributes.{definitions_in}
use Rattle.f_tree.specs.declared.statements.Body.TheVariants as body
use Rattle.found_rows.proofs.Walks.{then_ok}
use Rattle.name_table.specs.Named.{names_in}
use Rattle.expansion_judge.specs.NodesCounted.{Sizes, definition_of}
use Rattle.expansion_judge.proofs.FunctionLaws.{sizes_none, sizes_defined, defines_not, defines_none}
use Rattle.expansion_judge.proofs.functions.note_definition.Goals as goal

pub returns-then-not-defines_function : goal.returns-then-not-defines_function
returns-then-not-defines_function c =
    sizes_none c.args.functions.now _
    (defines_not (names_in c.args.arrays.now) c.args.target.now c.args.value.now (sym c.defines_function.ensures ∙ c.if-not-defines_function.true))

pub returns-in-Some : goal.returns-in-Some
returns-in-Some c =
    let arrays = names_in c.args.arrays.now in
    let old = c.args.functions.now in
    let new = c.note_function.new.functions in
    let x = c.in-Some.name.now in
    then_ok (Sizes old new (definition_of x c.args.value.now ∷ [])) (Sizes old new (definitions_in arrays (body.Assign c.args.target.now c.args.value.now))) c.note_function.result
    (sizes_defined old new arrays x c.args.target.now c.args.value.now (sym c.defines_function.ensures ∙ c.if-not-defines_function.false) (sym c.in-Some.ensures))
    c.note_function.ensures

pub returns-in-None : goal.returns-in-None
returns-in-None c = sizes_none c.args.functions.now _ (defines_none (names_in c.args.arrays.now) c.args.target.now c.args.value.now (sym c.in-None.ensures))
