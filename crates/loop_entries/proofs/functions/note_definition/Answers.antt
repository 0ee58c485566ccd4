use Rattle.std.proofs.Common.{sym, ap, ◌∙◌}
use Rattle.f_tree.specs.Uses.{heading_of, defines_function}
use Rattle.f_tree.specs.Attributes.{arrays_of}
use Rattle.loop_ranges.proofs.found_rows.Walks.{then_ok}
use Rattle.name_table.specs.Named.{texts}
use Rattle.loop_entries.proofs.FunctionLaws.{notes_none, defines_not, defines_none, definition_noted}
use Rattle.loop_entries.proofs.functions.note_definition.Goals as goal

pub returns-then-not-defines_function : goal.returns-then-not-defines_function
returns-then-not-defines_function c = λ u are arrays stands.
    notes_none u c.args.functions.now _
    (defines_not (arrays_of u) c.args.target.now c.args.value.now
    (ap (λ xs. defines_function xs (heading_of c.args.target.now)) (sym arrays) ∙ sym c.defines_function.ensures ∙ c.if-not-defines_function.true))

pub returns-in-None : goal.returns-in-None
returns-in-None c = λ u are arrays stands.
    notes_none u c.args.functions.now _ (defines_none (arrays_of u) c.args.target.now c.args.value.now (sym c.in-None.ensures))

pub returns-in_ok-dummies-in-Some : goal.returns-in_ok-dummies-in-Some
returns-in_ok-dummies-in-Some c =
    then_ok _ _ c.note_function.result
    (λ notes u are arrays stands.
    definition_noted u c.args.table.now c.args.functions.now _ c.in-Some.name.now (texts c.as_slice.result.now) c.args.target.now c.args.value.now are stands
    (ap (λ xs. defines_function xs (heading_of c.args.target.now)) (sym arrays) ∙ sym c.defines_function.ensures ∙ c.if-not-defines_function.false) (sym c.in-Some.ensures)
    (ap texts c.as_slice.ensures.value ∙ c.in_ok-dummies-in-Some.ensures) notes)
    c.note_function.ensures
