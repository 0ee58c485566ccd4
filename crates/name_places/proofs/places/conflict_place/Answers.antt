use Rattle.std.proofs.Common.{Option, ℕ, ap, ◌∙◌}
use Rattle.name_table.specs.Named.{value_of}
use Rattle.name_places.specs.FirstPlaces.{placed, later}
use Rattle.name_places.proofs.PlaceLemmas.{constant_at, procedure_at, other_at, stored_none, function_none, unit_none}
use Rattle.name_places.proofs.places.conflict_place.Goals as goal

pub returns-in-Constant : goal.returns-in-Constant
returns-in-Constant c kinds =
    constant_at c.args.unit.now c.args.places.now c.args.name.now c.args.class kinds c.place_of.result c.requires c.in-Constant.is
    (c.place_of.ensures ∙ ap (placed c.args.unit.now c.args.unit.now.statements)
    (c.later.ensures ∙ ap (λ (o : Option ℕ). later o c.get-declared.result) c.get.ensures ∙ ap (later (value_of c.args.places.now.fixed c.args.name.now)) c.get-declared.ensures))

pub returns-in-DummyProcedure : goal.returns-in-DummyProcedure
returns-in-DummyProcedure c kinds =
    procedure_at c.args.unit.now c.args.places.now c.args.name.now c.args.class kinds c.place_of-in-DummyProcedure.result c.requires c.in-DummyProcedure.is
    (c.place_of-in-DummyProcedure.ensures ∙ ap (placed c.args.unit.now c.args.unit.now.statements)
    (c.later-in-DummyProcedure.ensures ∙ ap (λ (o : Option ℕ). later o c.get-declared.result) c.get-in-DummyProcedure.ensures
    ∙ ap (later (value_of c.args.places.now.procedures c.args.name.now)) c.get-declared.ensures))

pub returns-in-Stored : goal.returns-in-Stored
returns-in-Stored c kinds =
    other_at c.args.unit.now c.args.places.now c.args.name.now c.args.class kinds c.place_of-in-Stored.result c.requires (stored_none c.args.class c.in-Stored.is)
    (c.place_of-in-Stored.ensures ∙ ap (placed c.args.unit.now c.args.unit.now.statements) c.get-declared.ensures)

pub returns-in-StatementFunction : goal.returns-in-StatementFunction
returns-in-StatementFunction c kinds =
    other_at c.args.unit.now c.args.places.now c.args.name.now c.args.class kinds c.place_of-in-StatementFunction.result c.requires
    (function_none c.args.class c.in-StatementFunction.is)
    (c.place_of-in-StatementFunction.ensures ∙ ap (placed c.args.unit.now c.args.unit.now.statements) c.get-declared.ensures)

pub returns-in-Unit : goal.returns-in-Unit
returns-in-Unit c kinds =
    other_at c.args.unit.now c.args.places.now c.args.name.now c.args.class kinds c.place_of-in-Unit.result c.requires (unit_none c.args.class c.in-Unit.is)
    (c.place_of-in-Unit.ensures ∙ ap (placed c.args.unit.now c.args.unit.now.statements) c.get-declared.ensures)
