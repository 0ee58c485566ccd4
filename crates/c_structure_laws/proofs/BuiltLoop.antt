-- The examples are built as they say.
use Rattle.std.specs.Prelude.{◌≡◌, Some}
use Rattle.std.proofs.Common.{refl}
use Rattle.c_structure.specs.Expressions.{expressions_opened}
use Rattle.c_structure.specs.Statements.{statements_for, statements_opened}
use Rattle.c_structure_laws.specs.Example.{its_outline, its_items, its_statements, outline_of_do, items_of_do, statements_of_do, outline_of_switch, items_of_switch, statements_of_switch}

pub loop_is_built : statements_for its_outline 7 0 its_items ≡ Some its_statements
unfolding expressions_opened statements_opened
loop_is_built = refl

pub loop_once_is_built : statements_for outline_of_do 5 0 items_of_do ≡ Some statements_of_do
unfolding expressions_opened statements_opened
loop_once_is_built = refl

pub switch_is_built : statements_for outline_of_switch 6 0 items_of_switch ≡ Some statements_of_switch
unfolding expressions_opened statements_opened
switch_is_built = refl
