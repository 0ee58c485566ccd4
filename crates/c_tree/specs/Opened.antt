-- Names that open the definitions of the C meaning, for programs that are computed.
use Rattle.simulation.specs.Machine.{machine_opened}
use Rattle.edit_meaning.specs.Listed.{listed_whole}
use Rattle.edit_meaning.specs.ListInput.{given}
use Rattle.edit_meaning.specs.Formats.{edits_for}
use Rattle.edit_meaning.specs.EditedFields.{int_field, logical_field, text_field}
use Rattle.run_state.specs.Bits.{bits_opened}
use Rattle.edit_meaning.specs.EditedRecords.{made_on, made_ahead}
use Rattle.edit_meaning.specs.TakenFields.{int_in, logical_in, text_in}
use Rattle.run_state.specs.Units.{read_unit, write_unit, back_unit, rewind_unit, end_unit, close_unit, open_unit}
use Rattle.c_tree.specs.LibraryTexts.{copied, concatenated, on_texts}
use Rattle.c_tree.specs.LibraryNumbers.{on_integers, on_integer}
use Rattle.c_tree.specs.LibraryUnits.{opens, closes, positions}
use Rattle.c_tree.specs.Objects.{fetched, stored}
use Rattle.c_tree.specs.Values.{seen}
use Rattle.c_tree.specs.FormatsGiven.{format_at}
use Rattle.c_tree.specs.TransferStarts.{starts}
use Rattle.c_tree.specs.TransferCalls.{formatted_items, listed_items, ends}
use Rattle.c_tree.specs.Library.{stops, out_of_range, library}
use Rattle.c_tree.specs.declared.expression.CExpr
use Rattle.c_tree.specs.declared.statement.CStmt
use Rattle.c_tree.specs.Linking.{program, first_broken_rule}
use Rattle.c_tree.specs.Steps.{deed, step, start, resume}
use Rattle.c_tree.specs.Meaning.{run_of, meaning, outcome, function_name, step_factor}

-- `unfolding trees_opened` lets a definition by cases see the trees that the forms' names make
unfoldable pub trees_opened : Unit {0}
unfolding Rattle.c_tree.specs.declared.expression.CExpr.TheBlock.hidden-the_row-CExpr-0 Rattle.c_tree.specs.declared.statement.CStmt.TheBlock.hidden-the_row-CStmt-0 Rattle.c_tree.specs.declared.statement.CStmt.TheBlock.hidden-the_row-CStmt-1 denote.Hole.Carrier.hidden
trees_opened = tt

-- `unfolding meaning_opened` opens each definition between the trees and the outcome of a run
unfoldable pub meaning_opened : Unit {0}
unfolding machine_opened bits_opened listed_whole given made_on made_ahead edits_for int_field logical_field text_field int_in logical_in text_in read_unit write_unit back_unit rewind_unit end_unit close_unit open_unit fetched stored seen format_at starts formatted_items listed_items ends copied concatenated on_texts on_integers on_integer opens closes positions stops out_of_range library program first_broken_rule deed step start resume run_of meaning outcome function_name step_factor trees_opened
meaning_opened = tt
