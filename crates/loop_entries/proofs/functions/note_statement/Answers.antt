use Rattle.f_tree.specs.Attributes.{arrays_of}
use Rattle.loop_entries.proofs.FunctionLaws.{notes_none, defines_other}
use Rattle.loop_entries.proofs.functions.note_statement.Goals as goal

pub returns-in_default : goal.returns-in_default
returns-in_default c = λ u are arrays stands. notes_none u c.args.functions.now _ (defines_other (arrays_of u) c.args.body.now c.in_default.not-Assign)
