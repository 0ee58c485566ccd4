use Rattle.name_table.specs.Named.{names_in}
use Rattle.expansion_judge.proofs.FunctionLaws.{sizes_none, defines_other}
use Rattle.expansion_judge.proofs.functions.note_statement.Goals as goal

pub returns-in_default : goal.returns-in_default
returns-in_default c = sizes_none c.args.functions.now _ (defines_other (names_in c.args.arrays.now) c.args.body.now c.in_default.not-Assign)
