-- The cases that are read so far.
use Rattle.std.specs.Prelude.{List}
use Rattle.c_tree.specs.declared.statement.CCase.{CCase}
use Rattle.c_statement_reader.specs.declared.case_list.CaseList.{CaseList}

unfoldable pub cases_in : CaseList → List CCase
cases_in list = list.cases
