-- What an expression is judged to be, with the least of the rows that it breaks.
use Rattle.expression_judge.specs.declared.operand.Operand.{Operand}
use Rattle.expression_judge.specs.declared.operand.Operand.TheVariants as is
use Rattle.expression_judge.specs.declared.operand.Found.{Found}
use Rattle.declaration_rows.specs.Judgement.{What, AValue, APlace, AnArray, AProcedureName, AFunctionName, AnExit, NoOperand, Judged}
use Rattle.refusal_order.specs.Earliest.{least_of as least}

unfoldable pub operand_of : What → Operand
operand_of AValue = is.Value
operand_of APlace = is.Place
operand_of (AnArray sized) = is.Array sized
operand_of AProcedureName = is.ProcedureName
operand_of AFunctionName = is.FunctionName
operand_of (AnExit label) = is.Exit label
operand_of NoOperand = is.Nothing

unfoldable pub found : Judged → Found
found j = record { what = operand_of j.what; basic = j.basic; fault = least j.faults }
