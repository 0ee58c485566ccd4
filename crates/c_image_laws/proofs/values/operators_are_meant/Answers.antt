use Rattle.c_image_laws.proofs.Contracts.{constants_are_meant}
use Rattle.c_image_laws.proofs.FunctionValues.{function_meant, library_meant, complement_meant}
use Rattle.c_image_laws.proofs.OperatorValues.{prefix_meant, operator_meant, decided_both, decided_either}
use Rattle.c_image_laws.proofs.values.operators_are_meant.Goals as goal

pub returns : goal.returns
returns c = record {
  constants = constants_are_meant;
  prefixes = prefix_meant;
  operators = operator_meant;
  decides_both = decided_both;
  decides_either = decided_either;
  functions = function_meant;
  library = library_meant;
  complement = complement_meant;
}
