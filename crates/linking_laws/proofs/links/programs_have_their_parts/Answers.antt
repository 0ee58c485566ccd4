use Rattle.linking_laws.proofs.Programs.{functions_stand, externals_stand, constants_stand}
use Rattle.linking_laws.proofs.FunctionObjects.{functions_have_objects}
use Rattle.linking_laws.proofs.links.programs_have_their_parts.Goals as goal

pub returns : goal.returns
returns c = record { functions = functions_stand; externals = externals_stand; constants = constants_stand; objects = functions_have_objects }
