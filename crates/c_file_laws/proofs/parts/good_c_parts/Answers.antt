use Rattle.c_file_laws.proofs.ObjectGood.{good_objects, good_constants}
use Rattle.c_file_laws.proofs.FileLaws.{good_c_functions}
use Rattle.c_file_laws.proofs.parts.good_c_parts.Goals as goal

pub returns : goal.returns
returns c = record { objects = good_objects; constants = good_constants; functions = good_c_functions }
