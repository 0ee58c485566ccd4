use Rattle.c_image_laws.proofs.CallsStand.{begins_stand, result_stands, passed_stands}
use Rattle.c_image_laws.proofs.Growing.{cut_stands}
use Rattle.c_image_laws.proofs.calls.calls_stand.Goals as goal

pub returns : goal.returns
returns c = record { begins = begins_stand; results = result_stands; passed = passed_stands; cut = cut_stands }
