use Rattle.c_image_laws.proofs.AddressValues.{Address-points, Array-points}
use Rattle.c_image_laws.proofs.Pointers.{parameters_are_passed_on, text_parts_point}
use Rattle.c_image_laws.proofs.calls.arguments_point.Goals as goal

pub returns : goal.returns
returns c = record { places = Address-points; arrays = Array-points; parameters = parameters_are_passed_on; parts = text_parts_point }
