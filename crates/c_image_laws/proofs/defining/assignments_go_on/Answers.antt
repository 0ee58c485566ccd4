use Rattle.c_image_laws.proofs.Assignments.{assignments_stand, temporaries_are_assigned}
use Rattle.c_image_laws.proofs.defining.assignments_go_on.Goals as goal

pub returns : goal.returns
returns c = record { places = assignments_stand; temporaries = temporaries_are_assigned }
