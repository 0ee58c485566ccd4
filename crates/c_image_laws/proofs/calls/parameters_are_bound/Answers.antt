use Rattle.c_image_laws.proofs.Parameters.{parameter_reaches, parameter_holds, temporary_at, value_sound, value_at}
use Rattle.c_image_laws.proofs.calls.parameters_are_bound.Goals as goal

pub returns : goal.returns
returns c = record { reach = parameter_reaches; hold = parameter_holds; temporaries = temporary_at; sound = value_sound; there = value_at }
