use Rattle.c_image_laws.proofs.IdleFrames.{idle_beside_sequence, idle_beside_frame, idle_beside_object, idle_before}
use Rattle.c_image_laws.proofs.calls.frames_stay_idle.Goals as goal

pub returns : goal.returns
returns c = record { sequence = idle_beside_sequence; frame = idle_beside_frame; object = idle_beside_object; before = idle_before }
