use Rattle.c_emit_laws.proofs.FlatLaws.{flats_go_on}
use Rattle.c_emit_laws.proofs.KeptLaws.{kept_flats_go_on, computed_flats_go_on}
use Rattle.c_emit_laws.proofs.flats.flats_go_on.Goals as goal

pub returns : goal.returns
returns c = record { steer = flats_go_on; keep = kept_flats_go_on; compute = computed_flats_go_on }
