use Rattle.c_image_laws.proofs.CallsStand.{extends_passed}
use Rattle.c_image_laws.proofs.Growing.{extends_itself, extends_through, extends_framed, extends_held}
use Rattle.c_image_laws.proofs.Knowledge.{knows_later, knows_kept}
use Rattle.c_image_laws.proofs.calls.worlds_grow.Goals as goal

pub returns : goal.returns
returns c = record {
  nothing = extends_itself;
  further = extends_through;
  frames = extends_framed;
  objects = extends_held;
  arguments = extends_passed;
  known_later = knows_later;
  known_kept = knows_kept;
}
