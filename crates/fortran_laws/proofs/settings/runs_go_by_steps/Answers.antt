use Rattle.std.proofs.Common.{◌≡◌, Some, refl}
use Rattle.f_tree.specs.simulation.Machine.{Runs, Over, Broken, Program, next, run}
use Rattle.f_tree.specs.Values.{Act}
use Rattle.f_tree.specs.World.{Ending, fortran_sorts}
use Rattle.f_tree.specs.Step.{fortran}
use Rattle.f_tree.specs.Meaning.{RunState, ftn, program, ending_of, act_of}
use Rattle.fortran_laws.proofs.settings.runs_go_by_steps.Goals as goal

ended_stays : (P : Program fortran_sorts) (x : RunState) (e : Ending) → ending_of x ≡ Some e → next fortran P x ≡ x
unfolding next ending_of
ended_stays P (Runs k v rest w) e h = absurd (cc)
ended_stays P (Over d frames w) e h = refl
ended_stays P (Broken act ks) e h = refl

act_stays : (P : Program fortran_sorts) (x : RunState) (act : Act) → act_of x ≡ Some act → next fortran P x ≡ x
unfolding next act_of
act_stays P (Runs k v rest w) act h = absurd (cc)
act_stays P (Over d frames w) act h = refl
act_stays P (Broken a ks) act h = refl

pub returns-clause-steps : goal.returns-clause-steps
unfolding ftn run
returns-clause-steps c g S units n = refl

pub returns-clause-ending : goal.returns-clause-ending
unfolding ftn run
returns-clause-ending c g S units n e h = ended_stays (program g S) (ftn g S units n) e h

pub returns-clause-act : goal.returns-clause-act
unfolding ftn run
returns-clause-act c g S units n act h = act_stays (program g S) (ftn g S units n) act h
