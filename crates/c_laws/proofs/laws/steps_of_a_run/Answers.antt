use Rattle.std.proofs.Common.{refl}
use Rattle.c_tree.specs.simulation.Machine.{next}
use Rattle.c_laws.proofs.StepLaws.{step_at, run_of-suc, next-Runs}
use Rattle.c_laws.proofs.laws.steps_of_a_run.Goals as goal

pub returns-clause-one_more : goal.returns-clause-one_more
returns-clause-one_more c program units count = run_of-suc program units count

pub returns-clause-seen_alone : goal.returns-clause-seen_alone
returns-clause-seen_alone c program number view waiting world = next-Runs program number view waiting world

pub returns-clause-ended_stays : goal.returns-clause-ended_stays
unfolding next
returns-clause-ended_stays c program ending waiting world = refl

pub returns-clause-broken_stays : goal.returns-clause-broken_stays
unfolding next
returns-clause-broken_stays c program reason numbers = refl

pub returns-clause-item : goal.returns-clause-item
returns-clause-item c function view world item found = step_at function view world item found
