use Rattle.std.proofs.Common.{refl}
use Rattle.fortran_checks.specs.f_tree.Meaning.{everything}
use Rattle.fortran_checks.specs.f_tree.Runs.{runs_opened, no_options}
use Rattle.fortran_checks.specs.f_tree.Checks.{checks_opened}
use Rattle.fortran_checks.proofs.CheckLemmas.{checked_well, sets_well}
use Rattle.fortran_rows.specs.WorkedSources.{sources_opened, arrays_equivalenced, common_seen_twice, types_equivalenced}
use Rattle.std.specs.Prelude.{codes}
use Rattle.fortran_rows.proofs.well_formed_rows.worked_sets_are_well_formed.Goals as goal

pub returns-clause-sum : goal.returns-clause-sum
unfolding everything runs_opened checks_opened sources_opened
returns-clause-sum c = sets_well _ refl

pub returns-clause-loops : goal.returns-clause-loops
unfolding everything runs_opened checks_opened sources_opened
returns-clause-loops c = sets_well _ refl

pub returns-clause-branches : goal.returns-clause-branches
unfolding everything runs_opened checks_opened sources_opened
returns-clause-branches c = sets_well _ refl

pub returns-clause-calls : goal.returns-clause-calls
unfolding everything runs_opened checks_opened sources_opened
returns-clause-calls c = sets_well _ refl

pub returns-clause-acts_of_values : goal.returns-clause-acts_of_values
unfolding everything runs_opened checks_opened sources_opened
returns-clause-acts_of_values c = sets_well _ refl

pub returns-clause-acts_of_control : goal.returns-clause-acts_of_control
unfolding everything runs_opened checks_opened sources_opened
returns-clause-acts_of_control c = sets_well _ refl

pub returns-clause-acts_of_calls : goal.returns-clause-acts_of_calls
unfolding everything runs_opened checks_opened sources_opened
returns-clause-acts_of_calls c = sets_well _ refl

pub returns-clause-texts : goal.returns-clause-texts
unfolding everything runs_opened checks_opened sources_opened
returns-clause-texts c = sets_well _ refl

pub returns-clause-declarations : goal.returns-clause-declarations
unfolding everything runs_opened checks_opened sources_opened
returns-clause-declarations c = sets_well _ refl

pub returns-clause-procedures : goal.returns-clause-procedures
unfolding everything runs_opened checks_opened sources_opened
returns-clause-procedures c = sets_well _ refl

pub returns-clause-units : goal.returns-clause-units
unfolding everything runs_opened checks_opened sources_opened
returns-clause-units c = sets_well _ refl

pub returns-clause-common_seen_twice : goal.returns-clause-common_seen_twice
unfolding everything runs_opened checks_opened sources_opened
returns-clause-common_seen_twice c = checked_well no_options _ common_seen_twice refl

pub returns-clause-arrays_equivalenced : goal.returns-clause-arrays_equivalenced
unfolding everything runs_opened checks_opened sources_opened
returns-clause-arrays_equivalenced c = checked_well no_options _ arrays_equivalenced refl

pub returns-clause-types_equivalenced : goal.returns-clause-types_equivalenced
unfolding everything runs_opened checks_opened sources_opened
returns-clause-types_equivalenced c = checked_well no_options _ (types_equivalenced (codes "l")) refl

pub returns-clause-types_equivalenced_again : goal.returns-clause-types_equivalenced_again
unfolding everything runs_opened checks_opened sources_opened
returns-clause-types_equivalenced_again c = checked_well no_options _ (types_equivalenced (codes "i")) refl
