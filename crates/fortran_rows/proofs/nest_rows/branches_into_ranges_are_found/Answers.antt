use Rattle.std.proofs.Common.{refl}
use Rattle.fortran_checks.specs.f_tree.Meaning.{everything}
use Rattle.fortran_checks.specs.f_tree.Nests.{nests_opened}
use Rattle.fortran_rows.specs.ControlSources.{control_sources_opened}
use Rattle.fortran_rows.specs.LoopsSources.{loops_sources_opened}
use Rattle.fortran_rows.specs.NestsSources.{nests_sources_opened}
use Rattle.fortran_rows.proofs.nest_rows.branches_into_ranges_are_found.Goals as goal

pub returns-clause-into : goal.returns-clause-into
unfolding everything nests_opened control_sources_opened loops_sources_opened nests_sources_opened
returns-clause-into c = refl

pub returns-clause-into_the_inner : goal.returns-clause-into_the_inner
unfolding everything nests_opened control_sources_opened loops_sources_opened nests_sources_opened
returns-clause-into_the_inner c = refl

pub returns-clause-within : goal.returns-clause-within
unfolding everything nests_opened control_sources_opened loops_sources_opened nests_sources_opened
returns-clause-within c = refl

pub returns-clause-out : goal.returns-clause-out
unfolding everything nests_opened control_sources_opened loops_sources_opened nests_sources_opened
returns-clause-out c = refl
