use Rattle.std.proofs.Common.{refl}
use Rattle.fortran_checks.specs.f_tree.Meaning.{everything}
use Rattle.fortran_checks.specs.f_tree.Nests.{nests_opened}
use Rattle.fortran_rows.specs.LoopsSources.{loops_sources_opened}
use Rattle.fortran_rows.specs.NestsSources.{nests_sources_opened}
use Rattle.fortran_rows.proofs.nest_rows.nests_are_computed.Goals as goal

pub returns-clause-shared : goal.returns-clause-shared
unfolding everything nests_opened loops_sources_opened nests_sources_opened
returns-clause-shared c = record { ended = refl; contained = refl }

pub returns-clause-by_end_do : goal.returns-clause-by_end_do
unfolding everything nests_opened loops_sources_opened nests_sources_opened
returns-clause-by_end_do c = record { ended = refl; contained = refl }

pub returns-clause-at_the_outer : goal.returns-clause-at_the_outer
unfolding everything nests_opened loops_sources_opened nests_sources_opened
returns-clause-at_the_outer c = refl

pub returns-clause-at_the_inner : goal.returns-clause-at_the_inner
unfolding everything nests_opened loops_sources_opened nests_sources_opened
returns-clause-at_the_inner c = refl

pub returns-clause-at_the_end : goal.returns-clause-at_the_end
unfolding everything nests_opened loops_sources_opened nests_sources_opened
returns-clause-at_the_end c = refl

pub returns-clause-behind : goal.returns-clause-behind
unfolding everything nests_opened loops_sources_opened nests_sources_opened
returns-clause-behind c = refl
