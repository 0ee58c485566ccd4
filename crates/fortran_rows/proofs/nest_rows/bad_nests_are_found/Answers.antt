use Rattle.std.specs.Prelude.{◌≡◌, true, false}
use Rattle.fortran_checks.specs.f_tree.Meaning.{everything}
use Rattle.fortran_checks.specs.f_tree.Nests.{nests_opened}
use Rattle.fortran_rows.specs.IllFormedSources.{ill_formed_sources_opened}
use Rattle.fortran_rows.specs.NestsSources.{nests_sources_opened}
use Rattle.fortran_rows.proofs.nest_rows.bad_nests_are_found.Goals as goal

pub returns-clause-cross : goal.returns-clause-cross
unfolding everything nests_opened ill_formed_sources_opened nests_sources_opened
returns-clause-cross c h = let no_one : false ≡ true = h.contained in absurd (cc)

pub returns-clause-past_the_outer : goal.returns-clause-past_the_outer
unfolding everything nests_opened ill_formed_sources_opened nests_sources_opened
returns-clause-past_the_outer c h = let no_one : false ≡ true = h.contained in absurd (cc)

pub returns-clause-before : goal.returns-clause-before
unfolding everything nests_opened ill_formed_sources_opened nests_sources_opened
returns-clause-before c h = let no_one : false ≡ true = h.ended in absurd (cc)

pub returns-clause-ends_with_a_loop : goal.returns-clause-ends_with_a_loop
unfolding everything nests_opened ill_formed_sources_opened nests_sources_opened
returns-clause-ends_with_a_loop c h = let no_one : false ≡ true = h.ended in absurd (cc)

pub returns-clause-ends_with_a_while : goal.returns-clause-ends_with_a_while
unfolding everything nests_opened ill_formed_sources_opened nests_sources_opened
returns-clause-ends_with_a_while c h = let no_one : false ≡ true = h.ended in absurd (cc)

pub returns-clause-without_its_end : goal.returns-clause-without_its_end
unfolding everything nests_opened ill_formed_sources_opened nests_sources_opened
returns-clause-without_its_end c h = let no_one : false ≡ true = h.ended in absurd (cc)

pub returns-clause-without_its_end_do : goal.returns-clause-without_its_end_do
unfolding everything nests_opened ill_formed_sources_opened nests_sources_opened
returns-clause-without_its_end_do c h = let no_one : false ≡ true = h.ended in absurd (cc)
