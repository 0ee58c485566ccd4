use Rattle.std.proofs.Common.{refl}
use Rattle.fortran_checks.specs.f_tree.Meaning.{everything}
use Rattle.fortran_checks.specs.f_tree.Runs.{runs_opened}
use Rattle.fortran_rows.specs.TransferSources.{transfer_sources_opened}
use Rattle.fortran_rows.proofs.example_rows.transfers_run.Goals as goal

pub returns-clause-text_continued_ends : goal.returns-clause-text_continued_ends
unfolding everything runs_opened transfer_sources_opened
returns-clause-text_continued_ends c = record { steps = 250; comes_to = refl }

pub returns-clause-many_continuations_ends : goal.returns-clause-many_continuations_ends
unfolding everything runs_opened transfer_sources_opened
returns-clause-many_continuations_ends c = record { steps = 250; comes_to = refl }

pub returns-clause-reversion_and_fields_ends : goal.returns-clause-reversion_and_fields_ends
unfolding everything runs_opened transfer_sources_opened
returns-clause-reversion_and_fields_ends c = record { steps = 250; comes_to = refl }

pub returns-clause-nulls_and_a_slash_ends : goal.returns-clause-nulls_and_a_slash_ends
unfolding everything runs_opened transfer_sources_opened
returns-clause-nulls_and_a_slash_ends c = record { steps = 250; comes_to = refl }

pub returns-clause-stock_report_ends : goal.returns-clause-stock_report_ends
unfolding everything runs_opened transfer_sources_opened
returns-clause-stock_report_ends c = record { steps = 250; comes_to = refl }

pub returns-clause-digits_of_a_square_ends : goal.returns-clause-digits_of_a_square_ends
unfolding everything runs_opened transfer_sources_opened
returns-clause-digits_of_a_square_ends c = record { steps = 250; comes_to = refl }

pub returns-clause-nothing_to_read_ends : goal.returns-clause-nothing_to_read_ends
unfolding everything runs_opened transfer_sources_opened
returns-clause-nothing_to_read_ends c = record { steps = 250; comes_to = refl }

pub returns-clause-bounds_from_zero_ends : goal.returns-clause-bounds_from_zero_ends
unfolding everything runs_opened transfer_sources_opened
returns-clause-bounds_from_zero_ends c = record { steps = 250; comes_to = refl }

pub returns-clause-opened_once : goal.returns-clause-opened_once
unfolding everything runs_opened transfer_sources_opened
returns-clause-opened_once c = record { steps = 250; comes_to = refl }

pub returns-clause-opened_twice : goal.returns-clause-opened_twice
unfolding everything runs_opened transfer_sources_opened
returns-clause-opened_twice c = record { steps = 250; comes_to = refl }
