use Rattle.std.proofs.Common.{refl}
use Rattle.fortran_checks.specs.f_tree.Meaning.{everything}
use Rattle.fortran_checks.specs.f_tree.Runs.{runs_opened}
use Rattle.fortran_rows.specs.ActsSources.{acts_sources_opened}
use Rattle.fortran_rows.proofs.example_rows.further_acts.Goals as goal

pub returns-clause-descriptor_of_another_type_meets : goal.returns-clause-descriptor_of_another_type_meets
unfolding everything runs_opened acts_sources_opened
returns-clause-descriptor_of_another_type_meets c = record { goes_on = refl; meets = refl }

pub returns-clause-item_of_another_type_meets : goal.returns-clause-item_of_another_type_meets
unfolding everything runs_opened acts_sources_opened
returns-clause-item_of_another_type_meets c = record { goes_on = refl; meets = refl }

pub returns-clause-format_that_ends_early_meets : goal.returns-clause-format_that_ends_early_meets
unfolding everything runs_opened acts_sources_opened
returns-clause-format_that_ends_early_meets c = record { goes_on = refl; meets = refl }

pub returns-clause-record_without_value_meets : goal.returns-clause-record_without_value_meets
unfolding everything runs_opened acts_sources_opened
returns-clause-record_without_value_meets c = record { goes_on = refl; meets = refl }

pub returns-clause-remainder_past_32_bits_meets : goal.returns-clause-remainder_past_32_bits_meets
unfolding everything runs_opened acts_sources_opened
returns-clause-remainder_past_32_bits_meets c = record { goes_on = refl; meets = refl }

pub returns-clause-zero_to_a_negative_power_meets : goal.returns-clause-zero_to_a_negative_power_meets
unfolding everything runs_opened acts_sources_opened
returns-clause-zero_to_a_negative_power_meets c = record { goes_on = refl; meets = refl }

pub returns-clause-part_past_its_text_meets : goal.returns-clause-part_past_its_text_meets
unfolding everything runs_opened acts_sources_opened
returns-clause-part_past_its_text_meets c = record { goes_on = refl; meets = refl }

pub returns-clause-label_in_a_block_meets : goal.returns-clause-label_in_a_block_meets
unfolding everything runs_opened acts_sources_opened
returns-clause-label_in_a_block_meets c = record { goes_on = refl; meets = refl }

pub returns-clause-text_too_short_for_its_dummy_meets : goal.returns-clause-text_too_short_for_its_dummy_meets
unfolding everything runs_opened acts_sources_opened
returns-clause-text_too_short_for_its_dummy_meets c = record { goes_on = refl; meets = refl }

pub returns-clause-argument_of_another_type_meets : goal.returns-clause-argument_of_another_type_meets
unfolding everything runs_opened acts_sources_opened
returns-clause-argument_of_another_type_meets c = record { goes_on = refl; meets = refl }

pub returns-clause-function_of_another_type_meets : goal.returns-clause-function_of_another_type_meets
unfolding everything runs_opened acts_sources_opened
returns-clause-function_of_another_type_meets c = record { goes_on = refl; meets = refl }

pub returns-clause-close_in_a_transfer_meets : goal.returns-clause-close_in_a_transfer_meets
unfolding everything runs_opened acts_sources_opened
returns-clause-close_in_a_transfer_meets c = record { goes_on = refl; meets = refl }

pub returns-clause-dimension_past_32_bits_meets : goal.returns-clause-dimension_past_32_bits_meets
unfolding everything runs_opened acts_sources_opened
returns-clause-dimension_past_32_bits_meets c = record { goes_on = refl; meets = refl }
