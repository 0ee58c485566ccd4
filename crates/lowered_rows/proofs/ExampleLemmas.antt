-- The lowering of the examples, computed, and some of them as instances of the law of statements.
use Rattle.std.specs.Prelude.{◌≡◌, Some}
use Rattle.std.proofs.Common.{refl}
use Rattle.fortran_laws.specs.f_tree.Step.{step_opened}
use Rattle.lowering.specs.Units.{lowered_unit}
use Rattle.lowering_laws.specs.Layer.{IsLaidOut, others_opened}
use Rattle.lowering_laws.specs.Layout.{LoopsFit, without_loops, with_loops, layout_opened}
use Rattle.lowered_rows.specs.Examples.{a_loop, loop_steps, a_block, block_steps, lowered_steps, unit_of, a_sum, sum_text, a_search, search_text, a_list, list_text, a_choice, choice_text, a_detour, detour_text, example_opened, loop_text}
use Rattle.lowering_laws.proofs.LayoutLemmas.{laid_out}

pub loop_is_lowered : lowered_steps a_loop ≡ Some loop_steps
unfolding example_opened
loop_is_lowered = refl

pub block_is_lowered : lowered_steps a_block ≡ Some block_steps
unfolding example_opened
block_is_lowered = refl

pub sum_is_lowered : lowered_unit (unit_of a_sum) ≡ Some sum_text
unfolding example_opened
sum_is_lowered = refl

pub sum_is_laid_out : IsLaidOut sum_text
unfolding example_opened layout_opened others_opened
sum_is_laid_out = laid_out (unit_of a_sum) sum_text sum_is_lowered refl refl (without_loops refl)

pub counted_is_lowered : lowered_unit (unit_of a_loop) ≡ Some loop_text
unfolding example_opened
counted_is_lowered = refl

pub counted_fits : LoopsFit (unit_of a_loop).program
unfolding example_opened layout_opened others_opened
counted_fits = with_loops (record { nested = record { ended = refl; contained = refl }; blocks = refl; branches = refl; entries = refl })

pub counted_is_laid_out : IsLaidOut loop_text
unfolding example_opened layout_opened others_opened
counted_is_laid_out = laid_out (unit_of a_loop) loop_text counted_is_lowered refl refl counted_fits

pub search_is_lowered : lowered_unit (unit_of a_search) ≡ Some search_text
unfolding example_opened
search_is_lowered = refl

pub search_fits : LoopsFit (unit_of a_search).program
unfolding example_opened layout_opened others_opened
search_fits = with_loops (record { nested = record { ended = refl; contained = refl }; blocks = refl; branches = refl; entries = refl })

pub search_is_laid_out : IsLaidOut search_text
unfolding example_opened layout_opened others_opened
search_is_laid_out = laid_out (unit_of a_search) search_text search_is_lowered refl refl search_fits

pub list_is_lowered : lowered_unit (unit_of a_list) ≡ Some list_text
unfolding example_opened
list_is_lowered = refl

pub list_is_laid_out : IsLaidOut list_text
unfolding example_opened layout_opened others_opened
list_is_laid_out = laid_out (unit_of a_list) list_text list_is_lowered refl refl (without_loops refl)

pub choice_is_lowered : lowered_unit (unit_of a_choice) ≡ Some choice_text
unfolding example_opened
choice_is_lowered = refl

pub choice_is_laid_out : IsLaidOut choice_text
unfolding example_opened layout_opened others_opened
choice_is_laid_out = laid_out (unit_of a_choice) choice_text choice_is_lowered refl refl (without_loops refl)

pub detour_is_lowered : lowered_unit (unit_of a_detour) ≡ Some detour_text
unfolding example_opened step_opened
detour_is_lowered = refl

pub detour_is_laid_out : IsLaidOut detour_text
unfolding example_opened layout_opened others_opened
detour_is_laid_out = laid_out (unit_of a_detour) detour_text detour_is_lowered refl refl (without_loops refl)
