use Rattle.lowered_rows.proofs.ExampleLemmas.{counted_is_lowered, counted_fits, counted_is_laid_out, search_is_lowered, search_fits, search_is_laid_out}
use Rattle.lowered_rows.proofs.examples.loops_are_laid_out.Goals as goal

pub returns : goal.returns
returns c = record {
  counted_lowered = counted_is_lowered;
  counted_fits = counted_fits;
  counted_laid = counted_is_laid_out;
  lowered = search_is_lowered;
  fits = search_fits;
  laid = search_is_laid_out;
}
