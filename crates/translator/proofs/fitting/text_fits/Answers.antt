use Rattle.translator.proofs.FitLemmas.{text_fitting}
use Rattle.translator.proofs.fitting.text_fits.Goals as goal

pub returns : goal.returns
returns c =
    text_fitting c.args.text.now c.as_slice.result.now c.as_slice-2.result.now c.parts_fit.result c.as_slice.ensures.value c.as_slice-2.ensures.value c.parts_fit.ensures
