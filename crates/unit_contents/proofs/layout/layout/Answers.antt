use Rattle.std.proofs.Common.{true, false, sym, subst}
use Rattle.unit_contents.specs.Tables.{AreOpenings}
use Rattle.unit_contents.proofs.LayoutLaws.{laid_out}
use Rattle.unit_contents.proofs.layout.layout.Goals as goal

pub returns : goal.returns
returns c =
    laid_out c.args.text.now c.as_slice-steps.result.now c.as_slice.result.now c.as_slice-2.result.now c.as_slice-3.result.now
    (record { labels = c.in_ok-labels.labels; arms = c.in_ok-arms.arms; loops = c.in_ok-loops.loops }) c.as_slice-steps.ensures.value c.as_slice.ensures.value
    c.in_ok-labels.ensures c.in_ok-arms.ensures (subst (AreOpenings c.args.text.now false) (sym c.as_slice-2.ensures.value) c.in_ok-tested.ensures)
    (subst (AreOpenings c.args.text.now true) (sym c.as_slice-3.ensures.value) c.in_ok-onces.ensures) c.in_ok-loops.ensures
