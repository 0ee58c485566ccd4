use Rattle.std.proofs.Common.{drop, arith}
use Rattle.edit_meaning.specs.Formats.{pass}
use Rattle.edit_rules.specs.FormatScans.{heaviest}
use Rattle.edit_rules.proofs.FormatScanSteps.{scan_start, ends_at, no_end}
use Rattle.edit_rules.proofs.format_scan.weigh.Goals as goal

pub loop-at-init : goal.loop-at-init
loop-at-init c = record { within = c.requires; later = omega arith; depth = omega arith; goes_on = λ depth joint format after s. scan_start s }

pub returns-then-is_end-clause-value : goal.returns-then-is_end-clause-value
returns-then-is_end-clause-value c depth joint format after s =
    ends_at (heaviest (pass format)) after c.loop-at.scan.depth c.loop-at.scan.weight (drop c.loop-at.at c.args.text.now) c.args.text.now c.part_at-parted.result
    c.part_at-parted.ensures.value (c.is_end.ensures.yes c.if-is_end.true) (c.is_end.ensures.outermost c.if-is_end.true)
    (c.loop-at.invariant.goes_on depth joint format after s)

pub returns-clause-value : goal.returns-clause-value
returns-clause-value c depth joint format after s =
    absurd (no_end (heaviest (pass format)) after c.loop-at.scan.depth c.loop-at.scan.weight c.loop-at.at c.args.text.now (omega arith) (c.loop-at.invariant.goes_on depth joint format after s))
