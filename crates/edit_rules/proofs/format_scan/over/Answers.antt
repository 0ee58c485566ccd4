use Rattle.edit_rules.proofs.FormatScanSteps.{over_joint, over_open, over_close, over_colon, over_edit}
use Rattle.edit_rules.proofs.format_scan.over.Goals as goal

pub returns-in-Joint-clause-goes_on : goal.returns-in-Joint-clause-goes_on
returns-in-Joint-clause-goes_on c total end before p s =
    over_joint total end c.args.scan.depth c.args.scan.weight before c.args.text.now c.args.part p c.in-Joint.is s

pub returns-in-Open-clause-goes_on : goal.returns-in-Open-clause-goes_on
returns-in-Open-clause-goes_on c total end before p s =
    over_open total end c.args.scan.depth c.args.scan.weight before c.args.text.now c.args.part p _ c.in-Open.is s

pub returns-in-Close-clause-goes_on : goal.returns-in-Close-clause-goes_on
returns-in-Close-clause-goes_on c total end before p s =
    over_close total end c.args.scan.depth c.args.scan.weight before c.args.text.now c.args.part p c.in-Close.is (c.requires.inner c.in-Close.is) s

pub returns-in-Colon-clause-goes_on : goal.returns-in-Colon-clause-goes_on
returns-in-Colon-clause-goes_on c total end before p s =
    over_colon total end c.args.scan.depth c.args.scan.weight before c.args.text.now c.args.part p _ c.max.ensures c.in-Colon.is s

pub returns-in-Give-clause-goes_on : goal.returns-in-Give-clause-goes_on
returns-in-Give-clause-goes_on c total end before p s =
    over_edit total end c.args.scan.depth c.args.scan.weight before c.args.text.now c.args.part p _ _ _ _ c.weight_of.ensures c.max-in-Give.ensures c.in-Give.is s
