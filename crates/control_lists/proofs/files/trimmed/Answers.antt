use Rattle.std.proofs.Common.{◌≡◌, arith}
use Rattle.control_lists.proofs.NameLemmas.{trim-starts, trim-goes_on, trim-ends, trim-empty}
use Rattle.control_lists.proofs.files.trimmed.Goals as goal
use Rattle.control_lists.proofs.files.trimmed.Goals.{then-loop-end-test+else-name-end-eq32, else-loop-end-test}

pub loop-end-init : goal.loop-end-init
loop-end-init c = record { within = omega arith; blank = trim-starts c.args.name.now }

pub loop-end-preserved : goal.loop-end-preserved
loop-end-preserved c = record {
  within = omega (arith, c.loop-end.invariant.within);
  blank = trim-goes_on c.args.name.now c.loop-end.end 0 c.loop-end-test.true c.loop-end.invariant.within c.if-name-end-eq32.true c.loop-end.invariant.blank;
}

pub returns : goal.returns
returns c =
    elim c.loop-end-test.branch [
      | then-loop-end-test+else-name-end-eq32 w ↦ trim-ends c.args.name.now c.loop-end.end 0 w.loop-end-test.true c.loop-end.invariant.within w.if-name-end-eq32.false c.loop-end.invariant.blank
      | else-loop-end-test w ↦ let none : c.loop-end.end ≡ 0 = omega arith in trim-empty c.args.name.now c.loop-end.end none c.loop-end.invariant.blank
    ]
