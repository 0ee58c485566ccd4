use Rattle.block_judge.proofs.ArmLemmas.{enters_some, enters_none}
use Rattle.block_judge.proofs.arms.enters_arm.Goals as goal

pub returns-in-Some : goal.returns-in-Some
returns-in-Some c = λ ss known.
    enters_some ss c.args.arms.now c.args.from c.args.to c.in-Some.arm c.place_at.result _ c.stands_in_arm.result c.requires.numbered known c.requires.from c.requires.to c.place_at.ensures
    c.in-Some.is (c.stands_in_arm.ensures ss known)

pub returns-in-None : goal.returns-in-None
returns-in-None c = λ ss known. enters_none ss c.args.arms.now c.args.from c.args.to c.place_at.result _ known c.requires.to c.place_at.ensures c.in-None.is
