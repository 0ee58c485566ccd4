use Rattle.std.proofs.Common.{length, sym, subst, ◌∙◌}
use Rattle.block_judge.specs.Arms.{IsWithin}
use Rattle.block_judge.proofs.ArmLemmas.{within_some}
use Rattle.block_judge.proofs.BlockLemmas.{label_entered, no_label_entered}
use Rattle.block_judge.proofs.blocks.Blocks.enters.Goals as goal

pub enters_place-requires-clause-to : goal.enters_place-requires-clause-to
enters_place-requires-clause-to c =
    within_some c.get.result (length c.args.self.now.arms.items) c.in-Some.to
    (subst (λ o. IsWithin o (length c.args.self.now.arms.items)) (sym c.get.ensures) (c.requires.sound.within c.args.label)) c.in-Some.is

pub returns-in-Some : goal.returns-in-Some
returns-in-Some c = λ ss known.
    label_entered ss c.args.from c.args.label c.in-Some.to c.get.result c.enters_place.result (c.get.ensures ∙ known.places c.args.label) c.in-Some.is (c.enters_place.ensures ss known)

pub returns-in-None : goal.returns-in-None
returns-in-None c = λ ss known. no_label_entered ss c.args.from c.args.label c.get.result (c.get.ensures ∙ known.places c.args.label) c.in-None.is
