-- Object 1 is the variable.
use Rattle.std.specs.Prelude.{[], ◌∷◌}
use Rattle.std.proofs.Common.{refl}
use Rattle.faithful.specs.f_tree.Meaning.{everything}
use Rattle.faithful.specs.f_tree.Runs.{runs_opened}
use Rattle.faithful.specs.c_tree.Opened.{meaning_opened}
use Rattle.faithful.specs.Opened.{faithful_opened}
use Rattle.faithful.specs.SameState.{running, ended}
use Rattle.faithful.specs.SameTransfer as transfer
use Rattle.faithful.specs.Signatures as signatures
use Rattle.faithful.specs.FrameImage as frame
use Rattle.faithful_rows.proofs.Checks.{world_by}
use Rattle.faithful_rows.proofs.PairProofs.{homes_from}
use Rattle.faithful_rows.proofs.pairs.text_is_written_inside.Goals as goal

pub returns-clause-named : goal.returns-clause-named
unfolding everything runs_opened meaning_opened faithful_opened
returns-clause-named c = signatures.more _ _ _ _ (record { functions = refl; objects = refl }) signatures.none

pub returns-clause-started : goal.returns-clause-started
unfolding everything runs_opened meaning_opened faithful_opened
returns-clause-started c = running _ _ _ _ _ _ _ _ (world_by _ _ _ (homes_from (1 ∷ [])) _ _ _ refl
    (transfer.both _ _
    (record {
      direction = transfer.outputs;
      layout = transfer.computed _;
      medium = transfer.in_file _ _ (record { object = refl; offset = refl; size = refl; count = refl; position = refl });
      progress = record { values = refl; written = refl };
    }))
    refl refl (frame.more _ _ (record { unit = _; is = refl; function = 0; has = refl; dummies = frame.none; result = tt }) frame.none)) refl

pub returns-clause-one_item : goal.returns-clause-one_item
unfolding everything runs_opened meaning_opened faithful_opened
returns-clause-one_item c = running _ _ _ _ _ _ _ _ (world_by _ _ _ (homes_from (1 ∷ [])) _ _ _ refl
    (transfer.both _ _
    (record {
      direction = transfer.outputs;
      layout = transfer.computed _;
      medium = transfer.in_file _ _ (record { object = refl; offset = refl; size = refl; count = refl; position = refl });
      progress = record { values = refl; written = refl };
    }))
    refl refl (frame.more _ _ (record { unit = _; is = refl; function = 0; has = refl; dummies = frame.none; result = tt }) frame.none)) refl

pub returns-clause-finished : goal.returns-clause-finished
unfolding everything runs_opened meaning_opened faithful_opened
returns-clause-finished c = running _ _ _ _ _ _ _ _ (world_by _ _ _ (homes_from (1 ∷ [])) _ _ _ refl transfer.neither refl refl (frame.more _ _ (record { unit = _; is = refl; function = 0; has = refl; dummies = frame.none; result = tt }) frame.none)) refl

pub returns-clause-ended : goal.returns-clause-ended
unfolding everything runs_opened meaning_opened faithful_opened
returns-clause-ended c = ended _ _ _ _ _ (world_by _ _ _ (homes_from (1 ∷ [])) _ _ _ refl transfer.neither refl refl frame.none) refl
