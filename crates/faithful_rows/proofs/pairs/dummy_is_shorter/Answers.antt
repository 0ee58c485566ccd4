-- The text of the main program is object 0; strings stand behind it, and objects 2 and 3 are the parameters of the subroutine.
use Rattle.std.specs.Prelude.{[], ◌∷◌, codes}
use Rattle.std.proofs.Common.{refl}
use Rattle.faithful.specs.f_tree.Meaning.{everything}
use Rattle.faithful.specs.f_tree.Runs.{runs_opened}
use Rattle.faithful.specs.f_tree.Facts.{Named}
use Rattle.faithful.specs.c_tree.Opened.{meaning_opened}
use Rattle.faithful.specs.Opened.{faithful_opened}
use Rattle.faithful.specs.SameState.{running, ended}
use Rattle.faithful.specs.SameTransfer as transfer
use Rattle.faithful.specs.Signatures as signatures
use Rattle.faithful.specs.FrameImage as frame
use Rattle.faithful_rows.proofs.Checks.{world_by, text_dummy}
use Rattle.faithful_rows.proofs.PairProofs.{homes_from}
use Rattle.faithful_rows.proofs.pairs.dummy_is_shorter.Goals as goal

pub returns-clause-named : goal.returns-clause-named
unfolding everything runs_opened meaning_opened faithful_opened
returns-clause-named c = signatures.more _ _ _ _ (record { functions = refl; objects = refl }) signatures.none

pub returns-clause-assigned : goal.returns-clause-assigned
unfolding everything runs_opened meaning_opened faithful_opened
returns-clause-assigned c = running _ _ _ _ _ _ _ _ (world_by _ _ _ (homes_from (0 ∷ [])) _ _ _ refl transfer.neither refl refl (frame.more _ _ (record { unit = _; is = refl; function = 0; has = refl; dummies = frame.none; result = tt }) frame.none)) refl

pub returns-clause-called : goal.returns-clause-called
unfolding everything runs_opened meaning_opened faithful_opened
returns-clause-called c = running _ _ _ _ _ _ _ _ (world_by _ _ _ (homes_from (0 ∷ [])) _ _ _ refl transfer.neither refl refl (frame.more _ _
    (record {
      unit = _;
      is = refl;
      function = 1;
      has = refl;
      dummies = frame.more (Named (codes "e")) [] (text_dummy _ _ _ _ _ _ (codes "e") (codes "e") _ 3 refl refl (0, refl, refl) refl refl) frame.none;
      result = tt;
    })
    (frame.more _ _ (record { unit = _; is = refl; function = 0; has = refl; dummies = frame.none; result = tt }) frame.none))) refl

pub returns-clause-changed : goal.returns-clause-changed
unfolding everything runs_opened meaning_opened faithful_opened
returns-clause-changed c = running _ _ _ _ _ _ _ _ (world_by _ _ _ (homes_from (0 ∷ [])) _ _ _ refl transfer.neither refl refl (frame.more _ _
    (record {
      unit = _;
      is = refl;
      function = 1;
      has = refl;
      dummies = frame.more (Named (codes "e")) [] (text_dummy _ _ _ _ _ _ (codes "e") (codes "e") _ 3 refl refl (0, refl, refl) refl refl) frame.none;
      result = tt;
    })
    (frame.more _ _ (record { unit = _; is = refl; function = 0; has = refl; dummies = frame.none; result = tt }) frame.none))) refl

pub returns-clause-answered : goal.returns-clause-answered
unfolding everything runs_opened meaning_opened faithful_opened
returns-clause-answered c = running _ _ _ _ _ _ _ _ (world_by _ _ _ (homes_from (0 ∷ [])) _ _ _ refl transfer.neither refl refl (frame.more _ _ (record { unit = _; is = refl; function = 0; has = refl; dummies = frame.none; result = tt }) frame.none)) refl

pub returns-clause-ended : goal.returns-clause-ended
unfolding everything runs_opened meaning_opened faithful_opened
returns-clause-ended c = ended _ _ _ _ _ (world_by _ _ _ (homes_from (0 ∷ [])) _ _ _ refl transfer.neither refl refl frame.none) refl
