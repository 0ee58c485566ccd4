-- Objects: 0 to 2 the constants, 3 to 5 the variables, 6 and 7 the temporaries of the main program; then each function's parameter and result.
use Rattle.std.specs.Prelude.{[], ◌∷◌, codes}
use Rattle.std.proofs.Common.{refl}
use Rattle.faithful.specs.f_tree.Meaning.{everything}
use Rattle.faithful.specs.f_tree.Runs.{runs_opened}
use Rattle.faithful.specs.f_tree.Facts.{Named}
use Rattle.faithful.specs.c_tree.Opened.{meaning_opened}
use Rattle.faithful.specs.Opened.{faithful_opened}
use Rattle.faithful.specs.SameState.{running, ended}
use Rattle.faithful.specs.SameTransfer as transfer
use Rattle.faithful.specs.Signatures as signatures
use Rattle.faithful.specs.FrameImage as frame
use Rattle.faithful_rows.proofs.Checks.{world_by, plain_dummy}
use Rattle.faithful_rows.proofs.PairProofs.{homes_from}
use Rattle.faithful_rows.proofs.pairs.results_are_given.Goals as goal

pub returns-clause-named : goal.returns-clause-named
unfolding everything runs_opened meaning_opened faithful_opened
returns-clause-named c = signatures.more _ _ _ _ (record { functions = refl; objects = refl }) signatures.none

pub returns-clause-an_integer : goal.returns-clause-an_integer
unfolding everything runs_opened meaning_opened faithful_opened
returns-clause-an_integer c = running _ _ _ _ _ _ _ _ (world_by _ _ _ (homes_from (3 ∷ 4 ∷ 5 ∷ 0 ∷ 9 ∷ [])) _ _ _ refl transfer.neither refl refl (frame.more _ _
    (record {
      unit = _;
      is = refl;
      function = 1;
      has = refl;
      dummies = frame.more (Named (codes "k")) [] (plain_dummy _ _ _ _ _ _ (codes "k") (codes "k") _ refl refl (0, refl, refl) refl) frame.none;
      result = (9, refl, refl);
    })
    (frame.more _ _ (record { unit = _; is = refl; function = 0; has = refl; dummies = frame.none; result = tt }) frame.none))) refl

pub returns-clause-a_logical : goal.returns-clause-a_logical
unfolding everything runs_opened meaning_opened faithful_opened
returns-clause-a_logical c = running _ _ _ _ _ _ _ _ (world_by _ _ _ (homes_from (3 ∷ 4 ∷ 5 ∷ 1 ∷ 11 ∷ [])) _ _ _ refl transfer.neither refl refl (frame.more _ _
    (record {
      unit = _;
      is = refl;
      function = 2;
      has = refl;
      dummies = frame.more (Named (codes "k")) [] (plain_dummy _ _ _ _ _ _ (codes "k") (codes "k") _ refl refl (1, refl, refl) refl) frame.none;
      result = (11, refl, refl);
    })
    (frame.more _ _ (record { unit = _; is = refl; function = 0; has = refl; dummies = frame.none; result = tt }) frame.none))) refl

pub returns-clause-a_text : goal.returns-clause-a_text
unfolding everything runs_opened meaning_opened faithful_opened
returns-clause-a_text c = running _ _ _ _ _ _ _ _ (world_by _ _ _ (homes_from (3 ∷ 4 ∷ 5 ∷ 2 ∷ 7 ∷ [])) _ _ _ refl transfer.neither refl refl (frame.more _ _
    (record {
      unit = _;
      is = refl;
      function = 3;
      has = refl;
      dummies = frame.more (Named (codes "k")) [] (plain_dummy _ _ _ _ _ _ (codes "k") (codes "k") _ refl refl (2, refl, refl) refl) frame.none;
      result = ((7, refl, refl), refl);
    })
    (frame.more _ _ (record { unit = _; is = refl; function = 0; has = refl; dummies = frame.none; result = tt }) frame.none))) refl

pub returns-clause-ended : goal.returns-clause-ended
unfolding everything runs_opened meaning_opened faithful_opened
returns-clause-ended c = ended _ _ _ _ _ (world_by _ _ _ (homes_from (3 ∷ 4 ∷ 5 ∷ [])) _ _ _ refl transfer.neither refl refl frame.none) refl
