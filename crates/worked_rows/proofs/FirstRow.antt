-- The two runs of the first worked row, side by side.
use Rattle.std.proofs.Common.{ℕ, [], ◌∷◌, refl, arith, lit≤, pos}
use Rattle.faithful_rows.specs.f_tree.Meaning.{everything}
use Rattle.faithful_rows.specs.f_tree.Runs.{runs_opened}
use Rattle.fortran_rows.specs.WorkedSources.{sources_opened}
use Rattle.c_text.specs.c_tree.Opened.{meaning_opened}
use Rattle.faithful_rows.specs.faithful.Opened.{faithful_opened}
use Rattle.faithful_rows.specs.faithful.SameState.{running, ended}
use Rattle.faithful_rows.specs.faithful.SameTransfer as transfer
use Rattle.faithful_rows.specs.faithful.FrameImage as frame
use Rattle.faithful_rows.proofs.Checks.{world_by}
use Rattle.faithful_rows.proofs.PairProofs.{homes_from}
use Rattle.worked_rows.specs.FirstRow.{AreAlike}

-- nothing is defined yet
pub at_start : AreAlike 0 0
unfolding everything runs_opened sources_opened meaning_opened faithful_opened
at_start = record {
  least = omega arith;
  most = lit≤ tt;
  same = running _ _ _ _ _ _ _ _ (world_by _ _ _ (homes_from (2 ∷ [])) _ _ _ refl transfer.neither refl refl (frame.more _ _ (record { unit = _; is = refl; function = 0; has = refl; dummies = frame.none; result = tt }) frame.none)) refl;
}

-- after the assignment on both sides
pub assigned : AreAlike 1 1
unfolding everything runs_opened sources_opened meaning_opened faithful_opened
assigned = record {
  least = omega arith;
  most = lit≤ tt;
  same = running _ _ _ _ _ _ _ _ (world_by _ _ _ (homes_from (2 ∷ [])) _ _ _ refl transfer.neither refl refl (frame.more _ _ (record { unit = _; is = refl; function = 0; has = refl; dummies = frame.none; result = tt }) frame.none)) refl;
}

-- after the start of the PRINT and the call that starts the transfer
pub print_started : AreAlike 2 2
unfolding everything runs_opened sources_opened meaning_opened faithful_opened
print_started = record {
  least = omega arith;
  most = lit≤ tt;
  same = running _ _ _ _ _ _ _ _ (world_by _ _ _ (homes_from (2 ∷ [])) _ _ _ refl (transfer.both _ _ (record { direction = transfer.outputs; layout = transfer.listed _; medium = transfer.on_unit (pos 6); progress = record { values = refl; written = refl } })) refl refl (frame.more _ _ (record { unit = _; is = refl; function = 0; has = refl; dummies = frame.none; result = tt }) frame.none)) refl;
}

-- after the item, and the temporary and the call that pass it
pub item_written : AreAlike 3 4
unfolding everything runs_opened sources_opened meaning_opened faithful_opened
item_written = record {
  least = omega arith;
  most = lit≤ tt;
  same = running _ _ _ _ _ _ _ _ (world_by _ _ _ (homes_from (2 ∷ [])) _ _ _ refl (transfer.both _ _ (record { direction = transfer.outputs; layout = transfer.listed _; medium = transfer.on_unit (pos 6); progress = record { values = refl; written = refl } })) refl refl (frame.more _ _ (record { unit = _; is = refl; function = 0; has = refl; dummies = frame.none; result = tt }) frame.none)) refl;
}

-- after the end of the PRINT and the call that ends the transfer
pub print_ended : AreAlike 4 5
unfolding everything runs_opened sources_opened meaning_opened faithful_opened
print_ended = record {
  least = omega arith;
  most = lit≤ tt;
  same = running _ _ _ _ _ _ _ _ (world_by _ _ _ (homes_from (2 ∷ [])) _ _ _ refl transfer.neither refl refl (frame.more _ _ (record { unit = _; is = refl; function = 0; has = refl; dummies = frame.none; result = tt }) frame.none)) refl;
}

-- both have ended
pub over : AreAlike 5 6
unfolding everything runs_opened sources_opened meaning_opened faithful_opened
over = record {
  least = omega arith;
  most = lit≤ tt;
  same = ended _ _ _ _ _ (world_by _ _ _ (homes_from (2 ∷ [])) _ _ _ refl transfer.neither refl refl frame.none) refl;
}
