use Rattle.std.proofs.Common.{◌≡◌, ◌+◌, ◌≤◌, take}
use Rattle.edit_meaning.specs.FormatTexts.{starting}
use Rattle.edit_rules.specs.FormatPlaces.{Stands, mode_in}
use Rattle.edit_rules.proofs.FormatViable.{reach}
use Rattle.edit_rules.proofs.FormatMoves.{progress}
use Rattle.edit_rules.proofs.format_check.check_format.Given as goal

abbrev pub invariant-loop-place : goal.invariant-loop-place
invariant-loop-place l = record {
  stands : progress (reach (take l.place l.text) starting) ≡ Stands l.standing.depth (mode_in l.standing.mode);
  shallow : l.standing.depth ≤ l.place + 1;
}
