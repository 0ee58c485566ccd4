use Rattle.std.proofs.Common.{◌≡◌, ◌++◌, List, drop}
use Rattle.declaration_rows.specs.GivenRows.{Given}
use Rattle.given_judge.specs.GiftsSeen.{givens_in}
use Rattle.given_judge.specs.KeptSeen.{Keeps}
use Rattle.given_judge.proofs.kept.keep_all.Given as goal

abbrev pub invariant-loop-one : goal.invariant-loop-one
invariant-loop-one l = record {
  done : List Given;
  put : givens_in l.givens ≡ done ++ givens_in (drop l.one-index l.givens);
  keeps : Keeps l.initial.kept l.kept done l.sound;
}
