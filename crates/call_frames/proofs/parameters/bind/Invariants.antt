use Rattle.std.proofs.Common.{◌≡◌, take}
use Rattle.item_deeds.specs.Forms.{SameForms}
use Rattle.call_frames.proofs.FrameLists.{bound_from}
use Rattle.call_frames.proofs.parameters.bind.Given as goal

abbrev pub invariant-loop-number : goal.invariant-loop-number
invariant-loop-number l = record {
  bound : l.run ≡ bound_from l.frame (take l.number l.values) l.initial.run;
  kept : SameForms l.initial.run l.run;
}
