use Rattle.std.proofs.Common.{take}
use Rattle.prototype_outputs.specs.Forms.{AreFiles}
use Rattle.prototype_outputs.proofs.forms.check_forms.Given as goal

-- the texts up to here are prototype files
abbrev pub invariant-loop-number : goal.invariant-loop-number
invariant-loop-number l = AreFiles (take l.number l.texts)
