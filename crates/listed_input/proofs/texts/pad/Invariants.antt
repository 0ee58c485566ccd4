use Rattle.std.proofs.Common.{◌-◌, ◌≤◌, List, ℕ}
use Rattle.c_tree.specs.Objects.{Object}
use Rattle.item_deeds.specs.Forms.{SameForms}
use Rattle.listed_input.specs.Texts.{Written}
use Rattle.listed_input.proofs.StoreLaws.{Padded}
use Rattle.listed_input.proofs.texts.pad.Given as goal

-- some blanks are stored
abbrev pub invariant-loop-filled : goal.invariant-loop-filled
invariant-loop-filled l =
    (l.filled ≤ l.size) × SameForms l.fn.run l.run
    × ((objects : List Object) → (text : List ℕ) → Written objects l.pointer l.size text l.fn.run l.fn.done → Padded objects l.pointer l.size text l.run l.filled)

abbrev pub decreases-loop-filled : goal.decreases-loop-filled
decreases-loop-filled l = l.size - l.filled
