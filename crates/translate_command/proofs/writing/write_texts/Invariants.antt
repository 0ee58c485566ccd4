use Rattle.std.proofs.Common.{◌-◌, ◌≤◌, take, length}
use Rattle.translate_command.specs.WrittenTexts.{AreWritten}
use Rattle.translate_command.proofs.writing.write_texts.Given as goal

-- the places up to here hold their texts
abbrev pub invariant-loop-number : goal.invariant-loop-number
invariant-loop-number g l =
    (l.number ≤ length l.places) × (l.number ≤ length l.texts)
    × AreWritten (take l.number l.places) (take l.number l.texts) (g.H.Shelf.state l.initial.shelf) (g.H.Shelf.state l.shelf)

abbrev pub decreases-loop-number : goal.decreases-loop-number
decreases-loop-number g l = length l.places - l.number
