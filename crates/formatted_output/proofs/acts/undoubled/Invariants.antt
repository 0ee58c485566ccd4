use Rattle.std.proofs.Common.{◌≡◌, ◌≤◌, ◌++◌, length, take, drop, false}
use Rattle.edit_rules.specs.edit_meaning.ListItems.{characters}
use Rattle.formatted_output.proofs.acts.undoubled.Given as goal

abbrev pub invariant-loop-character : goal.invariant-loop-character
invariant-loop-character l =
    (l.used ≤ length l.into) × (take l.used l.into ++ characters l.quoted (drop l.character-index l.text) ≡ characters false l.text)
