use Rattle.std.proofs.Common.{◌≤◌, ◌-◌, ℕ, List, length, drop}
use Rattle.edit_meaning.specs.Formats.{Format, pass}
use Rattle.edit_meaning.specs.FormatGrammar.{Joint, SpellsList}
use Rattle.edit_rules.specs.FormatScans.{heaviest, Scanning}
use Rattle.edit_rules.proofs.format_scan.weigh.Given as goal

abbrev pub invariant-loop-at : goal.invariant-loop-at
invariant-loop-at l = record {
  within : l.at ≤ length l.text;
  later : l.fn.from ≤ l.at;
  depth : l.scan.depth ≤ l.at;
  goes_on : (depth : ℕ) → (joint : Joint) → (format : Format) → (after : List ℕ) → SpellsList depth joint format (drop l.fn.from l.text) after
      → Scanning (heaviest (pass format)) after l.scan.depth l.scan.weight (drop l.at l.text);
}

abbrev pub decreases-loop-at : goal.decreases-loop-at
decreases-loop-at l = length l.text - l.at
