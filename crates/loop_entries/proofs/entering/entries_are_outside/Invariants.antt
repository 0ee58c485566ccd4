use Rattle.std.proofs.Common.{◌≡◌, ℕ, drop}
use Rattle.std.specs.List.{list_all}
use Rattle.f_tree.specs.declared.statements.Stmt.{Stmt}
use Rattle.f_tree.specs.Facts.{ProgramUnit}
use Rattle.f_tree.specs.Lines.{entry_in}
use Rattle.lowering_laws.specs.Layout.{enters_outside}
use Rattle.loop_entries.specs.LoopRanges.{AreRanges}
use Rattle.loop_entries.specs.Walks.{all_from}
use Rattle.loop_entries.proofs.entering.entries_are_outside.Given as goal

abbrev pub invariant-loop-place : goal.invariant-loop-place
invariant-loop-place l = (p : ProgramUnit) → AreRanges p l.ranges →
    all_from (λ (k : ℕ) (s : Stmt). list_all (enters_outside p) (entry_in k s.body)) 0 l.statements
    ≡ all_from (λ (k : ℕ) (s : Stmt). list_all (enters_outside p) (entry_in k s.body)) l.place (drop l.place l.statements)
