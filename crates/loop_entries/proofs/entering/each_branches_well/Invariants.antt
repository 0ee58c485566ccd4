use Rattle.std.proofs.Common.{◌≡◌, ℕ, drop}
use Rattle.f_tree.specs.declared.statements.Stmt.{Stmt}
use Rattle.f_tree.specs.Facts.{ProgramUnit}
use Rattle.f_tree.specs.Lines.{Naming, form_of}
use Rattle.lowering_laws.specs.Layout.{branches_well}
use Rattle.loop_entries.specs.Branches.{ArePlaces}
use Rattle.loop_entries.specs.LoopRanges.{AreRanges}
use Rattle.loop_entries.specs.PassedLabels.{told_by, TellsNames}
use Rattle.loop_entries.specs.Walks.{all_from}
use Rattle.loop_entries.proofs.entering.each_branches_well.Given as goal

abbrev pub invariant-loop-place : goal.invariant-loop-place
invariant-loop-place l = (p : ProgramUnit) (names : Naming) → AreRanges p l.ranges → ArePlaces p l.places → TellsNames names (told_by l.scope) →
    all_from (λ (k : ℕ) (s : Stmt). branches_well p k (form_of names s.body)) 0 l.statements
    ≡ all_from (λ (k : ℕ) (s : Stmt). branches_well p k (form_of names s.body)) l.place (drop l.place l.statements)
