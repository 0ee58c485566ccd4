use Rattle.std.proofs.Common.{◌≡◌, ℕ, drop}
use Rattle.f_tree.specs.declared.statements.Stmt.{Stmt}
use Rattle.f_tree.specs.Facts.{ProgramUnit}
use Rattle.f_tree.specs.Lines.{Naming}
use Rattle.f_tree.specs.Nests.{ends_by}
use Rattle.loop_entries.specs.LoopRanges.{terminals_of}
use Rattle.loop_entries.specs.ReadLines.{IsReadAs, loop_in}
use Rattle.loop_entries.specs.Walks.{all_from}
use Rattle.loop_entries.proofs.nested.each_ends.Given as goal

abbrev pub invariant-loop-place : goal.invariant-loop-place
invariant-loop-place l = (p : ProgramUnit) (names : Naming) → IsReadAs p names l.statements → l.ends ≡ terminals_of p →
    all_from (λ (k : ℕ) (s : Stmt). ends_by p k (loop_in s.body)) 0 l.statements ≡ all_from (λ (k : ℕ) (s : Stmt). ends_by p k (loop_in s.body)) l.place (drop l.place l.statements)
