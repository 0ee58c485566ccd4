use Rattle.std.proofs.Common.{◌≡◌, ℕ, ◌<◌, None, drop, get_or, length}
use Rattle.f_tree.specs.declared.statements.Stmt.{Stmt}
use Rattle.f_tree.specs.Facts.{ProgramUnit}
use Rattle.f_tree.specs.Places.{arm_after}
use Rattle.f_tree.specs.Lines.{mark_of}
use Rattle.lowering_laws.specs.Layout.{is_whole_by}
use Rattle.loop_entries.specs.LoopRanges.{AreRanges}
use Rattle.loop_entries.specs.Walks.{all_from}
use Rattle.loop_entries.proofs.blocks.blocks_are_whole.Given as goal

abbrev pub invariant-loop-place : goal.invariant-loop-place
invariant-loop-place l = (p : ProgramUnit) → AreRanges p l.ranges → ((i : ℕ) → i < length l.statements → get_or l.next i None ≡ arm_after p i) →
    all_from (λ (k : ℕ) (s : Stmt). is_whole_by p k (mark_of s.body)) 0 l.statements ≡ all_from (λ (k : ℕ) (s : Stmt). is_whole_by p k (mark_of s.body)) l.place (drop l.place l.statements)
