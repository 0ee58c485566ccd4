use Rattle.std.proofs.Common.{◌≡◌, ℕ, List, Option, Some}
use Rattle.std.specs.Prelude.{slice_get}
use Rattle.c_tree.specs.Objects.{Bytes}
use Rattle.library_calls.proofs.NameLemmas.{Searching}
use Rattle.library_calls.proofs.endings.size_before_zero.Given as goal

abbrev pub invariant-loop-place : goal.invariant-loop-place
invariant-loop-place l = (cells : List (Option ℕ)) → slice_get l.run l.object ≡ Some (Bytes cells) → Searching cells l.offset l.place
