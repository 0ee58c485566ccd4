use Rattle.std.proofs.Common.{◌≡◌, drop}
use Rattle.f_tree.specs.Facts as fact
use Rattle.f_tree.specs.Lines.{Naming, controls_written}
use Rattle.statement_lowering.proofs.transfers.layout_in.Given as goal

abbrev pub invariant-loop-control : goal.invariant-loop-control
invariant-loop-control l =
    (way : fact.Direction) (names : Naming) → (controls_written way names (drop l.control-index l.controls)).layout ≡ (controls_written way names l.controls).layout
