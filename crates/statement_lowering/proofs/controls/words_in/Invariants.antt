use Rattle.std.proofs.Common.{◌≡◌, ◌++◌, map, drop}
use Rattle.f_tree.specs.Facts as fact
use Rattle.f_tree.specs.Lines.{Naming, controls_written}
use Rattle.lowered_tree.specs.Shapes.{word_of}
use Rattle.statement_lowering.proofs.controls.words_in.Given as goal

abbrev pub invariant-loop-control : goal.invariant-loop-control
invariant-loop-control l =
    (way : fact.Direction) (names : Naming) → map word_of l.words ++ (controls_written way names (drop l.control-index l.controls)).words ≡ (controls_written way names l.controls).words
