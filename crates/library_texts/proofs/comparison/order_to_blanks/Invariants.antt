use Rattle.std.proofs.Common.{◌≡◌, drop}
use Rattle.c_tree.specs.LibraryTexts.{against_blanks}
use Rattle.library_texts.proofs.comparison.order_to_blanks.Given as goal

abbrev pub invariant-loop-byte : goal.invariant-loop-byte
invariant-loop-byte l = against_blanks (drop l.byte-index l.text) ≡ against_blanks l.text
