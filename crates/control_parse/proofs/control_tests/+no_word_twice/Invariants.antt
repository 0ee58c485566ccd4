-- Each call is for a shorter list.
use Rattle.std.proofs.Common.{length}
use Rattle.control_parse.proofs.control_tests.+no_word_twice.Given as goal

abbrev pub decreases-no_word_twice : goal.decreases-no_word_twice
decreases-no_word_twice l = length l.controls.now
