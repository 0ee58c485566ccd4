use Rattle.std.proofs.Common.{◌≡◌, ◌++◌, take}
use Rattle.c_text.specs.Lists.{after_commas}
use Rattle.c_text.specs.Types.{argument_word}
use Rattle.c_text.proofs.local.print_types.Given as goal

abbrev pub invariant-loop-of : goal.invariant-loop-of
invariant-loop-of l = l.out.items ≡ l.initial.out.items ++ after_commas argument_word (take l.of-index l.later)
