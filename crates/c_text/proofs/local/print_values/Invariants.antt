use Rattle.std.proofs.Common.{◌≡◌, ◌++◌, take}
use Rattle.c_text.specs.Lists.{after_commas}
use Rattle.c_text.specs.Types.{printed_value}
use Rattle.c_text.proofs.local.print_values.Given as goal

abbrev pub invariant-loop-value : goal.invariant-loop-value
invariant-loop-value l = l.out.items ≡ l.initial.out.items ++ after_commas printed_value (take l.value-index l.later)
