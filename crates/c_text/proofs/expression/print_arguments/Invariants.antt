use Rattle.std.proofs.Common.{◌≡◌, ◌++◌, take}
use Rattle.c_text.specs.Lists.{after_commas}
use Rattle.c_text.specs.Expressions.{bare}
use Rattle.c_text.proofs.expression.print_arguments.Given as goal

abbrev pub invariant-loop-e : goal.invariant-loop-e
invariant-loop-e l = l.out.items ≡ l.initial.out.items ++ after_commas bare (take l.e-index l.later)
