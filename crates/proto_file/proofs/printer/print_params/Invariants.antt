use Rattle.std.proofs.Common.{◌≡◌, ◌++◌, take}
use Rattle.c_text.specs.Lists.{after_commas}
use Rattle.c_text.specs.Declarations.{printed_param}
use Rattle.proto_file.proofs.printer.print_params.Given as goal

abbrev pub invariant-loop-param : goal.invariant-loop-param
invariant-loop-param l = l.out.items ≡ l.initial.out.items ++ after_commas printed_param (take l.param-index l.later)
