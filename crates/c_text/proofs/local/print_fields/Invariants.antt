use Rattle.std.proofs.Common.{◌≡◌, ◌++◌, take}
use Rattle.c_text.specs.Lists.{after_commas}
use Rattle.c_text.specs.Declarations.{printed_field}
use Rattle.c_text.proofs.local.print_fields.Given as goal

abbrev pub invariant-loop-field : goal.invariant-loop-field
invariant-loop-field l = l.out.items ≡ l.initial.out.items ++ after_commas printed_field (take l.field-index l.later)
