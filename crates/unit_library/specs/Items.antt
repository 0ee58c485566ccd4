-- Items under a format in a transfer without one (ANSI X3.9-1978, 12.8.2).
use Rattle.c_tree.specs.declared.outcome.CValue.{CValue}
use Rattle.c_tree.specs.declared.outcome.CFault.TheVariants.{Library}
use Rattle.c_tree.specs.Faults.{Or, after, failing}
use Rattle.c_tree.specs.Objects.{Object}
use Rattle.c_tree.specs.LibraryArguments.{number_through, count_from, length_from}
use Rattle.std.specs.Prelude.{List}

-- their first fault, in the order in which the arguments are read
abbrev pub formatted_fault : List Object → CValue → CValue → Or (Unit {0})
formatted_fault objects count_pointer size_value =
    after (number_through objects count_pointer) λ number.
    after (count_from number) λ count.
    after (length_from size_value) λ size.
    failing Library
