use Rattle.std.proofs.Common.{◌≡◌, ◌++◌, drop}
use Rattle.c_text.specs.Strings.{all_escaped}
use Rattle.c_text.proofs.out.print_string.Given as goal

abbrev pub invariant-loop-byte : goal.invariant-loop-byte
invariant-loop-byte l = l.out.items ++ all_escaped l.before (drop l.byte-index l.bytes) ≡ l.initial.out.items ++ all_escaped 0 l.bytes
