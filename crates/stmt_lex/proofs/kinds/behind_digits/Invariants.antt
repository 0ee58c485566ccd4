use Rattle.std.proofs.Common.{◌≡◌, length, drop}
use Rattle.std.specs.List.{prefix_len}
use Rattle.std.specs.Char.{is_ascii_digit}
use Rattle.stmt_lex.specs.CursorWalks.{left}
use Rattle.stmt_lex.proofs.kinds.behind_digits.Given as goal

abbrev pub invariant-loop-c : goal.invariant-loop-c
invariant-loop-c l =
    drop (prefix_len is_ascii_digit (left l.fn.text)) (left l.fn.text) ≡ drop (prefix_len is_ascii_digit (left l.rest)) (left l.rest)

abbrev pub decreases-loop-c : goal.decreases-loop-c
decreases-loop-c l = length (left l.rest)
