use Rattle.std.proofs.Common.{◌≡◌, length, drop}
use Rattle.std.specs.Prelude.{◌||◌, ◌==◌}
use Rattle.std.specs.List.{prefix_len}
use Rattle.fortran_text.specs.CharactersOfText.{is_letter_or_digit}
use Rattle.stmt_lex.specs.CursorWalks.{left}
use Rattle.stmt_lex.proofs.kinds.behind_name.Given as goal

abbrev pub invariant-loop-c : goal.invariant-loop-c
invariant-loop-c l =
    drop (prefix_len (λ c. is_letter_or_digit c || c == 95) (left l.fn.text)) (left l.fn.text)
    ≡ drop (prefix_len (λ c. is_letter_or_digit c || c == 95) (left l.rest)) (left l.rest)

abbrev pub decreases-loop-c : goal.decreases-loop-c
decreases-loop-c l = length (left l.rest)
