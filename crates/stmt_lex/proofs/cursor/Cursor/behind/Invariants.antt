use Rattle.std.proofs.Common.{◌≡◌, ◌-◌, drop}
use Rattle.stmt_lex.specs.CursorWalks.{left}
use Rattle.stmt_lex.proofs.cursor.Cursor.behind.Given as goal

abbrev pub invariant-loop : goal.invariant-loop
invariant-loop l = drop l.n (left l.fn.self) ≡ drop (l.n - l.counter) (left l.rest)
