use Rattle.std.proofs.Common.{refl, subst}
use Rattle.c_lexer.specs.Strings.{IsStringEnd}
use Rattle.c_lexer.proofs.HeadLemmas.{is_string}
use Rattle.c_lexer.proofs.head.string_head.Goals as goal

pub returns-in-Closed : goal.returns-in-Closed
returns-in-Closed c =
    is_string c.args.later.now c.in-Closed.bytes c.in-Closed.len _ c.args.known
    (subst (λ e. IsStringEnd c.args.later.now e) c.in-Closed.is c.in_ok-bytes.ensures) refl c.requires
