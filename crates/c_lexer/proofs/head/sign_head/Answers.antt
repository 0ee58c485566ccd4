use Rattle.std.proofs.Common.{◌∷◌}
use Rattle.c_lexer.proofs.HeadLemmas.{is_long, is_short}
use Rattle.c_lexer.proofs.head.sign_head.Goals as goal

pub returns-in-Some : goal.returns-in-Some
returns-in-Some c = is_long (c.args.first ∷ c.args.later.now) c.in-Some.sign c.args.known c.in-Some.ensures c.requires

pub returns-in-Some-sign_of_one : goal.returns-in-Some-sign_of_one
returns-in-Some-sign_of_one c =
    is_short c.args.first c.args.later.now c.in-Some-sign_of_one.sign c.args.known c.in_default.ensures c.in-Some-sign_of_one.ensures c.requires
