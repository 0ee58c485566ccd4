use Rattle.std.proofs.Common.{◌∷◌, ap, ◌∙◌}
use Rattle.stmt_lex.specs.SeenTokens.{seen_cut}
use Rattle.stmt_lex.proofs.DottedLemmas.{pointed_some, pointed_none, point_alone}
use Rattle.stmt_lex.proofs.cuts.pointed_cut.Goals as goal

pub returns-in-Some-clause-value : goal.returns-in-Some-clause-value
returns-in-Some-clause-value c =
    pointed_some (seen_cut (c.args.first ∷ c.args.rest.now)) c.args.rest.now _ _ c.in-Some.cut c.in-Some.is c.dotted_at.ensures.value

pub returns-in-None-clause-value : goal.returns-in-None-clause-value
returns-in-None-clause-value c =
    ap (λ cut. seen_cut (c.args.first ∷ c.args.rest.now) cut) c.one_word.ensures ∙ point_alone c.args.first c.args.rest.now
    ∙ pointed_none (seen_cut (c.args.first ∷ c.args.rest.now)) c.args.rest.now _ _ c.in-None.is c.dotted_at.ensures.value
