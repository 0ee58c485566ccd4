use Rattle.std.proofs.Common.{◌≡◌, [], ◌∷◌, ◌∙◌}
use Rattle.std.proofs.lemmas.Result.{IfOk-weaker}
use Rattle.split_pieces.specs.WantedNames.{wanted_by}
use Rattle.split_pieces.specs.declared.wanted.WantedName.{WantedName}
use Rattle.fsplit.proofs.WantedLemmas.{begun_by, none_of}
use Rattle.fsplit.proofs.wanted.wanted_by.Goals as goal

pub returns-in-len1-up : goal.returns-in-len1-up
returns-in-len1-up c =
    IfOk-weaker c.wanted_by_first.result (λ (w : WantedName). w ≡ wanted_by (c.first-item.result ∷ [])) (λ (w : WantedName). w ≡ wanted_by c.args.statements.now)
    (λ w is. is ∙ begun_by c.args.statements.now c.first-item.result c.in-len1-up.len_at_least c.first-item.is) c.wanted_by_first.ensures

pub returns-in-empty : goal.returns-in-empty
returns-in-empty c = c.nameless.ensures ∙ none_of c.args.statements.now c.in-empty.len_below
