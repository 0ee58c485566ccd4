use Rattle.std.proofs.Common.{◌++◌, [], ◌∷◌, Some, sym, subst, if◌then◌else◌}
use Rattle.file_parse.specs.FirstRefusals.{IsFirstAmong}
use Rattle.file_parse.specs.OpenBlocks.{deep_at}
use Rattle.file_parse.proofs.FirstRefusalLemmas.{first_alone}
use Rattle.file_parse.proofs.nests.noted.Goals as goal

pub returns-then-deep : goal.returns-then-deep
returns-then-deep c =
    λ rows one.
    let row = deep_at c.args.statement.now in
    subst (λ b. IsFirstAmong (rows ++ (if b then row ∷ [] else [])) c.first_of.result) (sym c.if-deep.true)
    (c.first_of.ensures rows (row ∷ []) one (subst (λ r. IsFirstAmong (row ∷ []) (Some r)) (sym c.deep_at.ensures) (first_alone row)))
