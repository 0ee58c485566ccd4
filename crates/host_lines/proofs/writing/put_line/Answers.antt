use Rattle.std.proofs.Common.{[], ◌∷◌}
use Rattle.host_lines.proofs.LineLaws.{front-behind}
use Rattle.host_lines.proofs.writing.put_line.Goals as goal

pub returns-clause-err : goal.returns-clause-err
returns-clause-err g c =
    front-behind c.put_all-2.result _ _ _ c.args.bytes.now (10 ∷ []) c.in_ok-put_all.ensures.ok c.put_all-2.ensures.err
