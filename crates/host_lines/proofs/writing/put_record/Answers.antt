use Rattle.std.proofs.Common.{List, ℕ, [], ◌∷◌, ◌++◌, subst}
use Rattle.std.specs.Prelude.{OnErr}
use Rattle.host_lines.specs.Lines.{PutFront}
use Rattle.host_lines.proofs.LineLaws.{front-behind}
use Rattle.host_lines.proofs.writing.put_record.Goals as goal

pub returns-clause-err : goal.returns-clause-err
returns-clause-err g c =
    subst
    (λ (lead : List ℕ).
    OnErr c.put_line.result (PutFront (g.W.Write.contents c.args.writer.now) (g.W.Write.contents c.put_line.new.writer) (lead ++ (c.args.bytes.now ++ 10 ∷ []))))
    c.end_before.ensures
    (front-behind c.put_line.result _ _ _ c.end_before.result.now (c.args.bytes.now ++ 10 ∷ []) c.in_ok-put_all.ensures.ok
    c.put_line.ensures.err)
