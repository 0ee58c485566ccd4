use Rattle.std.proofs.Common.{◌++◌, ◌∷◌, [], refl, sym, ap, ◌∙◌, arith}
use Rattle.found_rows.proofs.Walks.{each_more, each_end}
use Rattle.f_tree.specs.declared.statements.Stmt.{Stmt}
use Rattle.block_judge.specs.Sharing.{shares_at}
use Rattle.block_judge.proofs.SharingLemmas.{sharing_of, tells_all}
use Rattle.block_judge.proofs.sharing.entry_sharing.Goals as goal

pub loop-statement-init : goal.loop-statement-init
loop-statement-init c = ap (λ bs. bs ++ sharing_of c.args.unit.now c.as_slice-statement-items.result.now) (sym c.new-shares.ensures.items)

pub loop-statement-preserved : goal.loop-statement-preserved
loop-statement-preserved c =
    let u = c.args.unit.now in
    each_more (sharing_of u) (λ (s : Stmt). shares_at u s.body ∷ []) (λ s ss. refl) c.as_slice-statement-items.result.now c.loop-statement.statement-index c.statement-item.result _ _ _ _
    c.loop-statement-test.true c.statement-item.is c.loop-statement.invariant (c.in_ok-push.ensures.items ∙ ap (λ b. c.loop-statement.shares.items ++ b ∷ []) c.shares_at-share.ensures)

pub returns : goal.returns
returns c =
    let u = c.args.unit.now in
    tells_all u c.loop-statement.shares.items
    (each_end (sharing_of u) (λ (s : Stmt). shares_at u s.body ∷ []) refl c.as_slice-statement-items.result.now c.loop-statement.statement-index _ _ (omega arith) c.loop-statement.invariant
    ∙ ap (sharing_of u) c.as_slice-statement-items.ensures)
