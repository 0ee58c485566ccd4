use Rattle.std.proofs.Common.{◌+◌, ◌∷◌, [], ◌++◌, ap, ◌∙◌, refl, arith}
use Rattle.unit_writer.proofs.LocalLaws.{list_alone, lists_behind, lists_step}
use Rattle.unit_writer.proofs.Walks.{placed_end, placed_more}
use Rattle.unit_writer.proofs.locals.add_lists.Goals as goal

pub loop-before-preserved : goal.loop-before-preserved
loop-before-preserved c =
    placed_more lists_behind list_alone lists_step c.args.lists.now c.loop-before.before (c.loop-before.before + 1) _ _ _ _ _ c.loop-before-test.true refl c.loop-before.invariant
    (c.in_ok-push.ensures.items ∙ ap (λ list. c.loop-before.locals.items ++ list ∷ []) c.in_ok-list_local.ensures)

pub returns : goal.returns
returns c = placed_end lists_behind list_alone (λ n. refl) c.args.lists.now c.loop-before.before (c.loop-before.before + 1) _ _ (omega arith) c.loop-before.invariant
