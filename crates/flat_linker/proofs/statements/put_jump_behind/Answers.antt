use Rattle.std.proofs.Common.{ap, ◌∙◌, subst, ◌+◌, [], ◌∷◌, length}
use Rattle.c_tree.specs.Flat as flat
use Rattle.flat_linker.specs.PutItems.{Puts}
use Rattle.flat_linker.proofs.statements.put_jump_behind.Goals as goal

pub returns : goal.returns
returns c =
    subst (λ z. Puts c.put.result (flat.Jump z ∷ []) 0 1 c.args.out.now c.put.new.out)
    (c.in_ok-behind.ensures ∙ ap (λ n. n + c.in_ok-statements_size.field-0) (c.in_ok-first.ensures ∙ ap (λ n. n + 1) c.len.ensures) ∙ ap (λ n. length c.args.out.now.items + 1 + n) c.in_ok-statements_size.ensures)
    c.put.ensures
