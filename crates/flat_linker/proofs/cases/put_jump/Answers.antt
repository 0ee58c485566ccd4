use Rattle.std.proofs.Common.{sym, ap, ◌∙◌, subst, [], ◌∷◌}
use Rattle.c_tree.specs.FlatForm.{jump_to}
use Rattle.flat_linker.specs.LostNames.{some_lost}
use Rattle.flat_linker.specs.PutItems.{Puts}
use Rattle.flat_linker.proofs.cases.put_jump.Goals as goal

pub returns-in-Some : goal.returns-in-Some
returns-in-Some c = λ scope. subst (λ o. Puts c.put.result (jump_to o ∷ []) 0 1 c.args.out.now c.put.new.out) (sym c.in-Some.is ∙ c.get.ensures) c.put.ensures

pub returns-in-None : goal.returns-in-None
returns-in-None c = λ scope. ap (λ o. some_lost (jump_to o ∷ [])) (sym c.get.ensures ∙ c.in-None.is)
