use Rattle.std.proofs.Common.{◌≡◌, List, ℕ, ℤ, pos, ◌∷◌, [], ◌++◌, map, get_or, sym, ap, ◌∙◌, refl, arith, rules, w32}
use Rattle.std.proofs.lemmas.Int.{to_z-of_z}
use Rattle.f_tree.specs.CNames.{made_name, ConstantOf}
use Rattle.c_tree.specs.declared.file.CConstant.{CConstant}
use Rattle.main_translation.specs.main_file.MainFile.{constant_for}
use Rattle.unit_writer.proofs.Walks.{each_end, each_more}
use Rattle.unit_writer.proofs.files.constants.Goals as goal

constant_is : (done : List CConstant) (name : List ℕ) (value v : ℤ) → value ≡ v → name ≡ made_name (ConstantOf value) → done ++ record { name = name; value = value } ∷ [] ≡ done ++ constant_for v ∷ []
constant_is done name value v same named = λ i. done ++ record { name = (named ∙ ap (λ z. made_name (ConstantOf z)) same) i; value = same i } ∷ []

pub loop-value-init : goal.loop-value-init
loop-value-init c = ap (λ done. done ++ map constant_for c.args.values.now) (sym c.new-found.ensures.items)

pub loop-value-preserved : goal.loop-value-preserved
loop-value-preserved c =
    let v = get_or c.args.values.now c.loop-value.value-index (pos 0) in
    let same = to_z-of_z w32 v (search rules) in
    each_more (map constant_for) (λ z. constant_for z ∷ []) (λ z zs. refl) c.args.values.now c.loop-value.value-index v (pos 0) _ _ _ c.loop-value-test.true refl c.loop-value.invariant
    (c.in_ok-push.ensures.items ∙ constant_is c.loop-value.found.items c.in_ok-name.name _ v same c.in_ok-name.ensures)

pub returns : goal.returns
returns c = c.from_vec.ensures ∙ each_end (map constant_for) (λ z. constant_for z ∷ []) refl c.args.values.now c.loop-value.value-index _ _ (omega arith) c.loop-value.invariant
