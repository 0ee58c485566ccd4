use Rattle.std.proofs.Common.{◌≡◌, List, ℕ, ◌∷◌, [], ◌++◌, map, get_or, sym, ap, ◌∙◌, refl, arith}
use Rattle.f_tree.specs.CNames.{variable_name}
use Rattle.c_tree.specs.declared.declaration.CParam.{CParam}
use Rattle.c_tree.specs.declared.types.ParameterType.TheVariants as parameter
use Rattle.unit_writer.specs.declared.heading.Dummy.{Dummy}
use Rattle.unit_writer.specs.Functions.{parameter_told}
use Rattle.unit_writer.proofs.TableLemmas.{no_name}
use Rattle.unit_writer.proofs.Walks.{each_end, each_more}
use Rattle.unit_writer.proofs.functions.parameters.Goals as goal

parameter_is : (done : List CParam) (d : Dummy) (name : List ℕ) → name ≡ variable_name d.name.now → done ++ record { of = d.parameter; name = name } ∷ [] ≡ done ++ parameter_told d ∷ []
parameter_is done d name named = λ i. done ++ record { of = d.parameter; name = named i } ∷ []

abbrev no_dummy : Dummy
no_dummy = record { name = no_name; parameter = parameter.Integers }

pub loop-dummy-init : goal.loop-dummy-init
loop-dummy-init c = ap (λ done. done ++ map parameter_told c.args.dummies.now) (sym c.new-found.ensures.items)

pub loop-dummy-preserved : goal.loop-dummy-preserved
loop-dummy-preserved c =
    let d = get_or c.args.dummies.now c.loop-dummy.dummy-index no_dummy in
    each_more (map parameter_told) (λ one. parameter_told one ∷ []) (λ one ds. refl) c.args.dummies.now c.loop-dummy.dummy-index d no_dummy _ _ _ c.loop-dummy-test.true refl c.loop-dummy.invariant
    (c.in_ok-push.ensures.items ∙ parameter_is c.loop-dummy.found.items d c.in_ok-name.name c.in_ok-name.ensures)

pub returns : goal.returns
returns c = c.from_vec.ensures ∙ each_end (map parameter_told) (λ d. parameter_told d ∷ []) refl c.args.dummies.now c.loop-dummy.dummy-index _ _ (omega arith) c.loop-dummy.invariant
