use Rattle.std.proofs.Common.{subst, ap, ◌∙◌, [], ◌∷◌, length, length-append, rules, w32, to_z, of_z}
use Rattle.declared_names.specs.Hiding.{Hides}
use Rattle.c_linker.proofs.HidingSteps.{constants_from, constants-on}
use Rattle.c_linker.proofs.ConstantLaws.{constants-put}
use Rattle.c_linker.proofs.names.link_constants.Goals as goal

pub loop-constant-preserved : goal.loop-constant-preserved
loop-constant-preserved c = record {
  names = constants-on c.args.names.now c.loop-constant.names c.give_constant.new.names _ (length c.loop-constant.objects) (length c.push.new.self) c.loop-constant.constant-index c.args.constants.now c.constant-item.result
      c.loop-constant-test.true c.constant-item.is (ap length c.in_ok-push.ensures.ok ∙ length-append c.loop-constant.objects (_ ∷ [])) c.loop-constant.invariant.names
      (subst (λ n. Hides c.loop-constant.names c.give_constant.new.names (constants_from n (c.constant-item.result ∷ []))) c.len.ensures c.in_ok-give_constant.ensures);
  objects = constants-put c.args.objects.now c.loop-constant.objects c.push.new.self c.loop-constant.constant-index c.args.constants.now c.constant-item.result (to_z w32 (of_z w32 c.constant-item.result.value)) _ c.loop-constant-test.true c.constant-item.is (search rules) c.in_ok-push.ensures.ok c.in_ok-number_image.ensures
      c.loop-constant.invariant.objects;
}
