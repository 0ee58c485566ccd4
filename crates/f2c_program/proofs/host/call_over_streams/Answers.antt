use Rattle.std.proofs.Common.{rules, List, refl, ap, ◌∙◌, subst}
use denote.Param.Object.{read_made}
use Rattle.f2c_outside.specs.Device.{DeviceState}
use Rattle.f2c_outside.specs.Table.{Row}
use Rattle.f2c_program.specs.Program.{Called, untouched}
use Rattle.f2c_program.proofs.HostRowLemmas.{one_more, all_offered, without_error}
use Rattle.f2c_program.proofs.host.call_over_streams.OwnLists.{own-1, at-1-1, at-1-2, at-1-3}
use Rattle.f2c_program.proofs.host.call_over_streams.Goals as goal

pub loop-name-preserved : goal.loop-name-preserved
loop-name-preserved c =
    one_more _ _ _ _ _ _ _ _ c.loop-name.invariant c.loop-name-test.true c.name-item.is
    (without_error c.offer.result c.if-is_err-3.ensures.value c.offer.ensures.ok)
    (search rules)
    (read_made own-1 _ at-1-3 refl DeviceState (λ e d. e.1.device_state d) _ _ c.in_ok-named.named.file.value c.into_dyn_box-in-loop-name.ensures.1
    ∙ c.in_ok-named.ensures.fresh)

pub returns : goal.returns
returns c =
    subst (λ (rows : List Row). Called c.args.words.now rows untouched c.status_over.result)
    (all_offered _ _ _ _ _ _ _ _ _ _ _ c.loop-name.invariant c.loop-name-test.false (search rules)
    (without_error c.connect.result c.if-is_err.ensures.value c.connect.ensures.ok)
    (without_error c.connect-else-is_err.result c.if-is_err-2.ensures.value c.connect-else-is_err.ensures.ok)
    (read_made own-1 _ at-1-1 refl DeviceState (λ e d. e.1.device_state d) _ _ c.in_ok-input.input.value c.into_dyn_box.ensures.1
    ∙ ap (own-1.entry at-1-1).1.device_state c.in_ok-input.ensures.ok)
    (read_made own-1 _ at-1-2 refl DeviceState (λ e d. e.1.device_state d) _ _ c.in_ok-output.output.value c.into_dyn_box-else-is_err.ensures.1
    ∙ ap (own-1.entry at-1-2).1.device_state c.in_ok-output.ensures.ok)
    (search rules))
    c.status_over.ensures
