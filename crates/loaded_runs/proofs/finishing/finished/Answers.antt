use Rattle.std.proofs.Common.{rules, ◌≡◌, sym, refl, subst, w32}
use Rattle.f2c_outside.specs.Rows.{rows_of}
use Rattle.loaded_runs.specs.declared.ends.RunEnd.TheVariants.{Failed}
use Rattle.loaded_runs.specs.RunEnds.{Finishes, failed_before, finished, failed_now}
use Rattle.loaded_runs.proofs.finishing.finished.Goals as goal

pub returns-in-Failed : goal.returns-in-Failed
returns-in-Failed g c =
    let rows = rows_of {V = g.dyn-1.0.I} {H = λ x. (g.dyn-1.0.entry x).0.Denot} (λ b. (g.dyn-1.0.entry b.vtable).1.device_state b.value) c.args.units.now in
    subst (Finishes rows rows c.args.end) (sym c.in-Failed.is) (failed_before c.in-Failed.field-0 c.in-Failed.is refl)

pub returns-in-Ok : goal.returns-in-Ok
returns-in-Ok g c = finished c.in_default.not-Failed (c.in-Ok.ensures.did.all) c.finish_all.ensures.means

pub returns-in-Err : goal.returns-in-Err
returns-in-Err g c =
    let rows = rows_of {V = g.dyn-1.0.I} {H = λ x. (g.dyn-1.0.entry x).0.Denot} (λ b. (g.dyn-1.0.entry b.vtable).1.device_state b.value) in
    let same : mir.Val.to_z w32 (mir.Val.of_z w32 c.in-Err.fault.unit) ≡ c.in-Err.fault.unit = search rules in
    subst (λ unit. Finishes (rows c.args.units.now) (rows c.finish_all.new.self) c.args.end (Failed unit)) (sym same) (failed_now c.in-Err.fault.unit c.in_default.not-Failed (c.in-Err.ensures.did.first))
