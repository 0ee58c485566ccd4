use Rattle.f2c_outside.specs.Rows.{rows_of}
use Rattle.unit_library.specs.Held.{rows_in}
use Rattle.loaded_runs.proofs.RunLaws.{whole-run}
use Rattle.loaded_runs.proofs.runs.run_loaded.Goals as goal

pub returns : goal.returns
returns g c =
    let rows = rows_of {V = g.dyn-1.0.I} {H = λ x. (g.dyn-1.0.entry x).0.Denot} (λ b. (g.dyn-1.0.entry b.vtable).1.device_state b.value) in
    let held = rows_in {V = g.dyn-1.0.I} {H = λ x. (g.dyn-1.0.entry x).0.Denot} (λ b. (g.dyn-1.0.entry b.vtable).1.device_state b.value) in
    whole-run c.args._files.now c.args.steps c.run_with-ran.result.steps (rows c.args.units) (held c.new-library.result) (held c.run_with-ran.new.library) (rows c.into_units-units.result) (rows c.finished-end.new.units)
    c.args.loaded.program c.run_with-ran.new.objects c.run_with-ran.result.end c.finished-end.result c.new-library.ensures.units c.into_units-units.ensures c.requires.loaded.program
    c.run_with-ran.ensures.meant c.run_with-ran.ensures.reached c.run_with-ran.ensures.devices c.run_with-ran.ensures.uncounted c.finished-end.ensures
