use Rattle.std.proofs.Common.{sym, subst}
use Rattle.c_tree.specs.Meaning.{meaning}
use Rattle.f2c_outside.specs.Meaning.{units_of}
use Rattle.unit_library.specs.Held.{rows_in, transfer_in}
use Rattle.loaded_runs.specs.RunEnds.{steps_of, EndsBy, IsReached, DevicesInRun, IsUncounted}
use Rattle.loaded_runs.proofs.RunLaws.{run-ends, reached, devices, uncounted}
use Rattle.loaded_runs.proofs.runs.run_with.Goals as goal

pub returns-clause-meant : goal.returns-clause-meant
returns-clause-meant g c =
    let rows = rows_in {V = g.dyn-1.0.I} {H = λ x. (g.dyn-1.0.entry x).0.Denot} (λ b. (g.dyn-1.0.entry b.vtable).1.device_state b.value) in
    λ tells.
    subst (EndsBy (meaning c.args._files.now (units_of (rows c.args.library.now)) c.args.steps) (units_of (rows c.run_on_units-ran.new.library)) c.run_on_units-ran.new.objects) (sym c.end_of.ensures.end)
    (run-ends c.args._files.now c.args.program.now (rows c.args.library.now) (rows c.run_on_units-ran.new.library) (transfer_in c.args.library.now) (transfer_in c.run_on_units-ran.new.library) c.run_on_units-ran.new.objects c.args.steps
    c.run_on_units-ran.result c.no_run_is_without_meaning.ensures.runs c.requires.formed c.requires.rules c.requires.linked c.requires.transfer tells c.run_on_units-ran.ensures.meaning)

pub returns-clause-reached : goal.returns-clause-reached
returns-clause-reached g c =
    let rows = rows_in {V = g.dyn-1.0.I} {H = λ x. (g.dyn-1.0.entry x).0.Denot} (λ b. (g.dyn-1.0.entry b.vtable).1.device_state b.value) in
    let first = rows c.args.library.now in
    let last = rows c.run_on_units-ran.new.library in
    λ tells.
    subst (λ steps. IsReached c.args._files.now (units_of first) c.args.steps (units_of last) steps c.end_of.result.end) (sym c.end_of.ensures.steps)
    (subst (IsReached c.args._files.now (units_of first) c.args.steps (units_of last) (steps_of c.run_on_units-ran.result)) (sym c.end_of.ensures.end)
    (reached rows transfer_in c.args.steps c.args.library.now c.run_on_units-ran.new.library c.args._files.now c.args.program.now c.run_on_units-ran.result c.requires.linked c.requires.transfer c.run_on_units-ran.ensures.taken tells))

pub returns-clause-devices : goal.returns-clause-devices
returns-clause-devices g c =
    let rows = rows_in {V = g.dyn-1.0.I} {H = λ x. (g.dyn-1.0.entry x).0.Denot} (λ b. (g.dyn-1.0.entry b.vtable).1.device_state b.value) in
    let first = rows c.args.library.now in
    let last = rows c.run_on_units-ran.new.library in
    subst (λ steps. DevicesInRun c.args._files.now c.args.steps steps first last c.end_of.result.end) (sym c.end_of.ensures.steps)
    (subst (DevicesInRun c.args._files.now c.args.steps (steps_of c.run_on_units-ran.result) first last) (sym c.end_of.ensures.end)
    (devices rows transfer_in c.args.steps c.args.library.now c.run_on_units-ran.new.library c.args._files.now c.args.program.now c.run_on_units-ran.result c.requires.linked c.requires.transfer c.run_on_units-ran.ensures.taken
    c.run_on_units-ran.ensures.devices))

pub returns-clause-uncounted : goal.returns-clause-uncounted
returns-clause-uncounted g c =
    let rows = rows_in {V = g.dyn-1.0.I} {H = λ x. (g.dyn-1.0.entry x).0.Denot} (λ b. (g.dyn-1.0.entry b.vtable).1.device_state b.value) in
    let first = rows c.args.library.now in
    let last = rows c.run_on_units-ran.new.library in
    subst (λ steps. IsUncounted c.args._files.now c.args.steps steps first last c.end_of.result.end) (sym c.end_of.ensures.steps)
    (subst (IsUncounted c.args._files.now c.args.steps (steps_of c.run_on_units-ran.result) first last) (sym c.end_of.ensures.end)
    (uncounted rows transfer_in c.args.steps c.args.library.now c.run_on_units-ran.new.library c.args._files.now c.args.program.now c.run_on_units-ran.result c.requires.linked c.requires.transfer c.run_on_units-ran.ensures.taken))
