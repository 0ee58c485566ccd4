use Rattle.std.proofs.Common.{◌≡◌, rules, Err}
use Rattle.source_files.proofs.PlaceLemmas.{kept_as_it_is}
use Rattle.check_command.specs.declared.failing.CheckFail.TheVariants as fail
use Rattle.check_command.specs.CheckSteps.{unread}
use Rattle.check_command.proofs.Endings.{set_listed}
use Rattle.check_command.proofs.command.check_set.Goals as goal

pub returns-in_err-names : goal.returns-in_err-names
returns-in_err-names g c =
    unread fail.NoMemory (let e : c.from_residual.result ≡ Err fail.NoMemory = search rules in e) (kept_as_it_is (g.H.Shelf.state c.args.shelf.now))

pub returns-in_err-shapes : goal.returns-in_err-shapes
returns-in_err-shapes g c =
    unread c.in_err-shapes.field-0.0 (let e : c.from_residual-in_err-shapes.result ≡ Err c.in_err-shapes.field-0.0 = search rules in e) c.in_err-shapes.ensures.err

pub returns : goal.returns
returns g c =
    set_listed c.args.froms.now c.args.included.now c.in_ok-names.names c.as_slice.result.now c.args.files.now c.args.prototypes.now c.in_ok-shapes.shapes
    c.as_slice-2.result.now (g.H.Shelf.state c.args.shelf.now) (g.H.Shelf.state c.read_prototypes.new.shelf) (g.H.Shelf.state c.list_calls.new.shelf) c.list_calls.result
    c.in_ok-names.ensures c.as_slice.ensures c.as_slice-2.ensures c.in_ok-shapes.ensures.ok c.list_calls.ensures
