use Rattle.std.proofs.Common.{refl, ap, ◌∙◌}
use Rattle.function_linker.specs.NumbersBehind.{numbers_behind}
use Rattle.function_linker.proofs.PlaceLaws.{from_first, string-place, body-place, frame-place}
use Rattle.function_linker.proofs.layouts.places_of.Goals as goal

pub returns-clause-string : goal.returns-clause-string
returns-clause-string c =
    string-place c.args.base c.args.function.now c.in_ok-behind.behind (c.in_ok-behind.ensures ∙ ap (numbers_behind (from_first c.args.base)) c.as_slice.ensures)

pub returns-clause-body : goal.returns-clause-body
returns-clause-body c =
    body-place c.args.base c.in_ok-body.body c.args.function.now c.in_ok-behind.behind (c.in_ok-behind.ensures ∙ ap (numbers_behind (from_first c.args.base)) c.as_slice.ensures)
    c.in_ok-body.ensures

pub returns-clause-frame : goal.returns-clause-frame
returns-clause-frame c =
    frame-place c.args.base c.in_ok-frame.frame _ c.args.function.now c.in_ok-behind.behind c.args.strings.now
    (c.in_ok-behind.ensures ∙ ap (numbers_behind (from_first c.args.base)) c.as_slice.ensures) c.requires refl c.in_ok-frame.ensures
