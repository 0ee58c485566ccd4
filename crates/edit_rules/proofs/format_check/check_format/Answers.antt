use Rattle.std.proofs.Common.{◌≡◌, ◌+◌, ◌≤◌, length, take, get_or, sym, ap, ◌∙◌, arith, add-one}
use Rattle.edit_meaning.specs.FormatTexts.{moved, starting}
use Rattle.edit_rules.specs.FormatPlaces.{mode_in, shape}
use Rattle.edit_rules.proofs.FormatViable.{reach}
use Rattle.edit_rules.proofs.FormatMoves.{progress, progress_next, refused_here, front_here, refused_end, deeper}
use Rattle.edit_rules.proofs.format_check.check_format.Goals as goal

pub returns-in-Stuck : goal.returns-in-Stuck
returns-in-Stuck c =
    refused_here c.args.text.now c.loop-place.place c.loop-place.standing.depth (mode_in c.loop-place.standing.mode) (omega arith)
    c.loop-place.invariant.stands (sym c.in-Stuck.ensures)

pub returns-in-Ended : goal.returns-in-Ended
returns-in-Ended c =
    rw add-one
    (front_here c.args.text.now c.loop-place.place c.loop-place.standing.depth (mode_in c.loop-place.standing.mode) (omega arith)
    c.loop-place.invariant.stands (sym c.in-Ended.ensures))

pub loop-place-preserved : goal.loop-place-preserved
loop-place-preserved c =
    let depth = c.loop-place.standing.depth in
    let mode = mode_in c.loop-place.standing.mode in
    let character = get_or c.args.text.now c.loop-place.place 0 in
    record {
      stands = rw add-one
          (progress_next c.args.text.now c.loop-place.place depth mode (omega arith) c.loop-place.invariant.stands ∙ sym c.in-Stands.ensures);
      shallow =
          let d : c.in-Stands.next.depth ≤ depth + 1 =
          deeper depth c.in-Stands.next.depth (shape (moved depth mode character)) (mode_in c.in-Stands.next.mode) (sym c.in-Stands.ensures) in
          let s : depth ≤ c.loop-place.place + 1 = c.loop-place.invariant.shallow in
          omega arith;
    }

pub returns : goal.returns
returns c =
    let e : c.loop-place.place ≡ length c.args.text.now = omega arith in
    refused_end c.args.text.now c.loop-place.standing.depth (mode_in c.loop-place.standing.mode)
    (ap (λ z. progress (reach (take z c.args.text.now) starting)) (sym e) ∙ c.loop-place.invariant.stands)
