use Rattle.std.proofs.Common.{refl}
use Rattle.open_loops.specs.OpenRanges.{open_by}
use Rattle.open_loops.proofs.PlaceLemmas.{places_begin, places_more, around_begin, around_more, on_ok}
use Rattle.open_loops.proofs.walk.places_between.Goals as goal

pub loop-place-init : goal.loop-place-init
loop-place-init c = record {
  places = places_begin c.args.table.now c.args.statements.now c.args.ends.now _ c.new-places.ensures.items;
  around = around_begin c.args.table.now c.args.statements.now c.args.ends.now _ c.new.ensures.items refl;
}

pub loop-place-preserved : goal.loop-place-preserved
loop-place-preserved c =
    let table = c.args.table.now in
    let ss = c.args.statements.now in
    let ends = c.args.ends.now in
    let place = c.loop-place.place in
    let inv = c.loop-place.invariant in
    record {
      places = places_more table ss ends place c.loop-place.around c.loop-place.places.items c.add_place.new.places.items inv.places inv.around
          (on_ok c.add_place.result _ c.in_ok-map_err.ensures.variant c.add_place.ensures);
      around = around_more table ss ends place c.pass.new.around (c.in_ok-pass.ensures.passed (open_by ends place) inv.around);
    }
