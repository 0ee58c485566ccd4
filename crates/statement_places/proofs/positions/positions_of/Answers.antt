use Rattle.std.proofs.Common.{◌≡◌, length, get_or, refl, sym, ap, ◌∙◌, arith}
use Rattle.statement_places.specs.StepPositions.{start_in}
use Rattle.statement_places.specs.declared.sizes.Size.{Size}
use Rattle.statement_places.proofs.ListLemmas.{each_none, each_more, one_longer}
use Rattle.statement_places.proofs.PositionLemmas.{start_none, end_more, Placed, placed_here}
use Rattle.statement_places.proofs.positions.positions_of.Goals as goal

abbrev no_size : Size
no_size = record { skip = 0; form = 0; turns = 0 }

pub loop-size-init : goal.loop-size-init
loop-size-init c = record {
  count = ap length c.new-places.ensures.items;
  each = each_none (Placed c.args.sizes.now) c.new-places.result.items c.new-places.ensures.items;
  end = sym (start_none c.args.sizes.now);
}

pub loop-size-preserved : goal.loop-size-preserved
loop-size-preserved c =
    let sizes = c.args.sizes.now in
    let i = c.loop-size.size-index in
    let inv = c.loop-size.invariant in
    let size : Size = get_or c.args.sizes.now c.loop-size.size-index no_size in
    record {
      count = one_longer c.loop-size.places.items _ c.in_ok-position.position i inv.count c.in_ok-push.ensures.items;
      each = each_more (Placed sizes) c.loop-size.places.items _ i c.in_ok-position.position inv.count c.in_ok-push.ensures.items inv.each
          (placed_here sizes i size no_size c.loop-size.end c.in_ok-position.position c.loop-size-test.true refl inv.end c.in_ok-position.ensures);
      end = end_more sizes i size no_size c.loop-size.end c.in_ok-end.end c.in_ok-position.position c.loop-size-test.true refl inv.end c.in_ok-position.ensures c.in_ok-end.ensures;
    }

pub returns : goal.returns
returns c =
    let inv = c.loop-size.invariant in
    let whole : c.loop-size.size-index ≡ length c.args.sizes.now = omega arith in
    record { count = inv.count ∙ whole; each = inv.each; end = inv.end ∙ ap (start_in c.args.sizes.now) whole }
