use Rattle.std.proofs.Common.{◌-◌, length, get_or, refl, ◌∙◌, arith}
use Rattle.name_table.specs.Named.{names_in}
use Rattle.given_judge.proofs.RowForms.{no_text, twice_more, twice_none, twice_end, among_more, among_none}
use Rattle.given_judge.proofs.twice.names_differ.Goals as goal

pub loop-place-init : goal.loop-place-init
loop-place-init c = record {
  is_set = c.new-behind.ensures.is_set;
  has = λ q. among_none c.args.names.now q (names_in c.new-behind.result) c.new-behind.ensures.names;
  differ = twice_none c.args.names.now;
}

pub loop-place-preserved : goal.loop-place-preserved
loop-place-preserved c =
    let xs = c.args.names.now in
    let i = c.loop-place.place in
    let x = get_or xs (length xs - 1 - i) no_text in
    let inv = c.loop-place.invariant in
    record {
      is_set = c.in_ok-add.ensures.is_set;
      has = λ q. among_more xs i x no_text q (names_in c.loop-place.behind) (names_in c.add.new.self) c.loop-place-test.true refl (inv.has q) c.in_ok-add.ensures.names;
      differ = twice_more xs i x no_text c.has.result c.loop-place.differ c.both-differ.result c.loop-place-test.true refl inv.differ (c.has.ensures ∙ inv.has x.now) c.both-differ.ensures;
    }

pub returns : goal.returns
returns c = twice_end c.args.names.now c.loop-place.place c.loop-place.differ (omega arith) c.loop-place.invariant.differ
