use Rattle.std.proofs.Common.{sym, arith}
use Rattle.name_uses.proofs.ArrayLemmas.{adds_none, adds_one, no_shape, some_shape}
use Rattle.name_uses.proofs.arrays.add_shaped.Goals as goal

pub returns-in-empty : goal.returns-in-empty
returns-in-empty c = adds_none c.args.arrays.now _ c.requires (no_shape c.args.name.now c.args.dimensions.now (omega arith))

pub returns-in-len1-up : goal.returns-in-len1-up
returns-in-len1-up c =
    adds_one c.add.result c.args.arrays.now c.add.new.self _ _ (sym (some_shape c.args.name.now c.args.dimensions.now (omega arith))) c.add.ensures.names c.add.ensures.is_set
