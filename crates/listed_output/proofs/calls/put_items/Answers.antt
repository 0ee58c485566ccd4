use Rattle.std.proofs.Common.{◌≡◌, ◌+◌, ◌-◌, List, [], ◌∷◌, ◌++◌, refl, rules, arith, w32, to_z, of_z}
use Rattle.std.proofs.Math.Facts.{to_z-of_z}
use mir.Val.{SFits}
use Rattle.c_tree.specs.LibraryArguments.{shifted}
use Rattle.edit_rules.specs.edit_meaning.Listed.{ListedValue}
use Rattle.edit_rules.specs.Writer.{value_of}
use Rattle.listed_output.specs.Kinds.{kind_shown}
use Rattle.listed_output.proofs.ItemLaws.{Reading, reading-starts, reading-goes_on, reading-there, reading-rest, reading-all, item-there}
use Rattle.listed_output.proofs.PutLaws.{items-start, items-go_on, items-done, items-refused, items-at}
use Rattle.listed_output.proofs.calls.put_items.Goals as goal

pub loop-init : goal.loop-init
loop-init g c = (
  [],
  reading-starts (kind_shown c.args.list.kind) c.args.run.now c.args.list.size c.args.first c.args.list.count (c.args.list.count - 0) (omega arith),
  items-start _ c.args.making.now.writer c.args.making.now.line _ c.args.making.now.whole,
)

pub behind-pointer-requires : goal.behind-pointer-requires
behind-pointer-requires g c =
    item-there (kind_shown c.args.list.kind) c.args.run.now c.loop.pointer c.args.list.size (value_of c.in-Ok.value) c.args.list.has c.in-Ok.ensures

pub loop-preserved : goal.loop-preserved
loop-preserved g c = (
  c.loop.invariant.0 ++ value_of c.in-Ok.value ∷ [],
  reading-goes_on (kind_shown c.args.list.kind) c.args.run.now c.args.list.size c.args.first c.args.list.count c.loop.pointer c.behind-pointer.result
      (c.args.list.count - c.loop.counter) (c.args.list.count - (c.loop.counter + 1)) c.loop.invariant.0 (value_of c.in-Ok.value) (omega arith)
      c.behind-pointer.ensures c.in-Ok.ensures c.loop.invariant.1,
  items-go_on _ c.loop.invariant.0 (value_of c.in-Ok.value) c.args.making.now.writer c.args.making.now.line c.loop.making.writer c.loop.making.line
      c.put_value.new.making.writer c.put_value.new.making.line _ _ _ c.loop.invariant.2 c.in-Ok-put_value.ensures,
)

pub returns-in-Err-put_value : goal.returns-in-Err-put_value
returns-in-Err-put_value g c values is =
    let unit : SFits w32 c.args.unit = search rules in
    let goes : Reading (kind_shown c.args.list.kind) c.args.run.now c.args.list.size c.args.first c.args.list.count (shifted c.args.list.size c.loop.pointer)
    (c.args.list.count - (c.loop.counter + 1)) (c.loop.invariant.0 ++ value_of c.in-Ok.value ∷ []) =
    reading-goes_on (kind_shown c.args.list.kind) c.args.run.now c.args.list.size c.args.first c.args.list.count c.loop.pointer (shifted c.args.list.size c.loop.pointer)
    (c.args.list.count - c.loop.counter) (c.args.list.count - (c.loop.counter + 1)) c.loop.invariant.0 (value_of c.in-Ok.value) (omega arith) refl c.in-Ok.ensures
    c.loop.invariant.1 in
    let rest : (later : List ListedValue) × (values ≡ (c.loop.invariant.0 ++ value_of c.in-Ok.value ∷ []) ++ later) =
    reading-rest (kind_shown c.args.list.kind) c.args.run.now c.args.list.size c.args.first c.args.list.count (shifted c.args.list.size c.loop.pointer)
    (c.args.list.count - (c.loop.counter + 1)) (c.loop.invariant.0 ++ value_of c.in-Ok.value ∷ []) values goes is in
    items-at (to_z w32 (of_z w32 c.args.unit)) c.args.unit values _ _ _ _ _ _ _ (to_z-of_z unit)
    (items-refused (to_z w32 (of_z w32 c.args.unit)) c.loop.invariant.0 (value_of c.in-Ok.value) rest.0 values c.args.making.now.writer c.args.making.now.line c.loop.making.writer
    c.loop.making.line c.put_value.new.making.writer c.put_value.new.making.line _ _ _ c.in-Err-put_value.refusal rest.1 c.loop.invariant.2 c.in-Err-put_value.ensures)

pub returns-in-Err : goal.returns-in-Err
returns-in-Err g c values is =
    absurd
    (reading-there (kind_shown c.args.list.kind) c.args.run.now c.args.list.size c.args.first c.args.list.count c.loop.pointer (c.args.list.count - c.loop.counter)
    (c.args.list.count - (c.loop.counter + 1)) c.loop.invariant.0 values c.in-Err.field-0 (omega arith) c.loop.invariant.1 is c.in-Err.ensures)

pub returns : goal.returns
returns g c values is =
    let unit : SFits w32 c.args.unit = search rules in
    items-at (to_z w32 (of_z w32 c.args.unit)) c.args.unit values _ _ _ _ _ _ _ (to_z-of_z unit)
    (items-done (to_z w32 (of_z w32 c.args.unit)) c.loop.invariant.0 values c.args.making.now.writer c.args.making.now.line c.loop.making.writer c.loop.making.line _ _
    (reading-all (kind_shown c.args.list.kind) c.args.run.now c.args.list.size c.args.first c.args.list.count c.loop.pointer (c.args.list.count - c.loop.counter)
    c.loop.invariant.0 values (omega arith) c.loop.invariant.1 is)
    c.loop.invariant.2)
