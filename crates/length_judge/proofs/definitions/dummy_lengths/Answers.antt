use Rattle.std.proofs.Common.{Some, Option, if◌then◌else◌, get_or, refl, sym, ap, arith}
use Rattle.f_tree.specs.Uses.{is_among}
use Rattle.declaration_rows.specs.NameRows.{own_attributes}
use Rattle.name_table.specs.Named.{texts}
use Rattle.length_judge.specs.declared.names.NameLength.{NameLength}
use Rattle.length_judge.specs.KnownNames.{length_of}
use Rattle.length_judge.proofs.KnownLaws.{no_name, own_more, own_end}
use Rattle.length_judge.proofs.definitions.dummy_lengths.Goals as goal

pub loop-dummy-init : goal.loop-dummy-init
loop-dummy-init c = λ x. ap (λ (o : Option NameLength). if is_among x (texts c.args.dummies.now) then Some (length_of (own_attributes c.args.unit.now x)) else o) (sym (c.new-table.ensures x))

pub loop-dummy-preserved : goal.loop-dummy-preserved
loop-dummy-preserved c = λ x.
    own_more (λ y. length_of (own_attributes c.args.unit.now y)) c.args.dummies.now c.loop-dummy.dummy-index (get_or c.args.dummies.now c.loop-dummy.dummy-index no_name) x c.in_ok-length.length
    _ _ _ c.loop-dummy-test.true refl (c.loop-dummy.invariant x) c.in_ok-length.ensures (c.in_ok-put.ensures x)

pub returns : goal.returns
returns c = record {
  has = λ x. own_end (λ y. length_of (own_attributes c.args.unit.now y)) c.args.dummies.now c.loop-dummy.dummy-index x _ _ (omega arith) (c.loop-dummy.invariant x);
}
