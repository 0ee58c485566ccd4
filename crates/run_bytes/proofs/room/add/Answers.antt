use Rattle.run_bytes.proofs.AddedLemmas.{bytes-made, values-made}
use Rattle.run_bytes.proofs.room.add.Goals as goal

pub returns-in-Bytes : goal.returns-in-Bytes
returns-in-Bytes c =
    bytes-made c.add_bytes.result c.args.kind c.args.places.now.items c.args.bytes.now.items c.args.marks.now.items c.args.values.now.items c.in-Bytes.len c.in-Bytes.set
    c.add_bytes.new.places.items c.add_bytes.new.bytes.items c.add_bytes.new.marks.items c.in-Bytes.is c.requires
    c.add_bytes.ensures.bytes c.add_bytes.ensures.marks c.add_bytes.ensures.places

pub returns-in-Values : goal.returns-in-Values
returns-in-Values c =
    values-made c.add_values.result c.args.kind c.args.places.now.items c.args.bytes.now.items c.args.marks.now.items c.args.values.now.items c.in-Values.len c.in-Values.holds
    c.add_values.new.places.items c.add_values.new.values.items c.in-Values.is c.requires c.add_values.ensures.values c.add_values.ensures.places
