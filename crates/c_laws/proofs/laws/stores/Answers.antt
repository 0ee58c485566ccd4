use Rattle.std.specs.Prelude.{slice_set}
use Rattle.c_laws.proofs.ObjectLaws.{stored-number, fetched-number, number_at-overlaid, slice_get-slice_set_same}
use Rattle.c_tree.specs.Objects.{Bytes, overlaid, bytes_of_number}
use Rattle.c_laws.proofs.laws.stores.Goals as goal

pub returns-clause-stored : goal.returns-clause-stored
returns-clause-stored c objects object offset number bytes found aligned within =
    stored-number objects object offset number bytes found aligned within

pub returns-clause-read_back : goal.returns-clause-read_back
returns-clause-read_back c objects object offset number bytes there fits aligned within =
    let new = overlaid offset (bytes_of_number number) bytes in
    fetched-number
    (slice_set objects object (Bytes new))
    object
    offset
    number
    new
    (slice_get-slice_set_same objects object (Bytes new) there)
    (number_at-overlaid offset number bytes fits aligned within)
