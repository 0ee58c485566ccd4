-- The functions that begin and end each kind of transfer, by their names in C.
use Rattle.c_tree.specs.World.{Output, Input}
use Rattle.c_tree.specs.Builtins.{Builtin, Begin, Finish, ByFormat, ByList, OnUnit, InMemory, transfer_kind}

abbrev pub s_wsfe : Builtin
s_wsfe = Begin (transfer_kind Output ByFormat OnUnit)

abbrev pub s_wsfi : Builtin
s_wsfi = Begin (transfer_kind Output ByFormat InMemory)

abbrev pub s_wsle : Builtin
s_wsle = Begin (transfer_kind Output ByList OnUnit)

abbrev pub s_wsli : Builtin
s_wsli = Begin (transfer_kind Output ByList InMemory)

abbrev pub s_rsfe : Builtin
s_rsfe = Begin (transfer_kind Input ByFormat OnUnit)

abbrev pub s_rsfi : Builtin
s_rsfi = Begin (transfer_kind Input ByFormat InMemory)

abbrev pub s_rsle : Builtin
s_rsle = Begin (transfer_kind Input ByList OnUnit)

abbrev pub s_rsli : Builtin
s_rsli = Begin (transfer_kind Input ByList InMemory)

abbrev pub e_wsfe : Builtin
e_wsfe = Finish (transfer_kind Output ByFormat OnUnit)

abbrev pub e_wsfi : Builtin
e_wsfi = Finish (transfer_kind Output ByFormat InMemory)

abbrev pub e_wsle : Builtin
e_wsle = Finish (transfer_kind Output ByList OnUnit)

abbrev pub e_wsli : Builtin
e_wsli = Finish (transfer_kind Output ByList InMemory)

abbrev pub e_rsfe : Builtin
e_rsfe = Finish (transfer_kind Input ByFormat OnUnit)

abbrev pub e_rsfi : Builtin
e_rsfi = Finish (transfer_kind Input ByFormat InMemory)

abbrev pub e_rsle : Builtin
e_rsle = Finish (transfer_kind Input ByList OnUnit)

abbrev pub e_rsli : Builtin
e_rsli = Finish (transfer_kind Input ByList InMemory)
