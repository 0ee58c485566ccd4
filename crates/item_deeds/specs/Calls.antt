-- The call of a function of the library that a step makes, if it makes one (C89, 3.3.2.2).
use Rattle.std.specs.Prelude.{◌≡◌, ℕ, ◌-◌, nat_lt, ◌&&◌, List, take, Option, Some, None, Result, Ok, Err, slice_get, if◌then◌else◌}
use Rattle.c_tree.specs.declared.outcome.CValue.{CValue}
use Rattle.c_tree.specs.declared.outcome.CValue.TheVariants.{Function}
use Rattle.c_tree.specs.declared.outcome.CFault.{CFault}
use Rattle.c_tree.specs.Faults.{Or}
use Rattle.c_tree.specs.Objects.{Object}
use Rattle.c_tree.specs.Terms.{Term}
use Rattle.c_tree.specs.Flat.{Flat, Invoke, Use, Callee}
use Rattle.c_tree.specs.Linking as linking
use Rattle.c_tree.specs.Values.{values_of}
use Rattle.c_tree.specs.World.{World}
use Rattle.c_tree.specs.Builtins.{Builtin, Signature, signatures}
use Rattle.c_tree.specs.Steps.{Wants, View, wanted, callee_of, takes_all, may_give}
use Rattle.item_deeds.specs.Deeds.{wants_of}
use Rattle.item_deeds.specs.declared.deeds.Deed.{Deed}
use Rattle.item_deeds.specs.declared.deeds.Deed.TheVariants as done

-- a function of the library, with the values of its arguments
pub record LibraryCall : Type 0 where
  pub builtin : Builtin
  pub arguments : List CValue

-- it is called where there is one, it takes such values, and its own value may be used so
abbrev pub call_by : Wants → List CValue → Option Signature → Option LibraryCall
call_by wants values None = None
call_by wants values (Some signature) =
    if takes_all signature.takes values && may_give signature.gives wants then Some (record { builtin = signature.builtin; arguments = values }) else None

-- a call of what has this value, in a program that has so many functions; those of the library have the numbers behind them
abbrev pub value_call : ℕ → Wants → List CValue → CValue → Option LibraryCall
value_call own wants values (Function number) = if nat_lt number own then None else call_by wants values (slice_get signatures (number - own))
value_call own wants values other = None

-- the call that is made with a value; where there is none instead, no call
abbrev pub with_value : {A : Type 0} → Or A → (A → Option LibraryCall) → Option LibraryCall
with_value (Ok value) call = call value
with_value (Err reason) call = None

-- a call: its target, its function and its arguments are settled, and then it is made
abbrev pub invoked_call : ℕ → List Object → Use → Callee → List Term → Option LibraryCall
invoked_call own objects how callee arguments =
    with_value (wanted objects how) λ wants.
    with_value (callee_of objects callee) λ function.
    with_value (values_of objects arguments) λ values.
    value_call own wants values function

-- only an item that calls makes a call
abbrev pub item_call : ℕ → List Object → Flat → Option LibraryCall
item_call own objects (Invoke how callee arguments) = invoked_call own objects how callee arguments
item_call own objects other = None

abbrev pub call_at : ℕ → List Object → Option Flat → Option LibraryCall
call_at own objects None = None
call_at own objects (Some item) = item_call own objects item

-- the call that the next step of a function makes
abbrev pub next_call : linking.Function → View → World → Option LibraryCall
next_call function view world = call_at function.own world.objects (slice_get function.code view.position)

-- the call that a deed tells, where the first of some values are those of the arguments
abbrev pub deed_call : List CValue → Deed → Option LibraryCall
deed_call values (done.Library view wants number count) = call_by (wants_of wants) (take count values) (slice_get signatures number)
deed_call values other = None

abbrev pub deed_call_or : List CValue → Result Deed CFault → Option LibraryCall
deed_call_or values (Ok deed) = deed_call values deed
deed_call_or values (Err fault) = None

-- before a function of the library is called, nothing is done to the objects
abbrev pub KeepsObjects : List Object → List Object → Deed → Type 0
KeepsObjects old new (done.Library view wants number count) = new ≡ old
KeepsObjects old new other = Unit {0}
