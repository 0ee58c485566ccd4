-- A step that makes a call of the library is what its caller does with the reply (C89, 3.3.2.2).
use Rattle.std.proofs.Common.{◌≡◌, ℕ, Bool, true, false, List, Option, Some, None, ap}
use Rattle.std.specs.Prelude.{if◌then◌else◌, ◌&&◌, ◌-◌, nat_lt, slice_get, Ok, Err}
use Rattle.c_tree.specs.simulation.Machine.{Breaks}
use Rattle.c_tree.specs.declared.outcome.CValue.{CValue}
use Rattle.c_tree.specs.declared.outcome.CValue.TheVariants.{Number, Pointer, Null, Function}
use Rattle.c_tree.specs.declared.outcome.CFault.TheVariants.{Disagree}
use Rattle.c_tree.specs.Faults.{Or, Faults}
use Rattle.c_tree.specs.Flat.{Flat, Assign, Branch, Select, Jump, Invoke, Return, ReturnAnswer, Nothing, Lost}
use Rattle.c_tree.specs.Linking as linking
use Rattle.c_tree.specs.Values.{values_of}
use Rattle.c_tree.specs.World.{World}
use Rattle.c_tree.specs.Builtins.{Signature, signatures}
use Rattle.c_tree.specs.Library.{library}
use Rattle.c_tree.specs.Steps.{Wants, View, Happening, takes_all, may_give, wanted, callee_of, given_that, replied, library_called, called, deed, deed_at, step}
use Rattle.item_deeds.specs.Calls.{LibraryCall, call_by, value_call, with_value, call_at, next_call}
use Rattle.program_runner.specs.CallsMade.{IsByCall}

by-test : (view : View) (world : World) (wants : Wants) (values : List CValue) (signature : Signature) (call : LibraryCall) (test : Bool) →
    (if test then Some (record { builtin = signature.builtin; arguments = values }) else None) ≡ Some call →
    IsByCall (if test then given_that (library signature.builtin world values) (replied view wants) else Breaks (Faults Disagree)) view world call
by-test view world wants values signature call true is =
    let one : LibraryCall = record { builtin = signature.builtin; arguments = values } in
    let same : one ≡ call = cc in
    record { wants = wants; is = ap (λ (c : LibraryCall). given_that (library c.builtin world c.arguments) (replied view wants)) same }
by-test view world wants values signature call false is = absurd (cc)

by-signature : (view : View) (world : World) (wants : Wants) (values : List CValue) (known : Option Signature) (call : LibraryCall) → call_by wants values known ≡ Some call →
    IsByCall (library_called view world wants values known) view world call
by-signature view world wants values None call is = absurd (cc)
by-signature view world wants values (Some signature) call is =
    by-test view world wants values signature call (takes_all signature.takes values && may_give signature.gives wants) is

by-number : (view : View) (world : World) (wants : Wants) (values : List CValue) (known : Option Signature) (call : LibraryCall) (own : Happening) (test : Bool) →
    (if test then None else call_by wants values known) ≡ Some call → IsByCall (if test then own else library_called view world wants values known) view world call
by-number view world wants values known call own true is = absurd (cc)
by-number view world wants values known call own false is = by-signature view world wants values known call is

by-value : (own : ℕ) (view : View) (world : World) (wants : Wants) (function : CValue) (values : List CValue) (call : LibraryCall) → value_call own wants values function ≡ Some call →
    IsByCall (called own view world wants function values) view world call
by-value own view world wants (Function number) values call is =
    by-number view world wants values (slice_get signatures (number - own)) call _ (nat_lt number own) is
by-value own view world wants (Number number) values call is = absurd (cc)
by-value own view world wants (Pointer object offset) values call is = absurd (cc)
by-value own view world wants Null values call is = absurd (cc)

by-settled : (own : ℕ) (view : View) (world : World) (wants : Or Wants) (function : Or CValue) (values : Or (List CValue)) (call : LibraryCall) →
    with_value wants (λ w. with_value function (λ f. with_value values (λ v. value_call own w v f))) ≡ Some call →
    IsByCall (given_that wants (λ w. given_that function (λ f. given_that values (λ v. called own view world w f v)))) view world call
by-settled own view world (Ok w) (Ok f) (Ok v) call is = by-value own view world w f v call is
by-settled own view world (Ok w) (Ok f) (Err why) call is = absurd (cc)
by-settled own view world (Ok w) (Err why) values call is = absurd (cc)
by-settled own view world (Err why) function values call is = absurd (cc)

by-item : (function : linking.Function) (view : View) (world : World) (item : Option Flat) (call : LibraryCall) → call_at function.own world.objects item ≡ Some call →
    IsByCall (deed_at function view world item) view world call
unfolding deed
by-item function view world None call is = absurd (cc)
by-item function view world (Some (Invoke how callee arguments)) call is =
    by-settled function.own view world (wanted world.objects how) (callee_of world.objects callee) (values_of world.objects arguments) call is
by-item function view world (Some (Assign target value)) call is = absurd (cc)
by-item function view world (Some (Branch test on off)) call is = absurd (cc)
by-item function view world (Some (Select value cases otherwise)) call is = absurd (cc)
by-item function view world (Some (Jump position)) call is = absurd (cc)
by-item function view world (Some (Return term)) call is = absurd (cc)
by-item function view world (Some ReturnAnswer) call is = absurd (cc)
by-item function view world (Some Nothing) call is = absurd (cc)
by-item function view world (Some Lost) call is = absurd (cc)

pub next-call-made : (function : linking.Function) (view : View) (world : World) (call : LibraryCall) → next_call function view world ≡ Some call → IsByCall (step function view world) view world call
unfolding step
next-call-made function view world call is = by-item function view world (slice_get function.code view.position) call is
