use Rattle.std.proofs.Common.{◌≡◌, Bool, true, false, List, [], ◌∷◌, map, Option, Some, option_map, bytes_eq, if◌then◌else◌, refl, ap, ◌∙◌}
use Rattle.f_tree.specs.Values.{Bytes}
use Rattle.f_tree.specs.Reading.{Intrinsic, intrinsics, function_in, function_named}
use Rattle.constant_values.specs.declared.functions.IntrinsicFunction.{IntrinsicFunction}
use Rattle.constant_values.specs.declared.functions.NamedFunction.{NamedFunction}
use Rattle.constant_values.specs.FunctionNames.{function_of, named_in}
use Rattle.constant_values.proofs.functions.function_named.Goals as goal

to_intrinsic : NamedFunction → Intrinsic
to_intrinsic i = record { name = i.name.now; function = function_of i.function }

chosen : (b : Bool) (f : IntrinsicFunction) (o : Option IntrinsicFunction) → option_map function_of (if b then Some f else o) ≡ (if b then Some (function_of f) else option_map function_of o)
chosen true f o = refl
chosen false f o = refl

mapped : (table : List NamedFunction) (x : Bytes) → option_map function_of (named_in table x) ≡ function_in (map to_intrinsic table) x
unfolding named_in function_in to_intrinsic
mapped [] x = refl
mapped (i ∷ is) x =
    chosen (bytes_eq i.name.now x) i.function (named_in is x)
    ∙ ap (λ o. if bytes_eq i.name.now x then Some (function_of i.function) else o) (mapped is x)

pub returns : goal.returns
unfolding function_named intrinsics to_intrinsic function_of
returns c = ap (option_map function_of) c.named_in.ensures ∙ mapped _ c.args.name.now
