-- The table of the functions of the library is the one of the meaning (CSTR 149, appendix on the run time library).
use Rattle.std.proofs.Common.{◌≡◌, ℕ, Bool, true, false, ◌&&◌, if◌then◌else◌, List, map, Option, Some, None, refl, ap, sym, ◌∙◌}
use Rattle.std.specs.Prelude.{slice_get, option_map, Ok, Err}
use Rattle.std.proofs.lemmas.Option.{slice_get-map}
use Rattle.c_tree.specs.simulation.Machine.{Breaks}
use Rattle.c_tree.specs.declared.outcome.CValue.{CValue}
use Rattle.c_tree.specs.declared.outcome.CFault.TheVariants.{Kind, Disagree}
use Rattle.c_tree.specs.Faults.{Faults}
use Rattle.c_tree.specs.World.{World}
use Rattle.c_tree.specs.Builtins.{Signature, signatures}
use Rattle.c_tree.specs.Library.{library}
use Rattle.c_tree.specs.Steps.{Wants, View, takes_all, may_give, library_called, given_that, replied}
use Rattle.item_deeds.specs.Calls.{LibraryCall, call_by}
use Rattle.run_library.specs.Signatures.{IsCall}
use Rattle.program_runner.specs.declared.signatures.LibrarySignature.{LibrarySignature}
use Rattle.program_runner.specs.Signatures.{taken_of, Shape, shape_of, listed_shape, Allows}

pub shape-at : (table : List LibrarySignature) (number : ℕ) (found : Option LibrarySignature) → map shape_of table ≡ map listed_shape signatures → found ≡ slice_get table number →
    option_map shape_of found ≡ option_map listed_shape (slice_get signatures number)
shape-at table number found same is =
    ap (option_map shape_of) is ∙ sym (slice_get-map shape_of table number) ∙ ap (λ all. slice_get all number) same ∙ slice_get-map listed_shape signatures number

-- WHAT MAY BE CALLED
both-true : (first second : Bool) → (first && second) ≡ true → (first ≡ true) × (second ≡ true)
both-true true second is = (refl, is)
both-true false second is = absurd (cc)

-- a call that is tested
tested : (view : View) (world : World) (wants : Wants) (values : List CValue) (signature : Signature) (test : Bool) → (takes_all signature.takes values && may_give signature.gives wants) ≡ test →
    library_called view world wants values (Some signature)
    ≡ (if test then given_that (library signature.builtin world values) (replied view wants) else Breaks (Faults Disagree))
tested view world wants values signature test is = ap (λ test. if test then given_that (library signature.builtin world values) (replied view wants) else Breaks (Faults Disagree)) is

-- what is called by it
abbrev pub call_to : Signature → List CValue → LibraryCall
call_to signature values = record { builtin = signature.builtin; arguments = values }

told : (wants : Wants) (values : List CValue) (signature : Signature) (test : Bool) → (takes_all signature.takes values && may_give signature.gives wants) ≡ test →
    call_by wants values (Some signature) ≡ (if test then Some (call_to signature values) else None)
told wants values signature test is = ap (λ test. if test then Some (call_to signature values) else None) is

none-among : (number : ℕ) (values : List CValue) (wants : Wants) (known : Option Signature) → slice_get signatures number ≡ known → None ≡ option_map listed_shape known →
    Allows number values wants (Err Kind)
none-among number values wants None is shapes = (ap (call_by wants values) is, λ view world. ap (library_called view world wants values) is)
none-among number values wants (Some signature) is shapes = absurd (cc)

allowed-as : (number : ℕ) (values : List CValue) (wants : Wants) (shape : Shape) (known : Option Signature) → slice_get signatures number ≡ known → Some shape ≡ option_map listed_shape known →
    (takes_all shape.kinds values && may_give shape.gives wants) ≡ true → Allows number values wants (Ok tt)
allowed-as number values wants shape None is shapes agrees = absurd (cc)
allowed-as number values wants shape (Some signature) is shapes agrees =
    let same : shape ≡ listed_shape signature = cc in
    let tests = both-true (takes_all signature.takes values) (may_give signature.gives wants) (ap (λ shape. takes_all shape.kinds values && may_give shape.gives wants) (sym same) ∙ agrees) in
    (record { signature = signature; known = is; agrees = tests.0 }, tests.1)

refused-as : (number : ℕ) (values : List CValue) (wants : Wants) (shape : Shape) (known : Option Signature) → slice_get signatures number ≡ known → Some shape ≡ option_map listed_shape known →
    (takes_all shape.kinds values && may_give shape.gives wants) ≡ false → Allows number values wants (Err Disagree)
refused-as number values wants shape None is shapes agrees = absurd (cc)
refused-as number values wants shape (Some signature) is shapes agrees =
    let same : shape ≡ listed_shape signature = cc in
    let refuses : (takes_all signature.takes values && may_give signature.gives wants) ≡ false = ap (λ shape. takes_all shape.kinds values && may_give shape.gives wants) (sym same) ∙ agrees in (
      ap (call_by wants values) is ∙ told wants values signature false refuses,
      λ view world. ap (library_called view world wants values) is ∙ tested view world wants values signature false refuses,
    )

pub none-known : (number : ℕ) (values : List CValue) (wants : Wants) → option_map shape_of None ≡ option_map listed_shape (slice_get signatures number) → Allows number values wants (Err Kind)
none-known number values wants shapes = none-among number values wants (slice_get signatures number) refl shapes

pub one-allowed : (number : ℕ) (values : List CValue) (wants : Wants) (found : LibrarySignature) →
    (takes_all (map taken_of found.takes.now) values && may_give found.gives wants) ≡ true →
    option_map shape_of (Some found) ≡ option_map listed_shape (slice_get signatures number) → Allows number values wants (Ok tt)
one-allowed number values wants found agrees shapes = allowed-as number values wants (shape_of found) (slice_get signatures number) refl shapes agrees

pub one-refused : (number : ℕ) (values : List CValue) (wants : Wants) (found : LibrarySignature) →
    (takes_all (map taken_of found.takes.now) values && may_give found.gives wants) ≡ false →
    option_map shape_of (Some found) ≡ option_map listed_shape (slice_get signatures number) → Allows number values wants (Err Disagree)
one-refused number values wants found agrees shapes = refused-as number values wants (shape_of found) (slice_get signatures number) refl shapes agrees

pub ruleset allowing_laws = (none-known, one-refused)

-- a call that is allowed
pub call-made : (number : ℕ) (values : List CValue) (view : View) (world : World) (wants : Wants) (call : IsCall number values) → may_give call.signature.gives wants ≡ true →
    library_called view world wants values (slice_get signatures number) ≡ given_that (library call.signature.builtin world values) (replied view wants)
call-made number values view world wants call gives =
    ap (library_called view world wants values) call.known
    ∙ tested view world wants values call.signature true (ap (λ test. test && may_give call.signature.gives wants) call.agrees ∙ gives)

pub call-told : (number : ℕ) (values : List CValue) (wants : Wants) (call : IsCall number values) → may_give call.signature.gives wants ≡ true →
    call_by wants values (slice_get signatures number) ≡ Some (call_to call.signature values)
call-told number values wants call gives =
    ap (call_by wants values) call.known ∙ told wants values call.signature true (ap (λ test. test && may_give call.signature.gives wants) call.agrees ∙ gives)
