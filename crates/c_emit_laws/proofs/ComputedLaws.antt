-- A call of a function of the library goes on where the function of FORTRAN has a value, and what it gives is kept.
use Rattle.std.specs.Prelude.{◌≡◌, ℕ, suc, ◌+◌, ◌-◌, nat_lt, ℤ, Bool, true, false, ◌&&◌, List, [], ◌∷◌, map, length, replicate, position, Option, Some, None, Ok, unwrap_or, bytes_eq, slice_get, slice_set, if◌then◌else◌}
use Rattle.std.proofs.Common.{refl, sym, ap, ◌∙◌, subst, arith}
use Rattle.std.proofs.lemmas.Bool.{le-ltb}
use Rattle.c_emit.specs.simulation.Machine.{Goes, Calls, Breaks}
use Rattle.c_emit.specs.f_tree.Values.{Datum, IsInt, IsLog, IsText, IsSpot, Gives, given_that}
use Rattle.c_emit.specs.f_tree.Values as fortran_values
use Rattle.c_emit.specs.f_tree.Terms as fortran
use Rattle.c_emit.specs.f_tree.Store.{Whole}
use Rattle.c_emit.specs.f_tree.Store as store
use Rattle.c_emit.specs.f_tree.Valuing.{applied}
use Rattle.c_emit.specs.f_tree.World as fortran_world
use Rattle.c_emit.specs.l_core.Pures.{all_meant}
use Rattle.c_emit.specs.l_core.Machine.{View, done, step, keeping}
use Rattle.c_emit.specs.c_tree.declared.outcome.CValue.{CValue}
use Rattle.c_emit.specs.c_tree.declared.outcome.CValue.TheVariants.{Number, Pointer, Function}
use Rattle.c_emit.specs.c_tree.declared.outcome.CFault.TheVariants.{Disagree}
use Rattle.c_emit.specs.c_tree.Faults.{Faults, after}
use Rattle.c_emit.specs.c_tree.Access.{ToNumber}
use Rattle.c_emit.specs.c_tree.Objects as objects_of
use Rattle.c_emit.specs.c_tree.Objects.{Object, Place, stored}
use Rattle.c_emit.specs.c_tree.Terms.{Term, Variable}
use Rattle.c_emit.specs.c_tree.Values.{seen, value_of, values_of}
use Rattle.c_emit.specs.c_tree.Flat.{Flat, Invoke, Kept, Direct}
use Rattle.c_emit.specs.c_tree.World as c
use Rattle.c_emit.specs.c_tree.Linking as linking
use Rattle.c_emit.specs.c_tree.Builtins as builtins
use Rattle.c_emit.specs.c_tree.Builtins.{Builtin, Signature, signature, signatures, builtin_names, APointer}
use Rattle.c_emit.specs.c_tree.LibraryArguments.{number_through}
use Rattle.c_emit.specs.c_tree.Library.{library}
use Rattle.c_emit.specs.c_tree.Steps as c_steps
use Rattle.c_emit.specs.c_tree.Steps.{Wants, WantsValue, called, library_called, replied, moving, takes_all, may_give, past, deed}
use Rattle.c_image_laws.proofs.c_laws.ValueLaws.{values_of-cons}
use Rattle.c_emit.specs.faithful.StorageImage.{number_for}
use Rattle.c_emit.specs.c_image.Operations.{library_for}
use Rattle.c_emit.specs.c_image.Held.{whole_for}
use Rattle.c_image_laws.proofs.AddressValues.{Address-points}
use Rattle.c_image_laws.proofs.FunctionValues.{library_meant, complement_meant}
use Rattle.c_emit.specs.LibraryFunctions.{LibraryFunction, pow_ii, i_sign, i_dim, i_or, i_and, i_eor, i_not, i_shft, b_test, b_set, b_clr, library_function}
use Rattle.c_emit.specs.Calls.{address_of}
use Rattle.c_emit_laws.proofs.Choices.{some_same}
use Rattle.c_emit_laws.proofs.ComputedNumbers.{AreOperands, one_operand, two_operands}
use Rattle.c_emit_laws.proofs.HeldNumbers.{IsHeldBy, number_there, AreHeld, none_held, more_held}

-- ## The functions of the library

-- the number of a function among those of the library, and what it takes and gives
pub record IsBuiltin (f : fortran.Function) (one : LibraryFunction) : Type 0 where
  pub number : ℕ
  pub builtin : Builtin
  pub is : library_for f ≡ Some builtin
  pub found : unwrap_or (position (bytes_eq one.name) builtin_names) 0 ≡ number
  pub signed : slice_get signatures number ≡ Some (signature builtin one.name (replicate one.takes APointer) true)

pub builtin_of : (f : fortran.Function) (one : LibraryFunction) → library_function f ≡ Some one → IsBuiltin f one
unfolding library_function
builtin_of fortran.Power one is = subst (IsBuiltin fortran.Power) (some_same pow_ii one is) (record { number = 4; builtin = builtins.pow_ii; is = refl; found = refl; signed = refl })
builtin_of fortran.SignTransfer one is = subst (IsBuiltin fortran.SignTransfer) (some_same i_sign one is) (record { number = 5; builtin = builtins.i_sign; is = refl; found = refl; signed = refl })
builtin_of fortran.PositiveDifference one is = subst (IsBuiltin fortran.PositiveDifference) (some_same i_dim one is) (record { number = 6; builtin = builtins.i_dim; is = refl; found = refl; signed = refl })
builtin_of fortran.InclusiveOr one is = subst (IsBuiltin fortran.InclusiveOr) (some_same i_or one is) (record { number = 35; builtin = builtins.i_or; is = refl; found = refl; signed = refl })
builtin_of fortran.LogicalProduct one is = subst (IsBuiltin fortran.LogicalProduct) (some_same i_and one is) (record { number = 36; builtin = builtins.i_and; is = refl; found = refl; signed = refl })
builtin_of fortran.ExclusiveOr one is = subst (IsBuiltin fortran.ExclusiveOr) (some_same i_eor one is) (record { number = 37; builtin = builtins.i_eor; is = refl; found = refl; signed = refl })
builtin_of fortran.BitComplement one is = subst (IsBuiltin fortran.BitComplement) (some_same i_not one is) (record { number = 38; builtin = builtins.i_not; is = refl; found = refl; signed = refl })
builtin_of fortran.BitShift one is = subst (IsBuiltin fortran.BitShift) (some_same i_shft one is) (record { number = 39; builtin = builtins.i_shft; is = refl; found = refl; signed = refl })
builtin_of fortran.BitTest one is = subst (IsBuiltin fortran.BitTest) (some_same b_test one is) (record { number = 40; builtin = builtins.b_test; is = refl; found = refl; signed = refl })
builtin_of fortran.BitSet one is = subst (IsBuiltin fortran.BitSet) (some_same b_set one is) (record { number = 41; builtin = builtins.b_set; is = refl; found = refl; signed = refl })
builtin_of fortran.BitClear one is = subst (IsBuiltin fortran.BitClear) (some_same b_clr one is) (record { number = 42; builtin = builtins.b_clr; is = refl; found = refl; signed = refl })
builtin_of f one is = absurd (cc)

-- NOT alone takes one number
one_taken : (f : fortran.Function) (one : LibraryFunction) → library_function f ≡ Some one → one.takes ≡ 1 → f ≡ fortran.BitComplement
unfolding library_function
one_taken fortran.BitComplement one is takes = refl
one_taken fortran.Power one is takes = let two : 2 ≡ 1 = ap (λ (o : LibraryFunction). o.takes) (some_same pow_ii one is) ∙ takes in absurd (omega (arith, two))
one_taken fortran.SignTransfer one is takes = let two : 2 ≡ 1 = ap (λ (o : LibraryFunction). o.takes) (some_same i_sign one is) ∙ takes in absurd (omega (arith, two))
one_taken fortran.PositiveDifference one is takes = let two : 2 ≡ 1 = ap (λ (o : LibraryFunction). o.takes) (some_same i_dim one is) ∙ takes in absurd (omega (arith, two))
one_taken fortran.InclusiveOr one is takes = let two : 2 ≡ 1 = ap (λ (o : LibraryFunction). o.takes) (some_same i_or one is) ∙ takes in absurd (omega (arith, two))
one_taken fortran.LogicalProduct one is takes = let two : 2 ≡ 1 = ap (λ (o : LibraryFunction). o.takes) (some_same i_and one is) ∙ takes in absurd (omega (arith, two))
one_taken fortran.ExclusiveOr one is takes = let two : 2 ≡ 1 = ap (λ (o : LibraryFunction). o.takes) (some_same i_eor one is) ∙ takes in absurd (omega (arith, two))
one_taken fortran.BitShift one is takes = let two : 2 ≡ 1 = ap (λ (o : LibraryFunction). o.takes) (some_same i_shft one is) ∙ takes in absurd (omega (arith, two))
one_taken fortran.BitTest one is takes = let two : 2 ≡ 1 = ap (λ (o : LibraryFunction). o.takes) (some_same b_test one is) ∙ takes in absurd (omega (arith, two))
one_taken fortran.BitSet one is takes = let two : 2 ≡ 1 = ap (λ (o : LibraryFunction). o.takes) (some_same b_set one is) ∙ takes in absurd (omega (arith, two))
one_taken fortran.BitClear one is takes = let two : 2 ≡ 1 = ap (λ (o : LibraryFunction). o.takes) (some_same b_clr one is) ∙ takes in absurd (omega (arith, two))
one_taken f one is takes = absurd (cc)

-- ## What is passed

-- pointers to numbers, which the library reads there
pub record IsPassed (objects : List Object) (one : LibraryFunction) (terms : List Term) (f : fortran.Function) (builtin : Builtin) (world : c.World) (d : Datum) (whole : Whole) : Type 0 where
  pub values : List CValue
  pub valued : values_of objects (map address_of terms) ≡ Ok values
  pub taken : takes_all (replicate one.takes APointer) values ≡ true
  pub given : library builtin world values ≡ Ok (c.Gives (number_for whole) world)

address_valued : (objects : List Object) (term : Term) (z : ℤ) (held : IsHeldBy objects term z) → value_of objects (address_of term) ≡ Ok (Pointer held.object held.offset)
address_valued objects term z held = ap (λ found. after found λ typed. Ok typed.value) (Address-points objects term held.object held.offset ToNumber held.named)

passed_by : (world : c.World) (f : fortran.Function) (one : LibraryFunction) (builtin : Builtin) (n : ℕ) (terms : List Term) (ds : List Datum) (d : Datum) (whole : Whole) → library_function f ≡ Some one → library_for f ≡ Some builtin →
    one.takes ≡ n → AreOperands n ds → AreHeld world.objects terms ds → applied f ds ≡ Gives d → whole_for d ≡ Some whole → IsPassed world.objects one terms f builtin world d whole
passed_by world f one builtin _ _ _ d whole is known takes (one_operand a) (more_held t _ _ _ held none_held) gives whole_is =
    let not : f ≡ fortran.BitComplement = one_taken f one is takes in
    record {
      values = Pointer held.object held.offset ∷ [];
      valued = values_of-cons world.objects (address_of t) [] (Pointer held.object held.offset) [] (address_valued world.objects t a held) refl;
      taken = ap (λ n. takes_all (replicate n APointer) (Pointer held.object held.offset ∷ [])) takes;
      given = complement_meant world (Pointer held.object held.offset) a d whole builtin (ap (λ g. applied g (IsInt a ∷ [])) (sym not) ∙ gives) (ap library_for (sym not) ∙ known) (number_there world.objects held.object held.offset a held.holds) whole_is;
    }
passed_by world f one builtin _ _ _ d whole is known takes (two_operands a b) (more_held t _ _ _ first (more_held t' _ _ _ second none_held)) gives whole_is = record {
  values = Pointer first.object first.offset ∷ Pointer second.object second.offset ∷ [];
  valued = values_of-cons world.objects (address_of t) (address_of t' ∷ []) (Pointer first.object first.offset) (Pointer second.object second.offset ∷ []) (address_valued world.objects t a first)
      (values_of-cons world.objects (address_of t') [] (Pointer second.object second.offset) [] (address_valued world.objects t' b second) refl);
  taken = ap (λ n. takes_all (replicate n APointer) (Pointer first.object first.offset ∷ Pointer second.object second.offset ∷ [])) takes;
  given = library_meant f builtin world (Pointer first.object first.offset) (Pointer second.object second.offset) a b d whole gives known (number_there world.objects first.object first.offset a first.holds)
      (number_there world.objects second.object second.offset b second.holds) whole_is;
}

-- ## The call

abbrev place_of : ℕ → Place
place_of k = record { at = Pointer k 0; access = ToNumber }

-- what a function of the library gives goes into a variable
kept_call_goes : (function : linking.Function) (view : c_steps.View) (world : c.World) (k number : ℕ) (arguments : List Term) (values : List CValue) (taking : Signature) (z : ℤ) (objects : List Object) →
    values_of world.objects arguments ≡ Ok values → nat_lt number function.own ≡ false → slice_get signatures (number - function.own) ≡ Some taking → takes_all taking.takes values ≡ true → taking.gives ≡ true →
    library taking.builtin world values ≡ Ok (c.Gives z world) → stored world.objects (place_of k) (Number z) ≡ Ok objects →
    deed function view world (Invoke (Kept (Variable k ToNumber)) (Direct number) arguments) ≡ Goes (past view) (record world { objects = objects })
unfolding deed seen
kept_call_goes function view world k number arguments values taking z objects valued other found taken gives given kept =
    ap (λ read. c_steps.given_that read λ values. called function.own view world (WantsValue (place_of k)) (Function number) values) valued
    ∙ ap
    (λ mine. if mine then Calls (record view { wants = WantsValue (place_of k) }) world number values else library_called view world (WantsValue (place_of k)) values (slice_get signatures (number - function.own)))
    other
    ∙ ap (library_called view world (WantsValue (place_of k)) values) found
    ∙ ap
    (λ fits. if fits && may_give taking.gives (WantsValue (place_of k)) then c_steps.given_that (library taking.builtin world values) (replied view (WantsValue (place_of k))) else Breaks (Faults Disagree))
    taken
    ∙ ap
    (λ may. if may_give may (WantsValue (place_of k)) then c_steps.given_that (library taking.builtin world values) (replied view (WantsValue (place_of k))) else Breaks (Faults Disagree))
    gives
    ∙ ap (λ read. c_steps.given_that read (replied view (WantsValue (place_of k)))) given
    ∙ ap (λ r. moving (after r λ objects. Ok (record { view = past view; world = record world { objects = objects } }))) kept

past_own : (own m number : ℕ) → m ≡ own + number → nat_lt m own ≡ false
past_own own m number is = le-ltb m own (omega (arith, is))

behind_own : (own m number : ℕ) → m ≡ own + number → m - own ≡ number
behind_own own m number is = omega (arith, is)

pub computed_goes : (function : linking.Function) (view : c_steps.View) (world : c.World) (own k : ℕ) (f : fortran.Function) (one : LibraryFunction) (terms : List Term) (ds : List Datum) (d : Datum) (whole : Whole) (objects : List Object) →
    own ≡ function.own → library_function f ≡ Some one → AreOperands one.takes ds → AreHeld world.objects terms ds → applied f ds ≡ Gives d → whole_for d ≡ Some whole → stored world.objects (place_of k) (Number (number_for whole)) ≡ Ok objects →
    deed function view world (Invoke (Kept (Variable k ToNumber)) (Direct (own + unwrap_or (position (bytes_eq one.name) builtin_names) 0)) (map address_of terms)) ≡ Goes (past view) (record world { objects = objects })
computed_goes function view world own k f one terms ds d whole objects same is operands held gives whole_is kept =
    let builtin = builtin_of f one is in
    let passed = passed_by world f one builtin.builtin one.takes terms ds d whole is builtin.is refl operands held gives whole_is in
    let number : own + unwrap_or (position (bytes_eq one.name) builtin_names) 0 ≡ function.own + builtin.number = (λ i. same i + builtin.found i) in
    kept_call_goes function view world k (own + unwrap_or (position (bytes_eq one.name) builtin_names) 0) (map address_of terms) passed.values (signature builtin.builtin one.name (replicate one.takes APointer) true) (number_for whole) objects
    passed.valued (past_own function.own _ builtin.number number) (ap (slice_get signatures) (behind_own function.own _ builtin.number number) ∙ builtin.signed) passed.taken refl passed.given kept
