-- What is said of the storage of a FORTRAN run among the objects of a C run: of reading and defining, of values and elements, and of
-- calls. ANSI X3.9-1978, sections 2.11, 2.13, 5.4, 6, 10, 15.9 and 17; C89, 3.3.
use Rattle.std.specs.Prelude.{◌≡◌, ℕ, ◌+◌, ◌*◌, ◌%◌, ◌<◌, ◌≤◌, ℤ, pos, true, false, List, [], ◌∷◌, ◌++◌, map, length, take, Option, Some, None, Ok, slice_get}
use Rattle.c_laws.specs.simulation.Machine.{Goes}
use Rattle.c_image.specs.f_tree.declared.names.Basic.TheVariants.{Character}
use Rattle.c_image.specs.f_tree.Values.{Bytes, Spot, Datum, IsInt, IsLog, IsText, IsSpot, Gives, in_range}
use Rattle.c_image.specs.f_tree.Terms.{Prefix, Operator}
use Rattle.c_image.specs.f_tree.Terms as fortran
use Rattle.c_image.specs.f_tree.Store.{Store, Sequence, Whole, fetch, define, label_at, define_label, undefined_units}
use Rattle.c_image.specs.f_tree.Facts.{Bounds, Facts, Frame}
use Rattle.c_image.specs.f_tree.Valuing as valuing
use Rattle.c_image.specs.f_tree.Association.{sequence_of, passing}
use Rattle.c_laws.specs.c_tree.declared.outcome.CValue.{CValue}
use Rattle.c_laws.specs.c_tree.declared.outcome.CValue.TheVariants.{Number, Pointer}
use Rattle.c_laws.specs.c_tree.declared.expression.UnaryOp.TheVariants as prefix
use Rattle.c_laws.specs.c_tree.declared.expression.BinaryOp.TheVariants as op
use Rattle.c_laws.specs.c_tree.Access.{Access, ToNumber, ToChar, ToByte, ToPointer}
use Rattle.c_laws.specs.c_tree.Objects.{Object, plain, fetched, stored}
use Rattle.c_laws.specs.c_tree.Objects as objects_of
use Rattle.c_laws.specs.c_tree.Declarations.{unset, unset_values}
use Rattle.c_laws.specs.c_tree.Terms.{Term, Constant, Variable, Array, Prefixed, Between}
use Rattle.c_laws.specs.c_tree.World as c
use Rattle.c_laws.specs.c_tree.Builtins.{Builtin, s_cmp}
use Rattle.c_laws.specs.c_tree.Linking as linking
use Rattle.c_laws.specs.c_tree.Library.{library}
use Rattle.c_laws.specs.c_tree.LibraryTexts.{comparison}
use Rattle.c_laws.specs.c_tree.LibraryArguments.{number_through, text_at, text_stored}
use Rattle.c_laws.specs.c_tree.LibraryArguments as filled
use Rattle.c_laws.specs.c_tree.Flat.{Assign}
use Rattle.c_laws.specs.c_tree.Steps.{View, deed, all_bound, with_frame}
use Rattle.c_image.specs.faithful.StorageImage.{number_for, UnitsStand}
use Rattle.c_image.specs.faithful.UnitsAtStart.{AreBytes}
use Rattle.c_image.specs.World.{World, changed, with_held, with_sequence, framed, Extends, IsHomeless, IsIdle}
use Rattle.c_image.specs.Standing.{Stands}
use Rattle.c_image.specs.Held.{whole_for, BeginWith, Holds}
use Rattle.c_image.specs.Addresses.{Address, Through, access_to, Reaches, IsSound, number_term, element_term, text_term}
use Rattle.c_image.specs.Operations.{prefix_for, operator_for, constant_term, function_term, library_for}
use Rattle.c_image.specs.Elements.{Step, index_term, sum_term}
use Rattle.c_image.specs.Knowing.{Naming, Knows, IsApart}
use Rattle.c_image.specs.Passing.{Argument, with_arguments, AreHeld}
use Rattle.c_image_laws.specs.DerivedPlaces.{further_place, cut_place, value_place, HasCharacter}
use Rattle.c_image_laws.specs.Meanings.{Means, AllMean, IsNumber, AreSteps, Points, IsPlace, StandsAfter, Keeps}

-- where a place stands
abbrev pub IsAt : World → Spot → ℕ → Type 0
IsAt μ p object = μ.homes p.sequence ≡ Some object

-- ## Reading

-- the image of storage of a faithful translation is part of what stands
abbrev pub ImageStands : Type 0
ImageStands = (μ : World) (s : Store) (objects : List Object) → Stands μ s objects → UnitsStand s objects μ.homes

-- wherever a place is and by whatever expression: its number or truth value, its label, its text, and the first character of its text
abbrev pub NumbersAreThere : Type 0
NumbersAreThere = (μ : World) (s : Store) (objects : List Object) (p : Spot) (object : ℕ) (d : Datum) (w : Whole) → Stands μ s objects → IsSound μ p → IsAt μ p object →
    fetch s p ≡ Gives d → whole_for d ≡ Some w → fetched objects (record { at = Pointer object p.first; access = ToNumber }) ≡ Ok (plain (Number (number_for w)))

abbrev pub LabelsAreThere : Type 0
LabelsAreThere = (μ : World) (s : Store) (objects : List Object) (p : Spot) (object : ℕ) (w : Whole) → Stands μ s objects → p.first % 4 ≡ 0 → IsAt μ p object →
    label_at s p ≡ Gives w → fetched objects (record { at = Pointer object p.first; access = ToNumber }) ≡ Ok (plain (Number (number_for w)))

abbrev pub TextsAreThere : Type 0
TextsAreThere = (μ : World) (s : Store) (objects : List Object) (p : Spot) (object : ℕ) (cs : Bytes) → Stands μ s objects → IsSound μ p → IsAt μ p object →
    fetch s p ≡ Gives (IsText cs) → text_at objects (Pointer object p.first) p.width ≡ Ok cs

abbrev pub CharactersAreThere : Type 0
CharactersAreThere = (μ : World) (s : Store) (objects : List Object) (p : Spot) (object first : ℕ) (cs : Bytes) → Stands μ s objects → IsSound μ p → IsAt μ p object →
    fetch s p ≡ Gives (IsText (first ∷ cs)) → fetched objects (record { at = Pointer object p.first; access = ToByte }) ≡ Ok (plain (Number (pos first)))

-- the expression for a name has the number or the truth value of its place, and that for a text points to it
abbrev pub NumbersAreRead : Type 0
NumbersAreRead = (μ : World) (s : Store) (objects : List Object) (p : Spot) (address : Address) (d : Datum) (w : Whole) → Stands μ s objects → IsSound μ p → Reaches μ p address →
    fetch s p ≡ Gives d → whole_for d ≡ Some w → Means objects (number_term address) d

abbrev pub TextsAreRead : Type 0
TextsAreRead = (μ : World) (s : Store) (objects : List Object) (p : Spot) (address : Address) (object : ℕ) (cs : Bytes) → Stands μ s objects → IsSound μ p → Reaches μ p address → IsAt μ p object →
    fetch s p ≡ Gives (IsText cs) → Points objects (text_term address) object p.first ToChar × (text_at objects (Pointer object p.first) p.width ≡ Ok cs)

-- what temporaries and parameters hold is read
abbrev pub HeldNumbersAreRead : Type 0
HeldNumbersAreRead = (μ : World) (s : Store) (objects : List Object) (k : ℕ) (d : Datum) (w : Whole) → Stands μ s objects → Holds (μ.frozen k) d → whole_for d ≡ Some w →
    Means objects (Variable k ToNumber) d

abbrev pub HeldTextsAreRead : Type 0
HeldTextsAreRead = (μ : World) (s : Store) (objects : List Object) (k : ℕ) (cs : Bytes) → Stands μ s objects → Holds (μ.frozen k) (IsText cs) → text_at objects (Pointer k 0) (length cs) ≡ Ok cs

-- ## Defining

-- once a place is defined and its value stored where it stands, the whole store stands; no two places need be apart
abbrev pub NumbersAreStored : Type 0
NumbersAreStored = (μ : World) (s later : Store) (objects : List Object) (p : Spot) (object : ℕ) (d : Datum) (w : Whole) → Stands μ s objects → IsSound μ p → IsAt μ p object →
    define s p d ≡ Gives later → whole_for d ≡ Some w → in_range (number_for w) ≡ true →
    StandsAfter μ later (λ after. stored objects (record { at = Pointer object p.first; access = ToNumber }) (Number (number_for w)) ≡ Ok after)

abbrev pub LabelsAreStored : Type 0
LabelsAreStored = (μ : World) (s later : Store) (objects : List Object) (p : Spot) (object : ℕ) (owner : Bytes) (number : ℕ) → Stands μ s objects → p.first % 4 ≡ 0 → p.width ≡ 4 → IsAt μ p object →
    define_label s p owner number ≡ Gives later → in_range (pos number) ≡ true →
    StandsAfter μ later (λ after. stored objects (record { at = Pointer object p.first; access = ToNumber }) (Number (pos number)) ≡ Ok after)

abbrev pub TextsAreStored : Type 0
TextsAreStored = (μ : World) (s later : Store) (objects : List Object) (p : Spot) (object : ℕ) (cs : Bytes) → Stands μ s objects → IsSound μ p → IsAt μ p object →
    define s p (IsText cs) ≡ Gives later → AreBytes cs → StandsAfter μ later (λ after. text_stored objects (Pointer object p.first) (filled.fitted p.width cs) ≡ Ok after)

-- the expression for a name of a number or a truth value names its place
abbrev pub NumbersAreNamed : Type 0
NumbersAreNamed = (μ : World) (s later : Store) (objects : List Object) (p : Spot) (address : Address) (object : ℕ) (d : Datum) (w : Whole) → Stands μ s objects → IsSound μ p → Reaches μ p address →
    IsAt μ p object → define s p d ≡ Gives later → whole_for d ≡ Some w → IsPlace objects (number_term address) object p.first ToNumber

-- an assignment in C goes on where a place is defined in FORTRAN, or a temporary keeps a value
abbrev pub AssignmentsStand : Type 0
AssignmentsStand = (μ : World) (s later : Store) (function : linking.Function) (view : View) (world : c.World) (p : Spot) (object : ℕ) (target value : Term) (d : Datum) (w : Whole) →
    Stands μ s world.objects → IsSound μ p → IsAt μ p object → IsPlace world.objects target object p.first ToNumber → define s p d ≡ Gives later → whole_for d ≡ Some w → in_range (number_for w) ≡ true →
    Means world.objects value d →
    StandsAfter μ later (λ after. deed function view world (Assign target value) ≡ Goes (record view { position = view.position + 1 }) (record world { objects = after }))

abbrev pub TemporariesAreAssigned : Type 0
TemporariesAreAssigned = (μ : World) (s : Store) (function : linking.Function) (view : View) (world : c.World) (k : ℕ) (old : List (Option ℕ)) (value : Term) (d : Datum) (w : Whole) →
    Stands μ s world.objects → μ.frozen k ≡ Some (objects_of.Bytes old) → 4 ≤ length old → IsHomeless μ k → whole_for d ≡ Some w → in_range (number_for w) ≡ true → Means world.objects value d →
    Keeps μ s world.objects k d (length old)
    (λ after. deed function view world (Assign (Variable k ToNumber) value) ≡ Goes (record view { position = view.position + 1 }) (record world { objects = after }))

-- ## Values

abbrev pub ConstantsAreMeant : Type 0
ConstantsAreMeant = (objects : List Object) (z : ℤ) → in_range z ≡ true → Means objects (constant_term z) (IsInt z)

abbrev pub PrefixesAreMeant : Type 0
PrefixesAreMeant = (objects : List Object) (operator : Prefix) (a d : Datum) (term : Term) → valuing.prefixed operator a ≡ Gives d → Means objects term a →
    Means objects (Prefixed (prefix_for operator) term) d

abbrev pub OperatorsAreMeant : Type 0
OperatorsAreMeant = (objects : List Object) (operator : Operator) (a b d : Datum) (one other : Term) → valuing.operated operator a b ≡ Gives d → Means objects one a → Means objects other b →
    Means objects (Between (operator_for operator) one other) d

-- a left operand that decides leaves the right one without a value
abbrev pub LeftDecidesBoth : Type 0
LeftDecidesBoth = (objects : List Object) (one other : Term) → Means objects one (IsLog false) → Means objects (Between op.And one other) (IsLog false)

abbrev pub LeftDecidesEither : Type 0
LeftDecidesEither = (objects : List Object) (one other : Term) → Means objects one (IsLog true) → Means objects (Between op.Or one other) (IsLog true)

abbrev pub FunctionsAreMeant : Type 0
FunctionsAreMeant = (objects : List Object) (function : fortran.Function) (terms : List Term) (ds : List Datum) (d : Datum) (term : Term) → valuing.applied function ds ≡ Gives d →
    AllMean objects terms ds → function_term function terms ≡ Some term → Means objects term d

abbrev pub LibraryIsMeant : Type 0
LibraryIsMeant = (function : fortran.Function) (builtin : Builtin) (world : c.World) (p q : CValue) (a b : ℤ) (d : Datum) (w : Whole) → valuing.applied function (IsInt a ∷ IsInt b ∷ []) ≡ Gives d →
    library_for function ≡ Some builtin → number_through world.objects p ≡ Ok a → number_through world.objects q ≡ Ok b → whole_for d ≡ Some w →
    library builtin world (p ∷ q ∷ []) ≡ Ok (c.Gives (number_for w) world)

abbrev pub ComplementIsMeant : Type 0
ComplementIsMeant = (world : c.World) (p : CValue) (a : ℤ) (d : Datum) (w : Whole) (builtin : Builtin) → valuing.applied fortran.BitComplement (IsInt a ∷ []) ≡ Gives d →
    library_for fortran.BitComplement ≡ Some builtin → number_through world.objects p ≡ Ok a → whole_for d ≡ Some w → library builtin world (p ∷ []) ≡ Ok (c.Gives (number_for w) world)

-- a relation of texts is that of the number of their comparison to 0, which the library gives
abbrev pub RelationsAreMeant : Type 0
RelationsAreMeant = (objects : List Object) (operator : Operator) (a b : Bytes) (d : Datum) (term : Term) → valuing.on_texts operator a b ≡ Gives d → IsNumber objects term (comparison a b) →
    Means objects (Between (operator_for operator) term (Constant (pos 0))) d

abbrev pub ComparisonIsGiven : Type 0
ComparisonIsGiven = (world : c.World) (p q : CValue) (a b : Bytes) → text_at world.objects p (length a) ≡ Ok a → text_at world.objects q (length b) ≡ Ok b →
    library s_cmp world (p ∷ q ∷ Number (pos (length a)) ∷ Number (pos (length b)) ∷ []) ≡ Ok (c.Gives (comparison a b) world)

-- INDEX and the lexical functions
abbrev pub TextFunctionsAreMeant : Type 0
TextFunctionsAreMeant = (function : fortran.Function) (builtin : Builtin) (world : c.World) (p q : CValue) (a b : Bytes) (d : Datum) (w : Whole) → valuing.applied function (IsText a ∷ IsText b ∷ []) ≡ Gives d →
    library_for function ≡ Some builtin → text_at world.objects p (length a) ≡ Ok a → text_at world.objects q (length b) ≡ Ok b → whole_for d ≡ Some w →
    library builtin world (p ∷ q ∷ Number (pos (length a)) ∷ Number (pos (length b)) ∷ []) ≡ Ok (c.Gives (number_for w) world)

-- ## Elements

-- the expression for the elements before an element has their number, without a fault on the way
abbrev pub SubscriptsAreMeant : Type 0
SubscriptsAreMeant = (objects : List Object) (x : Bytes) (bounds : List Bounds) (ds : List Datum) (steps : List Step) (n : ℕ) → AreSteps objects bounds ds steps →
    valuing.elements_before x 1 bounds ds ≡ Gives n → n < 2147483648 → IsNumber objects (index_term steps) (pos n)

-- an element that FORTRAN finds is a place of the array's object
abbrev pub ElementsAreNamed : Type 0
ElementsAreNamed = (μ : World) (s : Store) (objects : List Object) (p : Spot) (address : Address) (object n : ℕ) (d : Datum) (index : Term) → Stands μ s objects → IsSound μ p →
    access_to p.basic ≡ ToNumber → Reaches μ p address → IsAt μ p object → valuing.further p n ≡ Gives d → IsNumber objects index (pos n) →
    IsPlace objects (element_term address index) object (p.first + n * p.width) ToNumber

-- places that FORTRAN derives from a sound one are sound: an element, a part of an extent, all elements of an array and a substring
abbrev pub ElementsAreSound : Type 0
ElementsAreSound = (μ : World) (p : Spot) (n : ℕ) (d : Datum) → IsSound μ p → valuing.further p n ≡ Gives d → IsSound μ (further_place p n)

abbrev pub ShorterIsSound : Type 0
ShorterIsSound = (μ : World) (p : Spot) (extent : ℕ) → IsSound μ p → extent ≤ p.extent → IsSound μ (record p { extent = extent })

abbrev pub ArraysAreSound : Type 0
ArraysAreSound = (μ : World) (p : Spot) (count : Option ℕ) (q : Spot) → IsSound μ p → valuing.reaching p count ≡ Gives (IsSpot q) → IsSound μ q

abbrev pub SubstringsAreSound : Type 0
SubstringsAreSound = (μ : World) (x : Bytes) (p : Spot) (from to : ℤ) (d : Datum) → IsSound μ p → p.basic ≡ Character → p.width ≤ p.extent → valuing.cut x p from to ≡ Gives d →
    IsSound μ (cut_place p from to)

-- ## Pointers

-- the address of a named place, an array, and a parameter that is passed on
abbrev pub PlacesPoint : Type 0
PlacesPoint = (objects : List Object) (term : Term) (object offset : ℕ) (access : Access) → IsPlace objects term object offset access → Points objects (Prefixed prefix.Address term) object offset access

abbrev pub ArraysPoint : Type 0
ArraysPoint = (objects : List Object) (object : ℕ) (access : Access) → Points objects (Array object access) object 0 access

abbrev pub ParametersArePassedOn : Type 0
ParametersArePassedOn = (μ : World) (s : Store) (objects : List Object) (p : Spot) (parameter object : ℕ) → Stands μ s objects → Reaches μ p (Through parameter) → IsAt μ p object →
    Points objects (Variable parameter (ToPointer (access_to p.basic))) object p.first (access_to p.basic)

-- so many characters behind the first of a text: an element of an array of texts, or a substring
abbrev pub TextPartsPoint : Type 0
TextPartsPoint = (μ : World) (s : Store) (objects : List Object) (p : Spot) (address : Address) (object count : ℕ) (distance : Term) → Stands μ s objects → IsSound μ p → p.basic ≡ Character →
    Reaches μ p address → IsAt μ p object → p.first + count ≤ μ.size p.sequence → IsNumber objects distance (pos count) →
    Points objects (sum_term (text_term address) distance) object (p.first + count) ToChar

-- ## Calls

-- a parameter reaches the place that its argument points to, or holds the number that is passed by value; a temporary is as it was made
abbrev pub ParametersReach : Type 0
ParametersReach = (μ : World) (first i : ℕ) (values : List CValue) (fresh : List Object) (p : Spot) (object : ℕ) → slice_get values i ≡ Some (Pointer object p.first) →
    slice_get fresh i ≡ Some (unset_values (ToPointer (access_to p.basic)) 1) → IsAt μ p object → Reaches (framed first (all_bound values fresh) μ) p (Through (first + i))

abbrev pub ParametersHold : Type 0
ParametersHold = (μ : World) (first i : ℕ) (values : List CValue) (fresh : List Object) (z : ℤ) → slice_get values i ≡ Some (Number z) → slice_get fresh i ≡ Some (unset 4) → in_range z ≡ true →
    Holds ((framed first (all_bound values fresh) μ).frozen (first + i)) (IsInt z)

abbrev pub TemporariesAreNew : Type 0
TemporariesAreNew = (μ : World) (first i : ℕ) (values : List CValue) (fresh : List Object) (object : Object) → length values ≤ i → slice_get fresh i ≡ Some object →
    (framed first (all_bound values fresh) μ).frozen (first + i) ≡ Some object

-- the place of a value that is passed is sound, and stands where its object is
abbrev pub PassedValuesAreSound : Type 0
PassedValuesAreSound = (μ : World) (d : Datum) (q : Sequence) (k : ℕ) → sequence_of d ≡ Some q → HasCharacter d → IsSound (with_sequence μ (Some k) q) (value_place μ d q)

abbrev pub PassedValuesAreThere : Type 0
PassedValuesAreThere = (μ : World) (d : Datum) (q : Sequence) (k : ℕ) → IsAt (with_sequence μ (Some k) q) (value_place μ d q) k

abbrev pub FunctionsBegin : Type 0
FunctionsBegin = (μ : World) (s : Store) (objects : List Object) (function : linking.Function) (values : List CValue) → Stands μ s objects → IsIdle function.frame (length function.fresh) μ →
    function.frame + length function.fresh ≤ length objects → Stands (framed function.frame (all_bound values function.fresh) μ) s (with_frame function values objects)

abbrev pub ResultsStand : Type 0
ResultsStand = (μ : World) (s : Store) (objects : List Object) (k count : ℕ) (bytes : List (Option ℕ)) → Stands μ s objects → μ.frozen k ≡ Some (objects_of.Bytes bytes) → count ≤ length bytes →
    count < 2147483648 → IsHomeless μ k → Stands (with_sequence (with_held μ k None) (Some k) (undefined_units count)) (s ++ undefined_units count ∷ []) objects

abbrev pub ValuesArePassed : Type 0
ValuesArePassed = (μ : World) (s : Store) (objects : List Object) (arguments : List Argument) → Stands μ s objects → AreHeld μ.frozen arguments →
    Stands (with_arguments μ arguments) (passing s (map (λ argument. argument.datum) arguments)).store objects

-- at an answer the store is cut, and stands as before the call
abbrev pub AnswersCut : Type 0
AnswersCut = (μ ν : World) (s : Store) (objects : List Object) → Extends μ ν → Stands ν s objects → Stands μ (take μ.height s) objects

abbrev pub NumbersAreKept : Type 0
NumbersAreKept = (μ : World) (s : Store) (objects : List Object) (k : ℕ) (old : List (Option ℕ)) (d : Datum) (w : Whole) → Stands μ s objects → μ.frozen k ≡ Some (objects_of.Bytes old) → 4 ≤ length old →
    IsHomeless μ k → whole_for d ≡ Some w → in_range (number_for w) ≡ true →
    Keeps μ s objects k d (length old) (λ later. stored objects (record { at = Pointer k 0; access = ToNumber }) (Number (number_for w)) ≡ Ok later)

abbrev pub TextsAreKept : Type 0
TextsAreKept = (μ : World) (s : Store) (objects : List Object) (k : ℕ) (old : List (Option ℕ)) (cs : Bytes) → Stands μ s objects → μ.frozen k ≡ Some (objects_of.Bytes old) → 0 < length cs →
    length cs ≤ length old → length cs < 2147483648 → IsHomeless μ k → AreBytes cs →
    Keeps μ s objects k (IsText cs) (length old) (λ later. text_stored objects (Pointer k 0) cs ≡ Ok later)

-- growth: nothing, one after the other, a frame that was idle, an object that was free, a sequence, and all that a call passes
abbrev pub NothingExtends : Type 0
NothingExtends = (μ : World) → Extends μ μ

abbrev pub GrowthGoesOn : Type 0
GrowthGoesOn = (μ ν ξ : World) → Extends μ ν → Extends ν ξ → Extends μ ξ

abbrev pub FramesExtend : Type 0
FramesExtend = (μ : World) (first : ℕ) (new : List Object) → IsIdle first (length new) μ → Extends μ (framed first new μ)

abbrev pub FreeObjectsExtend : Type 0
FreeObjectsExtend = (μ : World) (k : ℕ) (held : Option Object) → μ.frozen k ≡ None → Extends μ (with_held μ k held)

abbrev pub ArgumentsExtend : Type 0
ArgumentsExtend = (μ : World) (arguments : List Argument) → Extends μ (with_arguments μ arguments)

-- a frame that is idle stays idle beside a sequence, another frame and an object that is held, and was idle before the world grew
abbrev pub IsOutside : ℕ → ℕ → ℕ → Type 0
IsOutside first count object = first ≤ object → object < first + count → ⊥

abbrev pub IdleBesideSequence : Type 0
IdleBesideSequence = (μ : World) (first count object : ℕ) (q : Sequence) → IsIdle first count μ → IsOutside first count object → IsIdle first count (with_sequence μ (Some object) q)

abbrev pub IdleBesideFrame : Type 0
IdleBesideFrame = (μ : World) (first count other : ℕ) (new : List Object) → IsIdle first count μ → ((k : ℕ) → first ≤ k → k < first + count → IsOutside other (length new) k) →
    IsIdle first count (framed other new μ)

abbrev pub IdleBesideObject : Type 0
IdleBesideObject = (μ : World) (first count object : ℕ) (held : Option Object) → IsIdle first count μ → IsOutside first count object → IsIdle first count (with_held μ object held)

abbrev pub IdleBefore : Type 0
IdleBefore = (μ ν : World) (first count : ℕ) → Extends μ ν → IsIdle first count ν → IsIdle first count μ

-- what a function knows stays known while the world grows, and while its temporaries keep values
abbrev pub KnownLater : Type 0
KnownLater = (μ ν : World) (naming : Naming) (facts : Facts) (frame : Frame) (temporaries : ℕ → Option Datum) → Extends μ ν → Knows μ naming facts frame temporaries →
    Knows ν naming facts frame temporaries

abbrev pub KnownKept : Type 0
KnownKept = (μ : World) (naming : Naming) (facts : Facts) (frame : Frame) (temporaries : ℕ → Option Datum) (k : ℕ) (d : Datum) (bytes : List (Option ℕ)) → IsApart naming k → BeginWith d bytes →
    Knows μ naming facts frame temporaries →
    Knows (with_held μ (naming.temporary k) (Some (objects_of.Bytes bytes))) naming facts frame (changed temporaries k (Some d))
