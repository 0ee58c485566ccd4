-- What the EQUIVALENCE statements of a program unit that is read tie are stored names.
use Rattle.std.proofs.Common.{◌≡◌, ℕ, zero, suc, Bool, true, false, List, [], ◌∷◌, ◌++◌, Option, Some, None, refl, sym, ap, ◌∙◌, subst, cond}
use Rattle.std.specs.Prelude.{map, slice_get, bytes_eq}
use Rattle.std.proofs.lemmas.Slice.Eq.{bytes_eq-Decides}
use Rattle.f_tree.specs.declared.names.Class.{Class}
use Rattle.f_tree.specs.declared.names.Class.TheVariants as class
use Rattle.f_tree.specs.declared.names.Options.{Options}
use Rattle.f_tree.specs.declared.units.File.{File}
use Rattle.f_tree.specs.declared.units.Unit.{Unit as WrittenUnit}
use Rattle.f_tree.specs.declared.statements.EquivalenceGroup.{EquivalenceGroup}
use Rattle.f_tree.specs.declared.expressions.BinaryOp.{BinaryOp}
use Rattle.f_tree.specs.declared.expressions.BinaryOp.TheVariants as op
use Rattle.f_tree.specs.declared.expressions.Expr.{Expr, Int, Logical, Text, Name, Apply', Part', Minus', Plus', Not', Paren', Binary', AltReturn, Bind', Bound, more_of-Expr}
use Rattle.f_tree.specs.Folds.{fold_expr}
use Rattle.f_tree.specs.Values.{Bytes, Spot, Datum, IsInt, IsLog, IsText, IsSpot, IsProc, IsLabel, Nothing, Checked, Gives, Fails, given_that}
use Rattle.f_tree.specs.Terms.{Function, Term, Terms, At, Part, Element, Val}
use Rattle.f_tree.specs.Facts.{Member, Attribute, Tied, Tie, Bounds, ProgramUnit, Facts}
use Rattle.f_tree.specs.Setting.{IsIn, first_in, later_in, IsMember, here, there, IsNamed}
use Rattle.f_tree.specs.Valuing.{Red, Valued, Bad, Asks, then_by, at_once, named_as, if_bound, if_there, whole, element_at, element, part, reduce, reduce_all}
use Rattle.f_tree.specs.Reading.{Read, valued_only, placed, name_read, applied_read, function_read, intrinsic_read, expanded_read, function_named, joined_read, binary_read, layer_read, read}
use Rattle.f_tree.specs.Attributes.{Described, attribute_in, bare, no_frame, all_described}
use Rattle.f_tree.specs.Lines.{Naming, stored_among, is_stored, size_of, place_of, tied_at, tied_of, tieds_of, ties_among, ties_of, apart, unit_read, with_ties, program_of}
use Rattle.f_tree.specs.Meaning.{units_in, units_of}
use Rattle.f_tree.specs.Runs.{EachFileSetHasOneSetting}
use Rattle.fortran_laws.proofs.OneSetting.{one_setting}
use Rattle.fortran_laws.proofs.OneSettingNames.{by_stored, distinct_stored}

-- a name whose class is that of what is stored is stored
member_if : (x : Bytes) (m : Member) (ms : List Member) (b : Bool) → IsMember x ms → IsMember x (cond b (m ∷ ms) ms)
member_if x m ms true i = there i
member_if x m ms false i = i

own_member : (x y : Bytes) (n : ℕ) (ms : List Member) (b : Bool) → b ≡ true → y ≡ x → IsMember x (cond b (record { name = y; size = n } ∷ ms) ms)
own_member x y n ms true t e = subst (λ z. IsMember z (record { name = y; size = n } ∷ ms)) e here
own_member x y n ms false t e = absurd (cc)

stored_if : (x y : Bytes) (a rest : Attribute) (ms : List Member) (b : Bool) → bytes_eq y x ≡ b → (rest.class ≡ class.Stored → IsMember x ms) →
    (cond b a rest).class ≡ class.Stored → IsMember x (cond (is_stored a) (record { name = y; size = size_of a } ∷ ms) ms)
stored_if x y a rest ms true e later c = own_member x y (size_of a) ms (is_stored a) (by_stored a a.class c) ((bytes_eq-Decides y x).0 e)
stored_if x y a rest ms false e later c = member_if x (record { name = y; size = size_of a }) ms (is_stored a) (later c)

class_is_stored : (ds : List Described) (x : Bytes) → (attribute_in ds x).class ≡ class.Stored → IsMember x (stored_among ds)
unfolding attribute_in stored_among bare
class_is_stored [] x e = absurd (cc)
class_is_stored (d ∷ ds) x e = stored_if x d.name d.attribute (attribute_in ds x) (stored_among ds) (bytes_eq d.name x) refl (class_is_stored ds x) e

-- an answer that is given is one that came before it
record Before {A B S T : Type 0} (r : Red A S) (go : A → Red B T) (b : B) : Type 0 where
  value : A
  is_value : r ≡ Valued value
  goes_on : go value ≡ Valued b

before : {A B S T : Type 0} (r : Red A S) (back : S → T) (go : A → Red B T) (b : B) → then_by r back go ≡ Valued b → Before r go b
unfolding then_by
before (Valued a) back go b e = record { value = a; is_value = refl; goes_on = e }
before (Bad act) back go b e = absurd (cc)
before (Asks c ds rest) back go b e = absurd (cc)

given_at_once : {A T : Type 0} (r : Checked A) (a : A) → (let z : Red A T = at_once r in z) ≡ Valued a → r ≡ Gives a
unfolding at_once
given_at_once (Gives b) a e = let q : b ≡ a = cc in ap Gives q
given_at_once (Fails act) a e = absurd (cc)

record Given {A B : Type 0} (r : Checked A) (go : A → Checked B) (b : B) : Type 0 where
  value : A
  is_value : r ≡ Gives value
  goes_on : go value ≡ Gives b

given_before : {A B : Type 0} (r : Checked A) (go : A → Checked B) (b : B) → given_that r go ≡ Gives b → Given r go b
unfolding given_that
given_before (Gives a) go b e = record { value = a; is_value = refl; goes_on = e }
given_before (Fails act) go b e = absurd (cc)

-- outside of a call a name that stands for a place is stored
named_spot : (c : Facts) (x : Bytes) (a : Attribute) (k : Class) (p : Spot) → named_as c no_frame x (record a { class = k }) ≡ Gives (IsSpot p) → k ≡ class.Stored
unfolding named_as no_frame if_bound if_there
named_spot c x a class.Stored p e = refl
named_spot c x a class.Constant p e = absurd (cc)
named_spot c x a class.Dummy p e = absurd (cc)
named_spot c x a class.Result p e = absurd (cc)
named_spot c x a class.Procedure p e = absurd (cc)
named_spot c x a class.DummyProcedure p e = absurd (cc)
named_spot c x a class.StatementFunction p e = absurd (cc)
named_spot c x a class.Intrinsic p e = absurd (cc)
named_spot c x a class.Unit p e = absurd (cc)

whole_spot : (c : Facts) (x : Bytes) (p : Spot) → whole c no_frame x ≡ Gives (IsSpot p) → (c.program.attribute x).class ≡ class.Stored
unfolding whole
whole_spot c x p e = named_spot c x (c.program.attribute x) (c.program.attribute x).class p e

-- what has an element or a part is a place
record IsPlace (d : Datum) : Type 0 where
  spot : Spot
  is_spot : d ≡ IsSpot spot

element_of_spot : (x : Bytes) (bs : List Bounds) (ds : List Datum) (d e : Datum) → element_at x bs ds d ≡ Gives e → IsPlace d
unfolding element_at
element_of_spot x bs ds (IsSpot p) e h = record { spot = p; is_spot = refl }
element_of_spot x bs ds (IsInt z) e h = absurd (cc)
element_of_spot x bs ds (IsLog b) e h = absurd (cc)
element_of_spot x bs ds (IsText cs) e h = absurd (cc)
element_of_spot x bs ds (IsProc y) e h = absurd (cc)
element_of_spot x bs ds (IsLabel l) e h = absurd (cc)
element_of_spot x bs ds Nothing e h = absurd (cc)

part_of_spot : (x : Bytes) (d a b e : Datum) → part x d a b ≡ Gives e → IsPlace d
unfolding part
part_of_spot x (IsSpot p) a b e h = record { spot = p; is_spot = refl }
part_of_spot x (IsInt z) a b e h = absurd (cc)
part_of_spot x (IsLog z) a b e h = absurd (cc)
part_of_spot x (IsText cs) a b e h = absurd (cc)
part_of_spot x (IsProc y) a b e h = absurd (cc)
part_of_spot x (IsLabel l) a b e h = absurd (cc)
part_of_spot x Nothing a b e h = absurd (cc)

-- a term that comes to a place is one of this stored name
record StoredBy (c : Facts) (x : Bytes) (t : Term) : Type 0 where
  holds : (p : Spot) → reduce c no_frame [] [] t ≡ Valued (IsSpot p) → (c.program.attribute x).class ≡ class.Stored

element_stored : (c : Facts) (x : Bytes) (ts : Terms) → StoredBy c x (Element x ts)
unfolding reduce element
element_stored c x ts = record {
  holds = λ p e.
      let a = before (reduce_all c no_frame [] [] ts) (Element x) (λ ds. at_once (element c no_frame x ds)) (IsSpot p) e in
      let b = given_at_once (element c no_frame x a.value) (IsSpot p) a.goes_on in
      let d = given_before (whole c no_frame x) (element_at x _ a.value) (IsSpot p) b in
      let q = element_of_spot x _ a.value d.value (IsSpot p) d.goes_on in
      whole_spot c x q.spot (d.is_value ∙ ap Gives q.is_spot);
}

at_stored : (c : Facts) (x : Bytes) → StoredBy c x (At x)
unfolding reduce
at_stored c x = record { holds = λ p e. whole_spot c x p (given_at_once (whole c no_frame x) (IsSpot p) e) }

at_spot : (r : Red Datum Term) (d : Datum) (p : Spot) → r ≡ Valued d → d ≡ IsSpot p → r ≡ Valued (IsSpot p)
at_spot r d p e f = cc

part_stored : (c : Facts) (x y : Bytes) (t from to : Term) → StoredBy c x t → StoredBy c x (Part y t from to)
unfolding reduce
part_stored c x y t from to s = record {
  holds = λ p e.
      let a = before (reduce c no_frame [] [] t) (λ r. Part y r from to) (λ d.
      then_by (reduce c no_frame [] [] from) (λ r. Part y (Val d) r to) (λ f.
      then_by (reduce c no_frame [] [] to) (Part y (Val d) (Val f)) (λ b. at_once (part y d f b)))) (IsSpot p) e in
      let b = before (reduce c no_frame [] [] from) (λ r. Part y (Val a.value) r to) (λ f.
      then_by (reduce c no_frame [] [] to) (Part y (Val a.value) (Val f)) (λ b. at_once (part y a.value f b))) (IsSpot p) a.goes_on in
      let d = before (reduce c no_frame [] [] to) (Part y (Val a.value) (Val b.value)) (λ g. at_once (part y a.value b.value g)) (IsSpot p) b.goes_on in
      let q = part_of_spot y a.value b.value d.value (IsSpot p) (given_at_once (part y a.value b.value d.value) (IsSpot p) d.goes_on) in
      s.holds q.spot (at_spot (reduce c no_frame [] [] t) a.value q.spot a.is_value q.is_spot);
}

-- an expression that is a place is one of the stored name that is its base
record Based (c : Facts) (r : Read) : Type 0 where
  holds : (x : Bytes) → r.base ≡ Some x → StoredBy c x r.actual

no_base : (c : Facts) (r : Read) → r.base ≡ None → Based c r
no_base c r e = record { holds = λ x f. absurd (let q : None ≡ Some x = sym e ∙ f in cc) }

one_base : (c : Facts) (r : Read) (x : Bytes) → r.base ≡ Some x → StoredBy c x r.actual → Based c r
one_base c r x e s = record { holds = λ y f. subst (λ z. StoredBy c z r.actual) (let q : Some x ≡ Some y = sym e ∙ f in let w : x ≡ y = cc in w) s }

name_based : (c : Facts) (x : Bytes) (a : Attribute) (k : Class) (o : Option Datum) (t : Option Term) → Based c (name_read x (record a { class = k; constant = o; expansion = t }))
unfolding name_read valued_only placed
name_based c x a class.Constant None t = no_base c _ refl
name_based c x a class.Constant (Some d) t = no_base c _ refl
name_based c x a class.Procedure o t = no_base c _ refl
name_based c x a class.DummyProcedure o t = no_base c _ refl
name_based c x a class.Intrinsic o t = no_base c _ refl
name_based c x a class.StatementFunction o None = no_base c _ refl
name_based c x a class.StatementFunction o (Some t) = no_base c _ refl
name_based c x a class.Stored o t = one_base c _ x refl (at_stored c x)
name_based c x a class.Dummy o t = one_base c _ x refl (at_stored c x)
name_based c x a class.Result o t = one_base c _ x refl (at_stored c x)
name_based c x a class.Unit o t = one_base c _ x refl (at_stored c x)

intrinsic_base : (x : Bytes) (a : Attribute) (rs : List Read) (f : Option Function) → (intrinsic_read x a rs f).base ≡ None
unfolding intrinsic_read function_read valued_only
intrinsic_base x a rs None = refl
intrinsic_base x a rs (Some f) = refl

expanded_base : (x : Bytes) (a : Attribute) (rs : List Read) (t : Option Term) → (expanded_read x a rs t).base ≡ None
unfolding expanded_read function_read valued_only
expanded_base x a rs None = refl
expanded_base x a rs (Some t) = refl

function_base : (x : Bytes) (a : Attribute) (rs : List Read) → (function_read x a rs).base ≡ None
unfolding function_read valued_only
function_base x a rs = refl

applied_based : (c : Facts) (x : Bytes) (a : Attribute) (k : Class) (rs : List Read) → Based c (applied_read x (record a { class = k }) rs)
unfolding applied_read placed
applied_based c x a class.Intrinsic rs = no_base c _ (intrinsic_base x (record a { class = class.Intrinsic }) rs (function_named x))
applied_based c x a class.StatementFunction rs = no_base c _ (expanded_base x (record a { class = class.StatementFunction }) rs a.expansion)
applied_based c x a class.Procedure rs = no_base c _ (function_base x (record a { class = class.Procedure }) rs)
applied_based c x a class.DummyProcedure rs = no_base c _ (function_base x (record a { class = class.DummyProcedure }) rs)
applied_based c x a class.Result rs = no_base c _ (function_base x (record a { class = class.Result }) rs)
applied_based c x a class.Constant rs = one_base c _ x refl (element_stored c x _)
applied_based c x a class.Stored rs = one_base c _ x refl (element_stored c x _)
applied_based c x a class.Dummy rs = one_base c _ x refl (element_stored c x _)
applied_based c x a class.Unit rs = one_base c _ x refl (element_stored c x _)

binary_base : (o : BinaryOp) (a b : Read) → (binary_read o a b).base ≡ None
unfolding binary_read valued_only joined_read
binary_base op.Power a b = refl
binary_base op.Times a b = refl
binary_base op.Divide a b = refl
binary_base op.Plus a b = refl
binary_base op.Minus a b = refl
binary_base op.Concatenate a b = refl
binary_base op.Less a b = refl
binary_base op.LessOrEqual a b = refl
binary_base op.Equal a b = refl
binary_base op.NotEqual a b = refl
binary_base op.Greater a b = refl
binary_base op.GreaterOrEqual a b = refl
binary_base op.And a b = refl
binary_base op.Or a b = refl
binary_base op.Equivalent a b = refl
binary_base op.NotEquivalent a b = refl

part_based : (c : Facts) (r : Read) (y : Bytes) (from to : Term) → Based c r → Based c (record (placed (Part y r.actual from to)) { base = r.base })
unfolding placed
part_based c r y from to b = record { holds = λ x e. part_stored c x y r.actual from to (b.holds x e) }

based : (c : Facts) (e : Expr) → Based c (read c.program.attribute e)
unfolding read fold_expr layer_read valued_only
based c (Int z) = no_base c _ refl
based c (Logical b) = no_base c _ refl
based c (Text cs) = no_base c _ refl
based c (Name x) = name_based c x (c.program.attribute x) (c.program.attribute x).class (c.program.attribute x).constant (c.program.attribute x).expansion
based c (Apply' x s row) = applied_based c x (c.program.attribute x) (c.program.attribute x).class _
based c (Part' s (more_of-Expr e r) from to) = part_based c (read c.program.attribute e) _ _ _ (based c e)
based c (Minus' s (more_of-Expr e r)) = no_base c _ refl
based c (Plus' s (more_of-Expr e r)) = no_base c _ refl
based c (Not' s (more_of-Expr e r)) = no_base c _ refl
based c (Paren' s (more_of-Expr e r)) = no_base c _ refl
based c (Binary' o s (more_of-Expr a r) t (more_of-Expr b q)) = no_base c _ (binary_base o _ _)
based c (AltReturn l) = no_base c _ refl
based c (Bind' s row t (more_of-Expr e q)) = no_base c _ refl
based c (Bound k) = no_base c _ refl

-- what holds of the elements of two lists, and of what each element gives, holds of those of the whole
all_in : {A : Type 0} (P : A → Type 0) (as' bs : List A) → ((a : A) → IsIn a as' → P a) → ((a : A) → IsIn a bs → P a) → (a : A) → IsIn a (as' ++ bs) → P a
all_in P [] bs h k a i = k a i
all_in P (b ∷ as') bs h k a first_in = h b first_in
all_in P (b ∷ as') bs h k a (later_in i) = all_in P as' bs (λ c j. h c (later_in j)) k a i

all_mapped : {A B : Type 0} (P : B → Type 0) (f : A → B) (as' : List A) → ((a : A) → IsIn a as' → P (f a)) → (b : B) → IsIn b (map f as') → P b
all_mapped P f [] h b i = elim i [ ]
all_mapped P f (a ∷ as') h b first_in = h a first_in
all_mapped P f (a ∷ as') h b (later_in i) = all_mapped P f as' (λ c j. h c (later_in j)) b i

-- what is tied is of the class of what is stored
record StoredName (names : Naming) (t : Tied) : Type 0 where
  is_stored_class : (names t.name).class ≡ class.Stored

record StoredNames (names : Naming) (t : Tie) : Type 0 where
  one_stored : StoredName names t.one
  other_stored : StoredName names t.other

tied_stored : (names : Naming) (o : Option Bytes) (r : Red Datum Term) → ((x : Bytes) (p : Spot) → o ≡ Some x → r ≡ Valued (IsSpot p) → (names x).class ≡ class.Stored) →
    (t : Tied) → IsIn t (tied_at o r) → StoredName names t
unfolding tied_at
tied_stored names (Some x) (Valued (IsSpot p)) h t first_in = record { is_stored_class = h x p refl refl }
tied_stored names (Some x) (Valued (IsSpot p)) h t (later_in i) = elim i [ ]
tied_stored names (Some x) (Valued (IsInt z)) h t i = elim i [ ]
tied_stored names (Some x) (Valued (IsLog z)) h t i = elim i [ ]
tied_stored names (Some x) (Valued (IsText z)) h t i = elim i [ ]
tied_stored names (Some x) (Valued (IsProc z)) h t i = elim i [ ]
tied_stored names (Some x) (Valued (IsLabel z)) h t i = elim i [ ]
tied_stored names (Some x) (Valued Nothing) h t i = elim i [ ]
tied_stored names (Some x) (Bad act) h t i = elim i [ ]
tied_stored names (Some x) (Asks callee ds rest) h t i = elim i [ ]
tied_stored names None r h t i = elim i [ ]

place_tied : (c : Facts) (e : Expr) (t : Tied) → IsIn t (tied_of c c.program.attribute e) → StoredName c.program.attribute t
unfolding tied_of place_of
place_tied c e t i = tied_stored c.program.attribute (read c.program.attribute e).base (reduce c no_frame [] [] (read c.program.attribute e).actual)
    (λ x p f g. ((based c e).holds x f).holds p g) t i

places_tied : (c : Facts) (es : List Expr) (t : Tied) → IsIn t (tieds_of c c.program.attribute es) → StoredName c.program.attribute t
unfolding tieds_of
places_tied c [] t i = elim i [ ]
places_tied c (e ∷ es) t i = all_in (StoredName c.program.attribute) (tied_of c c.program.attribute e) (tieds_of c c.program.attribute es) (place_tied c e) (places_tied c es) t i

among_stored : (names : Naming) (ts : List Tied) → ((t : Tied) → IsIn t ts → StoredName names t) → (t : Tie) → IsIn t (ties_among ts) → StoredNames names t
unfolding ties_among
among_stored names [] h t i = elim i [ ]
among_stored names (one ∷ others) h t i = all_mapped (StoredNames names) (λ other. let z : Tie = record { one = one; other = other } in z) others
    (λ other j. record { one_stored = h one first_in; other_stored = h other (later_in j) }) t i

groups_stored : (c : Facts) (gs : List EquivalenceGroup) (t : Tie) → IsIn t (ties_of c c.program.attribute gs) → StoredNames c.program.attribute t
unfolding ties_of
groups_stored c [] t i = elim i [ ]
groups_stored c (g ∷ gs) t i = all_in (StoredNames c.program.attribute) (ties_among (tieds_of c c.program.attribute g.places)) (ties_of c c.program.attribute gs)
    (among_stored c.program.attribute (tieds_of c c.program.attribute g.places) (places_tied c g.places)) (groups_stored c gs) t i

both_members : (ds : List Described) (t : Tie) → StoredNames (attribute_in ds) t → IsMember t.one.name (stored_among ds) × IsMember t.other.name (stored_among ds)
both_members ds t s = (class_is_stored ds t.one.name s.one_stored.is_stored_class, class_is_stored ds t.other.name s.other_stored.is_stored_class)

ties_stored : (options : Options) (u : WrittenUnit) (t : Tie) → IsIn t (unit_read options u).ties →
    IsMember t.one.name (unit_read options u).stored × IsMember t.other.name (unit_read options u).stored
unfolding unit_read with_ties program_of apart
ties_stored options u t i = both_members (all_described u) t (groups_stored (apart (program_of options u (all_described u))) _ t i)

-- a unit that is read names its stored names once each, and ties them alone
pub unit_named : (options : Options) (u : WrittenUnit) → IsNamed (unit_read options u)
unit_named options u = record { distinct = distinct_stored options u; tied = ties_stored options u }

at_is_in : {A : Type 0} (as' : List A) (k : ℕ) (a : A) → slice_get as' k ≡ Some a → IsIn a as'
at_is_in [] k a e = absurd (cc)
at_is_in (b ∷ as') zero a e = subst (λ z. IsIn z (b ∷ as')) (let q : b ≡ a = cc in q) first_in
at_is_in (b ∷ as') (suc k) a e = later_in (at_is_in as' k a e)

units_named : (options : Options) (fs : List File) (u : ProgramUnit) → IsIn u (units_in options fs) → IsNamed u
unfolding units_in
units_named options [] u i = elim i [ ]
units_named options (f ∷ fs) u i = all_in IsNamed (map (unit_read options) f.units) (units_in options fs)
    (all_mapped IsNamed (unit_read options) f.units (λ v j. unit_named options v)) (units_named options fs) u i

-- two settings of the units of files are one
pub one_setting_of_files : EachFileSetHasOneSetting
unfolding units_of
one_setting_of_files options set g h ig ih =
    one_setting (units_of options set) (λ k u hu. units_named options set.files u (at_is_in (units_of options set) k u hu)) g h ig ih
