-- The numbers that are emitted have 32 bits.
use Rattle.std.specs.Prelude.{◌≡◌, ℕ, zero, suc, ◌<◌, ◌≤◌, ℤ, pos, negsuc, ◌+ℤ◌, ◌-ℤ◌, ◌*ℤ◌, nat_abs, unsigned_abs, int_lt, int_div, int_rem, Bool, true, false, ◌&&◌, List, [], ◌∷◌, take, drop, Option, Some, None, slice_get, if◌then◌else◌}
use Rattle.std.specs.Ordering.{int_eq}
use Rattle.std.proofs.Common.{refl, sym, ap, ◌∙◌, subst, arith}
use Rattle.std.proofs.lemmas.Bool.{le-leb, leb-true}
use Rattle.std.proofs.lemmas.Int.{rem_below}
use Rattle.c_emit.specs.f_tree.declared.names.Basic.{Basic}
use Rattle.c_emit.specs.f_tree.declared.names.Basic.TheVariants as basic
use Rattle.c_emit.specs.f_tree.Values.{Bytes, Spot, Datum, IsInt, IsLog, IsText, IsSpot, Checked, Gives, Fails, ZeroDivide, in_range, checked, given_that}
use Rattle.c_emit.specs.f_tree.Values as fortran
use Rattle.c_emit.specs.f_tree.Terms.{Prefix, Operator, Function}
use Rattle.c_emit.specs.f_tree.Terms as operation
use Rattle.c_emit.specs.f_tree.Store.{Store, Whole, Number, Truth, Label, Cell, Part, same_whole, fetch, fetch_as, value_of_type, whole_of, whole_at}
use Rattle.c_emit.specs.f_tree.Valuing.{prefixed, operated, on_integers, on_logicals, on_texts, divided, applied, extreme, int_max, int_min, remainder_of}
use Rattle.c_emit.specs.c_tree.Access.{ToNumber}
use Rattle.c_emit.specs.c_tree.Terms.{Term}
use Rattle.c_emit.specs.faithful.StorageImage.{number_for}
use Rattle.c_emit.specs.c_image.World.{World}
use Rattle.c_emit.specs.c_image.Standing.{Stands}
use Rattle.c_emit.specs.c_tree.Objects.{Object}
use Rattle.c_emit.specs.c_image.Held.{whole_for}
use Rattle.c_emit.specs.c_image.Addresses.{access_to}
use Rattle.c_emit.specs.c_image.Operations.{function_term}
use Rattle.c_image_laws.proofs.FetchedPlaces.{is_fetched}
use Rattle.c_image_laws.proofs.OperatorValues.{is_checked, same_range}

-- a number within 32 bits; any other value
abbrev pub FitsUnit : Datum → Type 0
FitsUnit (IsInt z) = in_range z ≡ true
FitsUnit other = Unit {0}

truth_in_range : (b : Bool) → in_range (number_for (Truth b)) ≡ true
unfolding in_range
truth_in_range true = refl
truth_in_range false = refl

pub fits_whole : (d : Datum) (v : Whole) → FitsUnit d → whole_for d ≡ Some v → in_range (number_for v) ≡ true
fits_whole (IsInt z) v fits is = let same : Number z ≡ v = (let h = is in cc) in subst (λ w. in_range (number_for w) ≡ true) same fits
fits_whole (IsLog b) v fits is =
    let same : Truth b ≡ v = (let h = is in cc) in subst (λ w. in_range (number_for w) ≡ true) same (truth_in_range b)
fits_whole (IsText cs) v fits is = absurd (cc)
fits_whole (IsSpot p) v fits is = absurd (cc)
fits_whole (fortran.IsProc x) v fits is = absurd (cc)
fits_whole (fortran.IsLabel l) v fits is = absurd (cc)
fits_whole fortran.Nothing v fits is = absurd (cc)

checked_fits : (z : ℤ) (d : Datum) → checked z ≡ Gives d → FitsUnit d
checked_fits z d h = let found = is_checked z d h in subst FitsUnit (sym found.is) (same_range z ∙ found.fits)

truth_fits : (b : Bool) (d : Datum) → Gives (IsLog b) ≡ Gives d → FitsUnit d
truth_fits b d h = let same : IsLog b ≡ d = (let e = h in cc) in subst FitsUnit same tt

-- ## Operators

pub prefixed_fits : (op : Prefix) (a d : Datum) → prefixed op a ≡ Gives d → FitsUnit d
unfolding prefixed
prefixed_fits operation.Negate (IsInt z) d h = checked_fits _ d h
prefixed_fits operation.Complement (IsLog b) d h = truth_fits _ d h
prefixed_fits _ _ d h = absurd (cc)

divided_fits : (test : Bool) (a b : ℤ) (d : Datum) → (if test then Fails ZeroDivide else checked (int_div a b)) ≡ Gives d → FitsUnit d
divided_fits true a b d h = absurd (cc)
divided_fits false a b d h = checked_fits (int_div a b) d h

integers_fit : (op : Operator) (a b : ℤ) (d : Datum) → on_integers op a b ≡ Gives d → FitsUnit d
unfolding on_integers divided
integers_fit operation.Add a b d h = checked_fits (a +ℤ b) d h
integers_fit operation.Subtract a b d h = checked_fits (a -ℤ b) d h
integers_fit operation.Multiply a b d h = checked_fits (a *ℤ b) d h
integers_fit operation.Divide a b d h = divided_fits (int_eq b (pos 0)) a b d h
integers_fit operation.IsLess a b d h = truth_fits _ d h
integers_fit operation.IsLessOrEqual a b d h = truth_fits _ d h
integers_fit operation.IsEqual a b d h = truth_fits _ d h
integers_fit operation.IsNotEqual a b d h = truth_fits _ d h
integers_fit operation.IsGreater a b d h = truth_fits _ d h
integers_fit operation.IsGreaterOrEqual a b d h = truth_fits _ d h
integers_fit operation.Both a b d h = absurd (cc)
integers_fit operation.Either a b d h = absurd (cc)
integers_fit operation.Same a b d h = absurd (cc)
integers_fit operation.Different a b d h = absurd (cc)

logicals_fit : (op : Operator) (a b : Bool) (d : Datum) → on_logicals op a b ≡ Gives d → FitsUnit d
unfolding on_logicals
logicals_fit operation.Add a b d h = absurd (cc)
logicals_fit operation.Subtract a b d h = absurd (cc)
logicals_fit operation.Multiply a b d h = absurd (cc)
logicals_fit operation.Divide a b d h = absurd (cc)
logicals_fit operation.IsLess a b d h = absurd (cc)
logicals_fit operation.IsLessOrEqual a b d h = absurd (cc)
logicals_fit operation.IsEqual a b d h = absurd (cc)
logicals_fit operation.IsNotEqual a b d h = absurd (cc)
logicals_fit operation.IsGreater a b d h = absurd (cc)
logicals_fit operation.IsGreaterOrEqual a b d h = absurd (cc)
logicals_fit operation.Both a b d h = truth_fits _ d h
logicals_fit operation.Either a b d h = truth_fits _ d h
logicals_fit operation.Same a b d h = truth_fits _ d h
logicals_fit operation.Different a b d h = truth_fits _ d h

texts_fit : (op : Operator) (a b : Bytes) (d : Datum) → on_texts op a b ≡ Gives d → FitsUnit d
unfolding on_texts
texts_fit operation.Add a b d h = absurd (cc)
texts_fit operation.Subtract a b d h = absurd (cc)
texts_fit operation.Multiply a b d h = absurd (cc)
texts_fit operation.Divide a b d h = absurd (cc)
texts_fit operation.IsLess a b d h = truth_fits _ d h
texts_fit operation.IsLessOrEqual a b d h = truth_fits _ d h
texts_fit operation.IsEqual a b d h = truth_fits _ d h
texts_fit operation.IsNotEqual a b d h = truth_fits _ d h
texts_fit operation.IsGreater a b d h = truth_fits _ d h
texts_fit operation.IsGreaterOrEqual a b d h = truth_fits _ d h
texts_fit operation.Both a b d h = absurd (cc)
texts_fit operation.Either a b d h = absurd (cc)
texts_fit operation.Same a b d h = absurd (cc)
texts_fit operation.Different a b d h = absurd (cc)

pub operated_fits : (op : Operator) (a b d : Datum) → operated op a b ≡ Gives d → FitsUnit d
unfolding operated
operated_fits op (IsInt a) (IsInt b) d h = integers_fit op a b d h
operated_fits op (IsLog a) (IsLog b) d h = logicals_fit op a b d h
operated_fits op (IsText a) (IsText b) d h = texts_fit op a b d h
operated_fits op _ _ d h = absurd (cc)

-- ## Functions

abbrev pub AllFit : List Datum → Type 0
AllFit [] = Unit {0}
AllFit (d ∷ ds) = FitsUnit d × AllFit ds

within_both : (z : ℤ) → in_range z ≡ true → unsigned_abs z ≤ 2147483648
unfolding in_range
within_both (pos n) fits = let h = leb-true n 2147483647 fits in omega (arith, h)
within_both (negsuc n) fits = let h = leb-true n 2147483647 (left_of_both _ _ fits) in omega (arith, h)
  where
    left_of_both : (a b : Bool) → (a && b) ≡ true → a ≡ true
    left_of_both true b h = refl
    left_of_both false b h = absurd (cc)

small_fits : (z : ℤ) → unsigned_abs z < 2147483648 → in_range z ≡ true
unfolding in_range
small_fits (pos n) h = le-leb n 2147483647 (omega (arith, h))
small_fits (negsuc n) h = ap (λ b. b && true) (le-leb n 2147483647 (omega (arith, h)))

some_magnitude : (b : ℤ) → int_eq b (pos 0) ≡ false → 0 < unsigned_abs b
some_magnitude (pos zero) h = absurd (cc)
some_magnitude (pos (suc n)) h = omega arith
some_magnitude (negsuc n) h = omega arith

remainder_fits : (test : Bool) (a b : ℤ) (d : Datum) (whole : Checked Datum) → int_eq b (pos 0) ≡ test → in_range b ≡ true
    → (if test then Fails ZeroDivide else given_that whole (λ q. Gives (IsInt (int_rem a b)))) ≡ Gives d → FitsUnit d
unfolding given_that
remainder_fits true a b d whole is fits h = absurd (cc)
remainder_fits false a b d (Gives q) is fits h =
    let same : IsInt (int_rem a b) ≡ d = (let e = h in cc) in
    let below = rem_below a b (some_magnitude b is) in
    let most = within_both b fits in
    subst FitsUnit same (small_fits (int_rem a b) (omega (arith, below, most)))
remainder_fits false a b d (Fails act) is fits h = absurd (cc)

extreme_fits : (pick : ℤ → ℤ → ℤ) → ((a b : ℤ) → in_range a ≡ true → in_range b ≡ true → in_range (pick a b) ≡ true) → (best : ℤ) (ds : List Datum) (d : Datum) → in_range best ≡ true → AllFit ds
    → extreme pick best ds ≡ Gives d → FitsUnit d
unfolding extreme
extreme_fits pick keeps best [] d fits all h = let same : IsInt best ≡ d = (let e = h in cc) in subst FitsUnit same fits
extreme_fits pick keeps best (IsInt z ∷ ds) d fits all h = extreme_fits pick keeps (pick best z) ds d (keeps best z fits all.0) all.1 h
extreme_fits pick keeps best (_ ∷ ds) d fits all h = absurd (cc)

either_fits : (test : Bool) (a b : ℤ) → in_range a ≡ true → in_range b ≡ true → in_range (if test then a else b) ≡ true
either_fits true a b one other = one
either_fits false a b one other = other

greatest_fits : (a b : ℤ) → in_range a ≡ true → in_range b ≡ true → in_range (int_max a b) ≡ true
unfolding int_max
greatest_fits a b one other = either_fits (int_lt a b) b a other one

least_fits : (a b : ℤ) → in_range a ≡ true → in_range b ≡ true → in_range (int_min a b) ≡ true
unfolding int_min
least_fits a b one other = either_fits (int_lt b a) b a other one

pub applied_fits : (f : Function) (terms : List Term) (ds : List Datum) (d : Datum) (term : Term) → function_term f terms ≡ Some term → AllFit ds → applied f ds ≡ Gives d → FitsUnit d
unfolding applied remainder_of
applied_fits operation.Truncation terms (IsInt a ∷ []) d term is all h = let same : IsInt a ≡ d = (let e = h in cc) in subst FitsUnit same all.0
applied_fits operation.Magnitude terms (IsInt a ∷ []) d term is all h = checked_fits (pos (nat_abs a)) d h
applied_fits operation.Remainder terms (IsInt a ∷ IsInt b ∷ []) d term is all h = remainder_fits (int_eq b (pos 0)) a b d (checked (int_div a b)) refl all.1.0 h
applied_fits operation.Largest terms (IsInt a ∷ ds) d term is all h = extreme_fits int_max greatest_fits a ds d all.0 all.1 h
applied_fits operation.Smallest terms (IsInt a ∷ ds) d term is all h = extreme_fits int_min least_fits a ds d all.0 all.1 h
applied_fits _ terms ds d term is all h = absurd (cc)

-- ## Fetches

record IsFirst (l : List Cell) (w : Whole) : Type 0 where
  later : List Cell
  is : l ≡ Part w 0 ∷ later

first_by : (a x y z w : Whole) (rest : List Cell) (test : Bool) → (if test then Some a else None) ≡ Some w → IsFirst (Part a 0 ∷ Part x 1 ∷ Part y 2 ∷ Part z 3 ∷ rest) w
first_by a x y z w rest true h = let same : a ≡ w = (let e = h in cc) in record { later = Part x 1 ∷ Part y 2 ∷ Part z 3 ∷ rest; is = ap (λ v. Part v 0 ∷ Part x 1 ∷ Part y 2 ∷ Part z 3 ∷ rest) same }
first_by a x y z w rest false h = absurd (cc)

first_part : (l : List Cell) (w : Whole) → whole_of (take 4 l) ≡ Some w → IsFirst l w
unfolding whole_of
first_part (Part a zero ∷ Part x (suc zero) ∷ Part y (suc (suc zero)) ∷ Part z (suc (suc (suc zero))) ∷ rest) w is =
    first_by a x y z w rest (same_whole a x && (same_whole a y && same_whole a z)) is
first_part _ w is = absurd (cc)

dropped_first : (n : ℕ) (cells later : List Cell) (cell : Cell) → drop n cells ≡ cell ∷ later → slice_get cells n ≡ Some cell
dropped_first zero [] later cell h = absurd (cc)
dropped_first zero (c ∷ cells) later cell h = let same : c ≡ cell = (let e = h in cc) in ap Some same
dropped_first (suc n) [] later cell h = absurd (cc)
dropped_first (suc n) (c ∷ cells) later cell h = dropped_first n cells later cell h

number_of_type : (b : Basic) (found : Option Whole) (z : ℤ) → access_to b ≡ ToNumber → value_of_type b found ≡ Gives (IsInt z) → found ≡ Some (Number z)
unfolding value_of_type
number_of_type basic.Integer (Some (Number y)) z numeric h = let same : y ≡ z = (let e = h in cc) in ap (λ n. Some (Number n)) same
number_of_type basic.Integer None z numeric h = absurd (cc)
number_of_type basic.Integer (Some (Truth b)) z numeric h = absurd (cc)
number_of_type basic.Integer (Some (Label owner l)) z numeric h = absurd (cc)
number_of_type basic.Logical None z numeric h = absurd (cc)
number_of_type basic.Logical (Some (Number y)) z numeric h = absurd (cc)
number_of_type basic.Logical (Some (Truth b)) z numeric h = absurd (cc)
number_of_type basic.Logical (Some (Label owner l)) z numeric h = absurd (cc)
number_of_type basic.Character found z numeric h = absurd (cc)
number_of_type basic.Untyped found z numeric h = absurd (cc)

as_number : (b : Basic) (p : Spot) (cells : List Cell) (z : ℤ) → access_to b ≡ ToNumber → fetch_as b p cells ≡ Gives (IsInt z) → whole_at p.first cells ≡ Some (Number z)
unfolding fetch_as
as_number basic.Integer p cells z numeric h = number_of_type basic.Integer (whole_at p.first cells) z refl h
as_number basic.Logical p cells z numeric h = number_of_type basic.Logical (whole_at p.first cells) z refl h
as_number basic.Character p cells z numeric h = absurd (cc)
as_number basic.Untyped p cells z numeric h = absurd (cc)

integer_fits : (μ : World) (s : Store) (objects : List Object) (p : Spot) (z : ℤ) → Stands μ s objects → access_to p.basic ≡ ToNumber → fetch s p ≡ Gives (IsInt z) → in_range z ≡ true
unfolding whole_at
integer_fits μ s objects p z stands numeric gives =
    let found = is_fetched s p (IsInt z) gives in
    let first = first_part (drop p.first found.sequence.cells) (Number z) (as_number p.basic p found.sequence.cells z numeric found.found) in
    (stands.housed p.sequence found.sequence found.is).in_range p.first (Part (Number z) 0) (dropped_first p.first found.sequence.cells first.later (Part (Number z) 0) first.is)

pub fetched_fits : (μ : World) (s : Store) (objects : List Object) (p : Spot) (d : Datum) → Stands μ s objects → access_to p.basic ≡ ToNumber → fetch s p ≡ Gives d → FitsUnit d
fetched_fits μ s objects p (IsInt z) stands numeric gives = integer_fits μ s objects p z stands numeric gives
fetched_fits μ s objects p (IsLog b) stands numeric gives = tt
fetched_fits μ s objects p (IsText cs) stands numeric gives = tt
fetched_fits μ s objects p (IsSpot q) stands numeric gives = tt
fetched_fits μ s objects p (fortran.IsProc x) stands numeric gives = tt
fetched_fits μ s objects p (fortran.IsLabel l) stands numeric gives = tt
fetched_fits μ s objects p fortran.Nothing stands numeric gives = tt
