-- What a unit keeps of its dummy arrays, one bound after the other.
use Rattle.std.specs.List.{flat_map}
use Rattle.std.proofs.Common.{◌≡◌, ℕ, suc, ◌+◌, ◌<◌, ◌≤◌, Bool, true, false, List, [], ◌∷◌, ◌++◌, length, drop, drop-cons, get_or, Option, Some, None, Result, Ok, Err, OnOk, if◌then◌else◌, refl, sym, ap, ◌∙◌, append-nil, append_assoc, arith}
use Rattle.std.proofs.lemmas.List.{drop_all}
use Rattle.f_tree.specs.declared.statements.Dimension.{Dimension as WrittenDimension}
use Rattle.f_tree.specs.declared.statements.DummyArgument.{DummyArgument}
use Rattle.f_tree.specs.declared.statements.DummyArgument.TheVariants as dummy
use Rattle.f_tree.specs.declared.units.Unit.{Unit as GivenUnit}
use Rattle.f_tree.specs.Values.{Bytes}
use Rattle.f_tree.specs.Attributes.{named_dummies, dimension_read}
use Rattle.declaration_rows.specs.NameRows.{given_names, shape_in}
use Rattle.lowered_tree.specs.l_core.Pures.{Pure}
use Rattle.name_facts.specs.declared.table.NameFacts.{NameFacts}
use Rattle.name_facts.specs.GivenFacts.{AreNameFacts, fact_in}
use Rattle.expression_lowering.specs.TableNames.{attribute_in}
use Rattle.bound_values.specs.BoundValues.{lower_pure, upper_pure, size_by, dimensions_told, is_adjustable}
use Rattle.bound_values.proofs.ToldBounds.{told-dimensions}
use Rattle.unit_translation.specs.unit_file.UnitFile.{LowerOf, SizeOf, KeptBound}
use Rattle.unit_translation.specs.UnitBounds.{lower_kept, size_kept, dimension_kept, dimensions_kept, array_kept}
use Rattle.translator.specs.UnitFiles.{kept_if, kept_among}

pub on_ok : {A E : Type 0} (P Q : Type 0) (r : Result A E) → (P → Q) → OnOk r P → OnOk r Q
on_ok P Q (Ok a) step h = step h
on_ok P Q (Err e) step h = h

-- ## A dimension

lower-if : (x : Bytes) (k : ℕ) (o : Option Pure) → kept_if x k LowerOf o ≡ lower_kept x k o
unfolding kept_if lower_kept
lower-if x k None = refl
lower-if x k (Some p) = refl

size-if : (x : Bytes) (k : ℕ) (l u : Option Pure) → kept_if x k SizeOf (size_by l u) ≡ size_kept x k l u
unfolding kept_if size_by size_kept
size-if x k None None = refl
size-if x k None (Some q) = refl
size-if x k (Some p) None = refl
size-if x k (Some p) (Some q) = refl

pub dimension-put : (table : NameFacts) (x : Bytes) (k : ℕ) (d : WrittenDimension) (a b c : List KeptBound) (lower size : Option Pure) → b ≡ a ++ kept_if x k LowerOf lower →
    lower ≡ lower_pure table d.lower → size ≡ size_by (lower_pure table d.lower) (upper_pure table d.upper) → c ≡ b ++ kept_if x k SizeOf size →
    c ≡ a ++ dimension_kept x k (dimension_read (attribute_in table) d)
unfolding dimension_kept lower_pure upper_pure dimension_read
dimension-put table x k d a b c lower size first low many second =
    second ∙ ap (λ l. l ++ kept_if x k SizeOf size) first ∙ append_assoc a (kept_if x k LowerOf lower) (kept_if x k SizeOf size)
    ∙ ap (λ l. a ++ (l ++ kept_if x k SizeOf size)) (ap (kept_if x k LowerOf) low ∙ lower-if x k (lower_pure table d.lower))
    ∙ ap (λ l. a ++ (lower_kept x k (lower_pure table d.lower) ++ l)) (ap (kept_if x k SizeOf) many ∙ size-if x k (lower_pure table d.lower) (upper_pure table d.upper))

-- ## The dimensions of an array

drop-none : {A : Type 0} (xs : List A) → drop 0 xs ≡ xs
drop-none [] = refl
drop-none (x ∷ xs) = refl

abbrev from_place : NameFacts → Bytes → List WrittenDimension → ℕ → List KeptBound
from_place table x ds i = dimensions_kept x i (dimensions_told table (drop i ds))

pub dimensions-none : (table : NameFacts) (x : Bytes) (ds : List WrittenDimension) (a : List KeptBound) → a ++ dimensions_kept x 0 (dimensions_told table ds) ≡ a ++ from_place table x ds 0
dimensions-none table x ds a = ap (λ rest. a ++ dimensions_kept x 0 (dimensions_told table rest)) (sym (drop-none ds))

place-first : (table : NameFacts) (x : Bytes) (d : WrittenDimension) (ds : List WrittenDimension) (k : ℕ) →
    dimensions_kept x k (dimensions_told table (d ∷ ds)) ≡ dimension_kept x k (dimension_read (attribute_in table) d) ++ dimensions_kept x (suc k) (dimensions_told table ds)
unfolding dimensions_kept dimensions_told
place-first table x d ds k = refl

pub dimensions-more : (table : NameFacts) (x : Bytes) (ds : List WrittenDimension) (i : ℕ) (d e : WrittenDimension) (all b c : List KeptBound) → i < length ds → d ≡ get_or ds i e →
    c ≡ b ++ dimension_kept x i (dimension_read (attribute_in table) d) → all ≡ b ++ from_place table x ds i → all ≡ c ++ from_place table x ds (i + 1)
dimensions-more table x ds i d e all b c h is put so_far =
    let split : drop i ds ≡ d ∷ drop (suc i) ds = drop-cons ds i e h ∙ ap (λ y. y ∷ drop (suc i) ds) (sym is) in
    so_far ∙ ap (λ rest. b ++ dimensions_kept x i (dimensions_told table rest)) split ∙ ap (λ l. b ++ l) (place-first table x d (drop (suc i) ds) i)
    ∙ sym (append_assoc b (dimension_kept x i (dimension_read (attribute_in table) d)) (from_place table x ds (suc i)))
    ∙ ap (λ l. l ++ from_place table x ds (suc i)) (sym put) ∙ ap (λ n. c ++ from_place table x ds n) (let next : suc i ≡ i + 1 = omega arith in next)

none-left : (table : NameFacts) (x : Bytes) (k : ℕ) → dimensions_kept x k (dimensions_told table []) ≡ []
unfolding dimensions_kept dimensions_told
none-left table x k = refl

pub dimensions-end : (table : NameFacts) (x : Bytes) (ds : List WrittenDimension) (i : ℕ) (a b : List KeptBound) → length ds ≤ i →
    a ++ dimensions_kept x 0 (dimensions_told table ds) ≡ b ++ from_place table x ds i → b ≡ a ++ dimensions_kept x 0 (dimensions_told table ds)
dimensions-end table x ds i a b h so_far =
    sym (so_far ∙ ap (λ rest. b ++ dimensions_kept x i (dimensions_told table rest)) (drop_all i ds h) ∙ ap (λ l. b ++ l) (none-left table x i) ∙ append-nil b)

-- ## An array

array-told : (u : GivenUnit) (table : NameFacts) → AreNameFacts u table → (x : Bytes) (b : Bool) → b ≡ is_adjustable (fact_in table x) →
    (if b then dimensions_kept x 0 (dimensions_told table (shape_in u x)) else []) ≡ array_kept x (given_names u x)
unfolding array_kept
array-told u table are x b is =
    ap (λ t. if t then dimensions_kept x 0 (dimensions_told table (shape_in u x)) else []) is ∙ told-dimensions (dimensions_kept x 0) [] u table are x

pub array-kept : (u : GivenUnit) (table : NameFacts) → AreNameFacts u table → (x : Bytes) (ds : List WrittenDimension) (b : Bool) (old new : List KeptBound) →
    b ≡ is_adjustable (fact_in table x) → b ≡ true → ds ≡ shape_in u x → new ≡ old ++ dimensions_kept x 0 (dimensions_told table ds) → new ≡ old ++ array_kept x (given_names u x)
array-kept u table are x ds b old new is holds shape put =
    put ∙ ap (λ rest. old ++ dimensions_kept x 0 (dimensions_told table rest)) shape
    ∙ ap (λ l. old ++ l)
    (ap (λ t. if t then dimensions_kept x 0 (dimensions_told table (shape_in u x)) else []) (sym holds) ∙ array-told u table are x b is)

pub array-passed : (u : GivenUnit) (table : NameFacts) → AreNameFacts u table → (x : Bytes) (b : Bool) (old : List KeptBound) → b ≡ is_adjustable (fact_in table x) → b ≡ false →
    old ≡ old ++ array_kept x (given_names u x)
array-passed u table are x b old is fails =
    sym (append-nil old)
    ∙ ap (λ l. old ++ l)
    (ap (λ t. if t then dimensions_kept x 0 (dimensions_told table (shape_in u x)) else []) (sym fails) ∙ array-told u table are x b is)

-- ## Dummies

pub dummy-kept : (u : GivenUnit) (given : DummyArgument) (x y : Bytes) (old new : List KeptBound) → given ≡ dummy.Named x → y ≡ x → new ≡ old ++ array_kept y (given_names u y) →
    new ≡ old ++ kept_among u (given ∷ [])
unfolding kept_among named_dummies
dummy-kept u given x y old new is same put =
    put ∙ ap (λ z. old ++ array_kept z (given_names u z)) same ∙ ap (λ l. old ++ l) (sym (append-nil (array_kept x (given_names u x))))
    ∙ ap (λ g. old ++ flat_map (λ z. array_kept z (given_names u z)) (named_dummies (g ∷ []))) (sym is)

pub return-kept : (u : GivenUnit) (given : DummyArgument) (old : List KeptBound) → given ≡ dummy.AlternateReturn → old ≡ old ++ kept_among u (given ∷ [])
unfolding kept_among named_dummies
return-kept u given old is =
    sym (append-nil old) ∙ ap (λ g. old ++ flat_map (λ z. array_kept z (given_names u z)) (named_dummies (g ∷ []))) (sym is)

among-first : (u : GivenUnit) (given : DummyArgument) (ds : List DummyArgument) → kept_among u (given ∷ ds) ≡ kept_among u (given ∷ []) ++ kept_among u ds
unfolding kept_among named_dummies
among-first u (dummy.Named x) ds = ap (λ l. l ++ flat_map (λ z. array_kept z (given_names u z)) (named_dummies ds)) (sym (append-nil (array_kept x (given_names u x))))
among-first u dummy.AlternateReturn ds = refl

pub kept-none : (u : GivenUnit) (ds : List DummyArgument) (found : List KeptBound) → found ≡ [] → kept_among u ds ≡ found ++ kept_among u (drop 0 ds)
kept-none u ds found is = ap (kept_among u) (sym (drop-none ds)) ∙ ap (λ l. l ++ kept_among u (drop 0 ds)) (sym is)

pub kept-more : (u : GivenUnit) (ds : List DummyArgument) (i : ℕ) (given d : DummyArgument) (b c : List KeptBound) → i < length ds → given ≡ get_or ds i d → c ≡ b ++ kept_among u (given ∷ []) →
    kept_among u ds ≡ b ++ kept_among u (drop i ds) → kept_among u ds ≡ c ++ kept_among u (drop (i + 1) ds)
kept-more u ds i given d b c h is put so_far =
    let split : drop i ds ≡ given ∷ drop (suc i) ds = drop-cons ds i d h ∙ ap (λ y. y ∷ drop (suc i) ds) (sym is) in
    so_far ∙ ap (λ rest. b ++ kept_among u rest) split ∙ ap (λ l. b ++ l) (among-first u given (drop (suc i) ds))
    ∙ sym (append_assoc b (kept_among u (given ∷ [])) (kept_among u (drop (suc i) ds))) ∙ ap (λ l. l ++ kept_among u (drop (suc i) ds)) (sym put)
    ∙ ap (λ n. c ++ kept_among u (drop n ds)) (let next : suc i ≡ i + 1 = omega arith in next)

none-among : (u : GivenUnit) → kept_among u [] ≡ []
unfolding kept_among named_dummies
none-among u = refl

pub kept-end : (u : GivenUnit) (ds : List DummyArgument) (i : ℕ) (b : List KeptBound) → length ds ≤ i → kept_among u ds ≡ b ++ kept_among u (drop i ds) → b ≡ kept_among u ds
kept-end u ds i b h so_far = sym (so_far ∙ ap (λ rest. b ++ kept_among u rest) (drop_all i ds h) ∙ ap (λ l. b ++ l) (none-among u) ∙ append-nil b)
