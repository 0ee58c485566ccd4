-- The objects of a run as a call opens them: its vectors, as slices, are what the objects stand in.
use Rattle.std.proofs.Common.{◌≡◌, ℕ, zero, suc, Bool, List, [], ◌∷◌, length, Option, Some, None, refl, ap, sym, ◌∙◌, subst}
use Rattle.std.specs.Prelude.{slice_set, slice_get, Result, Ok}
use Rattle.c_tree.specs.declared.outcome.CValue.{CValue}
use Rattle.c_tree.specs.declared.outcome.CFault.{CFault}
use Rattle.c_tree.specs.declared.outcome.CFault.TheVariants.{Outside}
use Rattle.c_tree.specs.Faults.{Or, after, failing}
use Rattle.c_tree.specs.Objects.{Object}
use Rattle.run_bytes.specs.declared.places.StoredObject.{StoredObject}
use Rattle.run_bytes.specs.Cells.{marked}
use Rattle.run_bytes.specs.Layout.{object_in, objects_in, IsInside, IsWithinBytes, IsWithinValues, Writes, IsLaidOut, Stores, unset_object, unset_at}
use Rattle.run_bytes.proofs.PlaceLemmas.{within-bytes, within-values}
use Rattle.run_bytes.proofs.LayoutLemmas.{inside-at, found, missing, laid-written, stored-at, one-changed}

-- the objects stand in slices, which hold what the vectors do
pub record Opens (objects : List Object) (places : List StoredObject) (bytes : List ℕ) (marks : List Bool) (values : List (Option CValue)) : Type 0 where
  pub laid : IsLaidOut places bytes marks values
  pub shown : objects_in places (marked bytes marks) values ≡ objects

pub opened : (objects : List Object) (places places' : List StoredObject) (bytes bytes' : List ℕ) (marks marks' : List Bool) (values values' : List (Option CValue)) →
    IsLaidOut places bytes marks values → objects_in places (marked bytes marks) values ≡ objects →
    places' ≡ places → bytes' ≡ bytes → marks' ≡ marks → values' ≡ values → Opens objects places' bytes' marks' values'
opened objects places places' bytes bytes' marks marks' values values' laid shown p b m v =
    subst (λ places. Opens objects places bytes' marks' values') (sym p)
    (subst (λ bytes. Opens objects places bytes marks' values') (sym b)
    (subst (λ marks. Opens objects places bytes marks values') (sym m)
    (subst (Opens objects places bytes marks) (sym v) (record { laid = laid; shown = shown }))))

pub known : (objects : List Object) (places : List StoredObject) (bytes : List ℕ) (marks : List Bool) (values : List (Option CValue)) (i : ℕ) (place : StoredObject) →
    Opens objects places bytes marks values → Some place ≡ slice_get places i → Some (object_in (marked bytes marks) values place) ≡ slice_get objects i
known objects places bytes marks values i place opens is =
    sym (ap (λ all. slice_get all i) (sym opens.shown) ∙ found places i place (marked bytes marks) values (sym is))

pub unknown : (objects : List Object) (places : List StoredObject) (bytes : List ℕ) (marks : List Bool) (values : List (Option CValue)) (i : ℕ) →
    Opens objects places bytes marks values → None ≡ slice_get places i → None ≡ slice_get objects i
unknown objects places bytes marks values i opens is =
    sym (ap (λ all. slice_get all i) (sym opens.shown) ∙ missing places i (marked bytes marks) values (sym is))

pub inside : (objects : List Object) (places : List StoredObject) (bytes : List ℕ) (marks : List Bool) (values : List (Option CValue)) (i : ℕ) (place : StoredObject) →
    Opens objects places bytes marks values → Some place ≡ slice_get places i → IsInside place bytes values
inside objects places bytes marks values i place opens is = inside-at places i 0 0 place bytes values opens.laid.stand (sym is)

pub in-bytes : (objects : List Object) (places : List StoredObject) (bytes : List ℕ) (marks : List Bool) (values : List (Option CValue)) (i : ℕ) (place : StoredObject) →
    Opens objects places bytes marks values → Some place ≡ slice_get places i → IsWithinBytes place (length bytes)
in-bytes objects places bytes marks values i place opens is = within-bytes place bytes values (inside objects places bytes marks values i place opens is)

pub in-values : (objects : List Object) (places : List StoredObject) (bytes : List ℕ) (marks : List Bool) (values : List (Option CValue)) (i : ℕ) (place : StoredObject) →
    Opens objects places bytes marks values → Some place ≡ slice_get places i → IsWithinValues place (length values)
in-values objects places bytes marks values i place opens is = within-values place bytes values (inside objects places bytes marks values i place opens is)

-- what the vectors hold once a call has changed the slices
pub closes : (store : Object → Or Object) (objects : List Object) (places : List StoredObject) (place : StoredObject) (bytes new bytes' : List ℕ) (marks set marks' : List Bool)
    (values changed values' : List (Option CValue)) (result : Result (Unit {0}) CFault) → Opens objects places bytes marks values →
    Writes store place bytes marks values new set changed result → bytes' ≡ new → marks' ≡ set → values' ≡ changed → IsLaidOut places bytes' marks' values'
closes store objects places place bytes new bytes' marks set marks' values changed values' result opens writes b m v =
    subst (λ bytes. IsLaidOut places bytes marks' values') (sym b) (subst (λ marks. IsLaidOut places new marks values') (sym m)
    (subst (IsLaidOut places new set) (sym v) (laid-written store places place bytes new marks set values changed result opens.laid writes)))

pub stores : (store : Option Object → Or Object) (objects : List Object) (places : List StoredObject) (i : ℕ) (place : StoredObject) (bytes new bytes' : List ℕ) (marks set marks' : List Bool)
    (values changed values' : List (Option CValue)) (result : Result (Unit {0}) CFault) → Opens objects places bytes marks values → Some place ≡ slice_get places i →
    Writes (λ object. store (Some object)) place bytes marks values new set changed result → bytes' ≡ new → marks' ≡ set → values' ≡ changed →
    Stores (λ objects. after (store (slice_get objects i)) λ object. Ok (slice_set objects i object)) objects (objects_in places (marked bytes' marks') values') result
stores store objects places i place bytes new bytes' marks set marks' values changed values' result opens is writes b m v =
    let shown : objects_in places (marked bytes' marks') values' ≡ objects_in places (marked new set) changed =
    ap (λ bytes. objects_in places (marked bytes marks') values') b ∙ ap (λ marks. objects_in places (marked new marks) values') m ∙ ap (objects_in places (marked new set)) v in
    subst (λ all. Stores (λ objects. after (store (slice_get objects i)) λ object. Ok (slice_set objects i object)) objects all result) (sym shown)
    (subst (λ old. Stores (λ objects. after (store (slice_get objects i)) λ object. Ok (slice_set objects i object)) old (objects_in places (marked new set) changed) result) opens.shown
    (stored-at store places i place bytes new marks set values changed result opens.laid (sym is) writes))

pub none-stored : (store : Option Object → Or Object) (objects : List Object) (i : ℕ) → store None ≡ failing Outside → None ≡ slice_get objects i →
    (after (store (slice_get objects i)) (λ object. Ok (slice_set objects i object)) ≡ failing Outside) × (objects ≡ objects)
none-stored store objects i none is =
    (ap (λ known. after (store known) λ object. Ok (slice_set objects i object)) (sym is) ∙ ap (λ made. after made λ object. Ok (slice_set objects i object)) none, refl)

-- NOTHING SET
unset-known : (objects : List Object) (i : ℕ) (object : Object) → Some object ≡ slice_get objects i → slice_set objects i (unset_object object) ≡ unset_at i objects
unset-known [] i object is = absurd (cc)
unset-known (first ∷ later) zero object is = let same : object ≡ first = cc in ap (λ object. unset_object object ∷ later) same
unset-known (first ∷ later) (suc i) object is = ap (λ rest. first ∷ rest) (unset-known later i object is)

pub unset-unknown : (objects : List Object) (i : ℕ) → None ≡ slice_get objects i → objects ≡ unset_at i objects
unset-unknown [] i is = refl
unset-unknown (first ∷ later) zero is = absurd (cc)
unset-unknown (first ∷ later) (suc i) is = ap (λ rest. first ∷ rest) (unset-unknown later i is)

same-ok : (x y : Object) → (let made : Or Object = Ok x in made ≡ Ok y) → x ≡ y
same-ok x y h = cc

pub unsets : (objects : List Object) (places : List StoredObject) (i : ℕ) (place : StoredObject) (bytes : List ℕ) (marks set marks' : List Bool)
    (values changed values' : List (Option CValue)) → Opens objects places bytes marks values → Some place ≡ slice_get places i →
    Writes (λ object. Ok (unset_object object)) place bytes marks values bytes set changed (Ok tt) → marks' ≡ set → values' ≡ changed →
    objects_in places (marked bytes marks') values' ≡ unset_at i objects
unsets objects places i place bytes marks set marks' values changed values' opens is writes m v =
    ap (λ marks. objects_in places (marked bytes marks) values') m ∙ ap (objects_in places (marked bytes set)) v
    ∙ one-changed places i place bytes bytes marks set values changed opens.laid (sym is) writes.1
    ∙ ap (slice_set (objects_in places (marked bytes marks) values) i)
    (sym (same-ok (unset_object (object_in (marked bytes marks) values place)) (object_in (marked bytes set) changed place) writes.0))
    ∙ ap (λ all. slice_set all i (unset_object (object_in (marked bytes marks) values place))) opens.shown
    ∙ unset-known objects i (object_in (marked bytes marks) values place) (known objects places bytes marks values i place opens is)
