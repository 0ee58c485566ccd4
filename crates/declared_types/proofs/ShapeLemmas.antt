-- The first dimensions of each name, one after the other.
use Rattle.std.specs.Prelude.{◌≡◌, ℕ, suc, Bool, true, false, List, [], ◌∷◌, ◌++◌, map, bytes_eq, Option, Some, None, if◌then◌else◌}
use Rattle.std.specs.Borrow.{Bor}
use Rattle.std.proofs.Common.{◌+◌, ◌<◌, ◌≤◌, drop, drop-cons, get_or, length, Result, Ok, Err, OnOk, IfOk, refl, sym, ap, ◌∙◌, arith}
use Rattle.std.proofs.lemmas.List.{drop_all, map-append}
use Rattle.std.proofs.lemmas.Slice.Eq.{bytes_eq-Decides}
use Rattle.f_tree.specs.declared.statements.ArrayDeclarator.{ArrayDeclarator}
use Rattle.f_tree.specs.declared.statements.CommonGroup.{CommonGroup}
use Rattle.f_tree.specs.declared.statements.Declarator.{Declarator}
use Rattle.f_tree.specs.declared.statements.Dimension.{Dimension as WrittenDimension}
use Rattle.f_tree.specs.declared.statements.Stmt.{Stmt}
use Rattle.f_tree.specs.declared.units.Unit.{Unit as WrittenUnit}
use Rattle.f_tree.specs.Values.{Bytes}
use Rattle.f_tree.specs.Attributes.{Shaped, from_all, shaped_in, dimensions_among, shape_of_array, members_of}
use Rattle.declaration_rows.specs.NameRows.{shape_in}
use Rattle.name_uses.specs.UsesSeen.{shape_of}
use Rattle.name_table.specs.Named.{value_of}
use Rattle.declared_types.specs.declared.shapes.Shapes.{Shapes}
use Rattle.declared_types.specs.TypeTables.{dimensions_of, shape_at, shape_or, NotesShapes, AreShapesAmong, AreShapes}

shape_or_none : (ds : List WrittenDimension) → shape_or ds [] ≡ ds
unfolding shape_or
shape_or_none [] = refl
shape_or_none (d ∷ ds) = refl

shape_or_both : (ds es fs : List WrittenDimension) → shape_or ds (shape_or es fs) ≡ shape_or (shape_or ds es) fs
unfolding shape_or
shape_or_both [] es fs = refl
shape_or_both (d ∷ ds) es fs = refl

among_by : (dims : List WrittenDimension) (b : Bool) (here more both : List WrittenDimension) → both ≡ shape_or here more
    → (elim dims [ [] ↦ both | first ∷ rest ↦ if b then first ∷ rest else both ]) ≡ shape_or (elim dims [ [] ↦ here | first ∷ rest ↦ if b then first ∷ rest else here ]) more
unfolding shape_or
among_by [] b here more both is = is
among_by (first ∷ rest) true here more both is = refl
among_by (first ∷ rest) false here more both is = is

among_both : (q : Bytes) (ss ts : List Shaped) → dimensions_among q (ss ++ ts) ≡ shape_or (dimensions_among q ss) (dimensions_among q ts)
unfolding dimensions_among shape_or
among_both q [] ts = refl
among_both q (s ∷ ss) ts = among_by s.dimensions (bytes_eq s.name q) (dimensions_among q ss) (dimensions_among q ts) (dimensions_among q (ss ++ ts)) (among_both q ss ts)

pub none_among : (ds : List WrittenDimension) (q : Bytes) → ds ≡ shape_or ds (dimensions_among q [])
unfolding dimensions_among
none_among ds q = sym (shape_or_none ds)

pub notes_none : (shapes : Shapes) → NotesShapes shapes shapes []
notes_none shapes = record { has = λ q. none_among (shape_at shapes q) q }

pub notes_as : {A E : Type 0} (r : Result A E) (old new : Shapes) (ss ts : List Shaped) → ss ≡ ts → OnOk r (NotesShapes old new ss) → OnOk r (NotesShapes old new ts)
notes_as (Ok x) old new ss ts is notes = record { has = λ q. notes.has q ∙ ap (λ us. shape_or (shape_at old q) (dimensions_among q us)) is }
notes_as (Err e) old new ss ts is notes = notes

pub shapes_as : (old new : Shapes) (ss ts : List Shaped) → ss ≡ ts → NotesShapes old new ss → NotesShapes old new ts
shapes_as old new ss ts is notes = record { has = λ q. notes.has q ∙ ap (λ us. shape_or (shape_at old q) (dimensions_among q us)) is }

-- one name
one_among : (q x : Bytes) (dims : List WrittenDimension) → dimensions_among q (record { name = x; dimensions = dims } ∷ []) ≡ (elim dims [ [] ↦ [] | first ∷ rest ↦ if bytes_eq x q then first ∷ rest else [] ])
unfolding dimensions_among
one_among q x dims = refl

kept_by : (dims have : List WrittenDimension) (b : Bool) → (b ≡ true → 0 < length have) → have ≡ shape_or have (elim dims [ [] ↦ [] | first ∷ rest ↦ if b then first ∷ rest else [] ])
unfolding shape_or
kept_by dims (d ∷ ds) b some = refl
kept_by [] [] b some = refl
kept_by (first ∷ rest) [] true some = absurd (let h = some refl in omega arith)
kept_by (first ∷ rest) [] false some = refl

-- the name has dimensions already
pub notes_old : (shapes : Shapes) (x : Bytes) (dims have : List WrittenDimension) → have ≡ shape_at shapes x → 0 < length have
    → NotesShapes shapes shapes (record { name = x; dimensions = dims } ∷ [])
notes_old shapes x dims have is some = record {
  has = λ q.
      kept_by dims (shape_at shapes q) (bytes_eq x q)
      (λ same. let e : have ≡ shape_at shapes q = is ∙ ap (shape_at shapes) ((bytes_eq-Decides x q).0 same) in let n : length have ≡ length (shape_at shapes q) = ap length e in omega arith)
      ∙ ap (shape_or (shape_at shapes q)) (sym (one_among q x dims));
}

new_at : (b : Bool) (dims : List WrittenDimension) (r : Bor (List WrittenDimension)) (o : Option (Bor (List WrittenDimension))) → r.now ≡ dims → (b ≡ true → dimensions_of o ≡ [])
    → dimensions_of (if b then Some r else o) ≡ shape_or (dimensions_of o) (elim dims [ [] ↦ [] | first ∷ rest ↦ if b then first ∷ rest else [] ])
unfolding dimensions_of shape_or
new_at true [] r o is none = is ∙ ap (λ ds. shape_or ds []) (sym (none refl))
new_at true (first ∷ rest) r o is none = is ∙ ap (λ ds. shape_or ds (first ∷ rest)) (sym (none refl))
new_at false [] r o is none = sym (shape_or_none (dimensions_of o))
new_at false (first ∷ rest) r o is none = sym (shape_or_none (dimensions_of o))

-- the name has none
pub notes_new : {A E : Type 0} (r : Result A E) (old new : Shapes) (x : Bytes) (dims : Bor (List WrittenDimension)) → shape_at old x ≡ []
    → OnOk r ((q : Bytes) → value_of new.table q ≡ (if bytes_eq x q then Some dims else value_of old.table q)) → OnOk r (NotesShapes old new (record { name = x; dimensions = dims.now } ∷ []))
unfolding shape_at
notes_new (Ok a) old new x dims none put = record {
  has = λ q.
      ap dimensions_of (put q) ∙ new_at (bytes_eq x q) dims.now dims (value_of old.table q) refl (λ same. ap (λ y. dimensions_of (value_of old.table y)) (sym ((bytes_eq-Decides x q).0 same)) ∙ none)
      ∙ ap (shape_or (shape_at old q)) (sym (one_among q x dims.now));
}
notes_new (Err e) old new x dims none put = put

-- names one after the other
rest_is : {X : Type 0} (xs : List X) (i : ℕ) (x d : X) → i < length xs → x ≡ get_or xs i d → drop i xs ≡ x ∷ drop (i + 1) xs
rest_is xs i x d h is = drop-cons xs i d h ∙ ap (λ y. y ∷ drop (suc i) xs) (sym is) ∙ ap (λ n. x ∷ drop n xs) (let e : suc i ≡ i + 1 = omega arith in e)

module _ {X : Type 0} (rest : List X → List Shaped) (out : X → List Shaped) where
  pub notes_more : ((x : X) (xs : List X) → rest (x ∷ xs) ≡ out x ++ rest xs) → (xs : List X) (i : ℕ) (x d : X) (start : Bytes → List WrittenDimension) (old new : Shapes) → i < length xs
      → x ≡ get_or xs i d → ((q : Bytes) → shape_or (start q) (dimensions_among q (rest xs)) ≡ shape_or (shape_at old q) (dimensions_among q (rest (drop i xs)))) → NotesShapes old new (out x)
      → (q : Bytes) → shape_or (start q) (dimensions_among q (rest xs)) ≡ shape_or (shape_at new q) (dimensions_among q (rest (drop (i + 1) xs)))
  notes_more step xs i x d start old new h is so_far notes q =
      so_far q ∙ ap (λ ss. shape_or (shape_at old q) (dimensions_among q ss)) (ap rest (rest_is xs i x d h is) ∙ step x (drop (i + 1) xs))
      ∙ ap (shape_or (shape_at old q)) (among_both q (out x) (rest (drop (i + 1) xs))) ∙ shape_or_both (shape_at old q) (dimensions_among q (out x)) (dimensions_among q (rest (drop (i + 1) xs)))
      ∙ ap (λ ds. shape_or ds (dimensions_among q (rest (drop (i + 1) xs)))) (sym (notes.has q))

  pub notes_end : rest [] ≡ [] → (xs : List X) (i : ℕ) (start : Bytes → List WrittenDimension) (old : Shapes) → length xs ≤ i
      → ((q : Bytes) → shape_or (start q) (dimensions_among q (rest xs)) ≡ shape_or (shape_at old q) (dimensions_among q (rest (drop i xs))))
      → (q : Bytes) → shape_at old q ≡ shape_or (start q) (dimensions_among q (rest xs))
  notes_end none xs i start old h so_far q =
      none_among (shape_at old q) q ∙ ap (λ ss. shape_or (shape_at old q) (dimensions_among q ss)) (sym (ap rest (drop_all i xs h) ∙ none)) ∙ sym (so_far q)

-- groups
pub groups_step : (g : CommonGroup) (gs : List CommonGroup) → map shape_of_array (members_of (g ∷ gs)) ≡ map shape_of_array g.items ++ map shape_of_array (members_of gs)
unfolding members_of
groups_step g gs = map-append shape_of_array g.items (members_of gs)

pub groups_none : map shape_of_array (members_of []) ≡ []
unfolding members_of
groups_none = refl

pub declarator_is : (d : Declarator) → record { name = d.name; dimensions = d.dimensions } ∷ [] ≡ shape_of d ∷ []
unfolding shape_of
declarator_is d = refl

pub member_is : (d : ArrayDeclarator) → record { name = d.name; dimensions = d.dimensions } ∷ [] ≡ shape_of_array d ∷ []
unfolding shape_of_array
member_is d = refl

-- no dimensions
pub no_value : (shapes : Shapes) (x : Bytes) → value_of shapes.table x ≡ None → [] ≡ shape_at shapes x
unfolding shape_at dimensions_of
no_value shapes x none = sym (ap dimensions_of none)

pub no_items : (ds : List WrittenDimension) → length ds ≡ 0 → ds ≡ []
no_items [] h = refl
no_items (d ∷ ds) h = absurd (omega arith)

pub start_none : (ds : List WrittenDimension) → shape_or [] ds ≡ ds
unfolding shape_or
start_none ds = refl

pub shapes_ok : {E : Type 0} (r : Result Shapes E) (u : WrittenUnit) (ss : List Stmt) → ss ≡ u.statements → IfOk r (λ shapes. AreShapesAmong ss shapes) → IfOk r (λ shapes. AreShapes u shapes)
shapes_ok (Ok shapes) u ss is known = record { has = λ q. known.has q ∙ ap (λ ts. dimensions_among q (from_all shaped_in ts)) is }
shapes_ok (Err e) u ss is known = known

pub shape_is : (u : WrittenUnit) (shapes : Shapes) (x : Bytes) → AreShapes u shapes → shape_at shapes x ≡ shape_in u x
unfolding shape_in
shape_is u shapes x known = known.has x

pub found_value : (shapes : Shapes) (x : Bytes) (o : Option (Bor (List WrittenDimension))) (dims : Bor (List WrittenDimension)) → o ≡ value_of shapes.table x → o ≡ Some dims → dims.now ≡ shape_at shapes x
unfolding shape_at dimensions_of
found_value shapes x o dims is there = sym (ap dimensions_of (sym is ∙ there))
