-- The procedure that a name finds in a set of units has there the shape that is found by the name.
use Rattle.std.specs.Prelude.{◌≡◌, ℕ, zero, suc, ◌+◌, ◌≤◌, Bool, true, false, ◌||◌, find, List, [], ◌∷◌, ◌++◌, map, bytes_eq, Option, Some, None, slice_get, IsTrue, if◌then◌else◌}
use Rattle.std.proofs.Common.{refl, sym, ap, ◌∙◌, subst, arith, le_of_eq}
use Rattle.std.proofs.lemmas.List.{append_assoc, append-nil, map-append}
use Rattle.std.proofs.lemmas.Slice.Eq.{bytes_eq-Decides}
use Rattle.call_shapes.specs.f_tree.declared.names.Options.{Options}
use Rattle.call_shapes.specs.f_tree.declared.statements.Body.{Body}
use Rattle.call_shapes.specs.f_tree.declared.statements.Body.TheOpen as body
use Rattle.call_shapes.specs.f_tree.declared.statements.DummyArgument.{DummyArgument}
use Rattle.call_shapes.specs.f_tree.declared.statements.DummyArgument.TheVariants as dummy
use Rattle.call_shapes.specs.f_tree.declared.statements.Stmt.{Stmt}
use Rattle.call_shapes.specs.f_tree.declared.statements.UnitKind.{UnitKind as WrittenKind}
use Rattle.call_shapes.specs.f_tree.declared.statements.UnitKind.TheVariants as kind
use Rattle.call_shapes.specs.f_tree.declared.units.File.{File}
use Rattle.call_shapes.specs.f_tree.declared.units.Unit.{Unit as WrittenUnit}
use Rattle.call_shapes.specs.f_tree.Folds.{layer_of}
use Rattle.call_shapes.specs.f_tree.Values.{Bytes}
use Rattle.call_shapes.specs.f_tree.Facts.{Formal, Named, Alternate, UnitKind, MainProgram, SubroutineUnit, FunctionUnit, BlockDataUnit, EntryPoint, ProgramUnit}
use Rattle.call_shapes.specs.f_tree.Attributes.{from_all, is_not_empty}
use Rattle.call_shapes.specs.f_tree.Reading.{name_or_none}
use Rattle.call_shapes.specs.f_tree.Lines.{formals_of, entry_in, entries_from, unit_kind, program_of, with_ties, unit_read}
use Rattle.call_shapes.specs.f_tree.World.{Procedure}
use Rattle.call_shapes.specs.f_tree.Association.{entry_of}
use Rattle.call_shapes.specs.f_tree.Setting.{IsIn, first_in, later_in}
use Rattle.call_shapes.specs.f_tree.Meaning.{units_in, has_entry, answers_to, found_from}
use Rattle.call_shapes.specs.declaration_rows.GlobalRows.{all_units}
use Rattle.call_shapes.specs.declaration_rows.NameRows.{given_names}
use Rattle.call_shapes.specs.declared.shapes.Argument.{Argument}
use Rattle.call_shapes.specs.declared.shapes.Argument.TheVariants.{Label}
use Rattle.call_shapes.specs.declared.shapes.NamedShape.{NamedShape}
use Rattle.call_shapes.specs.declared.shapes.Shape.{Shape}
use Rattle.call_shapes.specs.declared.shapes.ShapeResult.{ShapeResult}
use Rattle.call_shapes.specs.declared.shapes.ShapeResult.TheVariants.{Subroutine, Function}
use Rattle.call_shapes.specs.ProcedureShapes.{argument_of_name, dummy_argument, result_of, shaped, procedure_of, own_procedure, entry_procedure, unit_procedures, procedures_of}
use Rattle.call_shapes.specs.Disagreements.{shape_among}
use Rattle.agreeing_runs.specs.Mismatches.{IsProcedure}

-- ENTRIES. The shape of an entry
unfoldable pub argument_of_formal : WrittenUnit → Formal → Argument
argument_of_formal u (Named x) = argument_of_name (given_names u x)
argument_of_formal u Alternate = Label

unfoldable pub shaped_entry : WrittenUnit → EntryPoint → List NamedShape
shaped_entry u e = shaped e.name (map (argument_of_formal u) e.formals) (result_of u e.name)

unfoldable pub all_shaped : WrittenUnit → List EntryPoint → List NamedShape
all_shaped u [] = []
all_shaped u (e ∷ es) = shaped_entry u e ++ all_shaped u es

formals_alike : (u : WrittenUnit) (ds : List DummyArgument) → map (dummy_argument u) ds ≡ map (argument_of_formal u) (formals_of ds)
unfolding dummy_argument argument_of_formal formals_of
formals_alike u [] = refl
formals_alike u (dummy.Named x ∷ ds) = ap (λ as'. argument_of_name (given_names u x) ∷ as') (formals_alike u ds)
formals_alike u (dummy.AlternateReturn ∷ ds) = ap (λ as'. Label ∷ as') (formals_alike u ds)

procedure_alike : (u : WrittenUnit) (x : Bytes) (ds : List DummyArgument) (n : ℕ) →
    procedure_of u x ds ≡ shaped_entry u (record { name = x; formals = formals_of ds; start = n })
unfolding procedure_of shaped_entry
procedure_alike u x ds n = ap (λ as'. shaped x as' (result_of u x)) (formals_alike u ds)

layer_alike : (u : WrittenUnit) (i : ℕ) (layer : body.Body-F Body) →
    (elim layer [ body.Entry x dummies ↦ procedure_of u x dummies | _ ↦ [] ]) ≡
    all_shaped u (elim layer [ body.Entry x dummies ↦ record { name = x; formals = formals_of dummies; start = suc i } ∷ [] | _ ↦ [] ])
unfolding all_shaped
layer_alike u i (body.Entry x ds) = procedure_alike u x ds (suc i) ∙ sym (append-nil (shaped_entry u (record { name = x; formals = formals_of ds; start = suc i })))
layer_alike u i _ = refl

entry_alike : (u : WrittenUnit) (i : ℕ) (b : Body) → entry_procedure u b ≡ all_shaped u (entry_in i b)
unfolding entry_procedure entry_in
entry_alike u i b = layer_alike u i (layer_of b)

shaped_both : (u : WrittenUnit) (es fs : List EntryPoint) → all_shaped u (es ++ fs) ≡ all_shaped u es ++ all_shaped u fs
unfolding all_shaped
shaped_both u [] fs = refl
shaped_both u (e ∷ es) fs = ap (λ z. shaped_entry u e ++ z) (shaped_both u es fs) ∙ sym (append_assoc (shaped_entry u e) (all_shaped u es) (all_shaped u fs))

entries_alike : (u : WrittenUnit) (i : ℕ) (ss : List Stmt) → from_all (entry_procedure u) ss ≡ all_shaped u (entries_from i ss)
unfolding from_all entries_from all_shaped
entries_alike u i [] = refl
entries_alike u i (s ∷ ss) =
    ap (λ z. z ++ from_all (entry_procedure u) ss) (entry_alike u i s.body) ∙
    (ap (λ z. all_shaped u (entry_in i s.body) ++ z) (entries_alike u (suc i) ss) ∙ sym (shaped_both u (entry_in i s.body) (entries_from (suc i) ss)))

-- LOOKING UP. Behind a shape of another name the others are looked through
look_past : (x y : Bytes) (as' : List Argument) (o : Option ShapeResult) (rest : List NamedShape) → bytes_eq y x ≡ false →
    shape_among x (shaped y as' o ++ rest) ≡ shape_among x rest
unfolding shaped shape_among
look_past x y as' None rest other = refl
look_past x y as' (Some result) rest other =
    ap (λ b. if b then Some (let s : Shape = record { result = result; arguments = as' } in s) else shape_among x rest) other

look_at : (x y : Bytes) (as' : List Argument) (o : Option ShapeResult) (result : ShapeResult) (rest : List NamedShape) → bytes_eq y x ≡ true → o ≡ Some result →
    shape_among x (shaped y as' o ++ rest) ≡ Some (record { result = result; arguments = as' })
unfolding shaped shape_among
look_at x y as' None result rest same is = absurd (cc)
look_at x y as' (Some other) result rest same is =
    let eq : other ≡ result = cc in
    ap (λ b. if b then Some (let s : Shape = record { result = other; arguments = as' } in s) else shape_among x rest) same ∙
    ap (λ r. Some (let s : Shape = record { result = r; arguments = as' } in s)) eq

joined_none : (a b : Bool) → (a || b) ≡ false → (a ≡ false) × (b ≡ false)
joined_none true b none = absurd (cc)
joined_none false b none = (refl, none)

look_through : (u : WrittenUnit) (x : Bytes) (es : List EntryPoint) (rest : List NamedShape) → has_entry es x ≡ false →
    shape_among x (all_shaped u es ++ rest) ≡ shape_among x rest
unfolding all_shaped has_entry shaped_entry
look_through u x [] rest none = refl
look_through u x (e ∷ es) rest none =
    let h = joined_none (bytes_eq e.name x) (has_entry es x) none in
    ap (shape_among x) (append_assoc (shaped_entry u e) (all_shaped u es) rest) ∙
    (look_past x e.name (map (argument_of_formal u) e.formals) (result_of u e.name) (all_shaped u es ++ rest) h.0 ∙ look_through u x es rest h.1)

look_none : (u : WrittenUnit) (x : Bytes) (es : List EntryPoint) (rest : List NamedShape) → ((y : Bytes) → result_of u y ≡ None) →
    shape_among x (all_shaped u es ++ rest) ≡ shape_among x rest
unfolding all_shaped shaped_entry shaped
look_none u x [] rest none = refl
look_none u x (e ∷ es) rest none =
    ap (λ o. shape_among x ((shaped e.name (map (argument_of_formal u) e.formals) o ++ all_shaped u es) ++ rest)) (none e.name) ∙ look_none u x es rest none

-- the shape of an entry that is found by its name
pub record IsShaped (u : WrittenUnit) (x : Bytes) (e : EntryPoint) (shapes : List NamedShape) : Type 0 where
  pub name_is : e.name ≡ x
  pub result : ShapeResult
  pub result_is : result_of u e.name ≡ Some result
  pub shape_is : shape_among x shapes ≡ Some (record { result = result; arguments = map (argument_of_formal u) e.formals })

pub record HasResult (u : WrittenUnit) (y : Bytes) : Type 0 where
  pub result : ShapeResult
  pub result_is : result_of u y ≡ Some result

found_if : (u : WrittenUnit) (x : Bytes) (e found : EntryPoint) (es : List EntryPoint) (rest : List NamedShape) (b : Bool) → bytes_eq e.name x ≡ b →
    ((y : Bytes) → HasResult u y) → (if b then Some e else find (λ z. bytes_eq z.name x) es) ≡ Some found →
    (find (λ z. bytes_eq z.name x) es ≡ Some found → IsShaped u x found (all_shaped u es ++ rest)) → IsShaped u x found (all_shaped u (e ∷ es) ++ rest)
unfolding all_shaped shaped_entry
found_if u x e found es rest true same results is later =
    let eq : e ≡ found = cc in
    let r : HasResult u e.name = results e.name in
    subst (λ z. IsShaped u x z (all_shaped u (e ∷ es) ++ rest)) eq (record {
      name_is = (bytes_eq-Decides e.name x).0 same;
      result = r.result;
      result_is = r.result_is;
      shape_is = ap (shape_among x) (append_assoc (shaped_entry u e) (all_shaped u es) rest) ∙
          look_at x e.name (map (argument_of_formal u) e.formals) (result_of u e.name) r.result (all_shaped u es ++ rest) same r.result_is;
    })
found_if u x e found es rest false other results is later =
    let l : IsShaped u x found (all_shaped u es ++ rest) = later is in
    record {
      name_is = l.name_is;
      result = l.result;
      result_is = l.result_is;
      shape_is = ap (shape_among x) (append_assoc (shaped_entry u e) (all_shaped u es) rest) ∙
          (look_past x e.name (map (argument_of_formal u) e.formals) (result_of u e.name) (all_shaped u es ++ rest) other ∙ l.shape_is);
    }

found_shaped : (u : WrittenUnit) (x : Bytes) (e : EntryPoint) (es : List EntryPoint) (rest : List NamedShape) → ((y : Bytes) → HasResult u y) →
    find (λ z. bytes_eq z.name x) es ≡ Some e → IsShaped u x e (all_shaped u es ++ rest)
found_shaped u x e [] rest results is = absurd (cc)
found_shaped u x e (first ∷ es) rest results is =
    found_if u x first e es rest (bytes_eq first.name x) refl results is (λ later. found_shaped u x e es rest results later)

-- A UNIT. A unit without a name is found by none
nameless : (x : Bytes) → IsTrue (is_not_empty x) → bytes_eq [] x ≡ false
unfolding is_not_empty
nameless [] is = absurd (cc)
nameless (c ∷ cs) is = refl

own_entry : WrittenUnit → EntryPoint
own_entry u = record { name = name_or_none u.name; formals = formals_of u.dummies; start = 0 }

own_alike : (u : WrittenUnit) (x : Bytes) (o : Option Bytes) (rest : List NamedShape) → IsTrue (is_not_empty x) →
    shape_among x (own_procedure u o ++ rest) ≡ shape_among x (shaped_entry u (record { name = name_or_none o; formals = formals_of u.dummies; start = 0 }) ++ rest)
unfolding own_procedure name_or_none shaped_entry
own_alike u x None rest named =
    sym (look_past x [] (map (argument_of_formal u) (formals_of u.dummies)) (result_of u []) rest (nameless x named))
own_alike u x (Some y) rest named = ap (λ z. shape_among x (z ++ rest)) (procedure_alike u y u.dummies 0)

unit_alike : (u : WrittenUnit) (x : Bytes) (rest : List NamedShape) → IsTrue (is_not_empty x) →
    shape_among x (unit_procedures u ++ rest) ≡ shape_among x (all_shaped u (own_entry u ∷ entries_from 0 u.statements) ++ rest)
unfolding unit_procedures all_shaped own_entry
unit_alike u x rest named =
    let behind : List NamedShape = all_shaped u (entries_from 0 u.statements) in
    ap (λ z. shape_among x ((own_procedure u u.name ++ z) ++ rest)) (entries_alike u 0 u.statements) ∙
    (ap (shape_among x) (append_assoc (own_procedure u u.name) behind rest) ∙
    (own_alike u x u.name (behind ++ rest) named ∙ sym (ap (shape_among x) (append_assoc (shaped_entry u (own_entry u)) behind rest))))

-- what a unit is called as
data IsCalled (u : WrittenUnit) : Type 0 where
  by_entries : ((y : Bytes) → HasResult u y) → ((es : List EntryPoint) (x : Bytes) → (elim (unit_kind u) [ SubroutineUnit ↦ has_entry es x | FunctionUnit ↦ has_entry es x | _ ↦ false ]) ≡ has_entry es x) →
      IsCalled u
  by_none : ((y : Bytes) → result_of u y ≡ None) → ((es : List EntryPoint) (x : Bytes) → (elim (unit_kind u) [ SubroutineUnit ↦ has_entry es x | FunctionUnit ↦ has_entry es x | _ ↦ false ]) ≡ false) →
      IsCalled u

called_by : (u : WrittenUnit) (k : WrittenKind) → IsCalled (record u { kind = k })
unfolding result_of unit_kind
called_by u kind.Main = by_none (λ y. refl) (λ es x. refl)
called_by u kind.Subroutine = by_entries (λ y. record { result = Subroutine; result_is = refl }) (λ es x. refl)
called_by u (kind.Function spec) = by_entries (λ y. record { result = Function _; result_is = refl }) (λ es x. refl)
called_by u kind.BlockData = by_none (λ y. refl) (λ es x. refl)

-- A SET
pub record IsFoundShape (options : Options) (us : List WrittenUnit) (x : Bytes) (p : ProgramUnit) (e : EntryPoint) : Type 0 where
  pub written : WrittenUnit
  pub among : IsIn written us
  pub unit_is : p ≡ unit_read options written
  pub shape : IsShaped written x e (procedures_of us)

entry_is : (kind : UnitKind) (es : List EntryPoint) (x : Bytes) → entry_of kind es (Procedure x) ≡ find (λ e. bytes_eq e.name x) es
unfolding entry_of
entry_is MainProgram [] x = refl
entry_is MainProgram (e ∷ es) x = refl
entry_is SubroutineUnit es x = refl
entry_is FunctionUnit es x = refl
entry_is BlockDataUnit es x = refl

is_from : (from k : ℕ) → Some from ≡ Some k → from ≡ k
is_from from k is = cc

low_if : (S : List ProgramUnit) (from k : ℕ) (x : Bytes) (b : Bool) → (if b then Some from else found_from (suc from) S (Procedure x)) ≡ Some k →
    (found_from (suc from) S (Procedure x) ≡ Some k → suc from ≤ k) → from ≤ k
low_if S from k x true found later = le_of_eq (is_from from k found)
low_if S from k x false found later = omega (arith, later found)

found_low : (S : List ProgramUnit) (from k : ℕ) (x : Bytes) → found_from from S (Procedure x) ≡ Some k → from ≤ k
unfolding found_from
found_low [] from k x found = absurd (cc)
found_low (p ∷ S) from k x found = low_if S from k x (answers_to (Procedure x) p) found (λ later. found_low S (suc from) k x later)

-- what a unit that is read answers to
answers_read : (options : Options) (u : WrittenUnit) (x : Bytes) → answers_to (Procedure x) (unit_read options u) ≡
    (elim (unit_kind u) [
      | SubroutineUnit ↦ has_entry (own_entry u ∷ entries_from 0 u.statements) x
      | FunctionUnit ↦ has_entry (own_entry u ∷ entries_from 0 u.statements) x
      | _ ↦ false
    ])
unfolding answers_to unit_read with_ties program_of own_entry
answers_read options u x = refl

shape_here : (options : Options) (u : WrittenUnit) (us : List WrittenUnit) (x : Bytes) (e : EntryPoint) → IsTrue (is_not_empty x) → IsCalled u →
    answers_to (Procedure x) (unit_read options u) ≡ true → find (λ z. bytes_eq z.name x) (own_entry u ∷ entries_from 0 u.statements) ≡ Some e →
    IsShaped u x e (procedures_of (u ∷ us))
unfolding procedures_of
shape_here options u us x e named (by_none results none) answers is =
    absurd (let bad : false ≡ true = sym (none (own_entry u ∷ entries_from 0 u.statements) x) ∙ (sym (answers_read options u x) ∙ answers) in cc)
shape_here options u us x e named (by_entries results some) answers is =
    let found : IsShaped u x e (all_shaped u (own_entry u ∷ entries_from 0 u.statements) ++ procedures_of us) =
    found_shaped u x e (own_entry u ∷ entries_from 0 u.statements) (procedures_of us) results is in
    record { name_is = found.name_is; result = found.result; result_is = found.result_is; shape_is = unit_alike u x (procedures_of us) named ∙ found.shape_is }

shape_behind : (options : Options) (u : WrittenUnit) (us : List WrittenUnit) (x : Bytes) → IsTrue (is_not_empty x) → IsCalled u →
    answers_to (Procedure x) (unit_read options u) ≡ false → shape_among x (procedures_of (u ∷ us)) ≡ shape_among x (procedures_of us)
unfolding procedures_of
shape_behind options u us x named (by_none results none) answers =
    unit_alike u x (procedures_of us) named ∙ look_none u x (own_entry u ∷ entries_from 0 u.statements) (procedures_of us) results
shape_behind options u us x named (by_entries results some) answers =
    unit_alike u x (procedures_of us) named ∙
    look_through u x (own_entry u ∷ entries_from 0 u.statements) (procedures_of us)
    (sym (some (own_entry u ∷ entries_from 0 u.statements) x) ∙ (sym (answers_read options u x) ∙ answers))

entries_read : (options : Options) (u : WrittenUnit) → (unit_read options u).entries ≡ own_entry u ∷ entries_from 0 u.statements
unfolding own_entry unit_read with_ties program_of
entries_read options u = refl

pub some_same : {A : Type 0} (a b : A) → Some a ≡ Some b → a ≡ b
some_same a b same = cc

at_first : (options : Options) (u : WrittenUnit) (us : List WrittenUnit) (from k j : ℕ) (x : Bytes) (p : ProgramUnit) (e : EntryPoint) → IsTrue (is_not_empty x) →
    answers_to (Procedure x) (unit_read options u) ≡ true → from ≡ k → k ≡ from + j → slice_get (map (unit_read options) (u ∷ us)) j ≡ Some p →
    entry_of p.kind p.entries (Procedure x) ≡ Some e → IsFoundShape options (u ∷ us) x p e
at_first options u us from k zero x p e named answers here counted there entry =
    let same : unit_read options u ≡ p = some_same (unit_read options u) p there in
    let found : find (λ z. bytes_eq z.name x) (own_entry u ∷ entries_from 0 u.statements) ≡ Some e =
    subst (λ es. find (λ z. bytes_eq z.name x) es ≡ Some e) (entries_read options u)
    (subst (λ q. find (λ z. bytes_eq z.name x) q.entries ≡ Some e) (sym same) (sym (entry_is p.kind p.entries x) ∙ entry)) in
    record { written = u; among = first_in; unit_is = sym same; shape = shape_here options u us x e named (called_by u u.kind) answers found }
at_first options u us from k (suc j) x p e named answers here counted there entry = absurd (omega (arith, here, counted))

shape_if : (options : Options) (u : WrittenUnit) (us : List WrittenUnit) (from k j : ℕ) (x : Bytes) (p : ProgramUnit) (e : EntryPoint) (b : Bool) →
    answers_to (Procedure x) (unit_read options u) ≡ b → IsTrue (is_not_empty x) →
    (if b then Some from else found_from (suc from) (map (unit_read options) us) (Procedure x)) ≡ Some k → k ≡ from + j →
    slice_get (map (unit_read options) (u ∷ us)) j ≡ Some p → entry_of p.kind p.entries (Procedure x) ≡ Some e →
    ((i : ℕ) → j ≡ suc i → found_from (suc from) (map (unit_read options) us) (Procedure x) ≡ Some k → IsFoundShape options us x p e) →
    IsFoundShape options (u ∷ us) x p e
shape_if options u us from k j x p e true answers named found counted there entry later =
    at_first options u us from k j x p e named answers (is_from from k found) counted there entry
shape_if options u us from k zero x p e false answers named found counted there entry later =
    absurd (omega (arith, counted, found_low (map (unit_read options) us) (suc from) k x found))
shape_if options u us from k (suc i) x p e false answers named found counted there entry later =
    let l : IsFoundShape options us x p e = later i refl found in
    record {
      written = l.written;
      among = later_in l.among;
      unit_is = l.unit_is;
      shape = record {
        name_is = l.shape.name_is;
        result = l.shape.result;
        result_is = l.shape.result_is;
        shape_is = shape_behind options u us x named (called_by u u.kind) answers ∙ l.shape.shape_is;
      };
    }

units_shaped : (options : Options) (us : List WrittenUnit) (from k j : ℕ) (x : Bytes) (p : ProgramUnit) (e : EntryPoint) → IsTrue (is_not_empty x) →
    found_from from (map (unit_read options) us) (Procedure x) ≡ Some k → k ≡ from + j → slice_get (map (unit_read options) us) j ≡ Some p →
    entry_of p.kind p.entries (Procedure x) ≡ Some e → IsFoundShape options us x p e
unfolding found_from
units_shaped options [] from k j x p e named found counted there entry = absurd (cc)
units_shaped options (u ∷ us) from k j x p e named found counted there entry =
    shape_if options u us from k j x p e (answers_to (Procedure x) (unit_read options u)) refl named found counted there entry
    (λ i is later. units_shaped options us (suc from) k i x p e named later (omega (arith, counted, is))
    (subst (λ n. slice_get (map (unit_read options) (u ∷ us)) n ≡ Some p) is there) entry)

-- the units of a set are those that are written, each as it is read
pub units_alike : (options : Options) (fs : List File) → units_in options fs ≡ map (unit_read options) (all_units fs)
unfolding units_in all_units
units_alike options [] = refl
units_alike options (f ∷ fs) =
    ap (λ z. map (unit_read options) f.units ++ z) (units_alike options fs) ∙ sym (map-append (unit_read options) f.units (all_units fs))

pub procedure_shaped : (options : Options) (us : List WrittenUnit) (x : Bytes) (p : IsProcedure (map (unit_read options) us) x) →
    IsFoundShape options us x p.unit p.entry
procedure_shaped options us x p =
    units_shaped options us 0 p.place p.place x p.unit p.entry p.is_name p.found (omega arith) p.unit_is p.entry_is
