-- References one behind the other, each by the first one of its procedure.
use Rattle.std.specs.Prelude.{◌≡◌, ℕ, Bool, true, false, List, [], ◌∷◌, ◌++◌, map, bytes_eq, Option, Some, None, option_map, is_some, if◌then◌else◌}
use Rattle.std.specs.Borrow.{Bor}
use Rattle.std.proofs.Common.{Result, Ok, Err, OnOk, refl, sym, ap, ◌∙◌, append_assoc}
use Rattle.std.proofs.lemmas.List.{append-nil, map-append}
use Rattle.std.proofs.lemmas.Slice.Eq.{bytes_eq-Decides}
use Rattle.f_tree.specs.declared.refusals.Kind.{Kind}
use Rattle.f_tree.specs.declared.refusals.Kind.TheVariants.{TwoShapesOfCall}
use Rattle.f_tree.specs.declared.refusals.Refusal.{Refusal}
use Rattle.f_tree.specs.declared.statements.Stmt.{Stmt}
use Rattle.f_tree.specs.declared.units.Unit.{Unit as WrittenUnit}
use Rattle.f_tree.specs.Values.{Bytes}
use Rattle.declaration_rows.specs.Judgement.{unless}
use Rattle.declaration_rows.specs.NameRows.{stood}
use Rattle.declaration_rows.specs.ReferenceRows as rows
use Rattle.declaration_rows.specs.ReferenceRows.{agrees_with, first_arguments, shape_rows, shapes_rows, references_of_statement}
use Rattle.name_table.specs.declared.NameTable.{NameTable}
use Rattle.name_table.specs.Named.{value_of}
use Rattle.reference_judge.specs.declared.arguments.ArgumentKind.{ArgumentKind}
use Rattle.reference_judge.specs.declared.references.Reference.{Reference}
use Rattle.reference_judge.specs.ArgumentsSeen.{kind_in}
use Rattle.reference_judge.specs.FirstShapes.{agrees, first_in, first_or, shape_row, rows_from}
use Rattle.reference_judge.specs.ReferencesSeen.{Located, located_of, at, located_from}

abbrev Kinds : Type 0
Kinds = List rows.ArgumentKind

-- THE FIRST REFERENCE of a procedure
else_by : (b c : Bool) (k more : Kinds) (o : Option Kinds) → (if b then Some k else first_or o c more) ≡ first_or (if b then Some k else o) c more
unfolding first_or
else_by true c k more o = refl
else_by false c k more o = refl

last_by : (b : Bool) (k : Kinds) → (if b then Some k else None) ≡ first_or None b k
unfolding first_or
last_by true k = refl
last_by false k = refl

pub first_more : (x : Bytes) (before : List rows.Reference) (r : rows.Reference)
    → first_arguments x (before ++ r ∷ []) ≡ first_or (first_arguments x before) (bytes_eq r.name x) r.arguments
unfolding first_arguments
first_more x [] r = last_by (bytes_eq r.name x) r.arguments
first_more x (q ∷ before) r =
    ap (λ (o : Option Kinds). if bytes_eq q.name x then Some q.arguments else o) (first_more x before r)
    ∙ else_by (bytes_eq q.name x) (bytes_eq r.name x) q.arguments r.arguments (first_arguments x before)

pub first_none : (table : NameTable (Bor (List ArgumentKind))) (x : Bytes) → value_of table x ≡ None → first_in table x ≡ first_arguments x []
unfolding first_in first_arguments
first_none table x is = ap (λ (o : Option (Bor (List ArgumentKind))). option_map (λ kinds. map kind_in kinds.now) o) is

kept_by : (o : Option Kinds) (b : Bool) (more : Kinds) → (b ≡ true → is_some o ≡ true) → o ≡ first_or o b more
unfolding first_or
kept_by (Some k) b more h = refl
kept_by None true more h = absurd (let no : false ≡ true = h refl in cc)
kept_by None false more h = refl

some_mapped : (o : Option (Bor (List ArgumentKind))) (k : Bor (List ArgumentKind)) → Some k ≡ o → is_some (option_map (λ (kinds : Bor (List ArgumentKind)). map kind_in kinds.now) o) ≡ true
some_mapped (Some j) k is = refl
some_mapped None k is = absurd (cc)

-- a procedure that has been referenced
pub noted_before : (table : NameTable (Bor (List ArgumentKind))) (name x : Bytes) (k : Bor (List ArgumentKind)) (more : Kinds) → Some k ≡ value_of table name
    → first_in table x ≡ first_or (first_in table x) (bytes_eq name x) more
unfolding first_in
noted_before table name x k more is =
    kept_by (option_map (λ (kinds : Bor (List ArgumentKind)). map kind_in kinds.now) (value_of table x)) (bytes_eq name x) more
    (λ same. some_mapped (value_of table x) k (is ∙ ap (value_of table) ((bytes_eq-Decides name x).0 same)))

put_by : (b : Bool) (o : Option (Bor (List ArgumentKind))) (k : Bor (List ArgumentKind)) → (b ≡ true → None ≡ o)
    → option_map (λ (kinds : Bor (List ArgumentKind)). map kind_in kinds.now) (if b then Some k else o) ≡ first_or (option_map (λ (kinds : Bor (List ArgumentKind)). map kind_in kinds.now) o) b (map kind_in k.now)
unfolding first_or
put_by true None k h = refl
put_by true (Some j) k h = absurd (let no : None ≡ Some j = h refl in cc)
put_by false None k h = refl
put_by false (Some j) k h = refl

-- and one that has not been
noted_now : (old new : NameTable (Bor (List ArgumentKind))) (name x : Bytes) (k : Bor (List ArgumentKind)) (kinds : List ArgumentKind) → None ≡ value_of old name → k.now ≡ kinds
    → value_of new x ≡ (if bytes_eq name x then Some k else value_of old x) → first_in new x ≡ first_or (first_in old x) (bytes_eq name x) (map kind_in kinds)
unfolding first_in
noted_now old new name x k kinds none is put =
    ap (λ (o : Option (Bor (List ArgumentKind))). option_map (λ (ks : Bor (List ArgumentKind)). map kind_in ks.now) o) put
    ∙ put_by (bytes_eq name x) (value_of old x) k (λ same. none ∙ ap (value_of old) ((bytes_eq-Decides name x).0 same))
    ∙ ap (λ (ks : List ArgumentKind). first_or (option_map (λ (ls : Bor (List ArgumentKind)). map kind_in ls.now) (value_of old x)) (bytes_eq name x) (map kind_in ks)) is

pub noted_ok : {A E : Type 0} (r : Result A E) (old new : NameTable (Bor (List ArgumentKind))) (name : Bytes) (k : Bor (List ArgumentKind)) (kinds : List ArgumentKind) → None ≡ value_of old name → k.now ≡ kinds
    → OnOk r ((q : List ℕ) → value_of new q ≡ (if bytes_eq name q then Some k else value_of old q))
    → OnOk r ((x : List ℕ) → first_in new x ≡ first_or (first_in old x) (bytes_eq name x) (map kind_in kinds))
noted_ok (Ok v) old new name k kinds none is put = λ x. noted_now old new name x k kinds none is (put x)
noted_ok (Err v) old new name k kinds none is put = put

-- ROWS
agrees_by : (o : Option (Bor (List ArgumentKind))) (kinds : List ArgumentKind) → agrees o kinds ≡ agrees_with (option_map (λ (ks : Bor (List ArgumentKind)). map kind_in ks.now) o) (map kind_in kinds)
unfolding agrees agrees_with
agrees_by None kinds = refl
agrees_by (Some k) kinds = refl

pub row_is : (table : NameTable (Bor (List ArgumentKind))) (r : Reference) (o : Option (Bor (List ArgumentKind))) (kinds : List ArgumentKind) (b : Bool) → o ≡ value_of table r.name.now
    → kinds ≡ r.arguments.items → b ≡ agrees o kinds → stood r.statement.now (unless b TwoShapesOfCall) ≡ shape_row (first_in table r.name.now) (located_of r)
unfolding shape_row first_in located_of
row_is table r o kinds b found same is =
    ap (λ (c : Bool). stood r.statement.now (unless c TwoShapesOfCall))
    (is ∙ ap (λ (p : Option (Bor (List ArgumentKind))). agrees p kinds) found ∙ ap (agrees (value_of table r.name.now)) same ∙ agrees_by (value_of table r.name.now) r.arguments.items)

pub rows_step : (before : List rows.Reference) (r : Reference) (ls : List Located)
    → rows_from before (located_of r ∷ ls) ≡ shape_row (first_arguments r.name.now before) (located_of r) ++ rows_from (before ++ (located_of r).reference ∷ []) ls
unfolding rows_from located_of
rows_step before r ls = refl

pub rows_end : (before : List rows.Reference) → rows_from before [] ≡ []
unfolding rows_from
rows_end before = refl

stood_append : (s : Stmt) (ks ls : List Kind) → stood s (ks ++ ls) ≡ stood s ks ++ stood s ls
unfolding stood
stood_append s ks ls = map-append (λ (k : Kind). record { file = s.file; card = s.card; kind = k }) ks ls

one_row : (before : List rows.Reference) (s : Stmt) (r : rows.Reference) (ls : List Located)
    → rows_from before (record { statement = s; reference = r } ∷ ls)
    ≡ stood s (unless (agrees_with (first_arguments r.name before) r.arguments) TwoShapesOfCall) ++ rows_from (before ++ r ∷ []) ls
unfolding rows_from shape_row
one_row before s r ls = refl

at_step : (s : Stmt) (r : rows.Reference) (rs : List rows.Reference) (ls : List Located) → at s (r ∷ rs) ++ ls ≡ record { statement = s; reference = r } ∷ (at s rs ++ ls)
unfolding at
at_step s r rs ls = refl

no_rows : (before : List rows.Reference) (s : Stmt) (ls : List Located) → rows_from before (at s [] ++ ls) ≡ stood s (shape_rows before []) ++ rows_from (before ++ []) ls
unfolding at shape_rows stood
no_rows before s ls = ap (λ (b : List rows.Reference). rows_from b ls) (sym (append-nil before))

shape_step : (before : List rows.Reference) (r : rows.Reference) (rs : List rows.Reference)
    → shape_rows before (r ∷ rs) ≡ unless (agrees_with (first_arguments r.name before) r.arguments) TwoShapesOfCall ++ shape_rows (before ++ r ∷ []) rs
unfolding shape_rows
shape_step before r rs = refl

statement_rows : (before : List rows.Reference) (s : Stmt) (rs : List rows.Reference) (ls : List Located)
    → rows_from before (at s rs ++ ls) ≡ stood s (shape_rows before rs) ++ rows_from (before ++ rs) ls
statement_rows before s [] ls = no_rows before s ls
statement_rows before s (r ∷ rs) ls =
    let row = unless (agrees_with (first_arguments r.name before) r.arguments) TwoShapesOfCall in
    let more = before ++ r ∷ [] in
    ap (rows_from before) (at_step s r rs ls) ∙ one_row before s r (at s rs ++ ls)
    ∙ ap (λ (found : List Refusal). stood s row ++ found) (statement_rows more s rs ls)
    ∙ sym (append_assoc (stood s row) (stood s (shape_rows more rs)) (rows_from (more ++ rs) ls))
    ∙ ap (λ (found : List Refusal). found ++ rows_from (more ++ rs) ls) (sym (stood_append s row (shape_rows more rs)) ∙ ap (stood s) (sym (shape_step before r rs)))
    ∙ ap (λ (b : List rows.Reference). stood s (shape_rows before (r ∷ rs)) ++ rows_from b ls) (append_assoc before (r ∷ []) rs)

pub unit_rows : (u : WrittenUnit) (before : List rows.Reference) (ss : List Stmt) → rows_from before (located_from u ss) ≡ shapes_rows u before ss
unfolding located_from shapes_rows
unit_rows u before [] = rows_end before
unit_rows u before (s ∷ ss) =
    statement_rows before s (references_of_statement u s.body) (located_from u ss)
    ∙ ap (λ (found : List Refusal). stood s (shape_rows before (references_of_statement u s.body)) ++ found) (unit_rows u (before ++ references_of_statement u s.body) ss)
