-- What the statements of a unit say of its entries and of its storage.
use Rattle.std.proofs.Common.{◌≡◌, ℕ, suc, Bool, true, false, ◌&&◌, ◌↔◌, IsTrue, List, [], ◌∷◌, ◌++◌, refl, sym, ap, ◌∙◌}
use Rattle.std.specs.List.{list_all}
use Rattle.f_tree.specs.declared.statements.Body.{Body, Common, Equivalence, Init, Entry, IfOne', more_of-Body}
use Rattle.f_tree.specs.declared.statements.Body.TheVariants as body
use Rattle.f_tree.specs.declared.statements.CommonGroup.{CommonGroup}
use Rattle.f_tree.specs.declared.statements.EquivalenceGroup.{EquivalenceGroup}
use Rattle.f_tree.specs.declared.statements.DataGroup.{DataGroup}
use Rattle.f_tree.specs.declared.statements.DummyArgument.{DummyArgument}
use Rattle.f_tree.specs.declared.statements.Stmt.{Stmt}
use Rattle.f_tree.specs.declared.units.Unit.{Unit as WrittenUnit}
use Rattle.f_tree.specs.Values.{Bytes}
use Rattle.f_tree.specs.Folds.{layer_of}
use Rattle.f_tree.specs.Attributes.{from_all}
use Rattle.f_tree.specs.Lines.{entry_in, entries_from, common_in, equivalence_in, data_in}
use Rattle.plain_forms.specs.PlainUnits.{has_none, has_one_entry, has_own_storage}
use Rattle.plain_names.specs.PlainStatements.{is_no_entry, keeps_storage_apart}

pub none_known : {A : Type 0} (r : Bool) (xs : List A) → (IsTrue r ↔ (xs ≡ [])) → r ≡ has_none xs
unfolding has_none
none_known true [] h = refl
none_known true (x ∷ xs) h = absurd (let e : x ∷ xs ≡ [] = h.0 refl in cc)
none_known false [] h = h.1 refl
none_known false (x ∷ xs) h = refl

none-append : {A : Type 0} (xs ys : List A) → has_none (xs ++ ys) ≡ has_none xs && has_none ys
unfolding has_none
none-append [] ys = refl
none-append (x ∷ xs) ys = refl

-- ## Entries

pub entry : (x : Bytes) (ds : List DummyArgument) → has_none (entry_in 0 (body.Entry x ds)) ≡ false
unfolding entry_in layer_of has_none
entry x ds = refl

pub no-entry : (b : Body) → ((x : Bytes) (ds : List DummyArgument) → b ≡ body.Entry x ds → ⊥) → has_none (entry_in 0 b) ≡ true
unfolding entry_in layer_of has_none
no-entry (Entry x ds) other = absurd (other x ds refl)
no-entry (IfOne' e s (more_of-Body b r)) other = refl
no-entry _ other = refl

wherever : (i : ℕ) (b : Body) → has_none (entry_in i b) ≡ has_none (entry_in 0 b)
unfolding entry_in layer_of has_none
wherever i (Entry x ds) = refl
wherever i (IfOne' e s (more_of-Body b r)) = refl
wherever i _ = refl

pub entries-known : (i : ℕ) (ss : List Stmt) → has_none (entries_from i ss) ≡ list_all is_no_entry ss
unfolding entries_from is_no_entry has_none
entries-known i [] = refl
entries-known i (s ∷ ss) =
    none-append (entry_in i s.body) (entries_from (suc i) ss)
    ∙ ap (λ t. t && has_none (entries_from (suc i) ss)) (wherever i s.body)
    ∙ ap (λ t. has_none (entry_in 0 s.body) && t) (entries-known (suc i) ss)

-- ## Storage

pub apart-Common : (gs : List CommonGroup) → has_none (common_in (body.Common gs)) && (has_none (equivalence_in (body.Common gs)) && has_none (data_in (body.Common gs))) ≡ has_none gs
unfolding common_in equivalence_in data_in layer_of has_none
apart-Common [] = refl
apart-Common (g ∷ gs) = refl

pub apart-Equivalence : (gs : List EquivalenceGroup) →
    has_none (common_in (body.Equivalence gs)) && (has_none (equivalence_in (body.Equivalence gs)) && has_none (data_in (body.Equivalence gs))) ≡ has_none gs
unfolding common_in equivalence_in data_in layer_of has_none
apart-Equivalence [] = refl
apart-Equivalence (g ∷ gs) = refl

pub apart-Init : (gs : List DataGroup) → has_none (common_in (body.Init gs)) && (has_none (equivalence_in (body.Init gs)) && has_none (data_in (body.Init gs))) ≡ has_none gs
unfolding common_in equivalence_in data_in layer_of has_none
apart-Init [] = refl
apart-Init (g ∷ gs) = refl

pub apart-other : (b : Body) → ((gs : List CommonGroup) → b ≡ body.Common gs → ⊥) → ((gs : List EquivalenceGroup) → b ≡ body.Equivalence gs → ⊥) → ((gs : List DataGroup) → b ≡ body.Init gs → ⊥) →
    has_none (common_in b) && (has_none (equivalence_in b) && has_none (data_in b)) ≡ true
unfolding common_in equivalence_in data_in layer_of has_none
apart-other (Common gs) one two three = absurd (one gs refl)
apart-other (Equivalence gs) one two three = absurd (two gs refl)
apart-other (Init gs) one two three = absurd (three gs refl)
apart-other (IfOne' e s (more_of-Body b r)) one two three = refl
apart-other _ one two three = refl

pub apart-by : (s : Stmt) (b : Body) → s.body ≡ b → keeps_storage_apart s ≡ has_none (common_in b) && (has_none (equivalence_in b) && has_none (data_in b))
unfolding keeps_storage_apart
apart-by s b is = ap (λ c. has_none (common_in c) && (has_none (equivalence_in c) && has_none (data_in c))) is

pub entry-by : (s : Stmt) (b : Body) → s.body ≡ b → is_no_entry s ≡ has_none (entry_in 0 b)
unfolding is_no_entry
entry-by s b is = ap (λ c. has_none (entry_in 0 c)) is

pub apart-same : (s : Stmt) → keeps_storage_apart s ≡ has_none (common_in s.body) && (has_none (equivalence_in s.body) && has_none (data_in s.body))
unfolding keeps_storage_apart
apart-same s = refl

pub entry-same : (s : Stmt) → is_no_entry s ≡ has_none (entry_in 0 s.body)
unfolding is_no_entry
entry-same s = refl

regrouped : (a b c x y z : Bool) → (a && x) && ((b && y) && (c && z)) ≡ (a && (b && c)) && (x && (y && z))
regrouped false b c x y z = refl
regrouped true false c false y z = refl
regrouped true false c true y z = refl
regrouped true true false false y z = refl
regrouped true true false true false z = refl
regrouped true true false true true z = refl
regrouped true true true x y z = refl

none-more : {A : Type 0} (f : Body → List A) (s : Stmt) (ss : List Stmt) → has_none (from_all f (s ∷ ss)) ≡ has_none (f s.body) && has_none (from_all f ss)
unfolding from_all
none-more f s ss = none-append (f s.body) (from_all f ss)

storage-of : (ss : List Stmt) →
    has_none (from_all common_in ss) && (has_none (from_all equivalence_in ss) && has_none (from_all data_in ss)) ≡ list_all keeps_storage_apart ss
unfolding from_all has_none keeps_storage_apart
storage-of [] = refl
storage-of (s ∷ ss) =
    ap (λ t. t && (has_none (from_all equivalence_in (s ∷ ss)) && has_none (from_all data_in (s ∷ ss)))) (none-more common_in s ss)
    ∙ ap (λ t. (has_none (common_in s.body) && has_none (from_all common_in ss)) && (t && has_none (from_all data_in (s ∷ ss)))) (none-more equivalence_in s ss)
    ∙ ap (λ t. (has_none (common_in s.body) && has_none (from_all common_in ss)) && ((has_none (equivalence_in s.body) && has_none (from_all equivalence_in ss)) && t)) (none-more data_in s ss)
    ∙ regrouped (has_none (common_in s.body)) (has_none (equivalence_in s.body)) (has_none (data_in s.body)) (has_none (from_all common_in ss)) (has_none (from_all equivalence_in ss)) (has_none (from_all data_in ss))
    ∙ ap (λ t. (has_none (common_in s.body) && (has_none (equivalence_in s.body) && has_none (data_in s.body))) && t) (storage-of ss)

pub one-entry : (u : WrittenUnit) (t : Bool) → t ≡ has_none u.dummies → t && list_all is_no_entry u.statements ≡ has_one_entry u
unfolding has_one_entry
one-entry u t is = ap (λ b. b && list_all is_no_entry u.statements) is ∙ ap (λ b. has_none u.dummies && b) (sym (entries-known 0 u.statements))

pub storage-known : (u : WrittenUnit) → list_all keeps_storage_apart u.statements ≡ has_own_storage u
unfolding has_own_storage
storage-known u = sym (storage-of u.statements)
