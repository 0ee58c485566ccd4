-- Rows of what is given, statement by statement, and the names of lists of dummy arguments and of common blocks.
use Rattle.std.specs.Prelude.{◌≡◌, ℕ, suc, Bool, true, false, not, ◌&&◌, ◌||◌, List, [], ◌∷◌, ◌++◌, bytes_eq, Option, None}
use Rattle.std.proofs.Common.{◌+◌, ◌-◌, ◌<◌, ◌≤◌, drop, drop-cons, get_or, length, refl, sym, ap, ◌∙◌, arith}
use Rattle.std.proofs.lemmas.List.{drop_all, append-nil}
use Rattle.std.specs.Borrow.{Bor}
use Rattle.f_tree.specs.Values.{Bytes}
use Rattle.f_tree.specs.Folds.{layer_of}
use Rattle.f_tree.specs.Uses.{is_among}
use Rattle.f_tree.specs.Facts.{Attribute}
use Rattle.f_tree.specs.declared.names.Class.{Class}
use Rattle.f_tree.specs.declared.names.Class.TheVariants as class
use Rattle.f_tree.specs.declared.refusals.Kind.{Kind}
use Rattle.f_tree.specs.declared.refusals.Kind.TheVariants.{ConflictingAttributes}
use Rattle.f_tree.specs.declared.statements.Body.{Body, Entry, Common, IfOne', more_of-Body}
use Rattle.f_tree.specs.declared.statements.Body.TheVariants as body
use Rattle.f_tree.specs.declared.statements.CommonGroup.{CommonGroup}
use Rattle.f_tree.specs.declared.statements.DummyArgument.{DummyArgument}
use Rattle.f_tree.specs.declared.statements.DummyArgument.TheVariants as dummy
use Rattle.f_tree.specs.declared.statements.Stmt.{Stmt}
use Rattle.f_tree.specs.declared.units.Unit.{Unit as WrittenUnit}
use Rattle.f_tree.specs.Attributes.{entry_dummies_in, named_dummies, option_list}
use Rattle.f_tree.specs.Lines.{common_in}
use Rattle.declaration_rows.specs.Judgement.{unless}
use Rattle.declaration_rows.specs.NameRows.{given_names, known_in, at_both, mentions}
use Rattle.declaration_rows.specs.GlobalRows.{block_names}
use Rattle.declaration_rows.specs.GivenRows.{Given, kept_from, no_name_twice, given_rows_from, refused_unit, heading_rows, heading_givens, has_underscore, is_block_in, is_variable_or_procedure, block_name_rows, all_block_names}
use Rattle.name_table.specs.Named.{texts}
use Rattle.name_table.proofs.SetLemmas.{among_both}
use Rattle.expression_judge.specs.declared.names.Names.{Names}
use Rattle.expression_judge.specs.SeenNames.{fact_in, AreSeen}
use Rattle.name_places.specs.declared.place.Place.{Place}
use Rattle.name_places.specs.FirstPlaces.{first_at, later, placed, unit_place, rows_at}
use Rattle.name_places.proofs.PlaceLemmas.{both_placed}
use Rattle.given_judge.specs.KeptSeen.{statement_rows, kept_behind}
use Rattle.given_judge.specs.BlocksSeen.{is_variable_class, is_alone}

-- STATEMENTS
pub given_rows_step : (u : WrittenUnit) (ks : List Given) (s : Stmt) (ss : List Stmt) → given_rows_from u ks (s ∷ ss) ≡ statement_rows u ks s ++ given_rows_from u (kept_behind u ks s) ss
unfolding given_rows_from statement_rows
given_rows_step u ks s ss = refl

pub given_rows_end : (u : WrittenUnit) (ks : List Given) → given_rows_from u ks [] ≡ []
unfolding given_rows_from
given_rows_end u ks = refl

pub heading_rows_are : (u : WrittenUnit) (place : Place) (b : Bool) → place ≡ placed u u.statements None
    → b ≡ ((kept_from [] (heading_givens u)).sound && no_name_twice (named_dummies u.dummies)) → rows_at place (unless b ConflictingAttributes) ≡ heading_rows u
unfolding heading_rows rows_at placed unit_place refused_unit
heading_rows_are u place b stands is =
    ap (λ (p : Place). rows_at p (unless b ConflictingAttributes)) stands ∙ ap (λ c. rows_at (placed u u.statements None) (unless c ConflictingAttributes)) is

pub entry_dummies_other : (b : Body) → ((x : Bytes) (ds : List DummyArgument) → b ≡ body.Entry x ds → ⊥) → no_name_twice (entry_dummies_in b) ≡ true
unfolding entry_dummies_in layer_of no_name_twice
entry_dummies_other (Entry x ds) other = absurd (other x ds refl)
entry_dummies_other (IfOne' e s (more_of-Body b r)) other = refl
entry_dummies_other _ other = refl

pub entry_dummies_are : (x : Bytes) (ds : List DummyArgument) → entry_dummies_in (body.Entry x ds) ≡ named_dummies ds
unfolding entry_dummies_in layer_of
entry_dummies_are x ds = refl

pub names_step : (d : DummyArgument) (ds : List DummyArgument) → named_dummies (d ∷ ds) ≡ named_dummies (d ∷ []) ++ named_dummies ds
unfolding named_dummies
names_step (dummy.Named x) ds = refl
names_step dummy.AlternateReturn ds = refl

pub names_end : named_dummies [] ≡ []
unfolding named_dummies
names_end = refl

-- TWICE
behind_is : (xs : List (Bor Bytes)) (i : ℕ) (x d : Bor Bytes) → i < length xs → x ≡ get_or xs (length xs - 1 - i) d
    → drop (length xs - (i + 1)) xs ≡ x ∷ drop (length xs - i) xs
behind_is xs i x d h is =
    let same : length xs - 1 - i ≡ length xs - (i + 1) = omega arith in
    let next : suc (length xs - (i + 1)) ≡ length xs - i = omega arith in
    drop-cons xs (length xs - (i + 1)) d (omega arith) ∙ ap (λ y. y ∷ drop (suc (length xs - (i + 1))) xs) (sym (is ∙ ap (λ k. get_or xs k d) same))
    ∙ ap (λ k. x ∷ drop k xs) next

pub twice_more : (xs : List (Bor Bytes)) (i : ℕ) (x d : Bor Bytes) (twice before after : Bool) → i < length xs → x ≡ get_or xs (length xs - 1 - i) d
    → before ≡ no_name_twice (texts (drop (length xs - i) xs)) → twice ≡ is_among x.now (texts (drop (length xs - i) xs)) → after ≡ (not twice && before)
    → after ≡ no_name_twice (texts (drop (length xs - (i + 1)) xs))
unfolding no_name_twice
twice_more xs i x d twice before after h is so_far among now =
    now ∙ ap (λ b. not b && before) among ∙ ap (λ b. not (is_among x.now (texts (drop (length xs - i) xs))) && b) so_far
    ∙ sym (ap (λ ys. no_name_twice (texts ys)) (behind_is xs i x d h is))

pub twice_none : (xs : List (Bor Bytes)) → true ≡ no_name_twice (texts (drop (length xs - 0) xs))
unfolding no_name_twice
twice_none xs = sym (ap (λ ys. no_name_twice (texts ys)) (drop_all (length xs - 0) xs (omega arith)))

pub twice_end : (xs : List (Bor Bytes)) (i : ℕ) (b : Bool) → length xs ≤ i → b ≡ no_name_twice (texts (drop (length xs - i) xs)) → b ≡ no_name_twice (texts xs)
twice_end xs i b h is = is ∙ ap (λ k. no_name_twice (texts (drop k xs))) (let e : length xs - i ≡ 0 = omega arith in e)

or_swap : (a b : Bool) → (a || (b || false)) ≡ (b || a)
or_swap true true = refl
or_swap true false = refl
or_swap false true = refl
or_swap false false = refl

among_swap : (q x : Bytes) (xs ys : List Bytes) → is_among q xs ≡ is_among q ys → is_among q (xs ++ x ∷ []) ≡ is_among q (x ∷ ys)
unfolding is_among
among_swap q x xs ys is = among_both q xs (x ∷ []) ∙ ap (λ b. b || (bytes_eq q x || false)) is ∙ or_swap (is_among q ys) (bytes_eq q x)

pub among_more : (xs : List (Bor Bytes)) (i : ℕ) (x d : Bor Bytes) (q : Bytes) (before after : List Bytes) → i < length xs → x ≡ get_or xs (length xs - 1 - i) d
    → is_among q before ≡ is_among q (texts (drop (length xs - i) xs)) → after ≡ before ++ x.now ∷ []
    → is_among q after ≡ is_among q (texts (drop (length xs - (i + 1)) xs))
among_more xs i x d q before after h is so_far put =
    ap (is_among q) put ∙ among_swap q x.now before (texts (drop (length xs - i) xs)) so_far ∙ sym (ap (λ ys. is_among q (texts ys)) (behind_is xs i x d h is))

pub among_none : (xs : List (Bor Bytes)) (q : Bytes) (before : List Bytes) → before ≡ [] → is_among q before ≡ is_among q (texts (drop (length xs - 0) xs))
among_none xs q before is = ap (is_among q) is ∙ sym (ap (λ ys. is_among q (texts ys)) (drop_all (length xs - 0) xs (omega arith)))

-- BLOCKS
pub common_other : (b : Body) → ((gs : List CommonGroup) → b ≡ body.Common gs → ⊥) → block_names (common_in b) ≡ []
unfolding common_in layer_of block_names
common_other (Common gs) other = absurd (other gs refl)
common_other (IfOne' e s (more_of-Body b r)) other = refl
common_other _ other = refl

pub common_is : (gs : List CommonGroup) → common_in (body.Common gs) ≡ gs
unfolding common_in layer_of
common_is gs = refl

pub groups_step : (g : CommonGroup) (gs : List CommonGroup) → block_names (g ∷ gs) ≡ option_list g.block ++ block_names gs
unfolding block_names
groups_step g gs = refl

pub groups_end : block_names [] ≡ []
unfolding block_names
groups_end = refl

pub statements_step : (s : Stmt) (ss : List Stmt) → all_block_names (s ∷ ss) ≡ block_names (common_in s.body) ++ all_block_names ss
unfolding all_block_names
statements_step s ss = refl

pub statements_end : all_block_names [] ≡ []
unfolding all_block_names
statements_end = refl

class_cases : (c : Class) → is_variable_class c ≡ elim c [ class.Stored ↦ true | class.Dummy ↦ true | class.Result ↦ true | class.DummyProcedure ↦ true | _ ↦ false ]
unfolding is_variable_class
class_cases class.Stored = refl
class_cases class.Dummy = refl
class_cases class.Result = refl
class_cases class.DummyProcedure = refl
class_cases class.Constant = refl
class_cases class.Procedure = refl
class_cases class.StatementFunction = refl
class_cases class.Intrinsic = refl
class_cases class.Unit = refl

class_alone : (c : Class) (a : Attribute) → c ≡ a.class → is_variable_class c ≡ is_variable_or_procedure a
unfolding is_variable_or_procedure
class_alone c a is = ap is_variable_class is ∙ class_cases a.class

pub block_rows_step : (u : WrittenUnit) (x : Bytes) (xs : List Bytes) → block_name_rows u (x ∷ xs) ≡ block_name_rows u (x ∷ []) ++ block_name_rows u xs
unfolding block_name_rows
block_rows_step u x xs =
    ap (λ rows. rows ++ block_name_rows u xs)
    (sym
    (append-nil (at_both u (is_block_in x) (mentions u x) u.statements (unless (not (has_underscore x && is_variable_or_procedure (given_names u x))) ConflictingAttributes))))

pub block_rows_end : (u : WrittenUnit) → block_name_rows u [] ≡ []
unfolding block_name_rows
block_rows_end u = refl

-- the row of a name by its class and by the first statements with the block and with the name
pub block_row_is : (u : WrittenUnit) (x : Bytes) (c : Class) (one other at : Option ℕ) (place : Place) → c ≡ (given_names u x).class → one ≡ first_at (is_block_in x) u.statements
    → other ≡ first_at (mentions u x) u.statements → at ≡ later one other → place ≡ placed u u.statements at
    → rows_at place (unless (not (has_underscore x && is_variable_class c)) ConflictingAttributes) ≡ block_name_rows u (x ∷ [])
unfolding block_name_rows
block_row_is u x c one other at place is first second now stands =
    let kinds : List Kind = unless (not (has_underscore x && is_variable_or_procedure (given_names u x))) ConflictingAttributes in
    ap (λ b. rows_at place (unless (not (has_underscore x && b)) ConflictingAttributes)) (class_alone c (given_names u x) is)
    ∙ ap (λ (p : Place). rows_at p kinds)
    (stands ∙ ap (placed u u.statements) (now ∙ ap (λ (o : Option ℕ). later o other) first ∙ ap (later (first_at (is_block_in x) u.statements)) second))
    ∙ sym (both_placed u (is_block_in x) (mentions u x) u.statements kinds) ∙ sym (append-nil (at_both u (is_block_in x) (mentions u x) u.statements kinds))

pub class_seen : (u : WrittenUnit) (names : Names) (x : Bytes) → AreSeen (known_in u) names → (fact_in names x).class ≡ (given_names u x).class
unfolding known_in
class_seen u names x seen = (seen.facts x).class

pub alone_row_is : (u : WrittenUnit) (names : Names) (x : Bytes) (alone : Bool) (one other at : Option ℕ) (place : Place) → AreSeen (known_in u) names → alone ≡ is_alone names x
    → one ≡ first_at (is_block_in x) u.statements → other ≡ first_at (mentions u x) u.statements → at ≡ later one other → place ≡ placed u u.statements at
    → rows_at place (unless alone ConflictingAttributes) ≡ block_name_rows u (x ∷ [])
unfolding is_alone
alone_row_is u names x alone one other at place seen is first second now stands =
    ap (λ b. rows_at place (unless b ConflictingAttributes)) is
    ∙ block_row_is u x (fact_in names x).class one other at place (class_seen u names x seen) first second now stands

-- nothing is put behind a list
pub nothing_put : {A : Type 0} (xs ys : List A) → ys ≡ [] → xs ≡ xs ++ ys
nothing_put xs ys none = sym (ap (λ zs. xs ++ zs) none ∙ append-nil xs)

-- what stands past the end of a list of texts
abbrev pub no_text : Bor Bytes
no_text = record { ref_ptr = (0, 0); now = [] }
