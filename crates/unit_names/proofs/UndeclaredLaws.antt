-- The rows of the names of a unit that are not declared, name by name, are those that statements add one after the other.
use Rattle.std.specs.Prelude.{◌≡◌, Bool, true, false, not, ◌||◌, List, [], ◌∷◌, ◌++◌, map, bytes_eq, Option, Some, None, if◌then◌else◌}
use Rattle.std.proofs.Common.{refl, sym, ap, ◌∙◌}
use Rattle.std.specs.List.{list_any}
use Rattle.std.proofs.lemmas.List.{append-nil, append_assoc, map-append}
use Rattle.std.proofs.lemmas.List.Folds.{list_any-append}
use Rattle.std.proofs.lemmas.Slice.Eq.{bytes_eq-Decides}
use Rattle.f_tree.specs.declared.names.Class.{Class}
use Rattle.f_tree.specs.declared.names.Class.TheVariants as class
use Rattle.f_tree.specs.declared.refusals.Kind.{Kind}
use Rattle.f_tree.specs.declared.refusals.Kind.TheVariants.{NameNotDeclared}
use Rattle.f_tree.specs.declared.refusals.Refusal.{Refusal}
use Rattle.f_tree.specs.declared.statements.Body.{Body}
use Rattle.f_tree.specs.declared.statements.Stmt.{Stmt}
use Rattle.f_tree.specs.declared.units.Unit.{Unit as WrittenUnit}
use Rattle.f_tree.specs.Values.{Bytes}
use Rattle.f_tree.specs.Facts.{Attribute}
use Rattle.f_tree.specs.Uses.{Use, Declared, is_among, all_of, uses_of_body, uses_of_statements, seen_from, first_seen}
use Rattle.f_tree.specs.Attributes.{from_all, option_list, named_dummies, entry_names_in, entry_dummies_in, arrays_of, own_names, all_dummies, class_of, Constant, Expansion, with_class, with_dimensions, without_expansion, with_expansions, attribute_of, described, attribute_in, names_of, all_described}
use Rattle.declaration_rows.specs.Judgement.{unless}
use Rattle.declaration_rows.specs.NameRows.{given_names, all_names, stood, is_referenced, at_first, mentions, first_statements}
use Rattle.declaration_rows.specs.UndeclaredRows.{has_type, is_declared, undeclared_name_rows}
use Rattle.name_table.proofs.SetLemmas.{among_both}
use Rattle.name_table.proofs.Texts.{bytes_eq_flip}
use Rattle.name_classes.specs.KnownSigns.{unit_uses}
use Rattle.unit_names.specs.Undeclared.{class_has_type, stands, head_row, own_rows, row_at, if_new, new_rows, use_names, statement_names, statements_rows}

by_bool : (P : Type 0) (b : Bool) → (b ≡ true → P) → (b ≡ false → P) → P
by_bool P true yes' no' = yes' refl
by_bool P false yes' no' = no' refl

or_right : (a b : Bool) → b ≡ true → (a || b) ≡ true
or_right true b h = refl
or_right false b h = h

or_left : (a b : Bool) → a ≡ true → (a || b) ≡ true
or_left true b h = refl
or_left false b h = absurd (cc)

not_left : (a b : Bool) → (a || b) ≡ false → a ≡ false
not_left true b h = absurd (cc)
not_left false b h = refl

not_right : (a b : Bool) → (a || b) ≡ false → b ≡ false
not_right true b h = absurd (cc)
not_right false b h = h

-- MEMBERSHIP
among_head : (x : Bytes) (xs : List Bytes) → is_among x (x ∷ xs) ≡ true
unfolding is_among
among_head x xs = ap (λ b. b || is_among x xs) ((bytes_eq-Decides x x).1 refl)

among_later : (x y : Bytes) (xs : List Bytes) → is_among x xs ≡ true → is_among x (y ∷ xs) ≡ true
unfolding is_among
among_later x y xs h = or_right (bytes_eq x y) (is_among x xs) h

among_step : (x y : Bytes) (xs : List Bytes) → is_among x (y ∷ xs) ≡ (bytes_eq x y || is_among x xs)
unfolding is_among
among_step x y xs = refl

-- NAMES AS THEY ARE GIVEN
found_by : (b : Bool) (x y : Bytes) (here own rest : Attribute) → (b ≡ true → here ≡ own) → (b ≡ false → rest ≡ own) → (if b then here else rest) ≡ own
found_by true x y here own rest found later = found refl
found_by false x y here own rest found later = later refl

described_by : (u : WrittenUnit) (uses : List Use) (cs : List Constant) (es : List Expansion) (xs : List Bytes) (x : Bytes) → is_among x xs ≡ true
    → attribute_in (described u uses cs es xs) x ≡ attribute_of u uses cs es x
unfolding described attribute_in is_among
described_by u uses cs es [] x among = absurd (cc)
described_by u uses cs es (y ∷ ys) x among =
    found_by (bytes_eq y x) x y (attribute_of u uses cs es y) (attribute_of u uses cs es x) (attribute_in (described u uses cs es ys) x)
    (λ same. ap (attribute_of u uses cs es) ((bytes_eq-Decides y x).0 same))
    (λ other. described_by u uses cs es ys x (sym (ap (λ b. b || is_among x ys) (bytes_eq_flip x y ∙ other)) ∙ among))

class_given : (u : WrittenUnit) (x : Bytes) → is_among x (all_names u) ≡ true → (given_names u x).class ≡ class_of u (unit_uses u) x
unfolding given_names all_names all_described attribute_of with_expansions without_expansion with_dimensions with_class
class_given u x among = ap (λ (a : Attribute). a.class) (described_by u (unit_uses u) _ _ (names_of u (unit_uses u)) x among)

type_by : (referenced : Bool) (a : Attribute) (c : Class) → has_type referenced (record a { class = c }) ≡ class_has_type referenced c
unfolding has_type class_has_type
type_by referenced a class.Stored = refl
type_by referenced a class.Dummy = refl
type_by referenced a class.Result = refl
type_by referenced a class.StatementFunction = refl
type_by referenced a class.Procedure = refl
type_by referenced a class.DummyProcedure = refl
type_by referenced a class.Constant = refl
type_by referenced a class.Unit = refl
type_by referenced a class.Intrinsic = refl

type_given : (u : WrittenUnit) (x : Bytes) → is_among x (all_names u) ≡ true → (not (has_type (is_referenced u x) (given_names u x)) || is_declared u x) ≡ stands u x
unfolding stands
type_given u x among =
    ap (λ b. not b || is_declared u x) (type_by (is_referenced u x) (given_names u x) (given_names u x).class ∙ ap (class_has_type (is_referenced u x)) (class_given u x among))

-- ROWS, name by name
abbrev row_known : WrittenUnit → Bytes → List Refusal
row_known u x = at_first u (mentions u x) (first_statements u x) (unless (stands u x) NameNotDeclared)

abbrev joined : (Bytes → List Refusal) → List Bytes → List Refusal
joined row [] = []
joined row (x ∷ xs) = row x ++ joined row xs

joined_both : (row : Bytes → List Refusal) (xs ys : List Bytes) → joined row (xs ++ ys) ≡ joined row xs ++ joined row ys
joined_both row [] ys = refl
joined_both row (x ∷ xs) ys = ap (λ rs. row x ++ rs) (joined_both row xs ys) ∙ sym (append_assoc (row x) (joined row xs) (joined row ys))

known_rows : (u : WrittenUnit) (xs : List Bytes) → ((x : Bytes) → is_among x xs ≡ true → is_among x (all_names u) ≡ true) → undeclared_name_rows u xs ≡ joined (row_known u) xs
unfolding undeclared_name_rows
known_rows u [] among = refl
known_rows u (x ∷ xs) among =
    ap (λ b. at_first u (mentions u x) (first_statements u x) (unless b NameNotDeclared) ++ undeclared_name_rows u xs) (type_given u x (among x (among_head x xs)))
    ∙ ap (λ rs. row_known u x ++ rs) (known_rows u xs (λ y h. among y (among_later y x xs h)))

-- ROWS OF NEW NAMES
new_step : (row : Bytes → List Refusal) (seen : List Bytes) (x : Bytes) (xs : List Bytes) → new_rows row seen (x ∷ xs) ≡ if_new seen row x ++ new_rows row (x ∷ seen) xs
unfolding new_rows
new_step row seen x xs = refl

pub new_alike : (row : Bytes → List Refusal) (seen other xs : List Bytes) → ((q : Bytes) → is_among q seen ≡ is_among q other) → new_rows row seen xs ≡ new_rows row other xs
unfolding new_rows if_new
new_alike row seen other [] alike = refl
new_alike row seen other (x ∷ xs) alike =
    ap (λ b. (if b then [] else row x) ++ new_rows row (x ∷ seen) xs) (alike x)
    ∙ ap (λ rs. (if is_among x other then [] else row x) ++ rs)
    (new_alike row (x ∷ seen) (x ∷ other) xs (λ q. among_step q x seen ∙ ap (λ b. bytes_eq q x || b) (alike q) ∙ sym (among_step q x other)))

there_already : (x : Bytes) (seen : List Bytes) → is_among x seen ≡ true → (q : Bytes) → is_among q (x ∷ seen) ≡ is_among q seen
unfolding is_among
there_already x seen among q =
    by_bool ((bytes_eq q x || is_among q seen) ≡ is_among q seen) (bytes_eq q x)
    (λ same. ap (λ b. b || is_among q seen) same ∙ sym (ap (λ y. is_among y seen) ((bytes_eq-Decides q x).0 same) ∙ among))
    (λ other. ap (λ b. b || is_among q seen) other)

seen_step : (seen : List Bytes) (v : Use) (vs : List Use) → seen_from seen (v ∷ vs) ≡ (if is_among v.name seen then seen_from seen vs else v.name ∷ seen_from (v.name ∷ seen) vs)
unfolding seen_from
seen_step seen v vs = refl

seen_rows : (row : Bytes → List Refusal) (seen : List Bytes) (vs : List Use) → joined row (seen_from seen vs) ≡ new_rows row seen (use_names vs)
unfolding seen_from new_rows use_names if_new
seen_rows row seen [] = refl
seen_rows row seen (v ∷ vs) =
    by_bool (joined row (seen_from seen (v ∷ vs)) ≡ new_rows row seen (use_names (v ∷ vs))) (is_among v.name seen)
    (λ among. ap (λ b. joined row (if b then seen_from seen vs else v.name ∷ seen_from (v.name ∷ seen) vs)) among ∙ seen_rows row seen vs
    ∙ sym (ap (λ b. (if b then [] else row v.name) ++ new_rows row (v.name ∷ seen) (use_names vs)) among ∙ new_alike row (v.name ∷ seen) seen (use_names vs) (there_already v.name seen among)))
    (λ new. ap (λ b. joined row (if b then seen_from seen vs else v.name ∷ seen_from (v.name ∷ seen) vs)) new ∙ ap (λ rs. row v.name ++ rs) (seen_rows row (v.name ∷ seen) vs)
    ∙ sym (ap (λ b. (if b then [] else row v.name) ++ new_rows row (v.name ∷ seen) (use_names vs)) new))

or_moved : (a b c : Bool) → (a || (b || c)) ≡ (b || (a || c))
or_moved true true c = refl
or_moved true false c = refl
or_moved false true c = refl
or_moved false false c = refl

moved : (q x : Bytes) (xs seen : List Bytes) → is_among q (xs ++ x ∷ seen) ≡ is_among q (x ∷ (xs ++ seen))
moved q x xs seen =
    among_both q xs (x ∷ seen) ∙ ap (λ b. is_among q xs || b) (among_step q x seen) ∙ or_moved (is_among q xs) (bytes_eq q x) (is_among q seen)
    ∙ ap (λ b. bytes_eq q x || b) (sym (among_both q xs seen)) ∙ sym (among_step q x (xs ++ seen))

pub new_both : (row : Bytes → List Refusal) (seen xs ys : List Bytes) → new_rows row seen (xs ++ ys) ≡ new_rows row seen xs ++ new_rows row (xs ++ seen) ys
unfolding new_rows
new_both row seen [] ys = refl
new_both row seen (x ∷ xs) ys =
    ap (λ rs. if_new seen row x ++ rs) (new_both row (x ∷ seen) xs ys ∙ ap (λ rs. new_rows row (x ∷ seen) xs ++ rs) (new_alike row (xs ++ x ∷ seen) (x ∷ (xs ++ seen)) ys (λ q. moved q x xs seen)))
    ∙ sym (append_assoc (if_new seen row x) (new_rows row (x ∷ seen) xs) (new_rows row (x ∷ (xs ++ seen)) ys))

new_by : (b : Bool) (one other rest more : List Refusal) → (b ≡ false → one ≡ other) → rest ≡ more → (if b then [] else one) ++ rest ≡ (if b then [] else other) ++ more
new_by true one other rest more same is = is
new_by false one other rest more same is = ap (λ rs. one ++ rs) is ∙ ap (λ rs. rs ++ more) (same refl)

new_where : (row other : Bytes → List Refusal) (seen xs : List Bytes) → ((x : Bytes) → is_among x xs ≡ true → is_among x seen ≡ false → row x ≡ other x) → new_rows row seen xs ≡ new_rows other seen xs
unfolding new_rows if_new
new_where row other seen [] same = refl
new_where row other seen (x ∷ xs) same =
    new_by (is_among x seen) (row x) (other x) (new_rows row (x ∷ seen) xs) (new_rows other (x ∷ seen) xs) (λ new. same x (among_head x xs) new)
    (new_where row other (x ∷ seen) xs (λ y among new. same y (among_later y x xs among) (not_right (bytes_eq y x) (is_among y seen) (sym (among_step y x seen) ∙ new))))

-- IN THE FIRST STATEMENT OF A UNIT
head_is : (u : WrittenUnit) (x : Bytes) → is_among x (own_names u ++ all_dummies u) ≡ true → row_known u x ≡ head_row u x
unfolding first_statements at_first head_row
head_is u x among = ap (λ b. at_first u (mentions u x) (if b then [] else u.statements) (unless (stands u x) NameNotDeclared)) among

own_among : (u : WrittenUnit) (x : Bytes) → u.name ≡ Some x → is_among x (own_names u ++ all_dummies u) ≡ true
unfolding own_names option_list
own_among u x is =
    among_both x (own_names u) (all_dummies u)
    ∙ or_left (is_among x (own_names u)) (is_among x (all_dummies u))
    (ap (λ o. is_among x (option_list o ++ from_all entry_names_in u.statements)) is ∙ among_head x (from_all entry_names_in u.statements))

dummy_among_all : (u : WrittenUnit) (x : Bytes) → is_among x (named_dummies u.dummies) ≡ true → is_among x (own_names u ++ all_dummies u) ≡ true
unfolding all_dummies
dummy_among_all u x among =
    among_both x (own_names u) (all_dummies u)
    ∙ or_right (is_among x (own_names u)) (is_among x (all_dummies u))
    (among_both x (named_dummies u.dummies) (from_all entry_dummies_in u.statements) ∙ or_left (is_among x (named_dummies u.dummies)) (is_among x (from_all entry_dummies_in u.statements)) among)

own_by : (u : WrittenUnit) (o : Option Bytes) → u.name ≡ o → joined (row_known u) (option_list o) ≡ own_rows u o
unfolding option_list own_rows
own_by u None is = refl
own_by u (Some x) is = append-nil (row_known u x) ∙ head_is u x (own_among u x is)

-- IN STATEMENTS
first_here : (u : WrittenUnit) (test : Body → Bool) (before : List Stmt) (s : Stmt) (ss : List Stmt) (kinds : List Kind) → list_any (λ (t : Stmt). test t.body) before ≡ false → test s.body ≡ true
    → at_first u test (before ++ s ∷ ss) kinds ≡ stood s kinds
unfolding at_first
first_here u test [] s ss kinds none here = ap (λ b. if b then stood s kinds else at_first u test ss kinds) here
first_here u test (t ∷ before) s ss kinds none here =
    ap (λ b. if b then stood t kinds else at_first u test (before ++ s ∷ ss) kinds) (not_left (test t.body) (list_any (λ (w : Stmt). test w.body) before) none)
    ∙ first_here u test before s ss kinds (not_right (test t.body) (list_any (λ (w : Stmt). test w.body) before) none) here

not_seen : (a b : Bool) → (a ≡ true → b ≡ true) → b ≡ false → a ≡ false
not_seen true b seen not = absurd (let e = seen refl in cc)
not_seen false b seen not = refl

statements_first : (u : WrittenUnit) (x : Bytes) → is_among x (own_names u ++ all_dummies u) ≡ false → row_known u x ≡ at_first u (mentions u x) u.statements (unless (stands u x) NameNotDeclared)
unfolding first_statements
statements_first u x other = ap (λ b. at_first u (mentions u x) (if b then [] else u.statements) (unless (stands u x) NameNotDeclared)) other

here_is : (u : WrittenUnit) (before : List Stmt) (s : Stmt) (ss : List Stmt) (x : Bytes) → u.statements ≡ before ++ s ∷ ss → list_any (λ (t : Stmt). mentions u x t.body) before ≡ false
    → mentions u x s.body ≡ true → row_known u x ≡ row_at u s x
unfolding row_at
here_is u before s ss x is none here =
    by_bool (row_known u x ≡ (if is_among x (own_names u ++ all_dummies u) then head_row u x else stood s (unless (stands u x) NameNotDeclared))) (is_among x (own_names u ++ all_dummies u))
    (λ among. head_is u x among ∙ sym (ap (λ b. if b then head_row u x else stood s (unless (stands u x) NameNotDeclared)) among))
    (λ other. statements_first u x other ∙ ap (λ ts. at_first u (mentions u x) ts (unless (stands u x) NameNotDeclared)) is
    ∙ first_here u (mentions u x) before s ss (unless (stands u x) NameNotDeclared) none here ∙ sym (ap (λ b. if b then head_row u x else stood s (unless (stands u x) NameNotDeclared)) other))

mentions_is : (u : WrittenUnit) (x : Bytes) (s : Stmt) → mentions u x s.body ≡ is_among x (statement_names u s)
unfolding mentions statement_names use_names
mentions_is u x s = refl

names_step : (u : WrittenUnit) (s : Stmt) (ss : List Stmt) → use_names (uses_of_statements (arrays_of u) (s ∷ ss)) ≡ statement_names u s ++ use_names (uses_of_statements (arrays_of u) ss)
unfolding uses_of_statements all_of statement_names use_names
names_step u s ss = map-append (λ (v : Use). v.name) (uses_of_body (arrays_of u) s.body) (uses_of_statements (arrays_of u) ss)

nothing_new : (u : WrittenUnit) (seen : List Bytes) → new_rows (row_known u) seen (use_names (uses_of_statements (arrays_of u) [])) ≡ []
unfolding uses_of_statements all_of use_names new_rows
nothing_new u seen = refl

either : (a b c d : Bool) → (a || (b || false)) ≡ true → (a ≡ true → d ≡ true) → (b ≡ true → c ≡ true) → (c || d) ≡ true
either true b c d h one other = or_right c d (one refl)
either false true c d h one other = or_left c d (other refl)
either false false c d h one other = absurd (cc)

seen_more : (u : WrittenUnit) (before : List Stmt) (s : Stmt) (seen : List Bytes) (x : Bytes) → ((y : Bytes) → list_any (λ (t : Stmt). mentions u y t.body) before ≡ true → is_among y seen ≡ true)
    → list_any (λ (t : Stmt). mentions u x t.body) (before ++ s ∷ []) ≡ true → is_among x (statement_names u s ++ seen) ≡ true
seen_more u before s seen x known h =
    among_both x (statement_names u s) seen
    ∙ either (list_any (λ (t : Stmt). mentions u x t.body) before) (mentions u x s.body) (is_among x (statement_names u s)) (is_among x seen)
    (sym (list_any-append (λ (t : Stmt). mentions u x t.body) before (s ∷ [])) ∙ h) (known x) (λ here. sym (mentions_is u x s) ∙ here)

statements_law : (u : WrittenUnit) (before ss : List Stmt) (seen : List Bytes) → u.statements ≡ before ++ ss
    → ((x : Bytes) → list_any (λ (t : Stmt). mentions u x t.body) before ≡ true → is_among x seen ≡ true)
    → new_rows (row_known u) seen (use_names (uses_of_statements (arrays_of u) ss)) ≡ statements_rows u seen ss
unfolding statements_rows
statements_law u before [] seen is known = nothing_new u seen
statements_law u before (s ∷ ss) seen is known =
    ap (new_rows (row_known u) seen) (names_step u s ss) ∙ new_both (row_known u) seen (statement_names u s) (use_names (uses_of_statements (arrays_of u) ss))
    ∙ ap (λ rs. rs ++ new_rows (row_known u) (statement_names u s ++ seen) (use_names (uses_of_statements (arrays_of u) ss)))
    (new_where (row_known u) (row_at u s) seen (statement_names u s)
    (λ x among new. here_is u before s ss x is (not_seen (list_any (λ (t : Stmt). mentions u x t.body) before) (is_among x seen) (known x) new) (mentions_is u x s ∙ among)))
    ∙ ap (λ rs. new_rows (row_at u s) seen (statement_names u s) ++ rs)
    (statements_law u (before ++ s ∷ []) ss (statement_names u s ++ seen) (is ∙ sym (append_assoc before (s ∷ []) ss)) (λ x h. seen_more u before s seen x known h))

-- ALL NAMES OF A UNIT
declared_names : (xs : List Bytes) (vs : List Use) → use_names (map (λ x. record { name = x; manner = Declared }) xs ++ vs) ≡ xs ++ use_names vs
unfolding use_names
declared_names [] vs = refl
declared_names (x ∷ xs) vs = ap (λ ys. x ∷ ys) (declared_names xs vs)

pub names_law : (u : WrittenUnit) → undeclared_name_rows u (all_names u)
    ≡ own_rows u u.name ++ (new_rows (head_row u) [] (named_dummies u.dummies) ++ statements_rows u (named_dummies u.dummies) u.statements)
unfolding all_names names_of first_seen
names_law u =
    known_rows u (all_names u) (λ x among. among)
    ∙ joined_both (row_known u) (option_list u.name) (seen_from [] (map (λ x. record { name = x; manner = Declared }) (named_dummies u.dummies) ++ unit_uses u))
    ∙ ap (λ rs. rs ++ joined (row_known u) (seen_from [] (map (λ x. record { name = x; manner = Declared }) (named_dummies u.dummies) ++ unit_uses u))) (own_by u u.name refl)
    ∙ ap (λ rs. own_rows u u.name ++ rs)
    (seen_rows (row_known u) [] (map (λ x. record { name = x; manner = Declared }) (named_dummies u.dummies) ++ unit_uses u)
    ∙ ap (new_rows (row_known u) []) (declared_names (named_dummies u.dummies) (unit_uses u))
    ∙ new_both (row_known u) [] (named_dummies u.dummies) (use_names (unit_uses u))
    ∙ ap (λ rs. rs ++ new_rows (row_known u) (named_dummies u.dummies ++ []) (use_names (unit_uses u)))
    (new_where (row_known u) (head_row u) [] (named_dummies u.dummies) (λ x among new. head_is u x (dummy_among_all u x among)))
    ∙ ap (λ rs. new_rows (head_row u) [] (named_dummies u.dummies) ++ rs)
    (ap (λ seen. new_rows (row_known u) seen (use_names (unit_uses u))) (append-nil (named_dummies u.dummies))
    ∙ statements_law u [] u.statements (named_dummies u.dummies) refl (λ x none. absurd (cc))))
