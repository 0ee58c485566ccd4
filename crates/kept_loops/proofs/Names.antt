-- The labels that stand before items are those of the unit that its statements name, or made ones for each DO WHILE.
use Rattle.std.specs.List.{list_all, list_any, position_or_len}
use Rattle.std.specs.Prelude.{◌≡◌, ℕ, zero, suc, ◌+◌, ◌≤◌, ◌<◌, nat_eq, nat_lt, Bool, true, false, ◌||◌, List, [], ◌∷◌, ◌++◌, map, length, filter, position, Option, Some, None, bytes_eq, cond, if◌then◌else◌}
use Rattle.std.proofs.Common.{refl, sym, ap, ◌∙◌, subst, arith}
use Rattle.std.proofs.lemmas.Bool.{and_from, eqb-true, eqb-false, ltb-true}
use Rattle.std.proofs.lemmas.Slice.Eq.{bytes_eq-Decides}
use Rattle.translated_files.specs.f_tree.CNames.{made_name, StatementLabel, EntryLabel, MadeLabel, is_among}
use Rattle.translated_files.specs.f_tree.Attributes.{own_names}
use Rattle.translated_files.specs.f_tree.Setting.{IsIn, first_in, later_in}
use Rattle.translated_files.specs.f_tree.declared.units.Unit.{Unit as GivenUnit}
use Rattle.translated_files.specs.l_core.Steps.{Text}
use Rattle.translated_files.specs.c_tree.CLabels.{labels_of_all}
use Rattle.translated_files.specs.c_tree.declared.statement.CStmt.{CStmt}
use Rattle.translated_files.specs.main_translation.Outlined.{labels_in, stands_at, label_before, whiles_in, name_by, label_at}
use Rattle.translated_files.specs.named_units.named_items.Layouts.{Layout}
use Rattle.loop_marks.specs.c_loops.KeptLayouts.{AreLabels, no_name, one_name}
use Rattle.translated_files.specs.declaration_rows.NameRows.{given_names}
use Rattle.kept_loops.specs.SourceLoops.{labels_named, is_label_of, statement_labels, made_labels, labels_allowed, transfers, do_whiles}
use Rattle.kept_loops.specs.KeptFunctions.{ForwardJumps}
use Rattle.kept_loops.proofs.Mentions.{ahead_by}

-- ## Lists of names

to_front : {A : Type 0} → (x : A) (xs ys : List A) → IsIn x xs → IsIn x (xs ++ ys)
to_front x [] ys among = elim among [ ]
to_front x (_ ∷ xs) ys first_in = first_in
to_front x (y ∷ xs) ys (later_in among) = later_in (to_front x xs ys among)

to_back : {A : Type 0} → (x : A) (xs ys : List A) → IsIn x ys → IsIn x (xs ++ ys)
to_back x [] ys among = among
to_back x (y ∷ xs) ys among = later_in (to_back x xs ys among)

in_map : {A B : Type 0} → (f : A → B) (x : A) (xs : List A) → IsIn x xs → IsIn (f x) (map f xs)
in_map f x [] among = elim among [ ]
in_map f x (_ ∷ xs) first_in = first_in
in_map f x (y ∷ xs) (later_in among) = later_in (in_map f x xs among)

in_made : (k n : ℕ) → k < n → IsIn (made_name (MadeLabel (suc k))) (made_labels n)
unfolding made_labels
in_made k zero less = absurd (omega arith)
in_made k (suc n) less = by (nat_eq k n) refl (in_made k n)
  where
    by : (b : Bool) → nat_eq k n ≡ b → (k < n → IsIn (made_name (MadeLabel (suc k))) (made_labels n)) → IsIn (made_name (MadeLabel (suc k))) (made_name (MadeLabel (suc n)) ∷ made_labels n)
    by true is more = subst (λ m. IsIn (made_name (MadeLabel (suc k))) (made_name (MadeLabel (suc m)) ∷ made_labels n)) (eqb-true k n is) first_in
    by false is more = later_in (more (let other = eqb-false k n is in omega (arith, other)))

or_true : (b : Bool) → b || true ≡ true
or_true true = refl
or_true false = refl

among_of : (name : List ℕ) (names : List (List ℕ)) → IsIn name names → is_among names name ≡ true
among_of name [] among = elim among [ ]
among_of name (_ ∷ names) first_in = ap (λ b. b || list_any (λ word. bytes_eq word name) names) ((bytes_eq-Decides name name).1 refl)
among_of name (x ∷ names) (later_in among) = ap (λ b. bytes_eq x name || b) (among_of name names among) ∙ or_true (bytes_eq x name)

-- so many made labels are among as many or more
made_within : (n count : ℕ) → n ≤ count → list_all (is_among (made_labels count)) (made_labels n) ≡ true
unfolding made_labels
made_within zero count most = refl
made_within (suc n) count most =
    and_from (is_among (made_labels count) (made_name (MadeLabel (suc n)))) (list_all (is_among (made_labels count)) (made_labels n))
    (among_of (made_name (MadeLabel (suc n))) (made_labels count) (in_made n count (omega (arith, most)))) (made_within n count (omega (arith, most)))

made_length : (n : ℕ) → length (made_labels n) ≡ n
unfolding made_labels
made_length zero = refl
made_length (suc n) = ap suc (made_length n)

-- ## Labels before items

data IsName (u : Text) (name : List ℕ) : Type 0 where
  by_label : (label n : ℕ) → IsIn label (labels_in u.steps) → stands_at (u.position label) n ≡ true → name ≡ made_name (StatementLabel label) → IsName u name
  by_loop : (k : ℕ) → k < length (whiles_in u.marks) → name ≡ made_name (MadeLabel (suc k)) → IsName u name

record IsBefore (place : ℕ → Option ℕ) (n : ℕ) (labels : List ℕ) (label : ℕ) : Type 0 where
  among : IsIn label labels
  stands : stands_at (place label) n ≡ true

before_in : (place : ℕ → Option ℕ) (n : ℕ) (labels : List ℕ) (label : ℕ) → label_before place n labels ≡ Some label → IsBefore place n labels label
unfolding label_before
before_in place n [] label h = absurd (cc)
before_in place n (l ∷ labels) label h = by (stands_at (place l) n) refl h (before_in place n labels label)
  where
    by : (b : Bool) → stands_at (place l) n ≡ b → (if b then Some l else label_before place n labels) ≡ Some label → (label_before place n labels ≡ Some label → IsBefore place n labels label) → IsBefore place n (l ∷ labels) label
    by true is g more = subst (IsBefore place n (l ∷ labels)) (let same : l ≡ label = cc in same) (record { among = first_in; stands = is })
    by false is g more = let found = more g in record { among = later_in found.among; stands = found.stands }

position_below : {A : Type 0} → (test : A → Bool) (xs : List A) (i : ℕ) → position test xs ≡ Some i → i < length xs
position_below test xs i h = by (nat_lt (position_or_len test xs) (length xs)) refl h
  where
    by : (b : Bool) → nat_lt (position_or_len test xs) (length xs) ≡ b → cond b (Some (position_or_len test xs)) None ≡ Some i → i < length xs
    by true is g = let same : position_or_len test xs ≡ i = cc in let less = ltb-true (position_or_len test xs) (length xs) is in omega (arith, same, less)
    by false is g = absurd (cc)

name_is : (u : Text) (n : ℕ) (name : List ℕ) (label loop : Option ℕ) → label_before u.position n (labels_in u.steps) ≡ label → position (nat_eq n) (whiles_in u.marks) ≡ loop → name_by label loop ≡ Some name → IsName u name
unfolding name_by
name_is u n name (Some label) loop one other h =
    let found = before_in u.position n (labels_in u.steps) label one in
    by_label label n found.among found.stands (let same : name ≡ made_name (StatementLabel label) = cc in same)
name_is u n name None (Some k) one other h = by_loop k (position_below (nat_eq n) (whiles_in u.marks) k other) (let same : name ≡ made_name (MadeLabel (suc k)) = cc in same)
name_is u n name None None one other h = absurd (cc)

label_is : (u : Text) (n : ℕ) (name : List ℕ) → label_at u n ≡ Some name → IsName u name
unfolding label_at
label_is u n name h = by (nat_lt n (length u.steps)) h
  where
    by : (b : Bool) → (if b then name_by (label_before u.position n (labels_in u.steps)) (position (nat_eq n) (whiles_in u.marks)) else None) ≡ Some name → IsName u name
    by true g = name_is u n name (label_before u.position n (labels_in u.steps)) (position (nat_eq n) (whiles_in u.marks)) refl refl g
    by false g = absurd (cc)

-- ## Names of a layout

-- what holds of each name of a label, holds of each name of a layout that labels as the text does
each_name : (u : Text) (l : Layout) (passes : List ℕ → Bool) (names : List (List ℕ)) → ((name : List ℕ) → IsName u name → passes name ≡ true) → ((n : ℕ) → l.label n ≡ label_at u n) → AreLabels l names → list_all passes names ≡ true
each_name u l passes _ each same no_name = refl
each_name u l passes _ each same (one_name n name names is later) =
    and_from (passes name) (list_all passes names) (each name (label_is u n name (sym (same n) ∙ is))) (each_name u l passes names each same later)

module _ (given : GivenUnit) (u : Text) (known : (label n : ℕ) → IsIn label (labels_in u.steps) → stands_at (u.position label) n ≡ true → IsIn label (filter (is_label_of given.statements) (labels_named (given_names given) given.statements)))
    (whiles : length (whiles_in u.marks) ≡ do_whiles given) where
  abbrev statement_name : ℕ → List ℕ
  statement_name label = made_name (StatementLabel label)

  abbrev entry_names : List (List ℕ)
  entry_names = map (λ x. made_name (EntryLabel x)) (own_names given)

  -- a name is that of a label of the unit, or one made for a DO WHILE
  of_statement : (name : List ℕ) (label n : ℕ) → IsIn label (labels_in u.steps) → stands_at (u.position label) n ≡ true → name ≡ statement_name label → IsIn name (statement_labels given)
  unfolding statement_labels
  of_statement name label n among stands is =
      subst (λ x. IsIn x (statement_labels given)) (sym is) (in_map statement_name label (filter (is_label_of given.statements) (labels_named (given_names given) given.statements)) (known label n among stands))

  of_loop : (name : List ℕ) (k count : ℕ) → k < length (whiles_in u.marks) → do_whiles given ≤ count → name ≡ made_name (MadeLabel (suc k)) → IsIn name (made_labels count)
  of_loop name k count less most is = subst (λ x. IsIn x (made_labels count)) (sym is) (in_made k count (omega (arith, whiles, less, most)))

  allowed : (name : List ℕ) → IsName u name → IsIn name (labels_allowed given)
  unfolding labels_allowed
  allowed name (by_label label n among stands is) = to_front name (statement_labels given) (entry_names ++ made_labels (transfers given + do_whiles given)) (of_statement name label n among stands is)
  allowed name (by_loop k less is) =
      to_back name (statement_labels given) (entry_names ++ made_labels (transfers given + do_whiles given))
      (to_back name entry_names (made_labels (transfers given + do_whiles given)) (of_loop name k (transfers given + do_whiles given) less (omega arith) is))

  pub all_allowed : (l : Layout) (names : List (List ℕ)) → ((n : ℕ) → l.label n ≡ label_at u n) → AreLabels l names → list_all (is_among (labels_allowed given)) names ≡ true
  all_allowed l names same labels = each_name u l (is_among (labels_allowed given)) names (λ name is. among_of name (labels_allowed given) (allowed name is)) same labels

  -- ## Those that are named from behind

  passed : (name : List ℕ) → IsName u name → is_among (statement_labels given) name || is_among (made_labels (do_whiles given)) name ≡ true
  passed name (by_label label n among stands is) =
      ap (λ b. b || is_among (made_labels (do_whiles given)) name) (among_of name (statement_labels given) (of_statement name label n among stands is))
  passed name (by_loop k less is) =
      ap (λ b. is_among (statement_labels given) name || b) (among_of name (made_labels (do_whiles given)) (of_loop name k (do_whiles given) less (omega arith) is)) ∙ or_true (is_among (statement_labels given) name)

  pub jumps_forward : (l : Layout) (body : List CStmt) → ((n : ℕ) → l.label n ≡ label_at u n) → AreLabels l (labels_of_all body).named → ForwardJumps given body
  jumps_forward l body same labels = record {
    behind = made_labels (do_whiles given);
    made = made_within (do_whiles given) (transfers given + do_whiles given) (omega arith);
    few = (let long = made_length (do_whiles given) in omega (arith, long));
    ahead = ahead_by (λ label. is_among (statement_labels given) label || is_among (made_labels (do_whiles given)) label) body
        (each_name u l (λ label. is_among (statement_labels given) label || is_among (made_labels (do_whiles given)) label) (labels_of_all body).named passed same labels);
  }
