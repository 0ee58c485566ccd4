-- The rows of a statement by the faults of the statements before it and of those up to it.
use Rattle.std.proofs.Common.{◌≡◌, ℕ, suc, ◌+◌, ◌<◌, ◌≤◌, Bool, true, false, not, ◌&&◌, ◌||◌, List, [], ◌∷◌, ◌++◌, length, take, drop, drop-cons, get_or, append_assoc, append-nil, arith, refl, sym, ap, subst, ◌∙◌}
use Rattle.std.proofs.lemmas.List.{map-append, drop_all, take_all}
use Rattle.f_tree.specs.declared.names.Options.{Options}
use Rattle.f_tree.specs.declared.refusals.Kind.{Kind}
use Rattle.f_tree.specs.declared.refusals.Kind.TheVariants.{EquivalenceContradiction, CommonJoinedOrExtended}
use Rattle.f_tree.specs.declared.refusals.Refusal.{Refusal}
use Rattle.f_tree.specs.declared.statements.Stmt.{Stmt}
use Rattle.f_tree.specs.declared.units.Unit.{Unit as WrittenUnit}
use Rattle.f_tree.specs.Facts.{Facts}
use Rattle.f_tree.specs.Attributes.{from_all}
use Rattle.f_tree.specs.Lines.{Naming, blocks_from, equivalence_in, ties_of}
use Rattle.declaration_rows.specs.Judgement.{unless}
use Rattle.declaration_rows.specs.NameRows.{given_names, stood}
use Rattle.declaration_rows.specs.PlacingRows.{Placing, block_equations, placing_by, contradicts, first_items, is_joined_or_extended, is_sound, groups_settled, newly, placing_rows_from}
use Rattle.placing_orders.specs.PlaceRows.{place_rows}
use Rattle.placing_orders.proofs.Rising.{consistent_before, sound_rows}
use Rattle.placed_numbers.specs.Owned.{AreTests, tests_of}
use Rattle.placed_numbers.specs.declared.judging.Standing.{Standing}
use Rattle.placed_numbers.specs.declared.judging.Standing.TheVariants.{Sound, JoinedOrExtended, Contradicted}
use Rattle.placed_numbers.proofs.Lists.{taken}
use Rattle.placing_judge.specs.declared.faults.Fault.{Fault}
use Rattle.placing_judge.specs.declared.faults.Fault.TheVariants as fault
use Rattle.placing_judge.specs.declared.ties.StatementTies.{StatementTies}
use Rattle.placing_judge.specs.Walked.{facts_of, AreUnitTies, SaysNothing, fault_by, is_wrong, is_joined, IsStandingAt, IsFaultAt, rows_between, ArePlacingRows, AreSettledRows}
use Rattle.placing_judge.proofs.TieLaws.{tied_at, same_placing}

-- FAULTS
fault_tests : (p : Placing) (s : Standing) → tests_of p s → AreTests p (is_wrong (fault_by s)) (is_joined (fault_by s))
unfolding tests_of fault_by is_wrong is_joined
fault_tests p (Sound ps) is = is
fault_tests p JoinedOrExtended is = is
fault_tests p Contradicted is = is

pub fault_told : (u : WrittenUnit) (front : ℕ) (s : Standing) (f : Fault) → f ≡ fault_by s → IsStandingAt u front s → IsFaultAt u front f
fault_told u front s f is standing =
    subst (λ g. IsFaultAt u front g) (sym is)
    (record { is = λ options. fault_tests (placing_by (facts_of options u) (given_names u) (take front u.statements)) s (standing.is options) })

nothing_at_first : (c : Facts) (names : Naming) → AreTests (placing_by c names []) false false
unfolding placing_by from_all blocks_from block_equations ties_of contradicts is_joined_or_extended first_items
nothing_at_first c names = record { wrong = refl; joined = λ right. refl }

no_front : {A : Type 0} (xs : List A) → take 0 xs ≡ []
no_front [] = refl
no_front (x ∷ xs) = refl

pub fault_start : (u : WrittenUnit) → IsFaultAt u 0 fault.Nothing
unfolding is_wrong is_joined
fault_start u = record {
  is = λ options.
      subst (λ ss. AreTests (placing_by (facts_of options u) (given_names u) ss) false false) (sym (no_front u.statements))
      (nothing_at_first (facts_of options u) (given_names u));
}

pub fault_kept : (u : WrittenUnit) (i : ℕ) (s d : Stmt) (f : Fault) → i < length u.statements → s ≡ get_or u.statements i d → SaysNothing s.body
    → IsFaultAt u i f → IsFaultAt u (i + 1) f
fault_kept u i s d f h is none at = record {
  is = λ options.
      let c = facts_of options u in
      let names = given_names u in
      subst (λ p. AreTests p (is_wrong f) (is_joined f))
      (sym (same_placing c names (take i u.statements) s none) ∙ ap (placing_by c names) (sym (taken u.statements i s d h is))) (at.is options);
}

-- ROWS
newly_unless : (before now : Bool) (kind : Kind) → newly before now kind ≡ unless (not (now && not before)) kind
unfolding newly unless
newly_unless true true kind = refl
newly_unless true false kind = refl
newly_unless false true kind = refl
newly_unless false false kind = refl

never_new : (now : Bool) (kind : Kind) → newly true now kind ≡ []
unfolding newly
never_new true kind = refl
never_new false kind = refl

not_now : (before : Bool) (kind : Kind) → newly before false kind ≡ []
unfolding newly
not_now before kind = refl

module _ (p q : Placing) (before : Fault) (old : AreTests p (is_wrong before) (is_joined before))
    (rises : contradicts q.equations ≡ false → contradicts p.equations ≡ false) where
  contradiction_row : (now : Fault) → AreTests q (is_wrong now) (is_joined now)
      → newly (contradicts p.equations) (contradicts q.equations) EquivalenceContradiction ≡ unless (not (is_wrong now && not (is_wrong before))) EquivalenceContradiction
  contradiction_row now new =
      ap (λ b. newly b (contradicts q.equations) EquivalenceContradiction) old.wrong
      ∙ ap (λ b. newly (is_wrong before) b EquivalenceContradiction) new.wrong
      ∙ newly_unless (is_wrong before) (is_wrong now) EquivalenceContradiction

  joined_row : (now : Fault) → AreTests q (is_wrong now) (is_joined now)
      → newly (contradicts q.equations || is_joined_or_extended p) (is_joined_or_extended q) CommonJoinedOrExtended
      ≡ unless (not (is_joined now && not (is_joined before))) CommonJoinedOrExtended
  unfolding is_wrong is_joined unless
  joined_row fault.Contradicted new =
      ap (λ b. newly (b || is_joined_or_extended p) (is_joined_or_extended q) CommonJoinedOrExtended) new.wrong
      ∙ never_new (is_joined_or_extended q) CommonJoinedOrExtended
  joined_row fault.Nothing new =
      ap (λ b. newly (contradicts q.equations || is_joined_or_extended p) b CommonJoinedOrExtended) (new.joined refl)
      ∙ not_now (contradicts q.equations || is_joined_or_extended p) CommonJoinedOrExtended
  joined_row fault.JoinedOrExtended new =
      ap (λ b. newly (b || is_joined_or_extended p) (is_joined_or_extended q) CommonJoinedOrExtended) new.wrong
      ∙ ap (λ b. newly b (is_joined_or_extended q) CommonJoinedOrExtended) (old.joined (sym old.wrong ∙ rises new.wrong))
      ∙ ap (λ b. newly (is_joined before) b CommonJoinedOrExtended) (new.joined refl)
      ∙ newly_unless (is_joined before) true CommonJoinedOrExtended

  pub rows_told : (s : Stmt) (settled : Bool) (now : Fault) → AreTests q (is_wrong now) (is_joined now)
      → stood s (unless settled EquivalenceContradiction ++ (newly (contradicts p.equations) (contradicts q.equations) EquivalenceContradiction ++
      newly (contradicts q.equations || is_joined_or_extended p) (is_joined_or_extended q) CommonJoinedOrExtended))
      ≡ rows_between s settled before now
  unfolding rows_between stood
  rows_told s settled now new =
      ap (λ ks. stood s (unless settled EquivalenceContradiction ++ (ks ++
      newly (contradicts q.equations || is_joined_or_extended p) (is_joined_or_extended q) CommonJoinedOrExtended))) (contradiction_row now new)
      ∙ ap (λ ks. stood s (unless settled EquivalenceContradiction ++ (unless (not (is_wrong now && not (is_wrong before))) EquivalenceContradiction ++ ks))) (joined_row now new)
      ∙ map-append _ (unless settled EquivalenceContradiction)
      (unless (not (is_wrong now && not (is_wrong before))) EquivalenceContradiction ++ unless (not (is_joined now && not (is_joined before))) CommonJoinedOrExtended)
      ∙ ap (λ rs. stood s (unless settled EquivalenceContradiction) ++ rs)
      (map-append _ (unless (not (is_wrong now && not (is_wrong before))) EquivalenceContradiction) (unless (not (is_joined now && not (is_joined before))) CommonJoinedOrExtended))

-- ONE STATEMENT MORE
pub rows_step : (c : Facts) (names : Naming) (before : List Stmt) (s : Stmt) (ss : List Stmt) (settled : Bool) (old now : Fault)
    → settled ≡ groups_settled c names (equivalence_in s.body) → AreTests (placing_by c names before) (is_wrong old) (is_joined old)
    → AreTests (placing_by c names (before ++ s ∷ [])) (is_wrong now) (is_joined now)
    → placing_rows_from c names before (s ∷ ss) ≡ rows_between s settled old now ++ placing_rows_from c names (before ++ s ∷ []) ss
unfolding placing_rows_from
rows_step c names before s ss settled old now is told new =
    ap (λ b. stood s (unless b EquivalenceContradiction ++
    (newly (contradicts (placing_by c names before).equations) (contradicts (placing_by c names (before ++ s ∷ [])).equations) EquivalenceContradiction ++
    newly (contradicts (placing_by c names (before ++ s ∷ [])).equations || is_joined_or_extended (placing_by c names before))
    (is_joined_or_extended (placing_by c names (before ++ s ∷ []))) CommonJoinedOrExtended)) ++ placing_rows_from c names (before ++ s ∷ []) ss) (sym is)
    ∙ ap (λ rs. rs ++ placing_rows_from c names (before ++ s ∷ []) ss)
    (rows_told (placing_by c names before) (placing_by c names (before ++ s ∷ [])) old told (consistent_before c names before (s ∷ [])) s settled now new)

rest_is : {X : Type 0} (xs : List X) (i : ℕ) (x d : X) → i < length xs → x ≡ get_or xs i d → drop i xs ≡ x ∷ drop (i + 1) xs
rest_is xs i x d h is = drop-cons xs i d h ∙ ap (λ y. y ∷ drop (suc i) xs) (sym is) ∙ ap (λ n. x ∷ drop n xs) (let e : suc i ≡ i + 1 = omega arith in e)

-- THE WALK: the rows so far, and those of the statements that are left
pub record IsWalk (u : WrittenUnit) (i : ℕ) (rs : List Refusal) : Type 0 where
  pub is : (options : Options) → placing_rows_from (facts_of options u) (given_names u) [] u.statements
      ≡ rs ++ placing_rows_from (facts_of options u) (given_names u) (take i u.statements) (drop i u.statements)

all_left : {A : Type 0} (xs : List A) → drop 0 xs ≡ xs
all_left [] = refl
all_left (x ∷ xs) = refl

pub walk_start : (u : WrittenUnit) (rs : List Refusal) → rs ≡ [] → IsWalk u 0 rs
walk_start u rs none = record {
  is = λ options.
      ap (λ before. placing_rows_from (facts_of options u) (given_names u) before u.statements) (sym (no_front u.statements))
      ∙ ap (λ ss. placing_rows_from (facts_of options u) (given_names u) (take 0 u.statements) ss) (sym (all_left u.statements))
      ∙ ap (λ xs. xs ++ placing_rows_from (facts_of options u) (given_names u) (take 0 u.statements) (drop 0 u.statements)) (sym none);
}

pub walk_on : (u : WrittenUnit) (ts : List StatementTies) (i : ℕ) (s d : Stmt) (t e : StatementTies) (old now : Fault) (rs more : List Refusal) → AreUnitTies u ts
    → i < length u.statements → s ≡ get_or u.statements i d → t ≡ get_or ts i e → IsFaultAt u i old → IsFaultAt u (i + 1) now
    → more ≡ rs ++ rows_between s t.settled old now → IsWalk u i rs → IsWalk u (i + 1) more
walk_on u ts i s d t e old now rs more ties h is told before after put walk = record {
  is = λ options.
      let c = facts_of options u in
      let names = given_names u in
      let front = taken u.statements i s d h is in
      let tied = tied_at c names u.statements ts i s d t e (ties.tied options) h is told in
      walk.is options
      ∙ ap (λ ss. rs ++ placing_rows_from c names (take i u.statements) ss) (rest_is u.statements i s d h is)
      ∙ ap (λ xs. rs ++ xs) (rows_step c names (take i u.statements) s (drop (i + 1) u.statements) t.settled old now tied.settled (before.is options)
      (subst (λ ss. AreTests (placing_by c names ss) (is_wrong now) (is_joined now)) front (after.is options)))
      ∙ sym (append_assoc rs (rows_between s t.settled old now) (placing_rows_from c names (take i u.statements ++ s ∷ []) (drop (i + 1) u.statements)))
      ∙ ap (λ xs. xs ++ placing_rows_from c names (take i u.statements ++ s ∷ []) (drop (i + 1) u.statements)) (sym put)
      ∙ ap (λ ss. more ++ placing_rows_from c names ss (drop (i + 1) u.statements)) (sym front);
}

no_rows : (c : Facts) (names : Naming) (before : List Stmt) → placing_rows_from c names before [] ≡ []
unfolding placing_rows_from
no_rows c names before = refl

pub walk_end : (u : WrittenUnit) (i : ℕ) (rs : List Refusal) → length u.statements ≤ i → IsWalk u i rs → ArePlacingRows u rs
walk_end u i rs h walk = record {
  are = λ options.
      let c = facts_of options u in
      let names = given_names u in
      sym (walk.is options ∙ ap (λ ss. rs ++ placing_rows_from c names (take i u.statements) ss) (drop_all i u.statements h)
      ∙ ap (λ xs. rs ++ xs) (no_rows c names (take i u.statements)) ∙ append-nil rs);
}

-- NO FAULT AT ALL
no_statements : {A : Type 0} (xs : List A) → take (length xs) xs ≡ xs
no_statements xs = take_all (length xs) xs (omega arith)

sound_by : (p : Placing) → AreTests p false false → is_sound p ≡ true
unfolding is_sound
sound_by p tests = ap (λ b. not b && not (is_joined_or_extended p)) tests.wrong ∙ ap not (tests.joined refl)

pub rows_settled : (u : WrittenUnit) (front : ℕ) (f : Fault) (rs : List Refusal) → f ≡ fault.Nothing → front ≡ length u.statements → IsFaultAt u front f → AreSettledRows u rs
    → ArePlacingRows u rs
unfolding is_wrong is_joined
rows_settled u front f rs none all at settled = record {
  are = λ options.
      let c = facts_of options u in
      let names = given_names u in
      let whole : take front u.statements ≡ u.statements = ap (λ n. take n u.statements) all ∙ no_statements u.statements in
      settled.are options
      ∙ sym (sound_rows c names [] u.statements (sound_by (placing_by c names u.statements)
      (subst (λ ss. AreTests (placing_by c names ss) false false) whole (subst (λ g. AreTests (placing_by c names (take front u.statements)) (is_wrong g) (is_joined g)) none (at.is options)))));
}

-- THE ROWS OF PLACES ALONE
pub record IsSettledWalk (u : WrittenUnit) (i : ℕ) (rs : List Refusal) : Type 0 where
  pub is : (options : Options) → place_rows (facts_of options u) (given_names u) u.statements
      ≡ rs ++ place_rows (facts_of options u) (given_names u) (drop i u.statements)

pub settled_start : (u : WrittenUnit) (rs : List Refusal) → rs ≡ [] → IsSettledWalk u 0 rs
settled_start u rs none = record {
  is = λ options.
      ap (place_rows (facts_of options u) (given_names u)) (sym (all_left u.statements))
      ∙ ap (λ xs. xs ++ place_rows (facts_of options u) (given_names u) (drop 0 u.statements)) (sym none);
}

place_step : (c : Facts) (names : Naming) (s : Stmt) (ss : List Stmt) (settled : Bool) → settled ≡ groups_settled c names (equivalence_in s.body)
    → place_rows c names (s ∷ ss) ≡ stood s (unless settled EquivalenceContradiction) ++ place_rows c names ss
unfolding place_rows
place_step c names s ss settled is = ap (λ b. stood s (unless b EquivalenceContradiction) ++ place_rows c names ss) (sym is)

pub settled_on : (u : WrittenUnit) (ts : List StatementTies) (i : ℕ) (s d : Stmt) (t e : StatementTies) (rs more : List Refusal) → AreUnitTies u ts → i < length u.statements
    → s ≡ get_or u.statements i d → t ≡ get_or ts i e → more ≡ rs ++ stood s (unless t.settled EquivalenceContradiction) → IsSettledWalk u i rs → IsSettledWalk u (i + 1) more
settled_on u ts i s d t e rs more ties h is told put walk = record {
  is = λ options.
      let c = facts_of options u in
      let names = given_names u in
      let tied = tied_at c names u.statements ts i s d t e (ties.tied options) h is told in
      walk.is options
      ∙ ap (λ ss. rs ++ place_rows c names ss) (rest_is u.statements i s d h is)
      ∙ ap (λ xs. rs ++ xs) (place_step c names s (drop (i + 1) u.statements) t.settled tied.settled)
      ∙ sym (append_assoc rs (stood s (unless t.settled EquivalenceContradiction)) (place_rows c names (drop (i + 1) u.statements)))
      ∙ ap (λ xs. xs ++ place_rows c names (drop (i + 1) u.statements)) (sym put);
}

no_place_rows : (c : Facts) (names : Naming) → place_rows c names [] ≡ []
unfolding place_rows
no_place_rows c names = refl

pub settled_end : (u : WrittenUnit) (i : ℕ) (rs : List Refusal) → length u.statements ≤ i → IsSettledWalk u i rs → AreSettledRows u rs
settled_end u i rs h walk = record {
  are = λ options.
      let c = facts_of options u in
      let names = given_names u in
      sym (walk.is options ∙ ap (λ ss. rs ++ place_rows c names ss) (drop_all i u.statements h)
      ∙ ap (λ xs. rs ++ xs) (no_place_rows c names) ∙ append-nil rs);
}
