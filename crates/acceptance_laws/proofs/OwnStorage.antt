-- A unit without COMMON, EQUIVALENCE and DATA breaks no row of storage, and behind any units none of storage that they share, if each of its stored
-- names has at most the units that a sequence may have.
use Rattle.std.specs.Prelude.{◌≡◌, ℕ, ◌+◌, ◌<◌, nat_lt, Bool, true, false, not, ◌||◌, ◌&&◌, List, [], ◌∷◌, ◌++◌, map, max, if◌then◌else◌}
use Rattle.std.specs.List.{list_any}
use Rattle.std.proofs.lemmas.Bool.Decides.{nat_tests}
use Rattle.std.proofs.Common.{refl, ap, ◌∙◌, arith}
use Rattle.plain_mains.specs.f_tree.declared.names.Options.{Options}
use Rattle.plain_mains.specs.f_tree.declared.refusals.Kind.TheVariants.{EquivalenceContradiction, CommonJoinedOrExtended, NumericPlaceNotOnAWord, StorageTooLarge, BadData, CommonInitialised, CommonInitialisedTwice}
use Rattle.plain_mains.specs.f_tree.declared.statements.Body.{Body}
use Rattle.plain_mains.specs.f_tree.declared.statements.Stmt.{Stmt}
use Rattle.plain_mains.specs.f_tree.declared.units.Unit.{Unit as WrittenUnit}
use Rattle.plain_mains.specs.f_tree.Values.{Bytes, Spot}
use Rattle.plain_mains.specs.f_tree.Uses.{is_among}
use Rattle.plain_mains.specs.f_tree.Facts.{Attribute, Member, ProgramUnit, Facts}
use Rattle.plain_mains.specs.f_tree.Setting.{IsIn, first_in, later_in}
use Rattle.plain_mains.specs.f_tree.Attributes.{from_all}
use Rattle.plain_mains.specs.f_tree.Lines.{Naming, is_character, size_of, is_stored, common_in, equivalence_in, data_in, blocks_from, ties_of, apart, unit_read}
use Rattle.source_verdict.specs.declaration_rows.Judgement.{unless}
use Rattle.source_verdict.specs.declaration_rows.NameRows.{stood, at_first, mentions}
use Rattle.source_verdict.specs.declaration_rows.PlacingRows.{Placing, block_equations, tie_equation, placing_by, reached_from, further_times, count, contradicts, first_items, is_joined_or_extended, groups_settled, newly, placing_rows_from, least_of, first_among, start_by, place_in, is_on_word, shares, word_rows, placing_of, is_sound, unit_placing_rows}
use Rattle.source_verdict.specs.declaration_rows.DataRows.{placed, all_filled, data_rows_from, may_fill_all, blocks_with, names_filled, common_rows_from, unit_data_rows}
use Rattle.source_verdict.specs.declaration_rows.SharedStorageRows.{Before, most_storage, length_in, furthest, measured_blocks, length_rows, size_rows, filled_blocks, filled_rows, unit_storage_rows}
use Rattle.source_verdict.specs.declaration_rows.Verdicts.{unit_storage_faults}

-- ## Lists

pub record BothNone {A : Type 0} (xs ys : List A) : Type 0 where
  pub one : xs ≡ []
  pub other : ys ≡ []

pub both_none : {A : Type 0} (xs ys : List A) → xs ++ ys ≡ [] → BothNone xs ys
both_none [] ys h = record { one = refl; other = h }
both_none (x ∷ xs) ys h = absurd (cc)

-- what no statement has, none of the statements up to one more has
none_up_to : {A : Type 0} (f : Body → List A) (before : List Stmt) (s : Stmt) → from_all f before ≡ [] → f s.body ≡ [] → from_all f (before ++ s ∷ []) ≡ []
unfolding from_all
none_up_to f [] s none here = ap (λ xs. xs ++ []) here
none_up_to f (b ∷ bs) s none here =
    let parts = both_none (f b.body) (from_all f bs) none in (λ i. parts.one i ++ none_up_to f bs s parts.other here i)

-- a row that is broken nowhere
either_none : {A : Type 0} (b : Bool) (xs ys : List A) → xs ≡ [] → ys ≡ [] → (if b then xs else ys) ≡ []
either_none true xs ys one other = one
either_none false xs ys one other = other

none_at_first : (u : WrittenUnit) (test : Body → Bool) (ss : List Stmt) → at_first u test ss [] ≡ []
unfolding at_first stood
none_at_first u test [] = refl
none_at_first u test (s ∷ ss) = either_none (test s.body) (stood s []) (at_first u test ss []) refl (none_at_first u test ss)

-- ## Where names begin

abbrev apart_all : Placing
apart_all = record { blocks = []; equations = [] }

placed_apart : (c : Facts) (names : Naming) (ss : List Stmt) → from_all common_in ss ≡ [] → from_all equivalence_in ss ≡ [] → placing_by c names ss ≡ apart_all
unfolding placing_by block_equations blocks_from ties_of
placed_apart c names ss common tied = λ i. record {
  blocks = blocks_from names [] (common i);
  equations = block_equations (blocks_from names [] (common i)) ++ map tie_equation (ties_of c names (tied i));
}

module _ (c : Facts) (names : Naming) where
  no_placing_row : (before ss : List Stmt) → from_all common_in before ≡ [] → from_all equivalence_in before ≡ [] → from_all common_in ss ≡ [] → from_all equivalence_in ss ≡ [] →
      placing_rows_from c names before ss ≡ []
  unfolding placing_rows_from stood unless groups_settled newly contradicts is_joined_or_extended first_items from_all
  no_placing_row before [] common tied commons ties = refl
  no_placing_row before (s ∷ ss) common tied commons ties =
      let block = both_none (common_in s.body) (from_all common_in ss) commons in
      let tie = both_none (equivalence_in s.body) (from_all equivalence_in ss) ties in
      let old = placed_apart c names before common tied in
      let common' = none_up_to common_in before s common block.one in
      let tied' = none_up_to equivalence_in before s tied tie.one in
      let new = placed_apart c names (before ++ s ∷ []) common' tied' in
      (λ i. stood s (unless (groups_settled c names (tie.one i)) EquivalenceContradiction ++
      (newly (contradicts (old i).equations) (contradicts (new i).equations) EquivalenceContradiction ++
      newly (contradicts (new i).equations || is_joined_or_extended (old i)) (is_joined_or_extended (new i)) CommonJoinedOrExtended))
      ++ no_placing_row (before ++ s ∷ []) ss common' tied' block.other tie.other i)

or_true : (b : Bool) → (b || true) ≡ true
or_true true = refl
or_true false = refl

on_a_word : (a : Attribute) (x : Bytes) → is_on_word apart_all a x ≡ true
unfolding is_on_word place_in reached_from further_times count first_items first_among start_by least_of is_among
on_a_word a x = or_true (is_character a.basic)

no_word_row : (u : WrittenUnit) (names : Naming) (ms : List Member) → word_rows u names apart_all ms ≡ []
unfolding word_rows unless
no_word_row u names [] = refl
no_word_row u names (m ∷ ms) =
    (λ i. at_first u (shares u m.name) u.statements (unless (on_a_word (names m.name) m.name i) NumericPlaceNotOnAWord) ++ word_rows u names apart_all ms)
    ∙ (λ i. none_at_first u (shares u m.name) u.statements i ++ no_word_row u names ms i)

-- ## DATA

no_data_row : (c : Facts) (names : Naming) (before : List Spot) (ss : List Stmt) → from_all data_in ss ≡ [] → data_rows_from c names before ss ≡ []
unfolding data_rows_from from_all all_filled stood unless
no_data_row c names before [] none = refl
no_data_row c names before (s ∷ ss) none =
    let here = both_none (data_in s.body) (from_all data_in ss) none in
    (λ i. let f = all_filled c names before (here.one i) in stood s (unless f.well BadData) ++ data_rows_from c names f.spots ss)
    ∙ no_data_row c names before ss here.other

no_common_row : (u : WrittenUnit) (names : Naming) (p : Placing) (ss : List Stmt) → from_all data_in ss ≡ [] → common_rows_from u names p ss ≡ []
unfolding common_rows_from from_all names_filled stood unless
no_common_row u names p [] none = refl
no_common_row u names p (s ∷ ss) none =
    let here = both_none (data_in s.body) (from_all data_in ss) none in
    (λ i. stood s (unless (not (list_any (λ x. is_stored (names x) && not (may_fill_all u.kind (blocks_with p x p.blocks))) (names_filled (here.one i)))) CommonInitialised) ++ no_common_row u names p ss here.other i)

-- ## The storage of the unit

module _ (u : WrittenUnit) (p : ProgramUnit) (common : from_all common_in u.statements ≡ []) (tied : from_all equivalence_in u.statements ≡ []) (given : from_all data_in u.statements ≡ []) where
  apart_here : placing_of u p ≡ apart_all
  unfolding placing_of
  apart_here = placed_apart (apart p) p.attribute u.statements common tied

  pub no_row_of_storage : unit_storage_faults u p ≡ []
  unfolding unit_storage_faults unit_placing_rows is_sound contradicts is_joined_or_extended first_items unit_data_rows from_all
  no_row_of_storage =
      (λ i. (no_placing_row (apart p) p.attribute [] u.statements refl refl common tied i ++ (if is_sound (apart_here i) then word_rows u p.attribute (apart_here i) p.stored else []))
      ++ (if is_sound (apart_here i) then unit_data_rows u p (apart_here i) else []))
      ∙ (λ i. no_word_row u p.attribute p.stored i ++ (no_data_row (placed apart_all p) p.attribute [] u.statements given i ++ no_common_row u p.attribute apart_all u.statements given i))

-- ## What the unit shares with units before it

most_of_none : (n : ℕ) → max 0 (0 + n) ≡ n
most_of_none n = omega arith

size_alone : (names : Naming) (x : Bytes) → length_in names apart_all x ≡ size_of (names x)
unfolding length_in furthest reached_from further_times count first_items first_among start_by least_of is_among
size_alone names x = most_of_none (size_of (names x))

small_enough : (n : ℕ) → n < 67108865 → not (nat_lt most_storage n) ≡ true
unfolding most_storage
small_enough n less = grind (arith, nat_tests)

no_size_row : (u : WrittenUnit) (names : Naming) (ms : List Member) → ((m : Member) → IsIn m ms → size_of (names m.name) < 67108865) → size_rows u names apart_all ms ≡ []
unfolding size_rows unless
no_size_row u names [] small = refl
no_size_row u names (m ∷ ms) small =
    (λ i. at_first u (mentions u m.name) u.statements (unless ((ap (λ n. not (nat_lt most_storage n)) (size_alone names m.name) ∙ small_enough (size_of (names m.name)) (small m first_in)) i) StorageTooLarge) ++ size_rows u names apart_all ms)
    ∙ (λ i. none_at_first u (mentions u m.name) u.statements i ++ no_size_row u names ms (λ n o. small n (later_in o)) i)

no_filled_row : (names : Naming) (p : Placing) (before : List Bytes) (ss : List Stmt) → from_all data_in ss ≡ [] → filled_rows names p before ss ≡ []
unfolding filled_rows from_all names_filled filled_blocks stood unless
no_filled_row names p before [] none = refl
no_filled_row names p before (s ∷ ss) none =
    let here = both_none (data_in s.body) (from_all data_in ss) none in
    (λ i. stood s (unless (not (list_any (λ x. is_among x before) (filled_blocks names p (names_filled (here.one i))))) CommonInitialisedTwice) ++ no_filled_row names p before ss here.other i)

module _ (options : Options) (u : WrittenUnit) (before : Before) (common : from_all common_in u.statements ≡ []) (tied : from_all equivalence_in u.statements ≡ [])
    (given : from_all data_in u.statements ≡ []) (small : (m : Member) → IsIn m (unit_read options u).stored → size_of ((unit_read options u).attribute m.name) < 67108865) where
  pub no_row_of_shared_storage : unit_storage_rows u (unit_read options u) (placing_of u (unit_read options u)) before ≡ []
  unfolding unit_storage_rows measured_blocks length_rows
  no_row_of_shared_storage =
      let p = unit_read options u in
      let alone = apart_here u p common tied given in
      (λ i. length_rows u before.blocks (measured_blocks p.attribute (alone i) (alone i).blocks) ++ (size_rows u p.attribute (alone i) p.stored ++ filled_rows p.attribute (alone i) before.filled u.statements))
      ∙ (λ i. no_size_row u p.attribute p.stored small i ++ no_filled_row p.attribute apart_all before.filled u.statements given i)
