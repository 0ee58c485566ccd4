-- Where the stored names of a unit begin, as its COMMON and EQUIVALENCE statements say, and the rows that these statements break: F35, F36 and
-- F46. ANSI X3.9-1978, sections 8.2 (EQUIVALENCE), 8.3 (COMMON) and 17.1 (storage association). Places are counted in character units; a
-- numeric unit is four of them.
use Rattle.std.specs.Ordering.{int_eq}
use Rattle.std.specs.Prelude.{ℕ, zero, suc, ◌%◌, nat_eq, ℤ, pos, neg_ℤ, ◌+ℤ◌, int_lt, nat_abs, Bool, true, false, not, ◌&&◌, ◌||◌, List, [], ◌∷◌, ◌++◌, map, bytes_eq, Option, Some, None, if◌then◌else◌}
use Rattle.std.specs.List.{list_any}
use Rattle.fortran_text.specs.f_tree.declared.refusals.Kind.{Kind}
use Rattle.fortran_text.specs.f_tree.declared.refusals.Kind.TheVariants.{EquivalenceContradiction, CommonJoinedOrExtended, NumericPlaceNotOnAWord}
use Rattle.fortran_text.specs.f_tree.declared.refusals.Refusal.{Refusal}
use Rattle.fortran_text.specs.f_tree.declared.expressions.Expr.{Expr}
use Rattle.fortran_text.specs.f_tree.declared.statements.Body.{Body}
use Rattle.fortran_text.specs.f_tree.declared.statements.Body.TheOpen as body
use Rattle.fortran_text.specs.f_tree.declared.statements.EquivalenceGroup.{EquivalenceGroup}
use Rattle.fortran_text.specs.f_tree.declared.statements.Stmt.{Stmt}
use Rattle.fortran_text.specs.f_tree.declared.units.Unit.{Unit as WrittenUnit}
use Rattle.fortran_text.specs.f_tree.Values.{Bytes}
use Rattle.fortran_text.specs.f_tree.Folds.{layer_of}
use Rattle.fortran_text.specs.f_tree.Facts.{Attribute, Member, Block, Tie, ProgramUnit, Facts}
use Rattle.fortran_text.specs.f_tree.Attributes.{from_all, is_not_empty}
use Rattle.fortran_text.specs.f_tree.Lines.{Naming, is_character, blocks_from, common_in, equivalence_in, ties_of, tied_of, apart}
use Rattle.fortran_text.specs.f_tree.Uses.{is_among}
use Rattle.declaration_rows.specs.Judgement.{unless}
use Rattle.declaration_rows.specs.NameRows.{stood, at_first, mentions}

-- One name begins so many units behind another.
pub record Equation : Type 0 where
  pub one : Bytes
  pub other : Bytes
  pub by : ℤ

-- The items of a block stand end to end (8.3.3).
unfoldable pub member_equations : List Member → List Equation
member_equations [] = []
member_equations (m ∷ []) = []
member_equations (m ∷ n ∷ ms) = record { one = m.name; other = n.name; by = pos m.size } ∷ member_equations (n ∷ ms)

-- The two places of an EQUIVALENCE are one (8.2.1).
unfoldable pub tie_equation : Tie → Equation
tie_equation t = record { one = t.one.name; other = t.other.name; by = pos t.one.before +ℤ neg_ℤ (pos t.other.before) }

unfoldable pub block_equations : List Block → List Equation
block_equations [] = []
block_equations (b ∷ bs) = member_equations b.members ++ block_equations bs

-- What statements say of the storage of a unit: its blocks, and its equations.
pub record Placing : Type 0 where
  pub blocks : List Block
  pub equations : List Equation

unfoldable pub placing_by : Facts → Naming → List Stmt → Placing
placing_by c names ss =
    let blocks = blocks_from names [] (from_all common_in ss) in
    record { blocks = blocks; equations = block_equations blocks ++ map tie_equation (ties_of c names (from_all equivalence_in ss)) }

-- A name that begins so many units behind the one that is asked for.
pub record Reached : Type 0 where
  pub name : Bytes
  pub by : ℤ

unfoldable pub is_reached : Bytes → ℤ → List Reached → Bool
is_reached x d rs = list_any (λ (r : Reached). bytes_eq r.name x && int_eq r.by d) rs

unfoldable pub reached_by : Equation → Reached → List Reached
reached_by e r =
    (if bytes_eq e.one r.name then record { name = e.other; by = r.by +ℤ e.by } ∷ [] else []) ++
    (if bytes_eq e.other r.name then record { name = e.one; by = r.by +ℤ neg_ℤ e.by } ∷ [] else [])

unfoldable pub all_reached_by : Equation → List Reached → List Reached
all_reached_by e [] = []
all_reached_by e (r ∷ rs) = reached_by e r ++ all_reached_by e rs

unfoldable pub with_new : List Reached → List Reached → List Reached
with_new rs [] = rs
with_new rs (r ∷ more) = with_new (if is_reached r.name r.by rs then rs else rs ++ r ∷ []) more

-- every equation once
unfoldable pub further : List Equation → List Reached → List Reached
further [] rs = rs
further (e ∷ es) rs = further es (with_new rs (all_reached_by e rs))

unfoldable pub further_times : ℕ → List Equation → List Reached → List Reached
further_times zero es rs = rs
further_times (suc n) es rs = further_times n es (further es rs)

unfoldable pub count : {A : Type 0} → List A → ℕ
count [] = 0
count (a ∷ more) = suc (count more)

-- The names that share the storage of a name, with where they begin. Each further name takes an equation, so no more rounds are wanted than
-- there are equations.
unfoldable pub reached_from : List Equation → Bytes → List Reached
reached_from es x = further_times (count es) es (record { name = x; by = pos 0 } ∷ [])

-- A CONTRADICTION: a name begins elsewhere than where it begins.
unfoldable pub is_contradicted : List Equation → Bytes → Bool
is_contradicted es x = list_any (λ (r : Reached). bytes_eq r.name x && not (int_eq r.by (pos 0))) (reached_from es x)

unfoldable pub contradicts : List Equation → Bool
contradicts es = list_any (λ (e : Equation). is_contradicted es e.one) es

-- A block begins with its first item, and no block begins in another (8.2.3).
unfoldable pub first_item : Block → List Bytes
first_item b = elim b.members [ [] ↦ [] | m ∷ ms ↦ m.name ∷ [] ]

unfoldable pub first_items : List Block → List Bytes
first_items [] = []
first_items (b ∷ bs) = first_item b ++ first_items bs

unfoldable pub extends_before : List Equation → Bytes → Bool
extends_before es x = list_any (λ (r : Reached). int_lt r.by (pos 0)) (reached_from es x)

unfoldable pub joins_other : List Equation → List Bytes → Bytes → Bool
joins_other es firsts x = list_any (λ (r : Reached). is_among r.name firsts && not (bytes_eq r.name x)) (reached_from es x)

unfoldable pub is_joined_or_extended : Placing → Bool
is_joined_or_extended p =
    list_any (λ x. extends_before p.equations x || joins_other p.equations (first_items p.blocks) x) (first_items p.blocks)

-- An EQUIVALENCE place with constant subscripts and places within their bounds (8.2.4).
unfoldable pub all_settled : Facts → Naming → List Expr → Bool
all_settled c names [] = true
all_settled c names (e ∷ es) = is_not_empty (tied_of c names e) && all_settled c names es

unfoldable pub groups_settled : Facts → Naming → List EquivalenceGroup → Bool
groups_settled c names [] = true
groups_settled c names (g ∷ gs) = all_settled c names g.places && groups_settled c names gs

-- The first statement such that the statements up to it have a fault, given whether those before it have it. Where equations contradict each
-- other, names begin nowhere, and nothing is said of what is joined or extended.
unfoldable pub newly : Bool → Bool → Kind → List Kind
newly before now kind = if now && not before then kind ∷ [] else []

unfoldable pub placing_rows_from : Facts → Naming → List Stmt → List Stmt → List Refusal
placing_rows_from c names before [] = []
placing_rows_from c names before (s ∷ ss) =
    let old = placing_by c names before in
    let new = placing_by c names (before ++ s ∷ []) in
    stood s (unless (groups_settled c names (equivalence_in s.body)) EquivalenceContradiction ++
    (newly (contradicts old.equations) (contradicts new.equations) EquivalenceContradiction ++
    newly (contradicts new.equations || is_joined_or_extended old) (is_joined_or_extended new) CommonJoinedOrExtended)) ++
    placing_rows_from c names (before ++ s ∷ []) ss

-- WHERE A NAME STANDS in its sequence: behind the first item of its block, else behind what begins first.
unfoldable pub least_of : ℤ → List Reached → ℤ
least_of d [] = d
least_of d (r ∷ rs) = least_of (if int_lt r.by d then r.by else d) rs

unfoldable pub first_among : List Bytes → List Reached → Option ℤ
first_among firsts [] = None
first_among firsts (r ∷ rs) = if is_among r.name firsts then Some r.by else first_among firsts rs

unfoldable pub start_by : Option ℤ → List Reached → ℤ
start_by None rs = least_of (pos 0) rs
start_by (Some d) rs = d

-- the units of its sequence before a name
unfoldable pub place_in : Placing → Bytes → ℕ
place_in p x = let rs = reached_from p.equations x in nat_abs (start_by (first_among (first_items p.blocks) rs) rs)

-- A numeric item begins at a multiple of four.
unfoldable pub is_on_word : Placing → Attribute → Bytes → Bool
is_on_word p a x = is_character a.basic || nat_eq (place_in p x % 4) 0

-- a COMMON or EQUIVALENCE statement that names it
unfoldable pub shares_storage : Body → Bool
shares_storage b = elim (layer_of b) [ body.Common groups ↦ true | body.Equivalence groups ↦ true | _ ↦ false ]

unfoldable pub shares : WrittenUnit → Bytes → Body → Bool
shares u x b = shares_storage b && mentions u x b

unfoldable pub word_rows : WrittenUnit → Naming → Placing → List Member → List Refusal
word_rows u names p [] = []
word_rows u names p (m ∷ ms) =
    at_first u (shares u m.name) u.statements (unless (is_on_word p (names m.name) m.name) NumericPlaceNotOnAWord) ++ word_rows u names p ms

-- The placing of a unit, by all its statements.
unfoldable pub placing_of : WrittenUnit → ProgramUnit → Placing
placing_of u p = placing_by (apart p) p.attribute u.statements

-- A name has its place where no equations contradict each other, and no block is joined to another one or extended.
unfoldable pub is_sound : Placing → Bool
is_sound p = not (contradicts p.equations) && not (is_joined_or_extended p)

unfoldable pub unit_placing_rows : WrittenUnit → ProgramUnit → List Refusal
unit_placing_rows u p =
    placing_rows_from (apart p) p.attribute [] u.statements ++ (if is_sound (placing_of u p) then word_rows u p.attribute (placing_of u p) p.stored else [])

unfoldable pub placing_rows_opened : Unit {0}
unfolding member_equations tie_equation block_equations placing_by is_reached reached_by all_reached_by with_new further further_times count reached_from is_contradicted contradicts first_item first_items extends_before joins_other is_joined_or_extended all_settled groups_settled newly placing_rows_from least_of first_among start_by place_in is_on_word shares_storage shares word_rows placing_of is_sound unit_placing_rows
placing_rows_opened = tt
