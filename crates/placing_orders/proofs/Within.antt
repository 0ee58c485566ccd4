-- What statements say of storage is said too where further statements stand behind them: the equations, and the first items of blocks.
use Rattle.std.proofs.Common.{◌≡◌, Bool, true, false, List, [], ◌∷◌, ◌++◌, map, Option, if◌then◌else◌, append_assoc, refl, sym, ap, subst, ◌∙◌, inl, inr}
use Rattle.placing_laws.specs.f_tree.declared.statements.Body.{Body}
use Rattle.placing_laws.specs.f_tree.declared.statements.CommonGroup.{CommonGroup}
use Rattle.placing_laws.specs.f_tree.declared.statements.EquivalenceGroup.{EquivalenceGroup}
use Rattle.placing_laws.specs.f_tree.declared.statements.Stmt.{Stmt}
use Rattle.placing_laws.specs.f_tree.Values.{Bytes}
use Rattle.placing_laws.specs.f_tree.Setting.{IsIn, first_in, later_in}
use Rattle.placing_laws.specs.f_tree.Facts.{Member, Block, Facts}
use Rattle.placing_laws.specs.f_tree.Attributes.{from_all}
use Rattle.placing_laws.specs.f_tree.Lines.{Naming, member_of, same_block, into_block, blocks_from, common_in, equivalence_in, ties_of, ties_among, tieds_of}
use Rattle.placing_laws.specs.declaration_rows.PlacingRows.{Equation, member_equations, tie_equation, block_equations, placing_by, first_item, first_items}
use Rattle.placing_laws.proofs.Reaching.{in_front_of, in_back_of, in_either_of}

pub record AreWithin {A : Type 0} (xs ys : List A) : Type 0 where
  pub each : (a : A) → IsIn a xs → IsIn a ys

-- LISTS
pub from_both : {A : Type 0} (f : Body → List A) (ss ts : List Stmt) → from_all f (ss ++ ts) ≡ from_all f ss ++ from_all f ts
unfolding from_all
from_both f [] ts = refl
from_both f (s ∷ ss) ts = ap (λ xs. f s.body ++ xs) (from_both f ss ts) ∙ sym (append_assoc (f s.body) (from_all f ss) (from_all f ts))

in_mapped : {A B : Type 0} (f : A → B) (xs ys : List A) (b : B) → IsIn b (map f xs) → IsIn b (map f (xs ++ ys))
in_mapped f [] ys b h = elim h [ ]
in_mapped f (x ∷ xs) ys _ first_in = first_in
in_mapped f (x ∷ xs) ys b (later_in h) = later_in (in_mapped f xs ys b h)

-- MEMBERS of a block
more_members : (ms more : List Member) (e : Equation) → IsIn e (member_equations ms) → IsIn e (member_equations (ms ++ more))
unfolding member_equations
more_members [] more e h = elim h [ ]
more_members (m ∷ []) more e h = elim h [ ]
more_members (m ∷ n ∷ ms) more _ first_in = first_in
more_members (m ∷ n ∷ ms) more e (later_in h) = later_in (more_members (n ∷ ms) more e h)

first_of_more : (name : Option Bytes) (ms more : List Member) (x : Bytes) → IsIn x (first_item (record { name = name; members = ms }))
    → IsIn x (first_item (record { name = name; members = ms ++ more }))
unfolding first_item
first_of_more name [] more x h = elim h [ ]
first_of_more name (m ∷ ms) more x h = h

-- BLOCKS
equation_kept_by : (members : List Member) (b : Block) (bs cs : List Block) (e : Equation) (test : Bool) → IsIn e (block_equations (b ∷ bs))
    → (IsIn e (block_equations bs) → IsIn e (block_equations cs))
    → IsIn e (block_equations (if test then record b { members = b.members ++ members } ∷ bs else b ∷ cs))
unfolding block_equations
equation_kept_by members b bs cs e true h later =
    elim (in_either_of e (member_equations b.members) (block_equations bs) h) [
      | inl g ↦ in_front_of e (member_equations (b.members ++ members)) (block_equations bs) (more_members b.members members e g)
      | inr g ↦ in_back_of e (member_equations (b.members ++ members)) (block_equations bs) g
    ]
equation_kept_by members b bs cs e false h later =
    elim (in_either_of e (member_equations b.members) (block_equations bs) h) [
      | inl g ↦ in_front_of e (member_equations b.members) (block_equations cs) g
      | inr g ↦ in_back_of e (member_equations b.members) (block_equations cs) (later g)
    ]

equation_kept : (x : Option Bytes) (members : List Member) (bs : List Block) (e : Equation) → IsIn e (block_equations bs)
    → IsIn e (block_equations (into_block x members bs))
unfolding block_equations into_block
equation_kept x members [] e h = elim h [ ]
equation_kept x members (b ∷ bs) e h =
    equation_kept_by members b bs (into_block x members bs) e (same_block b.name x) h (equation_kept x members bs e)

first_kept_by : (members : List Member) (b : Block) (bs cs : List Block) (y : Bytes) (test : Bool) → IsIn y (first_items (b ∷ bs))
    → (IsIn y (first_items bs) → IsIn y (first_items cs))
    → IsIn y (first_items (if test then record b { members = b.members ++ members } ∷ bs else b ∷ cs))
unfolding first_items
first_kept_by members b bs cs y true h later =
    elim (in_either_of y (first_item b) (first_items bs) h) [
      | inl g ↦ in_front_of y (first_item (record b { members = b.members ++ members })) (first_items bs) (first_of_more b.name b.members members y g)
      | inr g ↦ in_back_of y (first_item (record b { members = b.members ++ members })) (first_items bs) g
    ]
first_kept_by members b bs cs y false h later =
    elim (in_either_of y (first_item b) (first_items bs) h) [
      | inl g ↦ in_front_of y (first_item b) (first_items cs) g
      | inr g ↦ in_back_of y (first_item b) (first_items cs) (later g)
    ]

first_kept : (x : Option Bytes) (members : List Member) (bs : List Block) (y : Bytes) → IsIn y (first_items bs) → IsIn y (first_items (into_block x members bs))
unfolding first_items into_block
first_kept x members [] y h = elim h [ ]
first_kept x members (b ∷ bs) y h = first_kept_by members b bs (into_block x members bs) y (same_block b.name x) h (first_kept x members bs y)

equations_kept : (names : Naming) (bs : List Block) (gs : List CommonGroup) (e : Equation) → IsIn e (block_equations bs) → IsIn e (block_equations (blocks_from names bs gs))
unfolding blocks_from
equations_kept names bs [] e h = h
equations_kept names bs (g ∷ gs) e h =
    equations_kept names (into_block g.block (map (member_of names) g.items) bs) gs e (equation_kept g.block (map (member_of names) g.items) bs e h)

firsts_kept : (names : Naming) (bs : List Block) (gs : List CommonGroup) (y : Bytes) → IsIn y (first_items bs) → IsIn y (first_items (blocks_from names bs gs))
unfolding blocks_from
firsts_kept names bs [] y h = h
firsts_kept names bs (g ∷ gs) y h =
    firsts_kept names (into_block g.block (map (member_of names) g.items) bs) gs y (first_kept g.block (map (member_of names) g.items) bs y h)

pub blocks_both : (names : Naming) (bs : List Block) (gs hs : List CommonGroup) → blocks_from names bs (gs ++ hs) ≡ blocks_from names (blocks_from names bs gs) hs
unfolding blocks_from
blocks_both names bs [] hs = refl
blocks_both names bs (g ∷ gs) hs = blocks_both names (into_block g.block (map (member_of names) g.items) bs) gs hs

pub blocks_of_both : (names : Naming) (ss ts : List Stmt)
    → blocks_from names [] (from_all common_in (ss ++ ts)) ≡ blocks_from names (blocks_from names [] (from_all common_in ss)) (from_all common_in ts)
blocks_of_both names ss ts =
    ap (blocks_from names []) (from_both common_in ss ts) ∙ blocks_both names [] (from_all common_in ss) (from_all common_in ts)

-- TIES
pub ties_both : (c : Facts) (names : Naming) (gs hs : List EquivalenceGroup) → ties_of c names (gs ++ hs) ≡ ties_of c names gs ++ ties_of c names hs
unfolding ties_of
ties_both c names [] hs = refl
ties_both c names (g ∷ gs) hs =
    ap (λ ts. ties_among (tieds_of c names g.places) ++ ts) (ties_both c names gs hs)
    ∙ sym (append_assoc (ties_among (tieds_of c names g.places)) (ties_of c names gs) (ties_of c names hs))

pub ties_of_both : (c : Facts) (names : Naming) (ss ts : List Stmt)
    → ties_of c names (from_all equivalence_in (ss ++ ts)) ≡ ties_of c names (from_all equivalence_in ss) ++ ties_of c names (from_all equivalence_in ts)
ties_of_both c names ss ts =
    ap (ties_of c names) (from_both equivalence_in ss ts) ∙ ties_both c names (from_all equivalence_in ss) (from_all equivalence_in ts)

-- A PLACING by statements, and by further ones behind them
pub firsts_within : (c : Facts) (names : Naming) (ss ts : List Stmt)
    → AreWithin (first_items (placing_by c names ss).blocks) (first_items (placing_by c names (ss ++ ts)).blocks)
unfolding placing_by
firsts_within c names ss ts = record {
  each = λ y h. subst (λ bs. IsIn y (first_items bs)) (sym (blocks_of_both names ss ts))
      (firsts_kept names (blocks_from names [] (from_all common_in ss)) (from_all common_in ts) y h);
}

pub equations_within : (c : Facts) (names : Naming) (ss ts : List Stmt) → AreWithin (placing_by c names ss).equations (placing_by c names (ss ++ ts)).equations
unfolding placing_by
equations_within c names ss ts = record { each = λ e h. there e h }
  where
    there : (e : Equation) → IsIn e (block_equations (blocks_from names [] (from_all common_in ss)) ++ map tie_equation (ties_of c names (from_all equivalence_in ss)))
        → IsIn e (block_equations (blocks_from names [] (from_all common_in (ss ++ ts))) ++ map tie_equation (ties_of c names (from_all equivalence_in (ss ++ ts))))
    there e h =
        elim (in_either_of e (block_equations (blocks_from names [] (from_all common_in ss))) (map tie_equation (ties_of c names (from_all equivalence_in ss))) h) [
          | inl g ↦ in_front_of e (block_equations (blocks_from names [] (from_all common_in (ss ++ ts)))) (map tie_equation (ties_of c names (from_all equivalence_in (ss ++ ts))))
              (subst (λ bs. IsIn e (block_equations bs)) (sym (blocks_of_both names ss ts))
              (equations_kept names (blocks_from names [] (from_all common_in ss)) (from_all common_in ts) e g))
          | inr g ↦ in_back_of e (block_equations (blocks_from names [] (from_all common_in (ss ++ ts)))) (map tie_equation (ties_of c names (from_all equivalence_in (ss ++ ts))))
              (subst (λ us. IsIn e (map tie_equation us)) (sym (ties_of_both c names ss ts))
              (in_mapped tie_equation (ties_of c names (from_all equivalence_in ss)) (ties_of c names (from_all equivalence_in ts)) e g))
        ]
