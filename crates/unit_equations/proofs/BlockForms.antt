-- Blocks one list of COMMON after another, a block that is found by its place, and names of which only their sizes count.
use Rattle.std.proofs.Common.{◌≡◌, ℕ, zero, suc, ◌+◌, ◌<◌, ◌≤◌, Bool, true, false, List, [], ◌∷◌, ◌++◌, map, length, set, drop, drop-cons, get_or, Option, None, option_copied, Result, Ok, Err, OnOk, is_ok, if◌then◌else◌, append_assoc, append-nil, arith, refl, sym, ap, ◌∙◌}
use Rattle.std.proofs.lemmas.List.{drop_all, map-append, length-map}
use Rattle.f_tree.specs.Folds.{layer_of}
use Rattle.f_tree.specs.declared.statements.ArrayDeclarator.{ArrayDeclarator}
use Rattle.f_tree.specs.declared.statements.Body.{Body, Common, IfOne', more_of-Body}
use Rattle.f_tree.specs.declared.statements.Body.TheVariants as body
use Rattle.f_tree.specs.declared.statements.CommonGroup.{CommonGroup}
use Rattle.f_tree.specs.declared.statements.Stmt.{Stmt}
use Rattle.f_tree.specs.declared.units.Unit.{Unit as WrittenUnit}
use Rattle.f_tree.specs.Values.{Bytes}
use Rattle.f_tree.specs.Facts as facts
use Rattle.f_tree.specs.Facts.{Attribute}
use Rattle.f_tree.specs.Attributes.{from_all}
use Rattle.f_tree.specs.Lines.{Naming, size_by, size_of, member_of, same_block, into_block, blocks_from, common_in}
use Rattle.declaration_rows.specs.NameRows.{given_names}
use Rattle.declaration_rows.specs.PlacingRows.{member_equations, block_equations, first_item, first_items}
use Rattle.name_facts.specs.declared.table.NameFacts.{NameFacts}
use Rattle.name_facts.specs.GivenFacts.{IsNameFact, AreNameFacts, fact_in}
use Rattle.name_facts.specs.declared.fact.NameFact.{NameFact}
use Rattle.unit_equations.specs.declared.blocks.Block.{Block}
use Rattle.unit_equations.specs.declared.blocks.Member.{Member}
use Rattle.unit_equations.specs.BlocksTold.{attribute_by, naming_by, member_in, block_in, place_in}

-- WALKS: what all elements come to is what the rest comes to
rest_is : {X : Type 0} (xs : List X) (i : ℕ) (x d : X) → i < length xs → x ≡ get_or xs i d → drop i xs ≡ x ∷ drop (i + 1) xs
rest_is xs i x d h is = drop-cons xs i d h ∙ ap (λ y. y ∷ drop (suc i) xs) (sym is) ∙ ap (λ n. x ∷ drop n xs) (let e : suc i ≡ i + 1 = omega arith in e)

module _ {S X A : Type 0} (all : S → List X → A) (next : S → X → S) where
  pub comes_on : ((s : S) (x : X) (xs : List X) → all s (x ∷ xs) ≡ all (next s x) xs) → (xs : List X) (i : ℕ) (x d : X) (s after : S) (whole : A) → i < length xs
      → x ≡ get_or xs i d → whole ≡ all s (drop i xs) → after ≡ next s x → whole ≡ all after (drop (i + 1) xs)
  comes_on step xs i x d s after whole h is so_far moved =
      so_far ∙ ap (all s) (rest_is xs i x d h is) ∙ step s x (drop (i + 1) xs) ∙ ap (λ t. all t (drop (i + 1) xs)) (sym moved)

pub comes_to_end : {S X A : Type 0} (all : S → List X → A) (xs : List X) (i : ℕ) (s : S) (whole : A) → length xs ≤ i → whole ≡ all s (drop i xs) → whole ≡ all s []
comes_to_end all xs i s whole h so_far = so_far ∙ ap (all s) (drop_all i xs h)

module _ {X A : Type 0} (rest : List X → List A) (out : X → List A) where
  pub each_more : ((x : X) (xs : List X) → rest (x ∷ xs) ≡ out x ++ rest xs)
      → (xs : List X) (i : ℕ) (x d : X) (whole done now : List A) → i < length xs → x ≡ get_or xs i d
      → whole ≡ done ++ rest (drop i xs) → now ≡ done ++ out x → whole ≡ now ++ rest (drop (i + 1) xs)
  each_more step xs i x d whole done now h is so_far put =
      so_far ∙ ap (λ ys. done ++ rest ys) (rest_is xs i x d h is) ∙ ap (λ ys. done ++ ys) (step x (drop (i + 1) xs))
      ∙ sym (append_assoc done (out x) (rest (drop (i + 1) xs))) ∙ ap (λ ys. ys ++ rest (drop (i + 1) xs)) (sym put)

  pub each_end : rest [] ≡ [] → (xs : List X) (i : ℕ) (whole done : List A) → length xs ≤ i → whole ≡ done ++ rest (drop i xs) → done ≡ whole
  each_end none xs i whole done h so_far =
      sym (so_far ∙ ap (λ ys. done ++ rest ys) (drop_all i xs h) ∙ ap (λ ys. done ++ ys) none ∙ append-nil done)

-- LISTS OF COMMON one after another
pub groups_step : (names : Naming) (bs : List facts.Block) (g : CommonGroup) (gs : List CommonGroup)
    → blocks_from names bs (g ∷ gs) ≡ blocks_from names (into_block g.block (map (member_of names) g.items) bs) gs
unfolding blocks_from
groups_step names bs g gs = refl

pub groups_both : (names : Naming) (bs : List facts.Block) (gs hs : List CommonGroup) → blocks_from names bs (gs ++ hs) ≡ blocks_from names (blocks_from names bs gs) hs
unfolding blocks_from
groups_both names bs [] hs = refl
groups_both names bs (g ∷ gs) hs = groups_both names (into_block g.block (map (member_of names) g.items) bs) gs hs

pub statements_step : (names : Naming) (bs : List facts.Block) (s : Stmt) (ss : List Stmt)
    → blocks_from names bs (from_all common_in (s ∷ ss)) ≡ blocks_from names (blocks_from names bs (common_in s.body)) (from_all common_in ss)
unfolding from_all
statements_step names bs s ss = groups_both names bs (common_in s.body) (from_all common_in ss)

pub groups_none : (names : Naming) (bs : List facts.Block) → blocks_from names bs [] ≡ bs
unfolding blocks_from
groups_none names bs = refl

pub statements_none : (names : Naming) (bs : List facts.Block) → blocks_from names bs (from_all common_in []) ≡ bs
unfolding blocks_from from_all
statements_none names bs = refl

pub common_other : (b : Body) → ((gs : List CommonGroup) → b ≡ body.Common gs → ⊥) → common_in b ≡ []
unfolding common_in layer_of
common_other (Common gs) other = absurd (other gs refl)
common_other (IfOne' e s (more_of-Body b r)) other = refl
common_other _ other = refl

pub common_itself : (gs : List CommonGroup) → common_in (body.Common gs) ≡ gs
unfolding common_in layer_of
common_itself gs = refl

-- A BLOCK BY ITS PLACE
pub put_at : ℕ → List facts.Member → List facts.Block → List facts.Block
put_at n ms [] = []
put_at zero ms (b ∷ bs) = record b { members = b.members ++ ms } ∷ bs
put_at (suc n) ms (b ∷ bs) = b ∷ put_at n ms bs

here_by : (x : Option Bytes) (ms : List facts.Member) (b : facts.Block) (bs : List facts.Block) (test : Bool)
    → (if test then 0 else suc (place_in x bs)) < suc (length bs) → (place_in x bs < length bs → into_block x ms bs ≡ put_at (place_in x bs) ms bs)
    → (if test then record b { members = b.members ++ ms } ∷ bs else b ∷ into_block x ms bs) ≡ put_at (if test then 0 else suc (place_in x bs)) ms (b ∷ bs)
unfolding put_at
here_by x ms b bs true h later = refl
here_by x ms b bs false h later = ap (λ cs. b ∷ cs) (later (omega arith))

pub into_here : (x : Option Bytes) (ms : List facts.Member) (bs : List facts.Block) → place_in x bs < length bs → into_block x ms bs ≡ put_at (place_in x bs) ms bs
unfolding into_block place_in put_at
into_here x ms [] h = absurd (let k : 0 < 0 = h in omega arith)
into_here x ms (b ∷ bs) h = here_by x ms b bs (same_block b.name x) h (into_here x ms bs)

new_by : (x : Option Bytes) (ms : List facts.Member) (b : facts.Block) (bs : List facts.Block) (test : Bool)
    → suc (length bs) ≤ (if test then 0 else suc (place_in x bs)) → (length bs ≤ place_in x bs → into_block x ms bs ≡ bs ++ record { name = x; members = ms } ∷ [])
    → (if test then record b { members = b.members ++ ms } ∷ bs else b ∷ into_block x ms bs) ≡ b ∷ bs ++ record { name = x; members = ms } ∷ []
new_by x ms b bs true h later = absurd (let k : suc (length bs) ≤ 0 = h in omega arith)
new_by x ms b bs false h later = ap (λ cs. b ∷ cs) (later (omega arith))

pub into_new : (x : Option Bytes) (ms : List facts.Member) (bs : List facts.Block) → length bs ≤ place_in x bs
    → into_block x ms bs ≡ bs ++ record { name = x; members = ms } ∷ []
unfolding into_block place_in
into_new x ms [] h = refl
into_new x ms (b ∷ bs) h = new_by x ms b bs (same_block b.name x) h (into_new x ms bs)

put_set : (k : ℕ) (bs : List Block) (b now : Block) (ms : List facts.Member) → k < length bs → b ≡ get_or bs k b
    → block_in now ≡ record { name = option_copied b.name; members = map member_in b.members.items ++ ms } → map block_in (set bs k now) ≡ put_at k ms (map block_in bs)
unfolding put_at
put_set k [] b now ms h is same = absurd (let m : k < 0 = h in omega arith)
put_set zero (c ∷ bs) b now ms h is same =
    ap (λ z. z ∷ map block_in bs) (same ∙ ap (λ (a : Block). record { name = option_copied a.name; members = map member_in a.members.items ++ ms }) is)
put_set (suc k) (c ∷ bs) b now ms h is same =
    ap (λ zs. block_in c ∷ zs) (put_set k bs b now ms (let m : suc k < suc (length bs) = h in omega arith) is same)

-- members are added to a block that is there
pub add_members : {A E : Type 0} (r : Result A E) (x : Option Bytes) (ms : List facts.Member) (bs : List Block) (k : ℕ) (b now : Block) (more : List Member)
    → k ≡ place_in x (map block_in bs) → k < length bs → b ≡ get_or bs k b → now.name ≡ b.name
    → now.members.items ≡ (if is_ok r then b.members.items ++ more else b.members.items) → map member_in more ≡ ms
    → OnOk r (map block_in (set bs k now) ≡ into_block x ms (map block_in bs))
add_members (Err e) x ms bs k b now more at h is name put told = tt
add_members (Ok a) x ms bs k b now more at h is name put told =
    let same : block_in now ≡ record { name = option_copied b.name; members = map member_in b.members.items ++ ms } =
    ap (λ y. record { name = option_copied y; members = map member_in now.members.items }) name
    ∙ ap (λ ns. record { name = option_copied b.name; members = ns })
    (ap (map member_in) put ∙ map-append member_in b.members.items more ∙ ap (λ ns. map member_in b.members.items ++ ns) told) in
    put_set k bs b now ms h is same
    ∙ ap (λ j. put_at j ms (map block_in bs)) at
    ∙ sym (into_here x ms (map block_in bs) (let e = length-map bs block_in in omega (arith, at)))

-- or to a block that is new
pub add_block : (x : Option Bytes) (ms : List facts.Member) (bs new : List Block) (b : Block) → new ≡ bs ++ b ∷ [] → length bs ≤ place_in x (map block_in bs)
    → option_copied b.name ≡ x → map member_in b.members.items ≡ ms → map block_in new ≡ into_block x ms (map block_in bs)
add_block x ms bs new b put h name told =
    ap (map block_in) put ∙ map-append block_in bs (b ∷ [])
    ∙ ap (λ y. map block_in bs ++ record { name = y; members = map member_in b.members.items } ∷ []) name
    ∙ ap (λ ns. map block_in bs ++ record { name = x; members = ns } ∷ []) told
    ∙ sym (into_new x ms (map block_in bs) (let e = length-map bs block_in in omega arith))

-- SIZES alone count
size_told : (a : Attribute) (f : NameFact) → IsNameFact a f → size_of (attribute_by f) ≡ size_of a
unfolding size_of size_by attribute_by
size_told a f is =
    ap (λ bs. size_by (record { basic = f.basic; class = f.class; width = f.width; dimensions = []; bounds = bs; constant = None; expansion = None }) f.width) is.bounds
    ∙ ap (λ w. by_width w) is.width
  where
    by_width : Option ℕ → ℕ
    by_width w = size_by (record { basic = f.basic; class = f.class; width = f.width; dimensions = []; bounds = a.bounds; constant = None; expansion = None }) w

members_told : (n m : Naming) → ((x : Bytes) → size_of (n x) ≡ size_of (m x)) → (ds : List ArrayDeclarator) → map (member_of n) ds ≡ map (member_of m) ds
unfolding member_of
members_told n m same [] = refl
members_told n m same (d ∷ ds) =
    ap (λ (size : ℕ). record { name = d.name; size = size } ∷ map (member_of n) ds) (same d.name) ∙ ap (λ ms. member_of m d ∷ ms) (members_told n m same ds)

blocks_alike : (n m : Naming) → ((x : Bytes) → size_of (n x) ≡ size_of (m x)) → (bs : List facts.Block) (gs : List CommonGroup) → blocks_from n bs gs ≡ blocks_from m bs gs
unfolding blocks_from
blocks_alike n m same bs [] = refl
blocks_alike n m same bs (g ∷ gs) =
    ap (λ ms. blocks_from n (into_block g.block ms bs) gs) (members_told n m same g.items)
    ∙ blocks_alike n m same (into_block g.block (map (member_of m) g.items) bs) gs

pub blocks_told : (u : WrittenUnit) (table : NameFacts) → AreNameFacts u table → (bs : List facts.Block) (gs : List CommonGroup)
    → blocks_from (naming_by table) bs gs ≡ blocks_from (given_names u) bs gs
unfolding naming_by
blocks_told u table are bs gs =
    blocks_alike (naming_by table) (given_names u) (λ x. size_told (given_names u x) (fact_in table x) (are.facts x)) bs gs

-- EQUATIONS of blocks
pub equations_step : (b : facts.Block) (bs : List facts.Block) → block_equations (b ∷ bs) ≡ member_equations b.members ++ block_equations bs
unfolding block_equations
equations_step b bs = refl

pub equations_none : block_equations [] ≡ []
unfolding block_equations
equations_none = refl

-- MEMBERS one after another
pub put_member : (names : Naming) (d : ArrayDeclarator) (old new : List Member) (m : Member) → new ≡ old ++ m ∷ [] → m.name.now ≡ d.name
    → m.size ≡ size_of (names m.name.now) → map member_in new ≡ map member_in old ++ member_of names d ∷ []
unfolding member_of
put_member names d old new m put name size =
    ap (map member_in) put ∙ map-append member_in old (m ∷ [])
    ∙ ap (λ (n : ℕ). map member_in old ++ record { name = m.name.now; size = n } ∷ []) size
    ∙ ap (λ (x : Bytes). map member_in old ++ record { name = x; size = size_of (names x) } ∷ []) name

-- FIRST ITEMS of blocks
pub firsts_step : (b : facts.Block) (bs : List facts.Block) → first_items (b ∷ bs) ≡ first_item b ++ first_items bs
unfolding first_items
firsts_step b bs = refl

pub firsts_none : first_items [] ≡ []
unfolding first_items
firsts_none = refl
