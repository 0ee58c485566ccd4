-- A setting that is written out is that of a set where finitely many facts of its names, blocks and ties hold.
use Rattle.std.proofs.Common.{◌≡◌, ℕ, zero, suc, ◌+◌, ◌≤◌, List, [], ◌∷◌, length, Option, Some, None, refl, sym, ap, ◌∙◌, subst, arith}
use Rattle.std.specs.Prelude.{map, slice_get, if◌then◌else◌}
use Rattle.fortran_checks.specs.f_tree.Values.{Bytes}
use Rattle.fortran_checks.specs.f_tree.Facts.{Home, Member, Block, Tie, ProgramUnit}
use Rattle.fortran_checks.specs.f_tree.Setting.{Setting, IsSetting, IsIn, first_in, later_in, IsMember, here, there, Spoken, AreTied, itself, back, along, by_block, by_equivalence, HasUnit, StandsAt, unit_home, home_among, homes_at, all_homes, IsNumbered, seen_before, EndToEnd, no_more, one_more}
use Rattle.fortran_checks.specs.f_tree.Lines.{same_block}
use Rattle.fortran_laws.proofs.SettingLaws.{home_found}

-- what a setting is about in a unit
pub record Layout : Type 0 where
  pub stored : List Member
  pub blocks : List Block
  pub ties : List Tie

unfoldable pub layout_of : ProgramUnit → Layout
layout_of u = record { stored = u.stored; blocks = u.blocks; ties = u.ties }

unfoldable pub home_in : Setting → ℕ → Layout → Bytes → Option Home
home_in g k l x = home_among x l.stored (homes_at (slice_get g.homes k))

-- of all elements, and of all elements with their places
unfoldable pub OfAll : {A : Type 0} → (A → Type 0) → List A → Type 0
OfAll P [] = Unit {0}
OfAll P (a ∷ xs) = P a × OfAll P xs

unfoldable pub OfEach : {A : Type 0} → (ℕ → A → Type 0) → List A → Type 0
OfEach P [] = Unit {0}
OfEach P (a ∷ xs) = P 0 a × OfEach (λ k. P (suc k)) xs

-- of all names with their homes
unfoldable pub OfHomes : (Bytes → Home → Type 0) → List Member → List Home → Type 0
OfHomes P (m ∷ ms) (h ∷ hs) = P m.name h × OfHomes P ms hs
OfHomes P _ _ = Unit {0}

-- the items of a block stand one behind the other
unfoldable pub Stand : Setting → ℕ → Layout → ℕ → ℕ → List Member → Type 0
Stand g k l n first [] = Unit {0}
Stand g k l n first (m ∷ ms) = (home_in g k l m.name ≡ Some (record { sequence = n; first = first })) × Stand g k l n (first + m.size) ms

unfoldable pub Meet : Option Home → Option Home → Tie → Type 0
Meet (Some h) (Some i) t = (h.sequence ≡ i.sequence) × (h.first + t.one.before ≡ i.first + t.other.before)
Meet _ _ t = ⊥

unfoldable pub FitIn : Option ℕ → ℕ → Type 0
FitIn (Some size) n = (rest : ℕ) × (n + rest ≡ size)
FitIn None n = ⊥

unfoldable pub Fit : Setting → Option Home → ℕ → Type 0
Fit g (Some h) n = FitIn (slice_get g.sizes h.sequence) (h.first + n)
Fit g None n = Unit {0}

unfoldable pub home_by : Setting → Spoken → Option Layout → Option Home
home_by g x None = None
home_by g x (Some l) = home_in g x.unit l x.name

-- the sequence of each block by its name, and the name that stands first in each sequence
pub record InSequence : Type 0 where
  pub block : Option Bytes
  pub sequence : ℕ

unfoldable pub block_among : List InSequence → Option Bytes → ℕ
block_among [] x = 0
block_among (b ∷ bs) x = if same_block b.block x then b.sequence else block_among bs x

unfoldable pub leader_among : List Spoken → ℕ → Spoken
leader_among [] n = record { unit = 0; name = [] }
leader_among (x ∷ xs) zero = x
leader_among (x ∷ xs) (suc n) = leader_among xs n

unfoldable pub checks_opened : Unit {0}
unfolding layout_of home_in OfAll OfEach OfHomes Stand Meet FitIn Fit home_by block_among leader_among
checks_opened = tt

-- two names are tied, by what the units say
pub data Linked (L : List Layout) : Spoken → Spoken → Type 0 where
  one_name : {x : Spoken} → Linked L x x
  turned : {x y : Spoken} → Linked L x y → Linked L y x
  joined : {x y z : Spoken} → Linked L x y → Linked L y z → Linked L x z
  in_block : {j k : ℕ} {u v : Layout} {b c : Block} {x y : Bytes} → slice_get L j ≡ Some u → slice_get L k ≡ Some v → IsIn b u.blocks → IsIn c v.blocks →
      b.name ≡ c.name → IsMember x b.members → IsMember y c.members → Linked L (record { unit = j; name = x }) (record { unit = k; name = y })
  in_tie : {k : ℕ} {u : Layout} {t : Tie} → slice_get L k ≡ Some u → IsIn t u.ties →
      Linked L (record { unit = k; name = t.one.name }) (record { unit = k; name = t.other.name })

-- a name that reaches to the end of its sequence
pub record Furthest (L : List Layout) (g : Setting) (n size : ℕ) : Type 0 where
  pub unit : ℕ
  pub layout : Layout
  pub member : Member
  pub first : ℕ
  pub is_there : slice_get L unit ≡ Some layout
  pub is_in : IsIn member layout.stored
  pub stands : home_in g unit layout member.name ≡ Some (record { sequence = n; first = first })
  pub ends : first + member.size ≡ size

-- the facts, over the sequence of each block and a name that stands first in each sequence
pub record Checks (L : List Layout) (g : Setting) (of_block : Option Bytes → ℕ) (leader : ℕ → Spoken) : Type 0 where
  pub blocks : OfEach (λ k l. OfAll (λ b. Stand g k l (of_block b.name) 0 b.members) l.blocks) L
  pub ties : OfEach (λ k l. OfAll (λ t. Meet (home_in g k l t.one.name) (home_in g k l t.other.name) t) l.ties) L
  pub linked : OfEach (λ k l. OfHomes (λ x h. Linked L (record { unit = k; name = x }) (leader h.sequence)) l.stored (homes_at (slice_get g.homes k))) L
  pub numbered : IsNumbered 0 (all_homes g.homes)
  pub least : OfEach (λ n size. home_by g (leader n) (slice_get L (leader n).unit) ≡ Some (record { sequence = n; first = 0 })) g.sizes
  pub within : OfEach (λ k l. OfAll (λ m. Fit g (home_in g k l m.name) m.size) l.stored) L
  pub reached : OfEach (λ n size. Furthest L g n size) g.sizes

pub seen : {count : ℕ} {h : Home} {hs : List Home} (rest : ℕ) → h.sequence + suc rest ≡ count → IsNumbered count hs → IsNumbered count (h ∷ hs)
seen rest e more = seen_before (omega arith) more

of_all : {A : Type 0} (P : A → Type 0) (xs : List A) (a : A) → IsIn a xs → OfAll P xs → P a
unfolding OfAll
of_all P [] a i all = elim i [ ]
of_all P (b ∷ xs) a first_in all = all.0
of_all P (b ∷ xs) a (later_in i) all = of_all P xs a i all.1

some_same : {A : Type 0} {a b : A} → Some a ≡ Some b → a ≡ b
some_same e = cc

of_each : {A : Type 0} (P : ℕ → A → Type 0) (xs : List A) (k : ℕ) (a : A) → slice_get xs k ≡ Some a → OfEach P xs → P k a
unfolding OfEach
of_each P [] k a e all = absurd (cc)
of_each P (b ∷ xs) zero a e all = subst (λ z. P 0 z) (some_same e) all.0
of_each P (b ∷ xs) (suc k) a e all = of_each (λ n. P (suc n)) xs k a e all.1

of_homes : (P : Bytes → Home → Type 0) (ms : List Member) (hs : List Home) (x : Bytes) (h : Home) → home_among x ms hs ≡ Some h → OfHomes P ms hs → P x h
unfolding OfHomes home_among
of_homes P [] hs x h e all = absurd (cc)
of_homes P (m ∷ ms) [] x h e all = absurd (cc)
of_homes P (m ∷ ms) (i ∷ hs) x h e all = home_found P m.name x i h (home_among x ms hs) e all.0 (λ later. of_homes P ms hs x h later all.1)

mapped : {A B : Type 0} (f : A → B) (xs : List A) (k : ℕ) (a : A) → slice_get xs k ≡ Some a → slice_get (map f xs) k ≡ Some (f a)
mapped f [] k a e = absurd (cc)
mapped f (b ∷ xs) zero a e = ap (λ z. Some (f z)) (some_same e)
mapped f (b ∷ xs) (suc k) a e = mapped f xs k a e

record Source {A B : Type 0} (f : A → B) (xs : List A) (k : ℕ) (b : B) : Type 0 where
  source : A
  is_at : slice_get xs k ≡ Some source
  gives : f source ≡ b

source_of : {A B : Type 0} (f : A → B) (xs : List A) (k : ℕ) (b : B) → slice_get (map f xs) k ≡ Some b → Source f xs k b
source_of f [] k b e = absurd (cc)
source_of f (a ∷ xs) zero b e = record { source = a; is_at = refl; gives = some_same e }
source_of f (a ∷ xs) (suc k) b e = let r = source_of f xs k b e in record { source = r.source; is_at = r.is_at; gives = r.gives }

sequence_by : Option Home → Option ℕ
sequence_by None = None
sequence_by (Some h) = Some h.sequence

end_to_end : (g : Setting) (k : ℕ) (u : ProgramUnit) (n first : ℕ) (ms : List Member) → Stand g k (layout_of u) n first ms → EndToEnd g k u n first ms
unfolding Stand layout_of home_in unit_home
end_to_end g k u n first [] all = no_more
end_to_end g k u n first (m ∷ ms) all = one_more all.0 (end_to_end g k u n (first + m.size) ms all.1)

in_sequence : (g : Setting) (k : ℕ) (l : Layout) (n first : ℕ) (x : Bytes) (ms : List Member) → IsMember x ms → Stand g k l n first ms → sequence_by (home_in g k l x) ≡ Some n
unfolding Stand sequence_by
in_sequence g k l n first x [] i all = elim i [ ]
in_sequence g k l n first x (m ∷ ms) here all = ap sequence_by all.0
in_sequence g k l n first x (m ∷ ms) (there i) all = in_sequence g k l n (first + m.size) x ms i all.1

met_sequence : (h i : Option Home) (t : Tie) → Meet h i t → sequence_by h ≡ sequence_by i
unfolding Meet sequence_by
met_sequence (Some h) (Some i) t m = ap Some m.0
met_sequence (Some h) None t m = absurd m
met_sequence None i t m = absurd m

met_homes : (h i : Home) (a b : Option Home) (t : Tie) → a ≡ Some h → b ≡ Some i → Meet a b t →
    (h.sequence ≡ i.sequence) × (h.first + t.one.before ≡ i.first + t.other.before)
unfolding Meet
met_homes h i a b t p q m = subst (λ z. Meet (Some h) z t) q (subst (λ z. Meet z b t) p m)

fit_size : (h : Home) (m : Member) (o : Option ℕ) → FitIn o (h.first + m.size) → (size : ℕ) × (o ≡ Some size) × (h.first + m.size ≤ size)
unfolding FitIn
fit_size h m None f = absurd f
fit_size h m (Some size) f = let e = f.1 in (size, refl, omega arith)

fits : (g : Setting) (h : Home) (m : Member) (o : Option Home) → o ≡ Some h → Fit g o m.size →
    (size : ℕ) × (slice_get g.sizes h.sequence ≡ Some size) × (h.first + m.size ≤ size)
unfolding Fit
fits g h m o e f = fit_size h m (slice_get g.sizes h.sequence) (subst (λ z. Fit g z m.size) e f)

module _ (S : List ProgramUnit) (g : Setting) (of_block : Option Bytes → ℕ) (leader : ℕ → Spoken) (checks : Checks (map layout_of S) g of_block leader) where
  layout_at : (k : ℕ) (u : ProgramUnit) → HasUnit S k u → slice_get (map layout_of S) k ≡ Some (layout_of u)
  layout_at k u e = mapped layout_of S k u e

  block_stands : (k : ℕ) (u : ProgramUnit) → HasUnit S k u → (b : Block) → IsIn b u.blocks → Stand g k (layout_of u) (of_block b.name) 0 b.members
  unfolding layout_of
  block_stands k u e b i = of_all (λ c. Stand g k (layout_of u) (of_block c.name) 0 c.members) u.blocks b i
      (of_each (λ j l. OfAll (λ c. Stand g j l (of_block c.name) 0 c.members) l.blocks) (map layout_of S) k (layout_of u) (layout_at k u e) checks.blocks)

  tie_meets : (k : ℕ) (u : ProgramUnit) → HasUnit S k u → (t : Tie) → IsIn t u.ties → Meet (home_in g k (layout_of u) t.one.name) (home_in g k (layout_of u) t.other.name) t
  unfolding layout_of
  tie_meets k u e t i = of_all (λ c. Meet (home_in g k (layout_of u) c.one.name) (home_in g k (layout_of u) c.other.name) c) u.ties t i
      (of_each (λ j l. OfAll (λ c. Meet (home_in g j l c.one.name) (home_in g j l c.other.name) c) l.ties) (map layout_of S) k (layout_of u) (layout_at k u e) checks.ties)

  sequence_at : Spoken → Option ℕ
  sequence_at x = sequence_by (home_by g x (slice_get (map layout_of S) x.unit))

  sequence_is : (k : ℕ) (u : ProgramUnit) (x : Bytes) → HasUnit S k u → sequence_at (record { unit = k; name = x }) ≡ sequence_by (home_in g k (layout_of u) x)
  unfolding sequence_at home_by
  sequence_is k u x e = ap (λ z. sequence_by (home_by g (record { unit = k; name = x }) z)) (layout_at k u e)

  same_sequence : (x y : Spoken) → AreTied S x y → sequence_at x ≡ sequence_at y
  same_sequence x y itself = refl
  same_sequence x y (back t) = sym (same_sequence y x t)
  same_sequence x y (along {y = z} t r) = same_sequence x z t ∙ same_sequence z y r
  same_sequence x y (by_block {j = j} {k = k} {u = u} {v = v} {b = b} {c = c} {x = a} {y = d} hu hv ib ic e ma md) =
      sequence_is j u a hu ∙ in_sequence g j (layout_of u) (of_block b.name) 0 a b.members ma (block_stands j u hu b ib) ∙ ap (λ n. Some (of_block n)) e
      ∙ sym (in_sequence g k (layout_of v) (of_block c.name) 0 d c.members md (block_stands k v hv c ic)) ∙ sym (sequence_is k v d hv)
  same_sequence x y (by_equivalence {k = k} {u = u} {t = t} hu i) =
      sequence_is k u t.one.name hu ∙ met_sequence (home_in g k (layout_of u) t.one.name) (home_in g k (layout_of u) t.other.name) t (tie_meets k u hu t i)
      ∙ sym (sequence_is k u t.other.name hu)

  sequence_of_home : (x : Spoken) (h : Home) → StandsAt S g x h → sequence_at x ≡ Some h.sequence
  unfolding unit_home home_in layout_of sequence_by
  sequence_of_home x h s = sequence_is x.unit s.0 x.name s.1 ∙ ap sequence_by s.2

  tied : (x y : Spoken) → Linked (map layout_of S) x y → AreTied S x y
  unfolding layout_of
  tied x y one_name = itself
  tied x y (turned t) = back (tied y x t)
  tied x y (joined {y = z} t r) = along (tied x z t) (tied z y r)
  tied x y (in_block {j = j} {k = k} {u = u} {v = v} {b = b} {c = c} hu hv ib ic e ma md) =
      let p = source_of layout_of S j u hu in
      let q = source_of layout_of S k v hv in
      by_block {b = b} {c = c} p.is_at q.is_at (subst (λ l. IsIn b l.blocks) (sym p.gives) ib) (subst (λ l. IsIn c l.blocks) (sym q.gives) ic) e ma md
  tied x y (in_tie {k = k} {u = u} {t = t} hu i) =
      let p = source_of layout_of S k u hu in
      by_equivalence {t = t} p.is_at (subst (λ l. IsIn t l.ties) (sym p.gives) i)

  to_leader : (x : Spoken) (h : Home) → StandsAt S g x h → AreTied S x (leader h.sequence)
  unfolding unit_home layout_of
  to_leader x h s = tied x (leader h.sequence) (of_homes (λ n i. Linked (map layout_of S) (record { unit = x.unit; name = n }) (leader i.sequence)) s.0.stored (homes_at (slice_get g.homes x.unit)) x.name h s.2
      (of_each (λ k l. OfHomes (λ n i. Linked (map layout_of S) (record { unit = k; name = n }) (leader i.sequence)) l.stored (homes_at (slice_get g.homes k)))
      (map layout_of S) x.unit (layout_of s.0) (layout_at x.unit s.0 s.1) checks.linked))

  tied_by_sequence : (x y : Spoken) (h i : Home) → StandsAt S g x h → StandsAt S g y i → h.sequence ≡ i.sequence → AreTied S x y
  tied_by_sequence x y h i sx sy e = along (to_leader x h sx) (subst (λ n. AreTied S (leader n) y) (sym e) (back (to_leader y i sy)))

  stands_by : (x : Spoken) (h : Home) (o : Option Layout) → slice_get (map layout_of S) x.unit ≡ o → home_by g x o ≡ Some h → StandsAt S g x h
  unfolding home_by home_in unit_home layout_of
  stands_by x h None e f = absurd (cc)
  stands_by x h (Some l) e f =
      let p = source_of layout_of S x.unit l e in
      (p.source, p.is_at, ap (λ z. home_among x.name z.stored (homes_at (slice_get g.homes x.unit))) p.gives ∙ f)

  leads : (n size : ℕ) → slice_get g.sizes n ≡ Some size → (x : Spoken) × StandsAt S g x (record { sequence = n; first = 0 })
  leads n size e = (
    leader n,
    stands_by (leader n) (record { sequence = n; first = 0 }) (slice_get (map layout_of S) (leader n).unit) refl
        (of_each (λ k s. home_by g (leader k) (slice_get (map layout_of S) (leader k).unit) ≡ Some (record { sequence = k; first = 0 })) g.sizes n size e checks.least),
  )

  fits_at : (k : ℕ) (u : ProgramUnit) (m : Member) (h : Home) → HasUnit S k u → IsIn m u.stored → unit_home g k u m.name ≡ Some h →
      (size : ℕ) × (slice_get g.sizes h.sequence ≡ Some size) × (h.first + m.size ≤ size)
  unfolding unit_home home_in layout_of
  fits_at k u m h hu i e = fits g h m (home_in g k (layout_of u) m.name) e (of_all (λ n. Fit g (home_in g k (layout_of u) n.name) n.size) u.stored m i
      (of_each (λ j l. OfAll (λ n. Fit g (home_in g j l n.name) n.size) l.stored) (map layout_of S) k (layout_of u) (layout_at k u hu) checks.within))

  reaches : (n size : ℕ) → Furthest (map layout_of S) g n size →
      (k : ℕ) × (u : ProgramUnit) × (m : Member) × (first : ℕ) × HasUnit S k u × IsIn m u.stored ×
      (unit_home g k u m.name ≡ Some (record { sequence = n; first = first })) × (first + m.size ≡ size)
  unfolding unit_home home_in layout_of
  reaches n size f =
      let p = source_of layout_of S f.unit f.layout f.is_there in (
        f.unit,
        p.source,
        f.member,
        f.first,
        p.is_at,
        subst (λ l. IsIn f.member l.stored) (sym p.gives) f.is_in,
        ap (λ z. home_among f.member.name z.stored (homes_at (slice_get g.homes f.unit))) p.gives ∙ f.stands,
        f.ends,
      )

  pub checked_setting : map length g.homes ≡ map (λ u. length u.stored) S → IsSetting S g
  unfolding unit_home home_in layout_of
  checked_setting complete = record {
    complete = complete;
    blocks = λ k u hu b i. (of_block b.name, end_to_end g k u (of_block b.name) 0 b.members (block_stands k u hu b i));
    equivalenced = λ k u hu t i one other h1 h2. met_homes one other (home_in g k (layout_of u) t.one.name) (home_in g k (layout_of u) t.other.name) t h1 h2 (tie_meets k u hu t i);
    tied = λ x y h i sx sy. (tied_by_sequence x y h i sx sy, λ t. some_same (sym (sequence_of_home x h sx) ∙ same_sequence x y t ∙ sequence_of_home y i sy));
    numbered = checks.numbered;
    least = leads;
    within = fits_at;
    reached = λ n size e. reaches n size (of_each (λ k s. Furthest (map layout_of S) g k s) g.sizes n size e checks.reached);
  }

-- the same with the names, blocks and ties of the units written out
pub written_setting : (S : List ProgramUnit) (g : Setting) (L : List Layout) (of_block : Option Bytes → ℕ) (leader : ℕ → Spoken) → map layout_of S ≡ L →
    map length g.homes ≡ map (λ u. length u.stored) S → Checks L g of_block leader → IsSetting S g
written_setting S g L of_block leader e complete checks = checked_setting S g of_block leader (subst (λ l. Checks l g of_block leader) (sym e) checks) complete
