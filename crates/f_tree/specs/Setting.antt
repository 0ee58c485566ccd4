-- Where the stored names of a set of program units stand: a sequence and a first place each.
-- ANSI X3.9-1978, sections 8.2 (EQUIVALENCE), 8.3 (COMMON) and 17.1 (storage association).
use Rattle.std.specs.Prelude.{◌≡◌, ℕ, suc, ◌+◌, ◌<◌, ◌≤◌, List, [], ◌∷◌, ◌++◌, map, length, bytes_eq, Option, Some, None, slice_get, if◌then◌else◌, ◌↔◌}
use Rattle.f_tree.specs.Values.{Bytes}
use Rattle.f_tree.specs.Facts.{Home, Member, Block, Tie, ProgramUnit}

-- the homes of a set: for each unit those of its stored names in first-seen order; and the size of each sequence
pub record Setting : Type 0 where
  pub homes : List (List Home)
  pub sizes : List ℕ

-- the home of a name, by its place among the stored names
unfoldable pub home_among : Bytes → List Member → List Home → Option Home
home_among x (m ∷ ms) (h ∷ hs) = if bytes_eq m.name x then Some h else home_among x ms hs
home_among x _ _ = None

unfoldable pub homes_at : Option (List Home) → List Home
homes_at None = []
homes_at (Some hs) = hs

unfoldable pub unit_home : Setting → ℕ → ProgramUnit → Bytes → Option Home
unit_home g k u x = home_among x u.stored (homes_at (slice_get g.homes k))

-- a stored name of a unit of the set
pub record Spoken : Type 0 where
  pub unit : ℕ
  pub name : Bytes

-- a unit of the set, by its number
abbrev pub HasUnit : List ProgramUnit → ℕ → ProgramUnit → Type 0
HasUnit S k u = slice_get S k ≡ Some u

abbrev pub StandsAt : List ProgramUnit → Setting → Spoken → Home → Type 0
StandsAt S g x h = (u : ProgramUnit) × HasUnit S x.unit u × (unit_home g x.unit u x.name ≡ Some h)

-- the items of a block stand end to end from a place on
pub data EndToEnd (g : Setting) (k : ℕ) (u : ProgramUnit) (sequence : ℕ) : ℕ → List Member → Type 0 where
  no_more : {first : ℕ} → EndToEnd g k u sequence first []
  one_more : {first : ℕ} {m : Member} {ms : List Member} → unit_home g k u m.name ≡ Some (record { sequence = sequence; first = first }) →
      EndToEnd g k u sequence (first + m.size) ms → EndToEnd g k u sequence first (m ∷ ms)

-- a name in a list
pub data IsMember (x : Bytes) : List Member → Type 0 where
  here : {n : ℕ} {ms : List Member} → IsMember x (record { name = x; size = n } ∷ ms)
  there : {m : Member} {ms : List Member} → IsMember x ms → IsMember x (m ∷ ms)

pub data IsIn {A : Type 0} (a : A) : List A → Type 0 where
  first_in : {as' : List A} → IsIn a (a ∷ as')
  later_in : {b : A} {as' : List A} → IsIn a as' → IsIn a (b ∷ as')

-- what ties two stored names of the set: one block, one EQUIVALENCE, or a third name
pub data AreTied (S : List ProgramUnit) : Spoken → Spoken → Type 0 where
  itself : {x : Spoken} → AreTied S x x
  back : {x y : Spoken} → AreTied S x y → AreTied S y x
  along : {x y z : Spoken} → AreTied S x y → AreTied S y z → AreTied S x z
  by_block : {j k : ℕ} {u v : ProgramUnit} {b c : Block} {x y : Bytes} → HasUnit S j u → HasUnit S k v → IsIn b u.blocks → IsIn c v.blocks →
      b.name ≡ c.name → IsMember x b.members → IsMember y c.members →
      AreTied S (record { unit = j; name = x }) (record { unit = k; name = y })
  by_equivalence : {k : ℕ} {u : ProgramUnit} {t : Tie} → HasUnit S k u → IsIn t u.ties →
      AreTied S (record { unit = k; name = t.one.name }) (record { unit = k; name = t.other.name })

-- sequences are numbered as their names are first seen: each name stands in one seen before, or in the next
pub data IsNumbered : ℕ → List Home → Type 0 where
  none_left : {count : ℕ} → IsNumbered count []
  seen_before : {count : ℕ} {h : Home} {hs : List Home} → h.sequence < count → IsNumbered count hs → IsNumbered count (h ∷ hs)
  is_next : {count : ℕ} {h : Home} {hs : List Home} → h.sequence ≡ count → IsNumbered (suc count) hs → IsNumbered count (h ∷ hs)

unfoldable pub all_homes : List (List Home) → List Home
all_homes [] = []
all_homes (hs ∷ more) = hs ++ all_homes more

-- the homes are those of the set
pub record IsSetting (S : List ProgramUnit) (g : Setting) : Type 0 where
  -- each stored name of each unit has a home
  pub complete : map length g.homes ≡ map (λ u. length u.stored) S
  -- the items of a common block stand end to end in order of appearance, and the block begins with its first item
  pub blocks : (k : ℕ) (u : ProgramUnit) → HasUnit S k u → (b : Block) → IsIn b u.blocks → (sequence : ℕ) × EndToEnd g k u sequence 0 b.members
  -- the two places of an EQUIVALENCE are one
  pub equivalenced : (k : ℕ) (u : ProgramUnit) → HasUnit S k u → (t : Tie) → IsIn t u.ties → (one other : Home) →
      unit_home g k u t.one.name ≡ Some one → unit_home g k u t.other.name ≡ Some other →
      (one.sequence ≡ other.sequence) × (one.first + t.one.before ≡ other.first + t.other.before)
  -- two names stand in one sequence exactly where they are tied
  pub tied : (x y : Spoken) (h i : Home) → StandsAt S g x h → StandsAt S g y i → (h.sequence ≡ i.sequence) ↔ AreTied S x y
  -- sequences go by first-seen order, and their first places are 0
  pub numbered : IsNumbered 0 (all_homes g.homes)
  pub least : (n size : ℕ) → slice_get g.sizes n ≡ Some size → (x : Spoken) × StandsAt S g x (record { sequence = n; first = 0 })
  -- each sequence reaches to the end of the name that goes furthest
  pub within : (k : ℕ) (u : ProgramUnit) (m : Member) (h : Home) → HasUnit S k u → IsIn m u.stored → unit_home g k u m.name ≡ Some h →
      (size : ℕ) × (slice_get g.sizes h.sequence ≡ Some size) × (h.first + m.size ≤ size)
  pub reached : (n size : ℕ) → slice_get g.sizes n ≡ Some size →
      (k : ℕ) × (u : ProgramUnit) × (m : Member) × (first : ℕ) × HasUnit S k u × IsIn m u.stored ×
      (unit_home g k u m.name ≡ Some (record { sequence = n; first = first })) × (first + m.size ≡ size)

-- no name stands twice
pub data AreDistinct : List Member → Type 0 where
  no_names : AreDistinct []
  another_name : {m : Member} {ms : List Member} → (IsMember m.name ms → ⊥) → AreDistinct ms → AreDistinct (m ∷ ms)

-- no stored name of the unit stands twice, and what its EQUIVALENCE statements name is stored (8.2)
pub record IsNamed (u : ProgramUnit) : Type 0 where
  pub distinct : AreDistinct u.stored
  pub tied : (t : Tie) → IsIn t u.ties → IsMember t.one.name u.stored × IsMember t.other.name u.stored

-- where the names of a set stand leaves no choice
abbrev pub EachSetHasOneSetting : Type 0
EachSetHasOneSetting = (S : List ProgramUnit) → ((k : ℕ) (u : ProgramUnit) → HasUnit S k u → IsNamed u) → (g h : Setting) → IsSetting S g → IsSetting S h → g ≡ h

-- each stored name of each unit of a set stands in one of the sequences
abbrev pub EachStoredNameStands : Type 0
EachStoredNameStands = (S : List ProgramUnit) (g : Setting) → IsSetting S g → (k : ℕ) (u : ProgramUnit) → HasUnit S k u → (x : Bytes) → IsMember x u.stored →
    (h : Home) × (unit_home g k u x ≡ Some h) × (h.sequence < length g.sizes)

unfoldable pub setting_opened : Unit {0}
unfolding home_among homes_at unit_home all_homes
setting_opened = tt
