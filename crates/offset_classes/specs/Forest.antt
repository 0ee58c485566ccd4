-- Numbers in classes, each with its distance from the root of its class.
use Rattle.std.specs.Prelude.{◌≡◌, ℕ, ◌+◌, ◌<◌, ◌≤◌, ◌^◌, ℤ, pos, ◌+ℤ◌, neg_ℤ, nat_abs, List, [], ◌∷◌, length, slice_index_or, take}
use Rattle.offset_classes.specs.declared.nodes.Equation.{Equation}
use Rattle.offset_classes.specs.declared.nodes.Node.{Node}
use Rattle.offset_classes.specs.declared.nodes.Place.{Place}
use Rattle.offset_classes.specs.declared.nodes.Solution.{Solution}
use Rattle.offset_classes.specs.declared.nodes.Solution.TheVariants.{Solved, Contradicts}
use Rattle.f_tree.specs.Setting.{IsIn}
use Rattle.offset_classes.specs.Standing.{Link, Stands, AreConsistent, AreContradictory, reach}

abbrev pub node_at : List Node → ℕ → Node
node_at ns x = slice_index_or ns x (record { parent = 0; offset = pos 0; rank = 0 })

abbrev pub equation_at : List Equation → ℕ → Equation
equation_at es i = slice_index_or es i (record { one = 0; other = 0; by = pos 0 })

-- a number stands so many units behind the root of its class
pub data Rises (ns : List Node) : ℕ → ℤ → ℕ → Type 0 where
  stays : (x : ℕ) (d : ℤ) (r : ℕ) → (node_at ns x).parent ≡ x → d ≡ pos 0 → r ≡ x → Rises ns x d r
  climbs : (x y : ℕ) (d c : ℤ) (r : ℕ) → (node_at ns x).parent ≡ y → (y ≡ x → ⊥) → Rises ns y c r → d ≡ c +ℤ (node_at ns x).offset →
      Rises ns x d r

-- each node but a root has a parent of a higher rank
pub record IsForest (ns : List Node) (height : ℕ) : Type 0 where
  pub inside : (x : ℕ) → x < length ns → (node_at ns x).parent < length ns
  pub rising : (x : ℕ) → x < length ns → ((node_at ns x).parent ≡ x → ⊥) → (node_at ns x).rank < (node_at ns ((node_at ns x).parent)).rank
  pub low : (x : ℕ) → x < length ns → (node_at ns x).rank ≤ height

-- what numbers stand behind their roots is what equations say
pub record IsFor (ls : List (Link ℕ)) (ns : List Node) : Type 0 where
  pub sound : (x : ℕ) (d : ℤ) (r : ℕ) → x < length ns → Rises ns x d r → Stands ls r x d
  pub held : (l : Link ℕ) → IsIn l ls → (d : ℤ) (r : ℕ) → Rises ns l.one d r → Rises ns l.other (d +ℤ l.by) r

-- the sum of widths
unfoldable pub widths : List ℕ → ℕ
widths [] = 0
widths (w ∷ ws) = w + widths ws

-- two numbers of a class are no further apart than the width of the class, and all widths are no more than a bound
pub record IsSpread (ns : List Node) (most : ℕ) : Type 0 where
  pub width : List ℕ
  pub each : length width ≡ length ns
  pub sum : widths width ≤ most
  pub near : (x y r : ℕ) (d c : ℤ) → x < length ns → y < length ns → Rises ns x d r → Rises ns y c r →
      nat_abs (d +ℤ neg_ℤ c) ≤ slice_index_or width r 0

-- a forest for equations
pub record IsSolving (ls : List (Link ℕ)) (ns : List Node) (height : ℕ) : Type 0 where
  pub forest : IsForest ns height
  pub holds : IsFor ls ns
  pub spread : IsSpread ns (reach ls)

-- the place of a number in its class
abbrev pub place_at : List Place → ℕ → Place
place_at ps x = slice_index_or ps x (record { root = 0; offset = pos 0 })

-- each number is a class of its own
pub record AreSingle (n : ℕ) (ns : List Node) : Type 0 where
  pub each : length ns ≡ n
  pub root : (x : ℕ) → x < n → (node_at ns x).parent ≡ x
  pub lowest : (x : ℕ) → x < n → (node_at ns x).rank ≡ 0

-- the places of all numbers
pub record ArePlaces (n : ℕ) (ns : List Node) (ps : List Place) : Type 0 where
  pub each : length ps ≡ n
  pub rises : (x : ℕ) → x < n → Rises ns x (place_at ps x).offset (place_at ps x).root
  pub near : (x : ℕ) → x < n → nat_abs (place_at ps x).offset ≤ 2 ^ 61

-- one tree is put under the root of another one
pub record IsAttached (ns ms : List Node) (low high : ℕ) (s : ℤ) (height : ℕ) : Type 0 where
  pub same_length : length ms ≡ length ns
  pub parent : (node_at ms low).parent ≡ high
  pub offset : (node_at ms low).offset ≡ s
  pub other_parents : (x : ℕ) → (x ≡ low → ⊥) → (node_at ms x).parent ≡ (node_at ns x).parent
  pub other_offsets : (x : ℕ) → (x ≡ low → ⊥) → (node_at ms x).offset ≡ (node_at ns x).offset
  pub ranks : (x : ℕ) → (x ≡ high → ⊥) → (node_at ms x).rank ≡ (node_at ns x).rank
  pub no_lower : (node_at ns high).rank ≤ (node_at ms high).rank
  pub above : (node_at ns low).rank < (node_at ms high).rank
  pub within : (node_at ms high).rank ≤ height + 1

-- `y` is placed so many units behind `x`
pub record IsApart (ps : List Place) (x y : ℕ) (d : ℤ) : Type 0 where
  pub together : (place_at ps x).root ≡ (place_at ps y).root
  pub apart : (place_at ps y).offset ≡ (place_at ps x).offset +ℤ d

-- the classes that equations make of the numbers below a bound
pub record AreClasses (n : ℕ) (ls : List (Link ℕ)) (ps : List Place) : Type 0 where
  pub each : length ps ≡ n
  pub within : (x : ℕ) → x < n → (place_at ps x).root < n
  pub consistent : AreConsistent ls
  pub near : (x : ℕ) → x < n → nat_abs (place_at ps x).offset ≤ reach ls
  pub rooted : (x : ℕ) → x < n → Stands ls (place_at ps x).root x (place_at ps x).offset
  pub placed : (x y : ℕ) (d : ℤ) → x < n → y < n → Stands ls x y d → IsApart ps x y d
  pub stands : (x y : ℕ) (d : ℤ) → x < n → y < n → IsApart ps x y d → Stands ls x y d

-- the first equation that contradicts those before it
pub record IsFirstToContradict (ls : List (Link ℕ)) (at : ℕ) : Type 0 where
  pub within : at < length ls
  pub before : AreConsistent (take at ls)
  pub now : AreContradictory (take (at + 1) ls)

unfoldable pub IsSolution : ℕ → List (Link ℕ) → Solution → Type 0
IsSolution n ls (Solved ps) = AreClasses n ls ps.items
IsSolution n ls (Contradicts at) = IsFirstToContradict ls at
