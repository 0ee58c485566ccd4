-- What the library copies and joins: the pieces of a concatenation, by the lists of their addresses and lengths.
-- ANSI X3.9-1978, sections 6.2 and 10.4.
use Rattle.std.specs.Prelude.{◌≡◌, ℕ, zero, suc, pos, List, [], ◌∷◌, ◌++◌, length, Ok}
use Rattle.c_image.specs.f_tree.Values.{Bytes, Spot, IsText, Gives}
use Rattle.c_image.specs.f_tree.Store.{Store, define}
use Rattle.c_laws.specs.c_tree.declared.outcome.CValue.{CValue}
use Rattle.c_laws.specs.c_tree.declared.outcome.CValue.TheVariants.{Number, Pointer}
use Rattle.c_laws.specs.c_tree.Access.{ToChar, ToPointer}
use Rattle.c_laws.specs.c_tree.Objects.{Object, fetched}
use Rattle.c_laws.specs.c_tree.World as c
use Rattle.c_laws.specs.c_tree.Builtins.{s_copy, s_cat}
use Rattle.c_laws.specs.c_tree.Library.{library}
use Rattle.c_laws.specs.c_tree.LibraryArguments.{number_through, text_at, shifted}
use Rattle.c_laws.specs.c_tree.LibraryTexts.{pieces}
use Rattle.c_image.specs.faithful.UnitsAtStart.{AreBytes}
use Rattle.c_image.specs.World.{World}
use Rattle.c_image.specs.Standing.{Stands}
use Rattle.c_image.specs.Addresses.{IsSound}
use Rattle.c_image_laws.specs.Meanings.{StandsAfter}
use Rattle.c_image_laws.specs.Statements.{IsAt}

-- the texts end to end: each with its address and its length
pub data ArePieces (objects : List Object) : CValue → CValue → ℕ → Bytes → Type 0 where
  no_pieces : (addresses lengths : CValue) → ArePieces objects addresses lengths zero []
  one_piece : (addresses lengths : CValue) (count : ℕ) (address : CValue) (piece later : Bytes) → fetched objects (record { at = addresses; access = ToPointer ToChar }) ≡ Ok (record { value = address; through = ToChar }) →
      number_through objects lengths ≡ Ok (pos (length piece)) → text_at objects address (length piece) ≡ Ok piece →
      ArePieces objects (shifted 1 addresses) (shifted 4 lengths) count later → ArePieces objects addresses lengths (suc count) (piece ++ later)

abbrev pub PiecesAreRead : Type 0
PiecesAreRead = (objects : List Object) (addresses lengths : CValue) (count : ℕ) (cs : Bytes) → ArePieces objects addresses lengths count cs → pieces objects addresses lengths count ≡ Ok cs

-- `s_copy` and `s_cat` go on where a place is defined by a text, and the whole store stands
abbrev pub TextsAreCopied : Type 0
TextsAreCopied = (μ : World) (s later : Store) (world : c.World) (p : Spot) (object : ℕ) (cs : Bytes) (source : CValue) → Stands μ s world.objects → IsSound μ p → IsAt μ p object →
    define s p (IsText cs) ≡ Gives later → AreBytes cs → text_at world.objects source (length cs) ≡ Ok cs →
    StandsAfter μ later
    (λ after. library s_copy world (Pointer object p.first ∷ source ∷ Number (pos p.width) ∷ Number (pos (length cs)) ∷ []) ≡ Ok (c.Void (record world { objects = after })))

abbrev pub TextsAreJoined : Type 0
TextsAreJoined = (μ : World) (s later : Store) (world : c.World) (p : Spot) (object : ℕ) (cs : Bytes) (addresses lengths counter : CValue) (count : ℕ) → Stands μ s world.objects → IsSound μ p → IsAt μ p object →
    define s p (IsText cs) ≡ Gives later → AreBytes cs → number_through world.objects counter ≡ Ok (pos count) → ArePieces world.objects addresses lengths count cs →
    StandsAfter μ later
    (λ after. library s_cat world (Pointer object p.first ∷ addresses ∷ lengths ∷ counter ∷ Number (pos p.width) ∷ []) ≡ Ok (c.Void (record world { objects = after })))
