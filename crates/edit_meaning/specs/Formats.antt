-- Formats as trees, and the edits that items take from them. ANSI X3.9-1978, sections 13.1 to 13.5.
use Rattle.std.specs.Prelude.{ℕ, zero, suc, Bool, true, false, Option, None, Some, unwrap_or, List, [], ◌∷◌, ◌++◌}

-- the edit descriptors that take an item: Iw or Iw.m, Lw, A or Aw
pub data Descriptor : Type 0 where
  IntIn : ℕ → Option ℕ → Descriptor
  LogicalIn : ℕ → Descriptor
  TextIn : Option ℕ → Descriptor

-- the other edit descriptors: a text; Tn, TLn, and TRn or nX; a slash; SP, and S or SS; BZ, and BN
pub data Control : Type 0 where
  Literal : List ℕ → Control
  ToColumn : ℕ → Control
  LeftBy : ℕ → Control
  RightBy : ℕ → Control
  NextRecord : Control
  PlusSigns : Bool → Control
  ZeroBlanks : Bool → Control

-- a list of items of a format: a repeated descriptor, a repeated control, a colon, or a repeated group in parentheses, before the others.
-- A scale factor does nothing here and has no place in the tree
pub data Format : Type 0 where
  Empty : Format
  Takes : ℕ → Descriptor → Format → Format
  Does : ℕ → Control → Format → Format
  Colon : Format → Format
  Group : ℕ → Format → Format → Format

-- an edit of a format: one that takes an item, one that takes none, or a colon, which ends the walk where no item is left
pub data Edit : Type 0 where
  Item : Descriptor → Edit
  Act : Control → Edit
  Stop : Edit

-- so many copies end to end
abbrev pub copies : ℕ → List Edit → List Edit
copies zero edits = []
copies (suc more) edits = edits ++ copies more edits

-- the edits of one pass through a format, in order
abbrev pub pass : Format → List Edit
pass Empty = []
pass (Takes repeat descriptor later) = copies repeat (Item descriptor ∷ []) ++ pass later
pass (Does repeat control later) = copies repeat (Act control ∷ []) ++ pass later
pass (Colon later) = Stop ∷ pass later
pass (Group repeat inner later) = copies repeat (pass inner) ++ pass later

-- the format from its last group on, where it has a group outside all others
abbrev pub last_group : Format → Option Format
last_group Empty = None
last_group (Takes repeat descriptor later) = last_group later
last_group (Does repeat control later) = last_group later
last_group (Colon later) = last_group later
last_group (Group repeat inner later) = Some (unwrap_or (last_group later) (Group repeat inner later))

-- where the format goes on when its end is reached: at the group that the last preceding right parenthesis closes, with its repeat, or
-- at the start where there is no group
abbrev pub reverted : Format → Format
reverted format = unwrap_or (last_group format) format

abbrev pub has_item : List Edit → Bool
has_item [] = false
has_item (Item descriptor ∷ later) = true
has_item (Act control ∷ later) = has_item later
has_item (Stop ∷ later) = has_item later

-- the edits that items take; how many items get none; and the edits of the pass that are left
pub record Served : Type 0 where
  pub edits : List Edit
  pub unserved : ℕ
  pub left : List Edit

abbrev pub led_by : Edit → Served → Served
led_by edit served = record served { edits = edit ∷ served.edits }

-- the edits of a pass up to the last item's
abbrev pub served : ℕ → List Edit → Served
served zero edits = record { edits = []; unserved = 0; left = edits }
served (suc more) [] = record { edits = []; unserved = suc more; left = [] }
served (suc more) (Item descriptor ∷ later) = led_by (Item descriptor) (served more later)
served (suc more) (Act control ∷ later) = led_by (Act control) (served (suc more) later)
served (suc more) (Stop ∷ later) = served (suc more) later

-- the pass is followed by others, which begin with a new record
abbrev pub followed : Served → Served → Served
followed first next = record { edits = first.edits ++ Act NextRecord ∷ next.edits; unserved = next.unserved; left = next.left }

-- further passes, as many as there can be: each serves an item, where one is left
abbrev pub before_more : ℕ → Served → Served → Served
before_more zero first next = first
before_more (suc more) first next = followed first next

abbrev pub go_on : ℕ → List Edit → Served → Served
go_on zero again first = first
go_on (suc turns) again first = before_more first.unserved first (go_on turns again (served first.unserved again))

abbrev pub if_it_serves : Bool → ℕ → List Edit → Served → Served
if_it_serves true items again first = go_on items again first
if_it_serves false items again first = first

-- the edits that so many items take. Where an item is left at the end and a whole turn of the reverted format has no descriptor for
-- one, items stay unserved
unfoldable pub edits_for : Format → ℕ → Served
edits_for format items = if_it_serves (has_item (pass (reverted format))) items (pass (reverted format)) (served items (pass format))

-- the edits where no item is left: up to a descriptor, a colon or the end
abbrev pub closing : List Edit → List Edit
closing [] = []
closing (Item descriptor ∷ later) = []
closing (Act control ∷ later) = Act control ∷ closing later
closing (Stop ∷ later) = []
