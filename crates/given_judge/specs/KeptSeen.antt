-- What a table has of the givens that are kept.
use Rattle.std.specs.Prelude.{◌≡◌, Bool, ◌&&◌, List, ◌++◌}
use Rattle.f_tree.specs.declared.statements.Stmt.{Stmt}
use Rattle.f_tree.specs.declared.refusals.Refusal.{Refusal}
use Rattle.f_tree.specs.declared.refusals.Kind.TheVariants.{ConflictingAttributes}
use Rattle.f_tree.specs.declared.units.Unit.{Unit as WrittenUnit}
use Rattle.f_tree.specs.Values.{Bytes}
use Rattle.f_tree.specs.Attributes.{entry_dummies_in}
use Rattle.declaration_rows.specs.Judgement.{unless}
use Rattle.declaration_rows.specs.NameRows.{stood}
use Rattle.declaration_rows.specs.GivenRows as rows
use Rattle.declaration_rows.specs.GivenRows.{Given, given, conflicts, kept_from, no_name_twice, givens_of}
use Rattle.name_table.specs.declared.NameTable.{NameTable}
use Rattle.name_table.specs.Named.{value_of}
use Rattle.given_judge.specs.declared.gifts.Barred.{Barred}
use Rattle.given_judge.specs.GiftsSeen.{bars_at}

-- each name is barred what the kept givens exclude
pub record IsKept (table : NameTable Barred) (kept : List Given) : Type 0 where
  pub barred : (x : Bytes) (g : rows.Gift) → bars_at (value_of table x) g ≡ conflicts kept (given g x)

-- givens are put behind those that are kept, and whether none of them conflicts
pub record Keeps (before after : NameTable Barred) (gs : List Given) (all_kept : Bool) : Type 0 where
  pub kept : (ks : List Given) → IsKept before ks → IsKept after (kept_from ks gs).givens
  pub sound : (ks : List Given) → IsKept before ks → all_kept ≡ (kept_from ks gs).sound

-- the row of a statement behind those that are kept
unfoldable pub statement_rows : WrittenUnit → List Given → Stmt → List Refusal
statement_rows u kept s =
    stood s (unless ((kept_from kept (givens_of u s.body)).sound && no_name_twice (entry_dummies_in s.body)) ConflictingAttributes)

abbrev pub kept_behind : WrittenUnit → List Given → Stmt → List Given
kept_behind u kept s = (kept_from kept (givens_of u s.body)).givens

-- a statement is judged: its row is added, and what it gives is kept
pub record IsJudged (u : WrittenUnit) (s : Stmt) (before after : NameTable Barred) (found now : List Refusal) : Type 0 where
  pub kept : (ks : List Given) → IsKept before ks → IsKept after (kept_behind u ks s)
  pub rows : (ks : List Given) → IsKept before ks → now ≡ found ++ statement_rows u ks s
