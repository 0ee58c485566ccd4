use Rattle.std.proofs.Common.{◌≡◌, ◌-◌, List, ℕ, drop, length}
use Rattle.f_tree.specs.Uses.{is_among}
use Rattle.declaration_rows.specs.GivenRows.{no_name_twice}
use Rattle.name_table.specs.Named.{names_in, IsNameSet, texts}
use Rattle.given_judge.proofs.twice.names_differ.Given as goal

abbrev pub invariant-loop-place : goal.invariant-loop-place
invariant-loop-place l = record {
  is_set : IsNameSet l.behind;
  has : (q : List ℕ) → is_among q (names_in l.behind) ≡ is_among q (texts (drop (length l.names - l.place) l.names));
  differ : l.differ ≡ no_name_twice (texts (drop (length l.names - l.place) l.names));
}
