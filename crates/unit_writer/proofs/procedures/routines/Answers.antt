use Rattle.std.specs.HashMap.{get_by}
use Rattle.std.specs.Borrow.{Bor}
use Rattle.std.specs.List.{list_any}
use Rattle.std.proofs.Common.{List, ℕ, Option, is_some, bytes_eq, ap, ◌∙◌}
use Rattle.f_tree.specs.Values.{Bytes}
use Rattle.unit_writer.specs.declared.heading.Procedure.{Procedure}
use Rattle.unit_writer.specs.Told.{put_over, routine_told}
use Rattle.unit_writer.proofs.TableLemmas.{any_key, none_in, texts}
use Rattle.unit_writer.proofs.procedures.routines.Goals as goal

pub returns : goal.returns
returns c x =
    let procedures : Bytes → Option Procedure = λ y. get_by (λ k. bytes_eq y k.now) c.args.procedures.now in
    let told = routine_told c.args.table.now procedures x in
    let none = none_in (λ (k : Bor (List ℕ)). bytes_eq x k.now) c.new-found.result.entries c.new-found.ensures.empty in
    let first = get_by (λ (k : Bor (List ℕ)). bytes_eq x k.now) c.add_routines.new.routines in
    c.in_ok-add_routines-2.ensures x
    ∙ ap (λ (ks : List (Bor (List ℕ))). put_over (list_any (bytes_eq x) (texts ks)) told first) (c.as_slice.ensures ∙ c.keys.ensures.rest)
    ∙ ap (λ b. put_over b told first) (any_key x c.args.procedures.now.entries)
    ∙ ap (put_over (is_some (procedures x)) told) (c.in_ok-add_routines.ensures x ∙ ap (put_over (list_any (bytes_eq x) (texts c.args.names.now)) told) none)
