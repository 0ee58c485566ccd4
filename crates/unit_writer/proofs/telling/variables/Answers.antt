use Rattle.std.proofs.Common.{List, ℕ, Some, bytes_eq, get_or, option_map, refl, ap, ◌∙◌, arith, if◌then◌else◌}
use Rattle.std.specs.Borrow.{Bor}
use Rattle.std.specs.HashMap.{get_by}
use Rattle.f_tree.specs.Values.{Bytes}
use Rattle.name_facts.specs.GivenFacts.{fact_in}
use Rattle.unit_writer.specs.Told.{Seen, seen_by, seen_of}
use Rattle.unit_writer.proofs.TableLemmas.{no_name, none_in, put_end, put_more, seen_if, seen_start, texts}
use Rattle.unit_writer.proofs.telling.variables.Goals as goal

pub loop-name-init : goal.loop-name-init
loop-name-init c x =
    seen_start c.args.table.now c.args.kept.now (texts c.args.names.now) x _ (ap (option_map seen_of) (none_in (λ (k : Bor (List ℕ)). bytes_eq x k.now) c.new-found.result.entries c.new-found.ensures.empty))

pub loop-name-preserved : goal.loop-name-preserved
loop-name-preserved c x =
    let d = get_or c.args.names.now c.loop-name.name-index no_name in
    let old = get_by (λ (k : Bor (List ℕ)). bytes_eq x k.now) c.loop-name.found in
    put_more (λ (y : Bytes). seen_by c.args.kept.now y (fact_in c.args.table.now y)) c.args.names.now c.loop-name.name-index d x _ _ _ c.loop-name-test.true refl (c.loop-name.invariant x)
    (ap (option_map seen_of) (c.in_ok-put_variable.ensures x) ∙ seen_if seen_of (bytes_eq d.now x) c.in_ok-variable.variable old
    ∙ ap (λ (s : Seen). if bytes_eq d.now x then Some s else option_map seen_of old) c.in_ok-variable.ensures)

pub returns : goal.returns
returns c x = put_end (λ (y : Bytes). seen_by c.args.kept.now y (fact_in c.args.table.now y)) c.args.names.now c.loop-name.name-index x _ _ (omega arith) (c.loop-name.invariant x)
