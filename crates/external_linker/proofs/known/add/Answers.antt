use Rattle.std.proofs.Common.{sym, ap, ◌∙◌, Some, None, bytes_eq, if◌then◌else◌}
use Rattle.c_tree.specs.Linking.{external_number}
use Rattle.first_names.specs.FirstNames.{first_of, or_later}
use Rattle.external_linker.specs.Externals.{external_of, externals_of, merged}
use Rattle.external_linker.proofs.KnownLaws.{declared-again, numbers-stay, declared-first, numbers-more}
use Rattle.external_linker.proofs.known.add.Goals as goal

pub returns-in-Some-clause-objects : goal.returns-in-Some-clause-objects
returns-in-Some-clause-objects c =
    declared-again c.args.objects.now.items c.args.new c.index-known.result.now c.merged.result c.in-Some.number (first_of c.args.numbers.now c.args.new.name.now)
    (c.requires c.args.new.name.now) (sym c.in-Some.ensures) (c.merged.ensures ∙ ap (λ z. merged (external_of z) (external_of c.args.new)) c.index-known.ensures)

pub returns-in-Some-clause-numbers : goal.returns-in-Some-clause-numbers
returns-in-Some-clause-numbers c = λ q.
    c.requires q
    ∙ numbers-stay c.args.objects.now.items c.args.new c.index-known.result.now c.merged.result c.in-Some.number
    (c.merged.ensures ∙ ap (λ z. merged (external_of z) (external_of c.args.new)) c.index-known.ensures) q

pub returns-in_ok-push-in-None-clause-objects : goal.returns-in_ok-push-in-None-clause-objects
returns-in_ok-push-in-None-clause-objects c =
    ap (λ zs. externals_of zs) c.in_ok-push-in-None.ensures.items
    ∙ declared-first c.args.objects.now.items c.args.new (first_of c.args.numbers.now c.args.new.name.now) (c.requires c.args.new.name.now) (sym c.in-None.ensures)

pub returns-in_ok-push-in-None-clause-numbers : goal.returns-in_ok-push-in-None-clause-numbers
returns-in_ok-push-in-None-clause-numbers c = λ q.
    numbers-more c.args.objects.now.items c.args.new q (first_of c.args.numbers.now q) (first_of c.give.new.self q) (c.requires q)
    (c.in_ok-give-in-None.ensures q ∙ ap (λ n. or_later (first_of c.args.numbers.now q) (if bytes_eq q c.args.new.name.now then Some n else None)) (c.len.ensures ∙ c.args.objects.now.ok.0))
    ∙ ap (λ zs. external_number (externals_of zs) q) (sym c.in_ok-push-in-None.ensures.items)
