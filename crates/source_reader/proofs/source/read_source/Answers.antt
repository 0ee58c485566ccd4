use Rattle.std.proofs.Common.{length, ap, sym, ◌∙◌, subst}
use Rattle.source_reader.specs.PartReading.{IsPartsRead}
use Rattle.source_reader.specs.Sources.{AreTreesOf}
use Rattle.source_reader.proofs.CardTheorem.{each_part}
use Rattle.source_reader.proofs.TreeTheorem.{trees_read, cards_stop}
use Rattle.source_reader.proofs.source.read_source.Goals as goal

pub returns-in-Some : goal.returns-in-Some
returns-in-Some c = λ files is.
    cards_stop c.args.options.now files c.args.included.now c.args.named.now c.in_ok-parts.parts
    (record {
      is = is;
      parts_are = subst (λ n. IsPartsRead c.args.options.now.long_cards n c.args.included.now c.in_ok-parts.parts) c.len.ensures c.in_ok-parts.ensures;
      same = sym c.requires;
    })
    c.in-Some.refusal (sym c.in_ok-refusal.ensures ∙ c.in-Some.is)

pub read_trees-requires : goal.read_trees-requires
read_trees-requires c =
    ap (λ l. length l) c.as_slice-in-None.ensures
    ∙ (sym c.requires
    ∙ (each_part c.args.options.now.long_cards c.len.result c.args.included.now c.args.named.now c.in_ok-parts.parts (sym c.in_ok-refusal.ensures ∙ c.in-None.is)
    c.in_ok-parts.ensures ∙ sym (ap (λ l. length l) c.as_slice-in-None-2.ensures)))

pub returns : goal.returns
returns c = λ files is.
    trees_read c.args.options.now files c.args.included.now c.args.named.now c.in_ok-parts.parts
    (record {
      is = is;
      parts_are = subst (λ n. IsPartsRead c.args.options.now.long_cards n c.args.included.now c.in_ok-parts.parts) c.len.ensures c.in_ok-parts.ensures;
      same = sym c.requires;
    })
    (sym c.in_ok-refusal.ensures ∙ c.in-None.is) c.read_trees.result
    (subst (λ l. AreTreesOf l c.args.named.now.names c.in_ok-parts.parts.cards c.read_trees.result) c.as_slice.ensures
    (subst (λ l. AreTreesOf c.as_slice.result.now l c.in_ok-parts.parts.cards c.read_trees.result) c.as_slice-in-None.ensures
    (subst (λ l. AreTreesOf c.as_slice.result.now c.as_slice-in-None.result.now l c.read_trees.result) c.as_slice-in-None-2.ensures c.read_trees.ensures)))
