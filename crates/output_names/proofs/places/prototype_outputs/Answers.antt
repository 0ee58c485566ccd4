use Rattle.std.proofs.Common.{arith, sym, ap, ◌∙◌}
use Rattle.std.specs.Option.{option_copied}
use Rattle.f2c_outside.specs.declared.shelves.Place.TheVariants.{File}
use Rattle.output_names.specs.OutputNames.{is_file_word, prototype_output}
use Rattle.output_names.proofs.PlaceLemmas.{place_more, word_there}
use Rattle.output_names.proofs.places.prototype_outputs.Goals as goal

pub loop-passed-preserved-in-Some : goal.loop-passed-preserved-in-Some
loop-passed-preserved-in-Some c =
    let within = c.loop-passed-test.true in (
      omega (arith, within),
      place_more is_file_word (λ word. File (prototype_output word)) c.args.words.now c.loop-passed.passed c.in-Some.word.now c.loop-passed.places c.in_ok-places-in-Some.places
          (sym c.get.ensures ∙ ap option_copied c.in-Some.is) c.loop-passed.invariant.1 c.in_ok-places-in-Some.ensures,
    )

pub loop-passed-preserved : goal.loop-passed-preserved
loop-passed-preserved c =
    let within = c.loop-passed-test.true in
    let count = c.len.ensures in
    absurd (word_there c.args.words.now c.loop-passed.passed (omega (arith, within, count)) (sym c.get.ensures ∙ ap option_copied c.in-None.is))
