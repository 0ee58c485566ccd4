-- The lines are read as the reader that keeps no derivation reads them.
use Rattle.std.proofs.Common.{◌≡◌, ◌+◌, ◌≤◌, length, take, refl, sym, ap, subst, ◌∙◌, arith, length-take}
use Rattle.std.specs.Prelude.{IfSome}
use Rattle.std.proofs.lemmas.List.{take_rest}
use Rattle.cards.specs.fortran_text.Lines.{lines}
use Rattle.prototype_laws.specs.Reading.{prototypes_behind, reading}
use Rattle.proto_file.proofs.LineSteps.{reading-start, read_stop, read_on, read_end}
use Rattle.proto_file.proofs.reader.read_lines.Goals as goal

pub loop-rest-init : goal.loop-rest-init
loop-rest-init c = record {
  reads = reading-start c.args.bytes.now ∙ ap (λ done. prototypes_behind done 1 0 (lines c.args.bytes.now)) (sym c.new-protos.ensures);
  within = omega arith;
  counted = omega arith;
}

pub returns-in_default-clause-refused : goal.returns-in_default-clause-refused
returns-in_default-clause-refused c =
    read_stop c.args.bytes.now c.loop-rest.rest.now c.loop-rest.protos c.loop-rest.line c.loop-rest.size c.line_length-length.result c.loop-rest.invariant.reads
    c.line_length-length.ensures.first (sym c.in_ok-prototype.ensures.read ∙ c.in_default.is)

pub loop-rest-preserved : goal.loop-rest-preserved
loop-rest-preserved c =
    let rest = c.loop-rest.rest.now in
    let n = c.line_length-length.result in
    let size = c.loop-rest.size in
    let fits : size + length (take n rest) ≤ 16777216 = subst (λ found. IfSome found (λ _. size + length (take n rest) ≤ 16777216)) c.in-Some.is c.in_ok-prototype.ensures.within in
    let taken = length-take n rest in
    let within = c.line_length-length.ensures.within in
    let some = c.line_length-length.ensures.some in
    let counted = c.loop-rest.invariant.counted in
    record {
      reads = subst (λ l. reading c.args.bytes.now ≡ prototypes_behind c.push.new.self (c.loop-rest.line + 1) (size + n) (lines l)) (sym (take_rest rest n))
          (read_on c.args.bytes.now rest c.loop-rest.protos c.push.new.self c.loop-rest.line size n (c.loop-rest.line + 1) (size + n) c.in-Some.prototype
          c.loop-rest.invariant.reads c.line_length-length.ensures.first within (sym c.in_ok-prototype.ensures.read ∙ c.in-Some.is) c.in_ok-push.ensures refl refl);
      within = omega arith;
      counted = omega arith;
    }

pub returns-clause-read : goal.returns-clause-read
returns-clause-read c =
    read_end c.args.bytes.now c.loop-rest.rest.now c.loop-rest.protos c.loop-rest.line c.loop-rest.size c.is_empty.result c.loop-rest.invariant.reads
    c.is_empty.ensures c.loop-rest-test.false
