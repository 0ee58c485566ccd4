use Rattle.std.proofs.Common.{subst, arith}
use Rattle.std.proofs.lemmas.List.{take_all}
use Rattle.f_tree.specs.Attributes.{external_in, intrinsic_in}
use Rattle.name_classes.specs.StatedNames.{constant_names, typed_names}
use Rattle.name_classes.specs.declared.declarations.DeclaredNames.{DeclaredNames}
use Rattle.name_classes.specs.KnownSigns.{AreDeclared}
use Rattle.name_classes.proofs.SignLemmas.{lists_more}
use Rattle.name_classes.proofs.declarations.declared_names.Goals as goal

pub loop-statement-init : goal.loop-statement-init
loop-statement-init c = c.no_names-names.ensures

pub loop-statement-preserved : goal.loop-statement-preserved
loop-statement-preserved c =
    let ss = c.args.statements.now in
    let i = c.loop-statement.statement-index in
    let s = c.statement-item.result in
    let known = c.loop-statement.invariant in
    let noted = c.in_ok-note_declared.ensures in
    record {
      constants = lists_more constant_names ss i s s _ _ c.loop-statement-test.true c.statement-item.is known.constants noted.constants;
      typed = lists_more typed_names ss i s s _ _ c.loop-statement-test.true c.statement-item.is known.typed noted.typed;
      externals = lists_more external_in ss i s s _ _ c.loop-statement-test.true c.statement-item.is known.externals noted.externals;
      intrinsics = lists_more intrinsic_in ss i s s _ _ c.loop-statement-test.true c.statement-item.is known.intrinsics noted.intrinsics;
    }

pub returns : goal.returns
returns c =
    subst (λ ss. AreDeclared ss c.loop-statement.names) (take_all c.loop-statement.statement-index c.args.statements.now (omega arith)) c.loop-statement.invariant
