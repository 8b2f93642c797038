use Rattle.std.proofs.Common.{◌≡◌, None, rules, map, ap, sym, ◌∙◌}
use Rattle.std.specs.Option.{option_map}
use Rattle.std.proofs.lemmas.Result.{IfOk-from_err}
use Rattle.wa_types.specs.declared.syntax.Import.{Import}
use Rattle.wa_types.specs.Modules.{imported_global}
use Rattle.validate_bodies.specs.Spaces.{global_type_of}
use Rattle.validate_bodies.proofs.SpaceLemmas.{fm_end, fm_none, fm_some_map}
use Rattle.validate_bodies.proofs.spaces.imported_globals.Goals as goal

pub loop-import-init : goal.loop-import-init
loop-import-init c = ap (map global_type_of) c.new-globals.ensures.items

pub loop-import-preserved-in_default : goal.loop-import-preserved-in_default
loop-import-preserved-in_default c =
    let none : None ≡ imported_global c.import-item.result.kind = search rules in
    fm_none (λ (i : Import). imported_global i.kind) c.args.imports.now (map global_type_of c.loop-import.globals.items) c.loop-import.import-index c.import-item.result none
    c.loop-import-test.true c.import-item.is c.loop-import.invariant

pub loop-import-preserved : goal.loop-import-preserved
loop-import-preserved c =
    fm_some_map global_type_of (λ (i : Import). imported_global i.kind) c.args.imports.now c.loop-import.globals.items c.push.new.self.items c.loop-import.import-index
    c.import-item.result c.in-Some.global (ap (option_map global_type_of) (sym c.in-Some.is) ∙ c.import_global.ensures) c.in_ok-push.ensures.items c.loop-import-test.true
    c.import-item.is c.loop-import.invariant

pub returns : goal.returns
returns c =
    fm_end (λ (i : Import). imported_global i.kind) c.args.imports.now (map global_type_of c.loop-import.globals.items) c.loop-import.import-index c.loop-import-test.false
    c.loop-import.invariant

pub returns-in_err-push : goal.returns-in_err-push
returns-in_err-push c = IfOk-from_err c.from_residual.result _ c.from_residual.ensures.0
