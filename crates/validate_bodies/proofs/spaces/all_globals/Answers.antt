use Rattle.std.proofs.Common.{◌∷◌, [], map, refl, ap, sym, ◌∙◌}
use Rattle.std.proofs.lemmas.List.{append-nil, map-append}
use Rattle.std.proofs.lemmas.Result.{IfOk-from_err}
use Rattle.std.specs.List.{filter_map}
use Rattle.wa_types.specs.declared.syntax.Import.{Import}
use Rattle.wa_types.specs.declared.syntax.GlobalDef.{GlobalDef as GlobalValue}
use Rattle.wa_types.specs.Modules.{imported_global, global_type}
use Rattle.wa_types.specs.View.{global_of}
use Rattle.validate_bodies.specs.Spaces.{global_type_of}
use Rattle.validate_bodies.proofs.SpaceLemmas.{on_close, on_more}
use Rattle.validate_bodies.proofs.spaces.all_globals.Goals as goal

pub returns : goal.returns
returns c =
    on_close global_type global_of (filter_map (λ (i : Import). imported_global i.kind) c.args.imports.now)
    (map global_type_of c.loop-global.all.items) c.args.globals.now c.loop-global.global-index c.loop-global-test.false c.loop-global.invariant

pub loop-global-init : goal.loop-global-init
loop-global-init c = c.in_ok-all.ensures ∙ sym (append-nil _)

pub loop-global-preserved : goal.loop-global-preserved
loop-global-preserved c =
    on_more (λ (g : GlobalValue). global_type (global_of g)) (filter_map (λ (i : Import). imported_global i.kind) c.args.imports.now) (map global_type_of c.loop-global.all.items)
    (map global_type_of c.push.new.self.items) c.args.globals.now c.loop-global.global-index c.global-item.result (global_type (global_of c.global-item.result))
    (ap (map global_type_of) c.in_ok-push.ensures.items
    ∙ map-append global_type_of c.loop-global.all.items (record { ty = c.global-item.result.ty; mutable = c.global-item.result.mutable } ∷ []))
    refl c.loop-global-test.true c.global-item.is c.loop-global.invariant

pub returns-in_err-all : goal.returns-in_err-all
returns-in_err-all c = IfOk-from_err c.from_residual.result _ c.from_residual.ensures.0

pub returns-in_err-push : goal.returns-in_err-push
returns-in_err-push c = IfOk-from_err c.from_residual-in_err-push.result _ c.from_residual-in_err-push.ensures.0
