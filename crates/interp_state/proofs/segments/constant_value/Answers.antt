use Rattle.std.proofs.Common.{◌≡◌, ◌==◌, length, true, false, refl, ap, sym, ◌∙◌}
use Rattle.std.proofs.lemmas.Bool.{eqb-true}
use Rattle.std.proofs.lemmas.List.{nil_from_length}
use Rattle.wa_types.specs.declared.instrs.Instr.TheVariants.{Const, GlobalGet}
use Rattle.wa_model.specs.Instantiation.{constant_value}
use Rattle.interp_state.proofs.MakeLemmas.{constant_none, constant_long, constant_const, constant_get, constant_other, single, several}
use Rattle.interp_state.proofs.segments.constant_value.Goals as goal

pub returns-in_default : goal.returns-in_default
returns-in_default c = sym (constant_none c.args.globals.now c.args.init.now (nil_from_length _ c.in_default.ensures.cases))

pub returns-then-not-is_empty : goal.returns-then-not-is_empty
returns-then-not-is_empty c =
    let rest = c.in-Some.rest.now in
    sym (ap (constant_value c.args.globals.now) (several c.args.init.now c.in-Some.first.now rest c.in-Some.ensures.cases.0)
    ∙ constant_long c.args.globals.now c.in-Some.first.now rest (λ e. let z : false ≡ true = sym c.if-not-is_empty.true ∙ c.is_empty.ensures ∙ ap (λ v. length v == 0) e in cc))

pub returns-in-Const : goal.returns-in-Const
returns-in-Const c =
    sym (ap (constant_value c.args.globals.now) (single c.args.init.now c.in-Some.first.now (Const c.in-Const.v) c.in-Some.rest.now c.in-Some.ensures.cases.0
    (eqb-true _ _ (sym c.is_empty.ensures ∙ c.if-not-is_empty.false)) c.in-Const.is)
    ∙ constant_const c.args.globals.now c.in-Const.v)

pub returns-in-GlobalGet : goal.returns-in-GlobalGet
returns-in-GlobalGet c =
    c.value_at.ensures
    ∙ sym (ap (constant_value c.args.globals.now) (single c.args.init.now c.in-Some.first.now (GlobalGet c.in-GlobalGet.x) c.in-Some.rest.now c.in-Some.ensures.cases.0
    (eqb-true _ _ (sym c.is_empty.ensures ∙ c.if-not-is_empty.false)) c.in-GlobalGet.is)
    ∙ constant_get c.args.globals.now c.in-GlobalGet.x)

pub returns-in_default-first : goal.returns-in_default-first
returns-in_default-first c =
    sym (ap (constant_value c.args.globals.now) (single c.args.init.now c.in-Some.first.now c.in-Some.first.now c.in-Some.rest.now c.in-Some.ensures.cases.0
    (eqb-true _ _ (sym c.is_empty.ensures ∙ c.if-not-is_empty.false)) refl)
    ∙ constant_other c.args.globals.now c.in-Some.first.now c.in_default-first.not-Const c.in_default-first.not-GlobalGet)
