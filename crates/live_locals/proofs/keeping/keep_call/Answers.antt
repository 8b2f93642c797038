use Rattle.std.proofs.Common.{◌≡◌, ◌+◌, ◌-◌, ◌∙◌, ap, arith, refl, suc, sym}
use Rattle.std.specs.Prelude.{if◌then◌else◌}
use Rattle.std.proofs.lemmas.Result.{on_ok_weaker}
use Rattle.guard_form.specs.Grouping.{is_place}
use Rattle.live_locals.specs.Rows.{numbered_from}
use Rattle.live_locals.specs.declared.keeping.Keeping.{Keeping}
use Rattle.live_locals.proofs.KeepingLemmas.{call_held, call_none, open_after, stands_after}
use Rattle.live_locals.proofs.RowLemmas.{one_before}
use Rattle.live_locals.proofs.keeping.keep_call.Goals as goal

pub returns-then-not-is_numbered : goal.returns-then-not-is_numbered
returns-then-not-is_numbered c =
    call_none c.args.set.now (is_place c.args.numbers.now c.args.place) c.args.stack.now c.args.keeping.now (sym c.is_numbered.ensures ∙ c.if-not-is_numbered.true) c.requires.stands

pub overflow_sub-keeping : goal.overflow_sub-keeping
overflow_sub-keeping c =
    let e = one_before c.args.numbers.now c.args.place (suc c.args.place) (omega arith) in
    let t = ap (λ b. numbered_from c.args.numbers.now 0 c.args.place + (if b then 1 else 0)) (sym c.is_numbered.ensures ∙ c.if-not-is_numbered.false) in
    omega (arith, e, t, c.requires.left)

pub hold_slots-requires : goal.hold_slots-requires
hold_slots-requires c =
    let old = c.args.keeping.now in
    let start : Keeping = record { left = old.left - 1; since = old.since; rows = old.rows } in
    let e = one_before c.args.numbers.now c.args.place (suc c.args.place) (omega arith) in
    let t = ap (λ b. numbered_from c.args.numbers.now 0 c.args.place + (if b then 1 else 0)) (sym c.is_numbered.ensures ∙ c.if-not-is_numbered.false) in
    let el : start.left + 1 ≡ old.left = omega (arith, e, t, c.requires.left) in record {
      stands = stands_after c.args.set.now c.args.stack.now old start start el refl refl c.requires.stands;
      untold = open_after c.args.set.now c.args.stack.now old start start el refl refl c.requires.stands;
    }

pub returns : goal.returns
returns c =
    let old = c.args.keeping.now in
    let start : Keeping = record { left = old.left - 1; since = old.since; rows = old.rows } in
    let e = one_before c.args.numbers.now c.args.place (suc c.args.place) (omega arith) in
    let t = ap (λ b. numbered_from c.args.numbers.now 0 c.args.place + (if b then 1 else 0)) (sym c.is_numbered.ensures ∙ c.if-not-is_numbered.false) in
    on_ok_weaker c.hold_slots.result
    (λ h. call_held c.args.set.now c.args.stack.now old start c.hold_slots.new.keeping (omega (arith, e, t, c.requires.left)) refl refl (is_place c.args.numbers.now c.args.place)
    (sym c.is_numbered.ensures ∙ c.if-not-is_numbered.false) c.requires.stands h) c.hold_slots.ensures
