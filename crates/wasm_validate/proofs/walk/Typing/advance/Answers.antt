use Rattle.std.proofs.Common.{rules, ap, sym, ◌∙◌, subst, reverse, List}
use Rattle.wa_types.specs.declared.values.ValType.{ValType}
use Rattle.wa_types.specs.Typing.{Takes}
use Rattle.validate_bodies.specs.Table.{sig_of}
use Rattle.wasm_validate.specs.Walk.{Walk, CanTake, own_at}
use Rattle.wa_types.proofs.LeafLemmas.{leaf_other}
use Rattle.wasm_validate.proofs.Walks.{at_if, some_types, stays_is, own_is, same_place, on_err, says_at, can_walk, walked}
use Rattle.wasm_validate.proofs.walk.Typing.advance.Goals as goal

pub returns-in_err-change_types-in-Block-clause-stays : goal.returns-in_err-change_types-in-Block-clause-stays
returns-in_err-change_types-in-Block-clause-stays c = stays_is c.self.inside.valid.now c.self.inside.func c.self.inside.labels.items c.self.inside.types.items c.self.inside.base
    c.args.self.now c.self.view_is c.change_types.new.types.items c.in_err-change_types-in-Block.ensures.kept

pub returns-in_err-change_types-in-Loop-clause-stays : goal.returns-in_err-change_types-in-Loop-clause-stays
returns-in_err-change_types-in-Loop-clause-stays c = stays_is c.self.inside.valid.now c.self.inside.func c.self.inside.labels.items c.self.inside.types.items c.self.inside.base
    c.args.self.now c.self.view_is c.change_types-in-Loop.new.types.items c.in_err-change_types-in-Loop.ensures.kept

pub returns-in_err-change_types-in-If-clause-stays : goal.returns-in_err-change_types-in-If-clause-stays
returns-in_err-change_types-in-If-clause-stays c = stays_is c.self.inside.valid.now c.self.inside.func c.self.inside.labels.items c.self.inside.types.items c.self.inside.base
    c.args.self.now c.self.view_is c.change_types-in-If.new.types.items c.in_err-change_types-in-If.ensures.kept

pub returns-in_ok-change_types-in-Block-clause-stays : goal.returns-in_ok-change_types-in-Block-clause-stays
returns-in_ok-change_types-in-Block-clause-stays c = stays_is c.self.inside.valid.now c.self.inside.func c.self.inside.labels.items c.self.inside.types.items c.self.inside.base
    c.args.self.now c.self.view_is c.change_types.new.types.items c.in_ok-change_types-in-Block.ensures.kept

pub returns-in_ok-change_types-in-Loop-clause-stays : goal.returns-in_ok-change_types-in-Loop-clause-stays
returns-in_ok-change_types-in-Loop-clause-stays c = stays_is c.self.inside.valid.now c.self.inside.func c.self.inside.labels.items c.self.inside.types.items c.self.inside.base
    c.args.self.now c.self.view_is c.change_types-in-Loop.new.types.items c.in_ok-change_types-in-Loop.ensures.kept

pub returns-in_ok-change_types-in-If-clause-stays : goal.returns-in_ok-change_types-in-If-clause-stays
returns-in_ok-change_types-in-If-clause-stays c = stays_is c.self.inside.valid.now c.self.inside.func c.self.inside.labels.items c.self.inside.types.items c.self.inside.base c.args.self.now
    c.self.view_is c.change_types-in-If.new.types.items c.in_ok-change_types-in-If.ensures.kept

pub change_types-requires-in-If : goal.change_types-requires-in-If
change_types-requires-in-If c =
    let k = at_if c.args.self.now.around c.args.self.now.labels c.args.instr.now c.args.self.now.own c.requires _ _ _ c.in-If.is in
    some_types c.self.inside.valid.now c.self.inside.func c.self.inside.labels.items c.self.inside.types.items c.self.inside.base c.args.self.now c.self.view_is k.0 k.1

pub asks_at-asks-requires : goal.asks_at-asks-requires
asks_at-asks-requires c = leaf_other _ c.in_default.not-Block c.in_default.not-Loop c.in_default.not-If

pub take_and_give-requires : goal.take_and_give-requires
take_and_give-requires c =
    let says = says_at c.context-context.result c.args.self.now.around (reverse c.deref.result.now) c.args.self.now.labels c.args.instr.now c.asks_at-asks.result (c.context-context.ensures
    ∙ ap (λ (w : Walk). w.around) c.self.view_is) (ap reverse c.deref.ensures.value ∙ ap (λ (w : Walk). w.labels) c.self.view_is) c.asks_at-asks.ensures in
    record {
      deep = c.self.invariant.1;
      typed = subst (CanTake (sig_of c.asks_at-asks.result))
          (sym (own_is c.self.inside.valid.now c.self.inside.func c.self.inside.labels.items c.self.inside.types.items c.self.inside.base c.args.self.now c.self.view_is))
          (can_walk c.args.self.now.around c.args.self.now.labels c.args.instr.now c.args.self.now.own c.requires c.in_default.not-Block c.in_default.not-Loop c.in_default.not-If
          c.asks_at-asks.result says);
    }

pub returns-in_err-take_and_give-in_default : goal.returns-in_err-take_and_give-in_default
returns-in_err-take_and_give-in_default c = record {
  stays = stays_is c.self.inside.valid.now c.self.inside.func c.self.inside.labels.items c.self.inside.types.items c.self.inside.base c.args.self.now c.self.view_is
      c.take_and_give.new.types.items c.in_err-take_and_give-in_default.ensures.kept;
  err = on_err c.from_residual-in_err-take_and_give-in_default.result _ (same_place c.self.inside.valid.now c.self.inside.func c.self.inside.labels.items c.self.inside.types.items
      c.self.inside.base c.args.self.now c.self.view_is c.take_and_give.new.types.items c.in_err-take_and_give-in_default.ensures.err);
  typed = search rules;
}

pub returns-in_ok-take_and_give-in_default : goal.returns-in_ok-take_and_give-in_default
returns-in_ok-take_and_give-in_default c =
    let says = says_at c.context-context.result c.args.self.now.around (reverse c.deref.result.now) c.args.self.now.labels c.args.instr.now c.asks_at-asks.result (c.context-context.ensures
    ∙ ap (λ (w : Walk). w.around) c.self.view_is) (ap reverse c.deref.ensures.value ∙ ap (λ (w : Walk). w.labels) c.self.view_is) c.asks_at-asks.ensures in
    record {
      stays = stays_is c.self.inside.valid.now c.self.inside.func c.self.inside.labels.items c.self.inside.types.items c.self.inside.base c.args.self.now c.self.view_is
          c.take_and_give.new.types.items c.in_ok-take_and_give-in_default.ensures.kept;
      err = tt;
      typed = walked c.args.self.now.around c.args.self.now.labels c.args.instr.now c.args.self.now.own c.requires c.in_default.not-Block c.in_default.not-Loop c.in_default.not-If
          c.asks_at-asks.result says (own_at c.self.inside.base c.take_and_give.new.types.items)
          (subst (λ (o : List ValType). Takes (sig_of c.asks_at-asks.result) o (own_at c.self.inside.base c.take_and_give.new.types.items))
          (own_is c.self.inside.valid.now c.self.inside.func c.self.inside.labels.items c.self.inside.types.items c.self.inside.base c.args.self.now c.self.view_is)
          c.in_ok-take_and_give-in_default.ensures.typed);
    }
