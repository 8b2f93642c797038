-- The configuration that the interpreter's values stand for.
use Rattle.std.specs.Prelude.{ℕ, List, map, reverse, take, drop, Bool, true, false, Option, Some, None}
use Rattle.std.specs.Borrow.{Bor}
use Rattle.wa_types.specs.declared.instrs.Instr.{Instr}
use Rattle.wa_types.specs.View.{code}
use Rattle.wa_types.specs.Syntax.{Code, done}
use Rattle.wa_model.specs.Store.{Store}
use Rattle.wa_model.specs.Configuration as C
use Rattle.wa_model.specs.Configuration.{Configuration, block_label, loop_label, running, waiting}
use Rattle.interp_state.specs.declared.store.Store as S
use Rattle.interp_state.specs.declared.activation.Label as L
use Rattle.interp_state.specs.declared.activation.Label.TheVariants as LV
use Rattle.interp_state.specs.declared.activation.Waiting.{Waiting}
use Rattle.interp_state.specs.declared.activation.Stack.{Stack}

-- a store
abbrev pub store_of : S.Store → Store
store_of s = record { globals = s.globals.items; memory = s.memory.bytes; table = s.table.items }

-- how many values a branch carries
abbrev pub count_of : Bool → ℕ
count_of false = 0
count_of true = 1

-- the arm that stands behind the one that runs, where there is one
abbrev pub skipped_of : Option (Bor (List Instr)) → Code
skipped_of None = done
skipped_of (Some skipped) = code skipped.now

-- a label
abbrev pub label_of : L.Label → C.Label
label_of (LV.Block height carries rest skipped) = block_label height (count_of carries) (code rest.now) (skipped_of skipped)
label_of (LV.Loop height body rest) = loop_label height (code body.now) (code rest.now)

-- an activation that waits, whose topmost operands the call took
abbrev pub waiting_of : Waiting → C.Activation
waiting_of w =
    waiting w.activation.func w.activation.locals.items (drop w.taken (reverse w.activation.operands.items)) (take w.taken (reverse w.activation.operands.items))
    (code w.activation.code.now) (map label_of (reverse w.activation.labels.items))

-- a stack whose innermost activation runs
abbrev pub running_of : Store → Stack → Configuration
running_of s k =
    running s k.here.func (map waiting_of (reverse k.under.items)) k.here.locals.items (reverse k.here.operands.items)
    (code k.here.code.now) (map label_of (reverse k.here.labels.items))

-- the same, where the innermost one waits at a call that took so many operands
abbrev pub taking : ℕ → Configuration → Configuration
taking n c = record {
  store = c.store;
  here = waiting c.here.func c.here.locals (drop n c.here.operands) (take n c.here.operands) c.here.code c.here.labels;
  under = c.under;
}
