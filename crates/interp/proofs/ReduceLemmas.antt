-- A reduction by the instruction that stands next.
use Rattle.std.proofs.Common.{◌≡◌, ℕ, ◌<◌, ◌≤◌, inl, inr, List, ◌∷◌, map, reverse, take, drop, Result, Ok, Err, IfOk, Vec, Global, refl, ap, sym, ◌∙◌, subst}
use Rattle.wa_types.specs.declared.values.Value.{Value}
use Rattle.wa_types.specs.declared.instrs.Instr.{Instr}
use Rattle.wa_types.specs.Syntax.{Basic, basic, Code, plain, Module}
use Rattle.wa_types.specs.View.{in_front, onto, code}
use Rattle.wa_model.specs.Store.{Store, Did, works, fails, lacks, takes, extra_cost, act}
use Rattle.wa_model.specs.Configuration.{Label, Activation, Configuration, running}
use Rattle.wa_model.specs.Step.{Next, steps, traps, stuck, did, memory_max, step_plain}
use Rattle.interp_state.specs.declared.flow.Flow.{Flow}
use Rattle.interp_state.specs.declared.flow.Flow.TheVariants.{Moved, Asked, Returned, Trapped, Spent}
use Rattle.interp_state.specs.Effects.{Effect, worked, trapped, nothing, effect_over, effect, HasWorked, Shows, ShowsPaid, Unmoved}
use Rattle.interp_state.specs.declared.activation.Stack.{Stack}
use Rattle.interp.specs.Stacks.{code_of}
use Rattle.interp_state.specs.View.{waiting_of, label_of, running_of}
use Rattle.interp.specs.Told.{IsUnpaid, Tells}

-- the first instruction of a list
pub code_first : (xs : List Instr) (x : Instr) (is : List Instr) → xs ≡ x ∷ is → code xs ≡ in_front x (code is)
unfolding code onto
code_first xs x is e = ap code e

module _ (m : Module) (s : Store) (fn : ℕ) (under : List Activation) (ls : List Value) (labels : List Label) (rest : Code) where
  -- what an effect leads to, where working costs so much past 1
  abbrev pub led : ℕ → Effect → Next
  led k (worked s' ops) = steps k (running s' fn under ls ops rest labels)
  led k (trapped trap) = traps 0 trap s
  led k nothing = stuck

  did_led : (k : ℕ) (below : List Value) (d : Did) → did k fn under ls labels rest s below d ≡ led k (effect_over below d)
  did_led k below (works s' results) = refl
  did_led k below (fails trap) = refl
  did_led k below lacks = refl

  dear_led : (b : Basic) (ops : List Value) → step_plain m s fn under ls ops labels rest (basic b) ≡ led (extra_cost b (take (takes b) ops)) (effect (memory_max m) b s ops)
  dear_led b ops = did_led (extra_cost b (take (takes b) ops)) (drop (takes b) ops) (act (memory_max m) b s (take (takes b) ops))

  -- an instruction that costs 1
  basic_led : (b : Basic) (ops : List Value) → extra_cost b (take (takes b) ops) ≡ 0 → step_plain m s fn under ls ops labels rest (basic b) ≡ led 0 (effect (memory_max m) b s ops)
  basic_led b ops one = dear_led b ops ∙ ap (λ k. led k (effect (memory_max m) b s ops)) one

  unpaid_led : (k left : ℕ) (x : Effect) → HasWorked x → left ≤ k → IsUnpaid (led k x) left
  unpaid_led k left (worked s' ops) h few = few
  unpaid_led k left (trapped trap) h few = absurd h
  unpaid_led k left nothing h few = absurd h

  -- an instruction that may cost more
  pub paid_tells : (b : Basic) (ops ops' : List Value) (s' : Store) (f : Flow) (left : ℕ) → 0 < left → (Unmoved f → s' ≡ s)
      → ShowsPaid (effect (memory_max m) b s ops) (extra_cost b (take (takes b) ops)) left f s' ops'
      → Tells s (step_plain m s fn under ls ops labels rest (basic b)) left f (running s' fn under ls ops' rest labels)
  paid_tells b ops ops' s' (Moved more) left paid kept h = (
    dear_led b ops ∙ ap (led (extra_cost b (take (takes b) ops))) h.2
        ∙ ap (λ n. steps n (running s' fn under ls ops' rest labels)) (sym h.0),
    subst (λ n. n < left) (sym h.0) h.1,
  )
  paid_tells b ops ops' s' (Trapped more trap) left paid kept h = (
    dear_led b ops ∙ ap (led (extra_cost b (take (takes b) ops))) h.1 ∙ ap (λ n. traps n trap s) (sym h.0)
        ∙ ap (traps more trap) (sym (kept tt)),
    subst (λ n. n < left) (sym h.0) paid,
  )
  paid_tells b ops ops' s' Spent left paid kept (inl e) =
      (subst (λ x. IsUnpaid x left) (sym (dear_led b ops ∙ ap (led (extra_cost b (take (takes b) ops))) e)) tt, kept tt)
  paid_tells b ops ops' s' Spent left paid kept (inr h) =
      (subst (λ x. IsUnpaid x left) (sym (dear_led b ops)) (unpaid_led (extra_cost b (take (takes b) ops)) left (effect (memory_max m) b s ops) h.0 h.1), kept tt)
  paid_tells b ops ops' s' (Asked more import own taken) left paid kept h = absurd h
  paid_tells b ops ops' s' (Returned more value) left paid kept h = absurd h

  pub shows_tells : (b : Basic) (ops ops' : List Value) (s' : Store) (f : Flow) (left : ℕ) → extra_cost b (take (takes b) ops) ≡ 0 → 0 < left → (Unmoved f → s' ≡ s)
      → Shows (effect (memory_max m) b s ops) f s' ops' → Tells s (step_plain m s fn under ls ops labels rest (basic b)) left f (running s' fn under ls ops' rest labels)
  shows_tells b ops ops' s' (Moved more) left one paid kept h = (
    basic_led b ops one ∙ ap (led 0) h.1
        ∙ ap (λ n. steps n (running s' fn under ls ops' rest labels)) (sym h.0),
    subst (λ n. n < left) (sym h.0) paid,
  )
  shows_tells b ops ops' s' (Trapped more trap) left one paid kept h = (
    basic_led b ops one ∙ ap (led 0) h.1 ∙ ap (λ n. traps n trap s) (sym h.0)
        ∙ ap (traps more trap) (sym (kept tt)),
    subst (λ n. n < left) (sym h.0) paid,
  )
  shows_tells b ops ops' s' Spent left one paid kept h = (subst (λ x. IsUnpaid x left) (sym (basic_led b ops one ∙ ap (led 0) h)) tt, kept tt)
  shows_tells b ops ops' s' (Asked more import own taken) left one paid kept h = absurd h
  shows_tells b ops ops' s' (Returned more value) left one paid kept h = absurd h

-- the stack with other operands
abbrev pub with_operands : Stack → Vec Value Global → Stack
with_operands k v =
    record { here = record { func = k.here.func; locals = k.here.locals; operands = v; code = k.here.code; labels = k.here.labels }; under = k.under }

-- an instruction whose code is known
pub code_arm : (m : Module) (s : Store) (k : Stack) (x x' : Instr) (d : Code) (f : Flow) (left : ℕ) (c : Configuration) → x ≡ x' → in_front x' (code k.here.code.now) ≡ d
    → Tells s (code_of m s k d) left f c → Tells s (code_of m s k (in_front x (code k.here.code.now))) left f c
code_arm m s k x x' d f left c ex ed told =
    subst (λ a. Tells s (code_of m s k a) left f c) (sym (ap (λ i. in_front i (code k.here.code.now)) ex ∙ ed)) told

-- one that touches only its operands and the store
pub basic_arm : (m : Module) (s s' : Store) (k : Stack) (v : Vec Value Global) (x x' : Instr) (b : Basic) (f : Flow) (left : ℕ) → x ≡ x'
    → in_front x' (code k.here.code.now) ≡ plain (basic b) (code k.here.code.now)
    → extra_cost b (take (takes b) (reverse k.here.operands.items)) ≡ 0 → 0 < left → (Unmoved f → s' ≡ s)
    → Shows (effect (memory_max m) b s (reverse k.here.operands.items)) f s' (reverse v.items)
    → Tells s (code_of m s k (in_front x (code k.here.code.now))) left f (running_of s' (with_operands k v))
basic_arm m s s' k v x x' b f left ex ed one paid kept shown =
    code_arm m s k x x' (plain (basic b) (code k.here.code.now)) f left (running_of s' (with_operands k v)) ex ed
    (shows_tells m s k.here.func (map waiting_of (reverse k.under.items)) k.here.locals.items (map label_of (reverse k.here.labels.items)) (code k.here.code.now) b
    (reverse k.here.operands.items) (reverse v.items) s' f left one paid kept shown)

-- one of these that may cost more than 1
pub paid_arm : (m : Module) (s s' : Store) (k : Stack) (v : Vec Value Global) (x x' : Instr) (b : Basic) (f : Flow) (left : ℕ) → x ≡ x'
    → in_front x' (code k.here.code.now) ≡ plain (basic b) (code k.here.code.now) → 0 < left → (Unmoved f → s' ≡ s)
    → ShowsPaid (effect (memory_max m) b s (reverse k.here.operands.items)) (extra_cost b (take (takes b) (reverse k.here.operands.items))) left f s' (reverse v.items)
    → Tells s (code_of m s k (in_front x (code k.here.code.now))) left f (running_of s' (with_operands k v))
paid_arm m s s' k v x x' b f left ex ed paid kept shown =
    code_arm m s k x x' (plain (basic b) (code k.here.code.now)) f left (running_of s' (with_operands k v)) ex ed
    (paid_tells m s k.here.func (map waiting_of (reverse k.under.items)) k.here.locals.items (map label_of (reverse k.here.labels.items)) (code k.here.code.now) b
    (reverse k.here.operands.items) (reverse v.items) s' f left paid kept shown)

pub if_ok_both : {X Y : Type 0} (r : Result X Y) (P Q : X → Type 0) → IfOk r P → IfOk r Q → IfOk r (λ x. P x × Q x)
if_ok_both (Ok x) P Q p q = (p, q)
if_ok_both (Err e) P Q p q = tt
