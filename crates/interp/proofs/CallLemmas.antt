-- What a call takes and makes.
use Rattle.std.proofs.Common.{arith, ◌≡◌, ℕ, zero, suc, ◌+◌, ◌-◌, ◌<◌, ◌≤◌, List, [], ◌∷◌, ◌++◌, length, map, replicate, reverse, take, drop, get_or, Some, None, if◌then◌else◌, lt-ltb, refl, ap, sym, ◌∙◌, append_assoc, Result, Ok, Err}
use Rattle.std.specs.Prelude.{IsErr, OnOk}
use Rattle.std.proofs.lemmas.List.{reverse-reverse, length-take-le, drop-take, take_all, take_more, map-append, append-nil, drop-drop, take-take, take-append-drop}
use Rattle.std.proofs.lemmas.Grind.{flat_map-append}
use Rattle.wa_types.specs.declared.values.ValType.{ValType}
use Rattle.wa_types.specs.declared.values.Value.{Value}
use Rattle.wa_types.specs.declared.syntax.Run.{Run}
use Rattle.wa_types.specs.declared.values.Trap.TheVariants.{StackExhausted}
use Rattle.wa_types.specs.Syntax.{Code, Func, Module}
use Rattle.wa_types.specs.Modules.{declared_locals, defined_at, func_imports}
use Rattle.wa_model.specs.Store.{Store}
use Rattle.wa_model.specs.Configuration.{Label, Activation, running, waiting}
use Rattle.wa_model.specs.Step.{steps, asks, traps, stuck, entered, invoke, zero_of}
use Rattle.wa_types.specs.View.{code}
use Rattle.interp_state.specs.declared.activation.Activation.{Activation as Entered}
use Rattle.interp.specs.Stacks.{IsEntered}
use Rattle.interp_state.specs.View.{taking, label_of}
use Rattle.interp_state.proofs.OperandLemmas.{first_reversed, rest_reversed}

-- the operands between two places
pub between : (xs : List Value) (own params : ℕ) → take (length xs - own - (length xs - own - params)) (drop (length xs - own - params) xs) ≡ reverse (take params (drop own (reverse xs)))
between xs own params =
    let e = length xs - own in
    let s = e - params in
    let n : length (take e xs) ≡ e = length-take-le e xs (omega arith) in
    let sum : s + (e - s) ≡ e = omega arith in
    sym
    (ap (λ v. reverse (take params v)) (rest_reversed own xs)
    ∙ ap reverse (first_reversed params (take e xs))
    ∙ reverse-reverse (drop (length (take e xs) - params) (take e xs))
    ∙ ap (λ k. drop (k - params) (take e xs)) n
    ∙ ap (λ k. drop s (take k xs)) (sym sum)
    ∙ drop-take s (e - s) xs)

zeros : (n : ℕ) (t : ValType) → map zero_of (replicate n t) ≡ replicate n (zero_of t)
zeros zero t = refl
zeros (suc n) t = ap (λ v. zero_of t ∷ v) (zeros n t)

pub locals_more : (args : List Value) (runs : List Run) (i : ℕ) (r : Run) (xs ys : List Value) → i < length runs → r ≡ get_or runs i r
    → xs ≡ args ++ map zero_of (declared_locals (take i runs)) → ys ≡ take (length xs + r.count) xs ++ replicate (length xs + r.count - length xs) (zero_of r.ty)
    → ys ≡ args ++ map zero_of (declared_locals (take (i + 1) runs))
locals_more args runs i r xs ys h er ex ey =
    let k : length xs + r.count - length xs ≡ r.count = omega arith in
    let piece : Run → List ValType = λ x. replicate x.count x.ty in
    let one : declared_locals (r ∷ []) ≡ replicate r.count r.ty = append-nil (replicate r.count r.ty) in
    let split : take (i + 1) runs ≡ take i runs ++ r ∷ [] = take_more runs i r h ∙ ap (λ v. take i runs ++ v ∷ []) (sym er) in
    let more : declared_locals (take (i + 1) runs) ≡ declared_locals (take i runs) ++ replicate r.count r.ty =
    ap declared_locals split ∙ flat_map-append piece (take i runs) (r ∷ []) ∙ ap (λ v. declared_locals (take i runs) ++ v) one in
    ey
    ∙ ap (λ v. v ++ replicate (length xs + r.count - length xs) (zero_of r.ty)) (take_all (length xs + r.count) xs (omega arith) ∙ ex)
    ∙ ap (λ n. (args ++ map zero_of (declared_locals (take i runs))) ++ replicate n (zero_of r.ty)) k
    ∙ append_assoc args (map zero_of (declared_locals (take i runs))) (replicate r.count (zero_of r.ty))
    ∙ ap (λ v. args ++ v)
    (ap (λ v. map zero_of (declared_locals (take i runs)) ++ v) (sym (zeros r.count r.ty))
    ∙ sym (map-append zero_of (declared_locals (take i runs)) (replicate r.count r.ty))
    ∙ ap (map zero_of) (sym more))

module _ (m : Module) (s : Store) (fn : ℕ) (under : List Activation) (ls ops : List Value) (rest : Code) (labels : List Label) (own params x : ℕ) where
  below_both : drop params (drop own ops) ≡ drop (own + params) ops
  below_both = drop-drop params own ops

  taken_both : take own ops ++ take params (drop own ops) ≡ take (own + params) ops
  taken_both =
      let le : own ≤ own + params = omega arith in
      ap (λ v. v ++ take params (drop own ops)) (sym (take-take own (own + params) ops le))
      ∙ ap (λ v. take own (take (own + params) ops) ++ v) (sym (drop-take own params ops))
      ∙ take-append-drop own (take (own + params) ops)

  waits_at : waiting fn ls (drop params (drop own ops)) (take own ops ++ take params (drop own ops)) rest labels ≡ waiting fn ls (drop (own + params) ops) (take (own + params) ops) rest labels
  waits_at =
      ap (λ v. waiting fn ls v (take own ops ++ take params (drop own ops)) rest labels) below_both
      ∙ ap (λ v. waiting fn ls (drop (own + params) ops) v rest labels) taken_both

  pub asked_at : defined_at m x ≡ None → x < func_imports m → invoke m s fn under ls (take own ops) (drop own ops) rest labels params x (defined_at m x)
      ≡ asks params x (reverse (take params (drop own ops))) (taking (own + params) (running s fn under ls ops rest labels))
  asked_at e h =
      ap (invoke m s fn under ls (take own ops) (drop own ops) rest labels params x) e
      ∙ ap (λ b. if b then asks params x (reverse (take params (drop own ops))) (record {
        store = s;
        here =
            waiting fn ls (drop params (drop own ops)) (take own ops ++ take params (drop own ops)) rest labels;
        under = under;
      }) else stuck) (lt-ltb x (func_imports m) h)
      ∙ ap (λ w. asks params x (reverse (take params (drop own ops))) (record { store = s; here = w; under = under })) waits_at

  pub entered_at : (f : Func) (ls' : List Value) → defined_at m x ≡ Some f → length under + 1 < 4096 → ls' ≡ reverse (take params (drop own ops)) ++ map zero_of (declared_locals f.locals)
      → invoke m s fn under ls (take own ops) (drop own ops) rest labels params x (defined_at m x)
      ≡ steps params (running s x (waiting fn ls (drop (own + params) ops) (take (own + params) ops) rest labels ∷ under) ls' [] f.body [])
  entered_at f ls' e h el =
      let args = reverse (take params (drop own ops)) in
      ap (invoke m s fn under ls (take own ops) (drop own ops) rest labels params x) e
      ∙ ap (λ b. if b then steps params (entered s (waiting fn ls (drop params (drop own ops)) (take own ops ++ take params (drop own ops)) rest labels ∷ under) args x f)
      else traps params StackExhausted s) (lt-ltb (length under + 1) 4096 h)
      ∙ ap (λ w. steps params (entered s (w ∷ under) args x f)) waits_at
      ∙ ap (λ v. steps params (running s x (waiting fn ls (drop (own + params) ops) (take (own + params) ops) rest labels ∷ under) v [] f.body [])) (sym el)

-- an activation that has just been entered, above others
pub entered_runs : (s : Store) (a : Entered) (x : ℕ) (args : List Value) (f : Func) (under : List Activation) → IsEntered a x args f
    → running s a.func under a.locals.items (reverse a.operands.items) (code a.code.now) (map label_of (reverse a.labels.items)) ≡ entered s under args x f
entered_runs s a x args f under e =
    ap (λ v. running s v under a.locals.items (reverse a.operands.items) (code a.code.now) (map label_of (reverse a.labels.items))) e.func_is
    ∙ ap (λ v. running s x under v (reverse a.operands.items) (code a.code.now) (map label_of (reverse a.labels.items))) e.locals
    ∙ ap (λ v. running s x under (args ++ map zero_of (declared_locals f.locals)) (reverse v) (code a.code.now) (map label_of (reverse a.labels.items))) e.operands
    ∙ ap (λ v. running s x under (args ++ map zero_of (declared_locals f.locals)) [] v (map label_of (reverse a.labels.items))) e.code_is
    ∙ ap (λ v. running s x under (args ++ map zero_of (declared_locals f.locals)) [] f.body (map label_of (reverse v))) e.labels

pub on_ok_from_err : {T E : Type 0} (r : Result T E) (P : Type 0) → IsErr r → OnOk r P
on_ok_from_err (Ok x) P e = cc
on_ok_from_err (Err y) P e = tt
