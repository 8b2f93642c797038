-- A waiting activation of the original and its flat one: what they have in common at a call.
use Rattle.std.proofs.Common.{◌≡◌, ℕ, ◌+◌, List, [], ◌∷◌, ◌++◌, length, Option, Some, None, Bool, true, false, refl, sym, ap, ◌∙◌, arith, length-append, suc, ◌-◌}
use Rattle.std.specs.Prelude.{slice_get}
use Rattle.wa_types.specs.declared.values.ValType.{ValType}
use Rattle.wa_types.specs.declared.values.Value.{Value}
use Rattle.wa_types.specs.Modules.{around, defined_at}
use Rattle.wa_types.specs.Pausing.{calls_of, is_told, Settings, calls_in}
use Rattle.wa_types.specs.Pruned.{pruned}
use Rattle.wa_types.specs.Syntax.{Func, Module}
use Rattle.wa_types.specs.Typing.{Around, listed}
use Rattle.wa_model.specs.Configuration.{Activation, Label, call_count, calls_outside, place_of}
use Rattle.wa_model.specs.Configuration as C
use Rattle.run_theory.specs.Fitting.{results_of, types_of}
use Rattle.run_theory.specs.Flat.{code_of, result_got, set_to}
use Rattle.wa_model.specs.Step.{result_count}
use Rattle.flat_laws.specs.Flatten.{Names, arrive, flat, names, result_of, top_of}
use Rattle.flat_laws.proofs.Calls.{calls_arrive, calls_flat, calls_set}
use Rattle.flat_runs.specs.Beside.{AtZero, Callers, Labels, Locals, above, above_same, host, in_block, in_loop, outermost}
use Rattle.flat_runs.proofs.WaitingCalls.{at_zero}
use Rattle.guard_form.specs.Numbers.{calls_behind}
use Rattle.wa_types.specs.Base.{Base}
use Rattle.wa_model.specs.Plan.{Plan}
use Rattle.headline.specs.CoreOf.{call_place, core_of}
use Rattle.headline.specs.EmittedModule.{Framing}

-- ---- how many calls stand behind

module _ (n : Names) (c : Around) where
  result_calls : (r : Option ValType) → length (calls_of (result_got (result_of n r))) ≡ 0
  unfolding calls_of
  result_calls None = refl
  result_calls (Some t) = refl

  done_calls : length (calls_of Rattle.wa_types.specs.Syntax.done) ≡ 0
  unfolding calls_of
  done_calls = refl

  pub labels_left : (ls : List (Option ValType)) (outs low : List ValType) (labels labels' : List Label) → Labels n c ls outs low labels labels' → calls_behind labels' ≡ calls_outside labels
  labels_left _ _ _ _ _ (outermost has) = let e = result_calls c.result in let d = done_calls in omega arith
  labels_left _ _ _ _ _ (in_block {ls = ls} {all = all} {labels = labels} {labels' = labels'} {r = r} {rest = rest} {skipped = skipped} outs own low la has ain ea g ms) =
      let ih = labels_left ls outs low labels labels' la in
      let e : length (calls_of (code_of (arrive n (length ls) r all (flat n c ls rest (listed r ++ all))))) ≡ length (calls_of (pruned rest)) =
      ap length (calls_arrive n (length ls) r all (flat n c ls rest (listed r ++ all)) ∙ calls_flat n c ls rest (listed r ++ all)) in
      let l1 = length-append (calls_of (pruned skipped)) (calls_of (pruned rest) ++ C.calls_behind labels) in
      let l2 = length-append (calls_of (pruned rest)) (C.calls_behind labels) in
      omega arith
  labels_left _ _ _ _ _ (in_loop {ls = ls} {all = all} {labels = labels} {labels' = labels'} {rest = rest} r outs own low la ain ea gb g) =
      let ih = labels_left ls outs low labels labels' la in
      let e : length (calls_of (code_of (flat n c ls rest (listed r ++ all)))) ≡ length (calls_of (pruned rest)) = ap length (calls_flat n c ls rest (listed r ++ all)) in
      let l2 = length-append (calls_of (pruned rest)) (C.calls_behind labels) in
      omega arith

module _ (m : Module) (which : List Bool) where
  -- Both wait at the same call: as many calls stand behind it in both.
  pub record PairAt (a a' : Activation) : Type 0 where
    pub told : is_told (slice_get which a.func) ≡ true
    pub same_func : a'.func ≡ a.func
    pub none : a'.operands ≡ []
    pub same_taken : a'.taken ≡ a.taken
    pub zero : AtZero a'.labels
    pub func : Func
    pub is : defined_at m a.func ≡ Some func
    pub extra : List Value
    pub locals : a'.locals ≡ a.locals ++ extra
    pub held : Locals m func a.locals extra (a.taken ++ a.operands)
    pub left : length (calls_of a'.code) + calls_behind a'.labels ≡ call_count a.code + calls_outside a.labels

  abbrev pub AllPairs : List Activation → List Activation → Type 0
  AllPairs [] [] = Unit {0}
  AllPairs (a ∷ us) (a' ∷ us') = PairAt a a' × AllPairs us us'
  AllPairs _ _ = ⊥

  abbrev pub AllTold : List Activation → Type 0
  AllTold [] = Unit {0}
  AllTold (a ∷ us) = (is_told (slice_get which a.func) ≡ true) × AllTold us

  pub pairs : (g : ℕ) (us us' : List Activation) → Callers m which g us us' → AllTold us → AllPairs us us'
  pairs g _ _ host t = tt
  pairs _ _ _ (above {g = g} {fn = fn} {f = f} {under = under} {under' = under'} {ls = ls} {extra = extra} {ops = ops} {taken = taken} {code = code} {labels = labels} {labels' =
      labels'} {stmts = stmts} told is us l sp) t =
      let n = names m f in let c = around m f in
      let e0 : stmts ≡ flat n c sp.ls code (results_of m g ++ types_of ops) = sp.stands in
      let e : length (calls_of (set_to (top_of n (result_count m g) (results_of m g ++ types_of ops)) (code_of stmts))) ≡ length (calls_of (pruned code)) =
      ap length (calls_set (top_of n (result_count m g) (results_of m g ++ types_of ops)) (code_of stmts) ∙ ap (λ z. calls_of (code_of z)) e0
      ∙ calls_flat n c sp.ls code (results_of m g ++ types_of ops)) in
      let b = labels_left n c sp.ls sp.outs sp.low labels labels' sp.labelled in (
        record {
          told = told;
          same_func = refl;
          none = refl;
          same_taken = refl;
          zero = at_zero n c sp.ls sp.outs sp.low labels labels' sp.labelled;
          func = f;
          is = is;
          extra =
              extra;
          locals = refl;
          held = l;
          left = omega arith;
        },
        pairs fn under under' us t.1,
      )
  pairs g _ _ (above_same {fn = fn} told is us act) t = let bad : true ≡ false = sym t.0 ∙ told in absurd (clash bad)
    where
      clash : true ≡ false → ⊥
      clash e = cc

-- The frame that stands for such a pair is that of the original's call.
pub call_frame_is : (m : Module) (s : Settings) (which : List Bool) (frames : (index : ℕ) → Framing) (plan : Plan) (p : Module) (a a' : Activation) (pr : PairAt (Base m) which a a') (f : Func)
    → defined_at m a.func ≡ Some f → (core_of m s which frames plan p).lay a' ≡ (frames a.func).frame_at (place_of (Some f) a.code a.labels)
call_frame_is m s which frames plan p a a' pr f is =
    ap (λ y. (frames y).frame_at (call_place (defined_at m y) a')) pr.same_func ∙ ap (λ o. (frames a.func).frame_at (call_place o a')) is
    ∙ ap (λ i. (frames a.func).frame_at (length (calls_in f) - suc i)) pr.left
