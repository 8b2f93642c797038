-- How often what is emitted reads the state, policy by policy.
use Rattle.std.proofs.Common.{◌≡◌, ◌≢◌, ◌∙◌, ℕ, suc, ◌+◌, List, Option, Some, None, Bool, true, false, refl, sym, ap, subst, arith}
use Rattle.std.specs.Prelude.{slice_get}
use Rattle.wa_types.specs.Modules.{func_imports}
use Rattle.wa_types.specs.Pausing.{MayPause, Policy, Settings, is_told, save_all, save_live}
use Rattle.wa_types.specs.Runtime.{global_space}
use Rattle.wa_types.specs.Syntax.{Func, Module}
use Rattle.guard_form.specs.Bounds.{reads}
use Rattle.emitted_form.specs.Emitted.{frame_layout, layout_codes}
use Rattle.emitted_form.specs.EmittedBy.{FrameCode, func_by}
use Rattle.emitted_form.proofs.EmittedBy.{defined_of, emitted, emitted_at, not_told, told}
use Rattle.emitted_form.proofs.StateReads.{own_unread, restore_unread, save_unread, written_few}
use Rattle.emitted_form.specs.EmittedAs.{EmittedUnder, IsEmittedWhere, IsWrittenUnder}
use Rattle.emitted_form.specs.LiveParts.{live_codes}
use Rattle.emitted_form.specs.PolicyLaws.{EmittedAsReadsFew, ReadsFew, WrittenAsReadsFew}
use Rattle.emitted_form.proofs.CallCounts.{told_calls}
use Rattle.emitted_form.proofs.LiveHold.{live_unread}

-- ---- a function

pub written_reads : WrittenAsReadsFew
written_reads m s which x f g c is may = by s.policy
  where
    apart : suc (global_space m) ≢ global_space m
    apart e = omega (arith, e)

    by : (p : Policy) → IsWrittenUnder p m s which x f g → ReadsFew m s which x f g
    by save_all h =
        let l = frame_layout m s which x f in
        subst (ReadsFew m s which x f) (sym h.is)
        (written_few m c.valid s which (layout_codes m s which (λ y. h.pieces)) x f is h.slim
        (restore_unread (global_space m) l apart) (save_unread (global_space m) l apart))
    by save_live h =
        let none = live_unread m s which c.valid c.sizes x f h.pieces h.parts is (told_calls m s which c.tells x f is may) (c.few x f is may) h.slim h.live in
        subst (ReadsFew m s which x f) (sym h.is) (written_few m c.valid s which (live_codes (λ y. h.pieces) (λ y. h.parts)) x f is h.slim none.0 none.1)

-- ---- a module

module _ (m : Module) (s : Settings) (which : List Bool) where
  -- the function at a place is the one that stands there
  found : (codes : (index : ℕ) → Func → FrameCode) (q : Module) (i : ℕ) (f g : Func) → q ≡ emitted m s which codes → slice_get m.funcs i ≡ Some f → slice_get q.funcs i ≡ Some g
      → g ≡ func_by m s which codes (func_imports m + i) f
  found codes q i f g is e h =
      let z : Some g ≡ Some (func_by m s which codes (func_imports m + i) f) = sym h ∙ ap (λ (p : Module). slice_get p.funcs i) is ∙ emitted_at m s which codes i f e in cc

  -- what stands in an emitted module is what is emitted of the function there
  emitted_there : (p : Policy) (q : Module) (i : ℕ) (f g : Func) (b : Bool) → s.policy ≡ p → EmittedUnder p m s which q → is_told (slice_get which (func_imports m + i)) ≡ b
      → slice_get m.funcs i ≡ Some f → slice_get q.funcs i ≡ Some g → IsEmittedWhere b m s which (func_imports m + i) f g
  emitted_there save_all q i f g true p h b e k =
      let x : ℕ = func_imports m + i in
      subst (λ (p : Policy). IsWrittenUnder p m s which x f g) (sym p) (record {
        pieces = h.pieces x;
        slim = h.slim x f (defined_of m i f e) b;
        is = found (layout_codes m s which h.pieces) q i f g h.is e k ∙ told m s which (layout_codes m s which h.pieces) x f b;
      })
  emitted_there save_live q i f g true p h b e k =
      let x : ℕ = func_imports m + i in
      subst (λ (p : Policy). IsWrittenUnder p m s which x f g) (sym p) (record {
        pieces = h.pieces x;
        slim = h.slim x f (defined_of m i f e) b;
        parts = h.parts x;
        live = h.live x f (defined_of m i f e) b;
        is = found (live_codes h.pieces h.parts) q i f g h.is e k ∙ told m s which (live_codes h.pieces h.parts) x f b;
      })
  emitted_there save_all q i f g false p h b e k =
      found (layout_codes m s which h.pieces) q i f g h.is e k ∙ not_told m s which (layout_codes m s which h.pieces) (func_imports m + i) f b
  emitted_there save_live q i f g false p h b e k =
      found (live_codes h.pieces h.parts) q i f g h.is e k ∙ not_told m s which (live_codes h.pieces h.parts) (func_imports m + i) f b

pub emitted_reads : EmittedAsReadsFew
emitted_reads m s which q c h = record {
  written = λ i f g e k may.
      let x : ℕ = func_imports m + i in
      let b : is_told (slice_get which x) ≡ true = ap is_told ((c.tells.each x).1 may) in
      written_reads m s which x f g c (defined_of m i f e) b (emitted_there m s which s.policy q i f g true refl h b e k);
  others = λ i f g e k never. by i f g e k never (is_told (slice_get which (func_imports m + i))) refl;
}
  where
    is_true : (o : Option Bool) → is_told o ≡ true → o ≡ Some true
    is_true None e = cc
    is_true (Some b) e = ap Some e

    by : (i : ℕ) (f g : Func) → slice_get m.funcs i ≡ Some f → slice_get q.funcs i ≡ Some g → ¬ MayPause m s (func_imports m + i)
        → (b : Bool) → is_told (slice_get which (func_imports m + i)) ≡ b → reads (global_space m) g.body ≡ 0
    by i f g e k never true b = absurd (never ((c.tells.each (func_imports m + i)).0 (is_true (slice_get which (func_imports m + i)) b)))
    by i f g e k never false b =
        let same : g ≡ f = emitted_there m s which s.policy q i f g false refl h b e k in
        ap (λ (k : Func). reads (global_space m) k.body) same ∙ own_unread m c.valid i f e
