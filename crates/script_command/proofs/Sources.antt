-- An original that is refused before anything is written is refused for one cause.
use Rattle.std.proofs.Common.{arith, ◌≡◌, ℕ, zero, suc, ◌≤◌, inl, inr, List, Bool, Option, Some, None, refl, sym, ap, ◌∙◌, subst}
use Rattle.std.proofs.lemmas.Bool.{cases_lt}
use Rattle.wa_types.specs.declared.bounds.LimitKind.TheVariants.{Locals}
use Rattle.wa_types.specs.FirstFault.{FirstFault}
use Rattle.wa_types.specs.Marks.{first_above}
use Rattle.wa_types.specs.ModuleBounds.{source_bounds}
use Rattle.wa_types.specs.Pausing.{Settings, TellsMayPause}
use Rattle.wa_types.specs.Syntax.{Module}
use Rattle.wa_types.proofs.FaultLemmas.{one_first_fault, valid_no_fault}
use Rattle.slot_laws.proofs.Closed.{one_list}
use Rattle.local_spill.specs.declared.reserving.ReservedAt.{ReservedAt}
use Rattle.local_spill.specs.Reserved.{reserved_at}
use Rattle.script_model.specs.Transcript as T
use Rattle.script_model.specs.Transcript.{Refusal}
use Rattle.wasm_reader.specs.declared.read_fault.ReadFault.{ReadFault}
use Rattle.wasm_reader.specs.declared.read_fault.ReadFault.TheVariants.{Memory, Malformed, Float, Deep, Limit}
use Rattle.wasm_reader.specs.Answers.{IsAccepted, IsRefused}
use Rattle.transform_command.specs.Sources.{Cause, malformed, float, deep, limit, reserved, invalid, rewritten_locals, long_output, IsFree, IsRefusedFor, IsUnwritten, IsValidSource, refusal_for, reserved_name, rewritten_counts}
use Rattle.script_command.proofs.OneRead.{accepted_passes, one_accepted, one_read_fault}
use Rattle.script_command.proofs.Prepared.{refusal_of_read}

module _ (s : Settings) (bytes : List ℕ) where
  -- ---- causes

  record IsUnread (r : Refusal) : Type 0 where
    fault : ReadFault
    no_memory : fault ≡ Memory → ⊥
    refused : IsRefused source_bounds bytes fault
    refusal_is : r ≡ refusal_of_read fault

  record IsReserved (r : Refusal) : Type 0 where
    source : Module
    place : ReservedAt
    accepted : IsAccepted source_bounds bytes source
    at_place : reserved_at source ≡ Some place
    refusal_is : r ≡ T.reserved (reserved_name source place)

  record IsInvalid (r : Refusal) : Type 0 where
    source : Module
    free : IsFree bytes source
    func : Option ℕ
    rule : ℕ
    at : ℕ
    fault : FirstFault source func rule at
    refusal_is : r ≡ T.invalid func rule at

  record HasManyLocals (r : Refusal) : Type 0 where
    source : Module
    which : List Bool
    valid : IsValidSource bytes source
    tells : TellsMayPause source s which
    count : ℕ
    above : first_above 50000 (rewritten_counts source which) ≡ Some count
    refusal_is : r ≡ T.limit Locals count

  -- by stage
  abbrev Why : ℕ → Refusal → Type 0
  Why zero r = IsUnread r
  Why (suc zero) r = IsReserved r
  Why (suc (suc zero)) r = IsInvalid r
  Why (suc (suc (suc zero))) r = HasManyLocals r
  Why (suc (suc (suc (suc n)))) r = ⊥

  record HasWhy (r : Refusal) : Type 0 where
    stage : ℕ
    why : Why stage r

  has_why : (c : Cause) → IsUnwritten c → IsRefusedFor s bytes c → HasWhy (refusal_for c)
  has_why (malformed at) u h = record { stage = 0; why = record { fault = Malformed at; no_memory = λ e. cc; refused = h; refusal_is = refl } }
  has_why (float at) u h = record { stage = 0; why = record { fault = Float at; no_memory = λ e. cc; refused = h; refusal_is = refl } }
  has_why (deep at) u h = record { stage = 0; why = record { fault = Deep at; no_memory = λ e. cc; refused = h; refusal_is = refl } }
  has_why (limit what found) u h = record { stage = 0; why = record { fault = Limit what found; no_memory = λ e. cc; refused = h; refusal_is = refl } }
  has_why (reserved name) u h =
      record { stage = 1; why = record { source = h.0; place = h.1; accepted = h.2; at_place = h.3; refusal_is = ap (λ (n : List ℕ). T.reserved n) h.4 } }
  has_why (invalid func rule at) u h =
      record { stage = 2; why = record { source = h.0; free = h.1; func = func; rule = rule; at = at; fault = h.2; refusal_is = refl } }
  has_why (rewritten_locals found) u h =
      record { stage = 3; why = record { source = h.0; which = h.1; valid = h.2; tells = h.3; count = found; above = h.4; refusal_is = refl } }
  has_why (long_output found) u h = absurd u

  -- ---- stages

  -- how far an original comes
  abbrev Reached : ℕ → Type 0
  Reached zero = Unit {0}
  Reached (suc zero) = (m : Module) × IsAccepted source_bounds bytes m
  Reached (suc (suc zero)) = (m : Module) × IsFree bytes m
  Reached (suc (suc (suc zero))) = (m : Module) × IsValidSource bytes m
  Reached (suc (suc (suc (suc n)))) = ⊥

  down : (n : ℕ) → Reached (suc n) → Reached n
  down zero r = tt
  down (suc zero) r = (r.0, r.1.read)
  down (suc (suc zero)) r = (r.0, r.1.unreserved)
  down (suc (suc (suc n))) r = absurd r

  below : (n k : ℕ) → k ≤ n → Reached n → Reached k
  below zero k h r = let e : 0 ≡ k = omega (arith, h) in subst Reached e r
  below (suc n) k h r = elim (cases_lt n k) [
    | inl lt ↦ let e : suc n ≡ k = omega (arith, h, lt) in subst Reached e r
    | inr ge ↦ below n k ge (down n r)
  ]

  reaches : (n : ℕ) (r : Refusal) → Why n r → Reached n
  reaches zero r h = tt
  reaches (suc zero) r h = (h.source, h.accepted)
  reaches (suc (suc zero)) r h = (h.source, h.free)
  reaches (suc (suc (suc zero))) r h = (h.source, h.valid)
  reaches (suc (suc (suc (suc n)))) r h = absurd h

  same : (m n : Module) → IsAccepted source_bounds bytes m → IsAccepted source_bounds bytes n → m ≡ n
  same m n a b = one_accepted source_bounds bytes m n a b

  none_reserved : (m : Module) (place : ReservedAt) → reserved_at m ≡ Some place → reserved_at m ≡ None → ⊥
  none_reserved m place e f = let bad = sym e ∙ f in cc

  stops : (n : ℕ) (r : Refusal) → Why n r → Reached (suc n) → ⊥
  stops zero r h g = accepted_passes source_bounds bytes g.0 h.fault h.no_memory g.1 h.refused
  stops (suc zero) r h g =
      none_reserved g.0 h.place (subst (λ (m : Module). reserved_at m ≡ Some h.place) (same h.source g.0 h.accepted g.1.read) h.at_place) g.1.free
  stops (suc (suc zero)) r h g =
      valid_no_fault g.0 h.func h.rule h.at g.1.valid
      (subst (λ (m : Module). FirstFault m h.func h.rule h.at) (same h.source g.0 h.free.read g.1.unreserved.read) h.fault)
  stops (suc (suc (suc zero))) r h g = absurd g
  stops (suc (suc (suc (suc n)))) r h g = absurd h

  one_stage : (n k : ℕ) (r q : Refusal) → Why n r → Why k q → n ≡ k
  one_stage n k r q h i = elim (cases_lt n k) [
    | inl lt ↦ absurd (stops n r h (below k (suc n) (omega (arith, lt)) (reaches k q i)))
    | inr ge ↦ elim (cases_lt k n) [
      | inl lt ↦ absurd (stops k q i (below n (suc k) (omega (arith, lt)) (reaches n r h)))
      | inr le ↦ omega (arith, ge, le)
    ]
  ]

  -- ---- one cause of each

  one_reserved : (r q : Refusal) → IsReserved r → IsReserved q → r ≡ q
  one_reserved r q a b =
      let m = same a.source b.source a.accepted b.accepted in
      let here : reserved_at b.source ≡ Some a.place = subst (λ (p : Module). reserved_at p ≡ Some a.place) m a.at_place in
      let both : ◌≡◌ {A = Option ReservedAt} (Some a.place) (Some b.place) = sym here ∙ b.at_place in
      let place : a.place ≡ b.place = cc in
      a.refusal_is ∙ ap (λ (p : Module). T.reserved (reserved_name p a.place)) m ∙ ap (λ (x : ReservedAt). T.reserved (reserved_name b.source x)) place ∙ sym b.refusal_is

  one_invalid : (r q : Refusal) → IsInvalid r → IsInvalid q → r ≡ q
  one_invalid r q a b =
      let m = same a.source b.source a.free.read b.free.read in
      let one = one_first_fault b.source a.func b.func a.rule b.rule a.at b.at (subst (λ (p : Module). FirstFault p a.func a.rule a.at) m a.fault) b.fault in
      a.refusal_is ∙ ap (λ (x : Option ℕ). T.invalid x a.rule a.at) one.0 ∙ ap (λ (n : ℕ). T.invalid b.func n a.at) one.1 ∙ ap (T.invalid b.func b.rule) one.2
      ∙ sym b.refusal_is

  one_count : (r q : Refusal) → HasManyLocals r → HasManyLocals q → r ≡ q
  one_count r q a b =
      let m = same a.source b.source a.valid.unreserved.read b.valid.unreserved.read in
      let w = one_list b.source s a.which b.which (subst (λ (p : Module). TellsMayPause p s a.which) m a.tells) b.tells in
      let here = sym (ap (λ (which : List Bool). first_above 50000 (rewritten_counts b.source which)) w)
      ∙ sym (ap (λ (p : Module). first_above 50000 (rewritten_counts p a.which)) m) ∙ a.above in
      let both : ◌≡◌ {A = Option ℕ} (Some a.count) (Some b.count) = sym here ∙ b.above in
      let count : a.count ≡ b.count = cc in
      a.refusal_is ∙ ap (T.limit Locals) count ∙ sym b.refusal_is

  one_of : (n : ℕ) (r q : Refusal) → Why n r → Why n q → r ≡ q
  one_of zero r q a b = a.refusal_is ∙ ap refusal_of_read (one_read_fault source_bounds bytes a.fault b.fault a.no_memory b.no_memory a.refused b.refused) ∙ sym b.refusal_is
  one_of (suc zero) r q a b = one_reserved r q a b
  one_of (suc (suc zero)) r q a b = one_invalid r q a b
  one_of (suc (suc (suc zero))) r q a b = one_count r q a b
  one_of (suc (suc (suc (suc n)))) r q a b = absurd a

  one_why : (r q : Refusal) → HasWhy r → HasWhy q → r ≡ q
  one_why r q a b = one_of b.stage r q (subst (λ (n : ℕ). Why n r) (one_stage a.stage b.stage r q a.why b.why) a.why) b.why

  -- Two causes for which an original is refused, before it is written, are told as one.
  pub one_bad_original : (c d : Cause) → IsUnwritten c → IsUnwritten d → IsRefusedFor s bytes c → IsRefusedFor s bytes d → refusal_for c ≡ refusal_for d
  one_bad_original c d u v h k = one_why (refusal_for c) (refusal_for d) (has_why c u h) (has_why d v k)
