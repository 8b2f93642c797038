-- Bytes are one prepared module, or are refused for one cause.
use Rattle.std.proofs.Common.{◌≡◌, ◌⊎◌, inl, inr, ℕ, List, Option, refl, sym, ap, ◌∙◌, subst}
use Rattle.wa_types.specs.FirstFault.{FirstFault}
use Rattle.wa_types.specs.ModuleBounds.{prepared_bounds}
use Rattle.wa_types.specs.Syntax.{Module}
use Rattle.wa_types.proofs.FaultLemmas.{one_first_fault, valid_no_fault}
use Rattle.script_model.specs.Transcript.{Refusal, usage, out_of_memory, malformed, float, nesting, invalid, limit, reserved, script, read_fault, write_fault, snapshot_limit, snapshot_refused}
use Rattle.wasm_reader.specs.declared.read_fault.ReadFault.{ReadFault}
use Rattle.wasm_reader.specs.declared.read_fault.ReadFault.TheVariants.{Memory, Malformed, Float, Deep, Limit}
use Rattle.wasm_reader.specs.Answers.{IsAccepted, IsRefused}
use Rattle.script_setup.specs.Prepared.{IsPrepared, IsUnprepared}
use Rattle.script_command.proofs.OneRead.{accepted_passes, one_accepted, one_read_fault}

-- what is told of a cause for which reading refuses bytes
abbrev pub refusal_of_read : ReadFault → Refusal
refusal_of_read Memory = out_of_memory
refusal_of_read (Malformed at) = malformed at
refusal_of_read (Float at) = float at
refusal_of_read (Deep at) = nesting at
refusal_of_read (Limit what found) = limit what found

module _ (bytes : List ℕ) where
  record IsUnread (r : Refusal) : Type 0 where
    fault : ReadFault
    no_memory : fault ≡ Memory → ⊥
    refused : IsRefused prepared_bounds bytes fault
    refusal_is : r ≡ refusal_of_read fault

  record IsInvalid (r : Refusal) : Type 0 where
    source : Module
    accepted : IsAccepted prepared_bounds bytes source
    func : Option ℕ
    rule : ℕ
    at : ℕ
    fault : FirstFault source func rule at
    refusal_is : r ≡ invalid func rule at

  why : (r : Refusal) → IsUnprepared bytes r → IsUnread r ⊎ IsInvalid r
  why (malformed at) h = inl (record { fault = Malformed at; no_memory = λ e. cc; refused = h; refusal_is = refl })
  why (float at) h = inl (record { fault = Float at; no_memory = λ e. cc; refused = h; refusal_is = refl })
  why (nesting at) h = inl (record { fault = Deep at; no_memory = λ e. cc; refused = h; refusal_is = refl })
  why (limit what found) h = inl (record { fault = Limit what found; no_memory = λ e. cc; refused = h; refusal_is = refl })
  why (invalid func rule at) h = inr (record { source = h.0; accepted = h.1; func = func; rule = rule; at = at; fault = h.2; refusal_is = refl })
  why (reserved name) h = absurd h
  why (script line rule) h = absurd h
  why usage h = absurd h
  why out_of_memory h = absurd h
  why (read_fault name) h = absurd h
  why (write_fault name) h = absurd h
  why (snapshot_limit found) h = absurd h
  why snapshot_refused h = absurd h

  one_invalid : (r q : Refusal) → IsInvalid r → IsInvalid q → r ≡ q
  one_invalid r q a b =
      let m = one_accepted prepared_bounds bytes a.source b.source a.accepted b.accepted in
      let one = one_first_fault b.source a.func b.func a.rule b.rule a.at b.at (subst (λ (p : Module). FirstFault p a.func a.rule a.at) m a.fault) b.fault in
      a.refusal_is ∙ ap (λ (x : Option ℕ). invalid x a.rule a.at) one.0 ∙ ap (λ (n : ℕ). invalid b.func n a.at) one.1 ∙ ap (invalid b.func b.rule) one.2 ∙ sym b.refusal_is

  one_why : (r q : Refusal) → IsUnread r ⊎ IsInvalid r → IsUnread q ⊎ IsInvalid q → r ≡ q
  one_why r q f g = elim f [
    | inl a ↦ elim g [
      | inl b ↦
          a.refusal_is ∙ ap refusal_of_read (one_read_fault prepared_bounds bytes a.fault b.fault a.no_memory b.no_memory a.refused b.refused) ∙ sym b.refusal_is
      | inr b ↦ absurd (accepted_passes prepared_bounds bytes b.source a.fault a.no_memory b.accepted a.refused)
    ]
    | inr a ↦ elim g [
      | inl b ↦ absurd (accepted_passes prepared_bounds bytes a.source b.fault b.no_memory a.accepted b.refused)
      | inr b ↦ one_invalid r q a b
    ]
  ]

  -- Two causes for which bytes are refused are one.
  pub one_unprepared : (r q : Refusal) → IsUnprepared bytes r → IsUnprepared bytes q → r ≡ q
  one_unprepared r q h k = one_why r q (why r h) (why q k)

  -- A prepared module isn't refused, and bytes are one at most.
  pub one_prepared : (m n : Module) → IsPrepared bytes m → IsPrepared bytes n → m ≡ n
  one_prepared m n a b = one_accepted prepared_bounds bytes m n a.read b.read

  pub prepared_passes : (m : Module) (r : Refusal) → IsPrepared bytes m → IsUnprepared bytes r → ⊥
  prepared_passes m r is h = elim (why r h) [
    | inl a ↦ accepted_passes prepared_bounds bytes m a.fault a.no_memory is.read a.refused
    | inr a ↦
        let e = one_accepted prepared_bounds bytes a.source m a.accepted is.read in
        valid_no_fault m a.func a.rule a.at is.valid (subst (λ (p : Module). FirstFault p a.func a.rule a.at) e a.fault)
  ]
