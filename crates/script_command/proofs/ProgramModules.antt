-- A program has one module but for its code and custom sections, or is refused for one cause.
use Rattle.std.proofs.Common.{arith, ◌≡◌, ℕ, suc, ◌≤◌, List, Option, Some, Bool, sym, ap, ◌∙◌, subst}
use Rattle.vault_port.specs.Files.{Files, bytes_of}
use Rattle.wa_types.specs.declared.bounds.LimitKind.{LimitKind}
use Rattle.wa_types.specs.declared.bounds.LimitKind.TheVariants.{File}
use Rattle.wa_types.specs.Pausing.{Listed, Settings}
use Rattle.wa_types.specs.Syntax.{Module}
use Rattle.script_model.specs.Script.{ProgramText}
use Rattle.script_model.specs.Transcript.{Refusal}
use Rattle.wasm_reader.proofs.Held.{own_bytes}
use Rattle.script_setup.specs.Prepared.{IsPrepared, IsUnprepared}
use Rattle.transform_command.specs.Running.{RunsAs}
use Rattle.transform_command.specs.Manners.{plainly}
use Rattle.transform_command.specs.Sources.{Cause, malformed, float, deep, limit, reserved, invalid, rewritten_locals, long_output, IsRefusedFor, IsUnwritten}
use Rattle.transform_command.proofs.Outlines.{outline}
use Rattle.transform_command.proofs.Verdicts as V
use Rattle.script_command.specs.declared.way.Way.{Way}
use Rattle.script_command.specs.declared.way.Way.TheVariants.{Host, Run}
use Rattle.script_command.specs.Playing.{IsBadModule, IsModule, settings_for}
use Rattle.script_command.proofs.Prepared.{one_prepared, one_unprepared, prepared_passes}
use Rattle.script_command.proofs.Sources.{one_bad_original}

-- ---- originals

pub one_settings : (t : ProgramText) (s r : Settings) → settings_for t ≡ Some s → settings_for t ≡ Some r → s ≡ r
one_settings t s r e f = let both : ◌≡◌ {A = Option Settings} (Some s) (Some r) = sym e ∙ f in cc

limit_early : (what : LimitKind) → V.limit_stage what ≤ 6
limit_early File = omega arith
limit_early _ = omega arith

-- what isn't written is refused before it could be
early : (c : Cause) → IsUnwritten c → V.stage c ≤ 6
early (malformed at) u = omega arith
early (float at) u = omega arith
early (deep at) u = omega arith
early (limit what found) u = limit_early what
early (reserved name) u = omega arith
early (invalid func rule at) u = omega arith
early (rewritten_locals found) u = omega arith
early (long_output found) u = absurd u

run_passes : (s : Settings) (bytes : List ℕ) (listed : List Bool) (p : Module) (c : Cause) → RunsAs s bytes listed p → IsUnwritten c → IsRefusedFor s bytes c → ⊥
run_passes s bytes listed p c r u h =
    let le = early c u in
    V.stops (plainly s) bytes c h (V.below s bytes 7 (suc (V.stage c)) (omega (arith, le)) (r.source, r.which, r.rewritable))

-- runs of one original have one outline
one_run : (s : Settings) (bytes : List ℕ) (l k : List Bool) (p q : Module) → RunsAs s bytes l p → RunsAs s bytes k q → outline p ≡ outline q
one_run s bytes l k p q a b = V.one_written s bytes a.source b.source a.which b.which p q a.rewritable b.rewritable a.rewrites b.rewrites

-- .. and one list of imports
one_list : (s : Settings) (bytes : List ℕ) (l k : List Bool) (p q : Module) → RunsAs s bytes l p → RunsAs s bytes k q → l ≡ k
one_list s bytes l k p q a b =
    a.listed_is ∙ ap (λ (m : Module). Listed m s) (V.same_module bytes a.source b.source a.rewritable.accepted.unreserved.read b.rewritable.accepted.unreserved.read) ∙ sym b.listed_is

-- ---- modules

module _ (files : Files) (t : ProgramText) where
  -- the bytes of its file
  own : (P : List ℕ → Type 0) (bytes : List ℕ) → files t.path ≡ Some bytes → P bytes → P (bytes_of files t.path)
  own P bytes e h = subst P (own_bytes files t.path bytes e) h

  -- modules of a program have one outline
  pub one_module : (way : Way) (p q : Module) (l k : Option (List Bool)) → IsModule way (Some files) t p l → IsModule way (Some files) t q k → outline p ≡ outline q
  one_module Host p q l k a b =
      ap (λ (x : Module). outline x) (one_prepared (bytes_of files t.path) p q (own (λ (bs : List ℕ). IsPrepared bs p) a.0 a.1 a.2) (own (λ (bs : List ℕ). IsPrepared bs q) b.0 b.1 b.2))
  one_module Run p q l k a b =
      let s = one_settings t a.3.0 b.3.0 a.3.1 b.3.1 in
      one_run b.3.0 (bytes_of files t.path) a.1 b.1 p q
      (subst (λ (x : Settings). RunsAs x (bytes_of files t.path) a.1 p) s (own (λ (bs : List ℕ). RunsAs a.3.0 bs a.1 p) a.0 a.2 a.3.2))
      (own (λ (bs : List ℕ). RunsAs b.3.0 bs b.1 q) b.0 b.2 b.3.2)

  -- and one list, which is told where they are run
  pub one_listing : (p q : Module) (l k : Option (List Bool)) → IsModule Run (Some files) t p l → IsModule Run (Some files) t q k → l ≡ k
  one_listing p q l k a b =
      let s = one_settings t a.3.0 b.3.0 a.3.1 b.3.1 in
      let list : a.1 ≡ b.1 = one_list b.3.0 (bytes_of files t.path) a.1 b.1 p q
      (subst (λ (x : Settings). RunsAs x (bytes_of files t.path) a.1 p) s (own (λ (bs : List ℕ). RunsAs a.3.0 bs a.1 p) a.0 a.2 a.3.2))
      (own (λ (bs : List ℕ). RunsAs b.3.0 bs b.1 q) b.0 b.2 b.3.2) in
      a.4 ∙ ap (λ (x : List Bool). Some x) list ∙ sym b.4

  -- a module isn't refused
  pub not_bad : (way : Way) (p : Module) (l : Option (List Bool)) (r : Refusal) → IsModule way (Some files) t p l → IsBadModule way (Some files) t r → ⊥
  not_bad Host p l r a b =
      prepared_passes (bytes_of files t.path) p r (own (λ (bs : List ℕ). IsPrepared bs p) a.0 a.1 a.2) (own (λ (bs : List ℕ). IsUnprepared bs r) b.0 b.1 b.2)
  not_bad Run p l r a b =
      let bad = b.2 in
      let s = one_settings t bad.0 a.3.0 bad.1 a.3.1 in
      run_passes a.3.0 (bytes_of files t.path) a.1 p bad.2.0 (own (λ (bs : List ℕ). RunsAs a.3.0 bs a.1 p) a.0 a.2 a.3.2) bad.2.2
      (subst (λ (x : Settings). IsRefusedFor x (bytes_of files t.path) bad.2.0) s (own (λ (bs : List ℕ). IsRefusedFor bad.0 bs bad.2.0) b.0 b.1 bad.2.1))

  -- refusals are one
  pub one_refused : (way : Way) (r q : Refusal) → IsBadModule way (Some files) t r → IsBadModule way (Some files) t q → r ≡ q
  one_refused Host r q a b =
      one_unprepared (bytes_of files t.path) r q (own (λ (bs : List ℕ). IsUnprepared bs r) a.0 a.1 a.2) (own (λ (bs : List ℕ). IsUnprepared bs q) b.0 b.1 b.2)
  one_refused Run r q a b =
      let x = a.2 in
      let y = b.2 in
      let s = one_settings t x.0 y.0 x.1 y.1 in
      x.2.3
      ∙ one_bad_original y.0 (bytes_of files t.path) x.2.0 y.2.0 x.2.2 y.2.2
      (subst (λ (z : Settings). IsRefusedFor z (bytes_of files t.path) x.2.0) s (own (λ (bs : List ℕ). IsRefusedFor x.0 bs x.2.0) a.0 a.1 x.2.1))
      (own (λ (bs : List ℕ). IsRefusedFor y.0 bs y.2.0) b.0 b.1 y.2.1) ∙ sym y.2.3
