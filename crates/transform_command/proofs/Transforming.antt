-- The file that was read, and the one that is written.
use Rattle.std.proofs.Common.{◌≡◌, inl, inr, ℕ, List, Bool, Option, Some, None, refl, sym, ap, ◌∙◌, subst, take, length, [], arith}
use Rattle.std.specs.Prelude.{unwrap_or}
use Rattle.std.proofs.lemmas.List.{take_all}
use Rattle.vault_port.specs.Files.{Files, bytes_of, ChangesOnly, HoldsFrontAtMost}
use Rattle.vault_port.specs.Told.{WhereTold, Becomes}
use Rattle.wa_types.specs.Syntax.{Module}
use Rattle.wa_types.specs.Encoding.{Enc}
use Rattle.script_model.specs.Command.{Manner}
use Rattle.transform_command.specs.Sources.{IsSource, Cause, IsRefusedIn, IsRewritten, IsTransformed}
use Rattle.wasm_reader.proofs.Held.{own_bytes}
use Rattle.transform_command.specs.Transforms.{HoldsSource, IsCutShort, IsCount}

-- what was read is of the file
source_of : (how : Manner) (input bytes : List ℕ) (a : Files) (m : Module) (which : List Bool) (p : Module) → a input ≡ Some bytes → IsSource how bytes m which p
    → IsSource how (bytes_of a input) m which p
source_of how input bytes a m which p e h = subst (λ z. IsSource how z m which p) (own_bytes a input bytes e) h

-- what one change of the files means of another, where they are told
pub becomes_by : (P Q : Files → Files → Type 0) (old new : Option Files) → ((a b : Files) → old ≡ Some a → P a b → Q a b) → Becomes old new P → Becomes old new Q
becomes_by P Q None None f h = tt
becomes_by P Q (Some a) (Some b) f h = f a b refl h
becomes_by P Q None (Some b) f h = h
becomes_by P Q (Some a) None f h = h

told : (P : Files → Type 0) (old : Option Files) (a : Files) → old ≡ Some a → WhereTold old P → P a
told P old a e h = subst (λ (o : Option Files). WhereTold o P) e h

transformed_at : (how : Manner) (input output bytes text : List ℕ) (functions instrumented : ℕ) (a b : Files) → a input ≡ Some bytes
    → IsRewritten how bytes functions instrumented text → ChangesOnly output text a b → IsTransformed how input output a b
transformed_at how input output bytes text functions instrumented a b e w c =
    let m : Module = w.0 in
    let which : List Bool = w.1 in
    record {
      «module» = m;
      which = which;
      emitted = w.2;
      source = source_of how input bytes a m which w.2 e w.3;
      written = subst (λ (bs : List ℕ). ChangesOnly output bs a b) w.6 c;
      prepared = w.7;
      rewritten = w.8;
    }

-- after the save
pub transformed : (how : Manner) (input output bytes text : List ℕ) (functions instrumented : ℕ) (old mid new : Option Files) → mid ≡ old
    → WhereTold old (λ all. all input ≡ Some bytes) → IsRewritten how bytes functions instrumented text
    → Becomes mid new (ChangesOnly output text) → Becomes old new (IsTransformed how input output)
transformed how input output bytes text functions instrumented old mid new same read w saved =
    becomes_by (ChangesOnly output text) (IsTransformed how input output) old new
    (λ a b e c. transformed_at how input output bytes text functions instrumented a b (told (λ all. all input ≡ Some bytes) old a e read) w c)
    (subst (λ (o : Option Files). Becomes o new (ChangesOnly output text)) same saved)

left_at : (how : Manner) (input output bytes text : List ℕ) (functions instrumented : ℕ) (a b : Files) → a input ≡ Some bytes
    → IsRewritten how bytes functions instrumented text → HoldsFrontAtMost output text a b → IsCutShort how input output a b
left_at how input output bytes text functions instrumented a b e w h = record {
  left = elim h.changed [
    | inl front ↦ inr (w.0, w.1, w.2, source_of how input bytes a w.0 w.1 w.2 e w.3, front.0, subst (λ (bs : List ℕ). b output ≡ Some (take front.0 bs)) w.6 front.1)
    | inr same ↦ inl same
  ];
  others = h.others;
}

-- after a save that failed
pub cut_short : (how : Manner) (input output bytes text : List ℕ) (functions instrumented : ℕ) (old mid new : Option Files) → mid ≡ old
    → WhereTold old (λ all. all input ≡ Some bytes) → IsRewritten how bytes functions instrumented text
    → Becomes mid new (HoldsFrontAtMost output text) → Becomes old new (IsCutShort how input output)
cut_short how input output bytes text functions instrumented old mid new same read w saved =
    becomes_by (HoldsFrontAtMost output text) (IsCutShort how input output) old new
    (λ a b e c. left_at how input output bytes text functions instrumented a b (told (λ all. all input ≡ Some bytes) old a e read) w c)
    (subst (λ (o : Option Files). Becomes o new (HoldsFrontAtMost output text)) same saved)

-- of files that did not change
pub uncut : (how : Manner) (input output : List ℕ) (old new : Option Files) → new ≡ old → Becomes old new (IsCutShort how input output)
uncut how input output None new e = subst (λ (o : Option Files). Becomes None o (IsCutShort how input output)) (sym e) tt
uncut how input output (Some a) new e = subst (λ (o : Option Files). Becomes (Some a) o (IsCutShort how input output)) (sym e) (record { left = inl refl; others = λ other d. refl })

-- what is counted
pub counted : (how : Manner) (input bytes text : List ℕ) (functions instrumented len : ℕ) (old : Option Files) → len ≡ length text
    → WhereTold old (λ all. all input ≡ Some bytes) → IsRewritten how bytes functions instrumented text
    → WhereTold old (λ all. IsCount how (bytes_of all input) functions instrumented len)
counted how input bytes text functions instrumented len None l read w = tt
counted how input bytes text functions instrumented len (Some a) l read w = (w.0, w.1, w.2, source_of how input bytes a w.0 w.1 w.2 read w.3, w.4, w.5, l ∙ ap length w.6)

-- and how many bytes were saved
pub saved_bytes : (output text : List ℕ) (len : ℕ) (old new : Option Files) → len ≡ length text → Becomes old new (ChangesOnly output text)
    → WhereTold new (λ all. len ≡ length (bytes_of all output))
saved_bytes output text len None None l saved = tt
saved_bytes output text len (Some a) (Some b) l saved = l ∙ sym (ap (λ (o : Option (List ℕ)). length (unwrap_or o [])) saved.changed)
saved_bytes output text len None (Some b) l saved = absurd saved
saved_bytes output text len (Some a) None l saved = tt

-- what the bytes are refused for, the file is
pub refused_for : (how : Manner) (input bytes : List ℕ) (old : Option Files) (cause : Cause)
    → WhereTold old (λ all. all input ≡ Some bytes) → IsRefusedIn how bytes cause
    → WhereTold old (λ all. IsRefusedIn how (bytes_of all input) cause)
refused_for how input bytes None cause read h = tt
refused_for how input bytes (Some a) cause read h = subst (λ bs. IsRefusedIn how bs cause) (own_bytes a input bytes read) h

-- an accepted source is in the file
pub held : (how : Manner) (input bytes text : List ℕ) (functions instrumented : ℕ) (old : Option Files)
    → WhereTold old (λ all. all input ≡ Some bytes) → IsRewritten how bytes functions instrumented text
    → WhereTold old (λ all. HoldsSource how (bytes_of all input))
unfolding HoldsSource
held how input bytes text functions instrumented None read w = tt
held how input bytes text functions instrumented (Some a) read w = (w.0, w.1, w.2, source_of how input bytes a w.0 w.1 w.2 read w.3)

cut_of_transformed : (how : Manner) (input output : List ℕ) (a b : Files) → IsTransformed how input output a b → IsCutShort how input output a b
cut_of_transformed how input output a b t =
    let text : List ℕ = Enc t.emitted in
    record {
      left = inr (t.«module», t.which, t.emitted, t.source, length text, t.written.changed ∙ ap (λ (bs : List ℕ). Some bs) (sym (take_all (length text) text (omega arith))));
      others = t.written.others;
    }

-- what is whole is a first part too
pub transformed_is_cut : (how : Manner) (input output : List ℕ) (old new : Option Files) → Becomes old new (IsTransformed how input output) → Becomes old new (IsCutShort how input output)
transformed_is_cut how input output old new h = becomes_by (IsTransformed how input output) (IsCutShort how input output) old new (λ a b e t. cut_of_transformed how input output a b t) h
