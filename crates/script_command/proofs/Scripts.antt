-- A script that was read, and its programs.
use Rattle.std.proofs.Common.{◌≡◌, ◌≤◌, inl, inr, ℕ, List, [], ◌∷◌, length, map, Option, Result, Ok, Err, refl, sym, ap, ◌∙◌, subst, arith}
use Rattle.std.specs.Prelude.{All, IfOk}
use Rattle.std.proofs.lemmas.List.{length-map}
use Rattle.vault_port.specs.Files.{Files}
use Rattle.transcript.specs.Printing.{refusal_of}
use Rattle.wa_model.specs.declared.answers.Detach.{Detach}
use Rattle.script_model.specs.Script.{ProgramText, Script, strand_line}
use Rattle.script_setup.specs.Scripts.{IsScript}
use Rattle.wasm_reader.specs.Held.{Holds}
use Rattle.script_setup.proofs.Counts.{few_programs}
use Rattle.script_reader.specs.declared.script.Script.{Script as ScriptValue}
use Rattle.script_reader.specs.Views.{detach_of, mailbox_of, program_of, script_of}
use Rattle.world_hosting.specs.Worlds.{FitsPlan}
use Rattle.world_hosting.specs.Laws.{ScriptsFit}
use Rattle.script_command.specs.declared.way.Way.{Way}
use Rattle.script_command.specs.declared.opening.Opened.{Opened}
use Rattle.script_command.specs.declared.stop.Stop.{Stop}
use Rattle.script_command.proofs.Choices.{scripts_choose}
use Rattle.script_command.specs.Playing.{Cause, HasChoice, HasScript, IsReached, IsRefused, Reaches, boxes_in, bad_line, bad_module, bad_script, detach_for}
use Rattle.script_command.specs.Views.{AreOpened, Blames, BlamesPrograms, BlamesScript, IsReady, IsRefusedNext, Opens, box_names_of}
use Rattle.script_command.proofs.NoStrands.{HasNoStrand, all_alone, no_strands}
use Rattle.script_command.proofs.Openings.{stops_so, text_in, texts_of_parts}

-- ---- what is opened

pub same_detaches : (xs : List Detach) → map detach_for (map detach_of xs) ≡ xs
same_detaches [] = refl
same_detaches (x ∷ xs) = ap (λ (ys : List Detach). x ∷ ys) (same_detaches xs)

pub has_script : (files : Option Files) (name : List ℕ) (whole : Script) → (bytes : List ℕ) × Holds files name bytes × IsScript bytes whole → HasScript files name whole
has_script files name whole read = record { bytes = read.0; holds = read.1; script = read.2 }

-- the bytes of a script that a file holds
pub read_script : (files : Option Files) (name : List ℕ) (whole : Script) → HasScript files name whole → (bytes : List ℕ) × IsScript bytes whole
read_script files name whole has = (has.bytes, has.script)

-- what is answered has both
pub opened_both : {T E : Type 0} (r : Result T E) (P Q : T → Type 0) → IfOk r P → IfOk r Q → IfOk r (λ x. P x × Q x)
opened_both (Ok x) P Q p q = (p, q)
opened_both (Err e) P Q p q = tt

module _ (whole : ScriptValue) (read : (bytes : List ℕ) × IsScript bytes (script_of whole)) where
  pub few_texts : length whole.programs.items ≤ 16
  few_texts =
      let few = few_programs read.0 (script_of whole) read.1 in
      let n = length-map whole.programs.items program_of in
      omega (arith, few, n)

  pub texts_fit : ScriptsFit → All FitsPlan (map program_of whole.programs.items)
  texts_fit law = law read.0 (script_of whole) read.1.few read.1.text

  pub texts_choose : All HasChoice (map program_of whole.programs.items)
  texts_choose = scripts_choose read.0 (script_of whole) read.1.text

  pub opens : (files : Option Files) (name : List ℕ) → HasScript files name (script_of whole) → (way : Way) (mid : Option Files) (o : Opened) → mid ≡ files
      → o.detaches.items ≡ whole.detaches.items → o.mailboxes.items ≡ whole.mailboxes.items → o.strand ≡ strand_line (script_of whole) → AreOpened way (box_names_of whole.mailboxes.items) mid (map program_of whole.programs.items) o.programs → Opens way files name o
  opens files name has way mid o same taken declared first are =
      let here : AreOpened way (box_names_of whole.mailboxes.items) files (map program_of whole.programs.items) o.programs = subst (λ (all : Option Files). AreOpened way (box_names_of whole.mailboxes.items) all (map program_of whole.programs.items) o.programs) same are in
      record {
        play = record { whole = script_of whole; of_script = has; parts = _; stages = here.stages };
        parts_are = refl;
        detaches_are = same_detaches whole.detaches.items ∙ sym taken;
        mailboxes_are = ap (map mailbox_of) (sym declared);
        strand_is = sym first;
      }

  pub ready : (way : Way) (mid : Option Files) (o : Opened) → AreOpened way (box_names_of whole.mailboxes.items) mid (map program_of whole.programs.items) o.programs
      → o.strand ≡ strand_line (script_of whole) → IsReady o
  ready way mid o are first =
      let texts : map text_in o.programs.planned.items ≡ map program_of whole.programs.items =
      sym (texts_of_parts o.programs.modules.items o.programs.planned.items are.each) ∙ are.stages.texts_are in
      let l = ap (λ (ts : List ProgramText). length ts) texts in
      let n = length-map o.programs.planned.items text_in in
      let k = length-map whole.programs.items program_of in
      let few = few_texts in
      record {
        few = omega (arith, l, n, k, few);
        each = are.each;
        alone = λ none. all_alone o.programs.planned.items (subst (All HasNoStrand) (sym texts) (no_strands (script_of whole) (sym first ∙ none)));
      }

-- ---- why it isn't

module _ (way : Way) (files : Option Files) (name : List ℕ) (f h : ℕ) where
  pub no_script_blamed : (stop : Stop) → BlamesScript files f h name stop → Blames way files f h name stop
  no_script_blamed stop b = stops_so files f h _ _ _ _ stop (λ r none. (bad_script (refusal_of r.kind), (none.0, none.1, none.2), (none.3, refl))) (λ read own. inl own) b

  module _ (whole : Script) (has : HasScript files name whole) where
    abbrev reaches : (number : ℕ) (t : ProgramText) → IsReached way (boxes_in whole) files whole.programs number t → Reaches way files name number t
    reaches number t is = record { whole = whole; of_script = has; reached = is }

    -- what a program that is reached is refused for, the script is
    refused_there : (number : ℕ) (t : ProgramText) (cause : Cause) → IsReached way (boxes_in whole) files whole.programs number t → IsRefusedNext way (boxes_in whole) files number t cause → IsRefused way files name cause
    refused_there number t (bad_script r) is h = absurd h
    refused_there number t (bad_module n r) is h = (t, reaches n t (subst (λ (k : ℕ). IsReached way (boxes_in whole) files whole.programs k t) (sym h.0) is), h.1)
    refused_there number t (bad_line line rule) is h = (number, t, reaches number t is, h)

    blamed : (stop : Stop) → BlamesPrograms way (boxes_in whole) files f h whole.programs stop → Blames way files f h name stop
    blamed stop b =
        stops_so files f h _ _ _ _ stop (λ r told. (told.0, refused_there b.0 b.1 told.0 b.2 told.1, told.2)) (λ read own. inr (b.0, b.1, reaches b.0 b.1 b.2, own)) b.3

  pub script_blamed : (mid : Option Files) (g : ℕ) (whole : Script) (stop : Stop) → mid ≡ files → g ≡ f → HasScript files name whole
      → BlamesPrograms way (boxes_in whole) mid g h whole.programs stop → Blames way files f h name stop
  script_blamed mid g whole stop same still has b =
      blamed whole has stop
      (subst (λ (all : Option Files). BlamesPrograms way (boxes_in whole) all f h whole.programs stop) same (subst (λ (k : ℕ). BlamesPrograms way (boxes_in whole) mid k h whole.programs stop) still b))
