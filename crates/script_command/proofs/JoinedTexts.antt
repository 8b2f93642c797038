-- The text of lines so far, and the transcript of the rest behind it.
use Rattle.std.proofs.Common.{◌≡◌, ℕ, List, [], ◌∷◌, ◌++◌, refl, sym, ap, ◌∙◌, append_assoc}
use Rattle.wa_model.specs.Outside.{Line}
use Rattle.script_model.specs.Script.{ProgramText}
use Rattle.script_model.specs.Transcript.{Names, Transcript, event_line, event_lines, last_line, names_at}
use Rattle.script_setup.specs.SetUpRules.{program_names}
use Rattle.world_hosting.specs.OriginalRuns.{Source}
use Rattle.world_hosting.specs.Worlds.{Part}
use Rattle.script_command.specs.RunOriginals.{original_names}
use Rattle.script_command.proofs.GoingOver.{texts_of}

lines_on : (names : List Names) (xs ys : List Line) → event_lines names (xs ++ ys) ≡ event_lines names xs ++ event_lines names ys
lines_on names [] ys = refl
lines_on names (x ∷ xs) ys =
    ap (λ (text : List ℕ). event_line (names_at names x.program) x ++ text) (lines_on names xs ys)
    ∙ sym (append_assoc (event_line (names_at names x.program) x) (event_lines names xs) (event_lines names ys))

pub text_joined : (names : List Names) (programs events : ℕ) (text text' : List ℕ) (lines more : List Line) → text ≡ event_lines names lines → text' ≡ Transcript names programs events more
    → text ++ text' ≡ Transcript names programs events (lines ++ more)
text_joined names programs events text text' lines more is is' =
    ap (λ (bs : List ℕ). bs ++ text') is ∙ ap (λ (bs : List ℕ). event_lines names lines ++ bs) is'
    ∙ sym (append_assoc (event_lines names lines) (event_lines names more) (last_line programs events))
    ∙ ap (λ (bs : List ℕ). bs ++ last_line programs events) (sym (lines_on names lines more))

-- the names of originals are those of their texts
pub names_by_texts : (sources : List Source) (xs ys : List Part) → texts_of ys ≡ texts_of xs → original_names sources ys ≡ original_names sources xs
names_by_texts [] xs ys same = refl
names_by_texts (s ∷ sources) [] [] same = refl
names_by_texts (s ∷ sources) [] (y ∷ ys) same = cc
names_by_texts (s ∷ sources) (x ∷ xs) [] same = cc
names_by_texts (s ∷ sources) (x ∷ xs) (y ∷ ys) same =
    let head : y.text ≡ x.text = cc in
    let tail : texts_of ys ≡ texts_of xs = cc in
    ap (λ (t : ProgramText). program_names s.original t ∷ original_names sources ys) head ∙ ap (λ (ns : List Names). program_names s.original x.text ∷ ns) (names_by_texts sources xs ys tail)
