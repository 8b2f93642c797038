-- What statements of a script tell, where each fits.
use Rattle.std.proofs.Common.{arith, ◌≡◌, ℕ, ◌≤◌, Option, Some, None, List, [], ◌∷◌, length, subst, refl, All}
use Rattle.std.specs.List.{cons_option}
use Rattle.std.proofs.lemmas.List.Elements.{All-nil, All-cons, All-head, All-tail}
use Rattle.wa_model.specs.Outside.{AnswerLine}
use Rattle.script_model.specs.Script.{EntryText, GlobalText}
use Rattle.script_model.specs.ScriptLines.{Statement, begins_program, lists_imports, ignores_imports, saves, has_area, has_steps, sets_global, binds, enters, answers, shows, detaches, has_mailbox, begins_strand}
use Rattle.script_model.specs.ScriptText.{Numbered, steps_of, entry_of, global_of, answer_of, told_by, lines_by}
use Rattle.wa_types.specs.Sizes.{value_fits}
use Rattle.wa_model.specs.Plan.{AnswerFits}
use Rattle.pause_host.specs.Moves.{HasShortPokes}
use Rattle.world_hosting.proofs.ScriptPlans.{SaysFit}

abbrev pub NumberedFits : Numbered → Type 0
NumberedFits n = SaysFit n.says

-- ---- of a kind

-- what fitting statements tell has P
pub told_all : {A : Type 0} (P : A → Type 0) (tells : Statement → Option A) → ((s : Statement) (x : A) → SaysFit s → tells s ≡ Some x → P x) → (ss : List Numbered) → All NumberedFits ss
    → All P (told_by tells ss)
told_all P tells f [] h = All-nil P
told_all P tells f (s ∷ ss) h = by (tells s.says) refl (told_all P tells f ss (All-tail NumberedFits s ss h)) where
  by : (o : Option _) → tells s.says ≡ o → All P (told_by tells ss) → All P (cons_option o (told_by tells ss))
  by None is more = more
  by (Some x) is more = All-cons P x (told_by tells ss) (f s.says x (All-head NumberedFits s ss h) is) more

pub lines_all : {A : Type 0} (P : A → Type 0) (tells : ℕ → Statement → Option A) → ((line : ℕ) (s : Statement) (x : A) → SaysFit s → tells line s ≡ Some x → P x) → (ss : List Numbered)
    → All NumberedFits ss
    → All P (lines_by tells ss)
lines_all P tells f [] h = All-nil P
lines_all P tells f (s ∷ ss) h = by (tells s.line s.says) refl (lines_all P tells f ss (All-tail NumberedFits s ss h)) where
  by : (o : Option _) → tells s.line s.says ≡ o → All P (lines_by tells ss) → All P (cons_option o (lines_by tells ss))
  by None is more = more
  by (Some x) is more = All-cons P x (lines_by tells ss) (f s.line s.says x (All-head NumberedFits s ss h) is) more

pub lines_few : {A : Type 0} (tells : ℕ → Statement → Option A) (ss : List Numbered) → length (lines_by tells ss) ≤ length ss
lines_few tells [] = omega arith
lines_few tells (s ∷ ss) = by (tells s.line s.says) (lines_few tells ss) where
  by : (o : Option _) → length (lines_by tells ss) ≤ length ss → length (cons_option o (lines_by tells ss)) ≤ length (s ∷ ss)
  by None more = omega (arith, more)
  by (Some x) more = omega (arith, more)

-- ---- each kind

abbrev pub IsSteps : ℕ → Type 0
IsSteps n = (1 ≤ n) × (n ≤ 1000000000)

pub steps_told : (s : Statement) (n : ℕ) → SaysFit s → steps_of s ≡ Some n → IsSteps n
steps_told (has_steps k) n h e =
    let same : k ≡ n = cc in
    subst IsSteps same h
steps_told (begins_program path) n h e = cc
steps_told (lists_imports list) n h e = cc
steps_told ignores_imports n h e = cc
steps_told (saves live) n h e = cc
steps_told (has_area at len) n h e = cc
steps_told (sets_global name value) n h e = cc
steps_told (binds import device) n h e = cc
steps_told (enters name args) n h e = cc
steps_told (answers answer) n h e = cc
steps_told (shows at len) n h e = cc
steps_told (detaches device before) n h e = cc
steps_told (has_mailbox name) n h e = cc
steps_told (begins_strand at len) n h e = cc

abbrev pub AnswerOk : AnswerLine → Type 0
AnswerOk a = HasShortPokes a × AnswerFits a.answer

pub answer_told : (s : Statement) (a : AnswerLine) → SaysFit s → answer_of s ≡ Some a → AnswerOk a
answer_told (answers answer) a h e =
    let same : answer ≡ a = cc in
    subst AnswerOk same h
answer_told (has_steps k) a h e = cc
answer_told (begins_program path) a h e = cc
answer_told (lists_imports list) a h e = cc
answer_told ignores_imports a h e = cc
answer_told (saves live) a h e = cc
answer_told (has_area at len) a h e = cc
answer_told (sets_global name value) a h e = cc
answer_told (binds import device) a h e = cc
answer_told (enters name args) a h e = cc
answer_told (shows at len) a h e = cc
answer_told (detaches device before) a h e = cc
answer_told (has_mailbox name) a h e = cc
answer_told (begins_strand at len) a h e = cc

abbrev pub GlobalOk : GlobalText → Type 0
GlobalOk g = value_fits g.value

pub global_told : (line : ℕ) (s : Statement) (g : GlobalText) → SaysFit s → global_of line s ≡ Some g → GlobalOk g
global_told line (sets_global n v) g h e =
    let same : ◌≡◌ {A = GlobalText} (record { line = line; name = n; value = v }) g = cc in
    subst GlobalOk same h
global_told line (begins_program path) g h e = cc
global_told line (lists_imports list) g h e = cc
global_told line ignores_imports g h e = cc
global_told line (saves live) g h e = cc
global_told line (has_area at len) g h e = cc
global_told line (has_steps k) g h e = cc
global_told line (binds import device) g h e = cc
global_told line (enters n args) g h e = cc
global_told line (answers answer) g h e = cc
global_told line (shows at len) g h e = cc
global_told line (detaches device before) g h e = cc
global_told line (has_mailbox name) g h e = cc
global_told line (begins_strand at len) g h e = cc

abbrev pub EntryOk : EntryText → Type 0
EntryOk y = All value_fits y.args

pub entry_told : (line : ℕ) (s : Statement) (y : EntryText) → SaysFit s → entry_of line s ≡ Some y → EntryOk y
entry_told line (enters n args) y h e =
    let same : ◌≡◌ {A = EntryText} (record { line = line; name = n; args = args }) y = cc in
    subst EntryOk same h
entry_told line (begins_program path) y h e = cc
entry_told line (lists_imports list) y h e = cc
entry_told line ignores_imports y h e = cc
entry_told line (saves live) y h e = cc
entry_told line (has_area at len) y h e = cc
entry_told line (has_steps k) y h e = cc
entry_told line (sets_global n v) y h e = cc
entry_told line (binds import device) y h e = cc
entry_told line (answers answer) y h e = cc
entry_told line (shows at len) y h e = cc
entry_told line (detaches device before) y h e = cc
entry_told line (has_mailbox name) y h e = cc
entry_told line (begins_strand at len) y h e = cc
