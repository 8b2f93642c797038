-- Programs that are told statement by statement are the programs that groups of statements tell.
use Rattle.std.proofs.Common.{◌≡◌, ℕ, ◌||◌, Bool, true, false, Option, Some, None, Result, Ok, Err, List, [], ◌∷◌, ◌++◌, map, sym, ap, ◌∙◌, refl, append_assoc, append-nil, slice_get}
use Rattle.std.specs.Option.{option_or}
use Rattle.std.specs.List.{list_any}
use Rattle.script_model.specs.Script.{EntryText, ProgramText, ScriptFault, StrandText, breaks}
use Rattle.wa_model.specs.Outside.{AnswerLine}
use Rattle.script_model.specs.ScriptLines.{Statement, begins_program, lists_imports, ignores_imports, saves, has_area, has_steps, sets_global, binds, enters, answers, shows, detaches, has_mailbox, begins_strand}
use Rattle.script_model.specs.ScriptText.{Numbered, Group, AreaText, Stranded, stranded, strand_of, told_by, lines_by, list_of_statement, is_ignore, live_of_statement, area_of, steps_of, global_of, bind_of, entry_of}
use Rattle.script_model.specs.ScriptText.{answer_of, show_of, with_program, programs_of}
use Rattle.script_reader.specs.Drafts.{Draft, begun, more_told, with_entry, with_answer, entry_behind, answer_behind, to_first, on_last, told_with, one_more, closed}
use Rattle.script_reader.proofs.StrandLists.{grown, twice, same_last, at_end, first_kept, first_none, first_more, first_behind, grown_none, grown_entry, grown_answer}

abbrev pub folded : Draft → List Numbered → Draft
folded d [] = d
folded d (s ∷ ss) = folded (more_told s.line s.says d) ss

abbrev pub of_group : Group → Draft
of_group g = folded (begun g.line g.path) g.told

abbrev pub all_closed : Result (List ProgramText) ScriptFault → List Draft → Result (List ProgramText) ScriptFault
all_closed r [] = r
all_closed r (d ∷ ds) = all_closed (closed r d) ds

-- what more statements tell of a program's strands: more of the last one, and those behind it
abbrev strands_more : List StrandText → Stranded → List StrandText
strands_more ss g = on_last (grown (lines_by entry_of g.first) (told_by answer_of g.first)) ss ++ map strand_of g.strands

-- a program and what more statements tell of it, kind by kind
abbrev told_more : Draft → List Numbered → Draft
told_more d ss = record {
  line = d.line;
  path = d.path;
  list = option_or d.list (slice_get (told_by list_of_statement ss) 0);
  ignore_imports = d.ignore_imports || list_any (λ (s : Numbered). is_ignore s.says) ss;
  policy_live = option_or d.policy_live (slice_get (told_by live_of_statement ss) 0);
  area = option_or d.area (slice_get (lines_by area_of ss) 0);
  steps = option_or d.steps (slice_get (told_by steps_of ss) 0);
  globals = d.globals ++ lines_by global_of ss;
  binds = d.binds ++ lines_by bind_of ss;
  entries = to_first d.strands d.entries (lines_by entry_of (stranded ss).first);
  answers = to_first d.strands d.answers (told_by answer_of (stranded ss).first);
  shows = d.shows ++ lines_by show_of ss;
  strands = strands_more d.strands (stranded ss);
}

or_else_none : {A : Type 0} (o : Option A) → option_or o None ≡ o
or_else_none None = refl
or_else_none (Some x) = refl

or_else_one : {A : Type 0} (o : Option A) (x : A) (xs : List A) → option_or (option_or o (Some x)) (slice_get xs 0) ≡ option_or o (slice_get (x ∷ xs) 0)
or_else_one None x xs = refl
or_else_one (Some y) x xs = refl

or_false : (b : Bool) → (b || false) ≡ b
or_false true = refl
or_false false = refl

or_true : (b : Bool) → (b || true) ≡ true
or_true true = refl
or_true false = refl

told_nothing : (d : Draft) → told_more d [] ≡ d
told_nothing d = λ i. record {
  line = d.line;
  path = d.path;
  list = or_else_none d.list i;
  ignore_imports = or_false d.ignore_imports i;
  policy_live = or_else_none d.policy_live i;
  area = or_else_none d.area i;
  steps = or_else_none d.steps i;
  globals = append-nil d.globals i;
  binds = append-nil d.binds i;
  entries = first_none d.strands d.entries i;
  answers = first_none d.strands d.answers i;
  shows = append-nil d.shows i;
  strands = (append-nil _ ∙ same_last (grown [] []) grown_none d.strands) i;
}

-- an entry more of the strand that is told
entry_one : (e : EntryText) (d : Draft) (ss : List Numbered) → told_more (with_entry e d) ss ≡ told_more d (record { line = e.line; says = enters e.name e.args } ∷ ss)
entry_one e d ss = λ i. record (told_more d ss) {
  entries = (first_kept (entry_behind e) d.strands (to_first d.strands d.entries (e ∷ [])) (lines_by entry_of (stranded ss).first) ∙ first_more d.strands d.entries e (lines_by entry_of (stranded ss).first)) i;
  answers = first_kept (entry_behind e) d.strands d.answers (told_by answer_of (stranded ss).first) i;
  strands =
      twice (grown (lines_by entry_of (stranded ss).first) (told_by answer_of (stranded ss).first)) (entry_behind e)
      (grown (e ∷ lines_by entry_of (stranded ss).first) (told_by answer_of (stranded ss).first))
      (grown_entry e (lines_by entry_of (stranded ss).first) (told_by answer_of (stranded ss).first)) d.strands i ++ map strand_of (stranded ss).strands;
}

-- an answer more of it
answer_one : (line : ℕ) (a : AnswerLine) (d : Draft) (ss : List Numbered) → told_more (with_answer a d) ss ≡ told_more d (record { line = line; says = answers a } ∷ ss)
answer_one line a d ss = λ i. record (told_more d ss) {
  entries = first_kept (answer_behind a) d.strands d.entries (lines_by entry_of (stranded ss).first) i;
  answers = (first_kept (answer_behind a) d.strands (to_first d.strands d.answers (a ∷ [])) (told_by answer_of (stranded ss).first) ∙ first_more d.strands d.answers a (told_by answer_of (stranded ss).first)) i;
  strands =
      twice (grown (lines_by entry_of (stranded ss).first) (told_by answer_of (stranded ss).first)) (answer_behind a)
      (grown (lines_by entry_of (stranded ss).first) (a ∷ told_by answer_of (stranded ss).first))
      (grown_answer a (lines_by entry_of (stranded ss).first) (told_by answer_of (stranded ss).first)) d.strands i ++ map strand_of (stranded ss).strands;
}

-- a strand begins behind these, of which these statements are told
abbrev begun_strand : (line at len : ℕ) → StrandText
begun_strand line at len = record { line = line; area = record { at = at; len = len }; entries = []; answers = [] }

strands_one : (line at len : ℕ) (ss : List StrandText) (g : Stranded)
    → strands_more (ss ++ begun_strand line at len ∷ []) g
    ≡ on_last (grown [] []) ss ++ map strand_of (record { line = line; area = record { at = at; len = len }; told = g.first } ∷ g.strands)
strands_one line at len ss g =
    ap (λ (l : List StrandText). l ++ map strand_of g.strands) (at_end (grown (lines_by entry_of g.first) (told_by answer_of g.first)) ss (begun_strand line at len))
    ∙ append_assoc ss _ (map strand_of g.strands)
    ∙ ap (λ (l : List StrandText). l ++ map strand_of (record { line = line; area = record { at = at; len = len }; told = g.first } ∷ g.strands)) (sym (same_last (grown [] []) grown_none ss))

strand_one : (line at len : ℕ) (d : Draft) (ss : List Numbered) → told_more (more_told line (begins_strand at len) d) ss ≡ told_more d (record { line = line; says = begins_strand at len } ∷ ss)
strand_one line at len d ss = λ i. record (told_more d ss) {
  entries = (first_behind d.strands (begun_strand line at len) d.entries (lines_by entry_of (stranded ss).first) ∙ sym (first_none d.strands d.entries)) i;
  answers = (first_behind d.strands (begun_strand line at len) d.answers (told_by answer_of (stranded ss).first) ∙ sym (first_none d.strands d.answers)) i;
  strands = strands_one line at len d.strands (stranded ss) i;
}

told_one : (line : ℕ) (s : Statement) (d : Draft) (ss : List Numbered) → told_more (more_told line s d) ss ≡ told_more d (record { line = line; says = s } ∷ ss)
told_one line (begins_program path) d ss = refl
told_one line (lists_imports list) d ss = ap (λ o. record (told_more d ss) { list = o }) (or_else_one d.list list (told_by list_of_statement ss))
told_one line ignores_imports d ss = ap (λ b. record (told_more d ss) { ignore_imports = b }) (sym (or_true d.ignore_imports))
told_one line (saves live) d ss = ap (λ o. record (told_more d ss) { policy_live = o }) (or_else_one d.policy_live live (told_by live_of_statement ss))
told_one line (has_area at len) d ss = ap (λ o. record (told_more d ss) { area = o }) (or_else_one d.area _ (lines_by area_of ss))
told_one line (has_steps n) d ss = ap (λ o. record (told_more d ss) { steps = o }) (or_else_one d.steps n (told_by steps_of ss))
told_one line (sets_global name value) d ss = ap (λ xs. record (told_more d ss) { globals = xs }) (append_assoc d.globals _ (lines_by global_of ss))
told_one line (binds import device) d ss = ap (λ xs. record (told_more d ss) { binds = xs }) (append_assoc d.binds _ (lines_by bind_of ss))
told_one line (enters name args) d ss = entry_one (record { line = line; name = name; args = args }) d ss
told_one line (answers answer) d ss = answer_one line answer d ss
told_one line (shows at len) d ss = ap (λ xs. record (told_more d ss) { shows = xs }) (append_assoc d.shows _ (lines_by show_of ss))
told_one line (detaches device before) d ss = refl
told_one line (has_mailbox name) d ss = refl
told_one line (begins_strand at len) d ss = strand_one line at len d ss

folded_is : (ss : List Numbered) (d : Draft) → folded d ss ≡ told_more d ss
folded_is [] d = sym (told_nothing d)
folded_is (s ∷ ss) d = folded_is ss (more_told s.line s.says d) ∙ told_one s.line s.says d ss

-- ---- programs

behind : List ProgramText → Result (List ProgramText) ScriptFault → Result (List ProgramText) ScriptFault
behind programs (Ok more) = Ok (programs ++ more)
behind programs (Err f) = Err f

closed_err : (f : ScriptFault) (ds : List Draft) → all_closed (Err f) ds ≡ Err f
closed_err f [] = refl
closed_err f (d ∷ ds) = closed_err f ds

all_are : (gs : List Group) (programs : List ProgramText) → all_closed (Ok programs) (map of_group gs) ≡ behind programs (programs_of gs)
unfolding behind
all_are [] programs = ap (λ (ps : List ProgramText). Ok ps) (sym (append-nil programs))
all_are (g ∷ gs) programs =
    ap (λ (d : Draft). all_closed (one_more programs d d.area) (map of_group gs)) (folded_is g.told (begun g.line g.path))
    ∙ by_area (λ x. all_are gs (programs ++ x ∷ [])) (slice_get (lines_by area_of g.told) 0)
  where
    by_rest : (a : AreaText) (r : Result (List ProgramText) ScriptFault)
        → behind (programs ++ told_with (told_more (begun g.line g.path) g.told) a ∷ []) r ≡ behind programs (with_program g (Some a) r)
    by_rest a (Ok more) = ap (λ (ps : List ProgramText). Ok ps) (append_assoc programs (told_with (told_more (begun g.line g.path) g.told) a ∷ []) more)
    by_rest a (Err f) = refl

    by_area : ((x : ProgramText) → all_closed (Ok (programs ++ x ∷ [])) (map of_group gs) ≡ behind (programs ++ x ∷ []) (programs_of gs)) → (a : Option AreaText)
        → all_closed (one_more programs (told_more (begun g.line g.path) g.told) a) (map of_group gs) ≡ behind programs (with_program g a (programs_of gs))
    by_area rest None = closed_err (breaks g.line 7) (map of_group gs)
    by_area rest (Some a) = rest (told_with (told_more (begun g.line g.path) g.told) a) ∙ by_rest a (programs_of gs)

behind_none : (r : Result (List ProgramText) ScriptFault) → behind [] r ≡ r
unfolding behind
behind_none (Ok ps) = refl
behind_none (Err f) = refl

pub programs_are : (gs : List Group) → all_closed (Ok []) (map of_group gs) ≡ programs_of gs
programs_are gs = all_are gs [] ∙ behind_none (programs_of gs)
