-- Programs that are opened one after another, and why one isn't.
use Rattle.std.proofs.Common.{◌≡◌, ◌+◌, ◌≤◌, inl, inr, ℕ, List, [], ◌∷◌, ◌++◌, length, map, Option, Result, Ok, Err, refl, sym, ap, ◌∙◌, subst, arith, append_assoc}
use Rattle.std.specs.Prelude.{All, Bool, OnOk}
use Rattle.std.specs.List.{AllZip}
use Rattle.std.specs.Result.{IfErr}
use Rattle.std.proofs.lemmas.List.{length-map, length-append, map-append}
use Rattle.std.proofs.lemmas.List.Elements.{All-nil, All-cons, All-append, All-head, All-tail}
use Rattle.vault_port.specs.Files.{Files, CannotRead}
use Rattle.vault_port.proofs.Fetching.{read_once}
use Rattle.wa_types.specs.View.{module_of}
use Rattle.wa_types.specs.declared.syntax.Module.{Module as ModuleValue}
use Rattle.script_model.specs.Script.{ProgramText, ScriptFault, breaks}
use Rattle.transcript.specs.Printing.{refusal_of}
use Rattle.transcript.specs.declared.refusals.Refusal.{Refusal as RefusalValue}
use Rattle.transcript.specs.declared.refusals.RefusalKind.{RefusalKind}
use Rattle.script_reader.specs.declared.script.ProgramText.{ProgramText as ProgramValue}
use Rattle.script_reader.specs.Views.{program_of}
use Rattle.wa_types.specs.Syntax.{Module}
use Rattle.host_setup.specs.Views.{entry_of as named_entry_of}
use Rattle.script_setup.specs.declared.setting.SetUp.{SetUp as SetUpValue}
use Rattle.script_setup.specs.SetUpRules.{SetUp, entries_in, named_entry, set_up_rules}
use Rattle.script_setup.specs.Views.{set_up_of}
use Rattle.world_hosting.specs.Worlds.{FitsPlan, IsListing, Part}
use Rattle.world_hosting.specs.Views.{listing}
use Rattle.script_setup.proofs.GlobalTypes.{given_by_rules}
use Rattle.script_command.specs.declared.modules.Loaded.{Loaded}
use Rattle.script_command.specs.declared.way.Way.{Way}
use Rattle.script_command.specs.declared.programs.Planned.{Planned}
use Rattle.script_command.specs.declared.programs.Programs.{Programs}
use Rattle.script_command.specs.declared.stop.Stop.{Stop}
use Rattle.script_command.specs.declared.stop.Stop.TheVariants.{Memory, Refused, Sink}
use Rattle.script_command.specs.Playing.{IsBadModule, IsModule, IsReached, IsStage, BreaksRule, asks_all, bad_line, bad_module}
use Rattle.script_command.specs.SnapshotViews.{refused_module}
use Rattle.script_command.specs.Views.{AreOpened, BlamesLine, BlamesNext, CanOpen, IsUnread, OpensNext, StopsFor, SuitsStrands, part_of, parts_of}

-- ---- lists in step

zip_more : {A B : Type 0} (R : A → B → Type 0) (xs : List A) (ys : List B) (x : A) (y : B) → AllZip R xs ys → R x y → AllZip R (xs ++ x ∷ []) (ys ++ y ∷ [])
zip_more R [] [] x y h r = (r, tt)
zip_more R [] (b ∷ ys) x y h r = absurd h
zip_more R (a ∷ xs) [] x y h r = absurd h
zip_more R (a ∷ xs) (b ∷ ys) x y h r = (h.0, zip_more R xs ys x y h.1 r)

parts_more : (vs : List ModuleValue) (ps : List Planned) (v : ModuleValue) (p : Planned) → AllZip CanOpen vs ps → parts_of (vs ++ v ∷ []) (ps ++ p ∷ []) ≡ parts_of vs ps ++ part_of v p ∷ []
parts_more [] [] v p h = refl
parts_more [] (q ∷ ps) v p h = absurd h
parts_more (w ∷ vs) [] v p h = absurd h
parts_more (w ∷ vs) (q ∷ ps) v p h = ap (λ (xs : List Part). part_of w q ∷ xs) (parts_more vs ps v p h.1)

abbrev pub text_in : Planned → ProgramText
text_in p = program_of p.text

pub texts_of_parts : (vs : List ModuleValue) (ps : List Planned) → AllZip CanOpen vs ps → map (λ (x : Part). x.text) (parts_of vs ps) ≡ map text_in ps
texts_of_parts [] [] h = refl
texts_of_parts [] (q ∷ ps) h = absurd h
texts_of_parts (w ∷ vs) [] h = absurd h
texts_of_parts (w ∷ vs) (q ∷ ps) h = ap (λ (ts : List ProgramText). program_of q.text ∷ ts) (texts_of_parts vs ps h.1)

pub none_left : {A : Type 0} (xs : List A) → length xs ≡ 0 → xs ≡ []
none_left [] e = refl
none_left (x ∷ xs) e = absurd (omega (arith, e))

-- ---- programs so far

-- These are set up over their modules, and the texts to come stand behind theirs.
pub record SoFar (way : Way) (boxes : List (List ℕ)) (files : Option Files) (ps : Programs) (rest texts : List ProgramText) : Type 0 where
  pub texts_are : map text_in ps.planned.items ++ rest ≡ texts
  pub stages : All (IsStage way boxes files) (parts_of ps.modules.items ps.planned.items)
  pub each : AllZip CanOpen ps.modules.items ps.planned.items

module _ (way : Way) (boxes : List (List ℕ)) (files : Option Files) where
  pub none_so_far : (texts : List ProgramText) (ps : Programs) → ps.modules.items ≡ [] → ps.planned.items ≡ [] → SoFar way boxes files ps texts texts
  none_so_far texts ps m p = record {
    texts_are = ap (λ (xs : List Planned). map text_in xs ++ texts) p;
    stages = subst (λ (xs : List ModuleValue). All (IsStage way boxes files) (parts_of xs ps.planned.items)) (sym m) (All-nil (IsStage way boxes files));
    each = subst (λ (xs : List ModuleValue). AllZip CanOpen xs ps.planned.items) (sym m) (subst (λ (xs : List Planned). AllZip CanOpen [] xs) (sym p) tt);
  }

  pub one_more : (old new : Programs) (t : ProgramText) (rest texts : List ProgramText) → SoFar way boxes files old (t ∷ rest) texts → OpensNext way boxes files t old new → SoFar way boxes files new rest texts
  one_more old new t rest texts s o =
      let ms = old.modules.items in
      let ps = old.planned.items in
      record {
        texts_are = ap (λ (xs : List Planned). map text_in xs ++ rest) o.planned_are ∙ ap (λ (ts : List ProgramText). ts ++ rest) (map-append text_in ps (o.planned ∷ []))
            ∙ append_assoc (map text_in ps) (text_in o.planned ∷ []) rest ∙ ap (λ (u : ProgramText). map text_in ps ++ u ∷ rest) o.text_is ∙ s.texts_are;
        stages = subst (λ (xs : List ModuleValue). All (IsStage way boxes files) (parts_of xs new.planned.items)) (sym o.modules_are)
            (subst (λ (xs : List Planned). All (IsStage way boxes files) (parts_of (ms ++ o.valid ∷ []) xs)) (sym o.planned_are)
            (subst (All (IsStage way boxes files)) (sym (parts_more ms ps o.valid o.planned s.each))
            (All-append (IsStage way boxes files) (parts_of ms ps) (part_of o.valid o.planned ∷ []) s.stages
            (All-cons (IsStage way boxes files) (part_of o.valid o.planned) [] o.stage (All-nil (IsStage way boxes files))))));
        each = subst (λ (xs : List ModuleValue). AllZip CanOpen xs new.planned.items) (sym o.modules_are)
            (subst (λ (xs : List Planned). AllZip CanOpen (ms ++ o.valid ∷ []) xs) (sym o.planned_are) (zip_more CanOpen ms ps o.valid o.planned s.each o.can));
      }

  -- the texts to come, as they are held
  pub turned : (ps : Programs) (rest behind : List ProgramValue) (t : ProgramValue) (texts : List ProgramText) → rest ≡ t ∷ behind → SoFar way boxes files ps (map program_of rest) texts
      → SoFar way boxes files ps (program_of t ∷ map program_of behind) texts
  turned ps rest behind t texts e s = subst (λ (ts : List ProgramValue). SoFar way boxes files ps (map program_of ts) texts) e s

  pub ended : (ps : Programs) (rest : List ProgramValue) (texts : List ProgramText) → rest ≡ [] → SoFar way boxes files ps (map program_of rest) texts → SoFar way boxes files ps [] texts
  ended ps rest texts e s = subst (λ (ts : List ProgramValue). SoFar way boxes files ps (map program_of ts) texts) e s

  -- what all texts have, the next has
  pub next_has : (P : ProgramText → Type 0) (ps : Programs) (t : ProgramText) (rest texts : List ProgramText) → SoFar way boxes files ps (t ∷ rest) texts → All P texts → P t
  next_has P ps t rest texts s all = one_of (map text_in ps.planned.items) (subst (All P) (sym s.texts_are) all) where
    one_of : (before : List ProgramText) → All P (before ++ t ∷ rest) → P t
    one_of [] h = All-head P t rest h
    one_of (u ∷ us) h = one_of us (All-tail P u (us ++ t ∷ rest) h)

  pub all_opened : (ps : Programs) (texts : List ProgramText) → SoFar way boxes files ps [] texts → AreOpened way boxes files texts ps
  all_opened ps texts s =
      record { stages = record { texts_are = texts_of_parts ps.modules.items ps.planned.items s.each ∙ none_behind (map text_in ps.planned.items) ∙ s.texts_are; each = s.stages }; each = s.each }
    where
      none_behind : (ts : List ProgramText) → ts ≡ ts ++ []
      none_behind [] = refl
      none_behind (t ∷ ts) = ap (λ (us : List ProgramText). t ∷ us) (none_behind ts)

  -- the next is reached
  pub reached : (ps : Programs) (t : ProgramText) (rest texts : List ProgramText) → SoFar way boxes files ps (t ∷ rest) texts → IsReached way boxes files texts (length ps.planned.items) t
  reached ps t rest texts s = record {
    before = map text_in ps.planned.items;
    behind = rest;
    parted = sym s.texts_are;
    number_is = sym (length-map ps.planned.items text_in);
    parts = parts_of ps.modules.items ps.planned.items;
    stages = record { texts_are = texts_of_parts ps.modules.items ps.planned.items s.each; each = s.stages };
  }

  -- so many are there at most
  pub few_so_far : (ps : Programs) (t : ProgramText) (rest texts : List ProgramText) → SoFar way boxes files ps (t ∷ rest) texts → length texts ≤ 16 → length ps.planned.items + 1 ≤ 16
  few_so_far ps t rest texts s few =
      let n = length-map ps.planned.items text_in in
      let l = ap (λ (ts : List ProgramText). length ts) s.texts_are in
      let a = length-append (map text_in ps.planned.items) (t ∷ rest) in
      omega (arith, n, l, a, few)

-- ---- why one stops

pub stays_any : {T E P : Type 0} (r : Result T E) → P → OnOk r P
stays_any (Ok x) p = p
stays_any (Err e) p = tt

module _ (files : Option Files) (f f' : ℕ) where
  -- what is refused for one thing is for another
  pub stops_so : (R S : RefusalValue → Type 0) (I J : List ℕ → Type 0) (stop : Stop) → ((r : RefusalValue) → R r → S r) → ((read : List ℕ) → I read → J read) → StopsFor R I files f f' stop
      → StopsFor S J files f f' stop
  stops_so R S I J Memory by reads h = h
  stops_so R S I J Sink by reads h = h
  stops_so R S I J (Refused r) by reads h = elim h [ inl own ↦ inl (by r own.0, own.1) | inr read ↦ inr (read.0, reads read.0 read.1, read.2, read.3) ]

  -- a file that couldn't be read
  pub stops_unread : (R : RefusalValue → Type 0) (I : List ℕ → Type 0) (name : List ℕ) (stop : Stop) → I name → CannotRead files name f f' → IsUnread name stop → StopsFor R I files f f' stop
  stops_unread R I name Memory is why unread = read_once files name f f' why
  stops_unread R I name Sink is why unread = absurd unread
  stops_unread R I name (Refused r) is why unread = inr (name, is, why, unread)

  -- a line that breaks a rule
  pub line_stops : (way : Way) (boxes : List (List ℕ)) (number : ℕ) (t : ProgramText) (told : Result SetUp ScriptFault) (stop : Stop) → f' ≡ f → ((line rule : ℕ) → told ≡ Err (breaks line rule) → BreaksRule way boxes files t line rule)
      → BlamesLine told stop → BlamesNext way boxes files f f' number t stop
  line_stops way boxes number t told Memory same why b = inl same
  line_stops way boxes number t told Sink same why b = absurd b
  line_stops way boxes number t told (Refused r) same why b = inl ((bad_line b.0 b.1, why b.0 b.1 b.2, b.3), same)

  -- a module that is refused
  pub module_stops : (way : Way) (boxes : List (List ℕ)) (number found : ℕ) (t : ProgramText) (kind : RefusalKind) (stop : Stop) → found ≡ number → f' ≡ f → IsBadModule way files t (refusal_of kind)
      → stop ≡ refused_module found kind → BlamesNext way boxes files f f' number t stop
  module_stops way boxes number found t kind stop e same bad is =
      subst (BlamesNext way boxes files f f' number t) (sym is) (inl ((bad_module found (refusal_of kind), (e, bad), (refl, refl)), same))

-- over the files and the counts at first
pub next_blamed : (way : Way) (boxes : List (List ℕ)) (files mid : Option Files) (f g h number : ℕ) (t : ProgramText) (stop : Stop) → mid ≡ files → g ≡ f
    → BlamesNext way boxes mid g h number t stop → BlamesNext way boxes files f h number t stop
next_blamed way boxes files mid f g h number t stop same still b =
    subst (λ (all : Option Files). BlamesNext way boxes all f h number t stop) same (subst (λ (k : ℕ). BlamesNext way boxes mid k h number t stop) still b)

-- ---- set-up rules

pub rules_asked : (asked all : Bool) (boxes : List (List ℕ)) (p : Module) (t : ProgramText) (told : Result SetUp ScriptFault) → asked ≡ all → set_up_rules asked boxes p t ≡ told → set_up_rules all boxes p t ≡ told
rules_asked asked all boxes p t told e h = sym (ap (λ (b : Bool). set_up_rules b boxes p t) e) ∙ h

on_both : {A B C : Type 0} (r : Result (Unit {0}) Stop) → OnOk r A → OnOk r B → (A → B → C) → OnOk r C
on_both (Ok x) a b f = f a b
on_both (Err e) a b f = tt

-- what is made by the rules suits all strands
suits_strands : (runs : Bool) (boxes : List (List ℕ)) (p : Module) (t : ProgramText) (made : SetUpValue) → set_up_rules runs boxes p t ≡ Ok (set_up_of made)
    → map named_entry_of made.entries.items ≡ map named_entry (entries_in t) → SuitsStrands p t made
suits_strands runs boxes p t made e entries =
    let given = given_by_rules runs boxes p t (set_up_of made) e in
    record { entries = entries; funcs = given.funcs; apart = given.apart; globals = given.globals }

pub plans_next : (way : Way) (boxes : List (List ℕ)) (files : Option Files) (l : Loaded) (text : ProgramValue) (given : SetUpValue) (asked : Bool) → asked ≡ asks_all way → FitsPlan (program_of text)
    → IsListing (module_of l.valid) (listing l.listed) → IsModule way files (program_of text) (module_of l.valid) (listing l.listed)
    → set_up_rules asked boxes (module_of l.valid) (program_of text) ≡ Ok (set_up_of given) → map named_entry_of given.entries.items ≡ map named_entry (entries_in (program_of text))
    → (old new : Programs) (r : Result (Unit {0}) Stop) → OnOk r (new.modules.items ≡ old.modules.items ++ l.valid ∷ [])
    → OnOk r (new.planned.items ≡ old.planned.items ++ record { listed = l.listed; text = text; given = given } ∷ []) → OnOk r (OpensNext way boxes files (program_of text) old new)
plans_next way boxes files l text given asked asks fits told is made entries old new r ms ps =
    on_both r ms ps
    (λ m p. record {
      valid = l.valid;
      planned = record { listed = l.listed; text = text; given = given };
      modules_are = m;
      planned_are = p;
      text_is = refl;
      stage = record { module_is = is; set_up = rules_asked asked (asks_all way) boxes (module_of l.valid) (program_of text) (Ok (set_up_of given)) asks made };
      can = record { fits = fits; listing = told; suits = suits_strands asked boxes (module_of l.valid) (program_of text) given made entries };
    })

pub memory_blamed : (told : Result SetUp ScriptFault) (r : Result (Unit {0}) Stop) → IfErr r (λ stop. stop ≡ Memory) → IfErr r (λ stop. BlamesLine told stop)
memory_blamed told (Ok x) h = tt
memory_blamed told (Err stop) h = subst (BlamesLine told) (sym h) tt
