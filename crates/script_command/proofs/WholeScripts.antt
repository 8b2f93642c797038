-- A script has one answer: it can be played, or is refused for one cause.
use Rattle.std.proofs.Common.{arith, ◌≡◌, ◌⊎◌, inl, inr, ℕ, suc, List, [], ◌∷◌, ◌++◌, length, map, Option, Some, Bool, Result, Ok, Err, refl, sym, ap, ◌∙◌, subst}
use Rattle.std.specs.Prelude.{All}
use Rattle.std.proofs.lemmas.List.Elements.{All-nil, All-cons, All-head, All-tail}
use Rattle.vault_port.specs.Files.{Files, bytes_of}
use Rattle.wa_types.specs.Syntax.{Module}
use Rattle.script_model.specs.Script.{ProgramText, Script, ScriptFault, breaks}
use Rattle.script_model.specs.Transcript.{Refusal}
use Rattle.script_setup.specs.Scripts.{IsNoScript, IsScript, refusal_for}
use Rattle.wasm_reader.proofs.Held.{own_bytes}
use Rattle.script_setup.specs.SetUpRules.{SetUp, set_up_rules}
use Rattle.world_hosting.specs.Worlds.{Part}
use Rattle.script_command.specs.declared.way.Way.{Way}
use Rattle.script_command.specs.declared.way.Way.TheVariants.{Host, Run}
use Rattle.script_command.specs.Playing.{AreStages, BreaksRule, Cause, HasScript, IsBadModule, IsModule, IsRead, IsReached, IsRefused, IsStage, Play, Reaches, asks_all, boxes_in, bad_line, bad_module, bad_script}
use Rattle.script_command.specs.Laws.{CausesAreOne, PlayedIsNotRefused}
use Rattle.script_command.proofs.ProgramModules.{not_bad, one_module, one_refused}
use Rattle.script_command.proofs.SameSetUp.{same_rules}

-- ---- the script

module _ (files : Files) (name : List ℕ) where
  abbrev here : List ℕ
  here = bytes_of files name

  is_here : (whole : Script) → HasScript (Some files) name whole → IsScript here whole
  is_here whole h = subst (λ (bs : List ℕ). IsScript bs whole) (own_bytes files name h.bytes h.holds) h.script

  pub one_script : (a b : Script) → HasScript (Some files) name a → HasScript (Some files) name b → a ≡ b
  one_script a b h k =
      let both : ◌≡◌ {A = Result Script ScriptFault} (Ok a) (Ok b) = sym (is_here a h).text ∙ (is_here b k).text in
      cc

  script_passes : (whole : Script) (r : Refusal) → IsScript here whole → IsNoScript here r → ⊥
  script_passes whole r is bad = elim bad [
    | inl long ↦ let few = is.few in absurd (omega (arith, long.0, few))
    | inr f ↦ let both : ◌≡◌ {A = Result Script ScriptFault} (Ok whole) (Err f.0) = sym is.text ∙ f.1.text in absurd cc
  ]

  one_no_script : (r q : Refusal) → IsNoScript here r → IsNoScript here q → r ≡ q
  one_no_script r q a b = elim a [
    | inl long ↦ elim b [
      | inl more ↦ long.1 ∙ sym more.1
      | inr g ↦ let few = g.1.few in absurd (omega (arith, long.0, few))
    ]
    | inr f ↦ elim b [
      | inl more ↦ let few = f.1.few in absurd (omega (arith, more.0, few))
      | inr g ↦
          let both : ◌≡◌ {A = Result Script ScriptFault} (Err f.0) (Err g.0) = sym f.1.text ∙ g.1.text in
          let same : f.0 ≡ g.0 = cc in
          f.2 ∙ ap refusal_for same ∙ sym g.2
    ]
  ]

-- A script that is there isn't refused as none.
pub no_script_passes : (files : Files) (name : List ℕ) (whole : Script) (r : Refusal) → HasScript (Some files) name whole → IsRefused Run (Some files) name (bad_script r) → ⊥
no_script_passes files name whole r has h =
    script_passes files name whole r (is_here files name whole has) (subst (λ (bs : List ℕ). IsNoScript bs r) (own_bytes files name h.0 h.1) h.2)

-- ---- files that are there

abbrev pub IsThere : Files → List ℕ → Type 0
IsThere files name = (bytes : List ℕ) × (files name ≡ Some bytes)

module_there : (way : Way) (files : Files) (t : ProgramText) (p : Module) (l : Option (List Bool)) → IsModule way (Some files) t p l → IsThere files t.path
module_there Host files t p l h = (h.0, h.1)
module_there Run files t p l h = (h.0, h.2)

bad_there : (way : Way) (files : Files) (t : ProgramText) (r : Refusal) → IsBadModule way (Some files) t r → IsThere files t.path
bad_there Host files t r h = (h.0, h.1)
bad_there Run files t r h = (h.0, h.1)

-- ---- programs

module _ (way : Way) (boxes : List (List ℕ)) (files : Files) where
  -- a program of this text is set up over its module
  record Stands (t : ProgramText) : Type 0 where
    source : Module
    listed : Option (List Bool)
    given : SetUp
    module_is : IsModule way (Some files) t source listed
    set_up : set_up_rules (asks_all way) boxes source t ≡ Ok given

  -- .. or isn't, for this cause, where it has this number
  record Fails (number : ℕ) (t : ProgramText) (c : Cause) : Type 0 where
    why : ((r : Refusal) × IsBadModule way (Some files) t r × (c ≡ bad_module number r))
        ⊎ ((line : ℕ) × (rule : ℕ) × BreaksRule way boxes (Some files) t line rule × (c ≡ bad_line line rule))

  all_stand : (parts : List Part) → All (IsStage way boxes (Some files)) parts → All Stands (map (λ (x : Part). x.text) parts)
  all_stand [] h = All-nil Stands
  all_stand (x ∷ xs) h =
      let s = All-head (IsStage way boxes (Some files)) x xs h in
      All-cons Stands x.text (map (λ (y : Part). y.text) xs) (record { source = x.source; listed = x.listed; given = x.given; module_is = s.module_is; set_up = s.set_up })
      (all_stand xs (All-tail (IsStage way boxes (Some files)) x xs h))

  texts_stand : (texts : List ProgramText) (parts : List Part) → AreStages way boxes (Some files) texts parts → All Stands texts
  texts_stand texts parts s = subst (All Stands) s.texts_are (all_stand parts s.each)

  never_fails : (number : ℕ) (t : ProgramText) (c : Cause) → Stands t → Fails number t c → ⊥
  never_fails number t c s f = elim f.why [
    | inl bad ↦ not_bad files t way s.source s.listed bad.0 s.module_is bad.1
    | inr line ↦
        let b = line.2 in
        let same = same_rules (asks_all way) boxes s.source b.0 t (one_module files t way s.source b.0 s.listed b.1 s.module_is b.2) in
        let both : ◌≡◌ {A = Result SetUp ScriptFault} (Ok s.given) (Err (breaks line.0 line.1)) = sym s.set_up ∙ same ∙ b.3 in
        absurd cc
  ]

  -- a line of a program breaks one rule
  one_line : (t : ProgramText) (line rule line' rule' : ℕ) → BreaksRule way boxes (Some files) t line rule → BreaksRule way boxes (Some files) t line' rule' → bad_line line rule ≡ bad_line line' rule'
  one_line t line rule line' rule' a b =
      let same = same_rules (asks_all way) boxes a.0 b.0 t (one_module files t way a.0 b.0 a.1 b.1 a.2 b.2) in
      let both : ◌≡◌ {A = Result SetUp ScriptFault} (Err (breaks line rule)) (Err (breaks line' rule')) = sym a.3 ∙ same ∙ b.3 in
      cc

  one_fail : (number : ℕ) (t : ProgramText) (a b : Cause) → Fails number t a → Fails number t b → a ≡ b
  one_fail number t a b f g = elim f.why [
    | inl bad ↦ elim g.why [
      | inl worse ↦ bad.2 ∙ ap (bad_module number) (one_refused files t way bad.0 worse.0 bad.1 worse.1) ∙ sym worse.2
      | inr line ↦ let k = line.2 in absurd (not_bad files t way k.0 k.1 bad.0 k.2 bad.1)
    ]
    | inr line ↦ elim g.why [
      | inl worse ↦ let k = line.2 in absurd (not_bad files t way k.0 k.1 worse.0 k.2 worse.1)
      | inr other ↦ line.3 ∙ one_line t line.0 line.1 other.0 other.1 line.2 other.2 ∙ sym other.3
    ]
  ]

  -- of two programs of a script, before which all are set up, one is set up, or they are one, with one number
  record Meet (n k : ℕ) (t u : ProgramText) : Type 0 where
    which : ((n ≡ k) × (t ≡ u)) ⊎ (Stands t ⊎ Stands u)

  further : (n k : ℕ) (t u : ProgramText) → Meet n k t u → Meet (suc n) (suc k) t u
  further n k t u m = elim m.which [
    | inl same ↦ record { which = inl (ap suc same.0, same.1) }
    | inr stands ↦ record { which = inr stands }
  ]

  meet : (b c d e : List ProgramText) (t u : ProgramText) → b ++ t ∷ d ≡ c ++ u ∷ e → All Stands b → All Stands c → Meet (length b) (length c) t u
  meet [] [] d e t u same h k =
      let head : t ≡ u = cc in
      record { which = inl (refl, head) }
  meet [] (x ∷ c) d e t u same h k =
      let head : t ≡ x = cc in
      record { which = inr (inl (subst Stands (sym head) (All-head Stands x c k))) }
  meet (x ∷ b) [] d e t u same h k =
      let head : x ≡ u = cc in
      record { which = inr (inr (subst Stands head (All-head Stands x b h))) }
  meet (x ∷ b) (y ∷ c) d e t u same h k =
      let tail : b ++ t ∷ d ≡ c ++ u ∷ e = cc in
      further (length b) (length c) t u (meet b c d e t u tail (All-tail Stands x b h) (All-tail Stands y c k))

  stands_among : (b d : List ProgramText) (t : ProgramText) → All Stands (b ++ t ∷ d) → Stands t
  stands_among [] d t h = All-head Stands t d h
  stands_among (x ∷ b) d t h = stands_among b d t (All-tail Stands x (b ++ t ∷ d) h)

  same_cause : (n k : ℕ) (t u : ProgramText) (a b : Cause) → Meet n k t u → Fails n t a → Fails k u b → a ≡ b
  same_cause n k t u a b m f g = elim m.which [
    | inl same ↦ one_fail k u a b (subst (λ (x : ProgramText). Fails k x a) same.1 (subst (λ (i : ℕ). Fails i t a) same.0 f)) g
    | inr stands ↦ elim stands [ inl s ↦ absurd (never_fails n t a s f) | inr s ↦ absurd (never_fails k u b s g) ]
  ]

  -- ---- files that are read

  stands_there : (t : ProgramText) → Stands t → IsThere files t.path
  stands_there t s = module_there way files t s.source s.listed s.module_is

  fails_there : (number : ℕ) (t : ProgramText) (c : Cause) → Fails number t c → IsThere files t.path
  fails_there number t c f = elim f.why [
    | inl bad ↦ bad_there way files t bad.0 bad.1
    | inr line ↦ let b = line.2 in module_there way files t b.0 b.1 b.2
  ]

  met_there : (i j number : ℕ) (t u : ProgramText) (c : Cause) → Meet i j t u → Fails number t c → IsThere files u.path
  met_there i j number t u c m f = elim m.which [
    | inl same ↦ subst (λ (x : ProgramText). IsThere files x.path) same.1 (fails_there number t c f)
    | inr stands ↦ elim stands [ inl s ↦ absurd (never_fails number t c s f) | inr s ↦ stands_there u s ]
  ]

-- ---- why a script is refused

module _ (way : Way) (files : Files) where
  record BadScript (name : List ℕ) (c : Cause) : Type 0 where
    refusal : Refusal
    no_script : IsNoScript (bytes_of files name) refusal
    cause_is : c ≡ bad_script refusal

  -- a program of this script fails, before which all are set up
  record BadPart (whole : Script) (c : Cause) : Type 0 where
    number : ℕ
    text : ProgramText
    reached : IsReached way (boxes_in whole) (Some files) whole.programs number text
    fails : Fails way (boxes_in whole) files number text c

  record BadProgram (name : List ℕ) (c : Cause) : Type 0 where
    whole : Script
    of_script : HasScript (Some files) name whole
    part : BadPart whole c

  found : (name : List ℕ) (c : Cause) → IsRefused way (Some files) name c → BadScript name c ⊎ BadProgram name c
  found name (bad_script r) h = inl (record { refusal = r; no_script = subst (λ (bs : List ℕ). IsNoScript bs r) (own_bytes files name h.0 h.1) h.2; cause_is = refl })
  found name (bad_module number r) h =
      inr (record { whole = h.1.whole; of_script = h.1.of_script; part = record { number = number; text = h.0; reached = h.1.reached; fails = record { why = inl (r, h.2, refl) } } })
  found name (bad_line line rule) h =
      inr (record { whole = h.2.whole; of_script = h.2.of_script; part = record { number = h.0; text = h.1; reached = h.2.reached; fails = record { why = inr (line, rule, h.3, refl) } } })

  module _ (whole : Script) where
    abbrev IsSet : ProgramText → Type 0
    IsSet t = Stands way (boxes_in whole) files t

    before_stand : (number : ℕ) (t : ProgramText) (r : IsReached way (boxes_in whole) (Some files) whole.programs number t) → All IsSet r.before
    before_stand number t r = texts_stand way (boxes_in whole) files r.before r.parts r.stages

    numbered : (n k i j : ℕ) (t u : ProgramText) → n ≡ i → k ≡ j → Meet way (boxes_in whole) files i j t u → Meet way (boxes_in whole) files n k t u
    numbered n k i j t u e f m =
        subst (λ (x : ℕ). Meet way (boxes_in whole) files x k t u) (sym e) (subst (λ (x : ℕ). Meet way (boxes_in whole) files i x t u) (sym f) m)

    -- one program of a script fails, and for one cause
    one_part : (a b : Cause) → BadPart whole a → BadPart whole b → a ≡ b
    one_part a b x y =
        let same = sym x.reached.parted ∙ y.reached.parted in
        same_cause way (boxes_in whole) files x.number y.number x.text y.text a b
        (numbered x.number y.number (length x.reached.before) (length y.reached.before) x.text y.text x.reached.number_is y.reached.number_is
        (meet way (boxes_in whole) files x.reached.before y.reached.before x.reached.behind y.reached.behind x.text y.text same (before_stand x.number x.text x.reached)
        (before_stand y.number y.text y.reached)))
        x.fails y.fails

    -- none does where all are set up
    never_bad : (parts : List Part) → AreStages way (boxes_in whole) (Some files) whole.programs parts → (a : Cause) → BadPart whole a → ⊥
    never_bad parts stages a y =
        let all = texts_stand way (boxes_in whole) files whole.programs parts stages in
        never_fails way (boxes_in whole) files y.number y.text a
        (stands_among way (boxes_in whole) files y.reached.before y.reached.behind y.text (subst (All IsSet) y.reached.parted all)) y.fails

    -- the module of a program that is reached is there
    reached_there : (c : Cause) → BadPart whole c → (k : ℕ) (u : ProgramText) → IsReached way (boxes_in whole) (Some files) whole.programs k u → IsThere files u.path
    reached_there c y k u r =
        let same = sym y.reached.parted ∙ r.parted in
        met_there way (boxes_in whole) files (length y.reached.before) (length r.before) y.number y.text u c
        (meet way (boxes_in whole) files y.reached.before r.before y.reached.behind r.behind y.text u same (before_stand y.number y.text y.reached) (before_stand k u r)) y.fails

  both_found : (name : List ℕ) (a b : Cause) → BadScript name a ⊎ BadProgram name a → BadScript name b ⊎ BadProgram name b → a ≡ b
  both_found name a b f g = elim f [
    | inl x ↦ elim g [
      | inl y ↦ x.cause_is ∙ ap (λ (r : Refusal). bad_script r) (one_no_script files name x.refusal y.refusal x.no_script y.no_script) ∙ sym y.cause_is
      | inr y ↦ absurd (script_passes files name y.whole x.refusal (is_here files name y.whole y.of_script) x.no_script)
    ]
    | inr x ↦ elim g [
      | inl y ↦ absurd (script_passes files name x.whole y.refusal (is_here files name x.whole x.of_script) y.no_script)
      | inr y ↦
          let one = one_script files name y.whole x.whole y.of_script x.of_script in
          one_part x.whole a b x.part (subst (λ (w : Script). BadPart w b) one y.part)
    ]
  ]

  played_found : (name : List ℕ) (a : Cause) → Play way (Some files) name → BadScript name a ⊎ BadProgram name a → ⊥
  played_found name a play f = elim f [
    | inl x ↦ script_passes files name play.whole x.refusal (is_here files name play.whole play.of_script) x.no_script
    | inr y ↦
        let one = one_script files name y.whole play.whole y.of_script play.of_script in
        never_bad play.whole play.parts play.stages a (subst (λ (w : Script). BadPart w a) one y.part)
  ]

  -- ---- files that are read

  script_there : (name : List ℕ) (c : Cause) → IsRefused way (Some files) name c → IsThere files name
  script_there name (bad_script r) h = (h.0, h.1)
  script_there name (bad_module number r) h = (h.1.of_script.bytes, h.1.of_script.holds)
  script_there name (bad_line line rule) h = (h.2.of_script.bytes, h.2.of_script.holds)

  program_there : (name : List ℕ) (c : Cause) → BadScript name c ⊎ BadProgram name c → (k : ℕ) (u : ProgramText) → Reaches way (Some files) name k u → IsThere files u.path
  program_there name c f k u r = elim f [
    | inl x ↦ absurd (script_passes files name r.whole x.refusal (is_here files name r.whole r.of_script) x.no_script)
    | inr y ↦
        let one = one_script files name y.whole r.whole y.of_script r.of_script in
        reached_there r.whole c (subst (λ (w : Script). BadPart w c) one y.part) k u r.reached
  ]

  -- What is read of a script that is refused is there,
  pub refused_reads : (name : List ℕ) (c : Cause) → IsRefused way (Some files) name c → (read : List ℕ) → IsRead way (Some files) name read → IsThere files read
  refused_reads name c h read is = elim is [
    | inl same ↦ subst (IsThere files) (sym same) (script_there name c h)
    | inr r ↦ subst (IsThere files) (sym r.3) (program_there name c (found name c h) r.0 r.1 r.2)
  ]

  -- and of one that can be played.
  pub played_reads : (name : List ℕ) → Play way (Some files) name → (read : List ℕ) → IsRead way (Some files) name read → IsThere files read
  played_reads name play read is = elim is [
    | inl same ↦ subst (IsThere files) (sym same) (play.of_script.bytes, play.of_script.holds)
    | inr r ↦
        let one = one_script files name play.whole r.2.whole play.of_script r.2.of_script in
        let all : All (IsSet play.whole) r.2.whole.programs =
        subst (λ (s : Script). All (IsSet play.whole) s.programs) one (texts_stand way (boxes_in play.whole) files play.whole.programs play.parts play.stages) in
        subst (IsThere files) (sym r.3)
        (stands_there way (boxes_in play.whole) files r.1
        (stands_among way (boxes_in play.whole) files r.2.reached.before r.2.reached.behind r.1 (subst (All (IsSet play.whole)) r.2.reached.parted all)))
  ]

pub played_not_refused : PlayedIsNotRefused
played_not_refused way files name cause play h = played_found way files name cause play (found way files name cause h)

pub one_cause : CausesAreOne
one_cause way files name c d h k = both_found way files name c d (found way files name c h) (found way files name d k)
