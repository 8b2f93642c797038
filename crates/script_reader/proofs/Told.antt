-- Reading line by line comes to the script that the statements of all lines tell.
use Rattle.std.proofs.Common.{arith, ◌≡◌, ℕ, suc, ◌+◌, ◌<◌, ◌≤◌, not, ◌&&◌, ◌||◌, nat_eq, nat_le, Bool, true, false, cond, Option, Some, None, Result, Ok, Err, List, [], ◌∷◌, ◌++◌}
use Rattle.std.proofs.Common.{map, length, sym, ap, ◌∙◌, subst, refl, append_assoc, append-nil, add-one, if◌then◌else◌, lit≤}
use Rattle.std.specs.Option.{is_some, option_or}
use Rattle.std.specs.List.{filter, list_any, cons_option}
use Rattle.std.specs.Str.Lines.{lines}
use Rattle.std.specs.Str.{bytes_eq}
use Rattle.std.proofs.lemmas.Bool.{leb-true, leb-false, eq-eqb, ne_eqb}
use Rattle.std.proofs.lemmas.List.{length_push}
use Rattle.std.proofs.lemmas.List.Folds.{list_any-append}
use Rattle.script_model.specs.Script.{DetachText, MailboxText, Script, ScriptFault, breaks, too_many}
use Rattle.script_model.specs.ScriptLines.{Statement, begins_program, lists_imports, ignores_imports, saves, has_area, has_steps, sets_global, binds, enters, answers, shows, detaches, has_mailbox, begins_strand}
use Rattle.script_model.specs.ScriptLines.{line_says}
use Rattle.script_model.specs.ScriptText.{is_program, is_detach, is_mailbox, is_strand, declares, is_doubled, mailbox_of, lines_by, tells_imports, tells_policy, tells_area, tells_steps, in_program, is_repeated, has_bad_list, is_early, is_one_too_many, is_strand_too_many, fault_of}
use Rattle.script_model.specs.ScriptText.{Numbered, onto, unless_fault, with_line as with_told, statements}
use Rattle.script_model.specs.ScriptText.{Grouped, grouped_with, grouped, told_by, detach_of, with_programs, script_of, script_text, most_programs, most_strands}
use Rattle.script_reader.specs.Drafts.{Draft, begun, more_told, repeats, is_overfull, fault_in, closed_last, Reading, nothing_read, or_fault, with_program, is_declared, with_mailboxes, on_program, with_current}
use Rattle.script_reader.specs.Drafts.{with_statement, with_line, and_then, read_on}
use Rattle.script_reader.proofs.Closed.{folded, of_group, all_closed, programs_are}
use Rattle.script_reader.proofs.StrandLists.{length_kept}

-- ---- what is left to be read

abbrev spread : Option Draft → Grouped → List Draft
spread None g = map of_group g.groups
spread (Some d) g = folded d g.first ∷ map of_group g.groups

-- the script, where these statements are left, or a fault
abbrev ending : Reading → Result (List Numbered) ScriptFault → Result Script ScriptFault
ending r (Err f) = Err f
ending r (Ok ss) = with_programs (r.detached ++ told_by detach_of ss) (r.mailboxes ++ lines_by mailbox_of ss) (all_closed r.programs (spread r.current (grouped ss)))

-- ---- what is known of the statements before

record Tells (told : List Statement) (d : Draft) : Type 0 where
  imports : list_any tells_imports told ≡ (is_some d.list || d.ignore_imports)
  policy : list_any tells_policy told ≡ is_some d.policy_live
  area : list_any tells_area told ≡ is_some d.area
  steps : list_any tells_steps told ≡ is_some d.steps
  strands : length (filter is_strand told) ≡ length d.strands

abbrev TellsCurrent : List Statement → Option Draft → Type 0
TellsCurrent earlier None = Unit {0}
TellsCurrent earlier (Some d) = Tells (in_program earlier) d

record Reflects (earlier : List Statement) (r : Reading) : Type 0 where
  started : list_any is_program earlier ≡ is_some r.current
  count : length (filter is_program earlier) ≡ r.count
  few : r.count ≤ 16
  told : TellsCurrent earlier r.current
  declared : (name : List ℕ) → list_any (declares name) earlier ≡ is_declared name r.mailboxes

-- ---- statements of a program

record IsOther (s : Statement) : Type 0 where
  program : is_program s ≡ false
  detach : is_detach s ≡ false
  mailbox : is_mailbox s ≡ false
  stated : (line : ℕ) (r : Reading) → with_statement line s r ≡ with_current r (on_program line s r.current)
  into_first : (line : ℕ) (g : Grouped) → grouped_with line s g ≡ record { first = record { line = line; says = s } ∷ g.first; groups = g.groups }
  none : detach_of s ≡ None
  no_box : (line : ℕ) → mailbox_of line s ≡ None
  declares_none : (name : List ℕ) → declares name s ≡ false
  once : (earlier : List Statement) → is_doubled s earlier ≡ false
  overfull : (told : List Statement) (d : Draft) → Tells told d → is_strand_too_many s told ≡ is_overfull s d
  repeated : (told : List Statement) (d : Draft) → Tells told d → is_repeated s told ≡ repeats s d
  tells : (line : ℕ) (told : List Statement) (d : Draft) → Tells told d → Tells (s ∷ told) (more_told line s d)

some_or_else : {A : Type 0} (o : Option A) (x : A) → true ≡ is_some (option_or o (Some x))
some_or_else None x = refl
some_or_else (Some y) x = refl

list_or : {A : Type 0} (o : Option A) (x : A) (b : Bool) → true ≡ (is_some (option_or o (Some x)) || b)
list_or None x b = refl
list_or (Some y) x b = refl

or_true : (b : Bool) → true ≡ (b || true)
or_true true = refl
or_true false = refl

lists_is : (list : List ℕ) → IsOther (lists_imports list)
lists_is list = record {
  program = refl;
  detach = refl;
  mailbox = refl;
  stated = λ _ _. refl;
  into_first = λ _ _. refl;
  none = refl;
  no_box = λ _. refl;
  declares_none = λ _. refl;
  once = λ _. refl;
  overfull = λ _ _ _. refl;
  repeated = λ t d h. h.imports;
  tells = λ l t d h. record { imports = list_or d.list list d.ignore_imports; policy = h.policy; area = h.area; steps = h.steps; strands = h.strands };
}

ignores_is : IsOther ignores_imports
ignores_is = record {
  program = refl;
  detach = refl;
  mailbox = refl;
  stated = λ _ _. refl;
  into_first = λ _ _. refl;
  none = refl;
  no_box = λ _. refl;
  declares_none = λ _. refl;
  once = λ _. refl;
  overfull = λ _ _ _. refl;
  repeated = λ t d h. h.imports;
  tells = λ l t d h. record { imports = or_true (is_some d.list); policy = h.policy; area = h.area; steps = h.steps; strands = h.strands };
}

saves_is : (live : Bool) → IsOther (saves live)
saves_is live = record {
  program = refl;
  detach = refl;
  mailbox = refl;
  stated = λ _ _. refl;
  into_first = λ _ _. refl;
  none = refl;
  no_box = λ _. refl;
  declares_none = λ _. refl;
  once = λ _. refl;
  overfull = λ _ _ _. refl;
  repeated = λ t d h. h.policy;
  tells = λ l t d h. record { imports = h.imports; policy = some_or_else d.policy_live live; area = h.area; steps = h.steps; strands = h.strands };
}

area_is : (at len : ℕ) → IsOther (has_area at len)
area_is at len = record {
  program = refl;
  detach = refl;
  mailbox = refl;
  stated = λ _ _. refl;
  into_first = λ _ _. refl;
  none = refl;
  no_box = λ _. refl;
  declares_none = λ _. refl;
  once = λ _. refl;
  overfull = λ _ _ _. refl;
  repeated = λ t d h. h.area;
  tells = λ l t d h. record { imports = h.imports; policy = h.policy; area = some_or_else d.area _; steps = h.steps; strands = h.strands };
}

steps_is : (n : ℕ) → IsOther (has_steps n)
steps_is n = record {
  program = refl;
  detach = refl;
  mailbox = refl;
  stated = λ _ _. refl;
  into_first = λ _ _. refl;
  none = refl;
  no_box = λ _. refl;
  declares_none = λ _. refl;
  once = λ _. refl;
  overfull = λ _ _ _. refl;
  repeated = λ t d h. h.steps;
  tells = λ l t d h. record { imports = h.imports; policy = h.policy; area = h.area; steps = some_or_else d.steps n; strands = h.strands };
}

global_is : (name : List ℕ) (value : _) → IsOther (sets_global name value)
global_is name value = record {
  program = refl;
  detach = refl;
  mailbox = refl;
  stated = λ _ _. refl;
  into_first = λ _ _. refl;
  none = refl;
  no_box = λ _. refl;
  declares_none = λ _. refl;
  once = λ _. refl;
  overfull = λ _ _ _. refl;
  repeated = λ _ _ _. refl;
  tells = λ l t d h. record { imports = h.imports; policy = h.policy; area = h.area; steps = h.steps; strands = h.strands };
}

binds_is : (import device : List ℕ) → IsOther (binds import device)
binds_is import device = record {
  program = refl;
  detach = refl;
  mailbox = refl;
  stated = λ _ _. refl;
  into_first = λ _ _. refl;
  none = refl;
  no_box = λ _. refl;
  declares_none = λ _. refl;
  once = λ _. refl;
  overfull = λ _ _ _. refl;
  repeated = λ _ _ _. refl;
  tells = λ l t d h. record { imports = h.imports; policy = h.policy; area = h.area; steps = h.steps; strands = h.strands };
}

enters_is : (name : List ℕ) (args : _) → IsOther (enters name args)
enters_is name args = record {
  program = refl;
  detach = refl;
  mailbox = refl;
  stated = λ _ _. refl;
  into_first = λ _ _. refl;
  none = refl;
  no_box = λ _. refl;
  declares_none = λ _. refl;
  once = λ _. refl;
  overfull = λ _ _ _. refl;
  repeated = λ _ _ _. refl;
  tells = λ l t d h. record { imports = h.imports; policy = h.policy; area = h.area; steps = h.steps; strands = h.strands ∙ sym (length_kept _ d.strands) };
}

answers_is : (answer : _) → IsOther (answers answer)
answers_is answer = record {
  program = refl;
  detach = refl;
  mailbox = refl;
  stated = λ _ _. refl;
  into_first = λ _ _. refl;
  none = refl;
  no_box = λ _. refl;
  declares_none = λ _. refl;
  once = λ _. refl;
  overfull = λ _ _ _. refl;
  repeated = λ _ _ _. refl;
  tells = λ l t d h. record { imports = h.imports; policy = h.policy; area = h.area; steps = h.steps; strands = h.strands ∙ sym (length_kept _ d.strands) };
}

shows_is : (at len : ℕ) → IsOther (shows at len)
shows_is at len = record {
  program = refl;
  detach = refl;
  mailbox = refl;
  stated = λ _ _. refl;
  into_first = λ _ _. refl;
  none = refl;
  no_box = λ _. refl;
  declares_none = λ _. refl;
  once = λ _. refl;
  overfull = λ _ _ _. refl;
  repeated = λ _ _ _. refl;
  tells = λ l t d h. record { imports = h.imports; policy = h.policy; area = h.area; steps = h.steps; strands = h.strands };
}

strand_is : (at len : ℕ) → IsOther (begins_strand at len)
strand_is at len = record {
  program = refl;
  detach = refl;
  mailbox = refl;
  stated = λ _ _. refl;
  into_first = λ _ _. refl;
  none = refl;
  no_box = λ _. refl;
  declares_none = λ _. refl;
  once = λ _. refl;
  overfull = λ t d h. ap (λ (n : ℕ). nat_eq (suc n) most_strands) h.strands;
  repeated = λ _ _ _. refl;
  tells = λ l t d h. record {
    imports = h.imports;
    policy = h.policy;
    area = h.area;
    steps = h.steps;
    strands = ap suc h.strands ∙ sym (length_push d.strands _ ∙ add-one (length d.strands));
  };
}

-- ---- one statement

abbrev numbered : ℕ → Statement → Numbered
numbered line s = record { line = line; says = s }

module _ (line : ℕ) (earlier : List Statement) (r : Reading) (h : Reflects earlier r) (rest : Result (List Numbered) ScriptFault) where
  abbrev Goes : Statement → Type 0
  Goes s = (more : Reading → Result Script ScriptFault) → ((next : Reading) → Reflects (s ∷ earlier) next → more next ≡ ending next rest)
      → and_then (with_statement line s r) more ≡ ending r (unless_fault (fault_of line earlier s) (numbered line s) rest)

-- what a statement behind others breaks, by its kind and what is known of them
abbrev fault_by : (line : ℕ) (early great full again bad twice : Bool) → Option ScriptFault
fault_by line early great full again bad twice =
    if early then Some (breaks line 5) else (if great then Some (too_many 17) else (if full then Some (breaks line 3) else (if again then Some (breaks line 6)
    else (if bad then Some (breaks line 8) else (if twice then Some (breaks line 17) else None)))))

-- a statement of the program that is told
module _ (s : Statement) (o : IsOther s) (line : ℕ) where
  ending_other : (r : Reading) (d : Draft) (rest : Result (List Numbered) ScriptFault) → r.current ≡ Some d
      → ending (record r { current = Some (more_told line s d) }) rest ≡ ending r (onto (numbered line s) rest)
  ending_other r d (Err f) e = refl
  ending_other r d (Ok ss) e =
      ap (λ (x : Option DetachText). with_programs (r.detached ++ cons_option x (told_by detach_of ss)) (r.mailboxes ++ lines_by mailbox_of ss)
      (all_closed r.programs (folded d (numbered line s ∷ (grouped ss).first) ∷ map of_group (grouped ss).groups))) (sym o.none)
      ∙ ap (λ (x : Option MailboxText). with_programs (r.detached ++ told_by detach_of (numbered line s ∷ ss)) (r.mailboxes ++ cons_option x (lines_by mailbox_of ss))
      (all_closed r.programs (folded d (numbered line s ∷ (grouped ss).first) ∷ map of_group (grouped ss).groups))) (sym (o.no_box line))
      ∙ ap (λ (g : Grouped). with_programs (r.detached ++ told_by detach_of (numbered line s ∷ ss)) (r.mailboxes ++ lines_by mailbox_of (numbered line s ∷ ss))
      (all_closed r.programs (spread (Some d) g))) (sym (o.into_first line (grouped ss)))
      ∙ ap (λ (c : Option Draft). with_programs (r.detached ++ told_by detach_of (numbered line s ∷ ss)) (r.mailboxes ++ lines_by mailbox_of (numbered line s ∷ ss))
      (all_closed r.programs (spread c (grouped (numbered line s ∷ ss))))) (sym e)

  early_is : (earlier : List Statement) (t : Bool) → list_any is_program earlier ≡ t → is_early s earlier ≡ not t
  early_is earlier t e =
      ap (λ (p : Bool). not (p || (is_detach s || is_mailbox s)) && not (list_any is_program earlier)) o.program
      ∙ ap (λ (p : Bool). not (p || is_mailbox s) && not (list_any is_program earlier)) o.detach
      ∙ ap (λ (p : Bool). not p && not (list_any is_program earlier)) o.mailbox
      ∙ ap not e

  great_is : (earlier : List Statement) → is_one_too_many s earlier ≡ false
  great_is earlier = ap (λ (p : Bool). p && nat_eq (length (filter is_program earlier)) most_programs) o.program

  fault_told : (earlier : List Statement) (d : Draft) → list_any is_program earlier ≡ true → Tells (in_program earlier) d → fault_of line earlier s ≡ fault_in line s d
  fault_told earlier d e h =
      ap (λ (t : Bool). fault_by line t (is_one_too_many s earlier) (is_strand_too_many s (in_program earlier)) (is_repeated s (in_program earlier)) (has_bad_list s) (is_doubled s earlier))
      (early_is earlier true e)
      ∙ ap (λ (t : Bool). fault_by line false t (is_strand_too_many s (in_program earlier)) (is_repeated s (in_program earlier)) (has_bad_list s) (is_doubled s earlier)) (great_is earlier)
      ∙ ap (λ (t : Bool). fault_by line false false t (is_repeated s (in_program earlier)) (has_bad_list s) (is_doubled s earlier)) (o.overfull (in_program earlier) d h)
      ∙ ap (λ (t : Bool). fault_by line false false (is_overfull s d) t (has_bad_list s) (is_doubled s earlier)) (o.repeated (in_program earlier) d h)
      ∙ ap (λ (t : Bool). fault_by line false false (is_overfull s d) (repeats s d) (has_bad_list s) t) (o.once earlier)

  fault_early : (earlier : List Statement) → list_any is_program earlier ≡ false → fault_of line earlier s ≡ Some (breaks line 5)
  fault_early earlier e =
      ap (λ (t : Bool). fault_by line t (is_one_too_many s earlier) (is_strand_too_many s (in_program earlier)) (is_repeated s (in_program earlier)) (has_bad_list s) (is_doubled s earlier))
      (early_is earlier false e)

  in_same : (earlier : List Statement) → s ∷ in_program earlier ≡ in_program (s ∷ earlier)
  in_same earlier = ap (λ (t : Bool). if t then [] else s ∷ in_program earlier) (sym o.program)

  reflects_other : (earlier : List Statement) (r : Reading) (d : Draft) → r.current ≡ Some d → Reflects earlier r → Tells (in_program earlier) d
      → Reflects (s ∷ earlier) (record r { current = Some (more_told line s d) })
  reflects_other earlier r d e h t = record {
    started = ap (λ (p : Bool). p || list_any is_program earlier) o.program ∙ h.started ∙ ap (λ (c : Option Draft). is_some c) e;
    count = ap (λ (p : Bool). length (cond p (s ∷ filter is_program earlier) (filter is_program earlier))) o.program ∙ h.count;
    few = h.few;
    told = subst (λ (l : List Statement). Tells l (more_told line s d)) (in_same earlier) (o.tells line (in_program earlier) d t);
    declared = λ name. ap (λ (b : Bool). b || list_any (declares name) earlier) (o.declares_none name) ∙ h.declared name;
  }

  by_fault : (earlier : List Statement) (r : Reading) (d : Draft) → r.current ≡ Some d → Reflects earlier r → Tells (in_program earlier) d
      → (rest : Result (List Numbered) ScriptFault) (more : Reading → Result Script ScriptFault)
      → ((next : Reading) → Reflects (s ∷ earlier) next → more next ≡ ending next rest) → (f : Option ScriptFault)
      → and_then (with_current r (or_fault f (more_told line s d))) more ≡ ending r (unless_fault f (numbered line s) rest)
  by_fault earlier r d e h t rest more next (Some f) = refl
  by_fault earlier r d e h t rest more next None =
      next (record r { current = Some (more_told line s d) }) (reflects_other earlier r d e h t) ∙ ending_other r d rest e

  by_current : (earlier : List Statement) (r : Reading) → Reflects earlier r → (rest : Result (List Numbered) ScriptFault) (more : Reading → Result Script ScriptFault)
      → ((next : Reading) → Reflects (s ∷ earlier) next → more next ≡ ending next rest) → (c : Option Draft) → r.current ≡ c → TellsCurrent earlier c
      → and_then (with_current r (on_program line s c)) more ≡ ending r (unless_fault (fault_of line earlier s) (numbered line s) rest)
  by_current earlier r h rest more next None e t =
      ap (λ (f : Option ScriptFault). ending r (unless_fault f (numbered line s) rest)) (sym (fault_early earlier (h.started ∙ ap (λ (c : Option Draft). is_some c) e)))
  by_current earlier r h rest more next (Some d) e t =
      by_fault earlier r d e h t rest more next (fault_in line s d)
      ∙ ap (λ (f : Option ScriptFault). ending r (unless_fault f (numbered line s) rest)) (sym (fault_told earlier d (h.started ∙ ap (λ (c : Option Draft). is_some c) e) t))

  other_goes : (earlier : List Statement) (r : Reading) (h : Reflects earlier r) (rest : Result (List Numbered) ScriptFault) → Goes line earlier r h rest s
  other_goes earlier r h rest more next = ap (λ x. and_then x more) (o.stated line r) ∙ by_current earlier r h rest more next r.current refl h.told

-- a device is taken out
detach_goes : (line : ℕ) (device : List ℕ) (before : ℕ) (earlier : List Statement) (r : Reading) (h : Reflects earlier r) (rest : Result (List Numbered) ScriptFault)
    → Goes line earlier r h rest (detaches device before)
detach_goes line device before earlier r h rest more next =
    next (record r { detached = r.detached ++ record { device = device; before = before } ∷ [] }) reflected ∙ by_rest rest r.current refl
  where
    reflected : Reflects (detaches device before ∷ earlier) (record r { detached = r.detached ++ record { device = device; before = before } ∷ [] })
    reflected = record { started = h.started; count = h.count; few = h.few; told = by_current r.current h.told; declared = h.declared } where
      by_current : (c : Option Draft) → TellsCurrent earlier c → TellsCurrent (detaches device before ∷ earlier) c
      by_current None t = tt
      by_current (Some d) t = record { imports = t.imports; policy = t.policy; area = t.area; steps = t.steps; strands = t.strands }

    by_rest : (x : Result (List Numbered) ScriptFault) (c : Option Draft) → r.current ≡ c
        → ending (record r { detached = r.detached ++ record { device = device; before = before } ∷ [] }) x ≡ ending r (onto (numbered line (detaches device before)) x)
    by_rest (Err f) c e = refl
    by_rest (Ok ss) c e =
        ap (λ (ds : List DetachText). with_programs ds (r.mailboxes ++ lines_by mailbox_of ss) (all_closed r.programs (spread r.current (grouped ss)))) (append_assoc r.detached _ (told_by detach_of ss))
        ∙ ap (λ (l : List Draft). with_programs (r.detached ++ told_by detach_of (numbered line (detaches device before) ∷ ss)) (r.mailboxes ++ lines_by mailbox_of ss) (all_closed r.programs l))
        (by_kind r.current)
      where
        by_kind : (k : Option Draft) → spread k (grouped ss) ≡ spread k (grouped (numbered line (detaches device before) ∷ ss))
        by_kind None = refl
        by_kind (Some d) = refl

or_turn : (a b : Bool) → (a || b) ≡ (b || (a || false))
or_turn true true = refl
or_turn true false = refl
or_turn false true = refl
or_turn false false = refl

-- a mailbox is declared
mailbox_goes : (line : ℕ) (name : List ℕ) (earlier : List Statement) (r : Reading) (h : Reflects earlier r) (rest : Result (List Numbered) ScriptFault) → Goes line earlier r h rest (has_mailbox name)
mailbox_goes line name earlier r h rest more next =
    by_fault (if is_declared name r.mailboxes then Some (breaks line 17) else None)
    ∙ ap (λ (b : Bool). ending r (unless_fault (if b then Some (breaks line 17) else None) (numbered line (has_mailbox name)) rest)) (sym (h.declared name))
  where
    declared_next : Reading
    declared_next = record r { mailboxes = r.mailboxes ++ record { line = line; name = name } ∷ [] }

    reflected : Reflects (has_mailbox name ∷ earlier) declared_next
    reflected = record {
      started = h.started;
      count = h.count;
      few = h.few;
      told = by_current r.current h.told;
      declared = λ other.
          ap (λ (b : Bool). bytes_eq name other || b) (h.declared other) ∙ or_turn (bytes_eq name other) (is_declared other r.mailboxes)
          ∙ sym (list_any-append (λ (m : MailboxText). bytes_eq m.name other) r.mailboxes (record { line = line; name = name } ∷ []));
    } where
      by_current : (c : Option Draft) → TellsCurrent earlier c → TellsCurrent (has_mailbox name ∷ earlier) c
      by_current None t = tt
      by_current (Some d) t = record { imports = t.imports; policy = t.policy; area = t.area; steps = t.steps; strands = t.strands }

    by_rest : (x : Result (List Numbered) ScriptFault) → ending declared_next x ≡ ending r (onto (numbered line (has_mailbox name)) x)
    by_rest (Err f) = refl
    by_rest (Ok ss) =
        ap (λ (ms : List MailboxText). with_programs (r.detached ++ told_by detach_of ss) ms (all_closed r.programs (spread r.current (grouped ss)))) (append_assoc r.mailboxes _ (lines_by mailbox_of ss))
        ∙ ap (λ (l : List Draft). with_programs (r.detached ++ told_by detach_of ss) (r.mailboxes ++ lines_by mailbox_of (numbered line (has_mailbox name) ∷ ss)) (all_closed r.programs l))
        (by_kind r.current)
      where
        by_kind : (k : Option Draft) → spread k (grouped ss) ≡ spread k (grouped (numbered line (has_mailbox name) ∷ ss))
        by_kind None = refl
        by_kind (Some d) = refl

    by_fault : (f : Option ScriptFault) → and_then (with_mailboxes r (or_fault f (r.mailboxes ++ record { line = line; name = name } ∷ []))) more ≡ ending r (unless_fault f (numbered line (has_mailbox name)) rest)
    by_fault (Some f) = refl
    by_fault None = next declared_next reflected ∙ by_rest rest

-- a program begins
program_goes : (line : ℕ) (path : List ℕ) (earlier : List Statement) (r : Reading) (h : Reflects earlier r) (rest : Result (List Numbered) ScriptFault)
    → Goes line earlier r h rest (begins_program path)
program_goes line path earlier r h rest more next = by_count (nat_le most_programs r.count) refl where
  begun_next : Reading
  begun_next = record { programs = closed_last r.programs r.current; count = r.count + 1; current = Some (begun line path); detached = r.detached; mailboxes = r.mailboxes }

  reflected : r.count < 16 → Reflects (begins_program path ∷ earlier) begun_next
  reflected fewer = record {
    started = refl;
    count = omega (arith, h.count);
    few = omega (arith, fewer);
    told = record { imports = refl; policy = refl; area = refl; steps = refl; strands = refl };
    declared = h.declared;
  }

  by_kind : (g : Grouped) (c : Option Draft) → all_closed (closed_last r.programs c) (folded (begun line path) g.first ∷ map of_group g.groups)
      ≡ all_closed r.programs (spread c (grouped_with line (begins_program path) g))
  by_kind g None = refl
  by_kind g (Some d) = refl

  by_rest : (x : Result (List Numbered) ScriptFault) → ending begun_next x ≡ ending r (onto (numbered line (begins_program path)) x)
  by_rest (Err f) = refl
  by_rest (Ok ss) = ap (λ ps. with_programs (r.detached ++ told_by detach_of ss) (r.mailboxes ++ lines_by mailbox_of ss) ps) (by_kind (grouped ss) r.current)

  by_count : (t : Bool) → nat_le most_programs r.count ≡ t
      → and_then (with_program line path r) more ≡ ending r (unless_fault (fault_of line earlier (begins_program path)) (numbered line (begins_program path)) rest)
  by_count true e =
      let all : length (filter is_program earlier) ≡ 16 = omega (arith, h.count, h.few, leb-true most_programs r.count e) in
      ap (λ (t : Bool). and_then (if t then Err (too_many 17) else Ok begun_next) more) e
      ∙ ap (λ (t : Bool). ending r (unless_fault (if t then Some (too_many 17) else None) (numbered line (begins_program path)) rest))
      (sym (eq-eqb (length (filter is_program earlier)) most_programs all))
  by_count false e =
      let fewer : r.count < 16 = leb-false most_programs r.count e in
      ap (λ (t : Bool). and_then (if t then Err (too_many 17) else Ok begun_next) more) e
      ∙ next begun_next (reflected fewer) ∙ by_rest rest
      ∙ ap (λ (t : Bool). ending r (unless_fault (if t then Some (too_many 17) else None) (numbered line (begins_program path)) rest))
      (sym (ne_eqb (length (filter is_program earlier)) most_programs (λ x. omega (arith, x, h.count, fewer))))

goes : (s : Statement) (line : ℕ) (earlier : List Statement) (r : Reading) (h : Reflects earlier r) (rest : Result (List Numbered) ScriptFault) → Goes line earlier r h rest s
goes (begins_program path) line earlier r h rest = program_goes line path earlier r h rest
goes (lists_imports list) line earlier r h rest = other_goes (lists_imports list) (lists_is list) line earlier r h rest
goes ignores_imports line earlier r h rest = other_goes ignores_imports ignores_is line earlier r h rest
goes (saves live) line earlier r h rest = other_goes (saves live) (saves_is live) line earlier r h rest
goes (has_area at len) line earlier r h rest = other_goes (has_area at len) (area_is at len) line earlier r h rest
goes (has_steps n) line earlier r h rest = other_goes (has_steps n) (steps_is n) line earlier r h rest
goes (sets_global name value) line earlier r h rest = other_goes (sets_global name value) (global_is name value) line earlier r h rest
goes (binds import device) line earlier r h rest = other_goes (binds import device) (binds_is import device) line earlier r h rest
goes (enters name args) line earlier r h rest = other_goes (enters name args) (enters_is name args) line earlier r h rest
goes (answers answer) line earlier r h rest = other_goes (answers answer) (answers_is answer) line earlier r h rest
goes (shows at len) line earlier r h rest = other_goes (shows at len) (shows_is at len) line earlier r h rest
goes (detaches device before) line earlier r h rest = detach_goes line device before earlier r h rest
goes (has_mailbox name) line earlier r h rest = mailbox_goes line name earlier r h rest
goes (begins_strand at len) line earlier r h rest = other_goes (begins_strand at len) (strand_is at len) line earlier r h rest

-- ---- all lines

line_goes : (said : Result (Option Statement) ℕ) (line : ℕ) (ls : List (List ℕ)) (earlier : List Statement) (r : Reading) → Reflects earlier r
    → ((told : List Statement) (next : Reading) → Reflects told next → read_on (suc line) ls next ≡ ending next (statements (suc line) told ls))
    → and_then (with_line line said r) (read_on (suc line) ls) ≡ ending r (with_told line earlier said (λ told. statements (suc line) told ls))
line_goes (Err rule) line ls earlier r h rest = refl
line_goes (Ok None) line ls earlier r h rest = rest earlier r h
line_goes (Ok (Some s)) line ls earlier r h rest = goes s line earlier r h (statements (suc line) (s ∷ earlier) ls) (read_on (suc line) ls) (rest (s ∷ earlier))

lines_go : (ls : List (List ℕ)) (line : ℕ) (earlier : List Statement) (r : Reading) → Reflects earlier r → read_on line ls r ≡ ending r (statements line earlier ls)
lines_go [] line earlier r h =
    by_current r.current ∙ ap (λ (ds : List DetachText). with_programs ds r.mailboxes (all_closed r.programs (spread r.current (grouped [])))) (sym (append-nil r.detached))
    ∙ ap (λ (ms : List MailboxText). with_programs (r.detached ++ []) ms (all_closed r.programs (spread r.current (grouped [])))) (sym (append-nil r.mailboxes))
  where
    by_current : (c : Option Draft) → with_programs r.detached r.mailboxes (closed_last r.programs c) ≡ with_programs r.detached r.mailboxes (all_closed r.programs (spread c (grouped [])))
    by_current None = refl
    by_current (Some d) = refl
lines_go (l ∷ ls) line earlier r h = line_goes (line_says l) line ls earlier r h (λ told next. lines_go ls (suc line) told next)

all_read : (told : Result (List Numbered) ScriptFault) → ending nothing_read told ≡ script_of told
all_read (Err f) = refl
all_read (Ok ss) = ap (λ ps. with_programs (told_by detach_of ss) (lines_by mailbox_of ss) ps) (programs_are (grouped ss).groups)

pub reads_text : (bytes : List ℕ) → read_on 1 (lines bytes) nothing_read ≡ script_text bytes
unfolding script_text
reads_text bytes = lines_go (lines bytes) 1 [] nothing_read (record { started = refl; count = refl; few = lit≤ tt; told = tt; declared = λ _. refl }) ∙ all_read (statements 1 [] (lines bytes))
