-- What a program may still tell whose story was told up to here: its calls meet its answer lines, and devices that fail from now on; and that more calls meet outcomes behind those that have.
use Rattle.std.proofs.Common.{arith, ◌≡◌, ◌+◌, ◌≤◌, ◌<◌, ◌^◌, ◌⊎◌, inl, inr, ℕ, List, [], ◌∷◌, ◌++◌, length, Option, Some, None, Bool, true, false, refl, sym, ap, ◌∙◌, subst, append_assoc, append-nil, length-append}
use Rattle.std.specs.Prelude.{MatchBool, slice_get}
use Rattle.std.specs.List.{list_any}
use Rattle.std.specs.Option.{unwrap_or}
use Rattle.wa_types.specs.Validity.{same_name}
use Rattle.wa_model.specs.declared.answers.Said.TheVariants as S
use Rattle.wa_model.specs.declared.events.End.{End}
use Rattle.wa_model.specs.declared.events.End.TheVariants.{DeviceFault, NoAnswer, NoDevice, OtherImport}
use Rattle.wa_model.specs.Outside.{AnswerLine, Call, Event, called}
use Rattle.wa_model.specs.Plan.{Outcome, ValueFits, given, refused}
use Rattle.wa_model.specs.Blocking.{Note}
use Rattle.world_model.specs.World.{CallsMeet, Device, Meets, MeetsBound, MeetsDevice, NoteMeets, Program, Reply, base_names, call_in, import_names, is_named, journaled, name_at, protocol_story}
use Rattle.world_laws.specs.Originals.{new_calls, one_if}
use Rattle.world_laws.specs.Existing.{StoriesEnd}
use Rattle.world_laws.proofs.Counting.{Ends, Stands, calls_on}
use Rattle.world_laws.proofs.Tails.{Quiet, StoryForks, story_counts, story_forks}
use Rattle.world_laws.proofs.StoryParts.{begins_any, begins_before, story_ends}

last_same : {X : Type 0} (xs ys : List X) (x y : X) → xs ++ x ∷ [] ≡ ys ++ y ∷ [] → (xs ≡ ys) × (x ≡ y)
last_same {X} [] [] x y e = (refl, first x y e)
  where
    first : (a b : X) → a ∷ [] ≡ b ∷ [] → a ≡ b
    first a b e = cc
last_same [] (b ∷ []) x y e = cc
last_same [] (b ∷ c ∷ ys) x y e = cc
last_same (a ∷ []) [] x y e = cc
last_same (a ∷ b ∷ xs) [] x y e = cc
last_same {X} (a ∷ xs) (b ∷ ys) x y e = let r = last_same xs ys x y (rest e) in (ap (λ (z : X). z ∷ xs) (head e) ∙ ap (λ (zs : List X). b ∷ zs) r.0, r.1)
  where
    head : a ∷ (xs ++ x ∷ []) ≡ b ∷ (ys ++ y ∷ []) → a ≡ b
    head e = cc

    rest : a ∷ (xs ++ x ∷ []) ≡ b ∷ (ys ++ y ∷ []) → xs ++ x ∷ [] ≡ ys ++ y ∷ []
    rest e = cc

-- ---- calls of notes

-- those of notes behind others
pub calls_more : (w : Program) (xs ys : List Note) (os more : List Outcome) (lines lines1 lines2 : List AnswerLine) (ds ds1 ds2 : List Device) → CallsMeet w xs os lines ds [] lines1 ds1
    → CallsMeet w ys more lines1 ds1 [] lines2 ds2 → CallsMeet w (xs ++ ys) (os ++ more) lines ds [] lines2 ds2
calls_more w [] ys os more lines lines1 lines2 ds ds1 ds2 h k =
    subst (λ (o : List Outcome). CallsMeet w ys (o ++ more) lines ds [] lines2 ds2) h.0
    (subst (λ (l : List AnswerLine). CallsMeet w ys more l ds [] lines2 ds2) h.1 (subst (λ (d : List Device). CallsMeet w ys more lines1 d [] lines2 ds2) h.2 k))
calls_more w (x ∷ xs) ys os more lines lines1 lines2 ds ds1 ds2 h k = by (call_in x.event) h (λ o l d m. calls_more w xs ys o more l lines1 lines2 d ds1 ds2 m k) where
  by : (c : Option Call) → NoteMeets w c os lines ds (λ o l d. CallsMeet w xs o l d [] lines1 ds1)
      → ((o : List Outcome) (l : List AnswerLine) (d : List Device) → CallsMeet w xs o l d [] lines1 ds1 → CallsMeet w (xs ++ ys) (o ++ more) l d [] lines2 ds2)
      → NoteMeets w c (os ++ more) lines ds (λ o l d. CallsMeet w (xs ++ ys) o l d [] lines2 ds2)
  by None m on = on os lines ds m
  by (Some call) m on = (m.0, m.1 ++ more, m.2, m.3, ap (λ (l : List Outcome). l ++ more) m.4, m.5, on m.1 m.2 m.3 m.6)

pub no_calls : (w : Program) (xs : List Note) (lines : List AnswerLine) (ds : List Device) → new_calls xs ≡ 0 → CallsMeet w xs [] lines ds [] lines ds
no_calls w [] lines ds e = (refl, refl, refl)
no_calls w (x ∷ xs) lines ds e = by (call_in x.event) e (λ z. no_calls w xs lines ds z) where
  by : (c : Option Call) → one_if c + new_calls xs ≡ 0 → (new_calls xs ≡ 0 → CallsMeet w xs [] lines ds [] lines ds) → NoteMeets w c [] lines ds (λ o l d. CallsMeet w xs o l d [] lines ds)
  by None e on = on (omega (arith, e))
  by (Some c) e on = let no_way : ⊥ = omega (arith, e) in absurd no_way

pub one_call : (w : Program) (y : Note) (c : Call) (o : Outcome) (lines left : List AnswerLine) (ds : List Device) → y.event ≡ called c → Meets w c.import c.args lines ds o left ds
    → CallsMeet w (y ∷ []) (o ∷ []) lines ds [] left ds
one_call w y c o lines left ds is m =
    subst (λ (v : Event). NoteMeets w (call_in v) (o ∷ []) lines ds (λ us l d. CallsMeet w [] us l d [] left ds)) (sym is) (o, [], left, ds, refl, m, (refl, refl, refl))

-- ---- what a call meets where devices fail: a refusal, or the next answer line

abbrev pub Refuses : Program → Call → List AnswerLine → List Device → Type 0
Refuses w c lines ds = (e : End) × (left : List AnswerLine) × Meets w c.import c.args lines ds (refused e) left ds

module _ (w : Program) (c : Call) (ds : List Device) where
  abbrev binding : Option (List ℕ)
  binding = unwrap_or (slice_get w.binds c.import) None

  by_binding : (lines left : List AnswerLine) (o : Outcome) (b : Option (List ℕ)) → binding ≡ b → MeetsBound w.source c.import c.args b lines ds o left ds → Meets w c.import c.args lines ds o left ds
  by_binding lines left o b e h = subst (λ (b : Option (List ℕ)). MeetsBound w.source c.import c.args b lines ds o left ds) (sym e) h

  abbrev Replies : (base name : List ℕ) → Outcome → Type 0
  Replies base name o =
      (r : Reply) × ValueFits r.value × (r.ticks < 2 ^ 32) × (o ≡ given (record { said = S.Value r.value; pokes = []; ticks = r.ticks }))
      × (ds ≡ journaled name (record { base = base; args = c.args; reply = r }) ds)

  abbrev MeetsThere : (base name : List ℕ) → Outcome → Bool → Type 0
  MeetsThere base name o b = MatchBool b (Replies base name o ⊎ ((o ≡ refused (DeviceFault c.import)) × (ds ≡ ds))) ((o ≡ refused (NoDevice c.import)) × (ds ≡ ds))

  device_fails : (base name : List ℕ) → (e : End) × MeetsDevice c.import base name c.args ds (refused e) ds
  device_fails base name = by (list_any (is_named name) ds) refl where
    by : (b : Bool) → list_any (is_named name) ds ≡ b → (e : End) × MeetsDevice c.import base name c.args ds (refused e) ds
    by true e = (DeviceFault c.import, subst (λ (b : Bool). MeetsThere base name (refused (DeviceFault c.import)) b) (sym e) (inr (refl, refl)))
    by false e = (NoDevice c.import, subst (λ (b : Bool). MeetsThere base name (refused (NoDevice c.import)) b) (sym e) (refl, refl))

  bound_refuses : (name : List ℕ) (lines : List AnswerLine) → binding ≡ Some name → Refuses w c lines ds
  bound_refuses name lines e = let d = device_fails (name_at (base_names w.source) c.import) name in (d.0, lines, by_binding lines lines (refused d.0) (Some name) e (d.1, refl))

  pub no_line : Refuses w c [] ds
  no_line = by binding refl where
    by : (b : Option (List ℕ)) → binding ≡ b → Refuses w c [] ds
    by (Some name) e = bound_refuses name [] e
    by None e = (NoAnswer c.import, [], by_binding [] [] (refused (NoAnswer c.import)) None e ((refl, refl), refl))

  pub next_line : (l : AnswerLine) (ls : List AnswerLine) → Refuses w c (l ∷ ls) ds ⊎ Meets w c.import c.args (l ∷ ls) ds (given l.answer) ls ds
  next_line l ls = by binding refl where
    by_line : (o : Outcome) (left : List AnswerLine) (b : Bool) → same_name l.import (name_at (import_names w.source) c.import) ≡ b
        → MatchBool b ((o ≡ given l.answer) × (left ≡ ls)) ((o ≡ refused (OtherImport c.import l.import)) × (left ≡ l ∷ ls)) → binding ≡ None → Meets w c.import c.args (l ∷ ls) ds o left ds
    by_line o left b e m free =
        by_binding (l ∷ ls) left o None free
        (subst (λ (b : Bool). MatchBool b ((o ≡ given l.answer) × (left ≡ ls)) ((o ≡ refused (OtherImport c.import l.import)) × (left ≡ l ∷ ls))) (sym e) m, refl)

    by_name : binding ≡ None → (b : Bool) → same_name l.import (name_at (import_names w.source) c.import) ≡ b
        → Refuses w c (l ∷ ls) ds ⊎ Meets w c.import c.args (l ∷ ls) ds (given l.answer) ls ds
    by_name free true e = inr (by_line (given l.answer) ls true e (refl, refl) free)
    by_name free false e = inl (OtherImport c.import l.import, l ∷ ls, by_line (refused (OtherImport c.import l.import)) (l ∷ ls) false e (refl, refl) free)

    by : (b : Option (List ℕ)) → binding ≡ b → Refuses w c (l ∷ ls) ds ⊎ Meets w c.import c.args (l ∷ ls) ds (given l.answer) ls ds
    by (Some device) e = inl (bound_refuses device (l ∷ ls) e)
    by None e = by_name e (same_name l.import (name_at (import_names w.source) c.import)) refl

-- ---- the rest of a story

-- Notes to come whose calls meet outcomes, and leave the devices as they are.
pub record Further (w : Program) (pre : List Outcome) (done : List Note) (answers : List AnswerLine) (ds : List Device) : Type 0 where
  pub full : List Note
  pub outcomes : List Outcome
  pub left : List AnswerLine
  pub meets : CallsMeet w full outcomes answers ds [] left ds
  pub story : protocol_story w (pre ++ outcomes) ≡ done ++ full
  pub count : new_calls full ≡ length outcomes

module _ (w : Program) (pre : List Outcome) (done : List Note) (answers : List AnswerLine) (ds : List Device) (start : new_calls done ≡ length pre) where
  abbrev tells : List Outcome → List Note
  tells os = protocol_story w (pre ++ os)

  -- notes that it makes with these outcomes, which its calls meet
  record Sofar (os : List Outcome) (lines : List AnswerLine) : Type 0 where
    notes : List Note
    more : List Note
    split : tells os ≡ (done ++ notes) ++ more
    meets : CallsMeet w notes os answers ds [] lines ds
    count : new_calls notes ≡ length os

  -- such notes, behind which the story stands at a call
  record AtCall (os : List Outcome) (lines : List AnswerLine) : Type 0 where
    notes : List Note
    last : Note
    call : Call
    is : last.event ≡ called call
    split : tells os ≡ (done ++ notes) ++ last ∷ []
    meets : CallsMeet w notes os answers ds [] lines ds
    count : new_calls notes ≡ length os

  no_more : (os : List Outcome) (lines : List AnswerLine) (x : Sofar os lines) → new_calls x.more ≡ 0 → Further w pre done answers ds
  no_more os lines x none = record {
    full = x.notes ++ x.more;
    outcomes = os;
    left = lines;
    meets = subst (λ (us : List Outcome). CallsMeet w (x.notes ++ x.more) us answers ds [] lines ds) (append-nil os)
        (calls_more w x.notes x.more os [] answers lines lines ds ds ds x.meets (no_calls w x.more lines ds none));
    story = x.split ∙ append_assoc done x.notes x.more;
    count = omega (arith, calls_on x.notes x.more, none, x.count);
  }

  stands : (os : List Outcome) (lines : List AnswerLine) (x : Sofar os lines) → (new_calls x.more ≡ 0) ⊎ AtCall os lines
  stands os lines x = by (story_counts w (pre ++ os))
    where
      made : new_calls (done ++ x.notes) ≡ length (pre ++ os)
      made = omega (arith, calls_on done x.notes, length-append pre os, start, x.count)

      by : (new_calls (tells os) ≤ length (pre ++ os)) ⊎ Stands (length (pre ++ os)) (tells os) → (new_calls x.more ≡ 0) ⊎ AtCall os lines
      by (inl few) = let all = ap new_calls x.split in inl (omega (arith, few, all, calls_on (done ++ x.notes) x.more, made))
      by (inr s) =
          let r = begins_before (done ++ x.notes) x.more s.before [] s.last s.call (sym x.split ∙ s.split) s.is (omega (arith, made, s.count)) in
          let all = ap new_calls r.1 in
          let none : new_calls r.0 ≡ 0 = omega (arith, all, calls_on (done ++ x.notes) r.0, made, s.count) in
          inr (record {
            notes = x.notes ++ r.0;
            last = s.last;
            call = s.call;
            is = s.is;
            split = s.split ∙ ap (λ (ns : List Note). ns ++ s.last ∷ []) (r.1 ∙ append_assoc done x.notes r.0);
            meets = subst (λ (us : List Outcome). CallsMeet w (x.notes ++ r.0) us answers ds [] lines ds) (append-nil os)
                (calls_more w x.notes r.0 os [] answers lines lines ds ds ds x.meets (no_calls w r.0 lines ds none));
            count = omega (arith, calls_on x.notes r.0, none, x.count);
          })

  -- with an outcome of the call
  abbrev Met : List Outcome → Outcome → List AnswerLine → Type 0
  Met os o left = (x : Sofar (os ++ o ∷ []) left) × Quiet (o ∷ []) x.more

  met : (os : List Outcome) (lines : List AnswerLine) (a : AtCall os lines) (o : Outcome) (left : List AnswerLine) → Meets w a.call.import a.call.args lines ds o left ds → Met os o left
  met os lines a o left m = by (story_forks w (pre ++ os) (o ∷ []))
    where
      again : tells (os ++ o ∷ []) ≡ protocol_story w ((pre ++ os) ++ o ∷ [])
      again = ap (protocol_story w) (sym (append_assoc pre os (o ∷ [])))

      on : (y : Note) (more : List Note) → y.event ≡ called a.call → protocol_story w ((pre ++ os) ++ o ∷ []) ≡ (done ++ a.notes) ++ y ∷ more → Quiet (o ∷ []) more → Met os o left
      on y more is split quiet =
          let one : new_calls (y ∷ []) ≡ 1 = ap (λ (v : Event). one_if (call_in v) + 0) is in (
            record {
              notes = a.notes ++ y ∷ [];
              more = more;
              split = again ∙ split ∙ append_assoc done a.notes (y ∷ more)
                  ∙ ap (λ (ns : List Note). done ++ ns) (sym (append_assoc a.notes (y ∷ []) more))
                  ∙ sym (append_assoc done (a.notes ++ y ∷ []) more);
              meets = calls_more w a.notes (y ∷ []) os (o ∷ []) answers lines left ds ds ds a.meets (one_call w y a.call o lines left ds is m);
              count = omega (arith, calls_on a.notes (y ∷ []), one, length-append os (o ∷ []), a.count);
            },
            quiet,
          )

      none_quiet : (o : Outcome) → Quiet (o ∷ []) []
      none_quiet (given answer) = tt
      none_quiet (refused e) = refl

      by : (protocol_story w ((pre ++ os) ++ o ∷ []) ≡ protocol_story w (pre ++ os))
          ⊎ StoryForks (o ∷ []) (length (pre ++ os)) (protocol_story w ((pre ++ os) ++ o ∷ [])) (protocol_story w (pre ++ os)) → Met os o left
      by (inl same) = on a.last [] a.is (same ∙ a.split) (none_quiet o)
      by (inr f) =
          let parts = last_same (done ++ a.notes) f.before a.last f.here (sym a.split ∙ f.first) in
          on f.there f.more (f.same.0 ∙ ap (λ (n : Note). n.event) (sym parts.1) ∙ a.is) (f.second ∙ ap (λ (ns : List Note). ns ++ f.there ∷ f.more) (sym parts.0)) f.quiet

  refuse : (os : List Outcome) (lines : List AnswerLine) (a : AtCall os lines) → Refuses w a.call lines ds → Further w pre done answers ds
  refuse os lines a r = let n = met os lines a (refused r.0) r.1 r.2 in no_more (os ++ refused r.0 ∷ []) r.1 n.0 n.1

  goes_on : (lines : List AnswerLine) (os : List Outcome) → Sofar os lines → Further w pre done answers ds
  goes_on [] os x = by (stands os [] x)
    where
      by : (new_calls x.more ≡ 0) ⊎ AtCall os [] → Further w pre done answers ds
      by (inl none) = no_more os [] x none
      by (inr a) = refuse os [] a (no_line w a.call ds)
  goes_on (l ∷ ls) os x = by (λ os x. goes_on ls os x) (stands os (l ∷ ls) x)
    where
      by_line : ((os : List Outcome) → Sofar os ls → Further w pre done answers ds) → (a : AtCall os (l ∷ ls))
          → Refuses w a.call (l ∷ ls) ds ⊎ Meets w a.call.import a.call.args (l ∷ ls) ds (given l.answer) ls ds → Further w pre done answers ds
      by_line on a (inl r) = refuse os (l ∷ ls) a r
      by_line on a (inr m) = on (os ++ given l.answer ∷ []) (met os (l ∷ ls) a (given l.answer) ls m).0

      by : ((os : List Outcome) → Sofar os ls → Further w pre done answers ds) → (new_calls x.more ≡ 0) ⊎ AtCall os (l ∷ ls) → Further w pre done answers ds
      by on (inl none) = no_more os (l ∷ ls) x none
      by on (inr a) = by_line on a (next_line w a.call ds l ls)

  pub further : (tail : List Outcome) (rest : List Note) → protocol_story w (pre ++ tail) ≡ done ++ rest → Further w pre done answers ds
  further tail rest from =
      let b = begins_any w pre tail [] done start (rest, from) in
      goes_on answers [] (record { notes = []; more = b.0; split = b.1 ∙ ap (λ (ns : List Note). ns ++ b.0) (sym (append-nil done)); meets = (refl, refl, refl); count = refl })

  pub further_counts : (f : Further w pre done answers ds) → new_calls (protocol_story w (pre ++ f.outcomes)) ≤ length (pre ++ f.outcomes)
  further_counts f = let all = ap new_calls f.story in omega (arith, all, calls_on done f.full, start, f.count, length-append pre f.outcomes)

  -- it has nothing more to tell, or comes to an end
  pub further_ends : (f : Further w pre done answers ds) → (f.full ≡ []) ⊎ Ends f.full
  further_ends f = by (story_ends w (pre ++ f.outcomes) (further_counts f))
    where
      last : (xs ys : List Note) → Ends (xs ++ ys) → (ys ≡ []) ⊎ Ends ys
      last [] ys h = inr h
      last (x ∷ []) [] h = inl refl
      last (x ∷ []) (y ∷ ys) h = inr h.1
      last (x ∷ z ∷ xs) ys h = last (z ∷ xs) ys h.1

      nothing : (xs ys : List Note) → [] ≡ xs ++ ys → ys ≡ []
      nothing [] ys e = sym e
      nothing (x ∷ xs) ys e = cc

      by : (protocol_story w (pre ++ f.outcomes) ≡ []) ⊎ Ends (protocol_story w (pre ++ f.outcomes)) → (f.full ≡ []) ⊎ Ends f.full
      by (inl none) = inl (nothing done f.full (sym none ∙ f.story))
      by (inr h) = last done f.full (subst Ends f.story h)

pub stories_end : StoriesEnd
stories_end w answers none =
    let f = further w [] [] answers [] refl [] (protocol_story w []) refl in
    (f.outcomes, f.left, subst (λ (xs : List Note). CallsMeet w xs f.outcomes answers [] [] f.left []) (sym f.story) f.meets)
