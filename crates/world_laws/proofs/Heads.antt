-- What comes next in two stories of one program whose calls have met the same outcomes so far.
use Rattle.std.proofs.Common.{arith, ◌≡◌, ◌≤◌, ◌+◌, ◌⊎◌, inl, inr, ℕ, List, [], ◌∷◌, ◌++◌, length, Option, Some, None, Bool, true, false, refl, sym, ap, ◌∙◌, subst, append_assoc, append-nil, length-append}
use Rattle.std.specs.Prelude.{MatchBool, slice_get}
use Rattle.std.specs.List.{list_any}
use Rattle.std.specs.Option.{unwrap_or}
use Rattle.std.proofs.lemmas.List.{append_cancel_left}
use Rattle.wa_model.specs.declared.events.End.{End}
use Rattle.wa_model.specs.declared.events.End.TheVariants.{DeviceFault, NoDevice}
use Rattle.wa_model.specs.Outside.{Answer, Call, AnswerLine, Event, called, ended}
use Rattle.wa_model.specs.Store.{Store}
use Rattle.wa_model.specs.Plan.{Outcome, given, refused}
use Rattle.wa_model.specs.Blocking.{Note, note}
use Rattle.world_model.specs.World.{Reply, Device, is_named, journaled, Program, base_names, import_names, name_at, MeetsBound, Meets, call_in, protocol_story}
use Rattle.world_laws.specs.Originals.{one_if, new_calls}
use Rattle.world_laws.proofs.Counting.{Ends, Stands, calls_on}
use Rattle.world_laws.proofs.Tails.{StoryForks, story_forks, story_counts}
use Rattle.world_laws.proofs.Determined.{answer_of, line_fixes}
use Rattle.world_laws.proofs.StoryParts.{story_ends_so, end_is_last, call_no_end, begins_before}
use Rattle.world_laws.specs.Replays.{is_fault}
use Rattle.world_laws.proofs.Journals.{Grows, Replied, replies_same}
use Rattle.world_laws.proofs.Faults.{Opens, Inner, opens_behind, story_fine}

-- ---- lists

pub front_same : (done xs ys : List Note) (x y : Note) → done ++ x ∷ xs ≡ done ++ y ∷ ys → (x ≡ y) × (xs ≡ ys)
front_same done xs ys x y e = (head behind, tail behind)
  where
    behind : x ∷ xs ≡ y ∷ ys
    behind = append_cancel_left done (x ∷ xs) (y ∷ ys) e

    head : x ∷ xs ≡ y ∷ ys → x ≡ y
    head e = cc

    tail : x ∷ xs ≡ y ∷ ys → xs ≡ ys
    tail e = cc

one_more : (done : List Note) (x : Note) (c : Call) (more : List Note) → x.event ≡ called c → new_calls (done ++ x ∷ more) ≡ new_calls done + (1 + new_calls more)
one_more done x c more e = calls_on done (x ∷ more) ∙ ap (λ (v : Event). new_calls done + (one_if (call_in v) + new_calls more)) e

-- ---- the next note

-- the same event and store, and the same note where it is no call
abbrev pub Like : Note → Note → Type 0
Like z y = (y.event ≡ z.event) × (y.store ≡ z.store) × (call_in y.event ≡ None → y ≡ z)

abbrev NextNote : Program → List Outcome → List Note → Note → Type 0
NextNote w pre done y = (z : Note) × (zs : List Note) × (protocol_story w pre ≡ done ++ z ∷ zs) × Like z y

next_like : (w : Program) (pre tail : List Outcome) (done : List Note) (y : Note) (n : List Note) → new_calls done ≡ length pre → protocol_story w (pre ++ tail) ≡ done ++ y ∷ n → NextNote w pre done y
next_like w pre tail done y n count e = by_way (story_forks w pre tail)
  where
    is_call : (c : Call) → call_in y.event ≡ Some c → call_in y.event ≡ None → ⊥
    is_call c e none = let bad : None ≡ Some c = sym none ∙ e in cc

    at_fork : (f : StoryForks tail (length pre) (protocol_story w (pre ++ tail)) (protocol_story w pre)) (r : List Note) → f.before ≡ done ++ r → NextNote w pre done y
    at_fork f [] b =
        let before : f.before ≡ done = b ∙ append-nil done in
        let first : protocol_story w pre ≡ done ++ f.here ∷ [] = f.first ∙ ap (λ (ns : List Note). ns ++ f.here ∷ []) before in
        let second : done ++ y ∷ n ≡ done ++ f.there ∷ f.more = sym e ∙ f.second ∙ ap (λ (ns : List Note). ns ++ f.there ∷ f.more) before in
        let same : y ≡ f.there = (front_same done n f.more y f.there second).0 in
        let event : y.event ≡ f.here.event = ap (λ (v : Note). v.event) same ∙ f.same.0 in
        (f.here, [], first, (event, ap (λ (v : Note). v.store) same ∙ f.same.1, λ none. absurd (is_call f.same.2 (ap call_in (event ∙ f.same.3)) none)))
    at_fork f (v ∷ r) b =
        let first : protocol_story w pre ≡ done ++ v ∷ (r ++ f.here ∷ []) = f.first ∙ ap (λ (ns : List Note). ns ++ f.here ∷ []) b ∙ append_assoc done (v ∷ r) (f.here ∷ []) in
        let second : done ++ y ∷ n ≡ done ++ v ∷ (r ++ f.there ∷ f.more) =
        sym e ∙ f.second ∙ ap (λ (ns : List Note). ns ++ f.there ∷ f.more) b ∙ append_assoc done (v ∷ r) (f.there ∷ f.more) in
        let same : y ≡ v = (front_same done n (r ++ f.there ∷ f.more) y v second).0 in
        (v, r ++ f.here ∷ [], first, (ap (λ (u : Note). u.event) same, ap (λ (u : Note). u.store) same, λ none. same))

    by_way : (protocol_story w (pre ++ tail) ≡ protocol_story w pre) ⊎ StoryForks tail (length pre) (protocol_story w (pre ++ tail)) (protocol_story w pre) → NextNote w pre done y
    by_way (inl same) = (y, n, sym same ∙ e, (refl, refl, λ none. refl))
    by_way (inr f) =
        let c = f.count in
        let r = begins_before done (y ∷ n) f.before f.more f.there f.same.2 (sym e ∙ f.second) (f.same.0 ∙ f.same.3) (omega arith) in
        at_fork f r.0 r.1

-- the next notes of two stories
pub next_same : (w : Program) (pre s t : List Outcome) (done : List Note) (x y : Note) (n m : List Note) → new_calls done ≡ length pre
    → protocol_story w (pre ++ s) ≡ done ++ x ∷ n → protocol_story w (pre ++ t) ≡ done ++ y ∷ m → Like x y
next_same w pre s t done x y n m count e f =
    let a = next_like w pre s done x n count e in
    let b = next_like w pre t done y m count f in
    let z : a.0 ≡ b.0 = (front_same done a.1 b.1 a.0 b.0 (sym a.2 ∙ b.2)).0 in
    let event : y.event ≡ x.event = b.3.0 ∙ ap (λ (u : Note). u.event) (sym z) ∙ sym a.3.0 in (
      event,
      b.3.1 ∙ ap (λ (u : Note). u.store) (sym z) ∙ sym a.3.1,
      λ none. b.3.2 none ∙ sym z ∙ sym (a.3.2 (ap call_in (sym event) ∙ none)),
    )

-- ---- behind a call

-- a call that has an outcome isn't the last note
pub more_behind : (w : Program) (pre os : List Outcome) (done : List Note) (x : Note) (c : Call) (n : List Note) → new_calls done ≡ length pre → protocol_story w (pre ++ os) ≡ done ++ x ∷ n
    → x.event ≡ called c
    → new_calls (x ∷ n) ≤ length os → (z : Note) × (zs : List Note) × (n ≡ z ∷ zs)
more_behind w pre os done x c (z ∷ zs) count e is few = (z, zs, refl)
more_behind w pre os done x c [] count e is few =
    let all = ap new_calls e ∙ calls_on done (x ∷ []) in
    let len = length-append pre os in
    let ends : Ends (done ++ x ∷ []) = story_ends_so w (pre ++ os) done x (omega arith) e in
    absurd (call_no_end x.event c is (end_is_last done x ends))

-- behind a call that is given an answer no fault follows
pub no_fault_behind : (w : Program) (pre os : List Outcome) (done : List Note) (x : Note) (c : Call) (n : List Note) (a : Answer) → new_calls done ≡ length pre
    → protocol_story w (pre ++ given a ∷ os) ≡ done ++ x ∷ n → x.event ≡ called c → Opens n
no_fault_behind w pre os done x c n a count e is = opens_behind pre os done x n c a count is (subst (Inner (pre ++ given a ∷ os)) e (story_fine w (pre ++ given a ∷ os)))

-- where a refusal tells something that its story without it doesn't, that end comes behind its call
refused_so : (w : Program) (pre os : List Outcome) (done : List Note) (y : Note) (c : Call) (n : List Note) (e : End) → new_calls done ≡ length pre
    → protocol_story w (pre ++ refused e ∷ os) ≡ done ++ y ∷ n → y.event ≡ called c → (protocol_story w (pre ++ refused e ∷ os) ≡ protocol_story w pre → ⊥)
    → (s : Store) × (zs : List Note) × (n ≡ note (ended e) s ∷ zs)
refused_so w pre os done y c n e count from is differs = by_way (story_forks w pre (refused e ∷ os))
  where
    at_fork : (f : StoryForks (refused e ∷ os) (length pre) (protocol_story w (pre ++ refused e ∷ os)) (protocol_story w pre)) (r : List Note) → f.before ≡ done ++ r
        → (s : Store) × (zs : List Note) × (n ≡ note (ended e) s ∷ zs)
    at_fork f [] b =
        let before : f.before ≡ done = b ∙ append-nil done in
        let second : done ++ y ∷ n ≡ done ++ f.there ∷ f.more = sym from ∙ f.second ∙ ap (λ (ns : List Note). ns ++ f.there ∷ f.more) before in
        let same : n ≡ f.more = (front_same done n f.more y f.there second).1 in
        (f.refusal.0, f.refusal.1, same ∙ f.refusal.2)
    at_fork f (v ∷ r) b =
        let second : done ++ y ∷ n ≡ done ++ v ∷ (r ++ f.there ∷ f.more) = sym from ∙ f.second ∙ ap (λ (ns : List Note). ns ++ f.there ∷ f.more) b ∙ append_assoc done (v ∷ r) (f.there ∷ f.more) in
        let same : y ≡ v = (front_same done n (r ++ f.there ∷ f.more) y v second).0 in
        let here : v.event ≡ called c = ap (λ (u : Note). u.event) (sym same) ∙ is in
        let all = ap new_calls b ∙ one_more done v c r here in
        let k = f.count in
        let no_way : ⊥ = omega (arith, all, k, count) in absurd no_way

    by_way : (protocol_story w (pre ++ refused e ∷ os) ≡ protocol_story w pre) ⊎ StoryForks (refused e ∷ os) (length pre) (protocol_story w (pre ++ refused e ∷ os)) (protocol_story w pre)
        → (s : Store) × (zs : List Note) × (n ≡ note (ended e) s ∷ zs)
    by_way (inl same) = absurd (differs same)
    by_way (inr f) =
        let k = f.count in
        let r = begins_before done (y ∷ n) f.before f.more f.there f.same.2 (sym from ∙ f.second) (f.same.0 ∙ f.same.3) (omega arith) in
        at_fork f r.0 r.1

-- behind a call that is refused comes that end
pub refusal_behind : (w : Program) (pre os : List Outcome) (done : List Note) (y : Note) (c : Call) (n : List Note) (e : End) → new_calls done ≡ length pre
    → protocol_story w (pre ++ refused e ∷ os) ≡ done ++ y ∷ n → y.event ≡ called c → new_calls (y ∷ n) ≤ length (refused e ∷ os)
    → (s : Store) × (zs : List Note) × (n ≡ note (ended e) s ∷ zs)
refusal_behind w pre os done y c n e count from is few = refused_so w pre os done y c n e count from is (λ same. standing same (story_counts w pre))
  where
    standing : protocol_story w (pre ++ refused e ∷ os) ≡ protocol_story w pre → (new_calls (protocol_story w pre) ≤ length pre) ⊎ Stands (length pre) (protocol_story w pre) → ⊥
    standing same (inl le) =
        let all = ap new_calls (sym same ∙ from) ∙ one_more done y c n is in
        omega (arith, all, le, count)
    standing same (inr s) =
        let all = ap new_calls from ∙ calls_on done (y ∷ n) in
        let len = length-append pre (refused e ∷ os) in
        let ends : Ends (s.before ++ s.last ∷ []) = story_ends_so w (pre ++ refused e ∷ os) s.before s.last (omega arith) (same ∙ s.split) in
        call_no_end s.last.event s.call s.is (end_is_last s.before s.last ends)

-- so it does where anything comes behind the call
pub refusal_next : (w : Program) (pre os : List Outcome) (done : List Note) (y : Note) (c : Call) (z : Note) (n : List Note) (e : End) → new_calls done ≡ length pre
    → protocol_story w (pre ++ refused e ∷ os) ≡ done ++ y ∷ z ∷ n → y.event ≡ called c → (s : Store) × (zs : List Note) × (z ∷ n ≡ note (ended e) s ∷ zs)
refusal_next w pre os done y c z n e count from is = refused_so w pre os done y c (z ∷ n) e count from is (λ same. standing same (story_counts w pre))
  where
    at_last : (s : Stands (length pre) (protocol_story w pre)) → protocol_story w (pre ++ refused e ∷ os) ≡ protocol_story w pre → (r : List Note) → s.before ≡ done ++ r → ⊥
    at_last s same [] b =
        let split : done ++ y ∷ z ∷ n ≡ done ++ s.last ∷ [] = sym from ∙ same ∙ s.split ∙ ap (λ (ns : List Note). ns ++ s.last ∷ []) (b ∙ append-nil done) in
        let none : z ∷ n ≡ [] = (front_same done (z ∷ n) [] y s.last split).1 in cc
    at_last s same (v ∷ r) b =
        let split : done ++ y ∷ z ∷ n ≡ done ++ v ∷ (r ++ s.last ∷ []) =
        sym from ∙ same ∙ s.split ∙ ap (λ (ns : List Note). ns ++ s.last ∷ []) b ∙ append_assoc done (v ∷ r) (s.last ∷ []) in
        let first : y ≡ v = (front_same done (z ∷ n) (r ++ s.last ∷ []) y v split).0 in
        let here : v.event ≡ called c = ap (λ (u : Note). u.event) (sym first) ∙ is in
        let all = ap new_calls b ∙ one_more done v c r here in
        let k = s.count in omega (arith, all, k, count)

    standing : protocol_story w (pre ++ refused e ∷ os) ≡ protocol_story w pre → (new_calls (protocol_story w pre) ≤ length pre) ⊎ Stands (length pre) (protocol_story w pre) → ⊥
    standing same (inl le) =
        let all = ap new_calls (sym same ∙ from) ∙ one_more done y c (z ∷ n) is in
        omega (arith, all, le, count)
    standing same (inr s) =
        let k = s.count in
        let r = begins_before done (y ∷ z ∷ n) s.before [] s.last s.call (sym from ∙ same ∙ s.split) s.is (omega (arith, k, count)) in
        at_last s same r.0 r.1

-- ---- one call in two runs

-- the first of these and of those tell a fault both or neither
abbrev pub FirstSame : List Note → List Note → Type 0
FirstSame (x ∷ xs) (y ∷ ys) = is_fault x.event ≡ is_fault y.event
FirstSame _ _ = Unit {0}

-- What a call meets in one of two runs, and what its story tells behind it.
pub record Met (w : Program) (c : Call) (lines : List AnswerLine) (ds ds' : List Device) (n : List Note) (o : Outcome) (left : List AnswerLine) (es : List Device) : Type 0 where
  pub meets : Meets w c.import c.args lines ds o left es
  pub grows : (name : List ℕ) → unwrap_or (slice_get w.binds c.import) None ≡ Some name → Grows name es ds'
  pub opens : (a : Answer) → o ≡ given a → Opens n
  pub fails : (e : End) → o ≡ refused e → (s : Store) × (zs : List Note) × (n ≡ note (ended e) s ∷ zs)
  pub some : (z : Note) × (zs : List Note) × (n ≡ z ∷ zs)

fault_apart : (i : ℕ) (s : Store) (n m zs : List Note) (z : Note) (us : List Note) → FirstSame n m → n ≡ z ∷ us → Opens n → m ≡ note (ended (DeviceFault i)) s ∷ zs → ⊥
fault_apart i s n m zs z us f some opens e =
    let g : FirstSame (z ∷ us) (note (ended (DeviceFault i)) s ∷ zs) = subst (λ (ms : List Note). FirstSame (z ∷ us) ms) e (subst (λ (ns : List Note). FirstSame ns m) some f) in
    let h : is_fault z.event ≡ false = subst Opens some opens in
    let bad : false ≡ true = sym h ∙ g in cc

first_back : (n m : List Note) → FirstSame n m → FirstSame m n
first_back [] [] h = tt
first_back [] (y ∷ m) h = tt
first_back (x ∷ n) [] h = tt
first_back (x ∷ n) (y ∷ m) h = sym h

pub same_met : (w : Program) (c : Call) (lines : List AnswerLine) (ds ds' : List Device) (n m : List Note) (o q : Outcome) (left left' : List AnswerLine) (es fs : List Device)
    → Met w c lines ds ds' n o left es → Met w c lines ds ds' m q left' fs
    → ((name : List ℕ) → unwrap_or (slice_get w.binds c.import) None ≡ Some name → FirstSame n m) → (o ≡ q) × (left ≡ left') × (es ≡ fs)
same_met w c lines ds ds' n m o q left left' es fs a b first = by_bound (unwrap_or (slice_get w.binds c.import) None) refl a.meets b.meets
  where
    device_same : (name : List ℕ) → unwrap_or (slice_get w.binds c.import) None ≡ Some name → (t : Bool) → list_any (is_named name) ds ≡ t
        → MatchBool t
        (Replied (name_at (base_names w.source) c.import) name c.args ds o es
        ⊎ ((o ≡ refused (DeviceFault c.import)) × (es ≡ ds)))
        ((o ≡ refused (NoDevice c.import)) × (es ≡ ds))
        → MatchBool t
        (Replied (name_at (base_names w.source) c.import) name c.args ds q fs
        ⊎ ((q ≡ refused (DeviceFault c.import)) × (fs ≡ ds)))
        ((q ≡ refused (NoDevice c.import)) × (fs ≡ ds))
        → (o ≡ q) × (es ≡ fs)
    device_same name bound true there (inl r) (inl s) =
        let gr : Grows name (journaled name (record { base = name_at (base_names w.source) c.import; args = c.args; reply = r.0 }) ds) ds' =
        subst (λ (x : List Device). Grows name x ds') r.4 (a.grows name bound) in
        let gs : Grows name (journaled name (record { base = name_at (base_names w.source) c.import; args = c.args; reply = s.0 }) ds) ds' =
        subst (λ (x : List Device). Grows name x ds') s.4 (b.grows name bound) in
        let same : r.0 ≡ s.0 = replies_same name (name_at (base_names w.source) c.import) c.args r.0 s.0 ds ds' there gr gs in (
          r.3 ∙ ap (λ (x : Reply). given (answer_of x)) same ∙ sym s.3,
          r.4 ∙ ap (λ (x : Reply). journaled name (record { base = name_at (base_names w.source) c.import; args = c.args; reply = x }) ds) same ∙ sym s.4,
        )
    device_same name bound true there (inl r) (inr s) =
        let f = b.fails (DeviceFault c.import) s.0 in
        absurd (fault_apart c.import f.0 n m f.1 a.some.0 a.some.1 (first name bound) a.some.2 (a.opens (answer_of r.0) r.3) f.2)
    device_same name bound true there (inr r) (inl s) =
        let f = a.fails (DeviceFault c.import) r.0 in
        absurd (fault_apart c.import f.0 m n f.1 b.some.0 b.some.1 (first_back n m (first name bound)) b.some.2 (b.opens (answer_of s.0) s.3) f.2)
    device_same name bound true there (inr r) (inr s) = (r.0 ∙ sym s.0, r.1 ∙ sym s.1)
    device_same name bound false there r s = (r.0 ∙ sym s.0, r.1 ∙ sym s.1)

    by_bound : (d : Option (List ℕ)) → unwrap_or (slice_get w.binds c.import) None ≡ d → MeetsBound w.source c.import c.args d lines ds o left es
        → MeetsBound w.source c.import c.args d lines ds q left' fs
        → (o ≡ q) × (left ≡ left') × (es ≡ fs)
    by_bound (Some name) e h k = let r = device_same name e (list_any (is_named name) ds) refl h.0 k.0 in (r.0, h.1 ∙ sym k.1, r.1)
    by_bound None e h k =
        let r = line_fixes c.import (name_at (import_names w.source) c.import) lines o q left left' h.0 k.0 in (r.1, r.0, h.1 ∙ sym k.1)
