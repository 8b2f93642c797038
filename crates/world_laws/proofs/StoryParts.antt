-- What a story begins with, whatever outcomes stand behind those that its calls have met.
use Rattle.std.proofs.Common.{arith, ◌≡◌, ◌≤◌, ◌⊎◌, inl, inr, List, [], ◌∷◌, ◌++◌, length, true, false, refl, sym, ap, ◌∙◌, subst, append_assoc, append-nil, length-append}
use Rattle.wa_model.specs.Outside.{Call, Event, called}
use Rattle.wa_model.specs.Plan.{Outcome}
use Rattle.wa_model.specs.Blocking.{Note}
use Rattle.wa_model.specs.Protocol.{Held, free, starting, busy, calling, aside, entering, over}
use Rattle.wa_model.specs.Machine.{Ran}
use Rattle.world_model.specs.World.{Program, call_in, is_end, told_by, unless_over, protocol_story}
use Rattle.world_laws.specs.Originals.{one_if, new_calls}
use Rattle.world_laws.proofs.Counting.{Ends, ends_on, stands_calls, Tells, calls_on}
use Rattle.world_laws.proofs.Tails.{Empty, StoryForks, Told, run_of, run_tells, story_forks, story_or}

-- A story whose calls have outcomes ends, unless nothing is to come.
pub story_ends : (w : Program) (os : List Outcome) → new_calls (protocol_story w os) ≤ length os → (protocol_story w os ≡ []) ⊎ Ends (protocol_story w os)
story_ends w os few = by (story_or w)
  where
    by_last : (es : List Note) (h : Held) → Tells (length os) es h → new_calls (es ++ unless_over w.steps h) ≤ length os → Ends (es ++ unless_over w.steps h)
    by_last es (free s l) t le = ends_on es (unless_over w.steps (free s l)) t.0 refl
    by_last es (starting f s l) t le = ends_on es (unless_over w.steps (starting f s l)) t.0 refl
    by_last es (busy ph c l) t le = ends_on es (unless_over w.steps (busy ph c l)) t.0 refl
    by_last es (calling ph s f args th l) t le = ends_on es (unless_over w.steps (calling ph s f args th l)) t.0 refl
    by_last es (aside ph c th l) t le = ends_on es (unless_over w.steps (aside ph c th l)) t.0 refl
    by_last es (entering ph e s l) t le = ends_on es (unless_over w.steps (entering ph e s l)) t.0 refl
    by_last es (over s) (inl t) le = subst Ends (sym (append-nil es)) t.0
    by_last es (over s) (inr t) le =
        let z = stands_calls (length os) es t in
        let a = calls_on es [] in
        let no_way : ⊥ = omega arith in absurd no_way

    by : Empty (protocol_story w) ⊎ Told w (protocol_story w) → (protocol_story w os ≡ []) ⊎ Ends (protocol_story w os)
    by (inl none) = inl (none os)
    by (inr t) =
        let r : Ran Held Note = run_of w t os in
        let le : new_calls (told_by w.steps r) ≤ length os = subst (λ (xs : List Note). new_calls xs ≤ length os) (t.told os) few in
        inr (subst Ends (sym (t.told os)) (by_last r.events r.last (run_tells w t os) le))

-- one of which some note is known to be the last
pub story_ends_so : (w : Program) (os : List Outcome) (front : List Note) (x : Note) → new_calls (protocol_story w os) ≤ length os → protocol_story w os ≡ front ++ x ∷ [] → Ends (front ++ x ∷ [])
story_ends_so w os front x few e = by (story_ends w os few)
  where
    by : (protocol_story w os ≡ []) ⊎ Ends (protocol_story w os) → Ends (front ++ x ∷ [])
    by (inl none) =
        let a = ap length (sym none ∙ e) in
        let b = length-append front (x ∷ []) in
        let no_way : ⊥ = omega arith in absurd no_way
    by (inr h) = subst Ends e h

pub end_is_last : (xs : List Note) (y : Note) → Ends (xs ++ y ∷ []) → is_end y.event ≡ true
end_is_last [] y h = h
end_is_last (x ∷ []) y h = h.1
end_is_last (x ∷ z ∷ xs) y h = end_is_last (z ∷ xs) y h.1

pub call_no_end : (e : Event) (c : Call) → e ≡ called c → is_end e ≡ true → ⊥
call_no_end e c is h = let z : is_end e ≡ false = ap is_end is in let bad : true ≡ false = sym h ∙ z in cc

-- ---- lists

note_head : (x y : Note) (xs ys : List Note) → x ∷ xs ≡ y ∷ ys → x ≡ y
note_head x y xs ys e = cc

note_tail : (x y : Note) (xs ys : List Note) → x ∷ xs ≡ y ∷ ys → xs ≡ ys
note_tail x y xs ys e = cc

-- notes that make no more calls than those before a call begin these
pub begins_before : (xs zs ys us : List Note) (y : Note) (c : Call) → xs ++ zs ≡ ys ++ y ∷ us → y.event ≡ called c → new_calls xs ≤ new_calls ys → (r : List Note) × (ys ≡ xs ++ r)
begins_before [] zs ys us y c e is le = (ys, refl)
begins_before (x ∷ xs) zs [] us y c e is le =
    let same : x ≡ y = note_head x y (xs ++ zs) us e in
    let one : one_if (call_in x.event) ≡ 1 = ap (λ (n : Note). one_if (call_in n.event)) same ∙ ap (λ (v : Event). one_if (call_in v)) is in
    let no_way : ⊥ = omega arith in absurd no_way
begins_before (x ∷ xs) zs (v ∷ ys) us y c e is le =
    let same : x ≡ v = note_head x v (xs ++ zs) (ys ++ y ∷ us) e in
    let one : one_if (call_in x.event) ≡ one_if (call_in v.event) = ap (λ (n : Note). one_if (call_in n.event)) same in
    let on = begins_before xs zs ys us y c (note_tail x v (xs ++ zs) (ys ++ y ∷ us) e) is (omega arith) in
    (on.0, ap (λ (n : Note). n ∷ ys) (sym same) ∙ ap (λ (ns : List Note). x ∷ ns) on.1)

-- ---- beginnings

abbrev pub Begins : Program → List Outcome → List Note → Type 0
Begins w os done = (rest : List Note) × (protocol_story w os ≡ done ++ rest)

-- with the outcomes that the calls of its beginning have met alone
begins_alone : (w : Program) (pre tail : List Outcome) (done : List Note) → new_calls done ≡ length pre → Begins w (pre ++ tail) done → Begins w pre done
begins_alone w pre tail done count b = by_way (story_forks w pre tail)
  where
    by_way : (protocol_story w (pre ++ tail) ≡ protocol_story w pre) ⊎ StoryForks tail (length pre) (protocol_story w (pre ++ tail)) (protocol_story w pre) → Begins w pre done
    by_way (inl same) = (b.0, sym same ∙ b.1)
    by_way (inr f) =
        let n = f.count in
        let r = begins_before done b.0 f.before f.more f.there f.same.2 (sym b.1 ∙ f.second) (f.same.0 ∙ f.same.3) (omega arith) in
        (r.0 ++ f.here ∷ [], f.first ∙ ap (λ (ns : List Note). ns ++ f.here ∷ []) r.1 ∙ append_assoc done r.0 (f.here ∷ []))

-- and so with any others
pub begins_any : (w : Program) (pre tail other : List Outcome) (done : List Note) → new_calls done ≡ length pre → Begins w (pre ++ tail) done → Begins w (pre ++ other) done
begins_any w pre tail other done count b = by_way (begins_alone w pre tail done count b) (story_forks w pre other)
  where
    by_way : Begins w pre done → (protocol_story w (pre ++ other) ≡ protocol_story w pre) ⊎ StoryForks other (length pre) (protocol_story w (pre ++ other)) (protocol_story w pre)
        → Begins w (pre ++ other) done
    by_way a (inl same) = (a.0, same ∙ a.1)
    by_way a (inr f) =
        let n = f.count in
        let r = begins_before done a.0 f.before [] f.here f.same.2 (sym a.1 ∙ f.first) f.same.3 (omega arith) in
        (r.0 ++ f.there ∷ f.more, f.second ∙ ap (λ (ns : List Note). ns ++ f.there ∷ f.more) r.1 ∙ append_assoc done r.0 (f.there ∷ f.more))
