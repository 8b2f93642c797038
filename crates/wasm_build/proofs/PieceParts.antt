-- One step of building what comes: what is built stands at the front of the rest of the file, and the rest of that comes next.
use Rattle.std.proofs.Common.{◌≡◌, ◌⊎◌, inl, inr, ℕ, suc, ◌+◌, ◌-◌, ◌<◌, ◌≤◌, List, [], ◌∷◌, ◌++◌, map, Option, Some, None, Result, Ok, Err, refl, ap, sym, ◌∙◌, subst, arith, append_assoc, append-nil, length, length-append, length-take-le, take, drop, get_or, cond, Bool, true, false, nat_lt, ltb-true, ltb-false, add-zero, length-drop, IfSome}
use Rattle.leb_numbers.specs.Leb.{IsUnsigned}
use Rattle.std.proofs.lemmas.List.{take-append-drop, drop_more, drop_all, drop-drop}
use Rattle.wa_types.specs.declared.syntax.Func.{Func as FuncValue}
use Rattle.wa_types.specs.Binary.{Section as PlainSection, section_id}
use Rattle.wa_types.specs.Syntax.{Func, Module}
use Rattle.wa_types.specs.View.{func_of}
use Rattle.wa_types.specs.Spells.{◌▸◌, Items, Sized, Vector, ContentOf, SectionOf}
use Rattle.file_laws.proofs.Items.{same_cut}
use Rattle.wasm_grammar.specs.Places.{Place, with_more, place_at}
use Rattle.wasm_build.specs.declared.build_types.BuildFault.{BuildFault}
use Rattle.wasm_build.specs.declared.build_types.BuildFault.TheVariants.{Memory, NotSpelled}
use Rattle.wasm_build.specs.declared.builder.Builder.{Builder}
use Rattle.wasm_build.specs.declared.builder.Stage.{Stage}
use Rattle.wasm_build.specs.declared.builder.Stage.TheVariants.{Preamble, Section, Entry, Body}
use Rattle.wasm_build.specs.declared.entries.Body.{Body as BodyValue}
use Rattle.wasm_build.specs.declared.sections.Sections.{Sections}
use Rattle.wasm_build.specs.declared.sections.Entries.{Entries}
use Rattle.wasm_build.specs.declared.sections.Entries.TheVariants.{Types, Imports, Functions, Tables, Memories, Globals, Exports, Elements, Segments}
use Rattle.wasm_build.specs.Builds.{Between, Builds}
use Rattle.wasm_build.specs.BuildsModule.{State, state_of, nothing_yet, Adds, AddsAll, SpelledSingle, SpelledSections}
use Rattle.wasm_build.specs.BuildsSections.{SpelledBody, SpelledFunc, body_of}
use Rattle.wasm_build.specs.BuildsEntries.{id_of, AreOf, IsOther, Item, SpelledItem, with_items, SpelledEntry}
use Rattle.wasm_build.specs.BuildsPieces.{with_funcs, SpelledBodies, AheadOf, stage_behind, stage_before, Comes, Coming, Stepped, Steps, Taken, Takes}
use Rattle.wasm_build.specs.Extents.{Extent, NumberAt, NoNumberAt, EndsAt, NoEnd}
use Rattle.wasm_build.proofs.Betweens.{map_append, built_alone}
use Rattle.wasm_build.proofs.FuncParts.{plain_body, as_body}
use Rattle.wasm_build.proofs.ModuleSums.{module_adds}
use Rattle.wasm_build.proofs.SectionArms.{code_arm, vector_arm, no_section}

-- A front that ends within the bytes is cut off them.
record Cut (bytes more front behind : List ℕ) : Type 0 where
  taken : take (length front) bytes ≡ front
  left : drop (length front) bytes ++ more ≡ behind

cut : (bytes more front behind : List ℕ) → bytes ++ more ≡ front ++ behind → length front ≤ length bytes → Cut bytes more front behind
cut bytes more front behind e h =
    let k = length front in
    let s = same_cut (take k bytes) (drop k bytes ++ more) front behind
    (sym (append_assoc (take k bytes) (drop k bytes) more) ∙ ap (λ z. z ++ more) (take-append-drop k bytes) ∙ e) (length-take-le k bytes h) in
    record { taken = s.0; left = s.1 }

pub cut_at : (bytes more front behind : List ℕ) (k : ℕ) → bytes ++ more ≡ front ++ behind → k ≡ length front → k ≤ length bytes → drop k bytes ++ more ≡ behind
cut_at bytes more front behind k e f h =
    let c = cut bytes more front behind e (omega (arith, f, h)) in
    ap (λ n. drop n bytes ++ more) f ∙ c.left

some_same : (xs : List ℕ) → 1 ≤ length xs → xs ≡ get_or xs 0 0 ∷ drop 1 xs
some_same [] h = absurd (omega (arith, h))
some_same (x ∷ xs) h = refl

pub first_byte : (xs : List ℕ) → 1 ≤ length xs → xs ≡ get_or xs 0 0 ∷ drop 1 xs
first_byte xs h = some_same xs h

stepped_none : {d y : BuildFault} (new : Builder) (at : ℕ) (bytes more : List ℕ) (m : Module) (q : Result (Option ℕ) BuildFault) → q ≡ Err y → y ≡ d → d ≡ Memory → Stepped q new at bytes more m
stepped_none new at bytes more m q e f g =
    subst (λ z. Stepped z new at bytes more m) (sym e) (f ∙ g)

-- what comes, by the stage
ahead_of : (old : Builder) (stage : Stage) (m : Module) (at : ℕ) (bytes : List ℕ) → old.stage ≡ stage → (c : Comes old m at bytes) → AheadOf stage (state_of old.sections) c.sum at bytes
ahead_of old stage m at bytes e c = subst (λ z. AheadOf z (state_of old.sections) c.sum at bytes) e c.ahead

coming : (new : Builder) (stage : Stage) (p sum : State) (m : Module) (at : ℕ) (bytes : List ℕ) → new.stage ≡ stage → state_of new.sections ≡ p → sum.held ≡ m → AheadOf stage p sum at bytes
    → Comes new m at bytes
coming new stage p sum m at bytes e f is a = record {
  sum = sum;
  is = is;
  ahead = subst (λ z. AheadOf z (state_of new.sections) sum at bytes) (sym e) (subst (λ z. AheadOf stage z sum at bytes) (sym f) a);
}

-- nothing was built, and nothing is whole
waits : (old : Builder) (at : ℕ) (bytes : List ℕ) → ((m : Module) → Comes old m at (bytes ++ []) → ⊥) → Steps (Ok None) old old at bytes
waits old at bytes f = record {
  steps = λ more m c. (c, λ none. absurd (f m (subst (λ z. Comes old m at (bytes ++ z)) none c)));
}

-- the preamble
pub preamble_step : (old new : Builder) (at : ℕ) (bytes : List ℕ) → old.stage ≡ Preamble → 8 ≤ length bytes → new.stage ≡ Section → state_of new.sections ≡ state_of old.sections
    → Steps (Ok (Some 8)) old new at bytes
preamble_step old new at bytes e long next kept = record {
  steps = λ more m c.
      let a = ahead_of old Preamble m at (bytes ++ more) e c in
      let eight : 8 ≡ length a.0 = ap length (sym a.3) in
      coming new Section (state_of old.sections) c.sum m (at + 8) (drop 8 bytes ++ more) next kept c.is
      (subst (λ n. SpelledSections (state_of old.sections) c.sum (at + n) (drop 8 bytes ++ more)) (sym eight)
      (subst (SpelledSections (state_of old.sections) c.sum (at + length a.0)) (sym (cut_at bytes more a.0 a.1 8 a.2 eight long)) a.4));
}

pub preamble_waits : (old : Builder) (at : ℕ) (bytes : List ℕ) → old.stage ≡ Preamble → length bytes < 8 → Steps (Ok None) old old at bytes
preamble_waits old at bytes e short = waits old at bytes (λ m c.
    let a = ahead_of old Preamble m at (bytes ++ []) e c in
    let eight : 8 ≡ length a.0 = ap length (sym a.3) in
    omega (arith, short, eight, ap length a.2, ap length (append-nil bytes), length-append a.0 a.1))

-- no section is left of nothing
sections_none : (ss : List PlainSection) (p q : State) (at : ℕ) (bytes : List ℕ) → bytes ≡ [] → AddsAll ss p q → Items SectionOf ss at bytes → p ≡ q
sections_none [] p q at bytes e a b = a
sections_none (s ∷ ss) p q at bytes e a b =
    let z = b.3 in
    absurd (omega (arith, ap length e, ap length b.2, ap length z.2, ap length z.3, length-append b.0 b.1, length-append z.0 z.1))

no_byte : (xs : List ℕ) → length xs < 1 → xs ≡ []
no_byte [] h = refl
no_byte (x ∷ xs) h = absurd (omega (arith, h))

pub section_none : (old : Builder) (at : ℕ) (bytes : List ℕ) → old.stage ≡ Section → length bytes < 1 → Steps (Ok None) old old at bytes
section_none old at bytes e few = record {
  steps = λ more m c. (
    c,
    λ none.
        let empty = no_byte bytes few in
        let a = ahead_of old Section m at (bytes ++ more) e c in
        let nothing : bytes ++ more ≡ [] = ap (λ z. z ++ more) empty ∙ none in
        (empty, ap (λ z. z.held) (sections_none a.0 (state_of old.sections) c.sum at (bytes ++ more) nothing a.1 a.2) ∙ c.is),
  );
}

-- the section at the front
record First (p q : State) (at id : ℕ) (tail more : List ℕ) : Type 0 where
  section : PlainSection
  id_is : section_id section ≡ id
  after : State
  adds : Adds section p after
  content : List ℕ
  behind : List ℕ
  whole : tail ++ more ≡ content ++ behind
  sized : Sized (ContentOf section) (at + 1) content
  ahead : SpelledSections after q (at + 1 + length content) behind

first_in : (ss : List PlainSection) (p q : State) (at id : ℕ) (tail more all : List ℕ) → all ≡ id ∷ (tail ++ more) → AddsAll ss p q → Items SectionOf ss at all → First p q at id tail more
first_in [] p q at id tail more all e a b = absurd (omega (arith, ap length e, ap length b))
first_in (s ∷ ss) p q at id tail more all e a b =
    let z = b.3 in
    let front : b.0 ≡ section_id s ∷ z.1 = z.2 ∙ ap (λ w. w ++ z.1) z.3 in
    let whole : id ∷ (tail ++ more) ≡ section_id s ∷ (z.1 ++ b.1) = sym e ∙ b.2 ∙ ap (λ w. w ++ b.1) front in
    let one : length z.0 ≡ 1 = ap length z.3 in
    record {
      section = s;
      id_is = (let f : id ≡ section_id s = cc in sym f);
      after = a.0;
      adds = a.1;
      content = z.1;
      behind = b.1;
      whole = (let f : tail ++ more ≡ z.1 ++ b.1 = cc in f);
      sized = subst (λ n. Sized (ContentOf s) (at + n) z.1) one z.4;
      ahead = subst (λ n. SpelledSections a.0 q n b.1) (let k = ap length front in omega (arith, k)) (ss, a.2, b.4);
    }

first_section : (p q : State) (at id : ℕ) (bytes more : List ℕ) → bytes ≡ id ∷ drop 1 bytes → SpelledSections p q at (bytes ++ more) → First p q at id (drop 1 bytes) more
first_section p q at id bytes more e a = first_in a.0 p q at id (drop 1 bytes) more (bytes ++ more) (ap (λ z. z ++ more) e) a.1 a.2

extent_of : (P : ℕ → List ℕ → Type 0) (at k : ℕ) (bytes : List ℕ) → Sized P at bytes → Extent k bytes
extent_of P at k bytes h = let z = h.1 in (h.0, (z.0, z.1, z.2, z.3, (z.4.0, tt)))

-- a section of its own begins with one of these bytes
abbrev pub IsSingle : List ℕ → Type 0
IsSingle bytes = (bytes ≡ 0 ∷ drop 1 bytes) ⊎ (bytes ≡ 8 ∷ drop 1 bytes)

single_id : (bytes : List ℕ) → IsSingle bytes → (id : ℕ) × (bytes ≡ id ∷ drop 1 bytes) × ((id ≡ 0) ⊎ (id ≡ 8))
single_id bytes (inl e) = (0, e, inl refl)
single_id bytes (inr e) = (8, e, inr refl)

either_id : (n id : ℕ) → n ≡ id → (id ≡ 0) ⊎ (id ≡ 8) → (n ≡ 0) ⊎ (n ≡ 8)
either_id n id e (inl f) = inl (e ∙ f)
either_id n id e (inr f) = inr (e ∙ f)

pub single_waits : (old : Builder) (at : ℕ) (bytes : List ℕ) → old.stage ≡ Section → IsSingle bytes → NoEnd bytes 1 → Steps (Ok None) old old at bytes
single_waits old at bytes e one none = waits old at bytes (λ m c.
    let s = single_id bytes one in
    let f = first_section (state_of old.sections) c.sum at s.0 bytes [] s.1 (ahead_of old Section m at (bytes ++ []) e c) in
    none f.content f.behind 0 (sym (append-nil (drop 1 bytes)) ∙ f.whole) (extent_of (ContentOf f.section) (at + 1) 0 f.content f.sized))

-- where a section that ends there is spelled, and what is behind it
record SingleHere (p q : State) (at end : ℕ) (bytes more : List ℕ) (old : Place) : Type 0 where
  after : State
  to : Place
  between : Between (SpelledSingle p after) old to
  ahead : SpelledSections after q (at + end) (drop end bytes ++ more)

single_here : (p q : State) (at end : ℕ) (bytes more : List ℕ) (old : Place) → IsSingle bytes → EndsAt bytes 1 end → end ≤ length bytes
    → old ≡ place_at at (take end bytes) → SpelledSections p q at (bytes ++ more) → SingleHere p q at end bytes more old
single_here p q at end bytes more old one ends within place a =
    let s = single_id bytes one in
    let f = first_section p q at s.0 bytes more s.1 a in
    let k : end ≡ 1 + length f.content = ends more f.content f.behind 0 f.whole (extent_of (ContentOf f.section) (at + 1) 0 f.content f.sized) in
    let front : List ℕ = s.0 ∷ f.content in
    let len : end ≡ length front = omega (arith, k) in
    let whole : bytes ++ more ≡ front ++ f.behind = ap (λ z. z ++ more) s.1 ∙ ap (λ z. s.0 ∷ z) f.whole in
    let c = cut bytes more front f.behind whole (omega (arith, len, within)) in
    let taken : take end bytes ≡ front = ap (λ n. take n bytes) len ∙ c.taken in
    let left : drop end bytes ++ more ≡ f.behind = ap (λ n. drop n bytes ++ more) len ∙ c.left in
    let to : Place = record { at = at + end; left = [] } in
    let between : Between (SpelledSingle p f.after) (place_at at (take end bytes)) to =
    record {
      front = front;
      spelled = (f.section, either_id (section_id f.section) s.0 f.id_is s.2, f.adds, (s.0 ∷ [], f.content, refl, ap (λ z. z ∷ []) (sym f.id_is), f.sized));
      left = taken ∙ sym (append-nil front);
      place = omega (arith, len);
    } in
    record {
      after = f.after;
      to = to;
      between = subst (λ z. Between (SpelledSingle p f.after) z to) (sym place) between;
      ahead = subst (λ n. SpelledSections f.after q n (drop end bytes ++ more)) (let h : at + 1 + length f.content ≡ at + end = omega (arith, k) in h)
          (subst (SpelledSections f.after q (at + 1 + length f.content)) (sym left) f.ahead);
    }

-- a section that is built
pub single_built : {u : Unit {0}} (old new : Builder) (at end : ℕ) (bytes : List ℕ) (from here : Place) → old.stage ≡ Section → IsSingle bytes → EndsAt bytes 1 end → end ≤ length bytes
    → from ≡ place_at at (take end bytes) → Builds (λ (u : Unit {0}). state_of new.sections) (SpelledSingle (state_of old.sections)) (Ok u) from here → new.stage ≡ Section
    → Steps (Ok (Some end)) old new at bytes
single_built old new at end bytes from here e one ends within place built next = record {
  steps = λ more m c.
      let h = single_here (state_of old.sections) c.sum at end bytes more from one ends within place (ahead_of old Section m at (bytes ++ more) e c) in
      let g = built_alone h.after h.to built h.between in
      coming new Section h.after c.sum m (at + end) (drop end bytes ++ more) next g.0 c.is h.ahead;
}

pub single_lost : {d y : BuildFault} (old whole new : Builder) (at end : ℕ) (bytes : List ℕ) (from here : Place) (q : Result (Option ℕ) BuildFault) → old.stage ≡ Section → IsSingle bytes
    → EndsAt bytes 1 end → end ≤ length bytes → from ≡ place_at at (take end bytes) → q ≡ Err y → y ≡ d
    → Builds (λ (u : Unit {0}). state_of whole.sections) (SpelledSingle (state_of old.sections)) (Err d) from here → Steps q old new at bytes
single_lost old whole new at end bytes from here q e one ends within place f g built = record {
  steps = λ more m c.
      let h = single_here (state_of old.sections) c.sum at end bytes more from one ends within place (ahead_of old Section m at (bytes ++ more) e c) in
      stepped_none new at bytes more m q f g (built_alone h.after h.to built h.between refl);
}

-- no function, where none has a type
no_funcs : (fs : List Func) → map (λ (f : Func). f.sort) fs ≡ [] → fs ≡ []
no_funcs [] e = refl
no_funcs (f ∷ fs) e = absurd (omega (arith, ap length e))

with_none : (p : State) → with_funcs p [] ≡ p
with_none p = ap (λ z. record p { held = record p.held { funcs = z } }) (append-nil p.held.funcs)

-- of no entries only what stands behind them is left
none_left : {X : Type 0} (Spelled : X → ℕ → List ℕ → Type 0) (Behind : List X → ℕ → List ℕ → Type 0) (xs : List X) (at : ℕ) (bytes : List ℕ) → xs ≡ [] → (Items Spelled xs ▸ Behind xs) at bytes
    → Behind [] at bytes
none_left Spelled Behind xs at bytes none b =
    let nothing : b.0 ≡ [] = subst (λ z. Items Spelled z at b.0) none b.3 in
    let left : b.1 ≡ bytes = sym (b.2 ∙ ap (λ z. z ++ b.1) nothing) in
    let place : at + length b.0 ≡ at = omega (arith, ap length nothing) in
    subst (λ z. Behind z at bytes) none (subst (Behind xs at) left (subst (λ n. Behind xs n b.1) place b.4))

-- bodies and the sections behind them, as what comes behind so many bodies
bodies_ahead : (k : ℕ) (p q : State) (fs : List Func) (at : ℕ) (bytes : List ℕ) → map (λ (f : Func). f.sort) fs ≡ drop k p.sorts
    → (Items SpelledFunc fs ▸ SpelledSections (with_funcs p fs) q) at bytes → AheadOf (stage_behind k p.sorts) p q at bytes
bodies_ahead k p q fs at bytes sorted b = by_test (nat_lt k (length p.sorts)) refl where
  by_test : (t : Bool) → nat_lt k (length p.sorts) ≡ t → AheadOf (cond t (Body k) Section) p q at bytes
  by_test true e = (fs, ltb-true k (length p.sorts) e, sorted, b)
  by_test false e = subst (λ z. SpelledSections z q at bytes) (with_none p)
      (none_left SpelledFunc (λ xs. SpelledSections (with_funcs p xs) q) fs at bytes (no_funcs fs (sorted ∙ drop_all k p.sorts (ltb-false k (length p.sorts) e))) b)

-- no entries are added
with_no_items : (k : Entries) (p : State) → with_items k p [] ≡ p
with_no_items Types p = ap (λ z. record p { held = record p.held { types = z } }) (append-nil p.held.types)
with_no_items Imports p = ap (λ z. record p { held = record p.held { imports = z } }) (append-nil p.held.imports)
with_no_items Functions p = ap (λ z. record p { sorts = z }) (append-nil p.sorts)
with_no_items Tables p = ap (λ z. record p { held = record p.held { tables = z } }) (append-nil p.held.tables)
with_no_items Memories p = ap (λ z. record p { held = record p.held { memories = z } }) (append-nil p.held.memories)
with_no_items Globals p = ap (λ z. record p { held = record p.held { globals = z } }) (append-nil p.held.globals)
with_no_items Exports p = ap (λ z. record p { held = record p.held { exports = z } }) (append-nil p.held.exports)
with_no_items Elements p = ap (λ z. record p { held = record p.held { elems = z } }) (append-nil p.held.elems)
with_no_items Segments p = ap (λ z. record p { held = record p.held { segments = z } }) (append-nil p.held.segments)

-- those behind one are added behind it
with_more_items : (k : Entries) (p : State) (x : Item k) (xs : List (Item k)) → with_items k p (x ∷ xs) ≡ with_items k (with_items k p (x ∷ [])) xs
with_more_items Types p x xs = ap (λ z. record p { held = record p.held { types = z } }) (sym (append_assoc p.held.types (x ∷ []) xs))
with_more_items Imports p x xs = ap (λ z. record p { held = record p.held { imports = z } }) (sym (append_assoc p.held.imports (x ∷ []) xs))
with_more_items Functions p x xs = ap (λ z. record p { sorts = z }) (sym (append_assoc p.sorts (x ∷ []) xs))
with_more_items Tables p x xs = ap (λ z. record p { held = record p.held { tables = z } }) (sym (append_assoc p.held.tables (x ∷ []) xs))
with_more_items Memories p x xs = ap (λ z. record p { held = record p.held { memories = z } }) (sym (append_assoc p.held.memories (x ∷ []) xs))
with_more_items Globals p x xs = ap (λ z. record p { held = record p.held { globals = z } }) (sym (append_assoc p.held.globals (x ∷ []) xs))
with_more_items Exports p x xs = ap (λ z. record p { held = record p.held { exports = z } }) (sym (append_assoc p.held.exports (x ∷ []) xs))
with_more_items Elements p x xs = ap (λ z. record p { held = record p.held { elems = z } }) (sym (append_assoc p.held.elems (x ∷ []) xs))
with_more_items Segments p x xs = ap (λ z. record p { held = record p.held { segments = z } }) (sym (append_assoc p.held.segments (x ∷ []) xs))

no_item : {X : Type 0} (xs : List X) (n : ℕ) → length xs ≡ n → n ≤ 0 → xs ≡ []
no_item [] n e h = refl
no_item (x ∷ xs) n e h = absurd (omega (arith, e, h))

-- entries and the sections behind them, as what comes where so many entries are left
entries_ahead : (k : Entries) (n : ℕ) (p q : State) (xs : List (Item k)) (at : ℕ) (bytes : List ℕ) → length xs ≡ n
    → (Items (SpelledItem k) xs ▸ SpelledSections (with_items k p xs) q) at bytes → AheadOf (stage_before k n) p q at bytes
entries_ahead k n p q xs at bytes counted b = by_test (nat_lt 0 n) refl where
  by_test : (t : Bool) → nat_lt 0 n ≡ t → AheadOf (cond t (Entry k n) Section) p q at bytes
  by_test true e = (xs, ltb-true 0 n e, counted, b)
  by_test false e = subst (λ z. SpelledSections z q at bytes) (with_no_items k p)
      (none_left (SpelledItem k) (λ xs. SpelledSections (with_items k p xs) q) xs at bytes (no_item xs n counted (ltb-false 0 n e)) b)

-- what a section adds that is one vector, of which this is known
record Head {X : Type 0} (Spelled : X → ℕ → List ℕ → Type 0) (put : List X → State) (Known : List X → Type 0) (after : State) (at : ℕ) (bytes : List ℕ) : Type 0 where
  xs : List X
  known : Known xs
  state : after ≡ put xs
  sized : Sized (Vector Spelled xs) at bytes

-- that section at the front, from its size on
record HeadHere {X : Type 0} (Spelled : X → ℕ → List ℕ → Type 0) (put : List X → State) (Known : List X → Type 0) (q : State) (at id : ℕ) (bytes more : List ℕ) : Type 0 where
  xs : List X
  known : Known xs
  size : ℕ
  size_bytes : List ℕ
  count_bytes : List ℕ
  items : List ℕ
  behind : List ℕ
  is_size : IsUnsigned 32 size_bytes size
  is_count : IsUnsigned 32 count_bytes (length xs)
  whole : bytes ++ more ≡ id ∷ (size_bytes ++ (count_bytes ++ (items ++ behind)))
  spelled : Items Spelled xs (at + 1 + length size_bytes + length count_bytes) items
  ahead : SpelledSections (put xs) q (at + 1 + length size_bytes + length count_bytes + length items) behind

same_tail : (id : ℕ) (xs ys : List ℕ) → id ∷ xs ≡ id ∷ ys → xs ≡ ys
same_tail id xs ys e = (let p : xs ≡ ys = cc in p)

module _ {X : Type 0} (Spelled : X → ℕ → List ℕ → Type 0) (put : List X → State) (Known : List X → Type 0) (old : Builder) (id : ℕ)
    (arm : (s : PlainSection) (after : State) (at : ℕ) (bytes : List ℕ) → section_id s ≡ id → Adds s (state_of old.sections) after → Sized (ContentOf s) at bytes
    → Head Spelled put Known after at bytes) where
  head_here : (q : State) (at : ℕ) (bytes more : List ℕ) → bytes ≡ id ∷ drop 1 bytes → SpelledSections (state_of old.sections) q at (bytes ++ more) → HeadHere Spelled put Known q at id bytes more
  head_here q at bytes more e a =
      let f = first_section (state_of old.sections) q at id bytes more e a in
      let c = arm f.section f.after (at + 1) f.content f.id_is f.adds f.sized in
      let z = c.sized.1 in
      let v = z.4.1 in
      let inner : f.content ++ f.behind ≡ z.0 ++ (v.0 ++ (v.1 ++ f.behind)) =
      ap (λ w. w ++ f.behind) (z.2 ∙ ap (λ w. z.0 ++ w) v.2) ∙ append_assoc z.0 (v.0 ++ v.1) f.behind ∙ ap (λ w. z.0 ++ w) (append_assoc v.0 v.1 f.behind) in
      let place : at + 1 + length f.content ≡ at + 1 + length z.0 + length v.0 + length v.1 =
      omega (arith, ap length z.2, ap length v.2, length-append z.0 z.1, length-append v.0 v.1) in
      record {
        xs = c.xs;
        known = c.known;
        size = c.sized.0;
        size_bytes = z.0;
        count_bytes = v.0;
        items = v.1;
        behind = f.behind;
        is_size = z.3;
        is_count = v.3;
        whole = ap (λ w. w ++ more) e ∙ ap (λ w. id ∷ w) (f.whole ∙ inner);
        spelled = v.4;
        ahead = subst (λ n. SpelledSections (put c.xs) q n f.behind) place (subst (λ w. SpelledSections w q (at + 1 + length f.content) f.behind) c.state f.ahead);
      }

  -- what is left behind the first of some parts
  left_one : (q : State) (at : ℕ) (bytes more : List ℕ) → bytes ≡ id ∷ drop 1 bytes → (h : HeadHere Spelled put Known q at id bytes more)
      → drop 1 bytes ++ more ≡ h.size_bytes ++ (h.count_bytes ++ (h.items ++ h.behind))
  left_one q at bytes more e h =
      same_tail id (drop 1 bytes ++ more) (h.size_bytes ++ (h.count_bytes ++ (h.items ++ h.behind))) (sym (ap (λ w. w ++ more) e) ∙ h.whole)

  left_two : (q : State) (at place : ℕ) (bytes more : List ℕ) (h : HeadHere Spelled put Known q at id bytes more) → place ≡ 1 + length h.size_bytes → place ≤ length bytes
      → drop place bytes ++ more ≡ h.count_bytes ++ (h.items ++ h.behind)
  left_two q at place bytes more h e within = cut_at bytes more (id ∷ h.size_bytes) (h.count_bytes ++ (h.items ++ h.behind)) place h.whole (omega (arith, e)) within

  left_three : (q : State) (at place : ℕ) (bytes more : List ℕ) (h : HeadHere Spelled put Known q at id bytes more) → place ≡ 1 + length h.size_bytes + length h.count_bytes → place ≤ length bytes
      → drop place bytes ++ more ≡ h.items ++ h.behind
  left_three q at place bytes more h e within =
      cut_at bytes more ((id ∷ h.size_bytes) ++ h.count_bytes) (h.items ++ h.behind) place (h.whole ∙ sym (append_assoc (id ∷ h.size_bytes) h.count_bytes (h.items ++ h.behind)))
      (omega (arith, e, length-append (id ∷ h.size_bytes) h.count_bytes)) within

  head_step : (new : Builder) (stage : Stage) (p : State) (at size place count end : ℕ) (bytes : List ℕ) → old.stage ≡ Section → bytes ≡ id ∷ drop 1 bytes → NumberAt bytes 1 size place
      → NumberAt bytes place count end → end ≤ length bytes → new.stage ≡ stage → state_of new.sections ≡ p
      → ((xs : List X) (q : State) (n : ℕ) (rest : List ℕ) → Known xs → count ≡ length xs → (Items Spelled xs ▸ SpelledSections (put xs) q) n rest → AheadOf stage p q n rest)
      → Steps (Ok (Some end)) old new at bytes
  head_step new stage p at size place count end bytes e is first second within next state lead = record {
    steps = λ more m c.
        let h = head_here c.sum at bytes more is (ahead_of old Section m at (bytes ++ more) e c) in
        let n = first.is more h.size_bytes (h.count_bytes ++ (h.items ++ h.behind)) h.size (left_one c.sum at bytes more is h) h.is_size in
        let further = second.ahead in
        let two = left_two c.sum at place bytes more h n.1 (omega (arith, further, within)) in
        let k = second.is more h.count_bytes (h.items ++ h.behind) (length h.xs) two h.is_count in
        let far : end ≡ 1 + length h.size_bytes + length h.count_bytes = omega (arith, n.1, k.1) in
        let three = left_three c.sum at end bytes more h far within in
        let here : at + 1 + length h.size_bytes + length h.count_bytes ≡ at + end = omega (arith, far) in
        let items = subst (λ n. Items Spelled h.xs n h.items) here h.spelled in
        let sections = subst (λ n. SpelledSections (put h.xs) c.sum (n + length h.items) h.behind) here h.ahead in
        coming new stage p c.sum m (at + end) (drop end bytes ++ more) next state c.is
        (lead h.xs c.sum (at + end) (drop end bytes ++ more) h.known k.0 (h.items, h.behind, three, items, sections));
  }

  head_waits : (at : ℕ) (bytes : List ℕ) → old.stage ≡ Section → bytes ≡ id ∷ drop 1 bytes → NoNumberAt bytes 1 → Steps (Ok None) old old at bytes
  head_waits at bytes e is none = waits old at bytes (λ m c.
      let h = head_here c.sum at bytes [] is (ahead_of old Section m at (bytes ++ []) e c) in
      none h.size_bytes (h.count_bytes ++ (h.items ++ h.behind)) h.size (sym (append-nil (drop 1 bytes)) ∙ left_one c.sum at bytes [] is h) h.is_size)

  head_waits_on : (at size place : ℕ) (bytes : List ℕ) → old.stage ≡ Section → bytes ≡ id ∷ drop 1 bytes → NumberAt bytes 1 size place → place ≤ length bytes → NoNumberAt bytes place
      → Steps (Ok None) old old at bytes
  head_waits_on at size place bytes e is first within none = waits old at bytes (λ m c.
      let h = head_here c.sum at bytes [] is (ahead_of old Section m at (bytes ++ []) e c) in
      let n = first.is [] h.size_bytes (h.count_bytes ++ (h.items ++ h.behind)) h.size (left_one c.sum at bytes [] is h) h.is_size in
      none h.count_bytes (h.items ++ h.behind) (length h.xs) (sym (append-nil (drop place bytes)) ∙ left_two c.sum at place bytes [] h n.1 within) h.is_count)

-- the code section
abbrev put_code : State → List Func → State
put_code p fs = with_funcs (record p { last = 10 }) fs

abbrev AreSorted : State → List Func → Type 0
AreSorted p fs = map (λ (f : Func). f.sort) fs ≡ p.sorts

code_head : (p : State) (s : PlainSection) (after : State) (at : ℕ) (bytes : List ℕ) → section_id s ≡ 10 → Adds s p after → Sized (ContentOf s) at bytes
    → Head SpelledFunc (put_code p) (AreSorted p) after at bytes
code_head p s after at bytes e a h = let c = code_arm p s after at bytes e a h in record { xs = c.fs; known = c.sorted; state = c.state; sized = c.sized }

module _ (old : Builder) (at : ℕ) (bytes : List ℕ) (e : old.stage ≡ Section) (is : bytes ≡ 10 ∷ drop 1 bytes) where
  pub code_step : (new : Builder) (size place count end : ℕ) → NumberAt bytes 1 size place → NumberAt bytes place count end → end ≤ length bytes
      → new.stage ≡ stage_behind 0 old.sections.sorts.items → state_of new.sections ≡ record (state_of old.sections) { last = 10 } → Steps (Ok (Some end)) old new at bytes
  code_step new size place count end first second within next state =
      let p = state_of old.sections in
      head_step SpelledFunc (put_code p) (AreSorted p) old 10 (code_head p) new (stage_behind 0 old.sections.sorts.items) (record p { last = 10 }) at size place count end bytes e is first
      second within next state (λ fs q n rest sorted counted b. bodies_ahead 0 (record p { last = 10 }) q fs n rest sorted b)

  pub code_waits : NoNumberAt bytes 1 → Steps (Ok None) old old at bytes
  code_waits none = let p = state_of old.sections in head_waits SpelledFunc (put_code p) (AreSorted p) old 10 (code_head p) at bytes e is none

  pub count_waits : (size place : ℕ) → NumberAt bytes 1 size place → place ≤ length bytes → NoNumberAt bytes place → Steps (Ok None) old old at bytes
  count_waits size place first within none =
      let p = state_of old.sections in head_waits_on SpelledFunc (put_code p) (AreSorted p) old 10 (code_head p) at size place bytes e is first within none

-- a section that is one vector
abbrev put_vector : (k : Entries) → ℕ → State → List (Item k) → State
put_vector k id p xs = with_items k (record p { last = id }) xs

vector_head : (k : Entries) (id : ℕ) (p : State) → id ≡ id_of k → (s : PlainSection) (after : State) (at : ℕ) (bytes : List ℕ) → section_id s ≡ id → Adds s p after → Sized (ContentOf s) at bytes
    → Head (SpelledItem k) (put_vector k id p) (λ xs. Unit {0}) after at bytes
vector_head k id p same s after at bytes e a h =
    let c = vector_arm k p s after at bytes (e ∙ same) a h in
    record { xs = c.xs; known = tt; state = c.state ∙ ap (λ n. put_vector k n p c.xs) (sym same); sized = c.sized }

module _ (old : Builder) (at id : ℕ) (bytes : List ℕ) (e : old.stage ≡ Section) (is : bytes ≡ id ∷ drop 1 bytes) where
  -- the answer is by the kind that was found
  pub vector_step : {o : Option Entries} (k : Entries) (new : Builder) (size place count end : ℕ) → AreOf o id → o ≡ Some k → NumberAt bytes 1 size place → NumberAt bytes place count end
      → end ≤ length bytes → new.stage ≡ stage_before k count → state_of new.sections ≡ record (state_of old.sections) { last = id } → Steps (Ok (Some end)) old new at bytes
  vector_step {o = o} k new size place count end of found first second within next state =
      let p = state_of old.sections in
      let same : id ≡ id_of k = subst (λ z. AreOf z id) found of in
      head_step (SpelledItem k) (put_vector k id p) (λ xs. Unit {0}) old id (vector_head k id p same) new (stage_before k count) (record p { last = id }) at size place count end bytes e is first
      second within next state (λ xs q n rest known counted b. entries_ahead k count (record p { last = id }) q xs n rest (sym counted) b)

  pub vector_waits : {o : Option Entries} (k : Entries) → AreOf o id → o ≡ Some k → NoNumberAt bytes 1 → Steps (Ok None) old old at bytes
  vector_waits {o = o} k of found none =
      let p = state_of old.sections in
      let same : id ≡ id_of k = subst (λ z. AreOf z id) found of in
      head_waits (SpelledItem k) (put_vector k id p) (λ xs. Unit {0}) old id (vector_head k id p same) at bytes e is none

  pub vector_waits_on : {o : Option Entries} (k : Entries) (size place : ℕ) → AreOf o id → o ≡ Some k → NumberAt bytes 1 size place → place ≤ length bytes → NoNumberAt bytes place
      → Steps (Ok None) old old at bytes
  vector_waits_on {o = o} k size place of found first within none =
      let p = state_of old.sections in
      let same : id ≡ id_of k = subst (λ z. AreOf z id) found of in
      head_waits_on (SpelledItem k) (put_vector k id p) (λ xs. Unit {0}) old id (vector_head k id p same) at size place bytes e is first within none

  pub vector_none : {o : Option Entries} (new : Builder) (d : BuildFault) → IsOther id → AreOf o id → o ≡ None → Steps (Err d) old new at bytes
  vector_none {o = o} new d other of found = record {
    steps = λ more m c.
        let f = first_section (state_of old.sections) c.sum at id bytes more is (ahead_of old Section m at (bytes ++ more) e c) in
        let none : AreOf None id = subst (λ z. AreOf z id) found of in
        absurd (no_section f.section id f.id_is other none);
  }

-- the entry at the front, and what is behind it
record FirstItem (k : Entries) (n : ℕ) (p q : State) (at : ℕ) (all : List ℕ) : Type 0 where
  item : Item k
  rest : List (Item k)
  front : List ℕ
  items : List ℕ
  behind : List ℕ
  whole : all ≡ front ++ (items ++ behind)
  counted : length rest ≡ n - 1
  spelled : SpelledItem k item at front
  others : Items (SpelledItem k) rest (at + length front) items
  ahead : SpelledSections (with_items k p (item ∷ rest)) q (at + length front + length items) behind

item_first : (k : Entries) (n : ℕ) (p q : State) (at : ℕ) (all : List ℕ) (xs : List (Item k)) → 0 < n → length xs ≡ n
    → (Items (SpelledItem k) xs ▸ SpelledSections (with_items k p xs) q) at all → FirstItem k n p q at all
item_first k n p q at all [] some counted b = absurd (omega (arith, some, counted))
item_first k n p q at all (x ∷ xs) some counted b =
    let z = b.3 in
    record {
      item = x;
      rest = xs;
      front = z.0;
      items = z.1;
      behind = b.1;
      whole = b.2 ∙ ap (λ w. w ++ b.1) z.2 ∙ append_assoc z.0 z.1 b.1;
      counted = (let one : suc (length xs) ≡ n = counted in let less : length xs ≡ n - 1 = omega (arith, one) in less);
      spelled = z.3;
      others = z.4;
      ahead = subst (λ n. SpelledSections (with_items k p (x ∷ xs)) q n b.1)
          (let n : at + length b.0 ≡ at + length z.0 + length z.1 = omega (arith, ap length z.2, length-append z.0 z.1) in n) b.4;
    }

-- where it is spelled
entry_between : (k : Entries) (n : ℕ) (p q : State) (at : ℕ) (bytes more : List ℕ) (from : Place) → from ≡ place_at at bytes → (f : FirstItem k n p q at (bytes ++ more))
    → Between (SpelledEntry k p (with_items k p (f.item ∷ []))) (with_more from more) (record { at = at + length f.front; left = f.items ++ f.behind })
entry_between k n p q at bytes more from e f =
    subst (λ z. Between (SpelledEntry k p (with_items k p (f.item ∷ []))) (with_more z more) (record { at = at + length f.front; left = f.items ++ f.behind })) (sym e)
    (record { front = f.front; spelled = (f.item, refl, f.spelled); left = f.whole; place = refl })

module _ (old new : Builder) (k : Entries) (n at : ℕ) (bytes : List ℕ) (from here : Place) (e : old.stage ≡ Entry k n) (place : from ≡ place_at at bytes) where
  -- an entry that is built
  pub entry_built : {r : Result (Unit {0}) BuildFault} (u : Unit {0}) (used : ℕ) → r ≡ Ok u → Builds (λ (u : Unit {0}). state_of new.sections) (SpelledEntry k (state_of old.sections)) r from here
      → used ≡ length bytes - length here.left → length here.left ≤ length bytes → new.stage ≡ stage_before k (n - 1) → Steps (Ok (Some used)) old new at bytes
  entry_built {r = r} u used ok builds is_used within next = record {
    steps = λ more m c.
        let p = state_of old.sections in
        let a = ahead_of old (Entry k n) m at (bytes ++ more) e c in
        let f = item_first k n p c.sum at (bytes ++ more) a.0 a.1 a.2 a.3 in
        let built = subst (λ z. Builds (λ (u : Unit {0}). state_of new.sections) (SpelledEntry k p) z from here) ok builds in
        let g = built.built more (with_items k p (f.item ∷ [])) (record { at = at + length f.front; left = f.items ++ f.behind }) (entry_between k n p c.sum at bytes more from place f) in
        let left : here.left ++ more ≡ f.items ++ f.behind = ap (λ (z : Place). z.left) g.1 in
        let far : used ≡ length f.front =
        omega (arith, is_used, within, ap length left, ap length f.whole, length-append here.left more, length-append bytes more, length-append f.front (f.items ++ f.behind)) in
        let rest : drop used bytes ++ more ≡ f.items ++ f.behind = cut_at bytes more f.front (f.items ++ f.behind) used f.whole far (omega (arith, is_used)) in
        let there : at + length f.front ≡ at + used = omega (arith, far) in
        let others = subst (λ n. Items (SpelledItem k) f.rest n f.items) there f.others in
        let sections = subst (λ n. SpelledSections (with_items k p (f.item ∷ f.rest)) c.sum (n + length f.items) f.behind) there f.ahead in
        coming new (stage_before k (n - 1)) (with_items k p (f.item ∷ [])) c.sum m (at + used) (drop used bytes ++ more) next g.0 c.is
        (entries_ahead k (n - 1) (with_items k p (f.item ∷ [])) c.sum f.rest (at + used) (drop used bytes ++ more) f.counted
        (f.items, f.behind, rest, others, subst (λ z. SpelledSections z c.sum (at + used + length f.items) f.behind) (with_more_items k p f.item f.rest) sections));
  }

  -- an entry that isn't whole
  pub entry_waits : (whole : Builder) (d : BuildFault) → d ≡ NotSpelled → Builds (λ (u : Unit {0}). state_of whole.sections) (SpelledEntry k (state_of old.sections)) (Err d) from here
      → new.stage ≡ old.stage → state_of new.sections ≡ state_of old.sections → Steps (Ok None) old new at bytes
  entry_waits whole d lost builds stage kept = record {
    steps = λ more m c. (
      coming new old.stage (state_of old.sections) c.sum m at (bytes ++ more) stage kept c.is c.ahead,
      λ none.
          let p = state_of old.sections in
          let a = ahead_of old (Entry k n) m at (bytes ++ more) e c in
          let f = item_first k n p c.sum at (bytes ++ more) a.0 a.1 a.2 a.3 in
          absurd (not_memory (sym lost ∙ builds.built more (with_items k p (f.item ∷ [])) (record { at = at + length f.front; left = f.items ++ f.behind })
          (entry_between k n p c.sum at bytes more from place f) none)),
    );
  } where
    not_memory : NotSpelled ≡ Memory → ⊥
    not_memory x = cc

-- the body at the front, and what is behind it
record FirstBody (k : ℕ) (p q : State) (at : ℕ) (all : List ℕ) : Type 0 where
  func : Func
  funcs : List Func
  front : List ℕ
  items : List ℕ
  behind : List ℕ
  whole : all ≡ front ++ (items ++ behind)
  sort_is : func.sort ≡ get_or p.sorts k 0
  sorted : map (λ (f : Func). f.sort) funcs ≡ drop (k + 1) p.sorts
  body : SpelledFunc func at front
  others : Items SpelledFunc funcs (at + length front) items
  ahead : SpelledSections (with_funcs p (func ∷ funcs)) q (at + length front + length items) behind

body_first : (fs : List Func) (k : ℕ) (p q : State) (at : ℕ) (all : List ℕ) → k < length p.sorts → map (λ (f : Func). f.sort) fs ≡ drop k p.sorts
    → (Items SpelledFunc fs ▸ SpelledSections (with_funcs p fs) q) at all → FirstBody k p q at all
body_first [] k p q at all few sorted b = absurd (omega (arith, ap length (sorted ∙ drop_more p.sorts k 0 few)))
body_first (f ∷ fs) k p q at all few sorted b =
    let z = b.3 in
    let both : f.sort ∷ map (λ (f : Func). f.sort) fs ≡ get_or p.sorts k 0 ∷ drop (k + 1) p.sorts = sorted ∙ drop_more p.sorts k 0 few in
    record {
      func = f;
      funcs = fs;
      front = z.0;
      items = z.1;
      behind = b.1;
      whole = b.2 ∙ ap (λ w. w ++ b.1) z.2 ∙ append_assoc z.0 z.1 b.1;
      sort_is = (let e : f.sort ≡ get_or p.sorts k 0 = cc in e);
      sorted = (let e : map (λ (f : Func). f.sort) fs ≡ drop (k + 1) p.sorts = cc in e);
      body = z.3;
      others = z.4;
      ahead = subst (λ n. SpelledSections (with_funcs p (f ∷ fs)) q n b.1)
          (let n : at + length b.0 ≡ at + length z.0 + length z.1 = omega (arith, ap length z.2, length-append z.0 z.1) in n) b.4;
    }

body_extent : (f : Func) (at : ℕ) (bytes : List ℕ) → SpelledFunc f at bytes → Extent 0 bytes
body_extent f at bytes (raw, is, h) = (raw.size, (h.0, h.1, h.2, h.3, (h.4.0, tt)))

pub body_waits : (old : Builder) (k at : ℕ) (bytes : List ℕ) → old.stage ≡ Body k → NoEnd bytes 0 → Steps (Ok None) old old at bytes
body_waits old k at bytes e none = waits old at bytes (λ m c.
    let a = ahead_of old (Body k) m at (bytes ++ []) e c in
    let f = body_first a.0 k (state_of old.sections) c.sum at (bytes ++ []) a.1 a.2 a.3 in
    none f.front (f.items ++ f.behind) 0 (sym (append-nil bytes) ∙ f.whole) (body_extent f.func at f.front f.body))

pub no_type : {q : Result (Option ℕ) BuildFault} (old new : Builder) (k at : ℕ) (bytes : List ℕ) → old.stage ≡ Body k → length old.sections.sorts.items ≤ k → Steps q old new at bytes
no_type old new k at bytes e many = record {
  steps = λ more m c.
      let a = ahead_of old (Body k) m at (bytes ++ more) e c in
      absurd (let few = a.1 in omega (arith, few, many));
}

-- where a body that ends there is spelled
record BodyHere (s : Sections) (q : State) (k at end : ℕ) (bytes more : List ℕ) (old : Place) : Type 0 where
  body : FirstBody k (state_of s) q at (bytes ++ more)
  to : Place
  between : Between (SpelledBody (plain_body body.func)) old to
  far : end ≡ length body.front
  left : drop end bytes ++ more ≡ body.items ++ body.behind

body_here : (s : Sections) (q : State) (k at end : ℕ) (bytes more : List ℕ) (old : Place) → EndsAt bytes 0 end → end ≤ length bytes → old ≡ place_at at (take end bytes)
    → SpelledBodies k (state_of s) q at (bytes ++ more) → BodyHere s q k at end bytes more old
body_here s q k at end bytes more old ends within place a =
    let f = body_first a.0 k (state_of s) q at (bytes ++ more) a.1 a.2 a.3 in
    let far : end ≡ 0 + length f.front = ends more f.front (f.items ++ f.behind) 0 f.whole (body_extent f.func at f.front f.body) in
    let len : end ≡ length f.front = omega (arith, far) in
    let c = cut bytes more f.front (f.items ++ f.behind) f.whole (omega (arith, len, within)) in
    let taken : take end bytes ≡ f.front = ap (λ n. take n bytes) len ∙ c.taken in
    let to : Place = record { at = at + end; left = [] } in
    let between : Between (SpelledBody (plain_body f.func)) (place_at at (take end bytes)) to =
    record { front = f.front; spelled = as_body f.func at f.front f.body; left = taken ∙ sym (append-nil f.front); place = omega (arith, len) } in
    record {
      body = f;
      to = to;
      between = subst (λ z. Between (SpelledBody (plain_body f.func)) z to) (sym place) between;
      far = len;
      left = ap (λ n. drop n bytes ++ more) len ∙ c.left;
    }

more_funcs : (p : State) (f : Func) (fs : List Func) → with_funcs p (f ∷ fs) ≡ with_funcs (with_funcs p (f ∷ [])) fs
more_funcs p f fs = ap (λ z. record p { held = record p.held { funcs = z } }) (sym (append_assoc p.held.funcs (f ∷ []) fs))

map_push : (xs : List FuncValue) (x : FuncValue) → map func_of (xs ++ x ∷ []) ≡ map func_of xs ++ func_of x ∷ []
map_push xs x = map_append func_of xs (x ∷ [])

-- a body that is built
pub body_built : (old new : Builder) (k at end sort : ℕ) (bytes : List ℕ) (from here : Place) (b : BodyValue) (items : List FuncValue) → old.stage ≡ Body k → EndsAt bytes 0 end
    → end ≤ length bytes → from ≡ place_at at (take end bytes) → Builds body_of SpelledBody (Ok b) from here → sort ≡ get_or old.sections.sorts.items k 0
    → items ≡ old.sections.module.funcs.items ++ (record { sort = sort; locals = b.locals; body = b.code }) ∷ []
    → state_of new.sections ≡ record (state_of old.sections) { held = record (state_of old.sections).held { funcs = map func_of items } }
    → new.stage ≡ stage_behind (k + 1) old.sections.sorts.items → Steps (Ok (Some end)) old new at bytes
body_built old new k at end sort bytes from here b items e ends within place built sort_is pushed is next = record {
  steps = λ more m c.
      let s = old.sections in
      let p = state_of s in
      let a = ahead_of old (Body k) m at (bytes ++ more) e c in
      let h = body_here s c.sum k at end bytes more from ends within place a in
      let f = h.body in
      let g = built_alone (plain_body f.func) h.to built h.between in
      let v : FuncValue = record { sort = sort; locals = b.locals; body = b.code } in
      let same : func_of v ≡ f.func = λ i. record { sort = (sort_is ∙ sym f.sort_is) i; locals = (g.0 i).locals; body = (g.0 i).code } in
      let all : map func_of items ≡ p.held.funcs ++ f.func ∷ [] = ap (map func_of) pushed ∙ map_push s.module.funcs.items v ∙ ap (λ z. map func_of s.module.funcs.items ++ z ∷ []) same in
      let state : state_of new.sections ≡ with_funcs p (f.func ∷ []) = is ∙ ap (λ z. record p { held = record p.held { funcs = z } }) all in
      let far = h.far in
      let there : at + length f.front ≡ at + end = omega (arith, far) in
      let others = subst (λ n. Items SpelledFunc f.funcs n f.items) there f.others in
      let sections = subst (λ n. SpelledSections (with_funcs p (f.func ∷ f.funcs)) c.sum (n + length f.items) f.behind) there f.ahead in
      let q = with_funcs p (f.func ∷ []) in
      coming new (stage_behind (k + 1) s.sorts.items) q c.sum m (at + end) (drop end bytes ++ more) next state c.is
      (bodies_ahead (k + 1) q c.sum f.funcs (at + end) (drop end bytes ++ more) f.sorted
      (f.items, f.behind, h.left, others, subst (λ z. SpelledSections z c.sum (at + end + length f.items) f.behind) (more_funcs p f.func f.funcs) sections));
}

pub body_lost : {d y : BuildFault} (old new : Builder) (k at end : ℕ) (bytes : List ℕ) (from here : Place) (q : Result (Option ℕ) BuildFault) → old.stage ≡ Body k
    → EndsAt bytes 0 end → end ≤ length bytes → from ≡ place_at at (take end bytes) → q ≡ Err y → y ≡ d → Builds body_of SpelledBody (Err d) from here → Steps q old new at bytes
body_lost old new k at end bytes from here q e ends within place f g built = record {
  steps = λ more m c.
      let a = ahead_of old (Body k) m at (bytes ++ more) e c in
      let h = body_here old.sections c.sum k at end bytes more from ends within place a in
      stepped_none new at bytes more m q f g (built_alone (plain_body h.body.func) h.to built h.between refl);
}

pub memory_lost : {y : BuildFault} (old new : Builder) (at : ℕ) (bytes : List ℕ) (q : Result (Option ℕ) BuildFault) → q ≡ Err y → y ≡ Memory → Steps q old new at bytes
memory_lost old new at bytes q f g = record { steps = λ more m c. stepped_none new at bytes more m q f g refl }

-- at the first byte
pub comes_first : (new : Builder) → new.stage ≡ Preamble → state_of new.sections ≡ nothing_yet → Coming new
comes_first new e f = λ bytes m h.
    let a = module_adds h.sections m h.spells.order h.is_module in
    let b = h.spells.parts in
    coming new Preamble nothing_yet a.after m 0 bytes e f a.is (b.0, b.1, b.2, b.3, (h.sections, a.adds, b.4))

-- whatever stands for an item that isn't there
pub same_item : (xs : List ℕ) (i a b : ℕ) → i < length xs → get_or xs i a ≡ get_or xs i b
same_item xs i a b h =
    let e : get_or xs i a ∷ drop (i + 1) xs ≡ get_or xs i b ∷ drop (i + 1) xs = sym (drop_more xs i a h) ∙ drop_more xs i b h in
    let f : get_or xs i a ≡ get_or xs i b = cc in f

pub step_fits : (bytes slice : List ℕ) (used n : ℕ) (o : Option ℕ) → o ≡ Some n → slice ≡ drop used bytes → used ≤ length bytes → IfSome o (λ n. (0 < n) × (n ≤ length slice))
    → used + n ≤ length bytes
step_fits bytes slice used n o e f v w =
    let h = subst (λ z. IfSome z (λ n. (0 < n) × (n ≤ length slice))) e w in
    omega (arith, h.1, ap length f, length-drop used bytes, v)

-- What comes behind so many bytes of those that come.
abbrev pub ComesBehind : (old new : Builder) (at used : ℕ) (bytes : List ℕ) → Type 0
ComesBehind old new at used bytes = (more : List ℕ) (m : Module) → Comes old m at (bytes ++ more) → Comes new m (at + used) (drop used bytes ++ more)

pub takes_none : (old : Builder) (at : ℕ) (bytes : List ℕ) → ComesBehind old old at 0 bytes
takes_none old at bytes = λ more m c. subst (λ n. Comes old m n (bytes ++ more)) (sym (add-zero at)) c

module _ (old mid new : Builder) (at used : ℕ) where
  pub takes_more : (n : ℕ) (bytes slice : List ℕ) (o : Option ℕ) → o ≡ Some n → slice ≡ drop used bytes → ComesBehind old mid at used bytes → Steps (Ok o) mid new (at + used) slice
      → ComesBehind old new at (used + n) bytes
  takes_more n bytes slice o e f before step = λ more m c.
      let b = subst (λ z. Comes mid m (at + used) (z ++ more)) (sym f) (before more m c) in
      let g = subst (λ z. Stepped (Ok z) new (at + used) slice more m) e (step.steps more m b) in
      let left : drop n slice ≡ drop (used + n) bytes = ap (drop n) f ∙ drop-drop n used bytes in
      subst (λ k. Comes new m k (drop (used + n) bytes ++ more)) (let k : at + used + n ≡ at + (used + n) = omega arith in k)
      (subst (λ z. Comes new m (at + used + n) (z ++ more)) left g)

  pub takes_all : (bytes slice : List ℕ) (o : Option ℕ) → o ≡ None → slice ≡ drop used bytes → ComesBehind old mid at used bytes → Steps (Ok o) mid new (at + used) slice
      → Takes (Ok used) old new at bytes
  takes_all bytes slice o e f before step = record {
    takes = λ more m c.
        let b = subst (λ z. Comes mid m (at + used) (z ++ more)) (sym f) (before more m c) in
        let g = subst (λ z. Stepped (Ok z) new (at + used) slice more m) e (step.steps more m b) in (
          subst (λ z. Comes new m (at + used) (z ++ more)) f g.0,
          λ none. let h = g.1 none in (sym f ∙ h.0, h.1),
        );
  }

  pub takes_lost : {d y : BuildFault} (bytes slice : List ℕ) (q : Result ℕ BuildFault) → q ≡ Err y → y ≡ d → slice ≡ drop used bytes → ComesBehind old mid at used bytes
      → Steps (Err d) mid new (at + used) slice → Takes q old new at bytes
  takes_lost bytes slice q e g f before step = record {
    takes = λ more m c.
        let b = subst (λ z. Comes mid m (at + used) (z ++ more)) (sym f) (before more m c) in
        subst (λ z. Taken z new at bytes more m) (sym e) (g ∙ step.steps more m b);
  }
