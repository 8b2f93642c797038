-- What a section adds, by its id, and that nothing is built where its size or content can't be read.
use Rattle.std.proofs.Common.{◌≡◌, ◌⊎◌, inl, inr, ℕ, ◌+◌, List, [], ◌∷◌, ◌++◌, map, Option, Some, None, Result, Ok, Err, OnErr, refl, ap, sym, ◌∙◌, subst, arith}
use Rattle.std.specs.Prelude.{◌==◌, if◌then◌else◌}
use Rattle.wa_types.specs.declared.syntax.Custom.{Custom as CustomValue}
use Rattle.leb_numbers.specs.Leb.{IsUnsigned}
use Rattle.wa_types.specs.Binary.{Section, custom, types, imports, functions, tables, memories, globals, exports, start, elements, bodies, segments, section_id}
use Rattle.wa_types.specs.Syntax.{Func, Custom}
use Rattle.wa_types.specs.View.{custom_of}
use Rattle.wa_types.specs.Spells.{Exactly, Number, Filling, Sized, Vector, ContentOf, FunctionType, ImportOf, GlobalOf, ElementOf, BodyOf, SegmentOf}
use Rattle.wa_types.specs.Reading.{IsFuncType, IsImport, IsGlobal, IsElem, IsBody, IsSegment}
use Rattle.wasm_build.specs.declared.build_types.BuildFault.{BuildFault}
use Rattle.wasm_build.specs.declared.sections.Entries.{Entries}
use Rattle.wasm_build.specs.declared.sections.Entries.TheVariants.{Types, Imports, Functions, Tables, Memories, Globals, Exports, Elements, Segments}
use Rattle.wasm_grammar.specs.declared.front.NotSpelled.{NotSpelled}
use Rattle.wasm_grammar.specs.Places.{Place, with_more, ReadsNumber}
use Rattle.wasm_build.specs.Builds.{Between, SpelledOnto, Gives, Builds}
use Rattle.wasm_build.specs.BuildsSections.{SpelledFunc, SpelledCustom}
use Rattle.wasm_build.specs.BuildsModule.{State, Adds, SpelledStart, SpelledSingle}
use Rattle.wasm_build.specs.BuildsEntries.{id_of, AreOf, IsOther, Item, SpelledItem, with_items, SpelledEntry}
use Rattle.wasm_build.proofs.Betweens.{map_append, parts, behind_first, as_vector, number_is, number_fails, byte_is, no_byte, fails}
use Rattle.wasm_build.proofs.Steps.{never}

gives_by : {A X Y : Type 0} (view : A → X) (other : A → Y) (more : List ℕ) (new end : Place) (x : X) (y : Y) (r : Result A BuildFault) → ((a : A) → view a ≡ x → other a ≡ y)
    → Gives view more r x new end → Gives other more r y new end
gives_by view other more new end x y (Ok a) f g = (f a g.0, g.1)
gives_by view other more new end x y (Err e) f g = g

-- where a section's content begins
sized_parts : {P : ℕ → List ℕ → Type 0} (n : ℕ) (old here : Place) (more : List ℕ) (end : Place) → ReadsNumber (IsUnsigned 32) (Ok n) old here → Between (Sized P) (with_more old more) end
    → Between P (with_more here more) end
sized_parts {P = P} n old here more end r b =
    let h = b.spelled in
    let k = parts (Number h.0) (Filling h.0 P) (with_more old more) end (record { front = b.front; spelled = h.1; left = b.left; place = b.place }) in
    let m = number_is (IsUnsigned 32) n old here more k.middle h.0 r k.first in
    let rest = behind_first _ _ (with_more old more) end (with_more here more) k m.1 in
    record { front = rest.front; spelled = rest.spelled.1; left = rest.left; place = rest.place }

-- the state with these in the place of its entries
abbrev pub put_all : (k : Entries) → State → List (Item k) → State
put_all Types p xs = record p { held = record p.held { types = xs } }
put_all Imports p xs = record p { held = record p.held { imports = xs } }
put_all Functions p xs = record p { sorts = xs }
put_all Tables p xs = record p { held = record p.held { tables = xs } }
put_all Memories p xs = record p { held = record p.held { memories = xs } }
put_all Globals p xs = record p { held = record p.held { globals = xs } }
put_all Exports p xs = record p { held = record p.held { exports = xs } }
put_all Elements p xs = record p { held = record p.held { elems = xs } }
put_all Segments p xs = record p { held = record p.held { segments = xs } }

-- the entries of the section with an id
abbrev of_id : ℕ → Option Entries
of_id n =
    if n == 1 then Some Types
    else (if n == 2 then Some Imports
    else (if n == 3 then Some Functions
    else (if n == 4 then Some Tables
    else (if n == 5 then Some Memories
    else (if n == 6 then Some Globals
    else (if n == 7 then Some Exports
    else (if n == 9 then Some Elements
    else (if n == 11 then Some Segments
    else None))))))))

of_own : (k : Entries) → of_id (id_of k) ≡ Some k
of_own Types = refl
of_own Imports = refl
of_own Functions = refl
of_own Tables = refl
of_own Memories = refl
of_own Globals = refl
of_own Exports = refl
of_own Elements = refl
of_own Segments = refl

the_same : (j k : Entries) → Some j ≡ Some k → j ≡ k
the_same j k e = cc

no_kind : (k : Entries) → None ≡ Some k → ⊥
no_kind k e = cc

same_kind : (j k : Entries) → id_of j ≡ id_of k → j ≡ k
same_kind j k e = the_same j k (sym (of_own j) ∙ ap of_id e ∙ of_own k)

-- the entries of a section that is one vector
pub record VectorArm (k : Entries) (p q : State) (at : ℕ) (bytes : List ℕ) : Type 0 where
  pub xs : List (Item k)
  pub state : q ≡ with_items k (record p { last = id_of k }) xs
  pub sized : Sized (Vector (SpelledItem k) xs) at bytes

pub vector_arm : (k : Entries) (p : State) (s : Section) (q : State) (at : ℕ) (bytes : List ℕ) → section_id s ≡ id_of k → Adds s p q → Sized (ContentOf s) at bytes → VectorArm k p q at bytes
vector_arm k p (custom name content) q at bytes e a h = absurd (no_kind k (ap of_id e ∙ of_own k))
vector_arm k p (types ts) q at bytes e a h = subst (λ z. VectorArm z p q at bytes) (same_kind Types k e) (record {
  xs = a.0;
  state = a.2;
  sized = (h.0, (h.1.0, h.1.1, h.1.2, h.1.3, (h.1.4.0, as_vector FunctionType IsFuncType ts a.0 _ _ a.1 h.1.4.1)));
})
vector_arm k p (imports is) q at bytes e a h = subst (λ z. VectorArm z p q at bytes) (same_kind Imports k e) (record {
  xs = a.0;
  state = a.2;
  sized = (h.0, (h.1.0, h.1.1, h.1.2, h.1.3, (h.1.4.0, as_vector ImportOf IsImport is a.0 _ _ a.1 h.1.4.1)));
})
vector_arm k p (functions xs) q at bytes e a h = subst (λ z. VectorArm z p q at bytes) (same_kind Functions k e) (record { xs = xs; state = a; sized = h })
vector_arm k p (tables xs) q at bytes e a h = subst (λ z. VectorArm z p q at bytes) (same_kind Tables k e) (record { xs = xs; state = a; sized = h })
vector_arm k p (memories xs) q at bytes e a h = subst (λ z. VectorArm z p q at bytes) (same_kind Memories k e) (record { xs = xs; state = a; sized = h })
vector_arm k p (globals gs) q at bytes e a h = subst (λ z. VectorArm z p q at bytes) (same_kind Globals k e) (record {
  xs = a.0;
  state = a.2;
  sized = (h.0, (h.1.0, h.1.1, h.1.2, h.1.3, (h.1.4.0, as_vector GlobalOf IsGlobal gs a.0 _ _ a.1 h.1.4.1)));
})
vector_arm k p (exports xs) q at bytes e a h = subst (λ z. VectorArm z p q at bytes) (same_kind Exports k e) (record { xs = xs; state = a; sized = h })
vector_arm k p (start x) q at bytes e a h = absurd (no_kind k (ap of_id e ∙ of_own k))
vector_arm k p (elements es) q at bytes e a h = subst (λ z. VectorArm z p q at bytes) (same_kind Elements k e) (record {
  xs = a.0;
  state = a.2;
  sized = (h.0, (h.1.0, h.1.1, h.1.2, h.1.3, (h.1.4.0, as_vector ElementOf IsElem es a.0 _ _ a.1 h.1.4.1)));
})
vector_arm k p (bodies bs) q at bytes e a h = absurd (no_kind k (ap of_id e ∙ of_own k))
vector_arm k p (segments ss) q at bytes e a h = subst (λ z. VectorArm z p q at bytes) (same_kind Segments k e) (record {
  xs = a.0;
  state = a.2;
  sized = (h.0, (h.1.0, h.1.1, h.1.2, h.1.3, (h.1.4.0, as_vector SegmentOf IsSegment ss a.0 _ _ a.1 h.1.4.1)));
})

-- no other section
pub no_section : (s : Section) (id : ℕ) → section_id s ≡ id → IsOther id → AreOf None id → ⊥
no_section (custom name content) id e o n = o.not_custom (sym e)
no_section (start x) id e o n = o.not_start (sym e)
no_section (bodies bs) id e o n = o.not_code (sym e)
no_section (types ts) id e o n = n Types (sym e)
no_section (imports is) id e o n = n Imports (sym e)
no_section (functions xs) id e o n = n Functions (sym e)
no_section (tables xs) id e o n = n Tables (sym e)
no_section (memories xs) id e o n = n Memories (sym e)
no_section (globals gs) id e o n = n Globals (sym e)
no_section (exports xs) id e o n = n Exports (sym e)
no_section (elements es) id e o n = n Elements (sym e)
no_section (segments ss) id e o n = n Segments (sym e)

-- the code section
pub record Coded (p q : State) (at : ℕ) (bytes : List ℕ) : Type 0 where
  pub fs : List Func
  pub sorted : map (λ (f : Func). f.sort) fs ≡ p.sorts
  pub state : q ≡ record p { held = record p.held { funcs = p.held.funcs ++ fs }; last = 10 }
  pub sized : Sized (Vector SpelledFunc fs) at bytes

pub code_arm : (p : State) (s : Section) (q : State) (at : ℕ) (bytes : List ℕ) → section_id s ≡ 10 → Adds s p q → Sized (ContentOf s) at bytes → Coded p q at bytes
code_arm p (custom name content) q at bytes e a h = absurd (omega (arith, e))
code_arm p (types ts) q at bytes e a h = absurd (omega (arith, e))
code_arm p (imports is) q at bytes e a h = absurd (omega (arith, e))
code_arm p (functions xs) q at bytes e a h = absurd (omega (arith, e))
code_arm p (tables xs) q at bytes e a h = absurd (omega (arith, e))
code_arm p (memories xs) q at bytes e a h = absurd (omega (arith, e))
code_arm p (globals gs) q at bytes e a h = absurd (omega (arith, e))
code_arm p (exports xs) q at bytes e a h = absurd (omega (arith, e))
code_arm p (start x) q at bytes e a h = absurd (omega (arith, e))
code_arm p (elements es) q at bytes e a h = absurd (omega (arith, e))
code_arm p (bodies bs) q at bytes e a h = record {
  fs = a.0;
  sorted = a.2;
  state = a.3;
  sized = (h.0, (h.1.0, h.1.1, h.1.2, h.1.3, (h.1.4.0, as_vector BodyOf IsBody bs a.0 _ _ a.1 h.1.4.1)));
}
code_arm p (segments ss) q at bytes e a h = absurd (omega (arith, e))

-- one entry is put behind those that there are
pub entry_put : {A : Type 0} {old new : Place} {r : Result (Unit {0}) BuildFault} {kind : Entries} (k : Entries) (view : A → Item k) (before after : List A) (p whole : State) → kind ≡ k
    → Builds (λ (u : Unit {0}). map view after) (SpelledOnto (SpelledItem k) (map view before)) r old new → whole ≡ put_all k p (map view after)
    → ((x : Item k) → with_items k p (x ∷ []) ≡ put_all k p (map view before ++ x ∷ [])) → Builds (λ (u : Unit {0}). whole) (SpelledEntry kind p) r old new
entry_put {old = old} {new = new} {r = r} k view before after p whole same one is joined =
    subst (λ z. Builds (λ (u : Unit {0}). whole) (SpelledEntry z p) r old new) (sym same) (record {
      built = λ more q end b.
          let h = b.spelled in
          gives_by (λ (u : Unit {0}). map view after) (λ (u : Unit {0}). whole) more _ end (map view before ++ h.0 ∷ []) q r (λ u g. is ∙ ap (put_all k p) g ∙ sym (joined h.0) ∙ sym h.1)
          (one.built more (map view before ++ h.0 ∷ []) end (record { front = b.front; spelled = (h.0, refl, h.2); left = b.left; place = b.place }));
    })

pub kept_all : {A : Type 0} (k : Entries) (view : A → Item k) (p : State) (before after : List A) (r : Result (Unit {0}) BuildFault) → OnErr r (after ≡ before)
    → OnErr r (put_all k p (map view after) ≡ put_all k p (map view before))
kept_all k view p before after (Ok u) h = tt
kept_all k view p before after (Err d) h = ap (λ xs. put_all k p (map view xs)) h

pub kept_same : (k : Entries) (p : State) (before after : List (Item k)) (r : Result (Unit {0}) BuildFault) → OnErr r (after ≡ before) → OnErr r (put_all k p after ≡ put_all k p before)
kept_same k p before after (Ok u) h = tt
kept_same k p before after (Err d) h = ap (put_all k p) h

-- the start section
start_arm : (p q : State) (s : Section) (at : ℕ) (bytes : List ℕ) → section_id s ≡ 8 → Adds s p q → Sized (ContentOf s) at bytes → SpelledStart p q at bytes
start_arm p q (start x) at bytes e a h = (x, a, h)
start_arm p q (custom name content) at bytes e a h = absurd (omega (arith, e))
start_arm p q (types ts) at bytes e a h = absurd (omega (arith, e))
start_arm p q (imports is) at bytes e a h = absurd (omega (arith, e))
start_arm p q (functions xs) at bytes e a h = absurd (omega (arith, e))
start_arm p q (tables xs) at bytes e a h = absurd (omega (arith, e))
start_arm p q (memories xs) at bytes e a h = absurd (omega (arith, e))
start_arm p q (globals gs) at bytes e a h = absurd (omega (arith, e))
start_arm p q (exports xs) at bytes e a h = absurd (omega (arith, e))
start_arm p q (elements es) at bytes e a h = absurd (omega (arith, e))
start_arm p q (bodies bs) at bytes e a h = absurd (omega (arith, e))
start_arm p q (segments ss) at bytes e a h = absurd (omega (arith, e))

module _ {n : ℕ} {old : Place} (p whole : State) (here : Place) where
  pub start_built : {x : ℕ} (new : Place) → ReadsNumber (IsUnsigned 32) (Ok n) old here → ReadsNumber (IsUnsigned 32) (Ok x) here new
      → whole ≡ record p { held = record p.held { start = Some x }; last = 8 } → Builds (λ (u : Unit {0}). whole) (SpelledStart p) (Ok tt) old new
  start_built {x = x} new r m is = record {
    built = λ more q end b.
        let h = b.spelled in
        let c = sized_parts {P = Number h.0} n old here more end r (record { front = b.front; spelled = h.2; left = b.left; place = b.place }) in
        let g = number_is (IsUnsigned 32) x here new more end h.0 m c in
        (is ∙ ap (λ z. record p { held = record p.held { start = Some z }; last = 8 }) g.0 ∙ sym h.1, g.1);
  }

  pub start_stop : {d : NotSpelled} {y : BuildFault} {q : Result (Unit {0}) BuildFault} (last : Place) → q ≡ Err y → ReadsNumber (IsUnsigned 32) (Ok n) old here
      → ReadsNumber (IsUnsigned 32) (Err d) here here → Builds (λ (u : Unit {0}). whole) (SpelledStart p) q old last
  start_stop {d = d} last e r m = never e (λ more q end b none.
      let h = b.spelled in
      let c = sized_parts {P = Number h.0} n old here more end r (record { front = b.front; spelled = h.2; left = b.left; place = b.place }) in
      number_fails (IsUnsigned 32) d here here more end h.0 m c none)

pub start_unsized : {d : NotSpelled} {y : BuildFault} {old : Place} {q : Result (Unit {0}) BuildFault} (p whole : State) (last : Place) → q ≡ Err y → ReadsNumber (IsUnsigned 32) (Err d) old old
    → Builds (λ (u : Unit {0}). whole) (SpelledStart p) q old last
start_unsized {d = d} {old = old} p whole last e m = never e (λ more q end b none.
    let h = b.spelled in
    let z = h.2 in
    let k = parts (Number z.0) (Filling z.0 (Number h.0)) (with_more old more) end (record { front = b.front; spelled = z.1; left = b.left; place = b.place }) in
    number_fails (IsUnsigned 32) d old old more k.middle z.0 m k.first none)

-- a section behind its id
pub record Behind (p q : State) (id : ℕ) (here end : Place) : Type 0 where
  pub section : Section
  pub id_is : section_id section ≡ id
  pub single : (section_id section ≡ 0) ⊎ (section_id section ≡ 8)
  pub adds : Adds section p q
  pub between : Between (Sized (ContentOf section)) here end

pub behind_id : (p q : State) (id : ℕ) (old here : Place) (more : List ℕ) (end : Place) → old.left ≡ id ∷ here.left → here.at ≡ old.at + 1
    → Between (SpelledSingle p q) (with_more old more) end → Behind p q id (with_more here more) end
behind_id p q id old here more end e f b =
    let h = b.spelled in
    let k = parts (Exactly (section_id h.0 ∷ [])) (Sized (ContentOf h.0)) (with_more old more) end (record { front = b.front; spelled = h.3; left = b.left; place = b.place }) in
    let g = byte_is id (section_id h.0) (with_more old more) (with_more here more) k.middle (ap (λ z. z ++ more) e) f k.first in
    record { section = h.0; id_is = sym g.0; single = h.1; adds = h.2; between = behind_first _ _ (with_more old more) end (with_more here more) k g.1 }

the_start : (id n : ℕ) → n ≡ id → (id ≡ 0 → ⊥) → (n ≡ 0) ⊎ (n ≡ 8) → n ≡ 8
the_start id n e some (inl z) = absurd (some (sym e ∙ z))
the_start id n e some (inr z) = z

pub start_on : {id : ℕ} {p whole : State} {old here new : Place} {r : Result (Unit {0}) BuildFault} → old.left ≡ id ∷ here.left → here.at ≡ old.at + 1 → (id ≡ 0 → ⊥)
    → Builds (λ (u : Unit {0}). whole) (SpelledStart p) r here new → Builds (λ (u : Unit {0}). whole) (SpelledSingle p) r old new
start_on {id = id} {p = p} {old = old} {here = here} e f some r = record {
  built = λ more q end b.
      let k = behind_id p q id old here more end e f b in
      let c = k.between in
      r.built more q end (record {
        front = c.front;
        spelled = start_arm p q k.section here.at c.front (the_start id (section_id k.section) k.id_is some k.single) k.adds c.spelled;
        left = c.left;
        place = c.place;
      });
}

pub single_none : {p whole : State} {old last : Place} {y : BuildFault} {q : Result (Unit {0}) BuildFault} → q ≡ Err y → old.left ≡ [] → Builds (λ (u : Unit {0}). whole) (SpelledSingle p) q old last
single_none {old = old} e empty = never e (λ more q end b none.
    let h = b.spelled in
    let k = parts (Exactly (section_id h.0 ∷ [])) (Sized (ContentOf h.0)) (with_more old more) end (record { front = b.front; spelled = h.3; left = b.left; place = b.place }) in
    no_byte (section_id h.0) (with_more old more) k.middle (ap (λ z. z ++ more) empty ∙ none) k.first)

-- a custom section
pub record Customized (p q : State) (here end : Place) : Type 0 where
  pub custom_is : Custom
  pub state : q ≡ record p { held = record p.held { customs = p.held.customs ++ custom_is ∷ [] } }
  pub between : Between (SpelledCustom p.last custom_is) here end

custom_arm : (p q : State) (s : Section) (here end : Place) → section_id s ≡ 0 → Adds s p q → Between (Sized (ContentOf s)) here end → Customized p q here end
custom_arm p q (custom name content) here end e a b = record {
  custom_is = record { after = p.last; name = name; bytes = content };
  state = a;
  between = record { front = b.front; spelled = (refl, b.spelled); left = b.left; place = b.place };
}
custom_arm p q (types ts) here end e a b = absurd (omega (arith, e))
custom_arm p q (imports is) here end e a b = absurd (omega (arith, e))
custom_arm p q (functions xs) here end e a b = absurd (omega (arith, e))
custom_arm p q (tables xs) here end e a b = absurd (omega (arith, e))
custom_arm p q (memories xs) here end e a b = absurd (omega (arith, e))
custom_arm p q (globals gs) here end e a b = absurd (omega (arith, e))
custom_arm p q (exports xs) here end e a b = absurd (omega (arith, e))
custom_arm p q (start x) here end e a b = absurd (omega (arith, e))
custom_arm p q (elements es) here end e a b = absurd (omega (arith, e))
custom_arm p q (bodies bs) here end e a b = absurd (omega (arith, e))
custom_arm p q (segments ss) here end e a b = absurd (omega (arith, e))

pub customized : {id : ℕ} {old here : Place} (p q : State) (more : List ℕ) (end : Place) → old.left ≡ id ∷ here.left → here.at ≡ old.at + 1 → id ≡ 0
    → Between (SpelledSingle p q) (with_more old more) end → Customized p q (with_more here more) end
customized {id = id} {old = old} {here = here} p q more end e f none b =
    let k = behind_id p q id old here more end e f b in
    custom_arm p q k.section (with_more here more) end (k.id_is ∙ none) k.adds k.between

pub custom_stop : {id : ℕ} {old here new : Place} {d y : BuildFault} (p whole : State) (q : Result (Unit {0}) BuildFault) → old.left ≡ id ∷ here.left → here.at ≡ old.at + 1 → id ≡ 0
    → q ≡ Err y → y ≡ d → Builds custom_of (SpelledCustom p.last) (Err d) here new → Builds (λ (u : Unit {0}). whole) (SpelledSingle p) q old new
custom_stop p whole q e f none g h r = record {
  built = λ more z end b.
      let k = customized p z more end e f none b in
      fails (λ (u : Unit {0}). whole) more q z _ end _ _ g h (r.built more k.custom_is end k.between);
}

map_push : (xs : List CustomValue) (x : CustomValue) → map custom_of (xs ++ x ∷ []) ≡ map custom_of xs ++ custom_of x ∷ []
map_push xs x = map_append custom_of xs (x ∷ [])

pub custom_put : {id : ℕ} {old here new : Place} (p whole : State) (items more : List CustomValue) (c : CustomValue) → old.left ≡ id ∷ here.left → here.at ≡ old.at + 1 → id ≡ 0
    → Builds custom_of (SpelledCustom p.last) (Ok c) here new → more ≡ items ++ c ∷ [] → p.held.customs ≡ map custom_of items
    → whole ≡ record p { held = record p.held { customs = map custom_of more } } → Builds (λ (u : Unit {0}). whole) (SpelledSingle p) (Ok tt) old new
custom_put p whole items more c e f none r push customs is = record {
  built = λ tail z end b.
      let k = customized p z tail end e f none b in
      let g = r.built tail k.custom_is end k.between in
      let all : map custom_of more ≡ p.held.customs ++ k.custom_is ∷ [] = ap (map custom_of) push ∙ map_push items c ∙ ap (λ s. s ++ custom_of c ∷ []) (sym customs)
      ∙ ap (λ x. p.held.customs ++ x ∷ []) g.0 in
      (is ∙ ap (λ xs. record p { held = record p.held { customs = xs } }) all ∙ sym k.state, g.1);
}
